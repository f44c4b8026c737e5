-- The history that is shown in place of a verdict.
use Rattle.std.proofs.Common.{◌≡◌, ℕ, suc, ◌<◌, ◌⊎◌, ◌==◌, ◌&&◌, ◌||◌, nat_lt, Bool, true, false, List, [], ◌∷◌, ◌++◌, Option, None, Some, inl, inr, refl, sym, subst, ap, ◌∙◌, length, slice_get, arith}
use Rattle.std.proofs.lemmas.Option.{same_Some}
use Rattle.std.specs.List.{list_any}
use Rattle.std.proofs.lemmas.Bool.{eqb-true}
use Rattle.std.specs.Prelude.{IfSome}
use Rattle.history_book.specs.declared.item.Item.{Item}
use Rattle.history_text.specs.Text.{printed}
use Rattle.trace_rules.specs.declared.trace.Transaction.{Transaction}
use Rattle.trace_rules.specs.declared.wanted.Level.{Level}
use Rattle.trace_rules.specs.declared.wanted.Level.TheVariants.{Snapshot, Serializable}
use Rattle.trace_rules.specs.declared.wanted.Times.{Times}
use Rattle.trace_rules.specs.declared.wanted.Wanted.{Wanted}
use Rattle.trace_rules.specs.declared.wanted.Wanted.TheVariants.{Nothing, Sessions, RealTime}
use Rattle.trace_rules.specs.Serial.{owner}
use Rattle.trace_rules.specs.Stamping.{IsolatedBy, Keeps, Point, Start, Commit, Stamping, stamp_of}
use Rattle.trace_rules.specs.Trace.{Trace, Done, committed_in}
use Rattle.trace_rules.specs.Wants.{asked_of, in_time, moments_of, of_done, of_one_process}
use Rattle.version_ranks.specs.declared.rank.Rank.{Rank}
use Rattle.version_ranks.specs.Ranks.{asked_with, by_rank, is_lower}
use Rattle.trace_index.specs.Numbers.{AreDone}
use Rattle.trace_items.specs.Items.{KeysDiffer, InOrder, Telling, history_of}
use Rattle.trace_items.proofs.Isolates.{isolated, serial}
use Rattle.trace_items.proofs.Along.{place_of, taken}
use Rattle.trace_items.proofs.Ranks.{ranks_isolate, ranks_order}
use Rattle.list_ranks.specs.declared.wrong.WrongList.{WrongList}
use Rattle.list_ranks.specs.Wrong.{IsWrong}
use Rattle.list_ranks.proofs.LawLemmas.{kept_both, kept_first, kept_second}
use Rattle.trace_report.specs.Lists.{flaw_name, wrong_list_text}
use Rattle.trace_report.specs.Verdict.{refused_text}
use Rattle.trace_judge.specs.Verdicts.{IsTried}
use Rattle.asked_orders.specs.Keeps.{stamping_of}
use Rattle.stamped_history.specs.declared.limits.Limit.{Limit}
use Rattle.stamped_history.specs.Told.{IsHistory}
use Rattle.omid_check_top.specs.Findings.{HasNumbers, NotAsAsked}
use Rattle.omid_check_top.specs.Subject.{Subject}
use Rattle.omid_check_top.proofs.FindingLemmas.{as_asked}
use Rattle.omid_check_top.specs.Verdicts.{AreStamped, IsPrinted, IsSerialAt, IsShown, limit_text, open_text, wrong_text}

pub is_printed : (level : Level) (trace : Trace) (numbers : List ℕ) (names : List (List ℕ)) (items : List Item) (text : List ℕ) → IsHistory level trace numbers names items → text ≡ printed items → IsPrinted level trace numbers names text
is_printed level trace numbers names items text is told = record { items = items; is = is; told = told }

-- ---- an order that is asked for is one of committed transactions' points
both : (a b : Bool) → a && b ≡ true → (a ≡ true) × (b ≡ true)
both true b e = (refl, e)
both false b e = absurd (cc)

done_of : (trace : Trace) (x : Point) → of_done trace x ≡ true → Done trace (owner x)
done_of trace (Start t) e = e
done_of trace (Commit t) e = e

one_process : (a b : Option Transaction) → of_one_process a b ≡ true → (committed_in a ≡ true) × (committed_in b ≡ true)
one_process None b e = absurd (cc)
one_process (Some a) None e = absurd (cc)
one_process (Some a) (Some b) e = both a.committed b.committed (both (a.committed && b.committed) (a.process == b.process) e).0

asked_done : (wanted : Wanted) (level : Level) (times : List Times) (trace : Trace) (x y : Point) → asked_of wanted level times trace x y ≡ true → Done trace (owner x) × Done trace (owner y)
asked_done Nothing level times trace x y e = absurd (cc)
asked_done Sessions level times trace (Start t) y e = absurd (cc)
asked_done Sessions level times trace (Commit t) (Commit u) e = absurd (cc)
asked_done Sessions level times trace (Commit t) (Start u) e = one_process (slice_get trace.transactions t) (slice_get trace.transactions u) (both (nat_lt t u) (of_one_process (slice_get trace.transactions t) (slice_get trace.transactions u)) e).1
asked_done RealTime level times trace x y e =
    let first = both (of_done trace x) (of_done trace y) (both (of_done trace x && of_done trace y) (in_time (moments_of level times) x y) e).0 in
    (done_of trace x first.0, done_of trace y first.1)

either_of : (a b : Bool) → a || b ≡ true → (a ≡ true) ⊎ (b ≡ true)
either_of true b e = inl refl
either_of false b e = inr e

found_by : (p : Rank → Bool) (xs : List Rank) → list_any p xs ≡ true → (i : ℕ) × (x : Rank) × (slice_get xs i ≡ Some x) × (p x ≡ true)
found_by p [] e = absurd (cc)
found_by p (x ∷ xs) e = elim (either_of (p x) (list_any p xs) e) [
  | inl here ↦ (0, x, refl, here)
  | inr behind ↦ let r = found_by p xs behind in (suc r.0, r.1, r.2, r.3)
]

-- so is one of ranks of committed transactions
ranks_done : (trace : Trace) (ranks : List Rank) (x y : Point) → AreDone trace.transactions ranks → by_rank ranks x y ≡ true → Done trace (owner x) × Done trace (owner y)
ranks_done trace ranks (Start t) y all e = absurd (cc)
ranks_done trace ranks (Commit t) (Commit u) all e = absurd (cc)
ranks_done trace ranks (Commit t) (Start u) all e =
    let one = found_by (λ a. (a.txn == t) && list_any (λ b. (b.txn == u) && is_lower a b) ranks) ranks e in
    let parts = both (one.1.txn == t) (list_any (λ b. (b.txn == u) && is_lower one.1 b) ranks) one.3 in
    let two = found_by (λ b. (b.txn == u) && is_lower one.1 b) ranks parts.1 in
    let more = both (two.1.txn == u) (is_lower one.1 two.1) two.3 in
    (subst (λ (n : ℕ). Done trace n) (eqb-true one.1.txn t parts.0) (all one.0 one.1 one.2), subst (λ (n : ℕ). Done trace n) (eqb-true two.1.txn u more.0) (all two.0 two.1 two.2))

told_done : (wanted : Wanted) (level : Level) (times : List Times) (ranks : List Rank) (trace : Trace) (x y : Point) → AreDone trace.transactions ranks → asked_with wanted level times ranks trace x y ≡ true → Done trace (owner x) × Done trace (owner y)
told_done wanted level times ranks trace x y all e = elim (either_of (by_rank ranks x y) (asked_of wanted level times trace x y) e) [
  | inl told ↦ ranks_done trace ranks x y all told
  | inr asked ↦ asked_done wanted level times trace x y asked
]

-- stamps in whose order the same points stand lie in one order
same_way : (st other : Stamping) (trace : Trace) (points : List Point) → InOrder st trace points → InOrder other trace points → (x y : Point) → Done trace (owner x) → Done trace (owner y) → stamp_of st x < stamp_of st y → stamp_of other x < stamp_of other y
same_way st other trace points order also x y dx dy less =
    let p = place_of x points (order.all x dx) in
    let q = place_of y points (order.all y dy) in
    elim (compare p.0 q.0) [
      | inl low ↦ also.rises.at q.0 y q.1 x (taken x points p.0 q.0 p.1 low)
      | inr rest ↦ elim rest [
        | inl same ↦ absurd (one_point (same_Some _ _ (sym p.1 ∙ ap (λ (n : ℕ). slice_get points n) same ∙ q.1)))
        | inr more ↦ let over : stamp_of st y < stamp_of st x = order.rises.at p.0 x p.1 y (taken y points q.0 p.0 q.1 more) in absurd (omega (arith, less, over))
      ]
    ]
  where
    one_point : x ≡ y → ⊥
    one_point same = let equal = ap (λ (z : Point). stamp_of st z) same in absurd (omega (arith, less, equal))

    compare : (a b : ℕ) → (a < b) ⊎ ((a ≡ b) ⊎ (b < a))
    compare a b = grind arith

-- ---- the history
serial_at : (level : Level) (st : Stamping) (tell : Telling) (trace : Trace) (points : List Point) → KeysDiffer tell → InOrder st trace points → IsolatedBy level st trace → IsSerialAt level (history_of st tell trace points)
serial_at Snapshot st tell trace points keys order is = tt
serial_at Serializable st tell trace points keys order is = serial st tell trace points keys order is

pub has_stamps : (level : Level) (wanted : Wanted) (s : Subject) (numbers : List ℕ) (code : ℕ) (text : List ℕ) → AreDone s.trace.transactions s.ranks → HasNumbers level wanted s numbers → IsPrinted level s.trace numbers s.names text → code ≡ 0 → AreStamped level wanted s code text
has_stamps level wanted s numbers code text all has is zero =
    let h = is.is in
    let stamps = has.stamps in
    let st = stamping_of level (length s.trace.transactions) numbers in
    let order = ranks_order st h.ranks s.trace h.points h.order h.ranked in
    let isolates = ranks_isolate st h.ranks s.trace h.points h.order h.ranked level stamps.isolated in
    let every : AreDone s.trace.transactions has.ranks = has.told.done all in
    let keeps : Keeps (asked_with wanted level s.times has.ranks s.trace) h.ranks =
    λ x y asked. let done = told_done wanted level s.times has.ranks s.trace x y every asked in same_way st h.ranks s.trace h.points h.order order x y done.0 done.1 (stamps.keeps x y asked) in
    let by_lists = kept_first (by_rank has.ranks) (asked_of wanted level s.times s.trace) h.ranks keeps in
    inl (record {
      st = h.ranks;
      points = h.points;
      tell = h.tell;
      stamped = isolates;
      keeps = kept_both (by_rank s.ranks) (asked_of wanted level s.times s.trace) h.ranks (has.told.fewer h.ranks by_lists) (kept_second (by_rank has.ranks) (asked_of wanted level s.times s.trace) h.ranks keeps);
      sees = has.told.sees level h.ranks isolates by_lists;
      order = order;
      counted = h.ranked;
      keys = h.keys;
      values = h.values;
      isolated = isolated level h.ranks h.tell s.trace h.points h.keys order isolates;
      serial = serial_at level h.ranks h.tell s.trace h.points h.keys order isolates;
      status = zero;
      told = subst (λ (l : List Item). text ≡ printed l) h.told is.told;
    })

pub is_unfit : (level : Level) (wanted : Wanted) (s : Subject) (numbers : List ℕ) (limit : Limit) (code : ℕ) (text : List ℕ) → HasNumbers level wanted s numbers → code ≡ 9 → text ≡ limit_text limit → AreStamped level wanted s code text
is_unfit level wanted s numbers limit code text has nine told = inr (inl (record { holds = as_asked level wanted s numbers has; limit = limit; status = nine; told = told }))

-- ---- no stamps
module _ (level : Level) (wanted : Wanted) (s : Subject) (code : ℕ) (text : List ℕ) where
  pub not_stamped : NotAsAsked level wanted s → code ≡ 7 → IsShown level wanted s text → AreStamped level wanted s code text
  not_stamped none seven told = inr (inr (inl (record { refused = none; status = seven; told = told })))

  pub wrong_not_stamped : (place : ℕ) → NotAsAsked level wanted s → code ≡ 7 → text ≡ wrong_text level wanted s place → AreStamped level wanted s code text
  wrong_not_stamped place none seven told = inr (inr (inr (inl (record { place = place; refused = none; status = seven; told = told }))))

  pub open_not_stamped : (key : Option ℕ) → IfSome key (λ k. IsTried s.trace k) → code ≡ 8 → text ≡ open_text s.names key → AreStamped level wanted s code text
  open_not_stamped key tried eight told = inr (inr (inr (inr (inl (record { key = key; tried = tried; status = eight; told = told })))))

  pub list_not_stamped : (wrong : WrongList) → IsWrong s.trace s.listed s.lists wrong × NotAsAsked level wanted s → code ≡ 7 → text ≡ refused_text level wanted (flaw_name wrong.flaw) ++ wrong_list_text s.names s.attempts wrong → AreStamped level wanted s code text
  list_not_stamped wrong both seven told = inr (inr (inr (inr (inr (record { list = wrong; wrong = both.0; refused = both.1; status = seven; told = told })))))
