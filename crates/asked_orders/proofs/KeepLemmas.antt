-- Why numbers that rise keep the order that is asked for.
use Rattle.std.proofs.Common.{◌≡◌, ◌≢◌, ℕ, zero, suc, ◌+◌, ◌*◌, ◌<◌, ◌≤◌, ◌==◌, ◌&&◌, ◌⊎◌, nat_lt, Bool, true, false, List, [], ◌∷◌, Option, None, Some, length, slice_get, get_or, inl, inr, refl, sym, subst, ap, ◌∙◌, arith}
use Rattle.std.proofs.lemmas.Bool.{eqb-true}
use Rattle.std.proofs.lemmas.Option.{same_Some, slice_get_within, slice_get-get_or, get_or_from_slice_get}
use Rattle.trace_rules.specs.declared.trace.Operation.{Operation}
use Rattle.trace_rules.specs.declared.trace.Transaction.{Transaction}
use Rattle.trace_rules.specs.declared.wanted.Level.{Level}
use Rattle.trace_rules.specs.declared.wanted.Level.TheVariants.{Snapshot, Serializable}
use Rattle.trace_rules.specs.declared.wanted.Times.{Times}
use Rattle.trace_rules.specs.Trace.{Trace, Done, committed_in}
use Rattle.trace_rules.specs.Stamping.{Point, Start, Commit, stamp_of, Keeps}
use Rattle.trace_rules.specs.Wants.{Moments, in_time, is_under, moments_of, of_done, of_one_process, real_time, sessions}
use Rattle.outer_reads.specs.Sources.{trace_of}
use Rattle.stamp_check.specs.Orders.{places_of, stamps_of}
use Rattle.stamp_check.proofs.StampLemmas.{spread_less, done_within}
use Rattle.trace_edges.specs.Edges.{starts_of}
use Rattle.asked_orders.specs.declared.plan.Turn.{Turn}
use Rattle.asked_orders.specs.Keeps.{stamping_of, HaveTurns, TurnRises, TurnsRise, NextRises, MomentsRise, UnderMoment, AboveMoment, IsUnder, IsAbove, IsTimed, ArePointsTimed, AreTimed}

compare : (a b : ℕ) → (a < b) ⊎ ((a ≡ b) ⊎ (b < a))
compare a b = grind arith

one_more : (n : ℕ) → n + 1 ≡ suc n
one_more n = omega arith

pub one_less : (n m : ℕ) → n < m + 1 → (n < m) ⊎ (n ≡ m)
one_less n m less = grind (arith, less)

lower_of : (a b : ℕ) → nat_lt a b ≡ true → a < b
lower_of a b e = grind (arith, e)

-- ---- sessions
turn_before : (xs : List Turn) (p : ℕ) (u : Turn) → slice_get xs (suc p) ≡ Some u → (x : Turn) × (slice_get xs p ≡ Some x)
turn_before [] p u e = absurd (cc)
turn_before (x ∷ xs) zero u e = (x, refl)
turn_before (x ∷ xs) (suc p) u e = turn_before xs p u e

abbrev turn_of : ℕ → ℕ → Turn
turn_of process t = record { process = process; txn = t }

-- a turn that stands further on
record ComesAfter (starts : ℕ) (numbers : List ℕ) (a b : Turn) : Type 0 where
  processes : a.process ≤ b.process
  later : a.process ≡ b.process → a.txn < b.txn
  rises : a.process ≡ b.process → get_or numbers (starts + a.txn) 0 < get_or numbers b.txn 0

module _ (starts : ℕ) (numbers : List ℕ) (turns : List Turn) (rising : TurnsRise starts numbers (length turns) turns) where
  step : (j : ℕ) (c b : Turn) → slice_get turns j ≡ Some c → slice_get turns (suc j) ≡ Some b → TurnRises starts numbers c b
  step j c b at_c at_b =
      let at : slice_get turns (j + 1) ≡ Some b = ap (λ (m : ℕ). slice_get turns m) (one_more j) ∙ at_b in
      rising j c b (slice_get_within turns (j + 1) b at) at_c at

  through : (a c b : Turn) → ComesAfter starts numbers a c → TurnRises starts numbers c b → ComesAfter starts numbers a b
  through a c b first second = record {
    processes = let one = first.processes in let two = second.processes in omega (arith, one, two);
    later = λ same. let low = first.later (first_same same) in let high = second.later (second_same same) in omega (arith, low, high);
    rises = λ same. let low = first.rises (first_same same) in let own = second.own in let high = second.rises (second_same same) in omega (arith, low, own, high);
  }
    where
      first_same : a.process ≡ b.process → a.process ≡ c.process
      first_same same = let one = first.processes in let two = second.processes in omega (arith, one, two, same)

      second_same : a.process ≡ b.process → c.process ≡ b.process
      second_same same = let one = first.processes in let two = second.processes in omega (arith, one, two, same)

  along : (j i : ℕ) (a b : Turn) → i < j → slice_get turns i ≡ Some a → slice_get turns j ≡ Some b → ComesAfter starts numbers a b
  along zero i a b less at_a at_b = absurd (omega (arith, less))
  along (suc j) i a b less at_a at_b =
      let before = turn_before turns j b at_b in
      let last = step j before.0 b before.1 at_b in
      elim (compare i j) [
        | inl deeper ↦ through a before.0 b (along j i a before.0 deeper at_a before.1) last
        | inr rest ↦ elim rest [
          | inl here ↦
              let one : before.0 ≡ a = same_Some before.0 a (sym before.1 ∙ ap (λ (m : ℕ). slice_get turns m) (sym here) ∙ at_a) in
              let rise : TurnRises starts numbers a b = subst (λ (x : Turn). TurnRises starts numbers x b) one last in
              record { processes = rise.processes; later = rise.later; rises = rise.rises }
          | inr over ↦ absurd (omega (arith, over, less))
        ]
      ]

  turns_rise : (i j t u process : ℕ) → t < u → slice_get turns i ≡ Some (record { process = process; txn = t }) → slice_get turns j ≡ Some (record { process = process; txn = u }) → get_or numbers (starts + t) 0 < get_or numbers u 0
  turns_rise i j t u process less at_t at_u = elim (compare i j) [
    | inl under ↦ (along j i (record { process = process; txn = t }) (record { process = process; txn = u }) under at_t at_u).rises refl
    | inr rest ↦ elim rest [
      | inl same ↦
          let one : turn_of process t ≡ turn_of process u = same_Some (turn_of process t) (turn_of process u) (sym at_t ∙ ap (λ (m : ℕ). slice_get turns m) same ∙ at_u) in
          let equal : t ≡ u = ap (λ (x : Turn). x.txn) one in
          absurd (omega (arith, less, equal))
      | inr over ↦ let turned : u < t = (along i j (record { process = process; txn = u }) (record { process = process; txn = t }) over at_u at_t).later refl in absurd (omega (arith, less, turned))
    ]
  ]

record OneProcess (a b : Transaction) : Type 0 where
  first : a.committed ≡ true
  second : b.committed ≡ true
  same : a.process ≡ b.process

one_process : (a b : Transaction) → a.committed && b.committed && (a.process == b.process) ≡ true → OneProcess a b
one_process a b e = by a.committed b.committed (a.process == b.process) refl refl refl e
  where
    by : (x y z : Bool) → a.committed ≡ x → b.committed ≡ y → (a.process == b.process) ≡ z → x && y && z ≡ true → OneProcess a b
    by true true true p q r e = record { first = p; second = q; same = eqb-true a.process b.process r }
    by true true false p q r e = absurd (cc)
    by true false z p q r e = absurd (cc)
    by false y z p q r e = absurd (cc)

both_parts : (a b : Bool) → a && b ≡ true → (a ≡ true) × (b ≡ true)
both_parts true true e = (refl, refl)
both_parts true false e = absurd (cc)
both_parts false b e = absurd (cc)

module _ (transactions : List Transaction) (operations : List Operation) (starts : ℕ) (numbers : List ℕ) (turns : List Turn)
    (have : HaveTurns (length transactions) transactions turns) (rising : TurnsRise starts numbers (length turns) turns) where
  two_rise : (t u : ℕ) (x y : Transaction) → t < u → slice_get transactions t ≡ Some x → slice_get transactions u ≡ Some y → OneProcess x y → get_or numbers (starts + t) 0 < get_or numbers u 0
  two_rise t u x y less at_t at_u one =
      let first = have t x (slice_get_within transactions t x at_t) at_t one.first in
      let second = have u y (slice_get_within transactions u y at_u) at_u one.second in
      turns_rise starts numbers turns rising first.0 second.0 t u y.process less
      (subst (λ (p : ℕ). slice_get turns first.0 ≡ Some (record { process = p; txn = t })) one.same first.1) second.1

  pub session_rises : (t u : ℕ) → sessions (trace_of transactions operations) (Commit t) (Start u) ≡ true → get_or numbers (starts + t) 0 < get_or numbers u 0
  session_rises t u e =
      let parts = both_parts (nat_lt t u) (of_one_process (slice_get transactions t) (slice_get transactions u)) e in
      by (slice_get transactions t) (slice_get transactions u) refl refl (lower_of t u parts.0) parts.1
    where
      by : (a b : Option Transaction) → slice_get transactions t ≡ a → slice_get transactions u ≡ b → t < u → of_one_process a b ≡ true → get_or numbers (starts + t) 0 < get_or numbers u 0
      by (Some a) (Some b) at_a at_b less one = two_rise t u a b less at_a at_b (one_process a b one)
      by (Some a) None at_a at_b less one = absurd (cc)
      by None b at_a at_b less one = absurd (cc)

  pub session_done : (t u : ℕ) → sessions (trace_of transactions operations) (Commit t) (Start u) ≡ true → t < length transactions
  session_done t u e =
      let parts = both_parts (nat_lt t u) (of_one_process (slice_get transactions t) (slice_get transactions u)) e in
      by (slice_get transactions t) (slice_get transactions u) refl parts.1
    where
      by : (a b : Option Transaction) → slice_get transactions t ≡ a → of_one_process a b ≡ true → t < length transactions
      by (Some a) b at_a one = slice_get_within transactions t a at_a
      by None b at_a one = absurd (cc)

-- ---- numbers as stamps
twice_less : (a b : ℕ) → a < b → suc (a + a) < b + b
twice_less a b less = omega (arith, less)

commit_less : (level : Level) (n : ℕ) (numbers : List ℕ) (t u : ℕ) → t < n → get_or numbers (starts_of level n + t) 0 < get_or numbers u 0 → (stamping_of level n numbers).commit t < (stamping_of level n numbers).start u
commit_less Snapshot n numbers t u low less = spread_less (n + n) (get_or numbers (n + t) 0) (get_or numbers u 0) (n + t) u (omega (arith, low)) less
commit_less Serializable n numbers t u low less =
    twice_less (get_or numbers t 0 * n + t) (get_or numbers u 0 * n + u) (spread_less n (get_or numbers t 0) (get_or numbers u 0) t u low (subst (λ (m : ℕ). get_or numbers m 0 < get_or numbers u 0) (none t) less))
  where
    none : (t : ℕ) → 0 + t ≡ t
    none t = omega arith

pub sessions_kept : (level : Level) (transactions : List Transaction) (operations : List Operation) (starts : ℕ) (numbers : List ℕ) (turns : List Turn) → starts ≡ starts_of level (length transactions) →
    HaveTurns (length transactions) transactions turns → TurnsRise starts numbers (length turns) turns → Keeps (sessions (trace_of transactions operations)) (stamping_of level (length transactions) numbers)
sessions_kept level transactions operations starts numbers turns is have rising (Commit t) (Start u) e =
    commit_less level (length transactions) numbers t u (session_done transactions operations starts numbers turns have rising t u e)
    (subst (λ (s : ℕ). get_or numbers (s + t) 0 < get_or numbers u 0) is (session_rises transactions operations starts numbers turns have rising t u e))
sessions_kept level transactions operations starts numbers turns is have rising (Commit t) (Commit u) e = absurd (cc)
sessions_kept level transactions operations starts numbers turns is have rising (Start t) y e = absurd (cc)

-- ---- time
module _ (points : ℕ) (numbers moments : List ℕ) (rising : MomentsRise points numbers (length moments) moments) where
  record Rise (i j : ℕ) : Type 0 where
    later : get_or moments i 0 < get_or moments j 0
    more : get_or numbers (points + i) 0 < get_or numbers (points + j) 0

  next_rise : (j : ℕ) → suc j < length moments → Rise j (suc j)
  next_rise j less =
      let rise = rising j (omega (arith, less)) in
      record {
        later = subst (λ (m : ℕ). get_or moments j 0 < get_or moments m 0) (one_more j) rise.later;
        more = subst (λ (m : ℕ). get_or numbers (points + j) 0 < get_or numbers (points + m) 0) (one_more j) rise.rises;
      }

  all_rise : (j i : ℕ) → i < j → j < length moments → Rise i j
  all_rise zero i less within = absurd (omega (arith, less))
  all_rise (suc j) i less within =
      let last = next_rise j within in
      elim (compare i j) [
        | inl deeper ↦
            let first = all_rise j i deeper (omega (arith, within)) in
            let a = first.later in let b = last.later in let c = first.more in let d = last.more in
            record { later = omega (arith, a, b); more = omega (arith, c, d) }
        | inr rest ↦ elim rest [
          | inl here ↦ subst (λ (m : ℕ). Rise m (suc j)) (sym here) last
          | inr over ↦ absurd (omega (arith, over, less))
        ]
      ]

  -- the last moment before the later one has a number between
  between : (i g low high until : ℕ) → i < g → g ≤ length moments → low < get_or numbers (points + i) 0 → ((before : ℕ) → before + 1 ≡ g → get_or numbers (points + before) 0 < high) → low < high
  between i zero low high until less within under over = absurd (omega (arith, less))
  between i (suc g) low high until less within under over =
      let last = over g (one_more g) in
      elim (compare i g) [
        | inl deeper ↦ let up = (all_rise g i deeper (omega (arith, within))).more in omega (arith, under, up, last)
        | inr rest ↦ elim rest [
          | inl here ↦ let same : get_or numbers (points + i) 0 ≡ get_or numbers (points + g) 0 = ap (λ (m : ℕ). get_or numbers (points + m) 0) here in omega (arith, under, same, last)
          | inr over ↦ absurd (omega (arith, over, less))
        ]
      ]

  pub timed_less : (until from low high : ℕ) → until < from → UnderMoment moments points numbers until low → AboveMoment moments points numbers from high → low < high
  timed_less until from low high less under above = elim (compare under.place above.place) [
    | inl before ↦ between under.place above.place low high until before above.within under.less above.more
    | inr rest ↦ absurd (late rest)
  ]
    where
      inside : under.place < length moments
      inside = slice_get_within moments under.place until under.stands

      is_until : get_or moments under.place 0 ≡ until
      is_until = get_or_from_slice_get moments under.place until 0 under.stands

      late : (under.place ≡ above.place) ⊎ (above.place < under.place) → ⊥
      late (inl same) = let most = above.behind until (ap (λ (m : ℕ). slice_get moments m) (sym same) ∙ under.stands) in absurd (omega (arith, most, less))
      late (inr over) =
          let most = above.behind (get_or moments above.place 0) (slice_get-get_or moments above.place 0 (omega (arith, over, inside))) in
          let rise = (all_rise under.place above.place over inside).later in
          absurd (omega (arith, most, rise, is_until, less))

-- the number of a point
abbrev number_of : ℕ → List ℕ → Point → ℕ
number_of starts numbers (Start t) = get_or numbers t 0
number_of starts numbers (Commit t) = get_or numbers (starts + t) 0

module _ (level : Level) (times : List Times) (transactions : List Transaction) (operations : List Operation) (starts points : ℕ) (moments numbers : List ℕ)
    (rising : MomentsRise points numbers (length moments) moments) (timed : AreTimed level times (length transactions) transactions starts points moments numbers) where
  point_timed : (x : Point) → of_done (trace_of transactions operations) x ≡ true → IsTimed moments points numbers ((moments_of level times).from x) ((moments_of level times).until x) (number_of starts numbers x)
  point_timed (Start t) done = (timed t (done_within (trace_of transactions operations) t done) done).start
  point_timed (Commit t) done = (timed t (done_within (trace_of transactions operations) t done) done).commit

  by_moments : (u f : Option ℕ) (low high : ℕ) → IsUnder moments points numbers u low → IsAbove moments points numbers f high → is_under u f ≡ true → low < high
  by_moments (Some a) (Some b) low high under above less = timed_less points numbers moments rising a b low high (lower_of a b less) under above
  by_moments (Some a) None low high under above less = absurd (cc)
  by_moments None f low high under above less = absurd (cc)

  pub numbers_timed : (x y : Point) → of_done (trace_of transactions operations) x ≡ true → of_done (trace_of transactions operations) y ≡ true → in_time (moments_of level times) x y ≡ true → number_of starts numbers x < number_of starts numbers y
  numbers_timed x y dx dy e = by_moments ((moments_of level times).until x) ((moments_of level times).from y) (number_of starts numbers x) (number_of starts numbers y) (point_timed x dx).under (point_timed y dy).above e

nothing_behind : (u : Option ℕ) → is_under u None ≡ true → ⊥
nothing_behind (Some a) e = absurd (cc)
nothing_behind None e = absurd (cc)

-- in stamps of snapshots numbers are spread over the places of points
module _ (numbers : List ℕ) (transactions : List Transaction) (operations : List Operation) where
  start_in : (t : ℕ) → Done (trace_of transactions operations) t → t < length transactions + length transactions
  start_in t done = let low = done_within (trace_of transactions operations) t done in omega (arith, low)

  commit_in : (t : ℕ) → Done (trace_of transactions operations) t → length transactions + t < length transactions + length transactions
  commit_in t done = let low = done_within (trace_of transactions operations) t done in omega (arith, low)

  snapshot_less : (x y : Point) → of_done (trace_of transactions operations) x ≡ true → number_of (length transactions) numbers x < number_of (length transactions) numbers y → stamp_of (stamps_of (length transactions) numbers) x < stamp_of (stamps_of (length transactions) numbers) y
  snapshot_less (Start t) (Start u) done less = spread_less (length transactions + length transactions) (get_or numbers t 0) (get_or numbers u 0) t u (start_in t done) less
  snapshot_less (Start t) (Commit u) done less = spread_less (length transactions + length transactions) (get_or numbers t 0) (get_or numbers (length transactions + u) 0) t (length transactions + u) (start_in t done) less
  snapshot_less (Commit t) (Start u) done less = spread_less (length transactions + length transactions) (get_or numbers (length transactions + t) 0) (get_or numbers u 0) (length transactions + t) u (commit_in t done) less
  snapshot_less (Commit t) (Commit u) done less = spread_less (length transactions + length transactions) (get_or numbers (length transactions + t) 0) (get_or numbers (length transactions + u) 0) (length transactions + t) (length transactions + u) (commit_in t done) less

  -- of transactions that are one point each, something is known of commits below starts alone
  serial_less : (times : List Times) (x y : Point) → of_done (trace_of transactions operations) x ≡ true → in_time (moments_of Serializable times) x y ≡ true → number_of 0 numbers x < number_of 0 numbers y →
      stamp_of (stamping_of Serializable (length transactions) numbers) x < stamp_of (stamping_of Serializable (length transactions) numbers) y
  serial_less times (Commit t) (Start u) done e less = commit_less Serializable (length transactions) numbers t u (done_within (trace_of transactions operations) t done) less
  serial_less times (Commit t) (Commit u) done e less = absurd (nothing_behind ((moments_of Serializable times).until (Commit t)) e)
  serial_less times (Start t) y done e less = absurd (cc)

  stamps_less : (level : Level) (times : List Times) (x y : Point) → of_done (trace_of transactions operations) x ≡ true → in_time (moments_of level times) x y ≡ true → number_of (starts_of level (length transactions)) numbers x < number_of (starts_of level (length transactions)) numbers y →
      stamp_of (stamping_of level (length transactions) numbers) x < stamp_of (stamping_of level (length transactions) numbers) y
  stamps_less Snapshot times x y done e less = snapshot_less x y done less
  stamps_less Serializable times x y done e less = serial_less times x y done e less

record Timed (level : Level) (times : List Times) (trace : Trace) (x y : Point) : Type 0 where
  first : of_done trace x ≡ true
  second : of_done trace y ≡ true
  order : in_time (moments_of level times) x y ≡ true

timed_of : (level : Level) (times : List Times) (trace : Trace) (x y : Point) → real_time level times trace x y ≡ true → Timed level times trace x y
timed_of level times trace x y e = by (of_done trace x) (of_done trace y) (in_time (moments_of level times) x y) refl refl refl e
  where
    by : (a b c : Bool) → of_done trace x ≡ a → of_done trace y ≡ b → in_time (moments_of level times) x y ≡ c → a && b && c ≡ true → Timed level times trace x y
    by true true true p q r e = record { first = p; second = q; order = r }
    by true true false p q r e = absurd (cc)
    by true false c p q r e = absurd (cc)
    by false b c p q r e = absurd (cc)

pub times_kept : (level : Level) (times : List Times) (transactions : List Transaction) (operations : List Operation) (starts points : ℕ) (moments numbers : List ℕ) → starts ≡ starts_of level (length transactions) →
    MomentsRise points numbers (length moments) moments → AreTimed level times (length transactions) transactions starts points moments numbers →
    Keeps (real_time level times (trace_of transactions operations)) (stamping_of level (length transactions) numbers)
times_kept level times transactions operations starts points moments numbers is rising timed x y e =
    let t = timed_of level times (trace_of transactions operations) x y e in
    stamps_less numbers transactions operations level times x y t.first t.order
    (subst (λ (s : ℕ). number_of s numbers x < number_of s numbers y) is (numbers_timed level times transactions operations starts points moments numbers rising timed x y t.first t.second t.order))
