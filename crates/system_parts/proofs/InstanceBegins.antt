-- For isolation_laws and cause_laws too.
-- Laws for the crates above: a begin is answered where no commit below its start waits, and otherwise told the least of
-- them.
use Rattle.std.proofs.Common.{◌≡◌, ℕ, ◌<◌, ◌≤◌, nat_lt, min, Bool, true, false, List, [], ◌∷◌, Option, Some, None, Result, Ok, Err, ◌⊎◌, inl, inr, refl, sym, subst, ap, ◌∙◌, arith, suc, All, Any, IfSome, if◌then◌else◌}
use Rattle.std.specs.Prelude.{slice_index_or}
use Rattle.std.proofs.lemmas.Bool.{cases_Bool, ltb-true, ltb-false, lt-ltb}
use Rattle.std.proofs.lemmas.Option.{same_Some, none-some}
use Rattle.std.proofs.lemmas.List.Elements.{All-nil, All-cons}
use Rattle.history_book.specs.declared.cause.Cause.{Cause}
use Rattle.history_book.specs.declared.cause.Cause.TheVariants as cause
use Rattle.system_parts.specs.declared.instance.Request.{Request}
use Rattle.system_parts.specs.declared.instance.Request.TheVariants.{Begin, Commit}
use Rattle.system_parts.specs.declared.instance.Progress.{Progress}
use Rattle.system_parts.specs.declared.instance.Progress.TheVariants.{Drawn, Settled, Handed}
use Rattle.system_parts.specs.declared.instance.Held.{Held}
use Rattle.system_parts.specs.declared.instance.Settled.{Settled as How}
use Rattle.system_parts.specs.declared.instance.Settled.TheVariants as how
use Rattle.system_parts.specs.declared.instance.Reply.{Reply}
use Rattle.system_parts.specs.declared.instance.Reply.TheVariants.{Begun, Committed, Invalid, Open, Handed as HandedOver}
use Rattle.system_parts.specs.Instance.{InstanceEntry, held_of, unsettled_commit, only_below, lesser, least_unsettled}
use Rattle.system_parts.specs.InstanceSteps.{reply_of, answer_begin, answer_if_ready, answer_held, instance_answer}
use Rattle.system_parts.specs.InstanceLaws.{IsNotBelow, IsLeastUnsettled}

abbrev answered : Reply → Result Reply Cause
answered r = Ok r

abbrev refusal : Cause → Result Reply Cause
refusal why = Err why

ok_same : (a b : Reply) → answered a ≡ answered b → a ≡ b
ok_same a b e = cc

err_ok : (why : Cause) (r : Reply) → refusal why ≡ answered r → ⊥
err_ok why r e = cc

-- ---- the least of none
none_both : (a b : Option ℕ) → lesser a b ≡ None → (a ≡ None) × (b ≡ None)
none_both None b e = (refl, e)
none_both (Some a) None e = absurd (cc)
none_both (Some a) (Some b) e = absurd (cc)

not_chosen : (b : Bool) (commit : ℕ) → (if b then Some commit else None) ≡ None → b ≡ false
not_chosen true commit e = absurd (cc)
not_chosen false commit e = refl

not_below : (start : ℕ) (commit : Option ℕ) → only_below start commit ≡ None → IfSome commit (λ c. start ≤ c)
not_below start None e = tt
not_below start (Some commit) e = ltb-false commit start (not_chosen (nat_lt commit start) commit e)

pub none_waits : (requests : List (Option Held)) (start : ℕ) → least_unsettled requests start ≡ None → All (IsNotBelow start) requests
unfolding least_unsettled
none_waits [] start e = All-nil (IsNotBelow start)
none_waits (held ∷ others) start e =
    let both = none_both (only_below start (unsettled_commit held)) (least_unsettled others start) e in
    All-cons (IsNotBelow start) held others (not_below start (unsettled_commit held) both.0) (none_waits others start both.1)

-- ---- the answer of a begin
-- what a begun transaction rests on
abbrev Begins : InstanceEntry → ℕ → ℕ → Type 0
Begins i start epoch = (epoch ≡ i.epoch) × All (IsNotBelow start) i.requests

begin_rests : (i : InstanceEntry) (session : ℕ) (held : Held) (drawn start epoch : ℕ) (wait : Option ℕ) → least_unsettled i.requests drawn ≡ wait → (answer_begin i session held drawn wait).answer ≡ Ok (Begun start epoch) → Begins i start epoch
begin_rests i session held drawn start epoch None none e =
    let same = ok_same (Begun drawn i.epoch) (Begun start epoch) e in
    let starts : drawn ≡ start = cc in
    let epochs : epoch ≡ i.epoch = cc in
    (epochs, subst (λ (s : ℕ). All (IsNotBelow s) i.requests) starts (none_waits i.requests drawn none))
begin_rests i session held drawn start epoch (Some commit) some e = absurd (err_ok (cause.NotYet commit) (Begun start epoch) e)

no_begun : (commit start epoch : ℕ) (how : How) → answered (reply_of commit how) ≡ Ok (Begun start epoch) → ⊥
no_begun commit start epoch how.Placed e = let same = ok_same (Committed commit) (Begun start epoch) e in cc
no_begun commit start epoch how.Invalid e = let same = ok_same Invalid (Begun start epoch) e in cc
no_begun commit start epoch how.Faulted e = let same = ok_same Open (Begun start epoch) e in cc

ready_rests : (i : InstanceEntry) (session start epoch : ℕ) (held : Held) (request : Request) (progress : Progress) → (answer_if_ready i session held request progress).answer ≡ Ok (Begun start epoch) → Begins i start epoch
ready_rests i session start epoch held (Begin s) (Drawn drawn) e = begin_rests i session held drawn start epoch (least_unsettled i.requests drawn) refl e
ready_rests i session start epoch held (Commit s from keys) (Settled commit how) e = absurd (no_begun commit start epoch how e)
ready_rests i session start epoch held (Commit s from keys) (Handed commit) e = let same = ok_same (HandedOver commit) (Begun start epoch) e in absurd (cc)
ready_rests i session start epoch held request progress e = absurd (err_ok (cause.NoRequest session) (Begun start epoch) e)

held_rests : (i : InstanceEntry) (session start epoch : ℕ) (held : Option Held) → (answer_held i session held).answer ≡ Ok (Begun start epoch) → Begins i start epoch
held_rests i session start epoch None e = absurd (err_ok (cause.NoRequest session) (Begun start epoch) e)
held_rests i session start epoch (Some held) e = ready_rests i session start epoch held held.request held.progress e

pub begun_rests : (i : InstanceEntry) (session start epoch : ℕ) → (instance_answer i session).answer ≡ Ok (Begun start epoch) → Begins i start epoch
begun_rests i session start epoch e = held_rests i session start epoch (held_of i session) e

-- ---- the least of some
-- the lesser of two is one of them, and not above the other
abbrev OneOfThem : Option ℕ → Option ℕ → ℕ → Type 0
OneOfThem a b c = ((a ≡ Some c) × ((n : ℕ) → b ≡ Some n → c ≤ n)) ⊎ ((b ≡ Some c) × ((n : ℕ) → a ≡ Some n → c ≤ n))

lesser_cases : (a b : Option ℕ) (c : ℕ) → lesser a b ≡ Some c → OneOfThem a b c
lesser_cases None b c e = inr (e, λ n q. absurd (none-some n q))
lesser_cases (Some x) None c e = inl (e, λ n q. absurd (none-some n q))
lesser_cases (Some x) (Some y) c e =
    let same : min x y ≡ c = same_Some (min x y) c e in
    elim (cases_Bool (nat_lt y x)) [
      | inl q ↦ (let lt = ltb-true y x q in let is : y ≡ c = omega arith in inr (ap (λ n. Some n) is, λ n there. (let at = same_Some x n there in omega arith)))
      | inr q ↦ (let le = ltb-false y x q in let is : x ≡ c = omega arith in inl (ap (λ n. Some n) is, λ n there. (let at = same_Some y n there in omega arith)))
    ]

chosen : (b : Bool) (commit c : ℕ) → (if b then Some commit else None) ≡ Some c → (b ≡ true) × (commit ≡ c)
chosen true commit c e = (refl, same_Some commit c e)
chosen false commit c e = absurd (none-some c e)

only_cases : (start : ℕ) (commit : Option ℕ) (c : ℕ) → only_below start commit ≡ Some c → (commit ≡ Some c) × (c < start)
only_cases start None c e = absurd (none-some c e)
only_cases start (Some commit) c e =
    let is = chosen (nat_lt commit start) commit c e in
    let lt = ltb-true commit start is.0 in
    let same : commit ≡ c = is.1 in
    (ap (λ n. Some n) same, omega arith)

-- what a commit that waits says, where none below the start is lesser
abbrev NotLess : ℕ → ℕ → Option Held → Type 0
NotLess start c held = IfSome (unsettled_commit held) (λ other. other < start → c ≤ other)

not_less_here : (start c : ℕ) (commit : Option ℕ) → ((n : ℕ) → only_below start commit ≡ Some n → c ≤ n) → IfSome commit (λ other. other < start → c ≤ other)
not_less_here start c None h = tt
not_less_here start c (Some commit) h = λ lt. h commit (rw (lt-ltb commit start lt) refl)

not_less_under : (start least c : ℕ) → c ≤ least → (commit : Option ℕ) → IfSome commit (λ other. other < start → least ≤ other) → IfSome commit (λ other. other < start → c ≤ other)
not_less_under start least c le None h = tt
not_less_under start least c le (Some commit) h = λ lt. (let under = h lt in omega arith)

not_less_none : (start c : ℕ) (commit : Option ℕ) → IfSome commit (λ other. start ≤ other) → IfSome commit (λ other. other < start → c ≤ other)
not_less_none start c None h = tt
not_less_none start c (Some commit) h = λ lt. absurd (omega (arith, h))

not_less_there : (others : List (Option Held)) (start c : ℕ) (least : Option ℕ) → least_unsettled others start ≡ least → ((n : ℕ) → least ≡ Some n → c ≤ n) → ((n : ℕ) → least_unsettled others start ≡ Some n → IsLeastUnsettled start n others) → All (NotLess start c) others
not_less_there others start c None e h rest = λ k d within. not_less_none start c (unsettled_commit (slice_index_or others k d)) (none_waits others start e k d within)
not_less_there others start c (Some n) e h rest = λ k d within. not_less_under start n c (h n refl) (unsettled_commit (slice_index_or others k d)) ((rest n e).least k d within)

there_later : (held : Option Held) (others : List (Option Held)) (c : ℕ) → Any (λ (h : Option Held). unsettled_commit h ≡ Some c) others → Any (λ (h : Option Held). unsettled_commit h ≡ Some c) (held ∷ others)
there_later held others c (k, x, within, at, e) = (suc k, x, omega arith, at, e)

least_cases : (held : Option Held) (others : List (Option Held)) (start c : ℕ) → OneOfThem (only_below start (unsettled_commit held)) (least_unsettled others start) c → ((n : ℕ) → least_unsettled others start ≡ Some n → IsLeastUnsettled start n others) → IsLeastUnsettled start c (held ∷ others)
least_cases held others start c (inl (here, over)) rest =
    let is = only_cases start (unsettled_commit held) c here in
    let head : (n : ℕ) → only_below start (unsettled_commit held) ≡ Some n → c ≤ n = λ n q. (let same = same_Some c n (sym here ∙ q) in omega arith) in
    record {
      below = is.1;
      there = (0, held, omega arith, refl, is.0);
      least = All-cons (NotLess start c) held others (not_less_here start c (unsettled_commit held) head) (not_less_there others start c (least_unsettled others start) refl over rest);
    }
least_cases held others start c (inr (later, over)) rest =
    let tail = rest c later in
    record {
      below = tail.below;
      there = there_later held others c tail.there;
      least = All-cons (NotLess start c) held others (not_less_here start c (unsettled_commit held) over) tail.least;
    }

pub least_is_least : (requests : List (Option Held)) (start c : ℕ) → least_unsettled requests start ≡ Some c → IsLeastUnsettled start c requests
unfolding least_unsettled
least_is_least [] start c e = absurd (none-some c e)
least_is_least (held ∷ others) start c e = least_cases held others start c (lesser_cases (only_below start (unsettled_commit held)) (least_unsettled others start) c e) (λ n q. least_is_least others start n q)
