-- For isolation_laws and cause_laws too.
-- Laws for the crates above: the last commit of a key was recorded for it, and it is the greatest where commits never fall.
use Rattle.std.proofs.Common.{◌≡◌, ℕ, zero, suc, ◌≤◌, ◌==◌, List, [], ◌∷◌, Option, Some, None, inl, inr, refl, ap, arith, All, Contains, if◌then◌else◌}
use Rattle.std.specs.Option.{option_or, IsSomeAnd}
use Rattle.std.proofs.lemmas.Bool.{cases_Bool, eqb-true, eq-eqb}
use Rattle.std.proofs.lemmas.List.Elements.{All-contains}
use Rattle.std.proofs.lemmas.Option.{same_Some, none-some}
use Rattle.system_parts.specs.declared.buckets.Recorded.{Recorded}
use Rattle.system_parts.specs.Buckets.{pair_of, CommitsRise, last_commit}

-- ---- commits that never fall
abbrev pub NotAfter : Recorded → Recorded → Type 0
NotAfter earlier later = earlier.commit ≤ later.commit

pub rise_tail : (pair : Recorded) (pairs : List Recorded) → CommitsRise (pair ∷ pairs) → CommitsRise pairs
rise_tail pair pairs rise i j d lt within = rise (suc i) (suc j) d (omega arith) (omega arith)

pub rise_head : (pair : Recorded) (pairs : List Recorded) → CommitsRise (pair ∷ pairs) → All (NotAfter pair) pairs
rise_head pair pairs rise k d within = rise zero (suc k) d (omega arith) (omega arith)

-- ---- the last commit was recorded
same_pair : (pair : Recorded) (key commit : ℕ) → pair.key ≡ key → pair.commit ≡ commit → pair ≡ pair_of commit key
same_pair pair key commit k c = rw (← k, ← c) refl

pub contains_later : {X : Type 0} (first : X) (xs : List X) (x : X) → Contains xs x → Contains (first ∷ xs) x
contains_later first xs x (k, within, e) = (suc k, omega arith, e)

recorded_here : (pair : Recorded) (later : List Recorded) (key commit : ℕ) → (if pair.key == key then Some pair.commit else None) ≡ Some commit → Contains (pair ∷ later) (pair_of commit key)
recorded_here pair later key commit e = elim (cases_Bool (pair.key == key)) [
  | inl q ↦ let found : Some pair.commit ≡ Some commit = rw q at e in (0, omega arith, same_pair pair key commit (eqb-true pair.key key q) (same_Some pair.commit commit found))
  | inr q ↦ let none : None ≡ Some commit = rw q at e in absurd (none-some commit none)
]

recorded_cases : (pair : Recorded) (later : List Recorded) (key commit : ℕ) (last : Option ℕ) → ((c : ℕ) → last ≡ Some c → Contains later (pair_of c key)) → option_or last (if pair.key == key then Some pair.commit else None) ≡ Some commit → Contains (pair ∷ later) (pair_of commit key)
recorded_cases pair later key commit None there e = recorded_here pair later key commit e
recorded_cases pair later key commit (Some c) there e = contains_later pair later (pair_of commit key) (there commit e)

pub last_commit_recorded : (pairs : List Recorded) (key commit : ℕ) → last_commit pairs key ≡ Some commit → Contains pairs (pair_of commit key)
unfolding last_commit
last_commit_recorded [] key commit e = absurd (none-some commit e)
last_commit_recorded (pair ∷ later) key commit e = recorded_cases pair later key commit (last_commit later key) (last_commit_recorded later key) e

-- ---- and is the greatest
abbrev AtLeast : ℕ → Option ℕ → Type 0
AtLeast commit last = IsSomeAnd last (λ c. commit ≤ c)

first_below : (pair : Recorded) (key : ℕ) (last : Option ℕ) → pair.key ≡ key → ((c : ℕ) → last ≡ Some c → pair.commit ≤ c) → AtLeast pair.commit (option_or last (if pair.key == key then Some pair.commit else None))
first_below pair key None same below = rw (eq-eqb pair.key key same) (omega arith)
first_below pair key (Some c) same below = below c refl

later_below : (commit : ℕ) (last here : Option ℕ) → AtLeast commit last → AtLeast commit (option_or last here)
later_below commit None here below = absurd below
later_below commit (Some c) here below = below

pub last_commit_greatest : (pairs : List Recorded) (key commit : ℕ) → CommitsRise pairs → Contains pairs (pair_of commit key) → IsSomeAnd (last_commit pairs key) (λ last. commit ≤ last)
unfolding last_commit
last_commit_greatest [] key commit rise (k, within, e) = absurd (omega arith)
last_commit_greatest (pair ∷ later) key commit rise (zero, within, e) =
    let keys : pair.key ≡ key = ap (λ (p : Recorded). p.key) e in
    let commits : commit ≡ pair.commit = (let same = ap (λ (p : Recorded). p.commit) e in omega arith) in
    rw commits (first_below pair key (last_commit later key) keys (λ c last. All-contains (NotAfter pair) later (pair_of c key) (rise_head pair later rise) (last_commit_recorded later key c last)))
last_commit_greatest (pair ∷ later) key commit rise (suc k, within, e) =
    later_below commit (last_commit later key) (if pair.key == key then Some pair.commit else None) (last_commit_greatest later key commit (rise_tail pair later rise) (k, omega arith, e))
