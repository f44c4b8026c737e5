-- What the master record refuses: a take by its lease or its ceiling, and what an instance keeps of a refusal.
use Rattle.machine.proofs.Names.{DueToNode, DueEarly, DueSpent, inl, inr, refl, sym, subst, ◌≡◌, ℕ, ◌+◌, ◌<◌, ◌^◌, Bool}
use Rattle.machine.proofs.Names.{true, false, if◌then◌else◌, Some, None, arith, Cause, nat_lt, is_some, and_parts}
use Rattle.machine.proofs.Names.{ltb-true, take_refused, is_early, is_spent, State, rules_of, Stopped}
use Rattle.system_parts.specs.declared.record.TakeRefused.TheVariants as take

pub early_spent : (early spent : Bool) (reading until ceiling at found : ℕ) → (if early then Some (take.Early reading until) else if spent then Some (take.Spent ceiling) else None) ≡ Some (take.Early at found) → (early ≡ true) × (reading ≡ at) × (until ≡ found)
early_spent true spent reading until ceiling at found is = (refl, cc, cc)
early_spent false true reading until ceiling at found is = absurd (cc)
early_spent false false reading until ceiling at found is = absurd (cc)

pub early_due : (w : State) (reading at found : ℕ) → take_refused (rules_of w.setup) w.master reading ≡ Some (take.Early at found) → DueEarly w at found
early_due w reading at found is =
    let cases = early_spent (is_early (rules_of w.setup) w.master reading) (is_spent (rules_of w.setup) w.master) reading w.master.until w.master.ceiling at found is in
    let both = and_parts (is_some w.master.holder) (nat_lt reading (w.master.until + w.setup.skew)) cases.0 in
    let before : reading < w.master.until + w.setup.skew = ltb-true reading (w.master.until + w.setup.skew) both.1 in
    record { holder = both.0; until_is = cases.2; before = omega (arith, before, cases.1, cases.2) }

pub spent_early : (early spent : Bool) (reading until ceiling found : ℕ) → (if early then Some (take.Early reading until) else if spent then Some (take.Spent ceiling) else None) ≡ Some (take.Spent found) → (spent ≡ true) × (ceiling ≡ found)
spent_early true spent reading until ceiling found is = absurd (cc)
spent_early false true reading until ceiling found is = (refl, cc)
spent_early false false reading until ceiling found is = absurd (cc)

-- a range past the last stamp
pub spent_is : (w : State) (found : ℕ) → is_spent (rules_of w.setup) w.master ≡ true → w.master.ceiling ≡ found → DueSpent w found
spent_is w found spent same =
    let past : 2 ^ 62 < w.master.ceiling + w.setup.range = ltb-true (2 ^ 62) (w.master.ceiling + w.setup.range) spent in
    record { ceiling_is = same; past = subst (λ c. 2 ^ 62 < c + w.setup.range) same past }

pub spent_due : (w : State) (reading found : ℕ) → take_refused (rules_of w.setup) w.master reading ≡ Some (take.Spent found) → DueSpent w found
spent_due w reading found is =
    let cases = spent_early (is_early (rules_of w.setup) w.master reading) (is_spent (rules_of w.setup) w.master) reading w.master.until w.master.ceiling found is in
    spent_is w found cases.0 cases.1

-- an instance whose record is another's, or is spent
pub stopped_due : (w : State) (k : Stopped w) → DueToNode w k.node k.why
stopped_due w k = elim k.by [
  | inl other ↦ subst (λ (why : Cause). DueToNode w k.node why) (sym other.0) (record { i = k.i; at = k.at; found_is = refl; other = λ same. other.1 (sym same) })
  | inr spent ↦ subst (λ (why : Cause). DueToNode w k.node why) (sym spent.0) (spent_is w w.master.ceiling spent.2 refl)
]
