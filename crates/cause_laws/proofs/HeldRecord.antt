-- What a master record shows that is held: a term, a lease and a ceiling that were given.
use Rattle.cause_laws.proofs.Names.{◌≡◌, ◌≢◌, ℕ, ◌+◌, ◌<◌, ◌≤◌, List, Option, Some, None, refl, subst, arith, IsSome}
use Rattle.cause_laws.proofs.Names.{Item, InstanceEntry, State, InstanceAt, ReachedInvariant, TermTaken, CeilingGiven}
use Rattle.cause_laws.proofs.Names.{ShownSpent, ShownInvariant}
use Rattle.std.proofs.Common.{◌^◌}

pub holder_of : (holder : Option ℕ) → IsSome holder → (n : ℕ) × (holder ≡ Some n)
holder_of None held = absurd (cc)
holder_of (Some n) held = (n, refl)

-- wherever an instance is there, the record is held
pub holder_by : (w : State) (h : List Item) (node : ℕ) (i : InstanceEntry) → ReachedInvariant w h → InstanceAt w.nodes node i → (n : ℕ) × (w.master.holder ≡ Some n)
holder_by w h node i stands at = holder_of w.master.holder (stands.holds.numbers.leases.holder node i at)

less_than : (a b : ℕ) → a ≤ b → b ≢ a → a < b
less_than a b within other = grind arith

-- an instance has another term than the record, so that a later one was taken
pub replaced_shown : (w : State) (h : List Item) (node : ℕ) (i : InstanceEntry) → ReachedInvariant w h → ShownInvariant w h → InstanceAt w.nodes node i → w.master.term ≢ i.term → (i.term < w.master.term) × TermTaken h w.master.term
replaced_shown w h node i stands shows at other =
    let holder = holder_by w h node i stands at in
    (less_than i.term w.master.term (stands.holds.numbers.ranges.counted node i at).1 other, shows.master.term holder.0 holder.1)

-- the record has no room for a further range
pub spent_shown : (w : State) (h : List Item) (ceiling n : ℕ) → ShownInvariant w h → w.master.holder ≡ Some n → w.master.ceiling ≡ ceiling → 2 ^ 62 < ceiling + w.setup.range → ShownSpent w.setup h ceiling
spent_shown w h ceiling n shows held is past =
    let given = shows.master.ceiling n held in
    record { term = given.0; given = subst (λ c. CeilingGiven h given.0 c) is given.1; past = past }
