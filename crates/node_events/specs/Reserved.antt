-- What an accept reserves for the request: five items, and for a commit that the oracle is to place a place in the commit table.
use Rattle.std.specs.Prelude.{◌≡◌, ℕ, ◌+◌, Bool, true, false, Option, None, Some, Result, Ok, Err, IsTrue}
use Rattle.std.specs.FinSet as set
use Rattle.system_parts.specs.Pairs.{Places}
use Rattle.system_parts.specs.declared.instance.Held.{Held}
use Rattle.system_parts.specs.declared.instance.Request.{Request}
use Rattle.system_parts.specs.declared.instance.Request.TheVariants.{Begin, Commit}
use Rattle.system_parts.specs.Instance.{InstanceEntry}
use Rattle.event_parts.specs.declared.stopped.Stopped.{Stopped}
use Rattle.event_parts.specs.declared.stopped.Stopped.TheVariants.{Refused, StoreFault, NoMemory}

-- a request that is accepted has room for five items more; a refusal and want of memory leave the room
abbrev pub ReservesFive : Result Unit Stopped → ℕ → ℕ → Type 0
ReservesFive (Ok _) before now = now ≡ before + 5
ReservesFive (Err (Refused why)) before now = now ≡ before
ReservesFive (Err (StoreFault store)) before now = now ≡ before
ReservesFive (Err NoMemory) before now = now ≡ before

-- whether the node's instance hands commits to their sessions
abbrev pub is_direct : Option InstanceEntry → Bool
is_direct None = false
is_direct (Some i) = i.direct

-- a commit that the oracle is to place has a place
abbrev pub HasPlaceUnless : Bool → Places → ℕ → Type 0
HasPlaceUnless true places start = Unit {0}
HasPlaceUnless false places start = IsTrue (set.contains places start)

abbrev pub HasPlace : Bool → Places → Request → Type 0
HasPlace direct places (Begin session) = Unit {0}
HasPlace direct places (Commit session start keys) = HasPlaceUnless direct places start

abbrev pub HeldHasPlace : Bool → Places → Option Held → Type 0
HeldHasPlace direct places None = Unit {0}
HeldHasPlace direct places (Some held) = HasPlace direct places held.request

-- what had a place has it still
abbrev pub KeepPlaces : Places → Places → Type 0
KeepPlaces before now = (txn : ℕ) → IsTrue (set.contains before txn) → IsTrue (set.contains now txn)
