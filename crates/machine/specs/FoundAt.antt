-- What stands where in a state: instances and their requests, clients, marks.
use Rattle.std.specs.Prelude.{◌≡◌, ℕ, List, slice_get, Option, Some}
use Rattle.stamp_base.specs.declared.stores.Mark.TheVariants.{Invalid as InvalidMark}
use Rattle.system_parts.specs.Pairs.{Pairs, mark_of}
use Rattle.system_parts.specs.declared.instance.Held.{Held}
use Rattle.system_parts.specs.declared.instance.Progress.{Progress}
use Rattle.system_parts.specs.declared.instance.Request.{Request}
use Rattle.system_parts.specs.Instance.{InstanceEntry, held_of}
use Rattle.machine.specs.State.{Client}

-- the node has this instance
abbrev pub InstanceAt : List (Option InstanceEntry) → ℕ → InstanceEntry → Type 0
InstanceAt nodes n i = slice_get nodes n ≡ Some (Some i)

-- the instance holds this request of the session, and it has come this far
pub record HeldBy (i : InstanceEntry) (s : ℕ) (request : Request) (progress : Progress) : Type 0 where
  pub held : Held
  pub has : held_of i s ≡ Some held
  pub asks : held.request ≡ request
  pub stands : held.progress ≡ progress

abbrev pub ClientAt : List Client → ℕ → Client → Type 0
ClientAt clients s c = slice_get clients s ≡ Some c

-- the commit table has a mark that the transaction can never commit
abbrev pub Marked : Pairs → ℕ → Type 0
Marked pairs t = mark_of pairs t ≡ Some InvalidMark
