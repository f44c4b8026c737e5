-- What an event says of a session's ask by what it refuses, or by saying nothing.
use Rattle.std.specs.Prelude.{◌≡◌, ℕ, true, List, [], slice_get, Option, Some}
use Rattle.port_io.specs.declared.weather.Fate.{Fate}
use Rattle.history_book.specs.Members.{◌∈◌}
use Rattle.history_book.specs.declared.cause.Cause.TheVariants as cause
use Rattle.history_book.specs.declared.item.Actor.{Actor}
use Rattle.history_book.specs.declared.item.Item.{Item}
use Rattle.history_book.specs.declared.item.Item.TheVariants as item
use Rattle.system_parts.specs.Instance.{InstanceEntry, was_told_not_yet}
use Rattle.machine.specs.declared.event.Event.{Event}
use Rattle.machine.specs.declared.event.Event.TheVariants as event
use Rattle.machine.specs.State.{Client, State}
use Rattle.machine.specs.Machine.{stepped}
use Rattle.cause_rules.specs.OpenAsks.{open_asks_of}
use Rattle.isolation_laws.specs.Words.{ClientAt}
use Rattle.cause_laws.specs.ShownInvariant.{ExplainedInvariant}

abbrev pub LostAsksAreOver : Type 0
LostAsksAreOver =
    (w : State) (h : List Item) (e : Event) (fate : Fate) (actor : Actor) (n s : ℕ) → ExplainedInvariant w h → item.Refused actor (cause.NoOracle n) ∈ (stepped w e fate).items → open_asks_of h n s ≡ 0

-- the node holds a request of the session that was told to wait
pub record WasTold (post : Option InstanceEntry) (s : ℕ) : Type 0 where
  pub i : InstanceEntry
  pub here : post ≡ Some i
  pub told : was_told_not_yet i s ≡ true

abbrev pub SilentAnswersRepeat : Type 0
SilentAnswersRepeat =
    (w : State) (n s : ℕ) (fate : Fate) (post : Option InstanceEntry) (c : Client) → slice_get w.nodes n ≡ Some post → ClientAt w.clients s c → (stepped w (event.Answer n s) fate).items ≡ [] → WasTold post s
