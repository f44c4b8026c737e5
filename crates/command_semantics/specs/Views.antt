-- What the run of a line looks at in a state.
use Rattle.std.specs.Prelude.{false, None}
use Rattle.history_book.specs.declared.item.Actor.{Actor}
use Rattle.history_book.specs.declared.item.Actor.TheVariants.{Session}
use Rattle.machine.specs.declared.event.Doing.TheVariants as doing
use Rattle.machine.specs.State.{State}
use Rattle.machine.specs.Readers.{doing_of, place_of, asks_commit, sweeping}
use Rattle.command_semantics.specs.declared.point.View.{View}

-- an actor that is no session has no request, and looks as one that is gone
abbrev pub view_of : State → Actor → View
view_of w (Session session) = record { doing = doing_of w session; request = place_of w session; commit = asks_commit w session; sweeping = sweeping w }
view_of w _ = record { doing = doing.Gone; request = None; commit = false; sweeping = sweeping w }
