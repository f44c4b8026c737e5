-- The next event of a line that is carried out on threads, where stages serve the requests: instead of serving its session's
-- request, a line waits for it. Everything else is as in file order.
use Rattle.std.specs.Prelude.{ℕ, Bool, true, false, Option, None, Some, if◌then◌else◌}
use Rattle.history_book.specs.declared.item.Actor.{Actor}
use Rattle.history_book.specs.declared.item.Actor.TheVariants.{Session}
use Rattle.system_parts.specs.declared.instance.Place.{Place}
use Rattle.machine.specs.declared.event.Event.{Event}
use Rattle.script_data.specs.declared.line.Verb.{Verb}
use Rattle.script_data.specs.declared.line.Verb.TheVariants as verb
use Rattle.command_semantics.specs.declared.point.Point.{Point}
use Rattle.command_semantics.specs.declared.point.Point.TheVariants.{Opens, Drives, Extends}
use Rattle.command_semantics.specs.declared.point.View.{View}
use Rattle.command_semantics.specs.Next.{Clocks, is_served, places, placing_next, idle_next, next}
use Rattle.turn_rules.specs.declared.ahead.Why.TheVariants.{Reply, Name}
use Rattle.turn_rules.specs.declared.ahead.NextAction.{NextAction}
use Rattle.turn_rules.specs.declared.ahead.NextAction.TheVariants.{Makes, Waits, Passes}

-- a line without a next event is passed
abbrev pub made_next : Option Event → NextAction
made_next None = Passes
made_next (Some e) = Makes e

-- a request that the line has served is waited for; once it has ended, a placing and a completion follow
abbrev pub drive_ahead : ℕ → Verb → View → Option (ℕ × Place) → NextAction
drive_ahead session verb view None = made_next (placing_next session view.doing (places verb))
drive_ahead session verb view (Some request) = if is_served verb request.1 then Waits Reply else Passes

-- a session with no request in flight has come too late to collect it where no line has waited for it, and has nothing to
-- collect otherwise
abbrev pub collect_ahead : ℕ → View → Bool → Option (ℕ × Place) → NextAction
collect_ahead session view unawaited (Some request) = Waits Reply
collect_ahead session view true None = made_next (placing_next session view.doing true)
collect_ahead session view false None = made_next (idle_next session view.doing)

-- a name is awaited until it is posted
abbrev pub own_opens : Clocks → Bool → Actor → Verb → View → Bool → NextAction
own_opens clocks posted actor (verb.Await name) view unawaited = if posted then made_next (next clocks actor (verb.Await name) Opens view) else Waits Name
own_opens clocks posted (Session session) verb.Collect view unawaited = collect_ahead session view unawaited view.request
own_opens clocks posted actor verb view unawaited = made_next (next clocks actor verb Opens view)

-- what is ahead of an actor's line, by whether the name that it awaits is posted, and whether the session's last ask was made and
-- no later line has waited for its answer; it is the node that asks for a further range of stamps
abbrev pub own_next : Clocks → Bool → Actor → Verb → Point → View → Bool → NextAction
own_next clocks posted actor verb Opens view unawaited = own_opens clocks posted actor verb view unawaited
own_next clocks posted (Session session) verb Drives view unawaited = drive_ahead session verb view view.request
own_next clocks posted (Session session) verb Extends view unawaited = Passes
own_next clocks posted actor verb point view unawaited = made_next (next clocks actor verb point view)
