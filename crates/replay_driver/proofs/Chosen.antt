-- The event of an arm is the next one of its line.
use Rattle.std.proofs.Common.{◌≡◌, ℕ, true, List, Option, Some, Result, refl, sym, ap, ◌∙◌, subst}
use Rattle.std.specs.Prelude.{IfOk}
use Rattle.stamp_base.specs.declared.memory.NoMemory.{NoMemory}
use Rattle.history_book.specs.declared.item.Actor.{Actor}
use Rattle.history_book.specs.declared.item.Actor.TheVariants.{Session}
use Rattle.system_parts.specs.declared.instance.Place.{Place}
use Rattle.system_parts.specs.declared.instance.Place.TheVariants.{Asked}
use Rattle.machine.specs.declared.event.Event.{Event}
use Rattle.machine.specs.declared.event.Event.TheVariants.{Accept}
use Rattle.machine.specs.Readers.{place_of}
use Rattle.script_data.specs.declared.line.Line.{Line}
use Rattle.script_data.specs.declared.line.Verb.{Verb}
use Rattle.command_semantics.specs.declared.point.Point.{Point}
use Rattle.command_semantics.specs.declared.point.Point.TheVariants.{Drives}
use Rattle.command_semantics.specs.declared.point.View.{View}
use Rattle.command_semantics.specs.Next.{Clocks, next, drive_next, is_served, reading_at}
use Rattle.command_semantics.specs.Views.{view_of}
use Rattle.planned_cluster.specs.Standing.{clocks_at}
use Rattle.planned_cluster.specs.declared.planned.PlannedCluster.{PlannedCluster}
use Rattle.replay_driver.specs.GoingOn.{Makes, MakesNext, next_at}

-- the next event of an actor's line with this verb
abbrev pub next_of : PlannedCluster → List ℕ → Actor → Verb → Point → Option Event
next_of play leads who what point = next (clocks_at play.cluster play.clock leads) who what point (view_of play.cluster.state who)

pub line_is : (play : PlannedCluster) (leads : List ℕ) (line : Line) (point : Point) (who : Actor) (what : Verb) → line.actor ≡ who → line.verb ≡ what → next_at play leads line point ≡ next_of play leads who what point
line_is play leads line point who what actor verb =
    ap (λ (a : Actor). next_of play leads a line.verb point) actor ∙ ap (λ (v : Verb). next_of play leads who v point) verb

-- what was made by that event was made by the line's next
pub chosen : (old new : PlannedCluster) (leads : List ℕ) (line : Line) (point : Point) (who : Actor) (what : Verb) (event : Event) (result : Result Point NoMemory) → line.actor ≡ who → line.verb ≡ what → next_of old leads who what point ≡ Some event → IfOk result (Makes old line point (Some event) new) → IfOk result (MakesNext old leads line point new)
chosen old new leads line point who what event result actor verb is made =
    subst (λ (found : Option Event). IfOk result (Makes old line point found new)) (sym (line_is old leads line point who what actor verb ∙ is)) made

-- a request that waits to be accepted
accepted : (clocks : Clocks) (session : ℕ) (verb : Verb) (view : View) (request : ℕ × Place) (reading : ℕ) → request.1 ≡ Asked → is_served verb request.1 ≡ true → reading ≡ reading_at clocks request.0 → drive_next clocks session verb view (Some request) ≡ Some (Accept request.0 session reading)
accepted clocks session verb view request reading asked served is = rw (served, asked, is) refl

pub accept_next : (play : PlannedCluster) (leads : List ℕ) (line : Line) (session : ℕ) (request : ℕ × Place) (reading : ℕ) → line.actor ≡ Session session → place_of play.cluster.state session ≡ Some request → request.1 ≡ Asked → is_served line.verb request.1 ≡ true → reading ≡ reading_at (clocks_at play.cluster play.clock leads) request.0 → next_at play leads line Drives ≡ Some (Accept request.0 session reading)
accept_next play leads line session request reading actor is asked served reads =
    line_is play leads line Drives (Session session) line.verb actor refl
    ∙ ap (λ (found : Option (ℕ × Place)). drive_next (clocks_at play.cluster play.clock leads) session line.verb (view_of play.cluster.state (Session session)) found) is
    ∙ accepted (clocks_at play.cluster play.clock leads) session line.verb (view_of play.cluster.state (Session session)) request reading asked served reads
