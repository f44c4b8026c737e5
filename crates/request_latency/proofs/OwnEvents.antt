-- The events of an actor's own turns serve no request, where the lines are of the forms for threads.
use Rattle.std.proofs.Common.{◌≡◌, ℕ, zero, suc, Bool, true, false, cond, List, [], ◌∷◌, Option, Some, None, subst}
use Rattle.std.specs.Prelude.{slice_get}
use Rattle.std.proofs.lemmas.Option.{same_Some, none-some}
use Rattle.history_book.specs.declared.item.Actor.{Actor}
use Rattle.history_book.specs.declared.item.Actor.TheVariants.{Clock, Node, Session, Janitor}
use Rattle.system_parts.specs.declared.instance.Place.{Place}
use Rattle.machine.specs.declared.event.Doing.{Doing}
use Rattle.machine.specs.declared.event.Doing.TheVariants as doing
use Rattle.machine.specs.declared.event.Event.{Event}
use Rattle.script_data.specs.declared.line.Line.{Line}
use Rattle.script_data.specs.declared.line.Verb.{Verb}
use Rattle.script_data.specs.declared.line.Verb.TheVariants as verb
use Rattle.script_data.specs.Data.{ScriptData}
use Rattle.command_semantics.specs.declared.point.Point.{Point}
use Rattle.command_semantics.specs.declared.point.Point.TheVariants.{Opens, Drives, Extends, Finishes, Reads, Steps, Over}
use Rattle.command_semantics.specs.declared.point.View.{View}
use Rattle.command_semantics.specs.Answers.{same_actor}
use Rattle.command_semantics.specs.Next.{Clocks, is_served, finish_next, places, placing_next, idle_next, read_next, steps_next, sweep_next}
use Rattle.command_semantics.specs.Views.{view_of}
use Rattle.turn_rules.specs.declared.ahead.NextAction.{NextAction}
use Rattle.turn_rules.specs.declared.ahead.NextAction.TheVariants.{Makes, Waits, Passes}
use Rattle.turn_rules.specs.declared.ahead.Why.TheVariants.{Reply, Name}
use Rattle.turn_rules.specs.declared.turn.Turn.TheVariants as turn
use Rattle.turn_rules.specs.Carried.{Carried, aimed_clocks, name_posted, made_by, event_of}
use Rattle.turn_rules.specs.Seats.{ahead_of}
use Rattle.turn_rules.specs.Told.{IsForThreads, AreForThreads}
use Rattle.turn_rules.specs.Waiting.{made_next, drive_ahead, collect_ahead, own_opens, own_next}
use Rattle.turn_rules.proofs.OwnTurns.{OwnTurn, own_turn}
use Rattle.turn_rules.proofs.SeatLists.{Filtered, filtered}
use Rattle.request_latency.proofs.NodeEvents.{ServesNone}

abbrev IfServesNone : Option Event → Type 0
IfServesNone None = Unit {0}
IfServesNone (Some e) = ServesNone e

abbrev AheadServesNone : NextAction → Type 0
AheadServesNone (Makes e) = ServesNone e
AheadServesNone _ = Unit {0}

made_none : (found : Option Event) → IfServesNone found → AheadServesNone (made_next found)
made_none None none = tt
made_none (Some e) none = none

posted_none : (posted : Bool) (e : Event) → ServesNone e → AheadServesNone (cond posted (Makes e) (Waits Name))
posted_none true e none = none
posted_none false e none = tt

-- ---- a session
finish_none : (s : ℕ) (now : Doing) → IfServesNone (finish_next s now)
finish_none s doing.Completing = tt
finish_none s _ = tt

placing_none : (s : ℕ) (now : Doing) (placed : Bool) → IfServesNone (placing_next s now placed)
placing_none s doing.Placing true = tt
placing_none s doing.Placing false = tt
placing_none s doing.Completing placed = tt
placing_none s _ placed = tt

idle_none : (s : ℕ) (now : Doing) → IfServesNone (idle_next s now)
idle_none s doing.Free = tt
idle_none s doing.Gone = tt
idle_none s doing.Open = tt
idle_none s _ = tt

read_none : (s : ℕ) (now : Doing) → IfServesNone (read_next s now)
read_none s doing.Reading = tt
read_none s _ = tt

steps_none : (s : ℕ) (now : Doing) → IfServesNone (steps_next s now)
steps_none s doing.Reading = tt
steps_none s doing.Placing = tt
steps_none s doing.OpenOutcome = tt
steps_none s doing.Completing = tt
steps_none s _ = tt

waits_none : (served : Bool) → AheadServesNone (cond served (Waits Reply) Passes)
waits_none true = tt
waits_none false = tt

drive_none : (s : ℕ) (line : Verb) (view : View) (request : Option (ℕ × Place)) → AheadServesNone (drive_ahead s line view request)
drive_none s line view None = made_none (placing_next s view.doing (places line)) (placing_none s view.doing (places line))
drive_none s line view (Some request) = waits_none (is_served line request.1)

collect_none : (s : ℕ) (view : View) (unawaited : Bool) (request : Option (ℕ × Place)) → AheadServesNone (collect_ahead s view unawaited request)
collect_none s view unawaited (Some request) = tt
collect_none s view true None = made_none (placing_next s view.doing true) (placing_none s view.doing true)
collect_none s view false None = made_none (idle_next s view.doing) (idle_none s view.doing)

-- ---- a line that opens
session_opens_none : (clocks : Clocks) (posted : Bool) (s : ℕ) (line : Verb) (view : View) (unawaited : Bool) → AheadServesNone (own_opens clocks posted (Session s) line view unawaited)
session_opens_none clocks posted s verb.Collect view unawaited = collect_none s view unawaited view.request
session_opens_none clocks posted s (verb.Await name) view unawaited = posted_none posted _ tt
session_opens_none clocks posted s _ view unawaited = tt

node_opens_none : (clocks : Clocks) (posted : Bool) (n : ℕ) (line : Verb) (view : View) (unawaited : Bool) → IsForThreads line → AheadServesNone (own_opens clocks posted (Node n) line view unawaited)
node_opens_none clocks posted n (verb.Accept session) view unawaited on = absurd on
node_opens_none clocks posted n (verb.Decide session) view unawaited on = absurd on
node_opens_none clocks posted n (verb.Put session) view unawaited on = absurd on
node_opens_none clocks posted n (verb.Answer session) view unawaited on = absurd on
node_opens_none clocks posted n (verb.Await name) view unawaited on = posted_none posted _ tt
node_opens_none clocks posted n _ view unawaited on = tt

clock_opens_none : (clocks : Clocks) (posted : Bool) (line : Verb) (view : View) (unawaited : Bool) → AheadServesNone (own_opens clocks posted Clock line view unawaited)
clock_opens_none clocks posted (verb.Await name) view unawaited = posted_none posted _ tt
clock_opens_none clocks posted _ view unawaited = tt

janitor_opens_none : (clocks : Clocks) (posted : Bool) (line : Verb) (view : View) (unawaited : Bool) → AheadServesNone (own_opens clocks posted Janitor line view unawaited)
janitor_opens_none clocks posted (verb.Await name) view unawaited = posted_none posted _ tt
janitor_opens_none clocks posted _ view unawaited = tt

opens_none : (clocks : Clocks) (posted : Bool) (actor : Actor) (line : Verb) (view : View) (unawaited : Bool) → IsForThreads line → AheadServesNone (own_opens clocks posted actor line view unawaited)
opens_none clocks posted Clock line view unawaited on = clock_opens_none clocks posted line view unawaited
opens_none clocks posted (Node n) line view unawaited on = node_opens_none clocks posted n line view unawaited on
opens_none clocks posted (Session s) line view unawaited on = session_opens_none clocks posted s line view unawaited
opens_none clocks posted Janitor line view unawaited on = janitor_opens_none clocks posted line view unawaited

-- ---- a line at any point
sweep_none : (sweeping : Bool) → IfServesNone (sweep_next sweeping)
sweep_none true = tt
sweep_none false = tt

ahead_none : (clocks : Clocks) (posted : Bool) (actor : Actor) (line : Verb) (at : Point) (view : View) (unawaited : Bool) → IsForThreads line → AheadServesNone (own_next clocks posted actor line at view unawaited)
ahead_none clocks posted actor line Opens view unawaited on = opens_none clocks posted actor line view unawaited on
ahead_none clocks posted (Session s) line Drives view unawaited on = drive_none s line view view.request
ahead_none clocks posted (Session s) line Extends view unawaited on = tt
ahead_none clocks posted (Session s) line Finishes view unawaited on = made_none (finish_next s view.doing) (finish_none s view.doing)
ahead_none clocks posted (Session s) line Reads view unawaited on = made_none (read_next s view.doing) (read_none s view.doing)
ahead_none clocks posted (Session s) line Steps view unawaited on = made_none (steps_next s view.doing) (steps_none s view.doing)
ahead_none clocks posted (Session s) line Over view unawaited on = tt
ahead_none clocks posted Janitor line Steps view unawaited on = made_none (sweep_next view.sweeping) (sweep_none view.sweeping)
ahead_none clocks posted Janitor line Drives view unawaited on = tt
ahead_none clocks posted Janitor line Extends view unawaited on = tt
ahead_none clocks posted Janitor line Finishes view unawaited on = tt
ahead_none clocks posted Janitor line Reads view unawaited on = tt
ahead_none clocks posted Janitor line Over view unawaited on = tt
ahead_none clocks posted (Node n) line Drives view unawaited on = tt
ahead_none clocks posted (Node n) line Extends view unawaited on = tt
ahead_none clocks posted (Node n) line Finishes view unawaited on = tt
ahead_none clocks posted (Node n) line Reads view unawaited on = tt
ahead_none clocks posted (Node n) line Steps view unawaited on = tt
ahead_none clocks posted (Node n) line Over view unawaited on = tt
ahead_none clocks posted Clock line _ view unawaited on = tt

-- ---- an own turn
threads_at : (lines : List Line) (n : ℕ) (line : Line) → AreForThreads lines → slice_get lines n ≡ Some line → IsForThreads line.verb
unfolding AreForThreads
threads_at [] n line on is = absurd (none-some line is)
threads_at (x ∷ xs) zero line on is = subst (λ (z : Line). IsForThreads z.verb) (same_Some x line is) on.0
threads_at (x ∷ xs) (suc n) line on is = threads_at xs n line on.1 is

made_serves : (ahead : NextAction) (e : Event) → AheadServesNone ahead → made_by ahead ≡ Some e → ServesNone e
made_serves (Makes x) e none is = subst ServesNone (same_Some x e is) none
made_serves (Waits why) e none is = absurd (none-some e is)
made_serves Passes e none is = absurd (none-some e is)

pub own_serves_none : (script : ScriptData) (c : Carried) (actor : Actor) (aim : ℕ) (e : Event) → AreForThreads script.lines → event_of script c (turn.Own actor aim) ≡ Some e → ServesNone e
own_serves_none script c actor aim e on is =
    let k : OwnTurn script c actor aim e = own_turn script c actor aim e is in
    let there : Filtered (λ (x : Line). same_actor x.actor k.seat.actor) script.lines k.line = filtered (λ (x : Line). same_actor x.actor k.seat.actor) script.lines k.seat.place k.line k.present in
    made_serves (ahead_of (aimed_clocks script c aim) (name_posted c.names k.line.verb) (view_of c.played.state k.line.actor) k.line k.seat) e (ahead_none (aimed_clocks script c aim) (name_posted c.names k.line.verb) k.line.actor k.line.verb k.seat.point (view_of c.played.state k.line.actor) k.seat.unawaited (threads_at script.lines there.place k.line on there.is)) k.makes
