-- What every event with a steady reading keeps, turns keep, whichever are made.
use Rattle.std.proofs.Common.{◌≡◌, ℕ, ◌≤◌, List, [], ◌∷◌, Option, Some, None, refl, sym, subst, arith}
use Rattle.std.specs.Prelude.{fold}
use Rattle.stamp_base.specs.SetupNumbers.{SetupNumbers, AreInRange}
use Rattle.history_book.specs.declared.item.Actor.{Actor}
use Rattle.history_book.specs.declared.item.Actor.TheVariants.{Clock, Node, Session, Janitor}
use Rattle.history_book.specs.declared.item.Item.{Item}
use Rattle.machine.specs.declared.event.Event.{Event}
use Rattle.machine.specs.State.{State, opening}
use Rattle.machine.specs.Machine.{reading_of, IsSteadyAt}
use Rattle.script_data.specs.Data.{ScriptData}
use Rattle.command_semantics.specs.Laws.{IsPlayable}
use Rattle.command_semantics.specs.Next.{Clocks}
use Rattle.command_semantics.specs.Runs.{clocks_of, fate_of, played}
use Rattle.command_semantics.proofs.Ending.{Keeps}
use Rattle.command_semantics.proofs.Timing.{tick_ahead, Timed, InTime, in_time}
use Rattle.turn_rules.specs.declared.turn.Turn.{Turn}
use Rattle.turn_rules.specs.declared.turn.Turn.TheVariants as turn
use Rattle.turn_rules.specs.Carried.{Carried, seat_of, event_of, turned_by, turned, at_first, all_passed, carried}
use Rattle.turn_rules.proofs.Facts.{Facts, ticks_left, clock_ticks, facts_turned, facts_at_first}
use Rattle.turn_rules.proofs.OwnTimes.{own_tick}
use Rattle.turn_rules.proofs.OwnTurns.{OwnTurn, own_turn, turn_timed, stage_turn}
use Rattle.script_service.specs.Service.{TurnsKeepService}
use Rattle.script_service.proofs.EventsKeep.{ServiceLaws, Served, served_at_first, served_kept, served_now}

-- a property of the state and the history, of what was carried out
abbrev HasNow : (State → List Item → Type 0) → Carried → Type 0
HasNow P c = P c.played.state c.played.items

-- an event that the clocks time, with a tick that is still ahead of the clock
after_event : (P : State → List Item → Type 0) → Keeps P → (script : ScriptData) (c : Carried) (tick : ℕ) (e : Event) → IsPlayable script 0 script.lines → Facts script c → HasNow P c → Timed (clocks_of script c.played) tick e → tick ≤ ticks_left script (seat_of c.seats Clock) → P (played script c.played e).state (played script c.played e).items
after_event P keeps script c tick e playable k has timed ahead =
    let clocks : Clocks = clocks_of script c.played in
    let skew : ℕ = script.setup.skew in
    let it : InTime clocks tick skew c.played.state.seen e = in_time clocks tick skew c.played.state.seen e timed (record { leads = playable.leads; room = omega (arith, k.time, ahead, playable.ticks); before = k.reached.seen }) in
    let steady : IsSteadyAt c.played.state.setup.skew c.played.state.seen (reading_of e) = subst (λ (setup : SetupNumbers). IsSteadyAt setup.skew c.played.state.seen (reading_of e)) (sym k.reached.setup) it.steady in
    keeps c.played.state c.played.items e (fate_of script c.played e) has steady

-- the clock's own turn
after_clock : (P : State → List Item → Type 0) → Keeps P → (script : ScriptData) (c : Carried) (aim : ℕ) (e : Event) → IsPlayable script 0 script.lines → Facts script c → HasNow P c → OwnTurn script c Clock aim e → P (played script c.played e).state (played script c.played e).items
after_clock P keeps script c aim e playable k has own =
    let timed : Timed (clocks_of script c.played) (tick_ahead own.seat.point own.line.verb) e = subst (λ (a : Actor). Timed (clocks_of script c.played) (own_tick a (tick_ahead own.seat.point own.line.verb)) e) own.own (turn_timed script c Clock aim e own) in
    after_event P keeps script c (tick_ahead own.seat.point own.line.verb) e playable k has timed (omega (arith, clock_ticks script c aim e own))

-- the own turn of another actor
after_other : (P : State → List Item → Type 0) → Keeps P → (script : ScriptData) (c : Carried) (actor : Actor) (aim : ℕ) (e : Event) → IsPlayable script 0 script.lines → Facts script c → HasNow P c → OwnTurn script c actor aim e → ((tick : ℕ) → own_tick actor tick ≡ 0) → P (played script c.played e).state (played script c.played e).items
after_other P keeps script c actor aim e playable k has own quiet =
    let timed : Timed (clocks_of script c.played) (own_tick actor (tick_ahead own.seat.point own.line.verb)) e = subst (λ (a : Actor). Timed (clocks_of script c.played) (own_tick a (tick_ahead own.seat.point own.line.verb)) e) own.own (turn_timed script c actor aim e own) in
    let still : Timed (clocks_of script c.played) 0 e = subst (λ (tick : ℕ). Timed (clocks_of script c.played) tick e) (quiet (tick_ahead own.seat.point own.line.verb)) timed in
    after_event P keeps script c 0 e playable k has still (omega arith)

-- a stage's turn
after_stage : (P : State → List Item → Type 0) → Keeps P → (script : ScriptData) (c : Carried) (e : Event) → IsPlayable script 0 script.lines → Facts script c → HasNow P c → Timed (clocks_of script c.played) 0 e → P (played script c.played e).state (played script c.played e).items
after_stage P keeps script c e playable k has timed = after_event P keeps script c 0 e playable k has timed (omega arith)

-- ---- each turn
after_turn : (P : State → List Item → Type 0) → Keeps P → (script : ScriptData) (c : Carried) (t : Turn) (e : Event) → IsPlayable script 0 script.lines → Facts script c → HasNow P c → event_of script c t ≡ Some e → P (played script c.played e).state (played script c.played e).items
after_turn P keeps script c (turn.Own Clock aim) e playable k has is = after_clock P keeps script c aim e playable k has (own_turn script c Clock aim e is)
after_turn P keeps script c (turn.Own (Node n) aim) e playable k has is = after_other P keeps script c (Node n) aim e playable k has (own_turn script c (Node n) aim e is) (λ tick. refl)
after_turn P keeps script c (turn.Own (Session s) aim) e playable k has is = after_other P keeps script c (Session s) aim e playable k has (own_turn script c (Session s) aim e is) (λ tick. refl)
after_turn P keeps script c (turn.Own Janitor aim) e playable k has is = after_other P keeps script c Janitor aim e playable k has (own_turn script c Janitor aim e is) (λ tick. refl)
after_turn P keeps script c (turn.Accept node session) e playable k has is = after_stage P keeps script c e playable k has (stage_turn script c (turn.Accept node session) e (λ own. own) is).timed
after_turn P keeps script c (turn.Decide node session) e playable k has is = after_stage P keeps script c e playable k has (stage_turn script c (turn.Decide node session) e (λ own. own) is).timed
after_turn P keeps script c (turn.Put node session) e playable k has is = after_stage P keeps script c e playable k has (stage_turn script c (turn.Put node session) e (λ own. own) is).timed
after_turn P keeps script c (turn.Answer node session) e playable k has is = after_stage P keeps script c e playable k has (stage_turn script c (turn.Answer node session) e (λ own. own) is).timed
after_turn P keeps script c (turn.Extend node) e playable k has is = after_stage P keeps script c e playable k has (stage_turn script c (turn.Extend node) e (λ own. own) is).timed

after_found : (P : State → List Item → Type 0) → Keeps P → (script : ScriptData) (c : Carried) (t : Turn) → IsPlayable script 0 script.lines → Facts script c → HasNow P c → (found : Option Event) → event_of script c t ≡ found → HasNow P (turned_by script c t found)
after_found P keeps script c t playable k has None is = has
after_found P keeps script c t playable k has (Some e) is = after_turn P keeps script c t e playable k has is

-- ---- all turns
after_all : (P : State → List Item → Type 0) → Keeps P → (script : ScriptData) → IsPlayable script 0 script.lines → (turns : List Turn) (c : Carried) → Facts script c → HasNow P c → HasNow P (fold (turned script) c turns)
after_all P keeps script playable [] c k has = has
after_all P keeps script playable (t ∷ turns) c k has = after_all P keeps script playable turns (turned script c t) (facts_turned script c t playable k) (after_found P keeps script c t playable k has (event_of script c t) refl)

turns_keep : (P : State → List Item → Type 0) (script : ScriptData) (turns : List Turn) → Keeps P → P (opening script.setup) [] → AreInRange script.setup → IsPlayable script 0 script.lines → HasNow P (carried script turns)
turns_keep P script turns keeps first in_range playable = after_all P keeps script playable turns (all_passed script (at_first script)) (facts_at_first script in_range) first

pub turns_keep_service : ServiceLaws → TurnsKeepService
turns_keep_service laws script turns in_range playable = served_now laws script.setup _ _ (turns_keep (Served script.setup) script turns (served_kept laws script.setup) (served_at_first laws script.setup in_range) in_range playable)
