-- For this crate's own proofs.
-- The clocks of a script run have room, and the reading of its next event is steady.
use Rattle.run_board.proofs.Names.{◌≡◌, ℕ, ◌+◌, ◌≤◌, ◌^◌, List, Some, All, length, sym, subst, arith, slice_index_or}
use Rattle.run_board.proofs.Names.{All-weaker, All-filter, SetupNumbers, Actor, Event, IsSteadyAt, reading_of, Line}
use Rattle.run_board.proofs.Names.{ScriptData, IsSound, same_actor, HaveRoom, IsPlayable, Clocks, clocks_of}
use Rattle.run_board.proofs.Names.{playable_at_first, Turn, lines_of, Carried, event_of, all_passed, at_first, carried}
use Rattle.run_board.proofs.Names.{OwnTurn, own_turn, turn_timed}
use Rattle.machine.specs.declared.event.Event.TheVariants as event
use Rattle.script_data.specs.Sound.{LineIsSound}
use Rattle.command_semantics.proofs.Timing.{Timed, tick_ahead}
use Rattle.planned_cluster.proofs.Rooms.{have_room}
use Rattle.turn_rules.specs.declared.turn.Turn.TheVariants as turn
use Rattle.turn_rules.proofs.Facts.{Facts, facts_all, facts_at_first}
use Rattle.turn_rules.proofs.OwnTimes.{own_tick}
use Rattle.turn_rules.proofs.OwnTurns.{stage_turn}

pub facts : (script : ScriptData) (turns : List Turn) → IsSound script → length script.lines ≤ 131072 → Facts script (carried script turns)
facts script turns sound few = facts_all script (playable_at_first script sound few) turns (all_passed script (at_first script)) (facts_at_first script sound.setup)

pub clock_room : (script : ScriptData) (turns : List Turn) → IsSound script → length script.lines ≤ 131072 → (carried script turns).played.clock + script.setup.skew ≤ 2 ^ 61
clock_room script turns sound few =
    let playable : IsPlayable script 0 script.lines = playable_at_first script sound few in
    let k : Facts script (carried script turns) = facts script turns sound few in
    omega (arith, k.time, playable.ticks)

-- for each line of an actor
pub lines_have_room : (script : ScriptData) (clock : ℕ) (actor : Actor) → IsSound script → length script.lines ≤ 131072 → clock + script.setup.skew ≤ 2 ^ 61 → All (λ (line : Line). HaveRoom clock script.leads line.verb) (lines_of script actor)
lines_have_room script clock actor sound few room =
    let playable : IsPlayable script 0 script.lines = playable_at_first script sound few in
    All-weaker (LineIsSound script.setup.nodes) (λ (line : Line). HaveRoom clock script.leads line.verb) (λ line k. have_room script clock line.verb playable.leads room (omega (arith, k.verb.rise))) (lines_of script actor) (All-filter (λ (line : Line). same_actor line.actor actor) (LineIsSound script.setup.nodes) script.lines sound.lines)

-- ---- readings
steady_by : (clocks : Clocks) (tick skew seen : ℕ) (e : Event) → Timed clocks tick e → ((node : ℕ) → slice_index_or clocks.leads node 0 ≤ skew) → clocks.base + skew ≤ 2 ^ 61 → seen ≤ clocks.base + skew → IsSteadyAt skew seen (reading_of e)
steady_by clocks tick skew seen (event.Take node reading) timed leads room before = (omega (arith, timed, leads node, room), omega (arith, timed, before))
steady_by clocks tick skew seen (event.Renew node reading) timed leads room before = (omega (arith, timed, leads node, room), omega (arith, timed, before))
steady_by clocks tick skew seen (event.Accept node session reading) timed leads room before = (omega (arith, timed, leads node, room), omega (arith, timed, before))
steady_by clocks tick skew seen _ timed leads room before = tt

record HasTime (clocks : Clocks) (e : Event) : Type 0 where
  tick : ℕ
  timed : Timed clocks tick e

has_time : (script : ScriptData) (c : Carried) (t : Turn) (e : Event) → event_of script c t ≡ Some e → HasTime (clocks_of script c.played) e
has_time script c (turn.Own actor aim) e is =
    let k : OwnTurn script c actor aim e = own_turn script c actor aim e is in
    record { tick = own_tick k.line.actor (tick_ahead k.seat.point k.line.verb); timed = turn_timed script c actor aim e k }
has_time script c (turn.Accept node session) e is = record { tick = 0; timed = (stage_turn script c (turn.Accept node session) e (λ own. own) is).timed }
has_time script c (turn.Decide node session) e is = record { tick = 0; timed = (stage_turn script c (turn.Decide node session) e (λ own. own) is).timed }
has_time script c (turn.Put node session) e is = record { tick = 0; timed = (stage_turn script c (turn.Put node session) e (λ own. own) is).timed }
has_time script c (turn.Answer node session) e is = record { tick = 0; timed = (stage_turn script c (turn.Answer node session) e (λ own. own) is).timed }
has_time script c (turn.Extend node) e is = record { tick = 0; timed = (stage_turn script c (turn.Extend node) e (λ own. own) is).timed }

pub steady : (script : ScriptData) (turns : List Turn) (t : Turn) (e : Event) → IsSound script → length script.lines ≤ 131072 → event_of script (carried script turns) t ≡ Some e → IsSteadyAt (carried script turns).played.state.setup.skew (carried script turns).played.state.seen (reading_of e)
steady script turns t e sound few is =
    let c : Carried = carried script turns in
    let k : Facts script c = facts script turns sound few in
    let time : HasTime (clocks_of script c.played) e = has_time script c t e is in
    subst (λ (setup : SetupNumbers). IsSteadyAt setup.skew c.played.state.seen (reading_of e)) (sym k.reached.setup) (steady_by (clocks_of script c.played) time.tick script.setup.skew c.played.state.seen e time.timed (playable_at_first script sound few).leads (clock_room script turns sound few) k.reached.seen)
