-- For this crate's own proofs.
-- What a script run keeps beside its turns, and a call that makes one turn more of it.
use Rattle.run_board.proofs.Names.{◌≡◌, ℕ, ◌≤◌, Bool, List, Option, Some, Result, drop, length, map, Fate, Item, Event}
use Rattle.run_board.proofs.Names.{Stopped, Interruption, halt_of, played, ClusterModel, StandsAt, Reaches, PlaysOn}
use Rattle.run_board.proofs.Names.{clocks_at, Holds, Turn, was_asked, names_after, event_of, held_after, IsFree}
use Rattle.run_board.proofs.Names.{IsInPlace, stage_of, Seated, step_in, halted, lacking_after, cleared, Ran}
use Rattle.run_board.proofs.Names.{reached_by, SitsAt, IsCarriedOut, after_turn, after_passing}
use Rattle.stamp_base.specs.declared.stores.Store.{Store}

-- the cluster with its clock and the fates ahead, the names that were posted, what the stages hold, who is seated, and which nodes
-- lack stamps
pub record Kept : Type 0 where
  pub whole : ClusterModel
  pub clock : ℕ
  pub ahead : Store → ℕ → Fate
  pub names : List (List ℕ)
  pub held : List Holds
  pub seated : List Seated
  pub lacking : List Bool

-- it is what the turns made
pub record IsMade (r : Ran) (kept : Kept) : Type 0 where
  pub stands : StandsAt r.script (reached_by r).played kept.whole kept.clock kept.ahead
  pub sits : SitsAt r.script (reached_by r) kept.names kept.held kept.seated
  pub out : IsCarriedOut r.script r.turns kept.lacking

-- ---- a turn's call
-- how it answered and so where its event stopped, how long the history was before it, and where cluster, clock and fates are after it
pub record Call : Type 0 where
  pub turn : Turn
  pub event : Event
  pub answer : Result Unit Stopped
  pub stop : Option Interruption
  pub before : ℕ
  pub now : ClusterModel
  pub after : ℕ
  pub later : Store → ℕ → Fate

-- the items since
abbrev pub since : Call → List Item
since call = drop call.before call.now.history

-- the turn can be made where the run stands
pub record CanTurn (r : Ran) (t : Turn) (e : Event) : Type 0 where
  pub event : event_of r.script (reached_by r) t ≡ Some e
  pub free : IsFree (reached_by r).held (stage_of t)
  pub in_place : IsInPlace (reached_by r).played.state t

-- memory was not refused, and the event was made of what was kept
pub record Calls (kept : Kept) (call : Call) : Type 0 where
  pub length_is : call.before ≡ length kept.whole.history
  pub plays : PlaysOn call.event call.answer kept.whole kept.clock kept.ahead call.now call.after call.later
  pub halts : halted call.answer ≡ Some call.stop

-- as where nothing was made, and as where the event was
abbrev pub StillStands : Ran → Call → Type 0
StillStands r call = StandsAt r.script (reached_by r).played call.now call.after call.later

abbrev pub HasPlayed : Ran → Call → Type 0
HasPlayed r call = StandsAt r.script (played r.script (reached_by r).played call.event) call.now call.after call.later

-- the call went so far, and the history has grown by the event's items
pub record HasGone (r : Ran) (call : Call) : Type 0 where
  pub reaches : Reaches (step_in r call.event).stop call.answer (StillStands r call) (HasPlayed r call)
  pub halts : halted call.answer ≡ Some call.stop
  pub stands : HasPlayed r call
  pub stopped : call.stop ≡ halt_of (step_in r call.event).stop
  pub least : call.before ≤ length call.now.history
  pub appended : since call ≡ (step_in r call.event).items

-- ---- what is kept after it
-- the seats before lines are passed
abbrev pub moved_by : Kept → Call → List Seated
moved_by kept call = map (after_turn call.turn call.stop (was_asked (since call))) kept.seated

abbrev pub kept_after : List ℕ → Kept → Call → Kept
kept_after leads kept call = record {
  whole = call.now;
  clock = call.after;
  ahead = call.later;
  names = names_after kept.names call.event;
  held = held_after kept.held call.event;
  seated = map (after_passing (clocks_at call.now call.after leads) call.now.state) (moved_by kept call);
  lacking = lacking_after (cleared kept.lacking) call.turn call.stop;
}

-- where it was left out
abbrev pub kept_still : Kept → Call → Kept
kept_still kept call = record kept { whole = call.now; clock = call.after; ahead = call.later; lacking = lacking_after kept.lacking call.turn call.stop }
