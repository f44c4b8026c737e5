-- For run_board too.
-- How far an event moves the room that is kept for requests: an accept reserves at most five items, no other event reserves any, and
-- what serves a request uses up as much as it appends.
use Rattle.cluster_core.proofs.Names.{◌≡◌, ◌≤◌, ◌+◌, ℕ, Bool, true, false, List, length, Option, Some, None, Result}
use Rattle.cluster_core.proofs.Names.{arith, Item, Held, Event, Stopped, is_to_decide, is_to_put, is_to_answer}
use Rattle.cluster_core.proofs.Names.{SpendsIf, ClusterModel, held_in, is_served, ReservesFor, KeepsRoom, LeavesRoom}
use Rattle.cluster_core.proofs.Names.{most_reserved}
use Rattle.machine.specs.declared.event.Event.TheVariants as event
use Rattle.cluster_core.proofs.RoomKept.{five_or_none}

reserves_at_most : (held : Option Held) (result : Result Unit Stopped) (before now : ℕ) → ReservesFor held result before now → now ≤ before + 5
reserves_at_most None result before now within = within.1
reserves_at_most (Some held) result before now five = (five_or_none result before now five).1

spends_at_most : (served : Bool) (before now : ℕ) (history later : List Item) → length history ≤ length later → SpendsIf served before history now later → now ≤ before + 0
spends_at_most true before now history later grown all = omega (arith, grown, all)
spends_at_most false before now history later grown same = omega (arith, same)

keeps : (old now : ClusterModel) → KeepsRoom old now → now.spare ≤ old.spare + 0
keeps old now room = omega (arith, room.spare)

pub room_rises : (old now : ClusterModel) (e : Event) (result : Result Unit Stopped) → length old.history ≤ length now.history → LeavesRoom e old now result → now.spare ≤ old.spare + most_reserved e
room_rises old now (event.Accept n s reading) result grown room = reserves_at_most (held_in old.state n s) result old.spare now.spare room.spare
room_rises old now (event.Decide n s) result grown room = spends_at_most (is_to_decide (held_in old.state n s)) old.spare now.spare old.history now.history grown room.spare
room_rises old now (event.Put n s) result grown room = spends_at_most (is_to_put (held_in old.state n s)) old.spare now.spare old.history now.history grown room.spare
room_rises old now (event.Answer n s) result grown room = spends_at_most (is_to_answer (held_in old.state n s)) old.spare now.spare old.history now.history grown room.spare
room_rises old now e result grown room = keeps old now room

spends_all : (served : Bool) (before now : ℕ) (history later : List Item) → served ≡ true → SpendsIf served before history now later → now + length later ≡ before + length history
spends_all true before now history later is all = all
spends_all false before now history later is same = absurd (cc)

-- what an event that serves a request appends is taken out of the room
pub served_spends : (old now : ClusterModel) (e : Event) (result : Result Unit Stopped) → is_served old.state e ≡ true → LeavesRoom e old now result → now.spare + length now.history ≡ old.spare + length old.history
served_spends old now (event.Decide n s) result is room = spends_all (is_to_decide (held_in old.state n s)) old.spare now.spare old.history now.history is room.spare
served_spends old now (event.Put n s) result is room = spends_all (is_to_put (held_in old.state n s)) old.spare now.spare old.history now.history is room.spare
served_spends old now (event.Answer n s) result is room = spends_all (is_to_answer (held_in old.state n s)) old.spare now.spare old.history now.history is room.spare
served_spends old now e result is room = absurd (cc)
