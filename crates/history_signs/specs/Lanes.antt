-- The lanes of a picture: one for each actor that occurs, and one for the commit table.
use Rattle.std.specs.Prelude.{ℕ, zero, suc, ◌+◌, ◌==◌, Bool, false, ◌||◌, if◌then◌else◌, List, [], ◌∷◌, ◌++◌}
use Rattle.std.specs.Prelude.{ltb}
use Rattle.history_book.specs.declared.item.Actor.{Actor}
use Rattle.history_book.specs.declared.item.Actor.TheVariants.{Clock, Node, Session, Janitor}
use Rattle.history_book.specs.declared.item.Item.{Item}
use Rattle.history_book.specs.declared.item.Item.TheVariants as item
use Rattle.history_signs.specs.declared.chosen.Chosen.{Chosen}

-- from top to bottom: the clock, the nodes, the commit table, the sessions, the janitor
abbrev pub node_lane : ℕ → ℕ
node_lane node = node + 1

abbrev pub session_lane : ℕ → ℕ
session_lane session = session + 10

abbrev pub actor_lane : Actor → ℕ
actor_lane Clock = 0
actor_lane (Node node) = node_lane node
actor_lane (Session session) = session_lane session
actor_lane Janitor = 26

-- the lane in which the item's sign stands
abbrev pub lane_of : Item → ℕ
lane_of (item.Tick to) = 0
lane_of (item.Note actor note) = actor_lane actor
lane_of (item.Take node reading term epoch until ceiling) = node_lane node
lane_of (item.Renew node reading term until) = node_lane node
lane_of (item.Extend node term ceiling) = node_lane node
lane_of (item.AskBegin session node) = session_lane session
lane_of (item.AskCommit session node start) = session_lane session
lane_of (item.Accept session node term reading) = node_lane node
lane_of (item.Draw session node term start commit) = node_lane node
lane_of (item.Begin session start) = session_lane session
lane_of (item.Write session start key value) = session_lane session
lane_of (item.Read session start key answer) = session_lane session
lane_of (item.Placed start commit) = 9
lane_of (item.Committed session start commit) = session_lane session
lane_of (item.Mark actor start) = actor_lane actor
lane_of (item.Step actor what) = actor_lane actor
lane_of (item.End session start how) = session_lane session
lane_of (item.Refused actor cause) = actor_lane actor
lane_of (item.Fault actor store) = actor_lane actor
lane_of (item.Crash node term) = node_lane node
lane_of (item.Vanish session) = session_lane session

-- a sign stands in the lane
unfoldable pub occurs : ℕ → List Chosen → Bool
occurs lane [] = false
occurs lane (x ∷ xs) = (lane_of x.item == lane) || occurs lane xs

-- the lanes below this number in which signs stand, from top to bottom
unfoldable pub lanes_below : ℕ → List Chosen → List ℕ
lanes_below zero chosen = []
lanes_below (suc n) chosen = if occurs n chosen then lanes_below n chosen ++ n ∷ [] else lanes_below n chosen

-- the lanes of a picture of these items
abbrev pub lanes_for : List Chosen → List ℕ
lanes_for chosen = lanes_below 27 chosen

-- the row of a lane: so many of the lanes are above it
unfoldable pub row_of : ℕ → List ℕ → ℕ
row_of lane [] = 0
row_of lane (other ∷ lanes) = (if ltb other lane then 1 else 0) + row_of lane lanes
