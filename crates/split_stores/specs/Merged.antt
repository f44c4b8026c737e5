-- The history of the logs of all seats: their entries in the order of ticks, each one step of the machine.
use Rattle.std.specs.Prelude.{◌≡◌, ◌≢◌, ℕ, ◌+◌, ◌⊎◌, List, [], ◌∷◌, flat_map, length, take, slice_get, Option, None, Some}
use Rattle.history_book.specs.declared.item.Item.{Item}
use Rattle.history_book.specs.Members.{AtEach}
use Rattle.machine.specs.declared.event.Event as machine
use Rattle.script_data.specs.Data.{ScriptData}
use Rattle.command_semantics.specs.Master.{last_master}
use Rattle.command_semantics.specs.Runs.{Played, played, opening_played, step_of}
use Rattle.cluster_core.specs.ClusterModel.{ClusterModel}
use Rattle.split_parts.specs.declared.event.Event.{Event}
pub use Rattle.split_parts.specs.Acts.{timed_at}
use Rattle.split_stores.specs.declared.seat.Entry.{Entry}
use Rattle.split_stores.specs.declared.settling.SettleStop.{SettleStop}
use Rattle.split_stores.specs.declared.settling.SettleStop.TheVariants.{Missing, Torn, NoMemory}
use Rattle.split_stores.specs.Logs.{Logged}
use Rattle.split_stores.specs.Merging.{logs_of, InTickOrder}

-- ---- one entry
-- at the base clock of what was played so far, where the master is the node that took the record last
abbrev pub timed_in : ScriptData → Played → Event → machine.Event
timed_in script p e = timed_at p.clock script.leads (last_master p.items) e

-- the items that the step of an event appends, under the planned fate of its store call
abbrev pub replayed_items : ScriptData → Played → Event → List Item
replayed_items script p e = (step_of script p (timed_in script p e)).items

-- what was played with the event
abbrev pub played_with : ScriptData → Played → Event → Played
played_with script p e = played script p (timed_in script p e)

-- the entry kept the items that its step appends
abbrev pub IsReplayed : ScriptData → Played → Entry → Type 0
IsReplayed script p e = e.kept.items ≡ replayed_items script p e.event

-- ---- entries in order
-- what their events come to, one after the other
unfoldable pub entries_played : ScriptData → List Entry → Played → Played
entries_played script [] p = p
entries_played script (e ∷ es) p = entries_played script es (played_with script p e.event)

-- from the opening on, at base clock 0
abbrev pub merged_played : ScriptData → List Entry → Played
merged_played script merged = entries_played script merged (opening_played script)

-- each entry kept the items that its step appends
abbrev pub AllReplayed : ScriptData → List Entry → Type 0
AllReplayed script merged = AtEach (λ before e. IsReplayed script (merged_played script before) e) merged

abbrev pub kept_items : List Entry → List Item
kept_items entries = flat_map (λ e. e.kept.items) entries

-- the cluster is where these entries lead to in this order, all of which kept what their steps append; and its history is what
-- they kept, each item once
pub record IsSettledAt (script : ScriptData) (merged : List Entry) (whole : ClusterModel) : Type 0 where
  pub replayed : AllReplayed script merged
  pub state : whole.state ≡ (merged_played script merged).state
  pub items : whole.history ≡ (merged_played script merged).items
  pub history : whole.history ≡ kept_items merged

-- so it is with the entries of all logs, in the order of their ticks
pub record Settled (script : ScriptData) (logs : List Entry) (whole : ClusterModel) : Type 0 where
  pub merged : List Entry
  pub in_order : InTickOrder logs merged
  pub settled : IsSettledAt script merged whole

-- ---- where they differ
-- none where the lists are one; else the items at the first place where they differ, none where a list has ended
unfoldable pub Differ : List Item → List Item → Option (Option Item × Option Item) → Type 0
Differ [] [] found = found ≡ None
Differ (x ∷ xs) [] found = found ≡ Some (Some x, None)
Differ [] (y ∷ ys) found = found ≡ Some (None, Some y)
Differ (x ∷ xs) (y ∷ ys) found = ((x ≡ y) × Differ xs ys found) ⊎ ((x ≢ y) × (found ≡ Some (Some x, Some y)))

-- this entry kept other items than its step appends
pub record Tears (script : ScriptData) (p : Played) (e : Entry) (tick : ℕ) (kept replayed : Option Item) : Type 0 where
  pub at : tick ≡ e.tick
  pub differ : Differ e.kept.items (replayed_items script p e.event) (Some (kept, replayed))

-- making one entry again stops so
abbrev pub TurnStops : ScriptData → Played → Entry → SettleStop → Type 0
TurnStops script p e (Missing made given) = ⊥
TurnStops script p e (Torn tick kept replayed) = Tears script p e tick kept replayed
TurnStops script p e NoMemory = Unit {0}

-- it is the first in the order of ticks: all before it agree
pub record IsTorn (script : ScriptData) (merged : List Entry) (tick : ℕ) (kept replayed : Option Item) : Type 0 where
  pub place : ℕ
  pub entry : Entry
  pub there : slice_get merged place ≡ Some entry
  pub before : AllReplayed script (take place merged)
  pub tears : Tears script (merged_played script (take place merged)) entry tick kept replayed

abbrev pub ReplayStops : ScriptData → List Entry → SettleStop → Type 0
ReplayStops script merged (Missing made given) = ⊥
ReplayStops script merged (Torn tick kept replayed) = IsTorn script merged tick kept replayed
ReplayStops script merged NoMemory = Unit {0}

-- so it is with the entries of all logs
pub record IsTornInOrder (script : ScriptData) (logs : List Entry) (tick : ℕ) (kept replayed : Option Item) : Type 0 where
  pub merged : List Entry
  pub in_order : InTickOrder logs merged
  pub torn : IsTorn script merged tick kept replayed

abbrev pub SettleStops : ScriptData → ℕ → List Logged → SettleStop → Type 0
SettleStops script seats logs (Missing made given) = (made ≡ seats) × (given ≡ length logs) × (given ≢ made)
SettleStops script seats logs (Torn tick kept replayed) = (length logs ≡ seats) × IsTornInOrder script (logs_of logs) tick kept replayed
SettleStops script seats logs NoMemory = Unit {0}
