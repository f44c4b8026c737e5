-- What an event makes of the lent parts themselves, by its effect on what they hold.
use Rattle.std.specs.FinMap as map
use Rattle.std.specs.Prelude.{◌≡◌, ◌<◌, ℕ, [], List, Option, None, Some, Result, IsSome, IsSomeAnd}
use Rattle.port_io.specs.declared.weather.Fate.{Fate}
use Rattle.history_book.specs.declared.item.Item.{Item}
use Rattle.history_book.specs.declared.item.Item.TheVariants as item
use Rattle.machine.specs.declared.event.Event.{Event}
use Rattle.machine.specs.declared.event.Event.TheVariants as event
use Rattle.machine.specs.Machine.{stepped}
use Rattle.split_parts.specs.Agrees.{HasSession}
use Rattle.system_parts.specs.Rows.{Row}
use Rattle.system_parts.specs.Instance.{InstanceEntry}
use Rattle.machine.specs.State.{Client}
use Rattle.machine.specs.Effect.{Effect}
use Rattle.event_parts.specs.Made.{Makes}
use Rattle.event_parts.specs.declared.stopped.Stopped.{Stopped}
use Rattle.system_parts.specs.Pairs.{Pairs}
use Rattle.system_parts.specs.Record.{MasterRecord}
use Rattle.system_parts.specs.Sweep.{Sweeping}
use Rattle.split_parts.specs.Parts.{Parts, Session, Node, Marks, CellRows, Record, filled, given_from, given_pairs, given_rows, lent_pairs, lent_rows}

-- the effect on a client, as one on a lent session
abbrev pub on_session : Session → Effect Client → Effect (Option Session)
on_session own effect = record { parts = Some (record own { client = effect.parts }); items = effect.items; stop = effect.stop }

-- on a client and the rows, as on a lent session and the lent cells
abbrev pub on_cells : Session → CellRows → Effect (Client × List Row) → Effect (Option Session × Option CellRows)
on_cells own part effect = record { parts = (Some (record own { client = effect.parts.0 }), Some (record part { rows = effect.parts.1 })); items = effect.items; stop = effect.stop }

-- on a client and a post, as on a lent session and the lent node
abbrev pub on_node : Session → Node → Effect (Client × Option InstanceEntry) → Effect (Option Session × Option Node)
on_node own part effect = record { parts = (Some (record own { client = effect.parts.0 }), Some (record part { instance = effect.parts.1 })); items = effect.items; stop = effect.stop }

-- an effect on a client that leaves the rows
abbrev pub on_rows : List Row → Effect Client → Effect (Client × List Row)
on_rows rows effect = record { parts = (effect.parts, rows); items = effect.items; stop = effect.stop }

-- an effect on a post and a client, the client first
abbrev pub turned : Effect (Option InstanceEntry × Client) → Effect (Client × Option InstanceEntry)
turned effect = record { parts = (effect.parts.1, effect.parts.0); items = effect.items; stop = effect.stop }

-- where the parts are lent, the call made the event of them
abbrev pub MakesOfSession : (Client → Effect Client) → Option Session → Option Session → List Item → List Item → Result Unit Stopped → Type 0
MakesOfSession f (Some own) now before after result = Makes (on_session own (f own.client)) (Some own) now before after result
MakesOfSession f None now before after result = Unit {0}

abbrev pub MakesOfCells : (Client → List Row → Effect (Client × List Row)) → Option Session → Option CellRows → Option Session → Option CellRows → List Item → List Item → Result Unit Stopped → Type 0
MakesOfCells f (Some own) (Some part) now left before after result = Makes (on_cells own part (f own.client part.rows)) (Some own, Some part) (now, left) before after result
MakesOfCells f _ _ now left before after result = Unit {0}

abbrev pub MakesOfNode : (Client → Option InstanceEntry → Effect (Client × Option InstanceEntry)) → Option Session → Option Node → Option Session → Option Node → List Item → List Item → Result Unit Stopped → Type 0
MakesOfNode f (Some own) (Some part) now left before after result = Makes (on_node own part (f own.client part.instance)) (Some own, Some part) (now, left) before after result
MakesOfNode f _ _ now left before after result = Unit {0}

-- on a post and the pairs, as on the lent node and the lent table
abbrev pub on_marks : Node → Marks → Effect (Option InstanceEntry × Pairs) → Effect (Option Node × Option Marks)
on_marks part marks effect = record { parts = (Some (record part { instance = effect.parts.0 }), Some (record marks { pairs = effect.parts.1 })); items = effect.items; stop = effect.stop }

abbrev pub MakesOfTable : (Option InstanceEntry → Pairs → Effect (Option InstanceEntry × Pairs)) → Option Node → Option Marks → Option Node → Option Marks → List Item → List Item → Result Unit Stopped → Type 0
MakesOfTable f (Some part) (Some marks) now left before after result = Makes (on_marks part marks (f part.instance marks.pairs)) (Some part, Some marks) (now, left) before after result
MakesOfTable f _ _ now left before after result = Unit {0}

-- on a client and both stores, as on the lent session and the stores that are lent
abbrev pub on_stores : Session → Option CellRows → Option Marks → Effect (Client × List Row × Pairs) → Effect (Option Session × Option CellRows × Option Marks)
on_stores own cells table effect = record { parts = (Some (record own { client = effect.parts.0 }), given_rows effect.parts.1 cells, given_pairs effect.parts.2 table); items = effect.items; stop = effect.stop }

-- on a sweep, as on the lent janitor
abbrev pub on_lent : {P : Type 0} → Option CellRows → Option Marks → Effect (P × List Row × Pairs) → Effect (Option P × Option CellRows × Option Marks)
on_lent cells table effect = record { parts = (Some effect.parts.0, given_rows effect.parts.1 cells, given_pairs effect.parts.2 table); items = effect.items; stop = effect.stop }

abbrev pub on_both : {P : Type 0} → Option CellRows → Option Marks → Effect (P × List Row × Pairs) → Effect (P × Option CellRows × Option Marks)
on_both cells table effect = record { parts = (effect.parts.0, given_rows effect.parts.1 cells, given_pairs effect.parts.2 table); items = effect.items; stop = effect.stop }

abbrev pub on_table_too : {P : Type 0} → Option Marks → Effect (P × List Row × Pairs) → Effect (P × List Row × Option Marks)
on_table_too table effect = record { parts = (effect.parts.0, effect.parts.1, given_pairs effect.parts.2 table); items = effect.items; stop = effect.stop }

-- a store that is not lent is empty
abbrev pub StepsOfSession : (Client → List Row → Pairs → Effect (Client × List Row × Pairs)) → Option Session → Option CellRows → Option Marks → Option Session → Option CellRows → Option Marks → List Item → List Item → Result Unit Stopped → Type 0
StepsOfSession f (Some own) cells table now left marks before after result = Makes (on_stores own cells table (f own.client (lent_rows [] cells) (lent_pairs map.empty table))) (Some own, cells, table) (now, left, marks) before after result
StepsOfSession f None cells table now left marks before after result = Unit {0}

abbrev pub MakesOfStores : {P : Type 0} → (P → List Row → Pairs → Effect (P × List Row × Pairs)) → Option P → Option CellRows → Option Marks → Option P → Option CellRows → Option Marks → List Item → List Item → Result Unit Stopped → Type 0
MakesOfStores f (Some c) cells table now left marks before after result = Makes (on_lent cells table (f c (lent_rows [] cells) (lent_pairs map.empty table))) (Some c, cells, table) (now, left, marks) before after result
MakesOfStores f None cells table now left marks before after result = Unit {0}

-- on a post and the record, as on the lent node and the lent record
abbrev pub on_kept : Node → Record → Effect (Option InstanceEntry × MasterRecord) → Effect (Option Node × Option Record)
on_kept part kept effect = record { parts = (Some (record part { instance = effect.parts.0 }), Some (record kept { state = effect.parts.1 })); items = effect.items; stop = effect.stop }

abbrev pub MakesOfRecord : (Option InstanceEntry → MasterRecord → Effect (Option InstanceEntry × MasterRecord)) → Option Node → Option Record → Option Node → Option Record → List Item → List Item → Result Unit Stopped → Type 0
MakesOfRecord f (Some part) (Some kept) now left before after result = Makes (on_kept part kept (f part.instance kept.state)) (Some part, Some kept) (now, left) before after result
MakesOfRecord f _ _ now left before after result = Unit {0}

-- on the sweep, as on the lent janitor
abbrev pub on_janitor : Effect (Option Sweeping) → Effect (Option (Option Sweeping))
on_janitor effect = record { parts = Some effect.parts; items = effect.items; stop = effect.stop }

-- by the instance of the lent node, which stays
abbrev pub MakesOfJanitor : (Option InstanceEntry → Option Sweeping → Effect (Option Sweeping)) → Option Node → Option (Option Sweeping) → Option (Option Sweeping) → List Item → List Item → Result Unit Stopped → Type 0
MakesOfJanitor f (Some part) (Some sweep) now before after result = Makes (on_janitor (f part.instance sweep)) (Some sweep) now before after result
MakesOfJanitor f _ _ now before after result = Unit {0}

-- ---- all lent parts
-- the effect that an event has on the lent parts, under a fate
abbrev pub lent_effect : Parts → Event → Fate → Effect Parts
lent_effect l e fate = record { parts = given_from l (stepped (filled l) e fate).state; items = (stepped (filled l) e fate).items; stop = (stepped (filled l) e fate).stop }

-- the node is lent, and is one of the setup's
abbrev pub HasPost : Parts → ℕ → Type 0
HasPost l node = IsSomeAnd l.node (λ n. (n.node ≡ node) × (n.node < l.plan.setup.nodes))

-- the parts are lent of which the event can be made
abbrev pub HasAll : Parts → Event → Type 0
HasAll l (event.Write session key value) = HasSession l session × IsSome l.cells
HasAll l (event.Abort session) = HasSession l session
HasAll l (event.Vanish session) = HasSession l session
HasAll l (event.AskBegin session node) = HasSession l session × HasPost l node
HasAll l (event.AskCommit session node) = HasSession l session × HasPost l node
HasAll l (event.Decide node session) = HasSession l session × HasPost l node
HasAll l (event.Answer node session) = HasSession l session × HasPost l node
HasAll l (event.Accept node session reading) = HasSession l session × HasPost l node
HasAll l (event.Put node session) = HasPost l node × IsSome l.table
HasAll l (event.Step session) = HasSession l session
HasAll l (event.Fetch session key) = HasSession l session × IsSome l.cells
HasAll l (event.Heal session) = HasSession l session × IsSome l.cells
HasAll l (event.Take node reading) = HasPost l node × IsSome l.master
HasAll l (event.Renew node reading) = HasPost l node × IsSome l.master
HasAll l (event.Extend node) = HasPost l node × IsSome l.master
HasAll l (event.SweepOpen node txn) = HasPost l node × IsSome l.janitor
HasAll l event.SweepStep = IsSome l.janitor
HasAll l e = ⊥

-- what the event notes in the history, where it touches no part of the state
abbrev pub item_noted : Event → Option Item
item_noted (event.Tick to) = Some (item.Tick to)
item_noted (event.Note actor note) = Some (item.Note actor note)
item_noted e = None
