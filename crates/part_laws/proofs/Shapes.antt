-- A step of parts is that of the whole: one lemma for each kind of event, by the parts that it touches.
use Rattle.std.proofs.lemmas.Grind.{common_steps}
use Rattle.std.proofs.Common.{arith, ◌≡◌, ◌<◌, ℕ, List, length, Option, Some, refl, ap}
use Rattle.std.specs.Prelude.{slice_get, IsSome}
use Rattle.stamp_base.specs.SetupNumbers.{SetupNumbers}
use Rattle.history_book.specs.declared.item.Item.{Item}
use Rattle.system_parts.specs.Rows.{Row}
use Rattle.system_parts.specs.Pairs.{Pairs}
use Rattle.system_parts.specs.Record.{MasterRecord}
use Rattle.system_parts.specs.Sweep.{Sweeping}
use Rattle.system_parts.specs.Instance.{InstanceEntry}
use Rattle.machine.specs.State.{Client, State}
use Rattle.machine.specs.Effect.{Effect, done}
use Rattle.machine.specs.Events.Step.{StepParts}
use Rattle.machine.specs.Events.SweepStep.{SweepParts}
use Rattle.machine.specs.Machine.{Step, step_by, with_client, with_post, at_post, on_record, on_clients, on_ask, on_request, on_table, on_client, on_cells, on_stores, on_sweep, on_swept}
use Rattle.split_parts.specs.Agrees.{HasNode, HasSession}
use Rattle.split_parts.specs.Parts.{Parts, or_else, given, lent_clients, given_sessions, given_node, given_rows, given_pairs, given_master, lent_nodes, lent_rows, lent_pairs, lent_master, filled}
use Rattle.part_laws.specs.Local.{AreOf, IsOfParts}
use Rattle.part_laws.proofs.FoundInParts.{Kept, kept, finds_client, finds_clients, finds_post, finds_rows, finds_pairs, finds_master, finds_sweep}

-- ---- put together
-- field by field, what the parts' state has is put back into the whole
record IsPut (w : State) (l : Parts) (whole parts : State) : Type 0 where
  setup : w.setup ≡ whole.setup
  clients : lent_clients 16 w.clients (given_sessions 16 l.sessions parts.clients) ≡ whole.clients
  nodes : lent_nodes w.nodes (given_node parts.nodes l.node) ≡ whole.nodes
  sweep : or_else (given l.janitor parts.sweep) w.sweep ≡ whole.sweep
  rows : lent_rows w.rows (given_rows parts.rows l.cells) ≡ whole.rows
  pairs : lent_pairs w.pairs (given_pairs parts.pairs l.table) ≡ whole.pairs
  master : lent_master w.master (given_master parts.master l.master) ≡ whole.master

-- both steps are known, of the whole and of the parts, with the same items and stop
record AreKnown (w : State) (l : Parts) (whole parts a b : Step) : Type 0 where
  whole_is : whole ≡ a
  parts_are : parts ≡ b
  items : a.items ≡ b.items
  stop : a.stop ≡ b.stop
  put : IsPut w l a.state b.state

of_known : (w : State) (l : Parts) (whole parts a b : Step) → AreKnown w l whole parts a b → IsOfParts w l a.state.seen whole parts
of_known w l whole parts a b known = grind arith

-- where both have the same effect
by_effect : {P : Type 0} {w : State} {l : Parts} {whole parts : Step} (effect : Effect P) (in_whole in_parts : P → State) → whole ≡ step_by effect in_whole → parts ≡ step_by effect in_parts → IsPut w l (in_whole effect.parts) (in_parts effect.parts) → IsOfParts w l (in_whole effect.parts).seen whole parts
by_effect {P} {w} {l} {whole} {parts} effect in_whole in_parts whole_is parts_are put = grind arith

-- ---- a session
-- alone
pub of_client : {w : State} {l : Parts} (session : ℕ) (f : Client → Effect Client) → AreOf l w → HasSession l session → IsOfParts w l w.seen (on_client w session f) (on_client (filled l) session f)
of_client {w} {l} session f of own = grind (arith, common_steps, finds_client, by_effect)

abbrev with_cells : State → ℕ → Client × List Row → State
with_cells w session p = record (with_client w session p.0) { rows = p.1 }

-- and the cells
pub of_cells : {w : State} {l : Parts} (session : ℕ) (f : List Row → Client → Effect (Client × List Row)) → AreOf l w → HasSession l session → IsSome l.cells → IsOfParts w l w.seen (on_cells w session (f w.rows)) (on_cells (filled l) session (f (filled l).rows))
of_cells {w} {l} session f of own cells = grind (arith, common_steps, finds_client, finds_rows, by_effect)

-- ---- one of the stores is asked, and the other one passes through
pub record SameStores {P : Type 0} (w : State) (l : Parts) (whole parts : Effect (P × List Row × Pairs)) : Type 0 where
  pub own : parts.parts.0 ≡ whole.parts.0
  pub items : whole.items ≡ parts.items
  pub stop : whole.stop ≡ parts.stop
  pub rows : lent_rows w.rows (given_rows parts.parts.1 l.cells) ≡ whole.parts.1
  pub pairs : lent_pairs w.pairs (given_pairs parts.parts.2 l.table) ≡ whole.parts.2

abbrev with_stores : State → ℕ → StepParts → State
with_stores w session p = record (with_client w session p.0) { rows = p.1; pairs = p.2 }

-- a session and the store that it asks
pub of_stores : {w : State} {l : Parts} (session : ℕ) (f g : Client → Effect StepParts) → AreOf l w → HasSession l session → ((c : Client) → slice_get (filled l).clients session ≡ Some c → SameStores w l (f c) (g c)) → IsOfParts w l w.seen (on_stores w session f) (on_stores (filled l) session g)
of_stores {w} {l} session f g of own stores = grind (arith, common_steps, finds_client, of_known)

-- the janitor and the store that it asks
pub of_swept : {w : State} {l : Parts} (whole parts : Effect SweepParts) → AreOf l w → IsSome l.janitor → SameStores w l whole parts → IsOfParts w l w.seen (on_swept w whole) (on_swept (filled l) parts)
of_swept {w} {l} whole parts of janitor same =
    let still : Kept w l = kept w l of in
    grind (arith, of_known, finds_sweep)

abbrev with_sweep : State → Option Sweeping → State
with_sweep w p = record w { sweep = p }

-- the janitor and a node, which stays
pub of_sweep : {w : State} {l : Parts} (node : ℕ) (f : Option Sweeping → Option InstanceEntry → Effect (Option Sweeping)) → AreOf l w → IsSome l.janitor → HasNode l node → IsOfParts w l w.seen (on_sweep w node (f w.sweep)) (on_sweep (filled l) node (f (filled l).sweep))
of_sweep {w} {l} node f of janitor has =
    let (post, there) = finds_post node of has in
    let sweep = finds_sweep of janitor in
    let now : Option Sweeping = (f w.sweep post).parts in
    let still : Kept w l = kept w l of in
    by_effect (f w.sweep post) (with_sweep w) (with_sweep (filled l))
    (ap (λ o. at_post w o (λ x. step_by (f w.sweep x) (with_sweep w))) there.whole)
    (λ k. at_post (filled l) (there.parts k) (λ x. step_by (f (sweep.same k) x) (with_sweep (filled l))))
    (record { setup = refl; clients = still.clients; nodes = still.nodes; sweep = sweep.put now; rows = still.rows; pairs = still.pairs; master = still.master })

-- ---- a session and a node
abbrev with_asked : State → ℕ → ℕ → Client × Option InstanceEntry → State
with_asked w session node p = with_client (with_post w node p.1) session p.0

abbrev with_served : State → ℕ → ℕ → Option InstanceEntry × Client → State
with_served w node session p = with_client (with_post w node p.0) session p.1

-- the node that the session asks
pub of_ask : {w : State} {l : Parts} (session node : ℕ) (f : Client → Option InstanceEntry → Effect (Client × Option InstanceEntry)) → AreOf l w → HasSession l session → HasNode l node → IsOfParts w l w.seen (on_ask w session node f) (on_ask (filled l) session node f)
of_ask {w} {l} session node f of own has = grind (arith, finds_client, finds_post)

-- the node that serves its request, at a reading or none
pub of_request : {w : State} {l : Parts} (seen read : ℕ) (node session : ℕ) (f : Option InstanceEntry → Client → Effect (Option InstanceEntry × Client)) → AreOf l w → HasSession l session → HasNode l node → IsOfParts w l seen (on_request (record w { seen = seen }) node session f) (on_request (record (filled l) { seen = read }) node session f)
of_request {w} {l} seen read node session f of own has = grind (arith, finds_client, finds_post)

-- ---- a node
abbrev with_table : State → ℕ → Option InstanceEntry × Pairs → State
with_table w node p = record (with_post w node p.0) { pairs = p.1 }

-- and the table
pub of_table : {w : State} {l : Parts} (node : ℕ) (f : Pairs → Option InstanceEntry → Effect (Option InstanceEntry × Pairs)) → AreOf l w → HasNode l node → IsSome l.table → IsOfParts w l w.seen (on_table w node (f w.pairs)) (on_table (filled l) node (f (filled l).pairs))
of_table {w} {l} node f of has table =
    let (post, there) = finds_post node of has in
    let pairs = finds_pairs of table in
    let now : Option InstanceEntry × Pairs = (f w.pairs post).parts in
    let still : Kept w l = kept w l of in
    by_effect (f w.pairs post) (with_table w node) (with_table (filled l) node)
    (ap (λ o. at_post w o (λ x. step_by (f w.pairs x) (with_table w node))) there.whole)
    (λ k. at_post (filled l) (there.parts k) (λ x. step_by (f (pairs.same k) x) (with_table (filled l) node)))
    (record { setup = refl; clients = still.clients; nodes = there.put now.0; sweep = still.sweep; rows = still.rows; pairs = pairs.put now.1; master = still.master })

abbrev with_record : State → ℕ → Option InstanceEntry × MasterRecord → State
with_record w node p = record (with_post w node p.0) { master = p.1 }

-- and the record, by the setup, at a reading or none
pub of_record : {w : State} {l : Parts} (seen read : ℕ) (node : ℕ) (f : SetupNumbers → MasterRecord → Option InstanceEntry → Effect (Option InstanceEntry × MasterRecord)) → AreOf l w → HasNode l node → IsSome l.master → IsOfParts w l seen (on_record (record w { seen = seen }) node (f w.setup w.master)) (on_record (record (filled l) { seen = read }) node (f (filled l).setup (filled l).master))
of_record {w} {l} seen read node f of has lent =
    let (post, there) = finds_post node of has in
    let master = finds_master of lent in
    let u : State = record w { seen = seen } in
    let v : State = record (filled l) { seen = read } in
    let now : Option InstanceEntry × MasterRecord = (f w.setup w.master post).parts in
    let still : Kept w l = kept w l of in
    by_effect (f w.setup w.master post) (with_record u node) (with_record v node)
    (ap (λ o. at_post u o (λ x. step_by (f w.setup w.master x) (with_record u node))) there.whole)
    (λ k. at_post v (there.parts k) (λ x. step_by (f (of.setup k) (master.same k) x) (with_record v node)))
    (record { setup = refl; clients = still.clients; nodes = there.put now.0; sweep = still.sweep; rows = still.rows; pairs = still.pairs; master = master.put now.1 })

abbrev with_all : State → ℕ → Option InstanceEntry × List Client → State
with_all w node p = record (with_post w node p.0) { clients = p.1 }

-- and all sessions, of which as many are left
pub of_clients : {w : State} {l : Parts} (node : ℕ) (f : List Client → Option InstanceEntry → Effect (Option InstanceEntry × List Client)) → ((post : Option InstanceEntry) → length (f w.clients post).parts.1 ≡ length w.clients) → AreOf l w → ((session : ℕ) → session < 16 → HasSession l session) → HasNode l node → IsOfParts w l w.seen (on_clients w node (f w.clients)) (on_clients (filled l) node (f (filled l).clients))
of_clients {w} {l} node f many of all has = grind (arith, finds_post, finds_clients)

-- ---- nothing
pub of_nothing : {w : State} {l : Parts} (items : List Item) → AreOf l w → IsOfParts w l w.seen (step_by (done w items) (λ p. p)) (step_by (done (filled l) items) (λ p. p))
of_nothing {w} {l} items of =
    let still : Kept w l = kept w l of in
    grind (arith, of_known)
