-- Each event touches its parts alone.
use Rattle.std.proofs.Common.{arith, ◌≡◌, ◌≢◌, ℕ, suc, ◌+◌, max, List, [], ◌∷◌, length, Option, None, Some, refl, sym, ap, ◌∙◌, subst}
use Rattle.std.specs.Prelude.{slice_get, IsSome}
use Rattle.stamp_base.specs.SetupNumbers.{SetupNumbers}
use Rattle.stamp_base.specs.declared.stores.Store.{Store}
use Rattle.stamp_base.specs.declared.stores.Store.TheVariants as store
use Rattle.port_io.specs.declared.weather.Fate.{Fate}
use Rattle.system_parts.specs.Rows.{Row}
use Rattle.system_parts.specs.Pairs.{Pairs}
use Rattle.system_parts.specs.Record.{MasterRecord}
use Rattle.system_parts.specs.declared.instance.Held.{Held}
use Rattle.system_parts.specs.Instance.{InstanceEntry}
use Rattle.machine.specs.State.{Client, State}
use Rattle.machine.specs.Effect.{Effect}
use Rattle.machine.specs.declared.event.Event.TheVariants as timed
use Rattle.machine.specs.Machine.{Step, asks, asks_at_post, asks_at_client, on_cells, on_client}
use Rattle.machine.specs.Events.Take.{take_on, take_asks}
use Rattle.machine.specs.Events.Renew.{renew_on, renew_asks}
use Rattle.machine.specs.Events.Extend.{extend_on, extend_asks}
use Rattle.machine.specs.Events.Crash.{crash_on, crashed_clients}
use Rattle.machine.specs.Events.AskBegin.{ask_begin_on}
use Rattle.machine.specs.Events.AskCommit.{ask_commit_on}
use Rattle.machine.specs.Events.Accept.{accept_on}
use Rattle.machine.specs.Events.Decide.{decide_on}
use Rattle.machine.specs.Events.Put.{put_on, put_asks}
use Rattle.machine.specs.Events.Answer.{answer_on}
use Rattle.machine.specs.Events.Write.{write_on, write_asks}
use Rattle.machine.specs.Events.Fetch.{fetch_on, fetch_asks}
use Rattle.machine.specs.Events.Step.{step_on, step_asks}
use Rattle.machine.specs.Events.Heal.{heal_on, heal_asks}
use Rattle.machine.specs.Events.Abort.{abort_on}
use Rattle.machine.specs.Events.Vanish.{vanish_on}
use Rattle.machine.specs.Events.SweepOpen.{sweep_open_on}
use Rattle.machine.specs.Events.Clock.{tick_items, note_items}
use Rattle.split_parts.specs.declared.event.Event.TheVariants as event
use Rattle.split_parts.specs.Parts.{CellRows, Marks, Parts, Record, base_by, called, cells_called, filled, lent_master, lent_pairs, lent_rows, master_called, node_asked, reading_of, table_called, with_lent}
use Rattle.split_parts.specs.Agrees.{HasSession, HasNode, HasStore}
use Rattle.part_laws.specs.Local.{AreOf, IsOfParts, IsLocal, EventsAreLocal, ActsAreSteps}
use Rattle.part_laws.proofs.FoundInParts.{kept, finds_client, finds_post, finds_rows, finds_pairs, finds_sweep}
use Rattle.part_laws.proofs.Shapes.{SameStores, of_client, of_cells, of_stores, of_swept, of_sweep, of_ask, of_request, of_table, of_record, of_clients, of_nothing}
use Rattle.part_laws.proofs.OneStore.{step_ignores_pairs, step_ignores_rows, sweep_ignores_pairs, sweep_ignores_rows, heal_ignores_pairs, same_neither, same_cells, same_table, IgnoresPairs, IgnoresRows}

-- ---- the store that an event asks
asks_of_client : {w : State} {l : Parts} (session : ℕ) (f : Client → Option Store) → AreOf l w → HasSession l session → asks_at_client (slice_get w.clients session) f ≡ asks_at_client (slice_get (filled l).clients session) f
asks_of_client session f of own = let (c, client) = finds_client session of own in ap (λ o. asks_at_client o f) (client.whole ∙ sym client.parts)

asks_of_post : {w : State} {l : Parts} (node : ℕ) (f : Option InstanceEntry → Option Store) → AreOf l w → HasNode l node → asks_at_post (slice_get w.nodes node) f ≡ asks_at_post (slice_get (filled l).nodes node) f
asks_of_post node f of has = let (post, there) = finds_post node of has in ap (λ o. asks_at_post o f) (there.whole ∙ sym there.parts)

-- ---- a node, and the record
takes : (w : State) (l : Parts) (node reading : ℕ) (fate : Fate) → AreOf l w → HasNode l node → IsSome l.master → IsLocal w l (timed.Take node reading) fate
takes w l node reading fate of has master = record {
  asked = asks_of_post node take_asks of has;
  step = of_record (max w.seen reading) (max 0 reading) node (λ setup record_of post. take_on setup node reading fate post record_of) of has master;
}

renews : (w : State) (l : Parts) (node reading : ℕ) (fate : Fate) → AreOf l w → HasNode l node → IsSome l.master → IsLocal w l (timed.Renew node reading) fate
renews w l node reading fate of has master = record {
  asked = asks_of_post node renew_asks of has;
  step = of_record (max w.seen reading) (max 0 reading) node (λ setup record_of post. renew_on setup node reading fate post record_of) of has master;
}

extends : (w : State) (l : Parts) (node : ℕ) (fate : Fate) → AreOf l w → HasNode l node → IsSome l.master → IsLocal w l (timed.Extend node) fate
extends w l node fate of has master = record {
  asked = asks_of_post node extend_asks of has;
  step = of_record w.seen 0 node (λ setup record_of post. extend_on setup node fate post record_of) of has master;
}

-- and the table
puts : (w : State) (l : Parts) (node session : ℕ) (fate : Fate) → AreOf l w → HasNode l node → IsSome l.table → IsLocal w l (timed.Put node session) fate
puts w l node session fate of has table = record {
  asked = asks_of_post node (put_asks session) of has;
  step = of_table node (λ pairs post. put_on node session fate post pairs) of has table;
}

-- and all sessions, of which a crash leaves as many
as_many : (requests : List (Option Held)) (clients : List Client) → length (crashed_clients requests clients) ≡ length clients
unfolding crashed_clients
as_many [] clients = refl
as_many (held ∷ others) [] = refl
as_many (held ∷ others) (c ∷ clients) = ap suc (as_many others clients)

crash_as_many : (node : ℕ) (clients : List Client) (post : Option InstanceEntry) → length (crash_on node post clients).parts.1 ≡ length clients
crash_as_many node clients post = grind (arith, as_many)

-- ---- a session and the cells
-- a heal reads no pairs
heals : (w : State) (l : Parts) (session : ℕ) (fate : Fate) → AreOf l w → HasSession l session → IsSome l.cells → IsLocal w l (timed.Heal session) fate
heals w l session fate of own cells = record {
  asked = asks_of_client session heal_asks of own;
  step = subst (λ (s : Step). IsOfParts w l w.seen (on_cells w session (λ c. heal_on session fate c w.rows w.pairs)) s)
      (λ k. on_cells (filled l) session (λ c. heal_ignores_pairs session fate c (filled l).rows (filled l).pairs w.pairs k))
      (of_cells session (λ rows c. heal_on session fate c rows w.pairs) of own cells);
}

-- a fetch reads the setup and the cells, and changes none
fetches : (w : State) (l : Parts) (session key : ℕ) (fate : Fate) → AreOf l w → HasSession l session → IsSome l.cells → IsLocal w l (timed.Fetch session key) fate
fetches w l session key fate of own cells = record {
  asked = asks_of_client session (fetch_asks w.setup key) of own ∙ ap (λ (setup : SetupNumbers). asks_at_client (slice_get (filled l).clients session) (fetch_asks setup key)) (sym of.setup);
  step = subst (λ (s : Step). IsOfParts w l w.seen (on_client w session (λ c. fetch_on w.setup session key fate c w.rows)) s)
      (λ k. on_client (filled l) session (λ c. fetch_on (sym of.setup k) session key fate c (sym (finds_rows of cells).same k)))
      (of_client session (λ c. fetch_on w.setup session key fate c w.rows) of own);
}

-- ---- one store, if any
by_store : {P : Type 0} (w : State) (l : Parts) (S : List Row → Pairs → Effect (P × List Row × Pairs)) (asked : Option Store) → AreOf l w → HasStore l asked → (asked ≢ Some store.Table → IgnoresPairs S) → (asked ≢ Some store.Cells → IgnoresRows S) → SameStores w l (S w.rows w.pairs) (S (filled l).rows (filled l).pairs)
by_store w l S None of has no_pairs no_rows = same_neither w l S (kept w l of) (no_pairs (λ same. absurd (cc))) (no_rows (λ same. absurd (cc)))
by_store w l S (Some store.Cells) of has no_pairs no_rows = same_cells w l S (kept w l of) (finds_rows of has) (no_pairs (λ same. absurd (cc)))
by_store w l S (Some store.Table) of has no_pairs no_rows = same_table w l S (kept w l of) (finds_pairs of has) (no_rows (λ same. absurd (cc)))
by_store w l S (Some store.Master) of has no_pairs no_rows = same_neither w l S (kept w l of) (no_pairs (λ same. absurd (cc))) (no_rows (λ same. absurd (cc)))

-- a session's
steps : (w : State) (l : Parts) (session : ℕ) (fate : Fate) → AreOf l w → HasSession l session → HasStore l (asks (filled l) (timed.Step session)) → IsLocal w l (timed.Step session) fate
steps w l session fate of own has = record {
  asked = asks_of_client session step_asks of own;
  step = of_stores session (λ c. step_on session fate c w.rows w.pairs) (λ c. step_on session fate c (filled l).rows (filled l).pairs) of own
      (λ c at. by_store w l (step_on session fate c) (step_asks c) of (subst (λ o. HasStore l (asks_at_client o step_asks)) at has) (step_ignores_pairs session fate c) (step_ignores_rows session fate c));
}

-- the janitor's
sweep_steps : (w : State) (l : Parts) (fate : Fate) → AreOf l w → IsSome l.janitor → HasStore l (asks (filled l) timed.SweepStep) → IsLocal w l timed.SweepStep fate
sweep_steps w l fate of janitor has =
    grind (arith, finds_sweep, of_swept, by_store, sweep_ignores_pairs, sweep_ignores_rows)

-- ---- each event
pub events : EventsAreLocal
events w l (event.Tick by) fate of has = record { asked = refl; step = of_nothing (tick_items (base_by l.clock + by)) of }
events w l (event.Note actor said) fate of has = record { asked = refl; step = of_nothing (note_items actor said) of }
events w l (event.Take node) fate of has = takes w l node (reading_of (base_by l.clock) l.plan.leads node) fate of has.1 has.2
events w l (event.Renew node) fate of has = renews w l node (reading_of (base_by l.clock) l.plan.leads node) fate of has.1 has.2
events w l (event.Extend node) fate of has = extends w l node fate of has.0 has.1
events w l (event.Crash node) fate of has = record { asked = refl; step = of_clients node (λ clients post. crash_on node post clients) (crash_as_many node w.clients) of has.0 has.1 }
events w l (event.AskBegin session to) fate of has = record { asked = refl; step = of_ask session (node_asked l to) (ask_begin_on session (node_asked l to)) of has.0 has.1 }
events w l (event.AskCommit session to) fate of has = record { asked = refl; step = of_ask session (node_asked l to) (ask_commit_on session (node_asked l to)) of has.0 has.1 }
events w l (event.Accept node session) fate of has =
    let reading : ℕ = reading_of (base_by l.clock) l.plan.leads node in
    record { asked = refl; step = of_request (max w.seen reading) (max 0 reading) node session (accept_on node session reading) of has.0 has.2 }
events w l (event.Decide node session) fate of has = record { asked = refl; step = of_request w.seen 0 node session (decide_on node session) of has.0 has.1 }
events w l (event.Put node session) fate of has = puts w l node session fate of has.0 has.1
events w l (event.Answer node session) fate of has = record { asked = refl; step = of_request w.seen 0 node session (answer_on node session) of has.0 has.1 }
events w l (event.Write session key value) fate of has = record {
  asked = asks_of_client session (write_asks key) of has.0;
  step = of_cells session (λ rows c. write_on session key value fate c rows) of has.0 has.1;
}
events w l (event.Fetch session key) fate of has = fetches w l session key fate of has.0 has.1
events w l (event.Step session) fate of has = steps w l session fate of has.0 has.1
events w l (event.Heal session) fate of has = heals w l session fate of has.0 has.1
events w l (event.Abort session) fate of has = record { asked = refl; step = of_client session (abort_on session) of has }
events w l (event.Vanish session) fate of has = record { asked = refl; step = of_client session (vanish_on session) of has }
events w l (event.SweepOpen node txn) fate of has = record { asked = refl; step = of_sweep node (λ sweep post. sweep_open_on node txn post sweep) of has.0 has.1 }
events w l event.SweepStep fate of has = sweep_steps w l fate of has.0 has.1

-- ---- what is made of lent parts
-- a count of calls, and what an event notes, are in no state
called_lent : (w : State) (asked : Option Store) (l : Parts) → with_lent w (called asked l) ≡ with_lent w l
called_lent w None l = refl
called_lent w (Some store.Cells) l = ap (λ (rows : List Row). record (with_lent w l) { rows = rows }) (rows_called l.cells)
  where
    rows_called : (part : Option CellRows) → lent_rows w.rows (cells_called part) ≡ lent_rows w.rows part
    rows_called None = refl
    rows_called (Some part) = refl
called_lent w (Some store.Table) l = ap (λ (pairs : Pairs). record (with_lent w l) { pairs = pairs }) (pairs_called l.table)
  where
    pairs_called : (part : Option Marks) → lent_pairs w.pairs (table_called part) ≡ lent_pairs w.pairs part
    pairs_called None = refl
    pairs_called (Some part) = refl
called_lent w (Some store.Master) l = ap (λ (master : MasterRecord). record (with_lent w l) { master = master }) (master_called_lent l.master)
  where
    master_called_lent : (part : Option Record) → lent_master w.master (master_called part) ≡ lent_master w.master part
    master_called_lent None = refl
    master_called_lent (Some part) = refl

-- by the law of events, and what is made of the parts
pub acts : ActsAreSteps
acts w l now e acted of has made = grind (arith, events, called_lent)
