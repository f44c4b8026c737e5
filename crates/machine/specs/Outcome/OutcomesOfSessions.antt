-- What an event comes to for the session of an open transaction, but for reads.
use Rattle.std.specs.Prelude.{[], ◌≡◌, ℕ, Bool, false, if◌then◌else◌, List, ◌∷◌, None, Some, ◌⊎◌, slice_set}
use Rattle.history_book.specs.declared.item.Item.{Item}
use Rattle.history_book.specs.declared.item.Item.TheVariants as item
use Rattle.system_parts.specs.Rows.{Row, put_row, with_shadow}
use Rattle.system_parts.specs.declared.session.State.TheVariants as phase
use Rattle.machine.specs.State.{Client, State}
use Rattle.machine.specs.Clients.{is_reading, client_freed, client_aborted, client_vanished}
use Rattle.machine.specs.Events.Write.{client_wrote}
use Rattle.machine.specs.FoundAt.{ClientAt}
use Rattle.machine.specs.Quiet.{AllQuiet}
use Rattle.machine.specs.Plain.{AllSilent}

-- ---- sessions
-- a client of an open transaction without a read under way
pub record AtOpen (w : State) : Type 0 where
  pub session : ℕ
  pub c : Client
  pub client_at : ClientAt w.clients session c
  pub is_open : c.entry.state ≡ phase.Open
  pub idle : is_reading c ≡ false

-- it had written nothing, and is over
pub record EndedReadOnly (w : State) : Type 0 where
  pub it : AtOpen w
  pub none : it.c.entry.keys ≡ []
  pub items : List Item
  pub quiet : AllQuiet items
  pub silent : AllSilent items

abbrev pub read_only_state : (w : State) → EndedReadOnly w → State
read_only_state w k = record w { clients = slice_set w.clients k.it.session (client_freed k.it.c) }

pub record WroteOne (w : State) : Type 0 where
  pub it : AtOpen w
  pub start : ℕ
  pub key : ℕ
  pub value : List ℕ
  pub start_is : it.c.entry.start ≡ Some start

abbrev pub wrote_state : (w : State) → WroteOne w → State
wrote_state w k = record w { clients = slice_set w.clients k.it.session (client_wrote k.it.c k.key); rows = put_row w.rows k.key k.start k.value }

abbrev pub wrote_items : (w : State) → WroteOne w → List Item
wrote_items w k = item.Write k.it.session k.start k.key k.value ∷ []

-- a write failed, and the transaction is over; the cell may be there
pub record WriteFailed (w : State) : Type 0 where
  pub it : AtOpen w
  pub start : ℕ
  pub key : ℕ
  pub value : List ℕ
  pub start_is : it.c.entry.start ≡ Some start
  pub rows : List Row
  pub rows_are : (rows ≡ w.rows) ⊎ (rows ≡ put_row w.rows key start value)
  pub items : List Item
  pub quiet : AllQuiet items
  pub silent : AllSilent items

abbrev pub write_failed_state : (w : State) → WriteFailed w → State
write_failed_state w k = record w { clients = slice_set w.clients k.it.session (client_aborted (client_wrote k.it.c k.key)); rows = k.rows }

pub record Aborted (w : State) : Type 0 where
  pub it : AtOpen w
  pub items : List Item
  pub quiet : AllQuiet items
  pub silent : AllSilent items

abbrev pub aborted_state : (w : State) → Aborted w → State
aborted_state w k = record w { clients = slice_set w.clients k.it.session (client_aborted k.it.c) }

pub record Vanished (w : State) : Type 0 where
  pub session : ℕ
  pub c : Client
  pub client_at : ClientAt w.clients session c
  pub items : List Item
  pub tells : items ≡ item.Vanish session ∷ []
  pub quiet : AllQuiet items
  pub silent : AllSilent items

abbrev pub vanished_state : (w : State) → Vanished w → State
vanished_state w k = record w { clients = slice_set w.clients k.session (client_vanished k.c) }

-- the offered shadow was set, or the call failed, with effect or without
pub record Healed (w : State) : Type 0 where
  pub it : AtOpen w
  pub key : ℕ
  pub version : ℕ
  pub commit : ℕ
  pub offer : it.c.heal ≡ Some (key, version, commit)
  pub applied : Bool
  pub items : List Item
  pub quiet : AllQuiet items
  pub silent : AllSilent items

abbrev pub healed_state : (w : State) → Healed w → State
healed_state w k = record w { clients = slice_set w.clients k.it.session (record k.it.c { heal = None }); rows = if k.applied then with_shadow w.rows k.key k.version k.commit else w.rows }
