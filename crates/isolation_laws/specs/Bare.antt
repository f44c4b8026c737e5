-- Cells without a shadow, and whose they are: of a transaction that a session has, or of one that a session let go where a store failed.
use Rattle.std.specs.Prelude.{◌≡◌, ℕ, ◌+◌, ◌≤◌, ◌⊎◌, Bool, true, false, List, length, is_some, not, Some, None}
use Rattle.std.specs.List.{filter}
use Rattle.history_book.specs.Members.{◌∈◌}
use Rattle.history_book.specs.declared.item.Item.{Item}
use Rattle.system_parts.specs.declared.rows.Cell.{Cell}
use Rattle.system_parts.specs.Rows.{Row, looked, fetched}
use Rattle.system_parts.specs.declared.session.State.{State as SessionState}
use Rattle.system_parts.specs.declared.session.State.TheVariants as phase
use Rattle.system_parts.specs.SessionSteps.{SessionEntry}
use Rattle.system_parts.specs.Completion.{undo_asks}
pub use Rattle.machine.specs.Faults.{is_fault, faults_in}
use Rattle.machine.specs.State.{UnderWay, Completes, Client, State}
use Rattle.isolation_laws.specs.Words.{ClientAt}

-- ---- whose a cell is
-- the row of the key and the version is there, without a shadow
pub record BareAt (rows : List Row) (k t : ℕ) : Type 0 where
  pub cell : Cell
  pub there : looked rows k t ≡ Some cell
  pub bare : cell.shadow ≡ None

-- a session may have left a cell at the key: where it wrote; while it is undone, where one is still to be erased; once it has its
-- commit or has vanished, anywhere
abbrev pub MayHave : SessionState → List ℕ → UnderWay → ℕ → ℕ → Type 0
MayHave phase.Free keys work t k = ⊥
MayHave phase.Asking keys work t k = ⊥
MayHave phase.Open keys work t k = k ∈ keys
MayHave phase.Committing keys work t k = k ∈ keys
MayHave phase.Placing keys work t k = k ∈ keys
MayHave phase.OpenOutcome keys work t k = k ∈ keys
MayHave (phase.Completing true) keys work t k = (left : List ℕ) × (work ≡ Completes (undo_asks t left)) × (k ∈ left)
MayHave (phase.Completing false) keys work t k = Unit {0}
MayHave phase.Gone keys work t k = Unit {0}

-- the version is its start, and it may have left a cell at the key
abbrev pub IsOf : SessionEntry → UnderWay → ℕ → ℕ → Type 0
IsOf e work k t = (e.start ≡ Some t) × MayHave e.state e.keys work t k

pub record IsOwned (clients : List Client) (k t : ℕ) : Type 0 where
  pub session : ℕ
  pub client : Client
  pub at : ClientAt clients session client
  pub its : IsOf client.entry client.under_way k t

-- each cell without a shadow is of a session's transaction, or of one that was let go; of these there is at most one for each fault
pub record AreOwned (clients : List Client) (rows : List Row) (h : List Item) : Type 0 where
  pub lost : List ℕ
  pub few : length lost ≤ faults_in h
  pub each : (k t : ℕ) → BareAt rows k t → IsOwned clients k t ⊎ (t ∈ lost)

-- ---- so each key has few
abbrev pub is_bare : Cell → Bool
is_bare c = not (is_some c.shadow)

-- of the cells that a fetch of any key gives, one for each session and each fault have no shadow
abbrev pub BareCellsAreFew : State → List Item → Type 0
BareCellsAreFew w h = (key upto : ℕ) → length (filter is_bare (fetched w.rows key upto)) ≤ length w.clients + faults_in h
