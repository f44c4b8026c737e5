-- The words in which the facts are told: what stands where in a state, and what a history has.
use Rattle.std.specs.Prelude.{◌≡◌, ℕ, List, Option, None, Some}
use Rattle.stamp_base.specs.declared.stores.Mark.TheVariants.{Committed as CommittedMark}
use Rattle.history_book.specs.Members.{◌∈◌}
use Rattle.history_book.specs.declared.item.Item.{Item}
use Rattle.history_book.specs.declared.item.Item.TheVariants.{Begin, Draw}
use Rattle.system_parts.specs.declared.rows.Cell.{Cell}
use Rattle.system_parts.specs.Pairs.{Pairs, mark_of}
use Rattle.system_parts.specs.declared.session.State.{State as SessionState}
use Rattle.system_parts.specs.declared.session.State.TheVariants as phase
use Rattle.machine.specs.State.{Client}
pub use Rattle.machine.specs.FoundAt.{InstanceAt, HeldBy, ClientAt, Marked}
pub use Rattle.cause_rules.specs.Written.{keys_with, written_keys, recorded_by, recorded}
unfoldable pub use Rattle.cause_rules.specs.Written.{keys_from, recorded_in}

-- ---- what stands where
-- the session is in this state with this transaction
pub record TxnAt (clients : List Client) (s : ℕ) (state : SessionState) (t : ℕ) : Type 0 where
  pub client : Client
  pub at : ClientAt clients s client
  pub state_is : client.entry.state ≡ state
  pub start_is : client.entry.start ≡ Some t

-- the epoch of a session, 0 where it has none
abbrev pub epoch_or_none : Option ℕ → ℕ
epoch_or_none None = 0
epoch_or_none (Some e) = e

-- the session has the transaction t open, and reads by the epoch e
pub record OpenAt (clients : List Client) (s t e : ℕ) : Type 0 where
  pub client : Client
  pub at : ClientAt clients s client
  pub state_is : client.entry.state ≡ phase.Open
  pub start_is : client.entry.start ≡ Some t
  pub epoch_is : epoch_or_none client.entry.epoch ≡ e

-- ---- what a history has
abbrev pub Begun : List Item → ℕ → ℕ → Type 0
Begun h s t = Begin s t ∈ h

abbrev pub DrewStart : List Item → ℕ → ℕ → ℕ → ℕ → Type 0
DrewStart h s n term t = Draw s n term t None ∈ h

abbrev pub DrewCommit : List Item → ℕ → ℕ → ℕ → ℕ → ℕ → Type 0
DrewCommit h s n term t c = Draw s n term t (Some c) ∈ h

-- a commit was drawn for the transaction
abbrev pub HasDrawn : List Item → ℕ → Type 0
HasDrawn h t = (s : ℕ) × (n : ℕ) × (term : ℕ) × (c : ℕ) × DrewCommit h s n term t c

-- the stamp that an item draws in a term for a start: the commit, or the start
abbrev pub drawn_stamp : ℕ → Option ℕ → ℕ
drawn_stamp t None = t
drawn_stamp t (Some c) = c

-- ---- what the stores have
-- the cell of a version with this shadow, where a value was written
abbrev pub cell_with : ℕ → Option ℕ → Option (List ℕ) → Option Cell
cell_with t shadow None = None
cell_with t shadow (Some value) = Some (record { version = t; value = value; shadow = shadow })

-- the commit table has the commit of the transaction
abbrev pub HasRecord : Pairs → ℕ → ℕ → Type 0
HasRecord pairs t c = mark_of pairs t ≡ Some (CommittedMark c)
