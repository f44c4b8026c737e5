-- What the history shows of the master record, of marks and of sessions that have vanished.
use Rattle.std.specs.Prelude.{◌≡◌, ℕ, List, None, Some}
use Rattle.history_book.specs.Members.{◌∈◌}
use Rattle.history_book.specs.declared.item.Actor.{Actor}
use Rattle.history_book.specs.declared.item.Item.{Item}
use Rattle.history_book.specs.declared.item.Item.TheVariants.{Mark, Vanish}
use Rattle.system_parts.specs.Pairs.{Pairs}
use Rattle.system_parts.specs.Record.{MasterRecord}
use Rattle.system_parts.specs.declared.session.State.TheVariants.{Gone}
use Rattle.machine.specs.State.{Client}
use Rattle.cause_rules.specs.Posts.{TermTaken, LeaseGiven, CeilingGiven}
use Rattle.isolation_laws.specs.Words.{ClientAt, Marked}

-- a record that is held has the term, the lease and the ceiling that takes, renewals and extensions gave it
pub record IsRecordShown (master : MasterRecord) (h : List Item) : Type 0 where
  pub vacant : master.holder ≡ None → master.ceiling ≡ 0
  pub term : (n : ℕ) → master.holder ≡ Some n → TermTaken h master.term
  pub lease : (n : ℕ) → master.holder ≡ Some n → LeaseGiven h master.until
  pub ceiling : (n : ℕ) → master.holder ≡ Some n → (term : ℕ) × CeilingGiven h term master.ceiling

-- a mark was placed by somebody
pub record AreMarked (pairs : Pairs) (h : List Item) : Type 0 where
  pub marked : (t : ℕ) → Marked pairs t → (actor : Actor) × (Mark actor t ∈ h)

-- a session that has vanished did so in the history
pub record AreGone (clients : List Client) (h : List Item) : Type 0 where
  pub vanished : (s : ℕ) (c : Client) → ClientAt clients s c → c.entry.state ≡ Gone → Vanish s ∈ h
