-- What the history shows of the keys that clients keep as read, which count with strict reads.
use Rattle.std.specs.Prelude.{◌≡◌, ℕ, List, Some, Contains}
use Rattle.history_book.specs.declared.item.Item.{Item}
use Rattle.system_parts.specs.declared.session.State.TheVariants as phase
use Rattle.machine.specs.State.{Client}
use Rattle.cause_rules.specs.Asks.{its_ask}
use Rattle.cause_rules.specs.OwnKeys.{last_begun, FetchedSince}
use Rattle.isolation_laws.specs.Words.{ClientAt}

-- the session's last begin gave t, and each key that its client keeps was fetched since
pub record AreFetched (h : List Item) (s t : ℕ) (c : Client) : Type 0 where
  pub begun : last_begun h s ≡ Some t
  pub fetched : (key : ℕ) → Contains c.reads key → FetchedSince h s key

-- so it is of an open transaction, and of one whose commit was its session's last ask, whether the session is there or has vanished
pub record AreReadsShown (clients : List Client) (h : List Item) : Type 0 where
  pub opened : (s t : ℕ) (c : Client) → ClientAt clients s c → c.entry.state ≡ phase.Open → c.entry.start ≡ Some t → AreFetched h s t c
  pub asked : (s n t : ℕ) (c : Client) → ClientAt clients s c → its_ask h s ≡ Some (record { node = n; start = Some t }) → AreFetched h s t c
