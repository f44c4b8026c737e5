-- Read sets, of strict reads: the client of a transaction keeps what it read before it wrote it, until its commit is drawn.
use Rattle.std.specs.Prelude.{◌≡◌, ℕ, ◌⊎◌, true, false, take, slice_get, List, [], Option, None, Some, Contains}
use Rattle.stamp_base.specs.SetupNumbers.{SetupNumbers}
use Rattle.history_book.specs.Isolation.{Wrote, last_write}
use Rattle.history_book.specs.declared.item.Found.{Found}
use Rattle.history_book.specs.declared.item.Item.{Item}
use Rattle.history_book.specs.declared.item.Item.TheVariants.{Read}
use Rattle.system_parts.specs.KeyRead.{Reading}
use Rattle.system_parts.specs.declared.instance.Progress.{Progress}
use Rattle.system_parts.specs.declared.instance.Request.TheVariants.{Commit}
use Rattle.system_parts.specs.Instance.{InstanceEntry}
use Rattle.machine.specs.State.{Reads, Client}
use Rattle.isolation_laws.specs.Words.{InstanceAt, HeldBy, ClientAt, OpenAt}

-- the transaction t read k, and had not written it
pub record ReadFirst (h : List Item) (t k : ℕ) : Type 0 where
  pub place : ℕ
  pub session : ℕ
  pub answer : Option Found
  pub read : slice_get h place ≡ Some (Read session t k answer)
  pub unwritten : last_write (take place h) t k ≡ None

-- the client keeps all keys that t read and had not written
abbrev pub KeepsReads : List Item → ℕ → Client → Type 0
KeepsReads h t c = (k : ℕ) → ReadFirst h t k → Contains c.reads k

-- the client keeps the key of its read under way, or the transaction wrote it
abbrev pub KeepsKey : List Item → Client → Reading → Type 0
KeepsKey h c r = Contains c.reads r.key ⊎ ((value : List ℕ) × Wrote h r.start r.key value)

-- without strict reads no client keeps a key; with them the client of an open transaction keeps what it read, so does that of
-- a transaction whose commit was asked for, however far the request has come, and a read under way has its key kept
pub record AreReadSets (setup : SetupNumbers) (clients : List Client) (nodes : List (Option InstanceEntry)) (h : List Item) : Type 0 where
  pub plain : setup.strict ≡ false → (s : ℕ) (c : Client) → ClientAt clients s c → c.reads ≡ []
  pub opened : setup.strict ≡ true → (s t e : ℕ) (o : OpenAt clients s t e) → KeepsReads h t o.client
  pub asked : setup.strict ≡ true → (n s t : ℕ) (keys : List ℕ) (p : Progress) (i : InstanceEntry) (c : Client) → InstanceAt nodes n i → HeldBy i s (Commit s t keys) p → ClientAt clients s c → KeepsReads h t c
  pub under_way : setup.strict ≡ true → (s : ℕ) (c : Client) (r : Reading) → ClientAt clients s c → c.under_way ≡ Reads r → KeepsKey h c r
