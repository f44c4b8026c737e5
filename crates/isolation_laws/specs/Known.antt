-- What clients remember of other transactions, and the cells that they read, against what was placed and what never will be.
use Rattle.std.specs.Prelude.{◌≡◌, ℕ, ◌⊎◌, All, List, ◌∷◌, Option, IfSome}
use Rattle.std.specs.List.{Contains}
use Rattle.history_book.specs.Isolation.{Committed, Wrote}
use Rattle.history_book.specs.declared.item.Item.{Item}
use Rattle.system_parts.specs.declared.rows.Cell.{Cell}
use Rattle.system_parts.specs.Pairs.{Pairs}
use Rattle.system_parts.specs.declared.known.Known.{Known}
use Rattle.system_parts.specs.declared.known.Known.TheVariants as known
use Rattle.system_parts.specs.Cache.{Cache}
use Rattle.system_parts.specs.KeyRead.{Reading}
use Rattle.system_parts.specs.Instance.{InstanceEntry}
use Rattle.machine.specs.State.{Reads, Client}
use Rattle.isolation_laws.specs.Words.{ClientAt}
use Rattle.isolation_laws.specs.Laws.{IsBarred, IsOver}

-- what is remembered of the transaction is true: its commit is placed; or it was marked before it was placed, and so never will be
abbrev pub IsTrueOf : Pairs → List Item → ℕ → Known → Type 0
IsTrueOf pairs h t (known.Committed c) = Committed h t c
IsTrueOf pairs h t known.Dead = IsBarred pairs h t

abbrev pub IsTruePair : Pairs → List Item → ℕ × Known → Type 0
IsTruePair pairs h pair = IsTrueOf pairs h pair.0 pair.1

-- all that is kept is true, and so is what was just made
pub record IsTrueCache (pairs : Pairs) (h : List Item) (cache : Cache) : Type 0 where
  pub kept : (pair : ℕ × Known) → Contains cache.kept pair → IsTruePair pairs h pair
  pub fresh : IfSome cache.fresh (IsTruePair pairs h)

-- the cell's version wrote the key, or is over: its write failed, and left the cell all the same
abbrev pub IsWrittenCell : List Client → List (Option InstanceEntry) → List Item → ℕ → Cell → Type 0
IsWrittenCell clients nodes h k c = ((value : List ℕ) × Wrote h c.version k value) ⊎ IsOver clients nodes h c.version

-- all that clients remember is true
pub record AreKnown (clients : List Client) (pairs : Pairs) (h : List Item) : Type 0 where
  pub each : (s : ℕ) (c : Client) → ClientAt clients s c → IsTrueCache pairs h c.cache

-- the cells of each read under way are written
pub record AreWrittenCells (clients : List Client) (nodes : List (Option InstanceEntry)) (h : List Item) : Type 0 where
  pub written : (s : ℕ) (c : Client) (r : Reading) → ClientAt clients s c → c.under_way ≡ Reads r → All (IsWrittenCell clients nodes h r.key) (r.cell ∷ r.older)

pub record KnownFacts (clients : List Client) (nodes : List (Option InstanceEntry)) (pairs : Pairs) (h : List Item) : Type 0 where
  pub known : AreKnown clients pairs h
  pub written : AreWrittenCells clients nodes h
