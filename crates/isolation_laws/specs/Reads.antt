-- Reads under way, and reads of the past, against commits that can still arrive.
use Rattle.std.specs.Prelude.{◌≡◌, ℕ, ◌<◌, ◌⊎◌, Bool, true, false, IsTrue, if◌then◌else◌, All, List, [], ◌∷◌, Option, None, Some}
use Rattle.std.specs.List.{Any}
use Rattle.stamp_base.specs.SetupNumbers.{SetupNumbers}
use Rattle.history_book.specs.Members.{◌∈◌}
use Rattle.history_book.specs.Isolation.{Committed, Wrote, last_write, WasListed}
use Rattle.history_book.specs.declared.item.Found.{Found}
use Rattle.history_book.specs.declared.item.Item.{Item}
use Rattle.history_book.specs.declared.item.Item.TheVariants.{Read}
use Rattle.system_parts.specs.declared.rows.Cell.{Cell}
use Rattle.system_parts.specs.Rows.{Row, AreFalling, is_below}
use Rattle.system_parts.specs.Pairs.{Pairs}
use Rattle.system_parts.specs.declared.resolve.SettlePoint.{SettlePoint}
use Rattle.system_parts.specs.declared.resolve.SettlePoint.TheVariants.{FirstLook, Table, Marking, LastLook}
use Rattle.system_parts.specs.KeyRead.{Reading, may_mark}
use Rattle.system_parts.specs.Instance.{InstanceEntry}
use Rattle.machine.specs.State.{Reads, Client}
use Rattle.machine.specs.Events.Fetch.{marks_every}
use Rattle.isolation_laws.specs.Words.{ClientAt, OpenAt, Marked}
use Rattle.isolation_laws.specs.Pending.{ComesBelow}
use Rattle.isolation_laws.specs.UnderWay.{HasShadow}
use Rattle.isolation_laws.specs.ReadSets.{AreReadSets}

-- the version of the last cell where its shadow is below the start, below which no cell can answer; 0 where it is not
abbrev pub floor_at : ℕ → Cell → ℕ
floor_at b c = if is_below b c.shadow then c.version else 0

unfoldable pub floor_of : ℕ → List Cell → ℕ
floor_of b [] = 0
floor_of b (c ∷ []) = floor_at b c
floor_of b (c ∷ d ∷ cs) = floor_of b (d ∷ cs)

-- the version is that of one of the cells
abbrev pub IsAmong : ℕ → List Cell → Type 0
IsAmong t cells = Any (λ (c : Cell). c.version ≡ t) cells

-- the version is among the cells, or below their floor
abbrev pub IsCovered : ℕ → ℕ → List Cell → Type 0
IsCovered b t cells = IsAmong t cells ⊎ (t < floor_of b cells)

-- the cell has the last write of its version at the key
abbrev pub HasLastWrite : List Item → ℕ → Cell → Type 0
HasLastWrite h k c = last_write h c.version k ≡ Some c.value

-- what is still to be seen of the key k by a read with the start b goes over these cells: all that is placed below b or
-- will be, down to the floor, with its value
pub record SeesAll (clients : List Client) (nodes : List (Option InstanceEntry)) (pairs : Pairs) (h : List Item) (b k : ℕ) (cells : List Cell) : Type 0 where
  pub falling : AreFalling cells
  pub below : All (λ (c : Cell). c.version < b) cells
  pub shadows : All (λ (c : Cell). (commit : ℕ) → c.shadow ≡ Some commit → Committed h c.version commit) cells
  pub found : (u d : ℕ) (value : List ℕ) → Committed h u d → d < b → Wrote h u k value → IsCovered b u cells
  pub values : All (λ (c : Cell). (d : ℕ) → Committed h c.version d → d < b → HasLastWrite h k c) cells
  pub coming : (u : ℕ) (value : List ℕ) → ComesBelow clients nodes b u → (Marked pairs u → ⊥) → Wrote h u k value → IsCovered b u cells
  pub coming_values : All (λ (c : Cell). ComesBelow clients nodes b c.version → (Marked pairs c.version → ⊥) → HasLastWrite h k c) cells

-- what is known at each point of the resolve of a version t by a reader with the start b and the epoch e, which may mark every
-- version or not: at the last look a mark that was met stands, and where none was met none may be placed
abbrev pub IsResolvedTo : Pairs → List Row → List Item → ℕ → ℕ → Bool → ℕ → ℕ → SettlePoint → Type 0
IsResolvedTo pairs rows h k b every e t FirstLook = ⊥
IsResolvedTo pairs rows h k b every e t Table = Unit {0}
IsResolvedTo pairs rows h k b every e t Marking = IsTrue (may_mark every t e)
IsResolvedTo pairs rows h k b every e t (LastLook met) = (met ≡ true → Marked pairs t) × (met ≡ false → IsTrue (may_mark every t e) → ⊥) × ((c : ℕ) → Committed h t c → c < b → HasShadow rows k t c)

-- a read under way is that of an open transaction, by its start and its epoch, marks what the setup lets it mark, and sees all
-- that it may answer with
pub record IsReading (setup : SetupNumbers) (clients : List Client) (nodes : List (Option InstanceEntry)) (rows : List Row) (pairs : Pairs) (h : List Item) (b e : ℕ) (r : Reading) : Type 0 where
  pub start_is : r.start ≡ b
  pub epoch_is : r.epoch ≡ e
  pub every_is : r.every ≡ marks_every setup
  pub own : (value : List ℕ) → Wrote h b r.key value → WasListed h b
  pub sees : SeesAll clients nodes pairs h b r.key (r.cell ∷ r.older)
  pub resolved : IsResolvedTo pairs rows h r.key b r.every e r.cell.version r.point

pub record AreReading (setup : SetupNumbers) (clients : List Client) (nodes : List (Option InstanceEntry)) (rows : List Row) (pairs : Pairs) (h : List Item) : Type 0 where
  pub reads : (s : ℕ) (c : Client) (r : Reading) → ClientAt clients s c → c.under_way ≡ Reads r → (b : ℕ) × (e : ℕ) × OpenAt clients s b e × IsReading setup clients nodes rows pairs h b e r

-- a commit u that can still arrive below the start b does not change the answer: it is an own one, or u is marked, or the
-- answer's version is above u
abbrev pub Outlasts : Pairs → ℕ → ℕ → Option Found → Type 0
Outlasts pairs b u None = Marked pairs u
Outlasts pairs b u (Some found) = (found.from ≡ b) ⊎ Marked pairs u ⊎ (u < found.from)

pub record AreLastingReads (clients : List Client) (nodes : List (Option InstanceEntry)) (pairs : Pairs) (h : List Item) : Type 0 where
  pub lasts : (s b k u : ℕ) (answer : Option Found) (value : List ℕ) → Read s b k answer ∈ h → ComesBelow clients nodes b u → Wrote h u k value → Outlasts pairs b u answer

pub record ReadFacts (setup : SetupNumbers) (clients : List Client) (nodes : List (Option InstanceEntry)) (rows : List Row) (pairs : Pairs) (h : List Item) : Type 0 where
  pub reading : AreReading setup clients nodes rows pairs h
  pub lasting : AreLastingReads clients nodes pairs h
  pub read_sets : AreReadSets setup clients nodes h
