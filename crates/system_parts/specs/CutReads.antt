-- A read that has the front of the fetched cells alone, down to the first that decides by itself, beside one that has them all.
use Rattle.std.specs.Prelude.{◌≡◌, ℕ, Bool, List, [], ◌∷◌}
use Rattle.system_parts.specs.declared.asks.Told.{Told}
use Rattle.system_parts.specs.declared.rows.Cell.{Cell}
use Rattle.system_parts.specs.Rows.{front_of}
use Rattle.system_parts.specs.KeyRead.{Reading, ReadTurn, Asks, Answers, read_over, read_told, read_ask, next_of}

-- the same read, but that its older cells are the front of the other's
abbrev pub IsCut : Reading → Reading → Type 0
IsCut cut whole = cut ≡ record whole { older = front_of whole.start whole.older }

-- the same answer, or both go on
abbrev pub IsCutTurn : ReadTurn → ReadTurn → Type 0
IsCutTurn (Answers a) (Answers b) = a ≡ b
IsCutTurn (Asks cut) (Asks whole) = IsCut cut whole
IsCutTurn _ _ = ⊥

-- a read that is told these answers, one after another; one that has found its own is over
unfoldable pub read_after : List Told → ReadTurn → ReadTurn
read_after [] turn = turn
read_after (told ∷ tolds) (Asks r) = read_after tolds (read_told r told)
read_after (told ∷ tolds) (Answers a) = Answers a

-- a read of the front begins as one of all the cells, goes on as it at each answer, and asks and answers the same
pub record CutReadsAreWhole : Type 0 where
  pub begins : (every : Bool) (key start epoch : ℕ) (cells : List Cell) → IsCutTurn (read_over every key start epoch (front_of start cells)) (read_over every key start epoch cells)
  pub goes_on : (cut whole : Reading) (told : Told) → IsCut cut whole → IsCutTurn (read_told cut told) (read_told whole told)
  pub asks : (cut whole : Reading) → IsCut cut whole → (read_ask cut ≡ read_ask whole) × (cut.cell ≡ whole.cell) × (cut.point ≡ whole.point)
  pub shows : (cut whole : ReadTurn) → IsCutTurn cut whole → next_of cut ≡ next_of whole
  pub runs : (every : Bool) (key start epoch : ℕ) (cells : List Cell) (tolds : List Told) → next_of (read_after tolds (read_over every key start epoch (front_of start cells))) ≡ next_of (read_after tolds (read_over every key start epoch cells))
