-- A turn of the code as the definitions see it.
use Rattle.std.specs.Prelude.{◌≡◌, ◌<◌, List, [], ◌∷◌, Option, None, Some, length, drop}
use Rattle.system_parts.specs.declared.rows.Cell.{Cell}
use Rattle.system_parts.specs.declared.resolve.SettlePoint.{SettlePoint}
use Rattle.system_parts.specs.declared.resolve.SettlePoint.TheVariants.{Table}
use Rattle.system_parts.specs.declared.resolve.Outcome.{Outcome}
use Rattle.system_parts.specs.Resolve.{Settling, Decides}
use Rattle.system_parts.specs.KeyRead.{Reading, ReadTurn, Asks, Answers, may_mark, found_none, read_by}
use Rattle.reader_resolve.specs.declared.turn.Reader.{Reader}
use Rattle.reader_resolve.specs.declared.turn.Turn.{Turn}
use Rattle.reader_resolve.specs.declared.turn.Turn.TheVariants.{Resolves as TurnResolves, Answers as TurnAnswers}

-- where a reader may mark every version, its reads do
abbrev pub resolving : Reader → Cell → List Cell → SettlePoint → Reading
resolving r c cs point = record { key = r.key; start = r.start; epoch = r.epoch; every = r.every; cell = c; older = cs; point = point }

-- the read that resolves the first of these cells; none where no cell is left
abbrev pub reading_at : Reader → List Cell → SettlePoint → Option Reading
reading_at r [] point = None
reading_at r (c ∷ cs) point = Some (resolving r c cs point)

-- the resolve is that of the first of these cells
abbrev pub Resolves : Reader → List Cell → Settling → Type 0
Resolves r [] s = Unit {0}
Resolves r (c ∷ cs) s = (s.key ≡ r.key) × (s.txn ≡ c.version) × (s.may_mark ≡ may_mark r.every c.version r.epoch)

abbrev pub asks_at : Reader → List Cell → SettlePoint → ReadTurn
asks_at r [] point = Answers found_none
asks_at r (c ∷ cs) point = Asks (resolving r c cs point)

-- what the turn comes to, over these cells
abbrev pub turn_of : Reader → List Cell → Turn → ReadTurn
turn_of r cells (TurnResolves passed settle) = asks_at r (drop passed cells) settle.point
turn_of r cells (TurnAnswers answer) = Answers answer

-- a cell is left to be resolved, and the resolve is that of this cell
abbrev pub IsPlaced : Reader → List Cell → Turn → Type 0
IsPlaced r cells (TurnResolves passed settle) = (passed < length cells) × Resolves r (drop passed cells) settle
IsPlaced r cells (TurnAnswers answer) = Unit {0}

-- what a decision makes of the read that resolves the first of these cells, at whichever point it came
abbrev pub decided_of : Reader → List Cell → Outcome → ReadTurn
decided_of r [] outcome = Answers found_none
decided_of r (c ∷ cs) outcome = read_by (resolving r c cs Table) (Decides outcome)
