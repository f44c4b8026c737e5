-- The read of a key over the cells that were fetched, by the resolve of one cell.
use Rattle.std.specs.Prelude.{◌≡◌, ℕ, ◌+◌, ◌*◌, ◌<◌, ◌≤◌, ◌⊎◌, ◌==◌, nat_lt, nat_le, Bool, true, false, IsTrue, ◌||◌, is_some, List, [], ◌∷◌, ◌++◌, Option, None, Some, if◌then◌else◌, length, All}
use Rattle.std.specs.List.{AllPairs, take_while}
use Rattle.system_parts.specs.declared.asks.Ask.{Ask}
use Rattle.system_parts.specs.declared.asks.Told.{Told}
use Rattle.system_parts.specs.declared.rows.Cell.{Cell}
use Rattle.system_parts.specs.declared.resolve.SettlePoint.{SettlePoint}
use Rattle.system_parts.specs.declared.resolve.SettlePoint.TheVariants.{Table, Marking}
use Rattle.system_parts.specs.declared.resolve.Outcome.TheVariants.{Committed, Dead}
use Rattle.system_parts.specs.declared.key_read.Answer.{Answer}
use Rattle.system_parts.specs.declared.key_read.Next.{Next}
use Rattle.system_parts.specs.declared.key_read.Next.TheVariants.{Recall as NextRecall, Ask as NextAsk, Done as NextDone}
use Rattle.system_parts.specs.Resolve.{Settling, settle_ask, settle_left, SettleTurn, Goes, Decides, settle_turn}

-- a read under way: the cell that is being resolved, and the older ones behind it
pub record Reading : Type 0 where
  pub key : ℕ
  pub start : ℕ
  pub epoch : ℕ
  pub every : Bool
  pub cell : Cell
  pub older : List Cell
  pub point : SettlePoint

-- the cells as a fetch gives them: greatest version first, each version once, none above the start
pub record AreFetched (start : ℕ) (cells : List Cell) : Type 0 where
  pub falling : AllPairs (λ (a : Cell) (b : Cell). b.version < a.version) cells
  pub upto : All (λ (c : Cell). c.version ≤ start) cells

-- a mark is allowed on every version, or where the version is at most the epoch
abbrev pub may_mark : Bool → ℕ → ℕ → Bool
may_mark every version epoch = every || nat_le version epoch

-- the resolve of the cell
abbrev pub settling_of : Reading → Settling
settling_of r = record { key = r.key; txn = r.cell.version; may_mark = may_mark r.every r.cell.version r.epoch; point = r.point }

-- what a read does: it goes on asking, or it has its answer
pub data ReadTurn : Type 0 where
  Asks : Reading → ReadTurn
  Answers : Answer → ReadTurn

abbrev pub found_none : Answer
found_none = record { found = None; heal = None }

abbrev pub found_cell : Cell → Answer
found_cell c = record { found = Some (c.version, c.value); heal = None }

-- the cell that the table decided may get its shadow
abbrev pub found_by : ℕ → Cell → ℕ → Bool → Answer
found_by key c commit by_table = record { found = Some (c.version, c.value); heal = if by_table then Some (key, c.version, commit) else None }

-- a shadow that is not below the start
abbrev pub is_late : ℕ → Option ℕ → Bool
is_late start None = false
is_late start (Some commit) = nat_le start commit

-- another's cell that is passed over without an ask
abbrev pub is_passed : ℕ → Cell → Bool
is_passed start c = if c.version == start then false else is_late start c.shadow

-- the cells from the first one on that is not passed over
unfoldable pub after_passed : ℕ → List Cell → List Cell
after_passed start [] = []
after_passed start (c ∷ cs) = if is_passed start c then after_passed start cs else c ∷ cs

-- an own cell and one with a shadow answer, and any other is resolved
abbrev pub turn_at : Bool → ℕ → ℕ → ℕ → List Cell → ReadTurn
turn_at every key start epoch [] = Answers found_none
turn_at every key start epoch (c ∷ cs) =
    if (c.version == start) || is_some c.shadow then Answers (found_cell c) else Asks (record { key = key; start = start; epoch = epoch; every = every; cell = c; older = cs; point = Table })

-- the read of these cells
abbrev pub read_over : Bool → ℕ → ℕ → ℕ → List Cell → ReadTurn
read_over every key start epoch cells = turn_at every key start epoch (after_passed start cells)

-- a commit below the start answers, and any other cell is passed over
abbrev pub read_by : Reading → SettleTurn → ReadTurn
read_by r (Goes p) = Asks (record r { point = p })
read_by r (Decides Dead) = read_over r.every r.key r.start r.epoch r.older
read_by r (Decides (Committed c by_table)) = if nat_lt c r.start then Answers (found_by r.key r.cell c by_table) else read_over r.every r.key r.start r.epoch r.older

abbrev pub read_told : Reading → Told → ReadTurn
read_told r told = read_by r (settle_turn (settling_of r) told)

abbrev pub read_ask : Reading → Ask
read_ask r = settle_ask (settling_of r)

-- the read that is left: none where it has its answer
abbrev pub reading_left : ReadTurn → Option Reading
reading_left (Asks r) = Some r
reading_left (Answers a) = None

-- what is next where nothing is recalled of the cell, or no longer
abbrev pub next_of : ReadTurn → Next
next_of (Asks r) = NextAsk (read_ask r)
next_of (Answers a) = NextDone a

-- what is next at a cell that was just come to: it is recalled first
abbrev pub next_reached : ReadTurn → Next
next_reached (Asks r) = NextRecall r.cell.version
next_reached (Answers a) = NextDone a

-- what is next after a step on the stores, which stays at its cell or leaves it
abbrev pub next_turned : SettleTurn → ReadTurn → Next
next_turned (Goes p) turn = next_of turn
next_turned (Decides outcome) turn = next_reached turn

abbrev pub is_recall : Next → Bool
is_recall (NextRecall txn) = true
is_recall _ = false

abbrev pub next_ask : Option Reading → Option Ask
next_ask None = None
next_ask (Some r) = Some (read_ask r)

-- a cell of another whose shadow is not below the start
pub record PassesUnasked (start : ℕ) (c : Cell) : Type 0 where
  pub other : c.version ≡ start → ⊥
  pub late : (commit : ℕ) → c.shadow ≡ Some commit → start ≤ commit
  pub shadowed : c.shadow ≡ None → ⊥

-- the cell is dead, or its commit is not below the start
abbrev pub LetsPass : ℕ → SettleTurn → Type 0
LetsPass start (Goes p) = ⊥
LetsPass start (Decides Dead) = Unit {0}
LetsPass start (Decides (Committed c by_table)) = start ≤ c

-- there is a shadow, and it is below the start
abbrev pub IfBelow : ℕ → Option ℕ → Type 0
IfBelow start None = ⊥
IfBelow start (Some commit) = commit < start

-- a commit below the start answers by its cell, and otherwise the cells behind it answer
abbrev pub AnsweredBy : Reading → SettleTurn → Answer → Type 0
AnsweredBy r (Goes p) a = ⊥
AnsweredBy r (Decides Dead) a = read_over r.every r.key r.start r.epoch r.older ≡ Answers a
AnsweredBy r (Decides (Committed c by_table)) a = ((c < r.start) × (a ≡ found_by r.key r.cell c by_table)) ⊎ ((r.start ≤ c) × (read_over r.every r.key r.start r.epoch r.older ≡ Answers a))

-- the cells in front that are passed over unasked have each a shadow that is not below the start
abbrev pub PassedAreLate : Type 0
PassedAreLate =
    (start : ℕ) (cells : List Cell) → let front = take_while (is_passed start) cells in (cells ≡ front ++ after_passed start cells) × All (PassesUnasked start) front

-- the answer of these cells without an ask: none of none; the first one's, where it is own or has a shadow below the start
abbrev pub AnswersBy : ℕ → List Cell → Answer → Type 0
AnswersBy start [] a = a ≡ found_none
AnswersBy start (c ∷ cs) a = (a ≡ found_cell c) × ((c.version ≡ start) ⊎ IfBelow start c.shadow)

-- the first cell that is not passed over unasked answers where it is own or its shadow is below the start
abbrev pub AnswersOwnOrBelow : Type 0
AnswersOwnOrBelow =
    (every : Bool) (key start epoch : ℕ) (cells : List Cell) (a : Answer) → read_over every key start epoch cells ≡ Answers a → AnswersBy start (after_passed start cells) a

-- a cell that was resolved answers where its commit is below the start, and otherwise those behind it answer unasked
abbrev pub AnswersResolved : Type 0
AnswersResolved =
    (r : Reading) (told : Told) (a : Answer) → read_told r told ≡ Answers a → AnsweredBy r (settle_turn (settling_of r) told) a

-- a read that goes on stays at its cell, or passes it over where it is dead or its commit is not below the start
abbrev pub PassesDeadOrLate : Type 0
PassesDeadOrLate =
    (r s : Reading) (told : Told) → read_told r told ≡ Asks s → (s ≡ record r { point = s.point }) ⊎ (LetsPass r.start (settle_turn (settling_of r) told) × (s.cell ∷ s.older ≡ after_passed r.start r.older))

-- a mark is asked only where one is allowed: of every version, or of one that is at most the epoch
abbrev pub ReadsMarkOldAlone : Type 0
ReadsMarkOldAlone = (r s : Reading) (told : Told) → read_told r told ≡ Asks s → s.point ≡ Marking → IsTrue (may_mark s.every s.cell.version s.epoch)

-- the steps that there may be
abbrev pub read_left : Reading → ℕ
read_left r = 3 * length r.older + settle_left r.point

-- at most three steps for each cell, and each answer that leads on leaves fewer
abbrev pub ReadsEnd : Type 0
ReadsEnd =
    ((every : Bool) (key start epoch : ℕ) (cells : List Cell) (r : Reading) → read_over every key start epoch cells ≡ Asks r → read_left r ≤ 3 * length cells) × ((r s : Reading) (told : Told) → read_told r told ≡ Asks s → read_left s < read_left r)
