-- The read of a key by a session that remembers: a cell that it comes to is recalled first, and asked of the stores only where
-- nothing is kept of its transaction. A recall decides as the stores would, offers no shadow, and brings what it used to the front.
use Rattle.std.specs.Prelude.{ℕ, ◌==◌, ◌||◌, nat_lt, Bool, false, is_some, List, [], ◌∷◌, Option, None, Some, if◌then◌else◌}
use Rattle.system_parts.specs.declared.rows.Cell.{Cell}
use Rattle.system_parts.specs.declared.known.Known.{Known}
use Rattle.system_parts.specs.declared.known.Known.TheVariants as known
use Rattle.system_parts.specs.declared.asks.Told.{Told}
use Rattle.system_parts.specs.declared.resolve.SettlePoint.TheVariants.{Table}
use Rattle.system_parts.specs.declared.resolve.Outcome.{Outcome}
use Rattle.system_parts.specs.declared.resolve.Outcome.TheVariants.{Committed as CommittedAt, Dead}
use Rattle.system_parts.specs.Resolve.{SettleTurn, Goes, Decides, settle_turn}
use Rattle.system_parts.specs.declared.key_read.Next.{Next}
use Rattle.system_parts.specs.KeyRead.{Reading, ReadTurn, Asks, Answers, is_passed, found_none, found_cell, found_by, settling_of, read_by, next_of, next_reached}
use Rattle.system_parts.specs.Cache.{Cache, known_of, used}

-- what is remembered, as an outcome
abbrev pub outcome_known : Known → Outcome
outcome_known (known.Committed commit) = CommittedAt commit false
outcome_known known.Dead = Dead

-- a read's turn, and what the session remembers then
abbrev pub Remembering : Type 0
Remembering = ReadTurn × Cache

-- a commit below the start answers, and any other cell is passed over
abbrev pub recalled_by : Cache → ℕ → ℕ → Cell → Outcome → Remembering → Remembering
recalled_by cache key start c (CommittedAt commit by_table) rest = if nat_lt commit start then (Answers (found_by key c commit by_table), cache) else rest
recalled_by cache key start c Dead rest = rest

-- a cell that decides nothing by itself: it is asked of the stores where nothing is kept of it; `rest` reads the cells behind it
abbrev pub recalled_at : Bool → ℕ → ℕ → ℕ → Cell → List Cell → Cache → (Cache → Remembering) → Option Known → Remembering
recalled_at every key start epoch c cs cache rest None = (Asks (record { key = key; start = start; epoch = epoch; every = every; cell = c; older = cs; point = Table }), cache)
recalled_at every key start epoch c cs cache rest (Some k) = recalled_by (used cache c.version) key start c (outcome_known k) (rest (used cache c.version))

-- the read of these cells, over what is remembered
unfoldable pub recalled_over : Bool → ℕ → ℕ → ℕ → List Cell → Cache → Remembering
recalled_over every key start epoch [] cache = (Answers found_none, cache)
recalled_over every key start epoch (c ∷ cs) cache =
    if is_passed start c then recalled_over every key start epoch cs cache
    else if (c.version == start) || is_some c.shadow then (Answers (found_cell c), cache)
    else recalled_at every key start epoch c cs cache (recalled_over every key start epoch cs) (known_of cache c.version)

-- the read after a step on the stores, which goes on at its cell or decides it
abbrev pub recalled_turn : Cache → Reading → SettleTurn → Remembering
recalled_turn cache r (Goes point) = (Asks (record r { point = point }), cache)
recalled_turn cache r (Decides outcome) = recalled_by cache r.key r.start r.cell outcome (recalled_over r.every r.key r.start r.epoch r.older cache)

abbrev pub recalled_told : Cache → Reading → Told → Remembering
recalled_told cache r told = recalled_turn cache r (settle_turn (settling_of r) told)

-- ---- the same read, recall by recall: what is kept of the cell that it has come to decides it, and where nothing is, it asks
abbrev pub recalled_known : Cache → Reading → Option Known → Remembering
recalled_known cache r None = (Asks r, cache)
recalled_known cache r (Some k) = recalled_turn (used cache r.cell.version) r (Decides (outcome_known k))

abbrev pub recalled_from : Cache → ReadTurn → Remembering
recalled_from cache (Asks r) = recalled_known cache r (known_of cache r.cell.version)
recalled_from cache (Answers a) = (Answers a, cache)

-- ---- one recall: what is kept of the cell decides it, and where nothing is, it is asked of
abbrev pub read_recalled : Reading → Option Known → ReadTurn
read_recalled r None = Asks r
read_recalled r (Some k) = read_by r (Decides (outcome_known k))

abbrev pub next_recalled : Reading → Option Known → Next
next_recalled r None = next_of (Asks r)
next_recalled r (Some k) = next_reached (read_by r (Decides (outcome_known k)))
