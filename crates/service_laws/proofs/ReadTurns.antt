-- A read that goes on keeps its start and its key.
use Rattle.std.proofs.Common.{arith}
use Rattle.service_laws.proofs.Names.{◌≡◌, ℕ, Bool, List}
use Rattle.service_laws.proofs.Names.{cases_Bool, Cell, Told, SettleTurn, settle_turn, Reading}
use Rattle.service_laws.proofs.Names.{ReadTurn, Asks, settling_of}
use Rattle.service_laws.proofs.Names.{read_over, Cache, recalled_over}
use Rattle.service_laws.proofs.Names.{recalled_told, AnyCache, Recalls, over_holds, told_holds}
use Rattle.system_parts.specs.KeyRead.{read_by}

abbrev pub IsTurnOf : ℕ → ℕ → ReadTurn → Type 0
IsTurnOf b k turn = (r : Reading) → turn ≡ Asks r → (r.start ≡ b) × (r.key ≡ k)

over_of : (every : Bool) (k b e : ℕ) (cells : List Cell) → IsTurnOf b k (read_over every k b e cells)
over_of every k b e cells = grind (arith, cases_Bool)

by_of : (r : Reading) (turn : SettleTurn) → IsTurnOf r.start r.key (read_by r turn)
by_of r turn = grind (arith, cases_Bool)

recalls_of : (b k : ℕ) → Recalls (IsTurnOf b k) AnyCache
recalls_of b k = grind (arith, cases_Bool)

pub fetched_of : (every : Bool) (k b e : ℕ) (cells : List Cell) (cache : Cache) → IsTurnOf b k (recalled_over every k b e cells cache).0
fetched_of every k b e cells cache = (over_holds (IsTurnOf b k) AnyCache (recalls_of b k) every k b e cells cache tt (over_of every k b e cells)).0

pub told_of : (cache : Cache) (r : Reading) (told : Told) → IsTurnOf r.start r.key (recalled_told cache r told).0
told_of cache r told = (told_holds (IsTurnOf r.start r.key) AnyCache (recalls_of r.start r.key) cache r told tt (by_of r (settle_turn (settling_of r) told))).0
