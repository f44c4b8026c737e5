-- A read that has a cell left is under way, and asks of it.
use Rattle.std.proofs.Common.{◌≡◌, ℕ, zero, suc, ◌<◌, List, [], ◌∷◌, Option, Some, IsSome, IfSome, length, drop, slice_index_or, refl, ap, ◌∙◌, arith, length-drop}
use Rattle.system_parts.specs.declared.asks.Ask.{Ask}
use Rattle.system_parts.specs.declared.rows.Cell.{Cell}
use Rattle.system_parts.specs.declared.resolve.SettlePoint.TheVariants.{Table}
use Rattle.system_parts.specs.declared.resolve.SettlePoint.{SettlePoint}
use Rattle.system_parts.specs.declared.resolve.Outcome.{Outcome}
use Rattle.system_parts.specs.declared.resolve.Outcome.TheVariants.{Committed, Dead}
use Rattle.system_parts.specs.declared.key_read.Next.TheVariants.{Recall}
use Rattle.system_parts.specs.Resolve.{Settling, Decides, settle_ask}
use Rattle.system_parts.specs.KeyRead.{Reading, next_ask, next_reached, read_by}
use Rattle.reader_resolve.specs.declared.turn.Reader.{Reader}
use Rattle.reader_resolve.specs.Turns.{reading_at, resolving, asks_at, decided_of, Resolves}

some_first : (r : Reader) (xs : List Cell) (point : SettlePoint) → 0 < length xs → IsSome (reading_at r xs point)
some_first r [] point l = absurd (omega arith)
some_first r (c ∷ cs) point l = refl

pub under_way : (r : Reader) (cells : List Cell) (passed : ℕ) (point : SettlePoint) → passed < length cells → IsSome (reading_at r (drop passed cells) point)
under_way r cells passed point l = some_first r (drop passed cells) point (omega (arith, length-drop passed cells))

asked_first : (r : Reader) (xs : List Cell) (s : Settling) → 0 < length xs → Resolves r xs s → Some (settle_ask s) ≡ next_ask (reading_at r xs s.point)
asked_first r [] s l h = absurd (omega arith)
asked_first r (c ∷ cs) s l h = rw (h.0, h.1) refl

-- the ask of a read that has no answer yet
pub asked : (r : Reader) (cells : List Cell) (passed : ℕ) (s : Settling) (ask : Ask) (now : Option Reading) → passed < length cells → Resolves r (drop passed cells) s → ask ≡ settle_ask s → reading_at r (drop passed cells) s.point ≡ now → Some ask ≡ next_ask now
asked r cells passed s ask now l h e v = ap (λ (a : Ask). Some a) e ∙ asked_first r (drop passed cells) s (omega (arith, length-drop passed cells)) h ∙ ap next_ask v

-- at whichever point a decision comes, it makes the same of the read
same_decided : (r : Reader) (c : Cell) (cs : List Cell) (p q : SettlePoint) (outcome : Outcome) → read_by (resolving r c cs p) (Decides outcome) ≡ read_by (resolving r c cs q) (Decides outcome)
same_decided r c cs p q Dead = refl
same_decided r c cs p q (Committed commit by_table) = refl

-- the cell at a place is the one that is recalled
recalled_at : (r : Reader) (cells : List Cell) (passed : ℕ) (cell : Cell) (p : SettlePoint) → passed < length cells → cell ≡ slice_index_or cells passed cell → Recall cell.version ≡ next_reached (asks_at r (drop passed cells) p)
recalled_at r [] passed cell p l e = absurd (omega arith)
recalled_at r (c ∷ cs) zero cell p l e = ap (λ (x : Cell). Recall x.version) e
recalled_at r (c ∷ cs) (suc passed) cell p l e = recalled_at r cs passed cell p (omega arith) e

decided_next : (r : Reader) (xs ys : List Cell) (p q : SettlePoint) (outcome : Outcome) → asks_at r xs p ≡ decided_of r ys outcome → IfSome (reading_at r ys q) (λ x. next_reached (asks_at r xs p) ≡ next_reached (read_by x (Decides outcome)))
decided_next r xs [] p q outcome e = tt
decided_next r xs (c ∷ cs) p q outcome e = ap next_reached (e ∙ same_decided r c cs Table q outcome)

-- a read that comes to another cell recalls it
pub comes_to : (r : Reader) (cells : List Cell) (at passed : ℕ) (cell : Cell) (p q : SettlePoint) (outcome : Outcome) → passed < length cells → cell ≡ slice_index_or cells passed cell → asks_at r (drop passed cells) p ≡ decided_of r (drop at cells) outcome → IfSome (reading_at r (drop at cells) q) (λ x. Recall cell.version ≡ next_reached (read_by x (Decides outcome)))
comes_to r cells at passed cell p q outcome l is e = rw (recalled_at r cells passed cell p l is) (decided_next r (drop passed cells) (drop at cells) p q outcome e)
