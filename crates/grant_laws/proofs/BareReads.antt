-- How soon a read ends, by the cells without a shadow alone: any other one is passed over or answers, without a step on the stores.
use Rattle.grant_laws.proofs.Names.{◌≡◌, ℕ, ◌+◌, ◌*◌, ◌<◌, ◌≤◌, cond, Bool}
use Rattle.grant_laws.proofs.Names.{List, [], ◌∷◌, length, inl, inr, refl, arith, filter}
use Rattle.grant_laws.proofs.Names.{cases_Bool, Cell, Told, Cache, outcome_known, recalled_over}
use Rattle.grant_laws.proofs.Names.{recalled_told, Reading, ReadTurn, Asks, Answers, after_passed}
use Rattle.grant_laws.proofs.Names.{turn_at, found_by, settling_of, read_over, read_by, is_bare}
use Rattle.grant_laws.proofs.Names.{read_steps}
use Rattle.system_parts.specs.declared.resolve.Outcome.{Outcome}
use Rattle.system_parts.specs.declared.resolve.SettlePoint.{SettlePoint}
use Rattle.system_parts.specs.RecalledReads.{RecalledReadsEnd}
use Rattle.system_parts.specs.Resolve.{settle_left, SettleTurn, Goes, Decides, settle_turn}
use Rattle.system_parts.specs.KeyRead.{is_passed}
use Rattle.system_parts.proofs.RecalledLemmas.{AnyCache, Recalls, over_holds, told_holds}

-- a read begins with at most three steps for each cell without a shadow, and each answer that leads on leaves fewer
pub record BareReadsEnd : Type 0 where
  pub begins : (every : Bool) (key start epoch : ℕ) (cells : List Cell) (cache : Cache) (r : Reading) → (recalled_over every key start epoch cells cache).0 ≡ Asks r → read_steps r ≤ 3 * length (filter is_bare cells)
  pub falls : (cache : Cache) (r s : Reading) (told : Told) → (recalled_told cache r told).0 ≡ Asks s → read_steps s < read_steps r

-- ---- cells that are passed over
one_more_bare : (c : Cell) (cs : List Cell) → length (filter is_bare cs) ≤ length (filter is_bare (c ∷ cs))
one_more_bare c cs = grind (arith, cases_Bool)

passed_fewer : (start : ℕ) (cells : List Cell) → length (filter is_bare (after_passed start cells)) ≤ length (filter is_bare cells)
unfolding after_passed
passed_fewer start [] = omega arith
passed_fewer start (c ∷ cs) = elim (cases_Bool (is_passed start c)) [
  | inl passed ↦ rw passed (omega (arith, passed_fewer start cs, one_more_bare c cs))
  | inr stays ↦ rw stays (omega arith)
]

-- ---- the cell that is resolved
few_at : (every : Bool) (key start epoch : ℕ) (cells : List Cell) (r : Reading) → turn_at every key start epoch cells ≡ Asks r → read_steps r ≤ 3 * length (filter is_bare cells)
few_at every key start epoch cells r e = grind arith

few_over : (every : Bool) (key start epoch : ℕ) (cells : List Cell) (r : Reading) → read_over every key start epoch cells ≡ Asks r → read_steps r ≤ 3 * length (filter is_bare cells)
few_over every key start epoch cells r e = omega (arith, few_at every key start epoch (after_passed start cells) r e, passed_fewer start cells)

-- ---- one step
pub some_left : (point : SettlePoint) → 1 ≤ settle_left point
some_left point = grind arith

-- a resolve that goes on is nearer to its end
nearer : RecalledReadsEnd → (r : Reading) (told : Told) (point : SettlePoint) → settle_turn (settling_of r) told ≡ Goes point → settle_left point < settle_left r.point
nearer ends r told point is = grind arith

goes_falls : (r s : Reading) (point : SettlePoint) → settle_left point < settle_left r.point → read_by r (Goes point) ≡ Asks s → read_steps s < read_steps r
goes_falls r s point less e = grind arith

over_falls : (r s : Reading) → read_over r.every r.key r.start r.epoch r.older ≡ Asks s → read_steps s < read_steps r
over_falls r s e = omega (arith, few_over r.every r.key r.start r.epoch r.older s e, some_left r.point)

late_falls : (r s : Reading) (c : ℕ) (by_table below : Bool) → cond below (Answers (found_by r.key r.cell c by_table)) (read_over r.every r.key r.start r.epoch r.older) ≡ Asks s → read_steps s < read_steps r
late_falls r s c by_table below e = grind (arith, over_falls)

decided_falls : (r s : Reading) (outcome : Outcome) → read_by r (Decides outcome) ≡ Asks s → read_steps s < read_steps r
decided_falls r s outcome e = grind (arith, over_falls, late_falls)

told_falls : RecalledReadsEnd → (r s : Reading) (told : Told) (turn : SettleTurn) → settle_turn (settling_of r) told ≡ turn → read_by r turn ≡ Asks s → read_steps s < read_steps r
told_falls ends r s told turn is e = grind (arith, goes_falls, nearer, decided_falls)

-- ---- a recall makes it no longer
abbrev Below : ℕ → ReadTurn → Type 0
Below most turn = (s : Reading) → turn ≡ Asks s → read_steps s < most

recalls_fall : (most : ℕ) → Recalls (Below most) AnyCache
recalls_fall most = record {
  stays = λ cache txn any. tt;
  goes = λ cache r k any is below s e. let fewer : read_steps s < read_steps r = decided_falls r s (outcome_known k) e in omega (arith, below r refl);
}

begins_few : (every : Bool) (key start epoch : ℕ) (cells : List Cell) (cache : Cache) (r : Reading) → (recalled_over every key start epoch cells cache).0 ≡ Asks r → read_steps r ≤ 3 * length (filter is_bare cells)
begins_few every key start epoch cells cache r e =
    let most : ℕ = 3 * length (filter is_bare cells) + 1 in
    let plain : Below most (read_over every key start epoch cells) = λ s is. omega (arith, few_over every key start epoch cells s is) in
    omega (arith, (over_holds (Below most) AnyCache (recalls_fall most) every key start epoch cells cache tt plain).0 r e)

pub bare_reads_end : RecalledReadsEnd → BareReadsEnd
bare_reads_end ends = grind (arith, begins_few, told_holds, recalls_fall, told_falls)
