-- What a read passes over, and how soon it ends.
use Rattle.std.proofs.Common.{rules, ◌≡◌, ◌⊎◌, ℕ, ◌+◌, ◌*◌, ◌<◌, ◌≤◌, ◌==◌, nat_lt, Bool, true, false, ◌||◌, cond, is_some, List, [], ◌∷◌, ◌++◌, Option, None, Some, length, All, refl, ap, arith, inl, inr}
use Rattle.std.specs.List.{take_while}
use Rattle.std.proofs.lemmas.List.Sums.{take_while-cons}
use Rattle.std.proofs.lemmas.List.Elements.{All-cons}
use Rattle.std.proofs.lemmas.Bool.{eq-eqb, eqb-true, leb-true, leb-false}
use Rattle.system_parts.specs.declared.rows.Cell.{Cell}
use Rattle.system_parts.specs.declared.key_read.Answer.{Answer}
use Rattle.system_parts.specs.declared.resolve.SettlePoint.{SettlePoint}
use Rattle.system_parts.specs.declared.resolve.SettlePoint.TheVariants.{FirstLook, Table, Marking, LastLook}
use Rattle.system_parts.specs.declared.resolve.Outcome.{Outcome}
use Rattle.system_parts.specs.declared.resolve.Outcome.TheVariants.{Committed, Dead}
use Rattle.system_parts.specs.declared.asks.Told.{Told}
use Rattle.system_parts.specs.Resolve.{SettleTurn, Goes, Decides, settle_turn, settle_left, SettlesEnd}
use Rattle.system_parts.specs.KeyRead.{Reading, is_late, is_passed, after_passed, PassesUnasked, PassedAreLate, AnswersBy, AnswersOwnOrBelow, turn_at, read_over, Asks, Answers, IfBelow, found_none, found_cell, found_by, settling_of, read_by, read_left, ReadsEnd}

late_by : (start : ℕ) (shadow : Option ℕ) → is_late start shadow ≡ true → ((commit : ℕ) → shadow ≡ Some commit → start ≤ commit) × (shadow ≡ None → ⊥)
late_by start None h = absurd cc
late_by start (Some commit) h = (λ other e. let same : commit ≡ other = cc in omega (arith, leb-true start commit h), λ e. cc)

passes : (start : ℕ) (c : Cell) (own : Bool) → (c.version == start) ≡ own → cond own false (is_late start c.shadow) ≡ true → PassesUnasked start c
passes start c true e h = absurd cc
passes start c false e h = record {
  other = λ same. let own : (c.version == start) ≡ true = eq-eqb c.version start same in cc;
  late = (late_by start c.shadow h).0;
  shadowed = (late_by start c.shadow h).1;
}

passed_cons : (start : ℕ) (c : Cell) (cs : List Cell) (passed : Bool) → is_passed start c ≡ passed → (cs ≡ take_while (is_passed start) cs ++ after_passed start cs) × All (PassesUnasked start) (take_while (is_passed start) cs) → (c ∷ cs ≡ take_while (is_passed start) (c ∷ cs) ++ after_passed start (c ∷ cs)) × All (PassesUnasked start) (take_while (is_passed start) (c ∷ cs))
unfolding after_passed
passed_cons start c cs true e h = rw (take_while-cons, e) (ap (λ rest. c ∷ rest) h.0, All-cons (PassesUnasked start) c _ (passes start c (c.version == start) refl e) h.1)
passed_cons start c cs false e h = rw (take_while-cons, e) (refl, λ k d l. absurd (omega arith))

pub passed_front : PassedAreLate
unfolding after_passed
passed_front start [] = (refl, λ k d l. absurd (omega arith))
passed_front start (c ∷ cs) = passed_cons start c cs (is_passed start c) refl (passed_front start cs)

passed_fewer_cons : (start : ℕ) (c : Cell) (cs : List Cell) (passed : Bool) → is_passed start c ≡ passed → length (after_passed start cs) ≤ length cs → length (after_passed start (c ∷ cs)) ≤ length (c ∷ cs)
unfolding after_passed
passed_fewer_cons start c cs true e h = rw e (omega arith)
passed_fewer_cons start c cs false e h = rw e (omega arith)

passed_fewer : (start : ℕ) (cells : List Cell) → length (after_passed start cells) ≤ length cells
unfolding after_passed
passed_fewer start [] = omega arith
passed_fewer start (c ∷ cs) = passed_fewer_cons start c cs (is_passed start c) refl (passed_fewer start cs)

-- the first cell that is left is not passed over
abbrev StopsAt : ℕ → List Cell → Type 0
StopsAt start [] = Unit {0}
StopsAt start (c ∷ cs) = is_passed start c ≡ false

stops_cons : (start : ℕ) (c : Cell) (cs : List Cell) (passed : Bool) → is_passed start c ≡ passed → StopsAt start (after_passed start cs) → StopsAt start (after_passed start (c ∷ cs))
unfolding after_passed
stops_cons start c cs true e h = rw e h
stops_cons start c cs false e h = rw e e

stops : (start : ℕ) (cells : List Cell) → StopsAt start (after_passed start cells)
unfolding after_passed
stops start [] = tt
stops start (c ∷ cs) = stops_cons start c cs (is_passed start c) refl (stops start cs)

answers_cell : (start : ℕ) (c : Cell) (own : Bool) (shadow : Option ℕ) (a : Answer) (r : Reading) → (c.version == start) ≡ own → cond own false (is_late start shadow) ≡ false → cond (own || is_some shadow) (Answers (found_cell c)) (Asks r) ≡ Answers a → (a ≡ found_cell c) × ((c.version ≡ start) ⊎ IfBelow start shadow)
answers_cell start c true shadow a r own stop e = (let same : Answers (found_cell c) ≡ Answers a = e in cc, inl (eqb-true c.version start own))
answers_cell start c false None a r own stop e = absurd cc
answers_cell start c false (Some commit) a r own stop e = (let same : Answers (found_cell c) ≡ Answers a = e in cc, inr (leb-false start commit stop))

answers_by : (every : Bool) (key start epoch : ℕ) (cells : List Cell) (a : Answer) → StopsAt start cells → turn_at every key start epoch cells ≡ Answers a → AnswersBy start cells a
answers_by every key start epoch [] a h e = let same : Answers found_none ≡ Answers a = e in cc
answers_by every key start epoch (c ∷ cs) a h e = answers_cell start c (c.version == start) c.shadow a _ refl h e

pub answers_own_or_below : AnswersOwnOrBelow
answers_own_or_below every key start epoch cells a = answers_by every key start epoch (after_passed start cells) a (stops start cells)

-- the cell that is resolved next, and those behind it, are among these
resolves_cell : (every : Bool) (key start epoch : ℕ) (c : Cell) (cs : List Cell) (at_once : Bool) (r : Reading) → cond at_once (Answers (found_cell c)) (Asks (record { key = key; start = start; epoch = epoch; every = every; cell = c; older = cs; point = Table })) ≡ Asks r → read_left r ≤ 3 * length cs + 3
resolves_cell every key start epoch c cs true r e = absurd cc
resolves_cell every key start epoch c cs false r e = let same : (let first : Reading = record { key = key; start = start; epoch = epoch; every = every; cell = c; older = cs; point = Table } in first) ≡ r = cc in rw (← same) (omega arith)

read_left_at : (every : Bool) (key start epoch : ℕ) (cells : List Cell) (r : Reading) → turn_at every key start epoch cells ≡ Asks r → read_left r ≤ 3 * length cells
read_left_at every key start epoch [] r e = absurd cc
read_left_at every key start epoch (c ∷ cs) r e = let few : read_left r ≤ 3 * length cs + 3 = resolves_cell every key start epoch c cs _ r e in omega arith

read_left_over : (every : Bool) (key start epoch : ℕ) (cells : List Cell) (r : Reading) → read_over every key start epoch cells ≡ Asks r → read_left r ≤ 3 * length cells
read_left_over every key start epoch cells r e = let few : read_left r ≤ 3 * length (after_passed start cells) = read_left_at every key start epoch (after_passed start cells) r e in omega (arith, passed_fewer start cells)

left_some : (point : SettlePoint) → 1 ≤ settle_left point
left_some FirstLook = omega arith
left_some Table = omega arith
left_some Marking = omega arith
left_some (LastLook met) = omega arith

settle_falls : SettlesEnd
settle_falls = search rules

goes_falls : (r s : Reading) (told : Told) (p : SettlePoint) → settle_turn (settling_of r) told ≡ Goes p → read_by r (Goes p) ≡ Asks s → read_left s < read_left r
goes_falls r s told p v e =
    let same : (let gone : Reading = record r { point = p } in gone) ≡ s = cc in
    let falls : settle_left p < settle_left r.point = (settle_falls (settling_of r)).1 told p v in
    rw (← same) (omega arith)

over_falls : (r s : Reading) → read_over r.every r.key r.start r.epoch r.older ≡ Asks s → read_left s < read_left r
over_falls r s e = let few : read_left s ≤ 3 * length r.older = read_left_over r.every r.key r.start r.epoch r.older s e in omega (arith, left_some r.point)

late_falls : (r s : Reading) (c : ℕ) (by_table below : Bool) → cond below (Answers (found_by r.key r.cell c by_table)) (read_over r.every r.key r.start r.epoch r.older) ≡ Asks s → read_left s < read_left r
late_falls r s c by_table true e = absurd cc
late_falls r s c by_table false e = over_falls r s e

-- a cell that was decided is left behind
pub decided_falls : (r s : Reading) (outcome : Outcome) → read_by r (Decides outcome) ≡ Asks s → read_left s < read_left r
decided_falls r s Dead e = over_falls r s e
decided_falls r s (Committed c by_table) e = late_falls r s c by_table (nat_lt c r.start) e

told_falls : (r s : Reading) (told : Told) (v : SettleTurn) → settle_turn (settling_of r) told ≡ v → read_by r v ≡ Asks s → read_left s < read_left r
told_falls r s told (Goes p) v e = goes_falls r s told p v e
told_falls r s told (Decides outcome) v e = decided_falls r s outcome e

pub reads_end : ReadsEnd
reads_end = (read_left_over, λ r s told e. told_falls r s told (settle_turn (settling_of r) told) refl e)
