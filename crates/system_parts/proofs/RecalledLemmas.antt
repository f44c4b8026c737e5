-- For isolation_laws, event_parts, command_semantics and grant_laws too.
-- Public laws, for the proofs of crates above: a read that recalls, beside the plain one.
use Rattle.std.proofs.Common.{◌≡◌, ℕ, ◌==◌, nat_lt, Bool, true, false, ◌||◌, cond, is_some, List, [], ◌∷◌, Option, Some, None, refl, sym, subst}
use Rattle.system_parts.specs.declared.rows.Cell.{Cell}
use Rattle.system_parts.specs.declared.known.Known.{Known}
use Rattle.system_parts.specs.declared.asks.Told.{Told}
use Rattle.system_parts.specs.declared.resolve.SettlePoint.TheVariants.{Table}
use Rattle.system_parts.specs.declared.resolve.Outcome.{Outcome}
use Rattle.system_parts.specs.declared.resolve.Outcome.TheVariants.{Committed, Dead}
use Rattle.system_parts.specs.Resolve.{SettleTurn, Goes, Decides, settle_turn}
use Rattle.system_parts.specs.KeyRead.{Reading, ReadTurn, Asks, is_passed, after_passed, settling_of, read_over, read_by, read_told}
use Rattle.system_parts.specs.Cache.{Cache, known_of, used}
use Rattle.system_parts.specs.Recalled.{Remembering, outcome_known, recalled_at, recalled_over, recalled_turn, recalled_told, recalled_known, recalled_from}
use Rattle.system_parts.specs.RecalledReads.{RecallsGoCellByCell}

-- ---- a read is the plain one up to the cell that it comes to, and there it is recalled
-- the read that has just come to this cell
abbrev pub come_to : Bool → ℕ → ℕ → ℕ → Cell → List Cell → Reading
come_to every key start epoch c cs = record { key = key; start = start; epoch = epoch; every = every; cell = c; older = cs; point = Table }

at_from : (every : Bool) (key start epoch : ℕ) (c : Cell) (cs : List Cell) (cache : Cache) (o : Option Known) → recalled_at every key start epoch c cs cache (recalled_over every key start epoch cs) o ≡ recalled_known cache (come_to every key start epoch c cs) o
at_from every key start epoch c cs cache None = refl
at_from every key start epoch c cs cache (Some k) = refl

over_cons : (every : Bool) (key start epoch : ℕ) (c : Cell) (cs : List Cell) (cache : Cache) (passed decides : Bool) → is_passed start c ≡ passed → ((c.version == start) || is_some c.shadow) ≡ decides → recalled_over every key start epoch cs cache ≡ recalled_from cache (read_over every key start epoch cs) → recalled_over every key start epoch (c ∷ cs) cache ≡ recalled_from cache (read_over every key start epoch (c ∷ cs))
unfolding recalled_over after_passed
over_cons every key start epoch c cs cache true decides p d rest = rw p rest
over_cons every key start epoch c cs cache false true p d rest = rw (p, d) refl
over_cons every key start epoch c cs cache false false p d rest = rw (p, d) (at_from every key start epoch c cs cache (known_of cache c.version))

pub over_from : (every : Bool) (key start epoch : ℕ) (cells : List Cell) (cache : Cache) → recalled_over every key start epoch cells cache ≡ recalled_from cache (read_over every key start epoch cells)
unfolding recalled_over after_passed
over_from every key start epoch [] cache = refl
over_from every key start epoch (c ∷ cs) cache = over_cons every key start epoch c cs cache (is_passed start c) ((c.version == start) || is_some c.shadow) refl refl (over_from every key start epoch cs cache)

late_from : (cache : Cache) (r : Reading) (commit : ℕ) (by_table below : Bool) → nat_lt commit r.start ≡ below → recalled_turn cache r (Decides (Committed commit by_table)) ≡ recalled_from cache (read_by r (Decides (Committed commit by_table)))
late_from cache r commit by_table true is = rw is refl
late_from cache r commit by_table false is = rw is (over_from r.every r.key r.start r.epoch r.older cache)

pub decided_from : (cache : Cache) (r : Reading) (outcome : Outcome) → recalled_turn cache r (Decides outcome) ≡ recalled_from cache (read_by r (Decides outcome))
decided_from cache r (Committed commit by_table) = late_from cache r commit by_table (nat_lt commit r.start) refl
decided_from cache r Dead = over_from r.every r.key r.start r.epoch r.older cache

-- ---- what holds of the plain read, and is kept where a read goes on by what is kept, holds of the one that recalls
-- of a fact that does not look at what is remembered
abbrev pub AnyCache : Cache → Type 0
AnyCache cache = Unit {0}

module _ (P : ReadTurn → Type 0) (Q : Cache → Type 0) where
  -- what is remembered stays of this kind at a recall, and a read that goes on by it does too
  pub record Recalls : Type 0 where
    pub stays : (cache : Cache) (txn : ℕ) → Q cache → Q (used cache txn)
    pub goes : (cache : Cache) (r : Reading) (k : Known) → Q cache → known_of cache r.cell.version ≡ Some k → P (Asks r) → P (read_by r (Decides (outcome_known k)))

  abbrev pub HoldBoth : Remembering → Type 0
  HoldBoth x = P x.0 × Q x.1

  -- the read of these cells, over whatever is remembered
  abbrev HoldsOver : Bool → ℕ → ℕ → ℕ → List Cell → Type 0
  HoldsOver every key start epoch cells = (cache : Cache) → Q cache → P (read_over every key start epoch cells) → HoldBoth (recalled_over every key start epoch cells cache)

  late_holds : (cache : Cache) (r : Reading) (commit : ℕ) (by_table below : Bool) → nat_lt commit r.start ≡ below → HoldsOver r.every r.key r.start r.epoch r.older → Q cache → P (read_by r (Decides (Committed commit by_table))) → HoldBoth (recalled_turn cache r (Decides (Committed commit by_table)))
  late_holds cache r commit by_table true is rest q = rw is (λ p. (p, q))
  late_holds cache r commit by_table false is rest q = rw is (rest cache q)

  decided_holds : (cache : Cache) (r : Reading) (outcome : Outcome) → HoldsOver r.every r.key r.start r.epoch r.older → Q cache → P (read_by r (Decides outcome)) → HoldBoth (recalled_turn cache r (Decides outcome))
  decided_holds cache r (Committed commit by_table) rest q = late_holds cache r commit by_table (nat_lt commit r.start) refl rest q
  decided_holds cache r Dead rest q = rest cache q

  known_holds : Recalls → (cache : Cache) (r : Reading) (o : Option Known) → known_of cache r.cell.version ≡ o → HoldsOver r.every r.key r.start r.epoch r.older → Q cache → P (Asks r) → HoldBoth (recalled_known cache r o)
  known_holds recalls cache r None is rest q p = (p, q)
  known_holds recalls cache r (Some k) is rest q p = decided_holds (used cache r.cell.version) r (outcome_known k) rest (recalls.stays cache r.cell.version q) (recalls.goes cache r k q is p)

  holds_cons : Recalls → (every : Bool) (key start epoch : ℕ) (c : Cell) (cs : List Cell) (passed decides : Bool) → is_passed start c ≡ passed → ((c.version == start) || is_some c.shadow) ≡ decides → HoldsOver every key start epoch cs → HoldsOver every key start epoch (c ∷ cs)
  unfolding recalled_over after_passed
  holds_cons recalls every key start epoch c cs true decides e d rest cache q = rw e (rest cache q)
  holds_cons recalls every key start epoch c cs false true e d rest cache q = rw (e, d) (λ p. (p, q))
  holds_cons recalls every key start epoch c cs false false e d rest cache q =
      let r : Reading = come_to every key start epoch c cs in
      rw (e, d) (λ p. subst HoldBoth (sym (at_from every key start epoch c cs cache (known_of cache c.version))) (known_holds recalls cache r (known_of cache c.version) refl rest q p))

  pub over_holds : Recalls → (every : Bool) (key start epoch : ℕ) (cells : List Cell) (cache : Cache) → Q cache → P (read_over every key start epoch cells) → HoldBoth (recalled_over every key start epoch cells cache)
  unfolding recalled_over after_passed
  over_holds recalls every key start epoch [] cache q p = (p, q)
  over_holds recalls every key start epoch (c ∷ cs) cache q p = holds_cons recalls every key start epoch c cs (is_passed start c) ((c.version == start) || is_some c.shadow) refl refl (over_holds recalls every key start epoch cs) cache q p

  turn_holds : Recalls → (cache : Cache) (r : Reading) (turn : SettleTurn) → Q cache → P (read_by r turn) → HoldBoth (recalled_turn cache r turn)
  turn_holds recalls cache r (Goes point) q p = (p, q)
  turn_holds recalls cache r (Decides outcome) q p = decided_holds cache r outcome (over_holds recalls r.every r.key r.start r.epoch r.older) q p

  pub told_holds : Recalls → (cache : Cache) (r : Reading) (told : Told) → Q cache → P (read_told r told) → HoldBoth (recalled_told cache r told)
  told_holds recalls cache r told = turn_holds recalls cache r (settle_turn (settling_of r) told)

pub recalls_go_cell_by_cell : RecallsGoCellByCell
recalls_go_cell_by_cell = record { over = over_from; decided = decided_from }
