-- For this crate's own proofs.
-- Public laws, for the proofs of crates above: reads that recall where nothing is kept, how soon they end, and over the front alone.
use Rattle.std.proofs.Common.{◌≡◌, ℕ, ◌+◌, ◌*◌, ◌<◌, ◌≤◌, ◌==◌, nat_eq, nat_lt, Bool, true, false, ◌||◌, cond, is_some, List, [], ◌∷◌, Option, Some, None, length, refl, ap, ◌∙◌, arith}
use Rattle.std.proofs.lemmas.Bool.{eq-eqb}
use Rattle.std.specs.Map.{lookup}
use Rattle.system_parts.specs.declared.rows.Cell.{Cell}
use Rattle.system_parts.specs.Rows.{is_below, front_of}
use Rattle.system_parts.specs.declared.known.Known.{Known}
use Rattle.system_parts.specs.declared.resolve.Outcome.{Outcome}
use Rattle.system_parts.specs.declared.resolve.Outcome.TheVariants.{Committed, Dead}
use Rattle.system_parts.specs.Resolve.{SettleTurn, Goes, Decides, settle_turn}
use Rattle.system_parts.specs.KeyRead.{Reading, ReadTurn, Asks, Answers, is_passed, settling_of, read_over, read_by, read_left}
use Rattle.system_parts.specs.Cache.{Cache, known_of, used, fresh_put}
use Rattle.system_parts.specs.Recalled.{Remembering, outcome_known, recalled_by, recalled_at, recalled_over, recalled_turn, recalled_known, recalled_from}
use Rattle.system_parts.specs.RecalledReads.{NothingKeptIsPlain, RecalledReadsEnd, IsCutRecall, CutRecallsAreWhole}
use Rattle.system_parts.proofs.KeyReadLemmas.{reads_end, decided_falls}
use Rattle.system_parts.proofs.CutReadLemmas.{passed_over, cut_of}
use Rattle.system_parts.proofs.RecalledLemmas.{over_from, decided_from, AnyCache, Recalls, over_holds, told_holds}

-- ---- where nothing is kept
from_none : (cache : Cache) (turn : ReadTurn) → cache.kept ≡ [] → recalled_from cache turn ≡ (turn, cache)
from_none cache (Asks r) none = ap (λ (kept : List (ℕ × Known)). recalled_known cache r (lookup (nat_eq r.cell.version) kept)) none
from_none cache (Answers a) none = refl

turn_none : (cache : Cache) (r : Reading) (turn : SettleTurn) → cache.kept ≡ [] → recalled_turn cache r turn ≡ (read_by r turn, cache)
turn_none cache r (Goes point) none = refl
turn_none cache r (Decides outcome) none = decided_from cache r outcome ∙ from_none cache (read_by r (Decides outcome)) none

pub nothing_kept_is_plain : NothingKeptIsPlain
nothing_kept_is_plain cache = record {
  learnt = λ pair none. rw (eq-eqb cache.room 0 none) refl;
  put = λ none. ap (λ (made : Option (ℕ × Known)). fresh_put cache made) none;
  over = λ every key start epoch cells none. over_from every key start epoch cells cache ∙ from_none cache (read_over every key start epoch cells) none;
  told = λ r told none. turn_none cache r (settle_turn (settling_of r) told) none;
}

-- ---- the end
-- fewer steps than these are left
abbrev Below : ℕ → ReadTurn → Type 0
Below most turn = (s : Reading) → turn ≡ Asks s → read_left s < most

recalls_fall : (most : ℕ) → Recalls (Below most) AnyCache
recalls_fall most = record {
  stays = λ cache txn any. tt;
  goes = λ cache r k any is below s e. let fewer : read_left s < read_left r = decided_falls r s (outcome_known k) e in omega (arith, below r refl);
}

recalled_begins : (every : Bool) (key start epoch : ℕ) (cells : List Cell) (cache : Cache) (r : Reading) → (recalled_over every key start epoch cells cache).0 ≡ Asks r → read_left r ≤ 3 * length cells
recalled_begins every key start epoch cells cache r e =
    let plain : Below (3 * length cells + 1) (read_over every key start epoch cells) = λ s is. omega (arith, reads_end.0 every key start epoch cells s is) in
    omega (arith, (over_holds (Below (3 * length cells + 1)) AnyCache (recalls_fall (3 * length cells + 1)) every key start epoch cells cache tt plain).0 r e)

pub recalled_reads_end : RecalledReadsEnd
recalled_reads_end = record {
  begins = recalled_begins;
  falls = λ cache r s told. (told_holds (Below (read_left r)) AnyCache (recalls_fall (read_left r)) cache r told tt (λ other. reads_end.1 r other told)).0 s;
}

-- ---- the front alone
late_cut : (cache : Cache) (key start : ℕ) (c : Cell) (commit : ℕ) (by_table below : Bool) (cut whole : Remembering) → nat_lt commit start ≡ below → IsCutRecall cut whole → IsCutRecall (recalled_by cache key start c (Committed commit by_table) cut) (recalled_by cache key start c (Committed commit by_table) whole)
late_cut cache key start c commit by_table true cut whole is rest = rw is (refl, refl)
late_cut cache key start c commit by_table false cut whole is rest = rw is rest

decided_cut : (cache : Cache) (key start : ℕ) (c : Cell) (outcome : Outcome) (cut whole : Remembering) → IsCutRecall cut whole → IsCutRecall (recalled_by cache key start c outcome cut) (recalled_by cache key start c outcome whole)
decided_cut cache key start c (Committed commit by_table) cut whole rest = late_cut cache key start c commit by_table (nat_lt commit start) cut whole refl rest
decided_cut cache key start c Dead cut whole rest = rest

-- whatever is remembered
abbrev IsCutOver : Bool → ℕ → ℕ → ℕ → List Cell → Type 0
IsCutOver every key start epoch cells = (cache : Cache) → IsCutRecall (recalled_over every key start epoch (front_of start cells) cache) (recalled_over every key start epoch cells cache)

at_cut : (every : Bool) (key start epoch : ℕ) (c : Cell) (cs : List Cell) (cache : Cache) (o : Option Known) → IsCutOver every key start epoch cs → IsCutRecall (recalled_at every key start epoch c (front_of start cs) cache (recalled_over every key start epoch (front_of start cs)) o) (recalled_at every key start epoch c cs cache (recalled_over every key start epoch cs) o)
at_cut every key start epoch c cs cache None rest = (refl, refl)
at_cut every key start epoch c cs cache (Some k) rest = decided_cut (used cache c.version) key start c (outcome_known k) _ _ (rest (used cache c.version))

below_decides : (start : ℕ) (own : Bool) (shadow : Option ℕ) → is_below start shadow ≡ true → (own || is_some shadow) ≡ false → ⊥
below_decides start true shadow below asks = cc
below_decides start false None below asks = cc
below_decides start false (Some commit) below asks = cc

over_cut_cons : (every : Bool) (key start epoch : ℕ) (c : Cell) (cs : List Cell) (below passed decides : Bool) → is_below start c.shadow ≡ below → is_passed start c ≡ passed → ((c.version == start) || is_some c.shadow) ≡ decides → IsCutOver every key start epoch cs → IsCutOver every key start epoch (c ∷ cs)
unfolding recalled_over front_of
over_cut_cons every key start epoch c cs true true decides b p d rest cache = let late : is_below start c.shadow ≡ false = passed_over start (c.version == start) c.shadow p in absurd (cc)
over_cut_cons every key start epoch c cs true false false b p d rest cache = absurd (below_decides start (c.version == start) c.shadow b d)
over_cut_cons every key start epoch c cs true false true b p d rest cache = rw (b, p, d) (refl, refl)
over_cut_cons every key start epoch c cs false true decides b p d rest cache = rw (b, p) (rest cache)
over_cut_cons every key start epoch c cs false false true b p d rest cache = rw (b, p, d) (refl, refl)
over_cut_cons every key start epoch c cs false false false b p d rest cache = rw (b, p, d) (at_cut every key start epoch c cs cache (known_of cache c.version) rest)

over_cut : (every : Bool) (key start epoch : ℕ) (cells : List Cell) → IsCutOver every key start epoch cells
unfolding recalled_over front_of
over_cut every key start epoch [] cache = (refl, refl)
over_cut every key start epoch (c ∷ cs) cache = over_cut_cons every key start epoch c cs (is_below start c.shadow) (is_passed start c) ((c.version == start) || is_some c.shadow) refl refl refl (over_cut every key start epoch cs) cache

turn_cut : (cache : Cache) (whole : Reading) (turn : SettleTurn) → IsCutRecall (recalled_turn cache (cut_of whole) turn) (recalled_turn cache whole turn)
turn_cut cache whole (Goes point) = (refl, refl)
turn_cut cache whole (Decides outcome) = decided_cut cache whole.key whole.start whole.cell outcome _ _ (over_cut whole.every whole.key whole.start whole.epoch whole.older cache)

pub cut_recalls_are_whole : CutRecallsAreWhole
cut_recalls_are_whole = record {
  begins = over_cut;
  goes_on = λ cache cut whole told h. rw h (turn_cut cache whole (settle_turn (settling_of whole) told));
}
