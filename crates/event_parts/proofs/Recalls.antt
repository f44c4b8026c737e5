-- For session_events too.
-- A read that recalls, by what it has left and what it says is next, is the read of the definitions. For the crates of the events too.
use Rattle.std.proofs.Common.{◌≡◌, ℕ, ◌+◌, ◌<◌, ◌==◌, Bool, true, false, ◌||◌, is_some, nat_eq, nat_lt, List, [], ◌∷◌, Option, None, Some, IfSome, length, refl, sym, ap, ◌∙◌, subst, arith}
use Rattle.std.specs.Map.{lookup, lookup_entry}
use Rattle.system_parts.specs.declared.rows.Cell.{Cell}
use Rattle.system_parts.specs.declared.known.Known.{Known}
use Rattle.system_parts.specs.declared.asks.Told.{Told}
use Rattle.system_parts.specs.declared.key_read.Next.{Next}
use Rattle.system_parts.specs.declared.key_read.Next.TheVariants.{Recall as NextRecall, Ask as NextAsk, Done as NextDone}
use Rattle.system_parts.specs.declared.resolve.Outcome.{Outcome}
use Rattle.system_parts.specs.declared.resolve.Outcome.TheVariants.{Committed, Dead}
use Rattle.system_parts.specs.Resolve.{SettleTurn, Goes, Decides, settle_turn}
use Rattle.system_parts.specs.KeyRead.{Reading, ReadTurn, Asks, Answers, is_passed, after_passed, settling_of, read_over, read_by, read_told, reading_left, next_of, next_reached, next_turned, next_ask, is_recall}
use Rattle.system_parts.specs.Cache.{Cache, cache_new, known_of, used, cache_learnt, learnt_by}
use Rattle.system_parts.specs.Recalled.{Remembering, outcome_known, recalled_over, recalled_turn, recalled_told, recalled_known, recalled_from, read_recalled, next_recalled}
use Rattle.system_parts.proofs.RecalledLemmas.{over_from, decided_from}
use Rattle.reader_resolve.specs.Runs.{Run, run_reached, run_recalled, run_told, next_told}
use Rattle.system_parts.specs.Asks.{FitsNext}
use Rattle.event_parts.specs.Working.{told_over}
use Rattle.event_parts.specs.Recalling.{ShowsNext, remembers, recalls_left}

-- ---- a read that has come to a cell, or has its answer
reached_comes : (cache : Cache) (turn : ReadTurn) → remembers cache (reading_left turn) (next_reached turn) ≡ recalled_from cache turn
reached_comes cache (Asks r) = refl
reached_comes cache (Answers a) = refl

reached_shows : (turn : ReadTurn) → ShowsNext (reading_left turn) (next_reached turn)
reached_shows (Asks r) = refl
reached_shows (Answers a) = tt

-- of a fetch
over_comes : (every : Bool) (key start epoch : ℕ) (cells : List Cell) (cache : Cache) (reading : Option Reading) (next : Next) → reading ≡ reading_left (read_over every key start epoch cells) → next ≡ next_reached (read_over every key start epoch cells) → (remembers cache reading next ≡ recalled_over every key start epoch cells cache) × ShowsNext reading next
over_comes every key start epoch cells cache reading next left is =
    let turn : ReadTurn = read_over every key start epoch cells in
    rw (left, is) (reached_comes cache turn ∙ sym (over_from every key start epoch cells cache), reached_shows turn)

-- of a step on the stores
turned_comes : (cache : Cache) (r : Reading) (turn : SettleTurn) → (remembers cache (reading_left (read_by r turn)) (next_turned turn (read_by r turn)) ≡ recalled_turn cache r turn) × ShowsNext (reading_left (read_by r turn)) (next_turned turn (read_by r turn))
turned_comes cache r (Goes point) = (refl, refl)
turned_comes cache r (Decides outcome) = (reached_comes cache (read_by r (Decides outcome)) ∙ sym (decided_from cache r outcome), reached_shows (read_by r (Decides outcome)))

told_comes : (cache : Cache) (r : Reading) (told : Told) (reading : Option Reading) (next : Next) → reading ≡ reading_left (read_told r told) → next ≡ next_told r told → (remembers cache reading next ≡ recalled_told cache r told) × ShowsNext reading next
told_comes cache r told reading next left is = rw (left, is) (turned_comes cache r (settle_turn (settling_of r) told))

-- ---- one recall
none_cons : (txn : ℕ) (pair : ℕ × Known) (kept : List (ℕ × Known)) (same : Bool) → nat_eq txn pair.0 ≡ same → (lookup (nat_eq txn) kept ≡ None → lookup_entry (nat_eq txn) kept ≡ None) → lookup (nat_eq txn) (pair ∷ kept) ≡ None → lookup_entry (nat_eq txn) (pair ∷ kept) ≡ None
none_cons txn pair kept true is rest = rw is (λ none. absurd cc)
none_cons txn pair kept false is rest = rw is rest

entry_none : (txn : ℕ) (kept : List (ℕ × Known)) → lookup (nat_eq txn) kept ≡ None → lookup_entry (nat_eq txn) kept ≡ None
entry_none txn [] none = refl
entry_none txn (pair ∷ kept) none = none_cons txn pair kept (nat_eq txn pair.0) refl (entry_none txn kept) none

-- a recall of nothing leaves what is kept
used_none : (cache : Cache) (txn : ℕ) → known_of cache txn ≡ None → used cache txn ≡ cache
used_none cache txn none = rw (entry_none txn cache.kept none) refl

over_cache : (turn : ReadTurn) {a b : Cache} → a ≡ b → ◌≡◌ {A = Remembering} (turn, a) (turn, b)
over_cache turn same = cc

known_comes : (cache : Cache) (r : Reading) (o : Option Known) → known_of cache r.cell.version ≡ o → (remembers (used cache r.cell.version) (reading_left (read_recalled r o)) (next_recalled r o) ≡ recalled_known cache r o) × ShowsNext (reading_left (read_recalled r o)) (next_recalled r o)
known_comes cache r None is = (over_cache (Asks r) (used_none cache r.cell.version is), refl)
known_comes cache r (Some k) is = (reached_comes (used cache r.cell.version) (read_by r (Decides (outcome_known k))) ∙ sym (decided_from (used cache r.cell.version) r (outcome_known k)), reached_shows (read_by r (Decides (outcome_known k))))

-- ---- fewer cells are left
fewer_cons : (every : Bool) (key start epoch : ℕ) (c : Cell) (cs : List Cell) (s : Reading) (passed decides : Bool) → is_passed start c ≡ passed → ((c.version == start) || is_some c.shadow) ≡ decides → (read_over every key start epoch cs ≡ Asks s → length s.older < length cs) → read_over every key start epoch (c ∷ cs) ≡ Asks s → length s.older < length cs + 1
unfolding after_passed
fewer_cons every key start epoch c cs s true decides p d rest = rw p (λ e. let less = rest e in omega arith)
fewer_cons every key start epoch c cs s false true p d rest = rw (p, d) (λ e. absurd cc)
fewer_cons every key start epoch c cs s false false p d rest = rw (p, d) (λ e. let same : cs ≡ s.older = cc in rw (← same) (omega arith))

over_fewer : (every : Bool) (key start epoch : ℕ) (cells : List Cell) (s : Reading) → read_over every key start epoch cells ≡ Asks s → length s.older < length cells
unfolding after_passed
over_fewer every key start epoch [] s e = absurd cc
over_fewer every key start epoch (c ∷ cs) s e = let less : length s.older < length cs + 1 = fewer_cons every key start epoch c cs s (is_passed start c) ((c.version == start) || is_some c.shadow) refl refl (over_fewer every key start epoch cs s) e in omega arith

late_fewer : (r s : Reading) (commit : ℕ) (by_table below : Bool) → nat_lt commit r.start ≡ below → read_by r (Decides (Committed commit by_table)) ≡ Asks s → length s.older < length r.older
late_fewer r s commit by_table true is = rw is (λ e. absurd cc)
late_fewer r s commit by_table false is = rw is (over_fewer r.every r.key r.start r.epoch r.older s)

by_fewer : (r s : Reading) (outcome : Outcome) → read_by r (Decides outcome) ≡ Asks s → length s.older < length r.older
by_fewer r s (Committed commit by_table) = late_fewer r s commit by_table (nat_lt commit r.start) refl
by_fewer r s Dead = over_fewer r.every r.key r.start r.epoch r.older s

reached_fewer : (r : Reading) (turn : ReadTurn) → ((s : Reading) → turn ≡ Asks s → length s.older < length r.older) → recalls_left (reading_left turn) (next_reached turn) < length r.older + 1
reached_fewer r (Asks s) less = let few : length s.older < length r.older = less s refl in omega arith
reached_fewer r (Answers a) less = omega arith

known_fewer : (r : Reading) (o : Option Known) → recalls_left (reading_left (read_recalled r o)) (next_recalled r o) < length r.older + 1
known_fewer r None = omega arith
known_fewer r (Some k) = reached_fewer r (read_by r (Decides (outcome_known k))) (λ s. by_fewer r s (outcome_known k))

-- one turn: what the read comes to stays
pub record Turned (before now : Cache) (reading reading_now : Option Reading) (next next_now : Next) : Type 0 where
  pub comes : remembers now reading_now next_now ≡ remembers before reading next
  pub shows : ShowsNext reading_now next_now
  pub fewer : recalls_left reading_now next_now < recalls_left reading next

turned_by : (before : Cache) (r : Reading) (o : Option Known) (txn : ℕ) → known_of before r.cell.version ≡ o → Turned before (used before r.cell.version) (Some r) (reading_left (read_recalled r o)) (NextRecall txn) (next_recalled r o)
turned_by before r o txn is = let made = known_comes before r o is in record {
  comes = made.0 ∙ ap (recalled_known before r) (sym is);
  shows = made.1;
  fewer = known_fewer r o;
}

pub recall_turns : (before now : Cache) (run run_now : Run) (o : Option Known) (txn : ℕ) (next_now : Next) → ShowsNext run.reading (NextRecall txn) → known_of before txn ≡ o → now ≡ used before txn → IfSome run.reading (λ (r : Reading). run_now ≡ run_recalled run.learnt r o) → IfSome run.reading (λ (r : Reading). next_now ≡ next_recalled r o) → Turned before now run.reading run_now.reading (NextRecall txn) next_now × (run_now.learnt ≡ run.learnt)
recall_turns before now run run_now o txn next_now shows known left goes is = (elim run.reading as (λ (reading : Option Reading). ShowsNext reading (NextRecall txn) → IfSome reading (λ (r : Reading). run_now ≡ run_recalled run.learnt r o) → IfSome reading (λ (r : Reading). next_now ≡ next_recalled r o) → Turned before now reading run_now.reading (NextRecall txn) next_now × (run_now.learnt ≡ run.learnt)) [
  | None ↦ λ shown ran next. absurd shown
  | Some r ↦ λ shown ran next. rw (ran, next, left, shown) (turned_by before r o r.cell.version (subst (λ (t : ℕ). known_of before t ≡ o) shown known), refl)
]) shows goes is

-- ---- the step of a read that is under way
pub step_shows : (reading : Option Reading) (run_now : Run) (told : Told) (next : Next) → FitsNext (next_ask reading) told → IfSome reading (λ (r : Reading). run_now ≡ run_told r told) → IfSome reading (λ (r : Reading). next ≡ next_told r told) → ShowsNext run_now.reading next
step_shows None run_now told next fits ran is = absurd fits
step_shows (Some r) run_now told next fits ran is = rw ran (told_comes (cache_new 0) r told (reading_left (read_told r told)) next refl is).1

step_comes : (cache : Cache) (reading : Option Reading) (run_now : Run) (told : Told) (next : Next) → IfSome reading (λ (r : Reading). run_now ≡ run_told r told) → IfSome reading (λ (r : Reading). next ≡ next_told r told) → IfSome reading (λ (r : Reading). remembers (cache_learnt cache run_now.learnt) run_now.reading next ≡ told_over cache r told)
step_comes cache None run_now told next ran is = tt
step_comes cache (Some r) run_now told next ran is = rw ran (told_comes (cache_learnt cache (learnt_by r told)) r told (reading_left (read_told r told)) next refl is).0

said : (P : Remembering → Type 0) (Q : Reading → Remembering) (reading : Option Reading) (x : Remembering) → P x → IfSome reading (λ (r : Reading). x ≡ Q r) → IfSome reading (λ (r : Reading). P (Q r))
said P Q None x p is = tt
said P Q (Some r) x p is = rw is at p

-- what holds of the read after its recalls holds of what its step comes to
pub step_said : (P : Remembering → Type 0) (cache now : Cache) (reading : Option Reading) (run_now : Run) (told : Told) (next : Next) (learnt : Option (ℕ × Known)) → IfSome reading (λ (r : Reading). run_now ≡ run_told r told) → IfSome reading (λ (r : Reading). next ≡ next_told r told) → learnt ≡ run_now.learnt → now ≡ cache_learnt cache learnt → P (remembers now run_now.reading next) → IfSome reading (λ (r : Reading). P (told_over cache r told))
step_said P cache now reading run_now told next learnt ran is same left p =
    said P (λ r. told_over cache r told) reading (remembers (cache_learnt cache run_now.learnt) run_now.reading next) (rw (left, same) at p) (step_comes cache reading run_now told next ran is)

-- ---- after the recalls
ends_at : (cache : Cache) (reading : Option Reading) (next : Next) → ShowsNext reading next → is_recall next ≡ false → (reading ≡ reading_left (remembers cache reading next).0) × (next ≡ next_of (remembers cache reading next).0) × (cache ≡ (remembers cache reading next).1)
ends_at cache (Some r) (NextRecall txn) shows none = absurd cc
ends_at cache (Some r) (NextAsk asked) shows none = (refl, ap NextAsk shows, refl)
ends_at cache (Some r) (NextDone answer) shows none = absurd shows
ends_at cache None (NextRecall txn) shows none = absurd shows
ends_at cache None (NextAsk asked) shows none = absurd shows
ends_at cache None (NextDone answer) shows none = (refl, refl, refl)

-- ---- a read that was begun
pub start_comes : (every : Bool) (cache : Cache) (key start epoch : ℕ) (cells : List Cell) (run : Run) (next : Next) → run ≡ run_reached None (read_over every key start epoch cells) → next ≡ next_reached (read_over every key start epoch cells) → (remembers cache run.reading next ≡ recalled_over every key start epoch cells cache) × ShowsNext run.reading next
start_comes every cache key start epoch cells run next is shown = over_comes every key start epoch cells cache run.reading next (ap (λ (r : Run). r.reading) is) shown
