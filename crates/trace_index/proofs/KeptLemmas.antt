-- The ranks of committed transactions.
use Rattle.std.proofs.Common.{◌≡◌, ℕ, zero, suc, ◌+◌, ◌<◌, Bool, true, false, cond, List, [], ◌∷◌, ◌++◌, Option, Some, drop, filter, length, map, option_map, slice_get, refl, sym, ap, ◌∙◌, arith, add-one, append_assoc}
use Rattle.std.proofs.lemmas.Option.{same_Some}
use Rattle.trace_rules.specs.declared.trace.Transaction.{Transaction}
use Rattle.version_ranks.specs.declared.rank.Rank.{Rank}
use Rattle.trace_index.specs.Numbers.{AreDone, is_done, rank_at, ranks_at}

-- what was kept passes the test
kept : (p : Rank → Bool) (xs : List Rank) (i : ℕ) (r : Rank) → slice_get (filter p xs) i ≡ Some r → p r ≡ true
kept p [] i r at = absurd (cc)
kept p (x ∷ xs) i r at = by (p x) refl i at (λ j there. kept p xs j r there)
  where
    by : (b : Bool) → p x ≡ b → (i : ℕ) → slice_get (cond b (x ∷ filter p xs) (filter p xs)) i ≡ Some r → ((j : ℕ) → slice_get (filter p xs) j ≡ Some r → p r ≡ true) → p r ≡ true
    by true is zero at later = ap p (sym (same_Some x r at)) ∙ is
    by true is (suc i) at later = later i at
    by false is i at later = later i at

pub all_done : (transactions : List Transaction) (old new : List Rank) → new ≡ filter (is_done transactions) old → AreDone transactions new
all_done transactions old new is = λ place r at. kept (is_done transactions) old place r (ap (λ (xs : List Rank). slice_get xs place) (sym is) ∙ at)

-- ---- the ranks one by one
map_at : (es : List ((ℕ × ℕ) × ℕ)) (i : ℕ) → i < length es → map rank_at (drop i es) ≡ ranks_at (option_map rank_at (slice_get es i)) ++ map rank_at (drop (suc i) es)
map_at [] i within = absurd (omega (arith, within))
map_at (e ∷ es) zero within = refl
map_at (e ∷ es) (suc i) within = map_at es i (omega (arith, within))

pub ranks_next : (old new done : List Rank) (es : List ((ℕ × ℕ) × ℕ)) (i : ℕ) (one : Option Rank) → i < length es → one ≡ option_map rank_at (slice_get es i) → new ≡ old ++ ranks_at one →
    old ++ map rank_at (drop i es) ≡ done → new ++ map rank_at (drop (i + 1) es) ≡ done
ranks_next old new done es i one within at added so_far =
    let front = ap (λ (xs : List Rank). xs ++ map rank_at (drop (i + 1) es)) (added ∙ ap (λ (o : Option Rank). old ++ ranks_at o) at) in
    let there : map rank_at (drop i es) ≡ ranks_at (option_map rank_at (slice_get es i)) ++ map rank_at (drop (i + 1) es) = rw add-one (map_at es i within) in
    front ∙ append_assoc old _ _ ∙ ap (λ (xs : List Rank). old ++ xs) (sym there) ∙ so_far
