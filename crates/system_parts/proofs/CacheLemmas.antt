-- For isolation_laws too.
-- Public laws, for the proofs of crates above: what a cache keeps was kept before, or was just made.
use Rattle.std.proofs.Common.{◌≡◌, ◌⊎◌, ℕ, zero, suc, ◌+◌, ◌-◌, ◌<◌, ◌≤◌, arith, length, take, nat_eq, Bool, true, false, cond, List, [], ◌∷◌, Option, None, Some, refl, sym, ◌∙◌, ap, subst, inl, inr, Contains}
use Rattle.std.specs.Map.{lookup, lookup_entry, remove_entry}
use Rattle.std.specs.Option.{option_map_or}
use Rattle.std.proofs.lemmas.Bool.{eqb-true, eq-eqb}
use Rattle.std.proofs.lemmas.Cmp.{nat_eq_equiv}
use Rattle.lru.specs.LruCache.{lru_cache}
use Rattle.lru.proofs.Splits.{Contains-cons, Contains-head, Contains-tail, Contains-nil}
use Rattle.lru.proofs.CallerLemmas.{Contains-lookup, Contains-lookup_entry, Contains-promoted, Contains-put_entries, IsPut, lookup-put_entries}
use Rattle.system_parts.specs.declared.known.Known.{Known}
use Rattle.system_parts.specs.Cache.{Cache, known_of, used, fresh_put}
use Rattle.system_parts.specs.RecalledReads.{RecallsKeep, MemoriesKeep}

-- what is found of a transaction is kept
pub known_there : (cache : Cache) (txn : ℕ) (it : Known) → known_of cache txn ≡ Some it → Contains cache.kept (txn, it)
known_there cache txn it is =
    let found = Contains-lookup (nat_eq txn) cache.kept it is in
    subst (λ t. Contains cache.kept (t, it)) (sym (eqb-true txn found.0 found.2)) found.1

-- a use keeps no more
pub used_there : (cache : Cache) (txn : ℕ) (pair : ℕ × Known) → Contains (used cache txn).kept pair → Contains cache.kept pair
used_there cache txn pair there = Contains-promoted (nat_eq txn) cache.kept pair there

same_pair : (one two : ℕ × Known) → one.0 ≡ two.0 → one.1 ≡ two.1 → one ≡ two
same_pair (t, a) (u, b) first second = cc

put_is : (cache : Cache) (made pair : ℕ × Known) → IsPut nat_eq (lru_cache cache.kept cache.room) made.0 made.1 pair → made ≡ pair
put_is cache made pair (value, inl key) = same_pair made pair (sym key) (sym value)
put_is cache made pair (value, inr (old, there, same)) = same_pair made pair (eqb-true made.0 pair.0 same) (sym value)

-- a decision that was put in is the only one that is kept more
pub put_there : (cache : Cache) (made : Option (ℕ × Known)) (pair : ℕ × Known) → Contains (fresh_put cache made).kept pair → Contains cache.kept pair ⊎ (made ≡ Some pair)
put_there cache None pair there = inl there
put_there cache (Some made) pair there = elim (Contains-put_entries nat_eq (lru_cache cache.kept cache.room) made.0 made.1 pair there) [
  | inl old ↦ inl old
  | inr put ↦ inr (ap Some (put_is cache made pair put))
]

-- ---- a use keeps no less
abbrev Pairs : Type 0
Pairs = List (ℕ × Known)

-- a pair that is not taken out by its transaction is left
left_cons : (txn : ℕ) (one : ℕ × Known) (es : Pairs) (took pair : ℕ × Known) (takes : Bool) → nat_eq txn one.0 ≡ takes → (lookup_entry (nat_eq txn) es ≡ Some took → Contains es pair → (took ≡ pair) ⊎ Contains (remove_entry (nat_eq txn) es) pair) → lookup_entry (nat_eq txn) (one ∷ es) ≡ Some took → Contains (one ∷ es) pair → (took ≡ pair) ⊎ Contains (remove_entry (nat_eq txn) (one ∷ es)) pair
left_cons txn one es took pair true is rest = rw is (λ found there. elim (Contains-cons one es pair there) [
  | inl here ↦ let first : one ≡ took = cc in inl (sym first ∙ here)
  | inr later ↦ inr later
])
left_cons txn one es took pair false is rest = rw is (λ found there. elim (Contains-cons one es pair there) [
  | inl here ↦ inr (subst (Contains (one ∷ remove_entry (nat_eq txn) es)) here (Contains-head one (remove_entry (nat_eq txn) es)))
  | inr later ↦ elim (rest found later) [
    | inl took_it ↦ inl took_it
    | inr left ↦ inr (Contains-tail one (remove_entry (nat_eq txn) es) pair left)
  ]
])

left_there : (txn : ℕ) (es : Pairs) (took pair : ℕ × Known) → lookup_entry (nat_eq txn) es ≡ Some took → Contains es pair → (took ≡ pair) ⊎ Contains (remove_entry (nat_eq txn) es) pair
left_there txn [] took pair found there = absurd (Contains-nil pair there)
left_there txn (one ∷ es) took pair found there = left_cons txn one es took pair (nat_eq txn one.0) refl (left_there txn es took pair) found there

use_keeps : (txn : ℕ) (es : Pairs) (o : Option (ℕ × Known)) (pair : ℕ × Known) → lookup_entry (nat_eq txn) es ≡ o → Contains es pair → Contains (option_map_or (λ e. e ∷ remove_entry (nat_eq txn) es) o es) pair
use_keeps txn es None pair found there = there
use_keeps txn es (Some took) pair found there = elim (left_there txn es took pair found there) [
  | inl same ↦ subst (Contains (took ∷ remove_entry (nat_eq txn) es)) same (Contains-head took (remove_entry (nat_eq txn) es))
  | inr left ↦ Contains-tail took (remove_entry (nat_eq txn) es) pair left
]

-- ---- a use tells the same of each transaction
-- one that is found in front of the pair that was taken out is another's
other_first : (txn other : ℕ) (one took : ℕ × Known) (rest : Option Known) → nat_eq txn one.0 ≡ false → nat_eq txn took.0 ≡ true → nat_eq other one.0 ≡ true → cond (nat_eq other took.0) (Some took.1) rest ≡ rest
other_first txn other one took rest passes takes mine =
    let apart : nat_eq other took.0 ≡ false = differs (nat_eq other took.0) refl in
    rw apart refl
  where
    differs : (b : Bool) → nat_eq other took.0 ≡ b → b ≡ false
    differs false is = refl
    differs true is =
        let first : other ≡ one.0 = eqb-true other one.0 mine in
        let second : other ≡ took.0 = eqb-true other took.0 is in
        let third : txn ≡ took.0 = eqb-true txn took.0 takes in
        let clash : nat_eq txn one.0 ≡ true = eq-eqb txn one.0 (third ∙ sym second ∙ first) in
        absurd (cc)

tells_cons : (txn other : ℕ) (one : ℕ × Known) (es : Pairs) (took : ℕ × Known) (takes mine : Bool) → nat_eq txn one.0 ≡ takes → nat_eq other one.0 ≡ mine → nat_eq txn took.0 ≡ true → (lookup_entry (nat_eq txn) es ≡ Some took → cond (nat_eq other took.0) (Some took.1) (lookup (nat_eq other) (remove_entry (nat_eq txn) es)) ≡ lookup (nat_eq other) es) → lookup_entry (nat_eq txn) (one ∷ es) ≡ Some took → cond (nat_eq other took.0) (Some took.1) (lookup (nat_eq other) (remove_entry (nat_eq txn) (one ∷ es))) ≡ lookup (nat_eq other) (one ∷ es)
tells_cons txn other one es took true mine is m its rest = rw is (λ found. let first : one ≡ took = cc in ap (λ (e : ℕ × Known). cond (nat_eq other e.0) (Some e.1) (lookup (nat_eq other) es)) (sym first))
tells_cons txn other one es took false true is m its rest = rw (is, m) (λ found. other_first txn other one took (Some one.1) is its m)
tells_cons txn other one es took false false is m its rest = rw (is, m) rest

tells_same : (txn other : ℕ) (es : Pairs) (took : ℕ × Known) → nat_eq txn took.0 ≡ true → lookup_entry (nat_eq txn) es ≡ Some took → cond (nat_eq other took.0) (Some took.1) (lookup (nat_eq other) (remove_entry (nat_eq txn) es)) ≡ lookup (nat_eq other) es
tells_same txn other [] took its found = cc
tells_same txn other (one ∷ es) took its found = tells_cons txn other one es took (nat_eq txn one.0) (nat_eq other one.0) refl refl its (tells_same txn other es took its) found

use_tells : (txn other : ℕ) (es : Pairs) (o : Option (ℕ × Known)) → lookup_entry (nat_eq txn) es ≡ o → lookup (nat_eq other) (option_map_or (λ e. e ∷ remove_entry (nat_eq txn) es) o es) ≡ lookup (nat_eq other) es
use_tells txn other es None found = refl
use_tells txn other es (Some took) found = tells_same txn other es took (Contains-lookup_entry (nat_eq txn) es took found).1 found

-- ---- how many are kept
removed_cons : (txn : ℕ) (one : ℕ × Known) (es : Pairs) (took : ℕ × Known) (takes : Bool) → nat_eq txn one.0 ≡ takes → (lookup_entry (nat_eq txn) es ≡ Some took → length (remove_entry (nat_eq txn) es) + 1 ≡ length es) → lookup_entry (nat_eq txn) (one ∷ es) ≡ Some took → length (remove_entry (nat_eq txn) (one ∷ es)) + 1 ≡ length (one ∷ es)
removed_cons txn one es took true is rest = rw is (λ found. omega arith)
removed_cons txn one es took false is rest = rw is (λ found. omega (arith, rest found))

removed_one : (txn : ℕ) (es : Pairs) (took : ℕ × Known) → lookup_entry (nat_eq txn) es ≡ Some took → length (remove_entry (nat_eq txn) es) + 1 ≡ length es
removed_one txn [] took found = cc
removed_one txn (one ∷ es) took found = removed_cons txn one es took (nat_eq txn one.0) refl (removed_one txn es took) found

use_many : (txn : ℕ) (es : Pairs) (o : Option (ℕ × Known)) → lookup_entry (nat_eq txn) es ≡ o → length (option_map_or (λ e. e ∷ remove_entry (nat_eq txn) es) o es) ≡ length es
use_many txn es None found = refl
use_many txn es (Some took) found = omega (arith, removed_one txn es took found)

taken_few : (most : ℕ) (es : Pairs) → length (take most es) ≤ most
taken_few zero es = omega arith
taken_few (suc most) [] = omega arith
taken_few (suc most) (one ∷ es) = omega (arith, taken_few most es)

put_few : (room : ℕ) (es : Pairs) (pair : ℕ × Known) (o : Option (ℕ × Known)) → lookup_entry (nat_eq pair.0) es ≡ o → 0 < room → length es ≤ room → length (option_map_or (λ e. (e.0, pair.1) ∷ remove_entry (nat_eq pair.0) es) o (pair ∷ take (room - 1) es)) ≤ room
put_few room es pair None found some few = omega (arith, taken_few (room - 1) es)
put_few room es pair (Some took) found some few = omega (arith, removed_one pair.0 es took found)

fresh_few : (cache : Cache) (made : Option (ℕ × Known)) → 0 < cache.room → length cache.kept ≤ cache.room → length (fresh_put cache made).kept ≤ cache.room
fresh_few cache None some few = few
fresh_few cache (Some pair) some few = put_few cache.room cache.kept pair (lookup_entry (nat_eq pair.0) cache.kept) refl some few

recalls_keep : (cache : Cache) (txn : ℕ) → RecallsKeep cache txn
recalls_keep cache txn = record {
  same = λ pair. (used_there cache txn pair, use_keeps txn cache.kept (lookup_entry (nat_eq txn) cache.kept) pair refl);
  many = use_many txn cache.kept (lookup_entry (nat_eq txn) cache.kept) refl;
  known = λ other. use_tells txn other cache.kept (lookup_entry (nat_eq txn) cache.kept) refl;
}

-- ---- what was fresh
fresh_none : (cache : Cache) (made : Option (ℕ × Known)) → cache.fresh ≡ made → (fresh_put cache made).fresh ≡ None
fresh_none cache None is = is
fresh_none cache (Some made) is = refl

fresh_known : (cache : Cache) (pair : ℕ × Known) → known_of (fresh_put cache (Some pair)) pair.0 ≡ Some pair.1
fresh_known cache pair = lookup-put_entries nat_eq (lru_cache cache.kept cache.room) pair.0 pair.1 nat_eq_equiv

pub memories_keep : MemoriesKeep
memories_keep cache = (
  recalls_keep cache,
  record {
    known = λ pair is. subst (λ (made : Option (ℕ × Known)). known_of (fresh_put cache made) pair.0 ≡ Some pair.1) (sym is) (fresh_known cache pair);
    before = put_there cache cache.fresh;
    few = fresh_few cache cache.fresh;
    none = fresh_none cache cache.fresh refl;
  },
)
