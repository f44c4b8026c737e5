-- The map and the set of the table as contracts see them: known by look-ups alone.
use Rattle.std.proofs.Common.{◌≡◌, ℕ, Bool, true, false, cond, ◌||◌, ◌+◌, if◌then◌else◌, nat_eq, List, [], ◌∷◌, Option, None, Some, is_some, IsTrue, arith, refl, sym, ap, ◌∙◌}
use Rattle.std.specs.Ordering.{nat_cmp, eq_by_cmp}
use Rattle.std.specs.FinMap as map_of
use Rattle.std.specs.FinSet as set_of
use Rattle.std.specs.FinMap.{find, same_map, get-from_entries, get-insert, get-remove}
use Rattle.std.specs.FinSet.{same_set, contains-from_list, contains-insert, contains-remove, nat_cmp-IsAntisymmetric}
use Rattle.std.specs.Cmp.{nat_cmp_total}
use Rattle.std.specs.List.{list_any}
use Rattle.std.specs.Map.{lookup}
use Rattle.std.proofs.lemmas.Bool.Decides.{nat_tests}
use Rattle.indexmap.specs.IndexMap as held
use Rattle.indexmap.specs.IndexSet as kept
use Rattle.stamp_base.specs.declared.stores.Mark.{Mark}
use Rattle.commit_table.specs.Entries.{pairs_from, places_from}
use Rattle.system_parts.specs.Pairs.{Places, put_pair, put_over, mark_of, without_committed, removed_from}

ties : (q k : ℕ) → eq_by_cmp nat_cmp q k ≡ nat_eq k q
ties q k = grind (arith, nat_tests)

find-lookup : (q : ℕ) (es : List (ℕ × Mark)) → find nat_cmp q es ≡ lookup (nat_eq q) es
find-lookup q [] = refl
find-lookup q (e ∷ es) = grind (arith, nat_tests, find-lookup q es)

any-any : (q : ℕ) (ks : List ℕ) → list_any (eq_by_cmp nat_cmp q) ks ≡ list_any (nat_eq q) ks
any-any q [] = refl
any-any q (k ∷ ks) = grind (arith, nat_tests, any-any q ks)

-- what a look finds
pub mark_of-pairs_from : (es : List (ℕ × Mark)) (q : ℕ) → mark_of (pairs_from es) q ≡ lookup (nat_eq q) es
mark_of-pairs_from es q = get-from_entries nat_cmp_total es q ∙ find-lookup q es

pub contains-places_from : (ks : List ℕ) (q : ℕ) → set_of.contains (places_from ks) q ≡ list_any (nat_eq q) ks
contains-places_from ks q = contains-from_list nat_cmp_total ks q ∙ any-any q ks

module _ {S : Type 0} where
  pairs_from-insert : (old new : held.IndexMap ℕ Mark S) (k : ℕ) (v : Mark) → held.Updates nat_eq old new k (Some v) → pairs_from new.entries ≡ map_of.insert (pairs_from old.entries) k v
  pairs_from-insert old new k v u = same_map nat_cmp_total nat_cmp-IsAntisymmetric (pairs_from new.entries) (map_of.insert (pairs_from old.entries) k v) (λ q.
      mark_of-pairs_from new.entries q ∙ u.0 q ∙ sym (get-insert nat_cmp_total (pairs_from old.entries) k v q ∙ ap (λ b. cond b (Some v) (mark_of (pairs_from old.entries) q)) (ties q k) ∙ ap (cond (nat_eq k q) (Some v)) (mark_of-pairs_from old.entries q)))

  pub pairs_from-remove : (old new : held.IndexMap ℕ Mark S) (k : ℕ) → held.Updates nat_eq old new k None → pairs_from new.entries ≡ map_of.remove (pairs_from old.entries) k
  pairs_from-remove old new k u = same_map nat_cmp_total nat_cmp-IsAntisymmetric (pairs_from new.entries) (map_of.remove (pairs_from old.entries) k) (λ q.
      mark_of-pairs_from new.entries q ∙ u.0 q ∙ sym (get-remove nat_cmp_total (pairs_from old.entries) k q ∙ ap (λ b. cond b None (mark_of (pairs_from old.entries) q)) (ties q k) ∙ ap (cond (nat_eq k q) None) (mark_of-pairs_from old.entries q)))

  pub places_from-insert : (old new : kept.IndexSet ℕ S) (k : ℕ) → kept.Updates nat_eq old new k true → places_from new.keys ≡ set_of.insert (places_from old.keys) k
  places_from-insert old new k u = same_set nat_cmp_total nat_cmp-IsAntisymmetric (places_from new.keys) (set_of.insert (places_from old.keys) k) (λ q.
      let one = contains-insert nat_cmp_total (places_from old.keys) k q in
      grind (arith, one, ties q k, u.0 q, contains-places_from new.keys q, contains-places_from old.keys q))

  pub places_from-remove : (old new : kept.IndexSet ℕ S) (k : ℕ) → kept.Updates nat_eq old new k false → places_from new.keys ≡ set_of.remove (places_from old.keys) k
  places_from-remove old new k u = same_set nat_cmp_total nat_cmp-IsAntisymmetric (places_from new.keys) (set_of.remove (places_from old.keys) k) (λ q.
      let one = contains-remove nat_cmp_total (places_from old.keys) k q in
      grind (arith, one, ties q k, u.0 q, contains-places_from new.keys q, contains-places_from old.keys q))

-- a place that is there is no further one
pub insert-there : (ks : List ℕ) (k : ℕ) → list_any (nat_eq k) ks ≡ true → places_from ks ≡ set_of.insert (places_from ks) k
insert-there ks k there = same_set nat_cmp_total nat_cmp-IsAntisymmetric (places_from ks) (set_of.insert (places_from ks) k) (λ q.
    let one = contains-insert nat_cmp_total (places_from ks) k q in
    let here = contains-places_from ks k in
    by q one (eq_by_cmp nat_cmp q k) refl)
  where
    by : (q : ℕ) → set_of.contains (set_of.insert (places_from ks) k) q ≡ (eq_by_cmp nat_cmp q k || set_of.contains (places_from ks) q) → (b : Bool) → eq_by_cmp nat_cmp q k ≡ b → set_of.contains (places_from ks) q ≡ set_of.contains (set_of.insert (places_from ks) k) q
    by q one true e = grind (arith, nat_tests, one, e, ties q k, there, contains-places_from ks q, contains-places_from ks k)
    by q one false e = grind (arith, one, e)

-- where the transaction has a mark, a put changes nothing
pub put_pair-there : (es : List (ℕ × Mark)) (k : ℕ) (v : Mark) → is_some (lookup (nat_eq k) es) ≡ true → pairs_from es ≡ put_pair (pairs_from es) k v
put_pair-there es k v there = sym (ap (put_over (pairs_from es) k v) (mark_of-pairs_from es k) ∙ by (lookup (nat_eq k) es) there)
  where
    by : (found : Option Mark) → is_some found ≡ true → put_over (pairs_from es) k v found ≡ pairs_from es
    by None h = absurd (cc)
    by (Some w) h = refl

-- and where it has none, it adds the pair
pub put_pair-absent : {S : Type 0} (old new : held.IndexMap ℕ Mark S) (k : ℕ) (v : Mark) → is_some (lookup (nat_eq k) old.entries) ≡ false → held.Updates nat_eq old new k (Some v) → pairs_from new.entries ≡ put_pair (pairs_from old.entries) k v
put_pair-absent old new k v absent u = pairs_from-insert old new k v u ∙ sym (ap (put_over (pairs_from old.entries) k v) (mark_of-pairs_from old.entries k) ∙ by (lookup (nat_eq k) old.entries) absent)
  where
    by : (found : Option Mark) → is_some found ≡ false → put_over (pairs_from old.entries) k v found ≡ map_of.insert (pairs_from old.entries) k v
    by None h = refl
    by (Some w) h = absurd (cc)

pub without_committed-found : (es : List (ℕ × Mark)) (k : ℕ) (found : Option Mark) → found ≡ lookup (nat_eq k) es → without_committed (pairs_from es) k ≡ removed_from (pairs_from es) k found
without_committed-found es k found e = ap (removed_from (pairs_from es) k) (mark_of-pairs_from es k ∙ sym e)

-- a place that is used up is one place fewer
pub place-used : {S : Type 0} (old new : kept.IndexSet ℕ S) (places : Places) (k n : ℕ) (r : Bool) → places_from old.keys ≡ places → IsTrue (set_of.contains places k) → n ≡ k → r ≡ kept.contains_by (nat_eq n) old → kept.index_set_len new + (if r then 1 else 0) ≡ kept.index_set_len old → kept.index_set_len new + 1 ≡ kept.index_set_len old
place-used old new places k n r view has same found len =
    let there : r ≡ true = found ∙ ap (λ q. list_any (nat_eq q) old.keys) same ∙ sym (contains-places_from old.keys k) ∙ ap (λ s. set_of.contains s k) view ∙ has in
    rw there at len
