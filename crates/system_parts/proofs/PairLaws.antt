-- For machine, isolation_laws, event_parts and others above too.
-- The laws of the pairs, for the crates above: what a look finds after a put and after a removal, of the transaction
-- itself and of another.
use Rattle.std.proofs.Common.{◌≡◌, ◌≢◌, ℕ, true, false, cond, Option, None, Some, inl, inr, refl, sym, ap, ◌∙◌, subst, arith}
use Rattle.std.specs.Ordering.{nat_cmp, eq_by_cmp}
use Rattle.std.specs.FinMap as map
use Rattle.std.specs.FinMap.{get-empty, get-insert, get-remove}
use Rattle.std.specs.Cmp.{nat_cmp_total}
use Rattle.std.proofs.lemmas.Bool.Decides.{nat_tests}
use Rattle.std.proofs.lemmas.Bool.{cases_eq}
use Rattle.std.proofs.lemmas.Option.{none-some}
use Rattle.stamp_base.specs.declared.stores.Mark.{Mark}
use Rattle.stamp_base.specs.declared.stores.Mark.TheVariants.{Committed, Invalid}
use Rattle.system_parts.specs.Pairs.{Pairs, mark_of, put_pair, put_over, without_committed, removed_from}

-- ---- what the map finds
same_key : (k : ℕ) → eq_by_cmp nat_cmp k k ≡ true
same_key k = grind (arith, nat_tests)

other_key : (q k : ℕ) → q ≢ k → eq_by_cmp nat_cmp q k ≡ false
other_key q k ne = grind (arith, nat_tests)

mark_of-insert : (pairs : Pairs) (txn : ℕ) (mark : Mark) → mark_of (map.insert pairs txn mark) txn ≡ Some mark
mark_of-insert pairs txn mark = get-insert nat_cmp_total pairs txn mark txn ∙ ap (λ b. cond b (Some mark) (mark_of pairs txn)) (same_key txn)

mark_of-insert_other : (pairs : Pairs) (txn other : ℕ) (mark : Mark) → other ≢ txn → mark_of (map.insert pairs txn mark) other ≡ mark_of pairs other
mark_of-insert_other pairs txn other mark ne = get-insert nat_cmp_total pairs txn mark other ∙ ap (λ b. cond b (Some mark) (mark_of pairs other)) (other_key other txn ne)

mark_of-remove : (pairs : Pairs) (txn : ℕ) → mark_of (map.remove pairs txn) txn ≡ None
mark_of-remove pairs txn = get-remove nat_cmp_total pairs txn txn ∙ ap (λ b. cond b None (mark_of pairs txn)) (same_key txn)

mark_of-remove_other : (pairs : Pairs) (txn other : ℕ) → other ≢ txn → mark_of (map.remove pairs txn) other ≡ mark_of pairs other
mark_of-remove_other pairs txn other ne = get-remove nat_cmp_total pairs txn other ∙ ap (λ b. cond b None (mark_of pairs other)) (other_key other txn ne)

-- ---- the empty table
pub mark_of-empty : (txn : ℕ) → mark_of map.empty txn ≡ None
mark_of-empty txn = get-empty nat_cmp txn

-- ---- the put
-- the entry that was there, or else the mark
abbrev pub entry_or : Option Mark → Mark → Mark
entry_or None mark = mark
entry_or (Some there) mark = there

pub mark_of-put_pair : (pairs : Pairs) (txn : ℕ) (mark : Mark) → mark_of (put_pair pairs txn mark) txn ≡ Some (entry_or (mark_of pairs txn) mark)
mark_of-put_pair pairs txn mark = by (mark_of pairs txn) refl
  where
    by : (found : Option Mark) → mark_of pairs txn ≡ found → mark_of (put_over pairs txn mark found) txn ≡ Some (entry_or found mark)
    by None e = mark_of-insert pairs txn mark
    by (Some there) e = e

pub mark_of-put_pair_other : (pairs : Pairs) (txn other : ℕ) (mark : Mark) → other ≢ txn → mark_of (put_pair pairs txn mark) other ≡ mark_of pairs other
mark_of-put_pair_other pairs txn other mark ne = by (mark_of pairs txn)
  where
    by : (found : Option Mark) → mark_of (put_over pairs txn mark found) other ≡ mark_of pairs other
    by None = mark_of-insert_other pairs txn other mark ne
    by (Some there) = refl

-- every entry stays, that of the transaction too
pub entry_stays-put_pair : (pairs : Pairs) (txn other : ℕ) (mark there : Mark) → mark_of pairs other ≡ Some there → mark_of (put_pair pairs txn mark) other ≡ Some there
entry_stays-put_pair pairs txn other mark there e = elim (cases_eq other txn) [
  | inl same ↦ subst (λ k. mark_of (put_pair pairs txn mark) k ≡ Some there) (sym same)
      (mark_of-put_pair pairs txn mark ∙ ap (λ found. Some (entry_or found mark)) (ap (mark_of pairs) (sym same) ∙ e))
  | inr ne ↦ mark_of-put_pair_other pairs txn other mark ne ∙ e
]

-- ---- the removal
-- an entry that a removal leaves
abbrev pub unless_committed : Option Mark → Option Mark
unless_committed None = None
unless_committed (Some (Committed commit)) = None
unless_committed (Some Invalid) = Some Invalid

pub mark_of-without_committed : (pairs : Pairs) (txn : ℕ) → mark_of (without_committed pairs txn) txn ≡ unless_committed (mark_of pairs txn)
mark_of-without_committed pairs txn = by (mark_of pairs txn) refl
  where
    by : (found : Option Mark) → mark_of pairs txn ≡ found → mark_of (removed_from pairs txn found) txn ≡ unless_committed found
    by None e = e
    by (Some (Committed commit)) e = mark_of-remove pairs txn
    by (Some Invalid) e = e

pub mark_of-without_committed_other : (pairs : Pairs) (txn other : ℕ) → other ≢ txn → mark_of (without_committed pairs txn) other ≡ mark_of pairs other
mark_of-without_committed_other pairs txn other ne = by (mark_of pairs txn)
  where
    by : (found : Option Mark) → mark_of (removed_from pairs txn found) other ≡ mark_of pairs other
    by None = refl
    by (Some (Committed commit)) = mark_of-remove_other pairs txn other ne
    by (Some Invalid) = refl

-- an Invalid entry stays, that of the transaction too
pub invalid_stays-without_committed : (pairs : Pairs) (txn other : ℕ) → mark_of pairs other ≡ Some Invalid → mark_of (without_committed pairs txn) other ≡ Some Invalid
invalid_stays-without_committed pairs txn other e = elim (cases_eq other txn) [
  | inl same ↦ subst (λ k. mark_of (without_committed pairs txn) k ≡ Some Invalid) (sym same)
      (mark_of-without_committed pairs txn ∙ ap unless_committed (ap (mark_of pairs) (sym same) ∙ e))
  | inr ne ↦ mark_of-without_committed_other pairs txn other ne ∙ e
]

-- a Committed entry goes by its own removal
pub committed_goes : (pairs : Pairs) (txn commit : ℕ) → mark_of pairs txn ≡ Some (Committed commit) → mark_of (without_committed pairs txn) txn ≡ None
committed_goes pairs txn commit e = mark_of-without_committed pairs txn ∙ ap unless_committed e

-- nothing comes by a removal
pub was_there-without_committed : (pairs : Pairs) (txn other : ℕ) (there : Mark) → mark_of (without_committed pairs txn) other ≡ Some there → mark_of pairs other ≡ Some there
was_there-without_committed pairs txn other there e = elim (cases_eq other txn) [
  | inl same ↦ subst (λ k. mark_of pairs k ≡ Some there) (sym same) (by (mark_of pairs txn) (sym (mark_of-without_committed pairs txn) ∙ ap (mark_of (without_committed pairs txn)) (sym same) ∙ e))
  | inr ne ↦ sym (mark_of-without_committed_other pairs txn other ne) ∙ e
]
  where
    by : (found : Option Mark) → unless_committed found ≡ Some there → found ≡ Some there
    by None e = absurd (none-some there e)
    by (Some (Committed commit)) e = absurd (none-some there e)
    by (Some Invalid) e = e
