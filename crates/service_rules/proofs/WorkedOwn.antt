-- The small histories of own writes, gone through item by item.
use Rattle.std.proofs.Common.{◌≡◌, ℕ, List, [], ◌∷◌, None, inl, inr, refl, ap, arith}
use Rattle.std.proofs.lemmas.Option.{same_Some}
use Rattle.stamp_base.specs.declared.stores.Store.TheVariants.{Cells, Table}
use Rattle.history_book.specs.Members.{◌∈◌}
use Rattle.history_book.specs.Isolation.{last_write}
use Rattle.history_book.specs.declared.item.Found.{Found}
use Rattle.history_book.specs.declared.item.Item.TheVariants.{Read}
use Rattle.service_rules.specs.OwnWrites.{ReadsOwn, OwnWritesStand}
use Rattle.service_rules.proofs.Walks.{Walks, walked}
use Rattle.service_rules.specs.WorkedOwn.{p, q, written_twice, found_of_own, missed_behind, erases, lists, sweep_fails, session_fails, written_elsewhere, written_anew}

-- ---- the last write is read
abbrev first_of : List ℕ → ℕ
first_of [] = 0
first_of (x ∷ xs) = x

pub last_read : OwnWritesStand (written_twice (found_of_own q))
unfolding Walks last_write
last_read = walked ReadsOwn (written_twice (found_of_own q)) (tt, (tt, (inl refl, tt)))

values_differ : found_of_own p ≡ found_of_own q → ⊥
values_differ same =
    let values : p ≡ q = ap (λ (x : Found). x.value) (same_Some (record { from = 1; value = p }) (record { from = 1; value = q }) same) in
    let first : 112 ≡ 113 = ap first_of values in
    absurd (omega (arith, first))

pub first_wrong : OwnWritesStand (written_twice (found_of_own p)) → ⊥
unfolding last_write ◌∈◌
first_wrong is = elim (is.at 2 (Read 0 1 0 (found_of_own p)) refl) [
  | inl same ↦ values_differ same
  | inr erased ↦ elim erased [ inl none ↦ none | inr none ↦ none ]
]

pub nothing_wrong : OwnWritesStand (written_twice None) → ⊥
unfolding last_write ◌∈◌
nothing_wrong is = elim (is.at 2 (Read 0 1 0 None) refl) [
  | inl same ↦ cc
  | inr erased ↦ elim erased [ inl none ↦ none | inr none ↦ none ]
]

-- ---- it is missed behind an erase of the cell
pub erased_right : OwnWritesStand (missed_behind (erases 0))
unfolding Walks last_write ◌∈◌
erased_right = walked ReadsOwn (missed_behind (erases 0)) (tt, (tt, (inr (inl (inl refl)), tt)))

pub failed_right : OwnWritesStand (missed_behind (sweep_fails Cells))
unfolding Walks last_write ◌∈◌
failed_right = walked ReadsOwn (missed_behind (sweep_fails Cells)) (tt, (tt, (inr (inr (inl refl)), tt)))

-- also where another key was written since
pub later_right : OwnWritesStand written_elsewhere
unfolding Walks last_write ◌∈◌
later_right = walked ReadsOwn written_elsewhere (tt, (tt, (tt, (inr (inl (inl refl)), tt))))

-- and behind nothing else
pub other_key_wrong : OwnWritesStand (missed_behind (erases 1)) → ⊥
unfolding last_write ◌∈◌
other_key_wrong is = elim (is.at 2 (Read 0 1 0 None) refl) [
  | inl same ↦ cc
  | inr erased ↦ elim erased [ inl m ↦ elim m [ inl same ↦ cc | inr none ↦ none ] | inr m ↦ elim m [ inl same ↦ cc | inr none ↦ none ] ]
]

pub listed_wrong : OwnWritesStand (missed_behind lists) → ⊥
unfolding last_write ◌∈◌
listed_wrong is = elim (is.at 2 (Read 0 1 0 None) refl) [
  | inl same ↦ cc
  | inr erased ↦ elim erased [ inl m ↦ elim m [ inl same ↦ cc | inr none ↦ none ] | inr m ↦ elim m [ inl same ↦ cc | inr none ↦ none ] ]
]

pub table_wrong : OwnWritesStand (missed_behind (sweep_fails Table)) → ⊥
unfolding last_write ◌∈◌
table_wrong is = elim (is.at 2 (Read 0 1 0 None) refl) [
  | inl same ↦ cc
  | inr erased ↦ elim erased [ inl m ↦ elim m [ inl same ↦ cc | inr none ↦ none ] | inr m ↦ elim m [ inl same ↦ cc | inr none ↦ none ] ]
]

pub session_wrong : OwnWritesStand (missed_behind (session_fails Cells)) → ⊥
unfolding last_write ◌∈◌
session_wrong is = elim (is.at 2 (Read 0 1 0 None) refl) [
  | inl same ↦ cc
  | inr erased ↦ elim erased [ inl m ↦ elim m [ inl same ↦ cc | inr none ↦ none ] | inr m ↦ elim m [ inl same ↦ cc | inr none ↦ none ] ]
]

-- an erase before the last write counts no more
pub anew_wrong : OwnWritesStand written_anew → ⊥
unfolding last_write ◌∈◌
anew_wrong is = elim (is.at 3 (Read 0 1 0 None) refl) [
  | inl same ↦ cc
  | inr erased ↦ elim erased [ inl none ↦ none | inr none ↦ none ]
]
