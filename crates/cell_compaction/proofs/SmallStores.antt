-- For this crate's own proofs.
-- The small stores, worked out.
use Rattle.std.proofs.Common.{◌≡◌, ℕ, ◌==◌, Bool, true, false, ◌⊎◌, inl, inr, ⊎_elim, refl, sym, ap, ◌∙◌, subst, arith, List, [], ◌∷◌, get_or}
use Rattle.std.specs.Prelude.{if◌then◌else◌, Option, None, Some}
use Rattle.std.specs.Option.{option_or}
use Rattle.std.proofs.lemmas.Bool.{cases_Bool, eqb-true, eqb-false}
use Rattle.std.proofs.lemmas.Option.{same_Some, none-some}
use Rattle.stamp_base.specs.declared.stores.Mark.{Mark}
use Rattle.stamp_base.specs.declared.stores.Mark.TheVariants as mark
use Rattle.history_book.specs.Members.{◌∈◌}
use Rattle.history_book.specs.Isolation.{Committed, Wrote, last_write}
use Rattle.history_book.specs.declared.item.Item.{Item}
use Rattle.history_book.specs.declared.item.Item.TheVariants.{Write, Placed}
use Rattle.system_parts.specs.declared.rows.Cell.{Cell}
use Rattle.system_parts.specs.Rows.{Row, looked, AreOrdered, IsBelowAll}
use Rattle.system_parts.specs.Pairs.{Pairs, mark_of}
use Rattle.system_parts.proofs.PairLaws.{mark_of-empty, mark_of-put_pair, mark_of-put_pair_other}
use Rattle.cell_compaction.specs.Rest.{StandsAtRest, IsWritten, with_commits, latest_in, kept_of, compacted, snapshot, read_from}
use Rattle.cell_compaction.proofs.MemberRows.{looked_member}
use Rattle.cell_compaction.specs.Worked.{p, q, row_of, no_pairs, one_commit, record_of_first, four_rows}

-- ---- what is found where each bare row has no record
four_filled : with_commits no_pairs four_rows ≡ four_rows
four_filled = rw (mark_of-empty 7) refl

pub read_at_five : snapshot four_rows no_pairs 5 0 ≡ Some (record { from = 3; value = q })
unfolding latest_in
read_at_five = ap (λ rows. read_from rows 5 0) four_filled

pub read_at_four : snapshot four_rows no_pairs 4 0 ≡ Some (record { from = 1; value = p })
unfolding latest_in
read_at_four = ap (λ rows. read_from rows 4 0) four_filled

pub read_at_two : snapshot four_rows no_pairs 2 0 ≡ None
unfolding latest_in
read_at_two = ap (λ rows. read_from rows 2 0) four_filled

pub read_bare : snapshot four_rows no_pairs 9 1 ≡ None
unfolding latest_in
read_bare = ap (λ rows. read_from rows 9 1) four_filled

pub kept_at_one : compacted four_rows no_pairs 1 ≡ four_rows
unfolding latest_in kept_of
kept_at_one = ap (λ rows. kept_of rows 1 rows) four_filled

pub kept_at_five : compacted four_rows no_pairs 5 ≡ row_of 0 3 q (Some 4) ∷ row_of 0 5 p (Some 6) ∷ row_of 1 7 q None ∷ []
unfolding latest_in kept_of
kept_at_five = ap (λ rows. kept_of rows 5 rows) four_filled

pub kept_at_eight : compacted four_rows no_pairs 8 ≡ row_of 0 5 p (Some 6) ∷ []
unfolding latest_in kept_of
kept_at_eight = ap (λ rows. kept_of rows 8 rows) four_filled

recorded : mark_of record_of_first 1 ≡ Some (mark.Committed 2)
recorded = mark_of-put_pair no_pairs 1 (mark.Committed 2) ∙ (rw (mark_of-empty 1) refl)

first_filled : with_commits record_of_first (row_of 0 1 p None ∷ []) ≡ row_of 0 1 p (Some 2) ∷ []
first_filled = rw recorded refl

pub kept_record : compacted (row_of 0 1 p None ∷ []) record_of_first 3 ≡ row_of 0 1 p (Some 2) ∷ []
unfolding latest_in kept_of
kept_record = ap (λ rows. kept_of rows 3 rows) first_filled

-- ---- the one commit
start_in : Item → ℕ
start_in (Placed t c) = t
start_in _ = 0

commit_at : Item → ℕ
commit_at (Placed t c) = c
commit_at _ = 0

is_write : Item → ℕ
is_write (Write s t k v) = 1
is_write _ = 0

one_is : (t c : ℕ) → Committed one_commit t c → (t ≡ 1) × (c ≡ 2)
unfolding ◌∈◌ is_write start_in commit_at
one_is t c (inl e) = let wrong = ap is_write e in absurd (omega (arith, wrong))
one_is t c (inr (inl e)) = (ap start_in e, ap commit_at e)
one_is t c (inr (inr none)) = absurd none

there : Committed one_commit 1 2
unfolding ◌∈◌
there = inr (inl refl)

wrote : Wrote one_commit 1 0 p
unfolding last_write
wrote = refl

wrote_is : (k : ℕ) (value : List ℕ) → Wrote one_commit 1 k value → (k ≡ 0) × (value ≡ p)
unfolding last_write
wrote_is k value is = go (0 == k) refl is
  where
    go : (b : Bool) → (0 == k) ≡ b → option_or (option_or None None) (if b then Some p else None) ≡ Some value → (k ≡ 0) × (value ≡ p)
    go true same is = (sym (eqb-true 0 k same), sym (same_Some p value is))
    go false other is = absurd (none-some value is)

-- the only row is of the key 0 and the version 1
pub record IsOnly (shadow : Option ℕ) (k t : ℕ) (cell : Cell) : Type 0 where
  pub key : k ≡ 0
  pub version : t ≡ 1
  pub shadow_is : cell.shadow ≡ shadow

only_row : (shadow : Option ℕ) (k t : ℕ) (cell : Cell) → looked (row_of 0 1 p shadow ∷ []) k t ≡ Some cell → IsOnly shadow k t cell
unfolding ◌∈◌
only_row shadow k t cell found =
    let of = looked_member (row_of 0 1 p shadow ∷ []) k t cell found in
    let e : of.row ≡ row_of 0 1 p shadow = ⊎_elim (λ e. e) (λ none. absurd none) of.has in
    record { key = sym of.key ∙ ap (λ (r : Row). r.key) e; version = sym of.version ∙ ap (λ (r : Row). r.version) e; shadow_is = ap (λ (c : Cell). c.shadow) (sym of.cell_is) ∙ ap (λ (r : Row). r.shadow) e }

one_ordered : (shadow : Option ℕ) → AreOrdered (row_of 0 1 p shadow ∷ [])
unfolding AreOrdered IsBelowAll
one_ordered shadow = (tt, tt)

found_here : (shadow : Option ℕ) → looked (row_of 0 1 p shadow ∷ []) 0 1 ≡ Some (record { version = 1; value = p; shadow = shadow })
unfolding looked
found_here shadow = refl

as_committed : (t c : ℕ) → t ≡ 1 → c ≡ 2 → Committed one_commit t c
as_committed t c is at = subst (λ (x : ℕ × ℕ). Committed one_commit x.0 x.1) (λ i. ((sym is) i, (sym at) i)) there

rests : (pairs : Pairs) (shadow : Option ℕ) → IsWritten pairs (Some (record { version = 1; value = p; shadow = shadow })) 1 2 p → ((c : ℕ) → shadow ≡ Some c → c ≡ 2) → ((t c : ℕ) → mark_of pairs t ≡ Some (mark.Committed c) → (t ≡ 1) × (c ≡ 2)) → StandsAtRest one_commit (row_of 0 1 p shadow ∷ []) pairs
rests pairs shadow written_it second marked = record {
  ordered = one_ordered shadow;
  written = λ t c k value committed wrote.
      let one = one_is t c committed in
      let what = wrote_is k value (subst (λ u. Wrote one_commit u k value) one.0 wrote) in
      let here : IsWritten pairs (looked (row_of 0 1 p shadow ∷ []) 0 1) 1 2 p = subst (λ found. IsWritten pairs found 1 2 p) (sym (found_here shadow)) written_it in
      subst (λ (x : ℕ × ℕ × ℕ × List ℕ). IsWritten pairs (looked (row_of 0 1 p shadow ∷ []) x.2 x.0) x.0 x.1 x.3) (λ i. ((sym one.0) i, (sym one.1) i, (sym what.0) i, (sym what.1) i)) here;
  shadowed = λ k t c cell found is.
      let only = only_row shadow k t cell found in
      as_committed t c only.version (second c (sym only.shadow_is ∙ is));
  paired = λ t c is. let of = marked t c is in as_committed t c of.0 of.1;
  no_others = λ t c k cell committed found.
      let only = only_row shadow k t cell found in
      (p, subst (λ (x : ℕ × ℕ). Wrote one_commit x.0 x.1 p) (λ i. ((sym only.version) i, (sym only.key) i)) wrote);
}

no_mark : (t c : ℕ) → mark_of no_pairs t ≡ Some (mark.Committed c) → ⊥
no_mark t c is = none-some (mark.Committed c) (sym (mark_of-empty t) ∙ is)

pub shadowed_rests : StandsAtRest one_commit (row_of 0 1 p (Some 2) ∷ []) no_pairs
shadowed_rests = rests no_pairs (Some 2) (inl refl) (λ c is. same_Some c 2 (sym is)) (λ t c is. absurd (no_mark t c is))

commit_in_mark : Mark → ℕ
commit_in_mark (mark.Committed c) = c
commit_in_mark mark.Invalid = 0

recorded_once : (t c : ℕ) → mark_of record_of_first t ≡ Some (mark.Committed c) → (t ≡ 1) × (c ≡ 2)
unfolding commit_in_mark
recorded_once t c is = elim (cases_Bool (t == 1)) [
  | inl same ↦ let one = eqb-true t 1 same in
      (one, ap commit_in_mark (same_Some (mark.Committed c) (mark.Committed 2) (sym is ∙ ap (mark_of record_of_first) one ∙ recorded)))
  | inr other ↦ absurd (no_mark t c (sym (mark_of-put_pair_other no_pairs 1 t (mark.Committed 2) (eqb-false t 1 other)) ∙ is))
]

pub recorded_rests : StandsAtRest one_commit (row_of 0 1 p None ∷ []) record_of_first
recorded_rests = rests record_of_first None (inr (refl, recorded)) (λ c is. absurd (none-some c is)) recorded_once

-- ---- what is refused
shadow_in : Option Cell → Option ℕ
shadow_in None = None
shadow_in (Some cell) = cell.shadow

first_byte : Option Cell → ℕ
first_byte None = 0
first_byte (Some cell) = get_or cell.value 0 0

pub untold_is_refused : StandsAtRest one_commit (row_of 0 1 p None ∷ []) no_pairs → ⊥
unfolding looked shadow_in
untold_is_refused h = elim (h.written 1 2 0 p there wrote) [
  | inl found ↦ none-some 2 (ap shadow_in found)
  | inr found ↦ no_mark 1 2 found.1
]

pub gone_is_refused : StandsAtRest one_commit [] no_pairs → ⊥
unfolding looked
gone_is_refused h = elim (h.written 1 2 0 p there wrote) [
  | inl found ↦ none-some _ found
  | inr found ↦ none-some _ found.0
]

pub other_value_is_refused : StandsAtRest one_commit (row_of 0 1 q (Some 2) ∷ []) no_pairs → ⊥
unfolding looked first_byte
other_value_is_refused h = elim (h.written 1 2 0 p there wrote) [
  | inl found ↦ let wrong = ap first_byte found in omega (arith, wrong)
  | inr found ↦ let wrong = ap first_byte found.0 in omega (arith, wrong)
]

pub no_commit_is_refused : StandsAtRest [] (row_of 0 1 p (Some 2) ∷ []) no_pairs → ⊥
unfolding ◌∈◌
no_commit_is_refused h = h.shadowed 0 1 2 _ (found_here (Some 2)) refl
