-- The rows of one key's list of cells: where it splits, and what a change of the list does to them.
use Rattle.std.proofs.Common.{◌≡◌, ℕ, suc, ◌+◌, ◌-◌, ◌<◌, ◌≤◌, ◌==◌, nat_le, leb, ltb, true, false, ◌&&◌, List, [], ◌∷◌, ◌++◌, reverse, take, drop, set, length, get_or, Some, None, inl, inr, refl, sym, subst, ap, ◌∙◌, arith}
use Rattle.std.specs.List.{All, AllByRecursion, AllWithin, insert, remove}
use Rattle.std.specs.List.Sorted.{IsNonDecreasingBy, IsPartitionPoint}
use Rattle.std.proofs.lemmas.Bool.{cases_lt}
use Rattle.std.proofs.lemmas.Bool.Decides.{nat_tests}
use Rattle.std.proofs.lemmas.List.{map-append, reverse-append, take-append-drop, get_or-take, get_or-drop, length-take, length-drop, set_split, get_or_default}
use Rattle.std.proofs.lemmas.List.Elements.{All-nil, All-cons, All-head, All-tail, All-same, All-weaker}
use Rattle.std.proofs.lemmas.Option.{none-some}
use Rattle.std.proofs.Math.Seq.{drop-cons}
use Rattle.system_parts.specs.declared.rows.Cell.{Cell}
use Rattle.system_parts.specs.Rows.{Row, bare_cell, put_row, fetched, looked, with_shadow, without_bare, IsBelowAll, AreOrdered}
use Rattle.system_parts.proofs.RowLaws.{is_row-true, looked-here}
use Rattle.system_parts.proofs.RowFetches.{fetched-append, all_pairs_cons}
use Rattle.cell_store.specs.KeyLists.{row_at, rows_at, AreRising, AreLowerBefore, IsPlace}
use Rattle.cell_store.proofs.RowSplits.{IsEarlier, IsLater, IsEditAt, put_is_edit, shadow_is_edit, without_is_edit, put-behind, looked-earlier, looked-later}

-- ---- parts of a list
pub take_within : (P : Cell → Type 0) (cells : List Cell) (n : ℕ) → AllWithin P cells 0 n → All P (take n cells)
take_within P cells n h = λ i d less.
    let short = length-take n cells in
    let within : i < n = omega arith in
    subst P (sym (get_or-take n cells i d within)) (h i d (omega arith) within)

pub drop_within : (P : Cell → Type 0) (cells : List Cell) (n : ℕ) → AllWithin P cells n (length cells) → All P (drop n cells)
drop_within P cells n h = λ i d less.
    let short = length-drop n cells in
    subst P (sym (get_or-drop n cells i d)) (h (n + i) d (omega arith) (omega arith))

-- versions that ascend do not fall
pub non_decreasing : (cells : List Cell) → AreRising cells → IsNonDecreasingBy (λ (c : Cell). c.version) cells
non_decreasing cells rising = λ i j d le there. elim (cases_lt i j) [
  | inl less ↦ let up : (get_or cells i d).version < (get_or cells j d).version = rising i j d less there in omega arith
  | inr not ↦ let same : j ≡ i = omega arith in rw same (omega arith)
]

-- the cells before the last are of lower versions
pub lower_than_last : (cells : List Cell) (t : ℕ) (last : Cell) → AreRising cells → 0 < length cells → last ≡ get_or cells (length cells - 1) last → last.version ≡ t → AreLowerBefore cells t (length cells - 1)
lower_than_last cells t last rising some is same = λ k d within.
    let below : k < length cells - 1 = omega (arith, length-take (length cells - 1) cells, within) in
    let up : (get_or cells k last).version < t = subst (λ (n : ℕ). (get_or cells k last).version < n) (sym (ap (λ (c : Cell). c.version) is) ∙ same) (rising k (length cells - 1) last below (omega (arith, some))) in
    rw (get_or-take (length cells - 1) cells k d below, get_or_default cells k d last (omega (arith, below))) up

-- where the last cell is of a version up to this one, all are
pub all_upto : (cells : List Cell) (upto : ℕ) (last : Cell) → AreRising cells → 0 < length cells → last ≡ get_or cells (length cells - 1) last → last.version ≤ upto → All (λ (c : Cell). c.version ≤ upto) cells
all_upto cells upto last rising some is low = λ k d within.
    let top : (get_or cells (length cells - 1) last).version ≤ upto = subst (λ (c : Cell). c.version ≤ upto) is low in
    rw (get_or_default cells k d last within) (elim (cases_lt k (length cells - 1)) [
      | inl below ↦ let up : (get_or cells k last).version < (get_or cells (length cells - 1) last).version = rising k (length cells - 1) last below (omega (arith, some)) in omega arith
      | inr not ↦ let same : k ≡ length cells - 1 = omega arith in rw same top
    ])

-- what a search by halves tells of the parts of a list
pub upto_parts : (cells : List Cell) (n upto : ℕ) → IsPartitionPoint (λ (c : Cell). leb c.version upto ≡ true) (λ (c : Cell). leb c.version upto ≡ false) cells n → All (λ (c : Cell). c.version ≤ upto) (take n cells) × All (λ (c : Cell). upto < c.version) (drop n cells)
upto_parts cells n upto point = (
  All-weaker (λ (c : Cell). leb c.version upto ≡ true) (λ (c : Cell). c.version ≤ upto) (λ c h. grind (arith, nat_tests, h)) (take n cells) (take_within (λ (c : Cell). leb c.version upto ≡ true) cells n point.0),
  All-weaker (λ (c : Cell). leb c.version upto ≡ false) (λ (c : Cell). upto < c.version) (λ c h. grind (arith, nat_tests, h)) (drop n cells) (drop_within (λ (c : Cell). leb c.version upto ≡ false) cells n point.1),
)

pub lower_parts : (cells : List Cell) (n t : ℕ) → IsPartitionPoint (λ (c : Cell). ltb c.version t ≡ true) (λ (c : Cell). ltb c.version t ≡ false) cells n → AreLowerBefore cells t n × All (λ (c : Cell). t ≤ c.version) (drop n cells)
lower_parts cells n t point = (
  All-weaker (λ (c : Cell). ltb c.version t ≡ true) (λ (c : Cell). c.version < t) (λ c h. grind (arith, nat_tests, h)) (take n cells) (take_within (λ (c : Cell). ltb c.version t ≡ true) cells n point.0),
  All-weaker (λ (c : Cell). ltb c.version t ≡ false) (λ (c : Cell). t ≤ c.version) (λ c h. grind (arith, nat_tests, h)) (drop n cells) (drop_within (λ (c : Cell). ltb c.version t ≡ false) cells n point.1),
)

lower_rows : (k t : ℕ) (cells : List Cell) → All (λ (c : Cell). c.version < t) cells → AllByRecursion (IsEarlier k t) (rows_at k cells)
lower_rows k t [] h = tt
lower_rows k t (c ∷ cs) h = (inr (refl, All-head (λ (x : Cell). x.version < t) c cs h), lower_rows k t cs (All-tail (λ (x : Cell). x.version < t) c cs h))

higher_rows : (k t : ℕ) (cells : List Cell) → All (λ (c : Cell). t < c.version) cells → AllByRecursion (IsLater k t) (rows_at k cells)
higher_rows k t [] h = tt
higher_rows k t (c ∷ cs) h = (inr (refl, All-head (λ (x : Cell). t < x.version) c cs h), higher_rows k t cs (All-tail (λ (x : Cell). t < x.version) c cs h))

rows_split : (k n : ℕ) (cells : List Cell) → rows_at k cells ≡ rows_at k (take n cells) ++ rows_at k (drop n cells)
rows_split k n cells = ap (rows_at k) (sym (take-append-drop n cells)) ∙ map-append (row_at k) (take n cells) (drop n cells)

-- ---- a fetch
pub fetched_lower : (k upto : ℕ) (cells : List Cell) → All (λ (c : Cell). c.version ≤ upto) cells → fetched (rows_at k cells) k upto ≡ reverse cells
unfolding fetched
fetched_lower k upto [] h = refl
fetched_lower k upto (c ∷ cs) h =
    let low : c.version ≤ upto = All-head (λ (x : Cell). x.version ≤ upto) c cs h in
    let in_part : ((k == k) && nat_le c.version upto) ≡ true = grind (arith, nat_tests) in
    rw in_part (ap (λ (xs : List Cell). xs ++ c ∷ []) (fetched_lower k upto cs (All-tail (λ (x : Cell). x.version ≤ upto) c cs h)) ∙ sym (reverse-append (c ∷ []) cs))

fetched_higher : (k upto : ℕ) (cells : List Cell) → All (λ (c : Cell). upto < c.version) cells → fetched (rows_at k cells) k upto ≡ []
unfolding fetched
fetched_higher k upto [] h = refl
fetched_higher k upto (c ∷ cs) h =
    let high : upto < c.version = All-head (λ (x : Cell). upto < x.version) c cs h in
    let out : ((k == k) && nat_le c.version upto) ≡ false = grind (arith, nat_tests) in
    rw out (fetched_higher k upto cs (All-tail (λ (x : Cell). upto < x.version) c cs h))

-- what is fetched is the part of the list up to the version, from its end on
pub fetched-upto_part : (k upto n : ℕ) (cells : List Cell) → All (λ (c : Cell). c.version ≤ upto) (take n cells) → All (λ (c : Cell). upto < c.version) (drop n cells) → fetched (rows_at k cells) k upto ≡ reverse (take n cells)
fetched-upto_part k upto n cells low high =
    ap (λ (rs : List Row). fetched rs k upto) (rows_split k n cells)
    ∙ fetched-append (rows_at k (take n cells)) (rows_at k (drop n cells)) k upto
    ∙ rw (fetched_higher k upto (drop n cells) high) (fetched_lower k upto (take n cells) low)

-- ---- a place
at_place : (cells : List Cell) (t at : ℕ) (d : Cell) → IsPlace cells t at → drop at cells ≡ get_or cells at d ∷ drop (suc at) cells
at_place cells t at d p = drop-cons cells at d p.within

pub looked-place : (k t at : ℕ) (cells : List Cell) (d : Cell) → IsPlace cells t at → looked (rows_at k cells) k t ≡ Some (get_or cells at d)
looked-place k t at cells d p =
    ap (λ (rs : List Row). looked rs k t) (rows_split k at cells)
    ∙ looked-earlier k t (rows_at k (take at cells)) (rows_at k (drop at cells)) (lower_rows k t (take at cells) p.lower)
    ∙ ap (λ (cs : List Cell). looked (rows_at k cs) k t) (at_place cells t at d p)
    ∙ looked-here (row_at k (get_or cells at d)) (rows_at k (drop (suc at) cells)) k t refl (p.same d)

-- a change at the place of the version leaves the cells before it
edit_at : (k t at : ℕ) (edit : List Row → List Row) (cells : List Cell) → IsEditAt k t edit → AreLowerBefore cells t at → edit (rows_at k cells) ≡ rows_at k (take at cells) ++ edit (rows_at k (drop at cells))
edit_at k t at edit cells e lower = ap edit (rows_split k at cells) ∙ e.past (rows_at k (take at cells)) (rows_at k (drop at cells)) (lower_rows k t (take at cells) lower)

rows_set : (k at : ℕ) (cells : List Cell) (c : Cell) → at < length cells → rows_at k (set cells at c) ≡ rows_at k (take at cells) ++ row_at k c ∷ rows_at k (drop (suc at) cells)
rows_set k at cells c within = ap (rows_at k) (set_split cells at c within) ∙ map-append (row_at k) (take at cells) (c ∷ drop (suc at) cells)

put-here : (r : Row) (rs : List Row) (k t : ℕ) (v : List ℕ) → r.key ≡ k → r.version ≡ t → put_row (r ∷ rs) k t v ≡ record r { value = v } ∷ rs
unfolding put_row
put-here r rs k t v a b = rw (is_row-true k t r a b) refl

pub rows-put_at : (k t at : ℕ) (v : List ℕ) (cells : List Cell) (d : Cell) → IsPlace cells t at → rows_at k (set cells at (record (get_or cells at d) { value = v })) ≡ put_row (rows_at k cells) k t v
rows-put_at k t at v cells d p =
    rows_set k at cells (record (get_or cells at d) { value = v }) p.within
    ∙ ap (λ (rs : List Row). rows_at k (take at cells) ++ rs) (sym (ap (λ (cs : List Cell). put_row (rows_at k cs) k t v) (at_place cells t at d p) ∙ put-here (row_at k (get_or cells at d)) (rows_at k (drop (suc at) cells)) k t v refl (p.same d)))
    ∙ sym (edit_at k t at (λ rs. put_row rs k t v) cells (put_is_edit k t v) p.lower)

shadow-here : (r : Row) (rs : List Row) (k t c : ℕ) → r.key ≡ k → r.version ≡ t → with_shadow (r ∷ rs) k t c ≡ record r { shadow = Some c } ∷ rs
unfolding with_shadow
shadow-here r rs k t c a b = rw (is_row-true k t r a b) refl

pub rows-shadow_at : (k t at commit : ℕ) (cells : List Cell) (d : Cell) → IsPlace cells t at → rows_at k (set cells at (record (get_or cells at d) { shadow = Some commit })) ≡ with_shadow (rows_at k cells) k t commit
rows-shadow_at k t at commit cells d p =
    rows_set k at cells (record (get_or cells at d) { shadow = Some commit }) p.within
    ∙ ap (λ (rs : List Row). rows_at k (take at cells) ++ rs) (sym (ap (λ (cs : List Cell). with_shadow (rows_at k cs) k t commit) (at_place cells t at d p) ∙ shadow-here (row_at k (get_or cells at d)) (rows_at k (drop (suc at) cells)) k t commit refl (p.same d)))
    ∙ sym (edit_at k t at (λ rs. with_shadow rs k t commit) cells (shadow_is_edit k t commit) p.lower)

without-here : (r : Row) (rs : List Row) (k t : ℕ) → r.key ≡ k → r.version ≡ t → r.shadow ≡ None → without_bare (r ∷ rs) k t ≡ rs
unfolding without_bare
without-here r rs k t a b bare = rw (is_row-true k t r a b, bare) refl

pub rows-removed_at : (k t at : ℕ) (cells : List Cell) (d : Cell) → IsPlace cells t at → (get_or cells at d).shadow ≡ None → rows_at k (remove cells at) ≡ without_bare (rows_at k cells) k t
rows-removed_at k t at cells d p bare =
    map-append (row_at k) (take at cells) (drop (suc at) cells)
    ∙ ap (λ (rs : List Row). rows_at k (take at cells) ++ rs) (sym (ap (λ (cs : List Cell). without_bare (rows_at k cs) k t) (at_place cells t at d p) ∙ without-here (row_at k (get_or cells at d)) (rows_at k (drop (suc at) cells)) k t refl (p.same d) bare))
    ∙ sym (edit_at k t at (λ rs. without_bare rs k t) cells (without_is_edit k t) p.lower)

-- ---- a gap
-- the cells behind one of them are of higher versions
higher_behind : (t at : ℕ) (cells : List Cell) (d : Cell) → AreRising cells → at < length cells → t < (get_or cells at d).version → All (λ (c : Cell). t < c.version) (drop (suc at) cells)
higher_behind t at cells d rising within up = λ i e less.
    let short = length-drop (suc at) cells in
    let same = get_or_default cells at d e within in
    let there = get_or-drop (suc at) cells i e in
    let high : (get_or cells at e).version < (get_or cells (suc at + i) e).version = rising at (suc at + i) e (omega arith) (omega arith) in
    let low : t < (get_or cells at e).version = subst (λ (c : Cell). t < c.version) same up in
    subst (λ (c : Cell). t < c.version) (sym there) (omega arith)

-- where the version has no cell, the cells from there on are of higher versions
pub higher_from : (t at : ℕ) (cells : List Cell) → AreRising cells → All (λ (c : Cell). t ≤ c.version) (drop at cells) → (at < length cells → (d : Cell) → (get_or cells at d).version ≡ t → ⊥) → All (λ (c : Cell). t < c.version) (drop at cells)
higher_from t at cells rising from other = elim (cases_lt at (length cells)) [
  | inl within ↦ λ i d less.
      let first = drop-cons cells at d within in
      let low : t ≤ (get_or cells at d).version = All-head (λ (c : Cell). t ≤ c.version) (get_or cells at d) (drop (suc at) cells) (All-same (λ (c : Cell). t ≤ c.version) (get_or cells at d ∷ drop (suc at) cells) (drop at cells) (sym first) from) in
      let ne : (get_or cells at d).version ≡ t → ⊥ = other within d in
      let up : t < (get_or cells at d).version = omega arith in
      All-same (λ (c : Cell). t < c.version) (drop at cells) (get_or cells at d ∷ drop (suc at) cells) first (All-cons (λ (c : Cell). t < c.version) (get_or cells at d) (drop (suc at) cells) up (higher_behind t at cells d rising within up)) i d less
  | inr past ↦ λ i d less. let short = length-drop at cells in absurd (omega arith)
]

pub looked-gap : (k t at : ℕ) (cells : List Cell) → AreLowerBefore cells t at → All (λ (c : Cell). t < c.version) (drop at cells) → looked (rows_at k cells) k t ≡ None
looked-gap k t at cells lower higher =
    ap (λ (rs : List Row). looked rs k t) (rows_split k at cells)
    ∙ looked-earlier k t (rows_at k (take at cells)) (rows_at k (drop at cells)) (lower_rows k t (take at cells) lower)
    ∙ looked-later k t (rows_at k (drop at cells)) (higher_rows k t (drop at cells) higher)

-- a version that is looked up in vain has a gap
pub gap_from_none : (k t at : ℕ) (cells : List Cell) → AreRising cells → AreLowerBefore cells t at → All (λ (c : Cell). t ≤ c.version) (drop at cells) → looked (rows_at k cells) k t ≡ None → All (λ (c : Cell). t < c.version) (drop at cells)
gap_from_none k t at cells rising lower from absent = higher_from t at cells rising from (λ within d same.
    let p : IsPlace cells t at = record { within = within; lower = lower; same = λ e. ap (λ (c : Cell). c.version) (get_or_default cells at e d within) ∙ same } in
    none-some _ (sym absent ∙ looked-place k t at cells d p))

pub rows-inserted : (k t at : ℕ) (v : List ℕ) (cells : List Cell) → AreLowerBefore cells t at → All (λ (c : Cell). t < c.version) (drop at cells) → rows_at k (insert cells at (bare_cell t v)) ≡ put_row (rows_at k cells) k t v
rows-inserted k t at v cells lower higher =
    map-append (row_at k) (take at cells) (bare_cell t v ∷ drop at cells)
    ∙ ap (λ (rs : List Row). rows_at k (take at cells) ++ rs) (sym (put-behind k t v (rows_at k (drop at cells)) (higher_rows k t (drop at cells) higher)))
    ∙ sym (edit_at k t at (λ rs. put_row rs k t v) cells (put_is_edit k t v) lower)

-- ---- the order
above_first : (k : ℕ) (c : Cell) (cs : List Cell) → IsBelowAll (row_at k c) (rows_at k cs) → All (λ (x : Cell). c.version < x.version) cs
unfolding IsBelowAll
above_first k c [] below = All-nil (λ (x : Cell). c.version < x.version)
above_first k c (x ∷ xs) below =
    let up : c.version < x.version = grind (arith, below.0) in
    All-cons (λ (y : Cell). c.version < y.version) x xs up (above_first k c xs below.1)

pub rising_from_ordered : (k : ℕ) (cells : List Cell) → AreOrdered (rows_at k cells) → AreRising cells
unfolding AreOrdered
rising_from_ordered k [] ordered = λ i j d less there. absurd (omega arith)
rising_from_ordered k (c ∷ cs) ordered = all_pairs_cons (λ (a : Cell) (b : Cell). a.version < b.version) c cs (above_first k c cs ordered.0) (rising_from_ordered k cs ordered.1)
