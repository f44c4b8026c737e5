-- The cells and the commit table where the history goes on, where the table moves, and where a row gets its shadow, is
-- erased or is written.
use Rattle.isolation_laws.proofs.Names.{◌≡◌, ℕ, List, Option, Some, None, ◌⊎◌, inl, inr, refl, sym, ◌∙◌, ap, subst}
use Rattle.isolation_laws.proofs.Names.{cases_eq, same_Some, none-some, CommittedMark, InvalidMark, Committed, Stamped}
use Rattle.isolation_laws.proofs.Names.{last_write, Item, Begin, Placed, Cell, Row, looked, with_shadow, Pairs, mark_of}
use Rattle.isolation_laws.proofs.Names.{put_pair, without_committed, looked-shadow_other, looked-shadow_same}
use Rattle.isolation_laws.proofs.Names.{ordered-shadow, entry_or, mark_of-put_pair, mark_of-put_pair_other}
use Rattle.isolation_laws.proofs.Names.{entry_stays-put_pair, mark_of-without_committed_other}
use Rattle.isolation_laws.proofs.Names.{invalid_stays-without_committed, was_there-without_committed, InstanceEntry}
use Rattle.isolation_laws.proofs.Names.{Client, Marked, HasRecord, cell_with, Live, IsSwept, AreShadowed, CellFacts}
use Rattle.system_parts.proofs.RowLaws.{shadowed}
use Rattle.isolation_laws.proofs.OnceEach.{one_commit}
use Rattle.isolation_laws.proofs.Requests.CommitsInFlight.{GoesOn}
use Rattle.isolation_laws.proofs.Stores.Calm.{Calm, listed_goes_on}
use Rattle.isolation_laws.proofs.Stores.StoresStay.{same_or_other}

-- ---- a longer history without writes and placed commits
-- what is live was live, or has neither cells nor writes
abbrev pub LiveOrEmpty : List Client → List (Option InstanceEntry) → List Client → List (Option InstanceEntry) → List Row → List Item → Type 0
LiveOrEmpty clients nodes new_clients new_nodes rows h = (t : ℕ) → Live new_clients new_nodes t → Live clients nodes t ⊎ ((k : ℕ) → (looked rows k t ≡ None) × (last_write h t k ≡ None))

swept_on : (pairs new : Pairs) (h g : List Item) (t : ℕ) → (Marked pairs t → Marked new t) → GoesOn h g → IsSwept pairs h t → IsSwept new g t
swept_on pairs new h g t marks on swept = record { marked = marks swept.marked; listed = listed_goes_on h g t on swept.listed }

pub cells_calm : (clients new_clients : List Client) (nodes new_nodes : List (Option InstanceEntry)) (rows : List Row) (pairs : Pairs) (h g : List Item) → LiveOrEmpty clients nodes new_clients new_nodes rows h → Calm h g → CellFacts clients nodes rows pairs h → CellFacts new_clients new_nodes rows pairs g
cells_calm clients new_clients nodes new_nodes rows pairs h g fewer calm facts = record {
  rows_are = record {
    ordered = facts.rows_are.ordered;
    begun = λ k t cell found. let was = facts.rows_are.begun k t cell found in (was.0, calm.on (Begin was.0 t) was.1);
    placed = λ k t c cell found shadow. calm.on (Placed t c) (facts.rows_are.placed k t c cell found shadow);
  };
  pairs_are = record { placed = λ t c has. calm.on (Placed t c) (facts.pairs_are.placed t c has) };
  live = record {
    bare = λ t k live. elim (fewer t live) [
      | inl old ↦ elim (facts.live.bare t k old) [
        | inl is ↦ inl (is ∙ ap (cell_with t None) (sym (calm.writes t k)))
        | inr gone ↦ inr (gone.0, swept_on pairs pairs h g t (λ marked. marked) calm.on gone.1)
      ]
      | inr empty ↦ inl ((empty k).0 ∙ ap (cell_with t None) (sym (calm.writes t k ∙ (empty k).1)))
    ];
  };
  placed = record {
    cells = λ t c k is. elim (facts.placed.cells t c k (calm.placed t c is)) [
      | inl bare ↦ inl (bare ∙ ap (cell_with t None) (sym (calm.writes t k)))
      | inr shadow ↦ inr (shadow ∙ ap (cell_with t (Some c)) (sym (calm.writes t k)))
    ];
    found = λ t c is. elim (facts.placed.found t c (calm.placed t c is)) [
      | inl has ↦ inl has
      | inr all ↦ inr (λ k. all k ∙ ap (cell_with t (Some c)) (sym (calm.writes t k)))
    ];
  };
}

-- ---- the table moves
pub record PairsMove (rows : List Row) (old new : Pairs) (h : List Item) : Type 0 where
  pub marks : (t : ℕ) → Marked old t → Marked new t
  pub records : (t c : ℕ) → HasRecord new t c → HasRecord old t c
  pub kept : (t c : ℕ) → Committed h t c → HasRecord old t c → HasRecord new t c ⊎ AreShadowed rows h t c

pub cells_pairs : (clients : List Client) (nodes : List (Option InstanceEntry)) (rows : List Row) (old new : Pairs) (h : List Item) → PairsMove rows old new h → CellFacts clients nodes rows old h → CellFacts clients nodes rows new h
cells_pairs clients nodes rows old new h moves facts = record {
  rows_are = facts.rows_are;
  pairs_are = record { placed = λ t c has. facts.pairs_are.placed t c (moves.records t c has) };
  live = record {
    bare = λ t k live. elim (facts.live.bare t k live) [
      | inl is ↦ inl is
      | inr gone ↦ inr (gone.0, swept_on old new h h t (moves.marks t) (λ x m. m) gone.1)
    ];
  };
  placed = record {
    cells = facts.placed.cells;
    found = λ t c is. elim (facts.placed.found t c is) [
      | inl has ↦ moves.kept t c is has
      | inr all ↦ inr all
    ];
  };
}

pub no_record_marked : (c : ℕ) → Some InvalidMark ≡ Some (CommittedMark c) → ⊥
no_record_marked c same = cc

-- a mark, where there is no entry
mark_records : (pairs : Pairs) (t u c : ℕ) → HasRecord (put_pair pairs t InvalidMark) u c → HasRecord pairs u c
mark_records pairs t u c has = elim (cases_eq u t) [
  | inl same ↦ subst (λ q. HasRecord pairs q c) (sym same) (by (mark_of pairs t) refl (sym (mark_of-put_pair pairs t InvalidMark) ∙ subst (λ q. HasRecord (put_pair pairs t InvalidMark) q c) same has))
  | inr other ↦ sym (mark_of-put_pair_other pairs t u InvalidMark other) ∙ has
]
  where
    by : (found : Option _) → mark_of pairs t ≡ found → Some (entry_or found InvalidMark) ≡ Some (CommittedMark c) → HasRecord pairs t c
    by None e is = absurd (no_record_marked c is)
    by (Some there) e is = e ∙ is

pub marking_moves : (rows : List Row) (pairs : Pairs) (h : List Item) (t : ℕ) → PairsMove rows pairs (put_pair pairs t InvalidMark) h
marking_moves rows pairs h t = record {
  marks = λ u marked. entry_stays-put_pair pairs t u InvalidMark InvalidMark marked;
  records = λ u c has. mark_records pairs t u c has;
  kept = λ u c is has. inl (entry_stays-put_pair pairs t u InvalidMark (CommittedMark c) has);
}

-- a removal, where the cells have their shadow
pub removal_moves : (rows : List Row) (pairs : Pairs) (h : List Item) (t : ℕ) → ((c : ℕ) → Committed h t c → AreShadowed rows h t c) → PairsMove rows pairs (without_committed pairs t) h
removal_moves rows pairs h t shadows = record {
  marks = λ u marked. invalid_stays-without_committed pairs t u marked;
  records = λ u c has. was_there-without_committed pairs t u (CommittedMark c) has;
  kept = λ u c is has. elim (cases_eq u t) [
    | inl same ↦ inr (subst (λ q. AreShadowed rows h q c) (sym same) (shadows c (subst (λ q. Committed h q c) same is)))
    | inr other ↦ inl (mark_of-without_committed_other pairs t u other ∙ has)
  ];
}

-- ---- a row gets its shadow
pub shadow_cases : (rows : List Row) (k t c j u : ℕ) → ((k ≡ j) × (t ≡ u) × (looked (with_shadow rows k t c) j u ≡ shadowed c (looked rows j u))) ⊎ (looked (with_shadow rows k t c) j u ≡ looked rows j u)
shadow_cases rows k t c j u = elim (same_or_other k t j u) [
  | inl here ↦ inl (here.0, here.1, subst (λ q. looked (with_shadow rows k t c) q u ≡ shadowed c (looked rows q u)) here.0 (subst (λ q. looked (with_shadow rows k t c) k q ≡ shadowed c (looked rows k q)) here.1 (looked-shadow_same rows k t c)))
  | inr other ↦ inr (looked-shadow_other rows k t c j u other)
]

shadowed_was : (c : ℕ) (o : Option Cell) (cell : Cell) → shadowed c o ≡ Some cell → (old : Cell) × (o ≡ Some old) × (cell.shadow ≡ Some c)
shadowed_was c None cell is = absurd (none-some cell is)
shadowed_was c (Some old) cell is = (old, refl, ap (λ (x : Cell). x.shadow) (sym (same_Some (record old { shadow = Some c }) cell is)))

pub shadowed_with : (t c : ℕ) (shadow : Option ℕ) (value : Option (List ℕ)) → shadowed c (cell_with t shadow value) ≡ cell_with t (Some c) value
shadowed_with t c shadow None = refl
shadowed_with t c shadow (Some value) = refl

shadow_found : (rows : List Row) (k t c j u : ℕ) (cell : Cell) → looked (with_shadow rows k t c) j u ≡ Some cell → ((t ≡ u) × ((old : Cell) × (looked rows j u ≡ Some old)) × (cell.shadow ≡ Some c)) ⊎ (looked rows j u ≡ Some cell)
shadow_found rows k t c j u cell found = elim (shadow_cases rows k t c j u) [
  | inl here ↦ let was = shadowed_was c (looked rows j u) cell (sym here.2 ∙ found) in inl (here.1, (was.0, was.1), was.2)
  | inr same ↦ inr (sym same ∙ found)
]

-- of a placed commit, its shadow
pub cells_shadow : (clients : List Client) (nodes : List (Option InstanceEntry)) (rows : List Row) (pairs : Pairs) (h : List Item) (k t c : ℕ) → Stamped h → ((u d : ℕ) → Live clients nodes u → Committed h u d → ⊥) → Committed h t c → CellFacts clients nodes rows pairs h → CellFacts clients nodes (with_shadow rows k t c) pairs h
cells_shadow clients nodes rows pairs h k t c stamped unplaced is facts = record {
  rows_are = record {
    ordered = ordered-shadow rows k t c facts.rows_are.ordered;
    begun = λ j u cell found. elim (shadow_found rows k t c j u cell found) [
      | inl here ↦ facts.rows_are.begun j u here.1.0 here.1.1
      | inr same ↦ facts.rows_are.begun j u cell same
    ];
    placed = λ j u d cell found shadow. elim (shadow_found rows k t c j u cell found) [
      | inl here ↦ subst (λ q. Committed h u q) (same_Some c d (sym here.2 ∙ shadow)) (subst (λ q. Committed h q c) here.0 is)
      | inr same ↦ facts.rows_are.placed j u d cell same shadow
    ];
  };
  pairs_are = facts.pairs_are;
  live = record {
    bare = λ u j live. elim (shadow_cases rows k t c j u) [
      | inl here ↦ absurd (unplaced u c live (subst (λ q. Committed h q c) here.1 is))
      | inr same ↦ elim (facts.live.bare u j live) [
        | inl bare ↦ inl (same ∙ bare)
        | inr gone ↦ inr (same ∙ gone.0, gone.1)
      ]
    ];
  };
  placed = record {
    cells = λ u d j committed. elim (shadow_cases rows k t c j u) [
      | inl here ↦
          let one : c ≡ d = one_commit h u c d stamped (subst (λ q. Committed h q c) here.1 is) committed in
          inr (here.2 ∙ (elim (facts.placed.cells u d j committed) [
            | inl bare ↦ ap (shadowed c) bare ∙ shadowed_with u c None (last_write h u j)
            | inr has ↦ ap (shadowed c) has ∙ shadowed_with u c (Some d) (last_write h u j)
          ] ∙ ap (λ q. cell_with u (Some q) (last_write h u j)) one))
      | inr same ↦ elim (facts.placed.cells u d j committed) [
        | inl bare ↦ inl (same ∙ bare)
        | inr has ↦ inr (same ∙ has)
      ]
    ];
    found = λ u d committed. elim (facts.placed.found u d committed) [
      | inl has ↦ inl has
      | inr all ↦ inr (λ j. elim (shadow_cases rows k t c j u) [
        | inl here ↦
            let one : c ≡ d = one_commit h u c d stamped (subst (λ q. Committed h q c) here.1 is) committed in
            here.2 ∙ (ap (shadowed c) (all j) ∙ (shadowed_with u c (Some d) (last_write h u j) ∙ ap (λ q. cell_with u (Some q) (last_write h u j)) one))
        | inr same ↦ same ∙ all j
      ])
    ];
  };
}
