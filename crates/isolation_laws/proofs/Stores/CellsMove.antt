-- The cells and the commit table where a row is erased or written, and where a commit is placed.
use Rattle.isolation_laws.proofs.Names.{◌≡◌, ℕ, List, Option, Some, None, IfSome, ◌⊎◌, inl, inr, refl, sym, ◌∙◌, ap}
use Rattle.isolation_laws.proofs.Names.{subst, cases_eq, same_Some, none-some, CommittedMark, InvalidMark, Committed}
use Rattle.isolation_laws.proofs.Names.{last_write, Item, Begin, Placed, Cell, Row, looked, AreOrdered, bare_cell}
use Rattle.isolation_laws.proofs.Names.{put_row, without_bare, Pairs, mark_of, put_pair, looked-put_other}
use Rattle.isolation_laws.proofs.Names.{looked-put_same, looked-without, looked-without_other, ordered-put}
use Rattle.isolation_laws.proofs.Names.{ordered-without, without_bare_absent, without_bare_shadowed, without_bare_gone}
use Rattle.isolation_laws.proofs.Names.{entry_or, mark_of-put_pair, mark_of-put_pair_other, entry_stays-put_pair}
use Rattle.isolation_laws.proofs.Names.{InstanceEntry, Client, Begun, HasRecord, cell_with, Live, IsSwept, AreShadowed}
use Rattle.isolation_laws.proofs.Names.{CellFacts}
use Rattle.isolation_laws.proofs.Requests.CommitsInFlight.{GoesOn}
use Rattle.isolation_laws.proofs.Stores.LiveAfter.{FewerLive}
use Rattle.isolation_laws.proofs.Stores.Calm.{listed_goes_on}
use Rattle.isolation_laws.proofs.Stores.StoresStay.{same_or_other}

-- ---- a bare row is erased
-- a row that was erased
pub record IsErased (rows : List Row) (k t j u : ℕ) : Type 0 where
  pub key_is : k ≡ j
  pub version_is : t ≡ u
  pub gone : looked (without_bare rows k t) j u ≡ None
  pub cell : Cell
  pub was : looked rows j u ≡ Some cell
  pub bare : cell.shadow ≡ None

erased_here : (rows : List Row) (k t : ℕ) → AreOrdered rows → IsErased rows k t k t ⊎ (looked (without_bare rows k t) k t ≡ looked rows k t)
erased_here rows k t ordered = by (looked rows k t) refl
  where
    shadow_is : (cell : Cell) (shadow : Option ℕ) → cell.shadow ≡ shadow → looked rows k t ≡ Some cell → IsErased rows k t k t ⊎ (looked (without_bare rows k t) k t ≡ looked rows k t)
    shadow_is cell None bare e = inl (record { key_is = refl; version_is = refl; gone = without_bare_gone rows k t ordered (subst (λ (found : Option Cell). IfSome found (λ c. c.shadow ≡ None)) (sym e) bare); cell = cell; was = e; bare = bare })
    shadow_is cell (Some c) has e = inr (ap (λ rs. looked rs k t) (without_bare_shadowed rows k t c cell e has))

    by : (found : Option Cell) → looked rows k t ≡ found → IsErased rows k t k t ⊎ (looked (without_bare rows k t) k t ≡ looked rows k t)
    by None e = inr (ap (λ rs. looked rs k t) (without_bare_absent rows k t e))
    by (Some cell) e = shadow_is cell cell.shadow refl e

pub erase_cases : (rows : List Row) (k t j u : ℕ) → AreOrdered rows → IsErased rows k t j u ⊎ (looked (without_bare rows k t) j u ≡ looked rows j u)
erase_cases rows k t j u ordered = elim (same_or_other k t j u) [
  | inl here ↦ subst (λ q. IsErased rows k t q u ⊎ (looked (without_bare rows k t) q u ≡ looked rows q u)) here.0 (subst (λ q. IsErased rows k t k q ⊎ (looked (without_bare rows k t) k q ≡ looked rows k q)) here.1 (erased_here rows k t ordered))
  | inr other ↦ inr (looked-without_other rows k t j u other)
]

pub bare_not_shadowed : (t c : ℕ) (value : Option (List ℕ)) (cell : Cell) → cell.shadow ≡ None → Some cell ≡ cell_with t (Some c) value → ⊥
bare_not_shadowed t c None cell bare is = none-some cell (sym is)
bare_not_shadowed t c (Some v) cell bare is = none-some c (sym bare ∙ ap (λ (x : Cell). x.shadow) (same_Some _ _ is))

pub cells_erase : (clients : List Client) (nodes : List (Option InstanceEntry)) (rows : List Row) (pairs : Pairs) (h : List Item) (k t : ℕ) → ((c : ℕ) → Committed h t c → AreShadowed rows h t c) → (Live clients nodes t → IsSwept pairs h t) → CellFacts clients nodes rows pairs h → CellFacts clients nodes (without_bare rows k t) pairs h
cells_erase clients nodes rows pairs h k t shadows swept facts = record {
  rows_are = record {
    ordered = ordered-without rows k t facts.rows_are.ordered;
    begun = λ j u cell found. facts.rows_are.begun j u cell (looked-without rows k t j u cell facts.rows_are.ordered found);
    placed = λ j u d cell found shadow. facts.rows_are.placed j u d cell (looked-without rows k t j u cell facts.rows_are.ordered found) shadow;
  };
  pairs_are = facts.pairs_are;
  live = record {
    bare = λ u j live. elim (erase_cases rows k t j u facts.rows_are.ordered) [
      | inl here ↦ inr (here.gone, subst (λ q. IsSwept pairs h q) here.version_is (swept (subst (λ q. Live clients nodes q) (sym here.version_is) live)))
      | inr same ↦ elim (facts.live.bare u j live) [
        | inl bare ↦ inl (same ∙ bare)
        | inr gone ↦ inr (same ∙ gone.0, gone.1)
      ]
    ];
  };
  placed = record {
    cells = λ u d j committed. elim (erase_cases rows k t j u facts.rows_are.ordered) [
      | inl here ↦ absurd (bare_not_shadowed u d (last_write h u j) here.cell here.bare (sym here.was ∙ subst (λ q. looked rows j q ≡ cell_with q (Some d) (last_write h q j)) here.version_is (shadows d (subst (λ q. Committed h q d) (sym here.version_is) committed) j)))
      | inr same ↦ elim (facts.placed.cells u d j committed) [
        | inl bare ↦ inl (same ∙ bare)
        | inr has ↦ inr (same ∙ has)
      ]
    ];
    found = λ u d committed. elim (facts.placed.found u d committed) [
      | inl has ↦ inl has
      | inr all ↦ inr (λ j. elim (erase_cases rows k t j u facts.rows_are.ordered) [
        | inl here ↦ absurd (bare_not_shadowed u d (last_write h u j) here.cell here.bare (sym here.was ∙ all j))
        | inr same ↦ same ∙ all j
      ])
    ];
  };
}

-- ---- a row is written
pub put_cases : (rows : List Row) (k t : ℕ) (value : List ℕ) (j u : ℕ) → ((cell : Cell) → looked rows k t ≡ Some cell → cell.shadow ≡ None) → ((k ≡ j) × (t ≡ u) × (looked (put_row rows k t value) j u ≡ Some (bare_cell t value))) ⊎ ((k ≡ j → t ≡ u → ⊥) × (looked (put_row rows k t value) j u ≡ looked rows j u))
put_cases rows k t value j u bare = elim (same_or_other k t j u) [
  | inl here ↦ inl (here.0, here.1, subst (λ q. looked (put_row rows k t value) q u ≡ Some (bare_cell t value)) here.0 (subst (λ q. looked (put_row rows k t value) k q ≡ Some (bare_cell t value)) here.1 (looked-put_same rows k t value bare)))
  | inr other ↦ inr (other, looked-put_other rows k t value j u other)
]

-- what a write brings to the history
pub record IsWrite (h g : List Item) (k t : ℕ) : Type 0 where
  pub on : GoesOn h g
  pub placed : (u c : ℕ) → Committed g u c → Committed h u c
  pub others : (u j : ℕ) → (k ≡ j → t ≡ u → ⊥) → last_write g u j ≡ last_write h u j

pub cells_put : (clients new_clients : List Client) (nodes new_nodes : List (Option InstanceEntry)) (rows : List Row) (pairs : Pairs) (h g : List Item) (s k t : ℕ) (value : List ℕ) → FewerLive clients nodes new_clients new_nodes → IsWrite h g k t → Begun h s t → ((c : ℕ) → Committed h t c → ⊥) → ((cell : Cell) → looked rows k t ≡ Some cell → cell.shadow ≡ None) → (Live new_clients new_nodes t → last_write g t k ≡ Some value) → CellFacts clients nodes rows pairs h → CellFacts new_clients new_nodes (put_row rows k t value) pairs g
cells_put clients new_clients nodes new_nodes rows pairs h g s k t value fewer writes begun unplaced bare written facts = record {
  rows_are = record {
    ordered = ordered-put rows k t value facts.rows_are.ordered;
    begun = λ j u cell found. elim (put_cases rows k t value j u bare) [
      | inl here ↦ (s, writes.on (Begin s u) (subst (λ q. Begun h s q) here.1 begun))
      | inr other ↦ let was = facts.rows_are.begun j u cell (sym other.1 ∙ found) in (was.0, writes.on (Begin was.0 u) was.1)
    ];
    placed = λ j u d cell found shadow. elim (put_cases rows k t value j u bare) [
      | inl here ↦ absurd (none-some d (ap (λ (x : Cell). x.shadow) (same_Some (bare_cell t value) cell (sym here.2 ∙ found)) ∙ shadow))
      | inr other ↦ writes.on (Placed u d) (facts.rows_are.placed j u d cell (sym other.1 ∙ found) shadow)
    ];
  };
  pairs_are = record { placed = λ u d has. writes.on (Placed u d) (facts.pairs_are.placed u d has) };
  live = record {
    bare = λ u j live. elim (put_cases rows k t value j u bare) [
      | inl here ↦ inl (subst (λ q. looked (put_row rows k t value) q u ≡ cell_with u None (last_write g u q)) here.0 (subst (λ q. looked (put_row rows k t value) k q ≡ cell_with q None (last_write g q k)) here.1 (looked-put_same rows k t value bare ∙ ap (cell_with t None) (sym (written (subst (λ q. Live new_clients new_nodes q) (sym here.1) live))))))
      | inr other ↦ elim (facts.live.bare u j (fewer u live)) [
        | inl is ↦ inl (other.1 ∙ (is ∙ ap (cell_with u None) (sym (writes.others u j other.0))))
        | inr gone ↦ inr (other.1 ∙ gone.0, record { marked = gone.1.marked; listed = listed_goes_on h g u writes.on gone.1.listed })
      ]
    ];
  };
  placed = record {
    cells = λ u d j committed. elim (put_cases rows k t value j u bare) [
      | inl here ↦ absurd (unplaced d (subst (λ q. Committed h q d) (sym here.1) (writes.placed u d committed)))
      | inr other ↦ elim (facts.placed.cells u d j (writes.placed u d committed)) [
        | inl is ↦ inl (other.1 ∙ (is ∙ ap (cell_with u None) (sym (writes.others u j other.0))))
        | inr has ↦ inr (other.1 ∙ (has ∙ ap (cell_with u (Some d)) (sym (writes.others u j other.0))))
      ]
    ];
    found = λ u d committed. elim (facts.placed.found u d (writes.placed u d committed)) [
      | inl has ↦ inl has
      | inr all ↦ inr (λ j. elim (put_cases rows k t value j u bare) [
        | inl here ↦ absurd (unplaced d (subst (λ q. Committed h q d) (sym here.1) (writes.placed u d committed)))
        | inr other ↦ other.1 ∙ (all j ∙ ap (cell_with u (Some d)) (sym (writes.others u j other.0)))
      ])
    ];
  };
}

-- ---- a commit is placed, where there is no entry
-- what the placed commit brings to the history
pub record IsPlacing (h g : List Item) (t c : ℕ) : Type 0 where
  pub on : GoesOn h g
  pub placed : (u d : ℕ) → Committed g u d → Committed h u d ⊎ ((u ≡ t) × (d ≡ c))
  pub here : Committed g t c
  pub writes : (u k : ℕ) → last_write g u k ≡ last_write h u k

record_same : (c d : ℕ) → Some (CommittedMark c) ≡ Some (CommittedMark d) → c ≡ d
record_same c d same = cc

placed_record : (pairs : Pairs) (t c u d : ℕ) → mark_of pairs t ≡ None → HasRecord (put_pair pairs t (CommittedMark c)) u d → ((u ≡ t) × (d ≡ c)) ⊎ HasRecord pairs u d
placed_record pairs t c u d free has = elim (cases_eq u t) [
  | inl same ↦ inl (same, sym (record_same c d (ap (λ found. Some (entry_or found (CommittedMark c))) (sym free) ∙ (sym (mark_of-put_pair pairs t (CommittedMark c)) ∙ subst (λ q. HasRecord (put_pair pairs t (CommittedMark c)) q d) same has))))
  | inr other ↦ inr (sym (mark_of-put_pair_other pairs t u (CommittedMark c) other) ∙ has)
]

pub cells_placed : (clients new_clients : List Client) (nodes new_nodes : List (Option InstanceEntry)) (rows : List Row) (pairs : Pairs) (h g : List Item) (t c : ℕ) → FewerLive clients nodes new_clients new_nodes → IsPlacing h g t c → Live clients nodes t → mark_of pairs t ≡ None → CellFacts clients nodes rows pairs h → CellFacts new_clients new_nodes rows (put_pair pairs t (CommittedMark c)) g
cells_placed clients new_clients nodes new_nodes rows pairs h g t c fewer places live free facts = record {
  rows_are = record {
    ordered = facts.rows_are.ordered;
    begun = λ k u cell found. let was = facts.rows_are.begun k u cell found in (was.0, places.on (Begin was.0 u) was.1);
    placed = λ k u d cell found shadow. places.on (Placed u d) (facts.rows_are.placed k u d cell found shadow);
  };
  pairs_are = record {
    placed = λ u d has. elim (placed_record pairs t c u d free has) [
      | inl now ↦ subst (λ q. Committed g q d) (sym now.0) (subst (λ q. Committed g t q) (sym now.1) places.here)
      | inr old ↦ places.on (Placed u d) (facts.pairs_are.placed u d old)
    ];
  };
  live = record {
    bare = λ u k still. elim (facts.live.bare u k (fewer u still)) [
      | inl is ↦ inl (is ∙ ap (cell_with u None) (sym (places.writes u k)))
      | inr gone ↦ inr (gone.0, record { marked = entry_stays-put_pair pairs t u (CommittedMark c) InvalidMark gone.1.marked; listed = listed_goes_on h g u places.on gone.1.listed })
    ];
  };
  placed = record {
    cells = λ u d k committed. elim (places.placed u d committed) [
      | inl old ↦ elim (facts.placed.cells u d k old) [
        | inl is ↦ inl (is ∙ ap (cell_with u None) (sym (places.writes u k)))
        | inr has ↦ inr (has ∙ ap (cell_with u (Some d)) (sym (places.writes u k)))
      ]
      | inr now ↦ elim (facts.live.bare t k live) [
        | inl is ↦ inl (subst (λ q. looked rows k q ≡ cell_with q None (last_write g q k)) (sym now.0) (is ∙ ap (cell_with t None) (sym (places.writes t k))))
        | inr gone ↦ absurd (none-some InvalidMark (sym free ∙ gone.1.marked))
      ]
    ];
    found = λ u d committed. elim (places.placed u d committed) [
      | inl old ↦ elim (facts.placed.found u d old) [
        | inl has ↦ inl (entry_stays-put_pair pairs t u (CommittedMark c) (CommittedMark d) has)
        | inr all ↦ inr (λ k. all k ∙ ap (cell_with u (Some d)) (sym (places.writes u k)))
      ]
      | inr now ↦ inl (subst (λ q. HasRecord (put_pair pairs t (CommittedMark c)) q d) (sym now.0) (subst (λ q. HasRecord (put_pair pairs t (CommittedMark c)) t q) (sym now.1) (mark_of-put_pair pairs t (CommittedMark c) ∙ ap (λ found. Some (entry_or found (CommittedMark c))) free)))
    ];
  };
}
