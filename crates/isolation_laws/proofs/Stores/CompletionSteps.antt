-- The first ask of a completion and of a sweep: that it has what it needs, and what is left behind it.
use Rattle.isolation_laws.proofs.Names.{◌≡◌, ℕ, List, [], ◌∷◌, Option, Some, None, ◌⊎◌, inl, inr, refl, sym, ◌∙◌, ap}
use Rattle.isolation_laws.proofs.Names.{subst, same_Some, none-some, ◌∈◌, Committed, Wrote, last_write, Item, Cell, Row}
use Rattle.isolation_laws.proofs.Names.{looked, with_shadow, looked-shadow_same, Ask, finish_asks, undo_asks, first_ask}
use Rattle.isolation_laws.proofs.Names.{SweepPoint, Marking, Listing, Left, Undecided, Sweeping, sweep_ask}
use Rattle.isolation_laws.proofs.Names.{sweep_ask_at, State, rows_after, Marked, cell_with, AreShadowed, HasShadow}
use Rattle.isolation_laws.proofs.Names.{IsFinish, IsSweptAt, IsolationInvariant}
use Rattle.system_parts.specs.declared.asks.Ask.TheVariants as ask
use Rattle.system_parts.specs.Sweep.{Table}
use Rattle.isolation_laws.proofs.Stores.StoreMoves.{AskFits, has_shadow_set, keeps_shadow}
use Rattle.isolation_laws.proofs.Stores.CellsStay.{no_record_marked}

-- ---- the first ask of a completion
head_same : (a b : Ask) (xs ys : List Ask) → a ∷ xs ≡ b ∷ ys → (a ≡ b) × (xs ≡ ys)
head_same a b xs ys same = (cc, cc)

pub no_asks : (a : Ask) (xs : List Ask) → a ∷ xs ≡ [] → ⊥
no_asks a xs same = cc

pub finish_first : (t c : ℕ) (left : List ℕ) (asked : Ask) (asks : List Ask) → asked ∷ asks ≡ finish_asks t c left → ((left ≡ []) × (asked ≡ ask.Remove t) × (asks ≡ [])) ⊎ ((k : ℕ) × (ks : List ℕ) × (left ≡ k ∷ ks) × (asked ≡ ask.Shadow k t c) × (asks ≡ finish_asks t c ks))
finish_first t c [] asked asks shape = let parts = head_same asked (ask.Remove t) asks [] shape in inl (refl, parts.0, parts.1)
finish_first t c (k ∷ ks) asked asks shape = let parts = head_same asked (ask.Shadow k t c) asks (finish_asks t c ks) shape in inr (k, ks, refl, parts.0, parts.1)

pub undo_first : (t : ℕ) (left : List ℕ) (asked : Ask) (asks : List Ask) → asked ∷ asks ≡ undo_asks t left → (k : ℕ) × (ks : List ℕ) × (left ≡ k ∷ ks) × (asked ≡ ask.Erase k t) × (asks ≡ undo_asks t ks)
undo_first t [] asked asks shape = absurd (no_asks asked asks shape)
undo_first t (k ∷ ks) asked asks shape = let parts = head_same asked (ask.Erase k t) asks (undo_asks t ks) shape in (k, ks, refl, parts.0, parts.1)

-- a cell without a shadow is of a key that was not written, where all written ones have their shadow
not_bare : (t c : ℕ) (value : List ℕ) (cell : Cell) → Some cell ≡ cell_with t None (Some value) → cell.shadow ≡ Some c → ⊥
not_bare t c value cell is shadow = none-some c (ap (λ (x : Cell). x.shadow) (sym (same_Some _ _ is)) ∙ shadow)

shadow_or_none : (rows : List Row) (h : List Item) (t c d k : ℕ) → looked rows k t ≡ cell_with t None (last_write h t k) → ((value : List ℕ) → Wrote h t k value → HasShadow rows k t c) → looked rows k t ≡ cell_with t (Some d) (last_write h t k)
shadow_or_none rows h t c d k bare covered = by (last_write h t k) refl
  where
    by : (value : Option (List ℕ)) → last_write h t k ≡ value → looked rows k t ≡ cell_with t (Some d) (last_write h t k)
    by None e = bare ∙ (ap (cell_with t None) e ∙ sym (ap (cell_with t (Some d)) e))
    by (Some value) e = let has = covered value e in absurd (not_bare t c value has.0 (sym has.1 ∙ (bare ∙ ap (cell_with t None) e)) has.2)

pub all_shadowed : (w : State) (h : List Item) (t c : ℕ) → IsolationInvariant w h → ((k : ℕ) (value : List ℕ) → Wrote h t k value → HasShadow w.rows k t c) → (d : ℕ) → Committed h t d → AreShadowed w.rows h t d
all_shadowed w h t c holds covered d placed k = elim (holds.cells.placed.cells t d k placed) [
  | inl bare ↦ shadow_or_none w.rows h t c d k bare (covered k)
  | inr has ↦ has
]

pub in_none : (k : ℕ) (left : List ℕ) → left ≡ [] → k ∈ left → ⊥
unfolding ◌∈◌
in_none k [] is m = m
in_none k (j ∷ left) is m = cc

pub finish_fits : (w : State) (h : List Item) (t c : ℕ) (asked : Ask) (asks : List Ask) → IsolationInvariant w h → IsFinish w.rows h t c (asked ∷ asks) → AskFits w h asked
finish_fits w h t c asked asks holds finish = elim (finish_first t c finish.left asked asks finish.shape) [
  | inl last ↦ subst (λ (a : Ask). AskFits w h a) (sym last.1) (all_shadowed w h t c holds (λ k value wrote. elim (finish.covered k value wrote) [
    | inl m ↦ absurd (in_none k finish.left last.0 m)
    | inr has ↦ has
  ]))
  | inr more ↦ subst (λ (a : Ask). AskFits w h a) (sym more.3) finish.placed
]

-- a row of a placed commit gets its shadow
written_row : (rows : List Row) (h : List Item) (t c k : ℕ) (value : List ℕ) → (looked rows k t ≡ cell_with t None (last_write h t k)) ⊎ (looked rows k t ≡ cell_with t (Some c) (last_write h t k)) → Wrote h t k value → (cell : Cell) × (looked rows k t ≡ Some cell)
written_row rows h t c k value (inl bare) wrote = (record { version = t; value = value; shadow = None }, bare ∙ ap (cell_with t None) wrote)
written_row rows h t c k value (inr has) wrote = (record { version = t; value = value; shadow = Some c }, has ∙ ap (cell_with t (Some c)) wrote)

pub placed_row : (w : State) (h : List Item) (t c k : ℕ) (value : List ℕ) → IsolationInvariant w h → Committed h t c → Wrote h t k value → (cell : Cell) × (looked w.rows k t ≡ Some cell)
placed_row w h t c k value holds placed wrote = written_row w.rows h t c k value (holds.cells.placed.cells t c k placed) wrote

-- the keys that are left after the first
pub in_rest : (j k : ℕ) (left ks : List ℕ) → left ≡ k ∷ ks → j ∈ left → (j ≡ k) ⊎ (j ∈ ks)
unfolding ◌∈◌
in_rest j k left ks is m = subst (λ (xs : List ℕ). j ∈ xs) is m

shadow_now : (w : State) (h : List Item) (t c k : ℕ) (value : List ℕ) → IsolationInvariant w h → Committed h t c → Wrote h t k value → HasShadow (with_shadow w.rows k t c) k t c
shadow_now w h t c k value holds placed wrote =
    let there = placed_row w h t c k value holds placed wrote in
    has_shadow_set w.rows (with_shadow w.rows k t c) k t c there.0 (looked-shadow_same w.rows k t c) there.1

pub finish_next : (w : State) (h : List Item) (t c : ℕ) (asked : Ask) (asks : List Ask) → IsolationInvariant w h → IsFinish w.rows h t c (asked ∷ asks) → (asks ≡ []) ⊎ IsFinish (rows_after asked w.rows) h t c asks
finish_next w h t c asked asks holds finish = elim (finish_first t c finish.left asked asks finish.shape) [
  | inl last ↦ inl last.2
  | inr more ↦ inr (subst (λ (a : Ask). IsFinish (rows_after a w.rows) h t c asks) (sym more.3) (record {
    left = more.1;
    shape = more.4;
    placed = finish.placed;
    covered = λ j value wrote. elim (finish.covered j value wrote) [
      | inl m ↦ elim (in_rest j more.0 finish.left more.1 more.2 m) [
        | inl here ↦ inr (subst (λ q. HasShadow (with_shadow w.rows more.0 t c) q t c) (sym here) (shadow_now w h t c more.0 value holds finish.placed (subst (λ q. Wrote h t q value) here wrote)))
        | inr rest ↦ inl rest
      ]
      | inr has ↦ inr ((keeps_shadow w h more.0 t c holds finish.placed).shadows t c j finish.placed has)
    ];
  }))
]

-- ---- the first ask of a sweep
pub marked_shadows : (w : State) (h : List Item) (t : ℕ) → IsolationInvariant w h → Marked w.pairs t → (c : ℕ) → Committed h t c → AreShadowed w.rows h t c
marked_shadows w h t holds marked c placed = elim (holds.cells.placed.found t c placed) [
  | inl has ↦ absurd (no_record_marked c (sym marked ∙ has))
  | inr all ↦ all
]

fits_by : (w : State) (h : List Item) (a b : Ask) → Some a ≡ Some b → AskFits w h a → AskFits w h b
fits_by w h a b same fits = subst (λ (x : Ask). AskFits w h x) (same_Some a b same) fits

left_fits : (w : State) (h : List Item) (t : ℕ) (asks : List Ask) (asked : Ask) → IsolationInvariant w h → first_ask asks ≡ Some asked → IsSweptAt w.rows w.pairs h t (Left asks) → AskFits w h asked
left_fits w h t [] asked holds first knows = absurd (none-some asked first)
left_fits w h t (a ∷ asks) asked holds first (inl finish) = fits_by w h a asked first (finish_fits w h t finish.0 a asks holds finish.1)
left_fits w h t (a ∷ asks) asked holds first (inr undo) =
    let one = undo_first t undo.0 a asks undo.1 in
    fits_by w h a asked first (subst (λ (x : Ask). AskFits w h x) (sym one.3) (marked_shadows w h t holds undo.2, λ live. record { marked = undo.2; listed = undo.3 }))

sweep_fits_at : (w : State) (h : List Item) (t : ℕ) (at : SweepPoint) (asked : Ask) → IsolationInvariant w h → sweep_ask_at t at ≡ Some asked → IsSweptAt w.rows w.pairs h t at → AskFits w h asked
sweep_fits_at w h t Table asked holds is knows = fits_by w h (ask.Get t) asked is tt
sweep_fits_at w h t Marking asked holds is knows = fits_by w h (ask.Mark t) asked is tt
sweep_fits_at w h t (Listing found) asked holds is knows = fits_by w h (ask.Keys t) asked is tt
sweep_fits_at w h t (Left asks) asked holds is knows = left_fits w h t asks asked holds is knows
sweep_fits_at w h t Undecided asked holds is knows = absurd (none-some asked is)

pub sweep_fits : (w : State) (h : List Item) (s : Sweeping) (asked : Ask) → IsolationInvariant w h → w.sweep ≡ Some s → sweep_ask s ≡ Some asked → AskFits w h asked
sweep_fits w h s asked holds at is = sweep_fits_at w h s.txn s.point asked holds is (holds.under_way.sweeping.knows s at)
