-- What stands in the history of points.
use Rattle.std.proofs.Common.{◌≡◌, ℕ, ◌<◌, List, ◌∷◌, ◌++◌, inl, inr, refl, sym, subst, ap, ◌∙◌}
use Rattle.history_book.specs.Members.{◌∈◌, AtEach}
use Rattle.history_book.proofs.MemberLemmas.{in_back}
use Rattle.std.proofs.lemmas.List.{append_assoc}
use Rattle.history_book.specs.declared.item.Item.TheVariants as item
use Rattle.trace_rules.specs.declared.trace.Operation.{Operation}
use Rattle.trace_rules.specs.declared.trace.Operation.TheVariants.{Read, Write}
use Rattle.trace_rules.specs.Trace.{Trace}
use Rattle.trace_rules.specs.Stamping.{Stamping, Point, Start, Commit, stamp_of}
use Rattle.trace_items.specs.Items.{InOrder, Telling, item_of, items_at, history_of, operations_of}
use Rattle.trace_items.proofs.Along.{at_seam, first_in, flat_in, in_flat, in_map, split_at}

module _ (st : Stamping) (tell : Telling) (trace : Trace) where
  no_placed : (o : Operation) (t c : ℕ) → item.Placed t c ≡ item_of st tell o → ⊥
  no_placed (Read u k a) t c e = absurd (cc)
  no_placed (Write u k v) t c e = absurd (cc)

  no_begin : (o : Operation) (s t : ℕ) → item.Begin s t ≡ item_of st tell o → ⊥
  no_begin (Read u k a) s t e = absurd (cc)
  no_begin (Write u k v) s t e = absurd (cc)

  placed_at : (x : Point) (t c : ℕ) → item.Placed t c ∈ items_at st tell trace x → (m : ℕ) × (x ≡ Commit m) × (t ≡ st.start m) × (c ≡ st.commit m)
  unfolding ◌∈◌
  placed_at (Start u) t c (inl e) = absurd (cc)
  placed_at (Start u) t c (inr (inl e)) = absurd (cc)
  placed_at (Start u) t c (inr (inr deeper)) = let o = in_map (item_of st tell) (item.Placed t c) (operations_of u trace.operations) deeper in absurd (no_placed o.0 t c o.1)
  placed_at (Commit u) t c (inl e) = (u, refl, cc, cc)
  placed_at (Commit u) t c (inr none) = absurd none

  begun_at : (x : Point) (s t : ℕ) → item.Begin s t ∈ items_at st tell trace x → (m : ℕ) × (x ≡ Start m) × (t ≡ st.start m)
  unfolding ◌∈◌
  begun_at (Start u) s t (inl e) = absurd (cc)
  begun_at (Start u) s t (inr (inl e)) = (u, refl, cc)
  begun_at (Start u) s t (inr (inr deeper)) = let o = in_map (item_of st tell) (item.Begin s t) (operations_of u trace.operations) deeper in absurd (no_begin o.0 s t o.1)
  begun_at (Commit u) s t (inl e) = absurd (cc)
  begun_at (Commit u) s t (inr none) = absurd none

  pub placed_of : (points : List Point) (t c : ℕ) → item.Placed t c ∈ history_of st tell trace points → (m : ℕ) × (Commit m ∈ points) × (t ≡ st.start m) × (c ≡ st.commit m)
  placed_of points t c placed =
      let x = in_flat (items_at st tell trace) (item.Placed t c) points placed in
      let m = placed_at x.0 t c x.2 in
      (m.0, subst (λ (p : Point). p ∈ points) m.1 x.1, m.2, m.3)

  pub begin_of : (points : List Point) (s t : ℕ) → item.Begin s t ∈ history_of st tell trace points → (m : ℕ) × (Start m ∈ points) × (t ≡ st.start m)
  begin_of points s t begun =
      let x = in_flat (items_at st tell trace) (item.Begin s t) points begun in
      let m = begun_at x.0 s t x.2 in
      (m.0, subst (λ (p : Point). p ∈ points) m.1 x.1, m.2)

  pub place_in : (points : List Point) (m : ℕ) → Commit m ∈ points → item.Placed (st.start m) (st.commit m) ∈ history_of st tell trace points
  unfolding ◌∈◌
  place_in points m there = flat_in (items_at st tell trace) (Commit m) (item.Placed (st.start m) (st.commit m)) points there (inl refl)

  -- ---- in order
  module _ (points : List Point) (order : InOrder st trace points) where
    pub before_below : (front rest : List Point) (x y : Point) → points ≡ front ++ x ∷ rest → y ∈ front → stamp_of st y < stamp_of st x
    before_below front rest x y same there =
        at_seam (λ (before : List Point) (z : Point). (w : Point) → w ∈ before → stamp_of st w < stamp_of st z) front x rest
        (subst (λ (l : List Point). AtEach (λ (before : List Point) (z : Point). (w : Point) → w ∈ before → stamp_of st w < stamp_of st z) l) same order.rises) y there

    pub behind_above : (front rest : List Point) (x y : Point) → points ≡ front ++ x ∷ rest → y ∈ rest → stamp_of st x < stamp_of st y
    behind_above front rest x y same there =
        let s = split_at y rest there in
        before_below (front ++ x ∷ s.0) s.1 y x
        (same ∙ ap (λ (l : List Point). front ++ x ∷ l) s.2 ∙ sym (append_assoc front (x ∷ s.0) (y ∷ s.1)))
        (in_back x front (x ∷ s.0) (first_in x s.0))
