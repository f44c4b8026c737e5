-- Stamps that rise between neighbours rise along each whole list, and so isolate. For crates that check stamps.
use Rattle.std.proofs.Common.{◌≡◌, ◌≢◌, ℕ, zero, suc, ◌<◌, ◌≤◌, ◌⊎◌, List, [], ◌∷◌, Option, None, Some, slice_get, inl, inr, refl, sym, subst, arith}
use Rattle.std.proofs.lemmas.Bool.{cases_eq}
use Rattle.std.proofs.lemmas.Option.{same_Some}
use Rattle.trace_rules.specs.declared.trace.Version.{Version}
use Rattle.trace_rules.specs.Trace.{Trace, Writer, ReadAt, OuterRead}
use Rattle.trace_rules.specs.declared.wanted.Level.TheVariants.{Snapshot}
use Rattle.trace_rules.specs.Stamping.{Stamping, Numbered, RightAnswer, IsolatedBy}
use Rattle.trace_rules.specs.Rising.{Sourced, Listed, Rising}

-- what stands before a place that is there
place_before : (xs : List ℕ) (q u : ℕ) → slice_get xs (suc q) ≡ Some u → (x : ℕ) × (slice_get xs q ≡ Some x)
place_before [] q u e = absurd (cc)
place_before (x ∷ xs) zero u e = (x, refl)
place_before (x ∷ xs) (suc q) u e = place_before xs q u e

first_place : (xs : List ℕ) (q u : ℕ) → slice_get xs q ≡ Some u → (x : ℕ) × (slice_get xs 0 ≡ Some x)
first_place [] q u e = absurd (cc)
first_place (x ∷ xs) q u e = (x, refl)

place_below : (xs : List ℕ) (p q u : ℕ) → p ≤ q → slice_get xs q ≡ Some u → (x : ℕ) × (slice_get xs p ≡ Some x)
place_below [] p q u less e = absurd (cc)
place_below (x ∷ xs) zero q u less e = (x, refl)
place_below (x ∷ xs) (suc p) zero u less e = absurd (omega (arith, less))
place_below (x ∷ xs) (suc p) (suc q) u less e = place_below xs p q u (omega (arith, less)) e

compare : (a b : ℕ) → (a < b) ⊎ ((a ≡ b) ⊎ (b < a))
compare a b = grind arith

module _ (st : Stamping) (trace : Trace) (orders : ℕ → List ℕ) (numbered : Numbered st trace) (sourced : Sourced trace) (listed : Listed trace orders) (rising : Rising st trace orders) where
  rises : (k p q t u : ℕ) → p < q → slice_get (orders k) p ≡ Some t → slice_get (orders k) q ≡ Some u → st.commit t < st.start u
  rises k p zero t u less at_p at_q = absurd (omega (arith, less))
  rises k p (suc q) t u less at_p at_q =
      let before = place_before (orders k) q u at_q in
      elim (compare p q) [
        | inl deeper ↦
            let low : st.commit t < st.start before.0 = rises k p q t before.0 deeper at_p before.1 in
            let own : st.start before.0 < st.commit before.0 = numbered.ordered before.0 (listed.wrote q before.0 k before.1).1.done in
            let high : st.commit before.0 < st.start u = rising.next q before.0 u k before.1 at_q in
            omega (arith, low, own, high)
        | inr rest ↦ elim rest [
          | inl same ↦ rising.next p t u k at_p (subst (λ (n : ℕ). slice_get (orders k) (suc n) ≡ Some u) (sym same) at_q)
          | inr over ↦ absurd (omega (arith, less, over))
        ]
      ]

  no_later : (p q k t u : ℕ) → p ≤ q → slice_get (orders k) p ≡ Some t → slice_get (orders k) q ≡ Some u → st.commit t ≤ st.commit u
  no_later p q k t u most at_p at_q = elim (compare p q) [
    | inl less ↦
        let low : st.commit t < st.start u = rises k p q t u less at_p at_q in
        let own : st.start u < st.commit u = numbered.ordered u (listed.wrote q u k at_q).1.done in
        omega (arith, low, own)
    | inr rest ↦ elim rest [
      | inl same ↦ let one : t ≡ u = same_Some _ _ (same_at same) in subst (λ (n : ℕ). st.commit t ≤ st.commit n) one (omega arith)
      | inr over ↦ absurd (omega (arith, most, over))
    ]
  ]
    where
      same_at : p ≡ q → Some t ≡ Some u
      same_at same = cc

  two_apart : (t u k v w : ℕ) → t ≢ u → Writer trace t k v → Writer trace u k w → (st.commit t < st.start u) ⊎ (st.commit u < st.start t)
  two_apart t u k v w other one two =
      let at_t = listed.all t k v one in
      let at_u = listed.all u k w two in
      elim (compare at_t.0 at_u.0) [
        | inl less ↦ inl (rises k at_t.0 at_u.0 t u less at_t.1 at_u.1)
        | inr rest ↦ elim rest [
          | inl same ↦ absurd (other (same_Some _ _ (same_at at_t.0 at_u.0 k t u same at_t.1 at_u.1)))
          | inr more ↦ inr (rises k at_u.0 at_t.0 u t more at_u.1 at_t.1)
        ]
      ]
    where
      same_at : (p q k t u : ℕ) → p ≡ q → slice_get (orders k) p ≡ Some t → slice_get (orders k) q ≡ Some u → Some t ≡ Some u
      same_at p q k t u same a b = cc

  -- no version above the one that was read is visible
  newest : (t k : ℕ) (found : Version) → OuterRead trace t k (Some found) → (u value : ℕ) → Writer trace u k value → st.commit u < st.start t → st.commit u ≤ st.commit found.from
  newest t k found r u value w low =
      let source = sourced.outer t k found r in
      let at_f = listed.all found.from k found.value source in
      let at_u = listed.all u k value w in
      elim (compare at_f.0 at_u.0) [
        | inr rest ↦ elim rest [
          | inl same ↦ let one : found.from ≡ u = same_Some _ _ (same_at at_f.0 at_u.0 k found.from u same at_f.1 at_u.1) in at_most u found.from (sym one)
          | inr more ↦
              let down : st.commit u < st.start found.from = rises k at_u.0 at_f.0 u found.from more at_u.1 at_f.1 in
              let own : st.start found.from < st.commit found.from = numbered.ordered found.from source.done in
              omega (arith, down, own)
        ]
        | inl less ↦ absurd (missed at_f.0 at_u.0 less at_f.1 at_u.1)
      ]
    where
      same_at : (p q k t u : ℕ) → p ≡ q → slice_get (orders k) p ≡ Some t → slice_get (orders k) q ≡ Some u → Some t ≡ Some u
      same_at p q k t u same a b = cc

      at_most : (a b : ℕ) → a ≡ b → st.commit a ≤ st.commit b
      at_most a b same = subst (λ (n : ℕ). st.commit a ≤ st.commit n) same (omega arith)

      -- the version after the one that was read is there, and not visible
      after : (p q : ℕ) → p < q → slice_get (orders k) p ≡ Some found.from → slice_get (orders k) q ≡ Some u → (n : ℕ) × (slice_get (orders k) (suc p) ≡ Some n)
      after p q less at_p at_q = place_below (orders k) (suc p) q u (omega (arith, less)) at_q

      hidden : (p n : ℕ) → slice_get (orders k) p ≡ Some found.from → slice_get (orders k) (suc p) ≡ Some n → st.start t < st.commit n
      hidden p n at_p at_n = elim (cases_eq n t) [
        | inl same ↦ subst (λ (m : ℕ). st.start t < st.commit m) (sym same) (numbered.ordered t r.read.done)
        | inr other ↦ rising.missed p t n k found r at_p at_n other
      ]

      missed : (p q : ℕ) → p < q → slice_get (orders k) p ≡ Some found.from → slice_get (orders k) q ≡ Some u → ⊥
      missed p q less at_p at_q =
          let n = after p q less at_p at_q in
          let high : st.start t < st.commit n.0 = hidden p n.0 at_p n.1 in
          let most : st.commit n.0 ≤ st.commit u = no_later (suc p) q k n.0 u (omega (arith, less)) n.1 at_q in
          omega (arith, high, most, low)

  no_version : (t k : ℕ) → OuterRead trace t k None → (u value : ℕ) → Writer trace u k value → st.commit u < st.start t → ⊥
  no_version t k r u value w low =
      let at_u = listed.all u k value w in
      let n = first_place (orders k) at_u.0 u at_u.1 in
      let high : st.start t < st.commit n.0 = hidden n.0 n.1 in
      let most : st.commit n.0 ≤ st.commit u = no_later 0 at_u.0 k n.0 u (omega arith) n.1 at_u.1 in
      omega (arith, high, most, low)
    where
      hidden : (n : ℕ) → slice_get (orders k) 0 ≡ Some n → st.start t < st.commit n
      hidden n at_n = elim (cases_eq n t) [
        | inl same ↦ subst (λ (m : ℕ). st.start t < st.commit m) (sym same) (numbered.ordered t r.read.done)
        | inr other ↦ rising.missed_first t n k r at_n other
      ]

  right : (place t k : ℕ) (answer : Option Version) (own : Option ℕ) → ReadAt trace place t k answer own → RightAnswer st trace t k answer own
  right place t k answer (Some own) r = sourced.own place t k own answer r
  right place t k None None r = no_version t k (record { place = place; read = r })
  right place t k (Some found) None r =
      let outer : OuterRead trace t k (Some found) = record { place = place; read = r } in
      record { writer = sourced.outer t k found outer; below = rising.read t k found outer; greatest = newest t k found outer }

  stamps_isolate : IsolatedBy Snapshot st trace
  stamps_isolate = record {
    numbered = numbered;
    apart = λ t u other share. two_apart t u share.key share.value share.other other share.first share.second;
    reads = right;
  }

pub isolates : (st : Stamping) (trace : Trace) (orders : ℕ → List ℕ) → Numbered st trace → Sourced trace → Listed trace orders → Rising st trace orders → IsolatedBy Snapshot st trace
isolates st trace orders numbered sourced listed rising = stamps_isolate st trace orders numbered sourced listed rising
