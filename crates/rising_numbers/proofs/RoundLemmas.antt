-- The way round a cycle, and where a walk ends.
use Rattle.std.proofs.Common.{◌≡◌, ◌≢◌, ℕ, ◌+◌, ◌<◌, ◌≤◌, ◌⊎◌, ◌↔◌, Bool, false, List, [], ◌∷◌, ◌++◌, Some, length, replicate, slice_get, get_or, inl, inr, refl, sym, subst, ap, ◌∙◌, arith, IsTrue}
use Rattle.std.proofs.lemmas.List.{get_or_past, get_or_push, length-replicate}
use Rattle.std.proofs.Math.ListN.{get_or-append}
use Rattle.std.proofs.lemmas.Option.{slice_get_within, slice_get-get_or}
use Rattle.rising_numbers.specs.declared.Edge.{Edge}
use Rattle.rising_numbers.specs.declared.chains.Chains.{Chains}
use Rattle.rising_numbers.specs.declared.walk.Walk.{Walk}
use Rattle.rising_numbers.specs.Rises.{AreWithin, Leads, Rises}
use Rattle.rising_numbers.specs.Walks.{Chained, Walked, Meets}
use Rattle.rising_numbers.proofs.ChainLemmas.{all_zero}
use Rattle.rising_numbers.proofs.WalkLemmas.{begins}
use Rattle.rising_numbers.proofs.TurnLemmas.{low_or_high, in_list}

pub leads_push : (edges : List Edge) (x : ℕ) (ps : List ℕ) (y p : ℕ) (e : Edge) → Leads edges x ps y → slice_get edges p ≡ Some e → e.from ≡ y → Leads edges x (ps ++ p ∷ []) e.to
unfolding Leads
leads_push edges x [] y p e l at from = (e, at, from ∙ sym l, refl)
leads_push edges x (q ∷ ps) y p e l at from = (l.0, l.1, l.2, leads_push edges l.0.to ps y p e l.3 at from)

pub leads_none : (edges : List Edge) (x y : ℕ) → x ≡ y → Leads edges x [] y
unfolding Leads
leads_none edges x y same = same

last_or_not : (a b : ℕ) → a ≤ b → (a < b) ⊎ (a ≡ b)
last_or_not a b most = grind arith

module _ (edges : List Edge) (heads nexts : List ℕ) (walk : Walk) (met : ℕ)
    (chained : Chained edges heads nexts (length edges)) (m : Meets edges heads walk met) where
  pub round_begun : (i node : ℕ) → i < length walk.path.items → node ≡ get_or walk.path.items i 0 → node < length walk.ahead.items
  round_begun i node low is = in_list walk.ahead.items node (subst (λ (n : ℕ). 0 < get_or walk.ahead.items n 0) (sym is) (m.walked.on_path.begun i low))

  pub round_two : (i node : ℕ) → i < length walk.path.items → node ≡ get_or walk.path.items i 0 → 2 ≤ get_or walk.ahead.items node 0
  round_two i node low is = subst (λ (n : ℕ). 2 ≤ get_or walk.ahead.items n 0) (sym is) (elim (last_or_not (i + 1) (length walk.path.items) (omega (arith, low))) [
    | inl inner ↦ m.walked.on_path.waits i inner
    | inr last ↦ m.next.waits i last
  ])

  round_from : (i place : ℕ) (e : Edge) → i < length walk.path.items → slice_get edges place ≡ Some e → get_or walk.ahead.items (get_or walk.path.items i 0) 0 ≡ place + 2 → e.from ≡ get_or (walk.path.items ++ met ∷ []) (i + 1) 0
  round_from i place e low at ahead = elim (last_or_not (i + 1) (length walk.path.items) (omega (arith, low))) [
    | inl inner ↦ m.walked.on_path.steps i place e inner at ahead ∙ sym (get_or-append walk.path.items (met ∷ []) 0 (i + 1) inner)
    | inr last ↦ m.next.from_node i place e last at ahead ∙ sym (get_or_push walk.path.items met 0 (i + 1) (sym last))
  ]

  round_low : (i node place : ℕ) → i < length walk.path.items → node ≡ get_or walk.path.items i 0 → get_or walk.ahead.items node 0 ≡ place + 2 → place < get_or heads node 0
  round_low i node place low is ahead =
      let o : get_or walk.ahead.items node 0 ≤ get_or heads node 0 + 1 = subst (λ (n : ℕ). get_or walk.ahead.items n 0 ≤ get_or heads n 0 + 1) (sym is) (m.walked.on_path.open_to i low) in
      omega (arith, o, ahead)

  round_edge : (node place : ℕ) → place < get_or heads node 0 → (e : Edge) × (slice_get edges place ≡ Some e)
  round_edge node place under = (get_or edges place (record { from = 0; to = 0 }), slice_get-get_or edges place (record { from = 0; to = 0 }) (let h = chained.head_low node in omega (arith, h, under)))

  pub round_step : (i node place at : ℕ) (places : List ℕ) → i < length walk.path.items → node ≡ get_or walk.path.items i 0 → get_or walk.ahead.items node 0 ≡ place + 2 → at ≡ i + 1 →
      Leads edges met places (get_or (walk.path.items ++ met ∷ []) at 0) → Leads edges met (places ++ place ∷ []) node
  round_step i node place at places low is ahead here leads =
      let under = round_low i node place low is ahead in
      let e = round_edge node place under in
      let to : e.0.to ≡ node = m.walked.numbered.leads node place e.0 ahead under e.1 in
      let from : e.0.from ≡ get_or (walk.path.items ++ met ∷ []) (i + 1) 0 = round_from i place e.0 low e.1 (ap (λ (n : ℕ). get_or walk.ahead.items n 0) (sym is) ∙ ahead) in
      subst (λ (n : ℕ). Leads edges met (places ++ place ∷ []) n) to (leads_push edges met places (get_or (walk.path.items ++ met ∷ []) at 0) place e.0 leads e.1 (from ∙ ap (λ (n : ℕ). get_or (walk.path.items ++ met ∷ []) n 0) (sym here)))

  pub round_found : ((j : ℕ) → j < length walk.path.items → get_or walk.path.items j 0 ≢ met) → ⊥
  round_found missed = let f = m.walked.on_path.found met m.begun m.open_to in missed f.0 f.1 f.2

pub not_new : (b : Bool) (h a : ℕ) → IsTrue b ↔ (h + 1 < a) → b ≡ false → a ≤ h + 1
not_new b h a iff is = elim (low_or_high (h + 1) a) [
  | inl less ↦ absurd (let t = iff.1 less in cc)
  | inr most ↦ most
]

pub some_pushed : (xs : List ℕ) (x : ℕ) → xs ++ x ∷ [] ≢ []
some_pushed [] x same = cc
some_pushed (y ∷ xs) x same = cc

-- a node that the walk came to has its number once the path is empty
pub root_done : (edges : List Edge) (heads : List ℕ) (walk : Walk) (root : ℕ) → Walked edges heads walk → walk.path.items ≡ [] → get_or walk.ahead.items root 0 ≤ get_or heads root 0 + 1 → get_or walk.ahead.items root 0 ≡ 0
root_done edges heads walk root w empty most = elim (low_or_high 0 (get_or walk.ahead.items root 0)) [
  | inl some ↦ absurd (let f = w.on_path.found root some most in let low = f.1 in let l : length walk.path.items ≡ 0 = ap (λ (p : List ℕ). length p) empty in omega (arith, low, l))
  | inr none ↦ omega (arith, none)
]

pub starts : (edges : List Edge) (chains : Chains) (walk : Walk) (nodes : ℕ) → Chained edges chains.heads.items chains.nexts.items (length edges) → AreWithin nodes edges →
    length walk.ahead.items ≡ nodes → ((v : ℕ) → v < nodes → get_or walk.ahead.items v 0 ≡ get_or chains.heads.items v 0 + 2) → walk.numbers.items ≡ replicate nodes 0 → walk.path.items ≡ [] → walk.sequence.items ≡ [] →
    Walked edges chains.heads.items walk
starts edges chains walk nodes chained within many high zeros empty none = record {
  numbered = rw none (begins edges chains.heads.items chains.nexts.items walk.ahead.items walk.numbers.items chained
      (subst (λ (n : ℕ). AreWithin n edges) (sym many) within)
      (λ v low. high v (omega (arith, low, many)))
      (λ v over. get_or_past walk.ahead.items v 0 over)
      (λ v. ap (λ (xs : List ℕ). get_or xs v 0) zeros ∙ all_zero nodes v)
      (λ p e at. slice_get_within edges p e at));
  on_path = record {
    begun = λ i low. absurd (no_place i low);
    open_to = λ i low. absurd (no_place i low);
    once = λ i j low_i low_j same. absurd (no_place i low_i);
    waits = λ i low. absurd (no_place (i + 1) low);
    steps = λ i place edge low at ahead. absurd (no_place (i + 1) low);
    found = λ v some most. absurd (fresh v some most);
  };
  numbers = ap (λ (xs : List ℕ). length xs) zeros ∙ length-replicate nodes 0 ∙ sym many;
}
  where
    no_place : (i : ℕ) → i < length walk.path.items → ⊥
    no_place i low = let l : length walk.path.items ≡ 0 = ap (λ (p : List ℕ). length p) empty in absurd (omega (arith, low, l))

    fresh : (v : ℕ) → 0 < get_or walk.ahead.items v 0 → get_or walk.ahead.items v 0 ≤ get_or chains.heads.items v 0 + 1 → ⊥
    fresh v some most = let low = in_list walk.ahead.items v some in let h = high v (omega (arith, low, many)) in absurd (omega (arith, h, most))

-- once all have their numbers these rise
pub all_rise : (edges : List Edge) (heads : List ℕ) (walk : Walk) (nodes : ℕ) → AreWithin nodes edges → Walked edges heads walk → ((v : ℕ) → v < nodes → get_or walk.ahead.items v 0 ≡ 0) → Rises walk.numbers.items edges
all_rise edges heads walk nodes within w done = record { each = λ place edge at. w.numbered.rises place edge at (done edge.to (within.to place edge at)) }
