-- What each step of a walk keeps of its path.
use Rattle.std.proofs.Common.{◌≡◌, ◌≢◌, ℕ, ◌+◌, ◌<◌, ◌≤◌, ◌⊎◌, List, [], ◌∷◌, ◌++◌, Some, length, slice_get, get_or, set, inl, inr, sym, ap, ◌∙◌, arith}
use Rattle.std.proofs.lemmas.List.{get_or-set_other, get_or_push, length_push}
use Rattle.std.proofs.Math.ListN.{get_or-append}
use Rattle.rising_numbers.specs.declared.Edge.{Edge}
use Rattle.rising_numbers.specs.Walks.{OnPath}
use Rattle.rising_numbers.proofs.WalkLemmas.{written}

-- a place of a list with one more is an earlier one, or the last
pub front_or_last : (front : List ℕ) (node i : ℕ) → i < length (front ++ node ∷ []) → ((i < length front) × (get_or (front ++ node ∷ []) i 0 ≡ get_or front i 0)) ⊎ ((i ≡ length front) × (get_or (front ++ node ∷ []) i 0 ≡ node))
front_or_last front node i in_list = elim (split i (length front) (let l = length_push front node in omega (arith, l, in_list))) [
  | inl low ↦ inl (low, get_or-append front (node ∷ []) 0 i low)
  | inr last ↦ inr (last, get_or_push front node 0 i (sym last))
]
  where
    split : (a b : ℕ) → a < b + 1 → (a < b) ⊎ (a ≡ b)
    split a b less = grind arith

-- ---- an edge is passed: the last node has less ahead, and still something
module _ (edges : List Edge) (heads ahead front : List ℕ) (node y : ℕ)
    (on : OnPath edges heads ahead (front ++ node ∷ [])) (within : node < length ahead)
    (positive : 0 < y) (low : y ≤ get_or heads node 0 + 1) where
  -- only the last place has the last node
  at_last : (i : ℕ) → i + 1 < length (front ++ node ∷ []) → get_or (front ++ node ∷ []) i 0 ≢ node
  at_last i in_list same =
      let l = length_push front node in
      let last : get_or (front ++ node ∷ []) (length front) 0 ≡ node = get_or_push front node 0 (length front) (cc) in
      let one = on.once i (length front) (omega (arith, in_list)) (omega (arith, l)) (same ∙ sym last) in
      absurd (omega (arith, l, one, in_list))

  same_before : (i : ℕ) → i + 1 < length (front ++ node ∷ []) → get_or (set ahead node y) (get_or (front ++ node ∷ []) i 0) 0 ≡ get_or ahead (get_or (front ++ node ∷ []) i 0) 0
  same_before i in_list = get_or-set_other ahead node (get_or (front ++ node ∷ []) i 0) y 0 (at_last i in_list)

  less_begun : (i : ℕ) → i < length (front ++ node ∷ []) → 0 < get_or (set ahead node y) (get_or (front ++ node ∷ []) i 0) 0
  less_begun i in_list = elim (written ahead node y (get_or (front ++ node ∷ []) i 0) within) [
    | inl here ↦ let r = here.reads in omega (arith, r, positive)
    | inr else ↦ let r = else.reads in let b = on.begun i in_list in omega (arith, r, b)
  ]

  less_open : (i : ℕ) → i < length (front ++ node ∷ []) → get_or (set ahead node y) (get_or (front ++ node ∷ []) i 0) 0 ≤ get_or heads (get_or (front ++ node ∷ []) i 0) 0 + 1
  less_open i in_list = elim (written ahead node y (get_or (front ++ node ∷ []) i 0) within) [
    | inl here ↦ let r = here.reads in let s : get_or heads (get_or (front ++ node ∷ []) i 0) 0 ≡ get_or heads node 0 = ap (λ (n : ℕ). get_or heads n 0) here.same in omega (arith, r, s, low)
    | inr else ↦ let r = else.reads in let b = on.open_to i in_list in omega (arith, r, b)
  ]

  less_found : (v : ℕ) → 0 < get_or (set ahead node y) v 0 → get_or (set ahead node y) v 0 ≤ get_or heads v 0 + 1 → (i : ℕ) × (i < length (front ++ node ∷ [])) × (get_or (front ++ node ∷ []) i 0 ≡ v)
  less_found v some at_most = elim (written ahead node y v within) [
    | inl here ↦ (length front, let l = length_push front node in omega (arith, l), get_or_push front node 0 (length front) (cc) ∙ sym here.same)
    | inr else ↦ on.found v (let r = else.reads in omega (arith, r, some)) (let r = else.reads in omega (arith, r, at_most))
  ]

  pub less_keeps : OnPath edges heads (set ahead node y) (front ++ node ∷ [])
  less_keeps = record {
    begun = less_begun;
    open_to = less_open;
    once = on.once;
    waits = λ i in_list. let s = same_before i in_list in let b = on.waits i in_list in omega (arith, s, b);
    steps = λ i place edge in_list is at. on.steps i place edge in_list is (sym (same_before i in_list) ∙ at);
    found = less_found;
  }

-- ---- the last node gets its number, and leaves the path
module _ (edges : List Edge) (heads ahead front : List ℕ) (node : ℕ)
    (on : OnPath edges heads ahead (front ++ node ∷ [])) (within : node < length ahead) where
  up : (i : ℕ) → i < length front → get_or (front ++ node ∷ []) i 0 ≡ get_or front i 0
  up i low = get_or-append front (node ∷ []) 0 i low

  longer : (i : ℕ) → i < length front → i < length (front ++ node ∷ [])
  longer i low = let l = length_push front node in omega (arith, l, low)

  not_node : (i : ℕ) → i < length front → get_or front i 0 ≢ node
  not_node i low same =
      let l = length_push front node in
      let last : get_or (front ++ node ∷ []) (length front) 0 ≡ node = get_or_push front node 0 (length front) (cc) in
      let one = on.once i (length front) (longer i low) (omega (arith, l)) (up i low ∙ same ∙ sym last) in
      absurd (omega (arith, one, low))

  kept : (i : ℕ) → i < length front → get_or (set ahead node 0) (get_or front i 0) 0 ≡ get_or ahead (get_or (front ++ node ∷ []) i 0) 0
  kept i low = get_or-set_other ahead node (get_or front i 0) 0 0 (not_node i low) ∙ ap (λ (n : ℕ). get_or ahead n 0) (sym (up i low))

  left_found : (v : ℕ) → 0 < get_or (set ahead node 0) v 0 → get_or (set ahead node 0) v 0 ≤ get_or heads v 0 + 1 → (i : ℕ) × (i < length front) × (get_or front i 0 ≡ v)
  left_found v some at_most = elim (written ahead node 0 v within) [
    | inl here ↦ absurd (let r = here.reads in omega (arith, r, some))
    | inr else ↦ still (on.found v (let r = else.reads in omega (arith, r, some)) (let r = else.reads in omega (arith, r, at_most))) else.other
  ]
    where
      still : ((i : ℕ) × (i < length (front ++ node ∷ [])) × (get_or (front ++ node ∷ []) i 0 ≡ v)) → v ≢ node → (i : ℕ) × (i < length front) × (get_or front i 0 ≡ v)
      still f other = elim (front_or_last front node f.0 f.1) [
        | inl low ↦ (f.0, low.0, sym low.1 ∙ f.2)
        | inr last ↦ absurd (other (sym f.2 ∙ last.1))
      ]

  pub leave_keeps : OnPath edges heads (set ahead node 0) front
  leave_keeps = record {
    begun = λ i low. let k = kept i low in let b = on.begun i (longer i low) in omega (arith, k, b);
    open_to = λ i low. let k = kept i low in let b = on.open_to i (longer i low) in let h : get_or heads (get_or (front ++ node ∷ []) i 0) 0 ≡ get_or heads (get_or front i 0) 0 = ap (λ (n : ℕ). get_or heads n 0) (up i low) in omega (arith, k, b, h);
    once = λ i j low_i low_j same. on.once i j (longer i low_i) (longer j low_j) (up i low_i ∙ same ∙ sym (up j low_j));
    waits = λ i low. let k = kept i (omega (arith, low)) in let b = on.waits i (longer (i + 1) low) in omega (arith, k, b);
    steps = λ i place edge low is at. on.steps i place edge (longer (i + 1) low) is (sym (kept i (omega (arith, low))) ∙ at) ∙ up (i + 1) low;
    found = left_found;
  }

-- ---- the walk comes to a node, from which the last one's next edge comes
module _ (edges : List Edge) (heads ahead front : List ℕ) (node : ℕ)
    (on : OnPath edges heads ahead front) (within : node < length ahead) (fresh : get_or heads node 0 + 1 < get_or ahead node 0)
    (waiting : (i : ℕ) → i + 1 ≡ length front → 2 ≤ get_or ahead (get_or front i 0) 0)
    (from_node : (i place : ℕ) (edge : Edge) → i + 1 ≡ length front → slice_get edges place ≡ Some edge → get_or ahead (get_or front i 0) 0 ≡ place + 2 → edge.from ≡ node) where
  new_node : (i : ℕ) → i < length front → get_or front i 0 ≢ node
  new_node i low same =
      let b = on.open_to i low in
      let a : get_or ahead (get_or front i 0) 0 ≡ get_or ahead node 0 = ap (λ (n : ℕ). get_or ahead n 0) same in
      let h : get_or heads (get_or front i 0) 0 ≡ get_or heads node 0 = ap (λ (n : ℕ). get_or heads n 0) same in
      absurd (omega (arith, a, b, h, fresh))

  stays : (i : ℕ) → i < length front → get_or (set ahead node (get_or heads node 0 + 1)) (get_or front i 0) 0 ≡ get_or ahead (get_or front i 0) 0
  stays i low = get_or-set_other ahead node (get_or front i 0) (get_or heads node 0 + 1) 0 (new_node i low)

  more_begun : (i : ℕ) → i < length (front ++ node ∷ []) → 0 < get_or (set ahead node (get_or heads node 0 + 1)) (get_or (front ++ node ∷ []) i 0) 0
  more_begun i in_list = elim (written ahead node (get_or heads node 0 + 1) (get_or (front ++ node ∷ []) i 0) within) [
    | inl here ↦ let r = here.reads in omega (arith, r)
    | inr else ↦ before else.other else.reads (front_or_last front node i in_list)
  ]
    where
      before : get_or (front ++ node ∷ []) i 0 ≢ node → get_or (set ahead node (get_or heads node 0 + 1)) (get_or (front ++ node ∷ []) i 0) 0 ≡ get_or ahead (get_or (front ++ node ∷ []) i 0) 0 →
          ((i < length front) × (get_or (front ++ node ∷ []) i 0 ≡ get_or front i 0)) ⊎ ((i ≡ length front) × (get_or (front ++ node ∷ []) i 0 ≡ node)) → 0 < get_or (set ahead node (get_or heads node 0 + 1)) (get_or (front ++ node ∷ []) i 0) 0
      before other r (inl low) = let b = on.begun i low.0 in let s : get_or ahead (get_or (front ++ node ∷ []) i 0) 0 ≡ get_or ahead (get_or front i 0) 0 = ap (λ (n : ℕ). get_or ahead n 0) low.1 in omega (arith, r, s, b)
      before other r (inr last) = absurd (other last.1)

  more_open : (i : ℕ) → i < length (front ++ node ∷ []) → get_or (set ahead node (get_or heads node 0 + 1)) (get_or (front ++ node ∷ []) i 0) 0 ≤ get_or heads (get_or (front ++ node ∷ []) i 0) 0 + 1
  more_open i in_list = elim (written ahead node (get_or heads node 0 + 1) (get_or (front ++ node ∷ []) i 0) within) [
    | inl here ↦ let r = here.reads in let h : get_or heads (get_or (front ++ node ∷ []) i 0) 0 ≡ get_or heads node 0 = ap (λ (n : ℕ). get_or heads n 0) here.same in omega (arith, r, h)
    | inr else ↦ before else.other else.reads (front_or_last front node i in_list)
  ]
    where
      before : get_or (front ++ node ∷ []) i 0 ≢ node → get_or (set ahead node (get_or heads node 0 + 1)) (get_or (front ++ node ∷ []) i 0) 0 ≡ get_or ahead (get_or (front ++ node ∷ []) i 0) 0 →
          ((i < length front) × (get_or (front ++ node ∷ []) i 0 ≡ get_or front i 0)) ⊎ ((i ≡ length front) × (get_or (front ++ node ∷ []) i 0 ≡ node)) → get_or (set ahead node (get_or heads node 0 + 1)) (get_or (front ++ node ∷ []) i 0) 0 ≤ get_or heads (get_or (front ++ node ∷ []) i 0) 0 + 1
      before other r (inl low) =
          let b = on.open_to i low.0 in
          let s : get_or ahead (get_or (front ++ node ∷ []) i 0) 0 ≡ get_or ahead (get_or front i 0) 0 = ap (λ (n : ℕ). get_or ahead n 0) low.1 in
          let h : get_or heads (get_or (front ++ node ∷ []) i 0) 0 ≡ get_or heads (get_or front i 0) 0 = ap (λ (n : ℕ). get_or heads n 0) low.1 in
          omega (arith, r, s, b, h)
      before other r (inr last) = absurd (other last.1)

  more_once : (i j : ℕ) → i < length (front ++ node ∷ []) → j < length (front ++ node ∷ []) → get_or (front ++ node ∷ []) i 0 ≡ get_or (front ++ node ∷ []) j 0 → i ≡ j
  more_once i j in_i in_j same = cases (front_or_last front node i in_i) (front_or_last front node j in_j)
    where
      cases : ((i < length front) × (get_or (front ++ node ∷ []) i 0 ≡ get_or front i 0)) ⊎ ((i ≡ length front) × (get_or (front ++ node ∷ []) i 0 ≡ node)) →
          ((j < length front) × (get_or (front ++ node ∷ []) j 0 ≡ get_or front j 0)) ⊎ ((j ≡ length front) × (get_or (front ++ node ∷ []) j 0 ≡ node)) → i ≡ j
      cases (inl a) (inl b) = on.once i j a.0 b.0 (sym a.1 ∙ same ∙ b.1)
      cases (inl a) (inr b) = absurd (new_node i a.0 (sym a.1 ∙ same ∙ b.1))
      cases (inr a) (inl b) = absurd (new_node j b.0 (sym b.1 ∙ sym same ∙ a.1))
      cases (inr a) (inr b) = a.0 ∙ sym b.0

  under : (i : ℕ) → i + 1 < length (front ++ node ∷ []) → i < length front
  under i in_list = let l = length_push front node in omega (arith, l, in_list)

  read_before : (i : ℕ) → i + 1 < length (front ++ node ∷ []) → get_or (set ahead node (get_or heads node 0 + 1)) (get_or (front ++ node ∷ []) i 0) 0 ≡ get_or ahead (get_or front i 0) 0
  read_before i in_list = ap (λ (n : ℕ). get_or (set ahead node (get_or heads node 0 + 1)) n 0) (get_or-append front (node ∷ []) 0 i (under i in_list)) ∙ stays i (under i in_list)

  more_waits : (i : ℕ) → i + 1 < length (front ++ node ∷ []) → 2 ≤ get_or (set ahead node (get_or heads node 0 + 1)) (get_or (front ++ node ∷ []) i 0) 0
  more_waits i in_list = elim (front_or_last front node (i + 1) in_list) [
    | inl low ↦ let r = read_before i in_list in let b = on.waits i low.0 in omega (arith, r, b)
    | inr last ↦ let r = read_before i in_list in let b = waiting i last.0 in omega (arith, r, b)
  ]

  more_steps : (i place : ℕ) (edge : Edge) → i + 1 < length (front ++ node ∷ []) → slice_get edges place ≡ Some edge → get_or (set ahead node (get_or heads node 0 + 1)) (get_or (front ++ node ∷ []) i 0) 0 ≡ place + 2 → edge.from ≡ get_or (front ++ node ∷ []) (i + 1) 0
  more_steps i place edge in_list is at = elim (front_or_last front node (i + 1) in_list) [
    | inl low ↦ on.steps i place edge low.0 is (sym (read_before i in_list) ∙ at) ∙ sym low.1
    | inr last ↦ from_node i place edge last.0 is (sym (read_before i in_list) ∙ at) ∙ sym last.1
  ]

  more_found : (v : ℕ) → 0 < get_or (set ahead node (get_or heads node 0 + 1)) v 0 → get_or (set ahead node (get_or heads node 0 + 1)) v 0 ≤ get_or heads v 0 + 1 → (i : ℕ) × (i < length (front ++ node ∷ [])) × (get_or (front ++ node ∷ []) i 0 ≡ v)
  more_found v some at_most = elim (written ahead node (get_or heads node 0 + 1) v within) [
    | inl here ↦ (length front, let l = length_push front node in omega (arith, l), get_or_push front node 0 (length front) (cc) ∙ sym here.same)
    | inr else ↦ further (on.found v (let r = else.reads in omega (arith, r, some)) (let r = else.reads in omega (arith, r, at_most)))
  ]
    where
      further : ((i : ℕ) × (i < length front) × (get_or front i 0 ≡ v)) → (i : ℕ) × (i < length (front ++ node ∷ [])) × (get_or (front ++ node ∷ []) i 0 ≡ v)
      further f = (f.0, let l = length_push front node in let low = f.1 in omega (arith, l, low), get_or-append front (node ∷ []) 0 f.0 f.1 ∙ f.2)

  pub come_on : OnPath edges heads (set ahead node (get_or heads node 0 + 1)) (front ++ node ∷ [])
  come_on = record { begun = more_begun; open_to = more_open; once = more_once; waits = more_waits; steps = more_steps; found = more_found }
