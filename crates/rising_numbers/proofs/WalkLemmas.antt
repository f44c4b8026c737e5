-- What each step of a walk keeps of the numbers.
use Rattle.std.proofs.Common.{◌≡◌, ◌≢◌, ℕ, ◌+◌, ◌<◌, ◌≤◌, ◌⊎◌, List, Some, length, slice_get, get_or, set, inl, inr, sym, ap, ◌∙◌, arith}
use Rattle.std.proofs.lemmas.List.{get_or-set_same, get_or-set_other}
use Rattle.std.proofs.lemmas.Bool.{cases_eq}
use Rattle.rising_numbers.specs.declared.Edge.{Edge}
use Rattle.rising_numbers.specs.Rises.{AreWithin}
use Rattle.rising_numbers.specs.Walks.{Chained, Numbered}

compare : (a b : ℕ) → (a < b) ⊎ ((a ≡ b) ⊎ (b < a))
compare a b = grind arith

-- what a write leaves at each place
pub record Here (xs : List ℕ) (i y j : ℕ) : Type 0 where
  pub same : j ≡ i
  pub reads : get_or (set xs i y) j 0 ≡ y
  pub read : get_or xs j 0 ≡ get_or xs i 0

pub record Else (xs : List ℕ) (i y j : ℕ) : Type 0 where
  pub other : j ≢ i
  pub reads : get_or (set xs i y) j 0 ≡ get_or xs j 0

pub written : (xs : List ℕ) (i y j : ℕ) → i < length xs → Here xs i y j ⊎ Else xs i y j
written xs i y j in_list = elim (cases_eq j i) [
  | inl same ↦ inl (record { same = same; reads = ap (λ (n : ℕ). get_or (set xs i y) n 0) same ∙ get_or-set_same xs i y 0 in_list; read = ap (λ (n : ℕ). get_or xs n 0) same })
  | inr other ↦ inr (record { other = other; reads = get_or-set_other xs i j y 0 other })
]

-- ---- an edge is passed, since its first end has a number
module _ (edges : List Edge) (heads nexts ahead numbers : List ℕ) (count node place : ℕ) (edge : Edge)
    (chained : Chained edges heads nexts (length edges)) (w : Numbered edges heads ahead numbers count)
    (within : node < length ahead) (is : slice_get edges place ≡ Some edge) (at : get_or ahead node 0 ≡ place + 2)
    (low : place < get_or heads node 0) (there : get_or ahead edge.from 0 ≡ 0) (inside : place < length edges) where
  to_node : edge.to ≡ node
  to_node = w.leads node place edge at low is

  keeps_zero : (v : ℕ) → get_or ahead v 0 ≡ 0 → get_or (set ahead node (get_or nexts place 0 + 1)) v 0 ≡ 0
  keeps_zero v zero = elim (written ahead node (get_or nexts place 0 + 1) v within) [
    | inl here ↦ absurd (let r = here.read in omega (arith, r, zero, at))
    | inr else ↦ else.reads ∙ zero
  ]

  same_edge : (p : ℕ) (e : Edge) → slice_get edges p ≡ Some e → p ≡ place → get_or ahead e.from 0 ≡ 0
  same_edge p e at_p one = let both : Some e ≡ Some edge = sym at_p ∙ ap (λ (n : ℕ). slice_get edges n) one ∙ is in cc

  behind : (p : ℕ) (e : Edge) → slice_get edges p ≡ Some e → e.to ≡ node → get_or ahead e.to 0 ≡ get_or ahead node 0 → get_or nexts place 0 ≤ p → get_or ahead e.from 0 ≡ 0
  behind p e at_p same read high = elim (compare p place) [
    | inl lower ↦ absurd (let b = chained.between p place e edge at_p is (same ∙ sym to_node) lower inside in omega (arith, b, high))
    | inr rest ↦ elim rest [
      | inl one ↦ same_edge p e at_p one
      | inr above ↦ w.passed p e at_p (omega (arith, read, at, above))
    ]
  ]

  pass_passed : (p : ℕ) (e : Edge) → slice_get edges p ≡ Some e → get_or (set ahead node (get_or nexts place 0 + 1)) e.to 0 ≤ p + 1 → get_or (set ahead node (get_or nexts place 0 + 1)) e.from 0 ≡ 0
  pass_passed p e at_p less = keeps_zero e.from (elim (written ahead node (get_or nexts place 0 + 1) e.to within) [
    | inl here ↦ behind p e at_p here.same here.read (let r = here.reads in omega (arith, r, less))
    | inr else ↦ w.passed p e at_p (let r = else.reads in omega (arith, r, less))
  ])

  pass_rises : (p : ℕ) (e : Edge) → slice_get edges p ≡ Some e → get_or (set ahead node (get_or nexts place 0 + 1)) e.to 0 ≡ 0 → get_or numbers e.from 0 < get_or numbers e.to 0
  pass_rises p e at_p zero = elim (written ahead node (get_or nexts place 0 + 1) e.to within) [
    | inl here ↦ absurd (let r = here.reads in omega (arith, r, zero))
    | inr else ↦ w.rises p e at_p (sym else.reads ∙ zero)
  ]

  next_there : (v q : ℕ) (e : Edge) → v ≡ node → get_or nexts place 0 ≡ q + 1 → slice_get edges q ≡ Some e → e.to ≡ v
  next_there v q e same next at_q = chained.next_leads q place e edge at_q is next ∙ to_node ∙ sym same

  pass_leads : (v q : ℕ) (e : Edge) → get_or (set ahead node (get_or nexts place 0 + 1)) v 0 ≡ q + 2 → q < get_or heads v 0 → slice_get edges q ≡ Some e → e.to ≡ v
  pass_leads v q e ahead_v under at_q = elim (written ahead node (get_or nexts place 0 + 1) v within) [
    | inl here ↦ next_there v q e here.same (let r = here.reads in omega (arith, r, ahead_v)) at_q
    | inr else ↦ w.leads v q e (sym else.reads ∙ ahead_v) under at_q
  ]

  pub pass_keeps : Numbered edges heads (set ahead node (get_or nexts place 0 + 1)) numbers count
  pass_keeps = record { below = w.below; passed = pass_passed; rises = pass_rises; leads = pass_leads }

-- ---- a node gets its number, once nothing is ahead of it
module _ (edges : List Edge) (heads ahead numbers : List ℕ) (count node : ℕ)
    (w : Numbered edges heads ahead numbers count) (within : node < length ahead) (has : node < length numbers) (at : get_or ahead node 0 ≡ 1) where
  number_below : (v : ℕ) → get_or (set numbers node (count + 1)) v 0 ≤ count + 1
  number_below v = elim (written numbers node (count + 1) v has) [
    | inl here ↦ let r = here.reads in omega (arith, r)
    | inr else ↦ let r = else.reads in let b = w.below v in omega (arith, r, b)
  ]

  still_zero : (v : ℕ) → get_or ahead v 0 ≡ 0 → get_or (set ahead node 0) v 0 ≡ 0
  still_zero v zero = elim (written ahead node 0 v within) [
    | inl here ↦ here.reads
    | inr else ↦ else.reads ∙ zero
  ]

  number_passed : (p : ℕ) (e : Edge) → slice_get edges p ≡ Some e → get_or (set ahead node 0) e.to 0 ≤ p + 1 → get_or (set ahead node 0) e.from 0 ≡ 0
  number_passed p e at_p less = still_zero e.from (elim (written ahead node 0 e.to within) [
    | inl here ↦ w.passed p e at_p (let r = here.read in omega (arith, r, at))
    | inr else ↦ w.passed p e at_p (let r = else.reads in omega (arith, r, less))
  ])

  apart : (v : ℕ) → get_or ahead v 0 ≡ 0 → v ≢ node
  apart v zero same = let r : get_or ahead v 0 ≡ get_or ahead node 0 = ap (λ (n : ℕ). get_or ahead n 0) same in absurd (omega (arith, r, zero, at))

  number_rises : (p : ℕ) (e : Edge) → slice_get edges p ≡ Some e → get_or (set ahead node 0) e.to 0 ≡ 0 → get_or (set numbers node (count + 1)) e.from 0 < get_or (set numbers node (count + 1)) e.to 0
  number_rises p e at_p zero = elim (written ahead node 0 e.to within) [
    | inl here ↦
        let from : get_or ahead e.from 0 ≡ 0 = w.passed p e at_p (let r = here.read in omega (arith, r, at)) in
        let kept : get_or (set numbers node (count + 1)) e.from 0 ≡ get_or numbers e.from 0 = get_or-set_other numbers node e.from (count + 1) 0 (apart e.from from) in
        let gained : get_or (set numbers node (count + 1)) e.to 0 ≡ count + 1 = ap (λ (n : ℕ). get_or (set numbers node (count + 1)) n 0) here.same ∙ get_or-set_same numbers node (count + 1) 0 has in
        let low = w.below e.from in
        omega (arith, kept, gained, low)
    | inr else ↦
        let to : get_or ahead e.to 0 ≡ 0 = sym else.reads ∙ zero in
        let from : get_or ahead e.from 0 ≡ 0 = w.passed p e at_p (omega (arith, to)) in
        let kept_from : get_or (set numbers node (count + 1)) e.from 0 ≡ get_or numbers e.from 0 = get_or-set_other numbers node e.from (count + 1) 0 (apart e.from from) in
        let kept_to : get_or (set numbers node (count + 1)) e.to 0 ≡ get_or numbers e.to 0 = get_or-set_other numbers node e.to (count + 1) 0 else.other in
        let less = w.rises p e at_p to in
        omega (arith, kept_from, kept_to, less)
  ]

  number_leads : (v q : ℕ) (e : Edge) → get_or (set ahead node 0) v 0 ≡ q + 2 → q < get_or heads v 0 → slice_get edges q ≡ Some e → e.to ≡ v
  number_leads v q e ahead_v under at_q = elim (written ahead node 0 v within) [
    | inl here ↦ absurd (let r = here.reads in omega (arith, r, ahead_v))
    | inr else ↦ w.leads v q e (sym else.reads ∙ ahead_v) under at_q
  ]

  pub number_keeps : Numbered edges heads (set ahead node 0) (set numbers node (count + 1)) (count + 1)
  number_keeps = record { below = number_below; passed = number_passed; rises = number_rises; leads = number_leads }

-- ---- the walk comes to a node
module _ (edges : List Edge) (heads nexts ahead numbers : List ℕ) (count node : ℕ)
    (chained : Chained edges heads nexts (length edges)) (w : Numbered edges heads ahead numbers count)
    (within : node < length ahead) (fresh : get_or heads node 0 + 1 < get_or ahead node 0) where
  lasting : (v : ℕ) → get_or ahead v 0 ≡ 0 → get_or (set ahead node (get_or heads node 0 + 1)) v 0 ≡ 0
  lasting v zero = elim (written ahead node (get_or heads node 0 + 1) v within) [
    | inl here ↦ absurd (let r = here.read in omega (arith, r, zero, fresh))
    | inr else ↦ else.reads ∙ zero
  ]

  come_passed : (p : ℕ) (e : Edge) → slice_get edges p ≡ Some e → p < length edges → get_or (set ahead node (get_or heads node 0 + 1)) e.to 0 ≤ p + 1 → get_or (set ahead node (get_or heads node 0 + 1)) e.from 0 ≡ 0
  come_passed p e at_p inside less = lasting e.from (elim (written ahead node (get_or heads node 0 + 1) e.to within) [
    | inl here ↦ absurd (let r = here.reads in let head = chained.head p e at_p inside in let s : get_or heads e.to 0 ≡ get_or heads node 0 = ap (λ (n : ℕ). get_or heads n 0) here.same in omega (arith, r, head, s, less))
    | inr else ↦ w.passed p e at_p (let r = else.reads in omega (arith, r, less))
  ])

  come_rises : (p : ℕ) (e : Edge) → slice_get edges p ≡ Some e → get_or (set ahead node (get_or heads node 0 + 1)) e.to 0 ≡ 0 → get_or numbers e.from 0 < get_or numbers e.to 0
  come_rises p e at_p zero = elim (written ahead node (get_or heads node 0 + 1) e.to within) [
    | inl here ↦ absurd (let r = here.reads in omega (arith, r, zero))
    | inr else ↦ w.rises p e at_p (sym else.reads ∙ zero)
  ]

  come_leads : (v q : ℕ) (e : Edge) → get_or (set ahead node (get_or heads node 0 + 1)) v 0 ≡ q + 2 → q < get_or heads v 0 → slice_get edges q ≡ Some e → e.to ≡ v
  come_leads v q e ahead_v under at_q = elim (written ahead node (get_or heads node 0 + 1) v within) [
    | inl here ↦ chained.head_leads node q e (let r = here.reads in omega (arith, r, ahead_v)) at_q ∙ sym here.same
    | inr else ↦ w.leads v q e (sym else.reads ∙ ahead_v) under at_q
  ]

  pub come_keeps : ((p : ℕ) (e : Edge) → slice_get edges p ≡ Some e → p < length edges) → Numbered edges heads (set ahead node (get_or heads node 0 + 1)) numbers count
  come_keeps inside = record { below = w.below; passed = λ p e at_p less. come_passed p e at_p (inside p e at_p) less; rises = come_rises; leads = come_leads }

-- ---- before the walk begins
module _ (edges : List Edge) (heads nexts ahead numbers : List ℕ)
    (chained : Chained edges heads nexts (length edges)) (within : AreWithin (length ahead) edges)
    (high : (v : ℕ) → v < length ahead → get_or ahead v 0 ≡ get_or heads v 0 + 2)
    (past : (v : ℕ) → length ahead ≤ v → get_or ahead v 0 ≡ 0) (zero : (v : ℕ) → get_or numbers v 0 ≡ 0)
    (inside : (p : ℕ) (e : Edge) → slice_get edges p ≡ Some e → p < length edges) where
  none_passed : (p : ℕ) (e : Edge) → slice_get edges p ≡ Some e → get_or ahead e.to 0 ≤ p + 1 → ⊥
  none_passed p e at_p less =
      let head = chained.head p e at_p (inside p e at_p) in
      let is = high e.to (within.to p e at_p) in
      absurd (omega (arith, head, is, less))

  none_leads : (v q : ℕ) (e : Edge) → get_or ahead v 0 ≡ q + 2 → q < get_or heads v 0 → ⊥
  none_leads v q e at under = elim (low_or_high v (length ahead)) [
    | inl low ↦ let is = high v low in absurd (omega (arith, is, at, under))
    | inr over ↦ let is = past v over in absurd (omega (arith, is, at))
  ]
    where
      low_or_high : (a b : ℕ) → (a < b) ⊎ (b ≤ a)
      low_or_high a b = grind arith

  pub begins : Numbered edges heads ahead numbers 0
  begins = record {
    below = λ v. let z = zero v in omega (arith, z);
    passed = λ p e at_p less. absurd (none_passed p e at_p less);
    rises = λ p e at_p done. absurd (none_passed p e at_p (omega (arith, done)));
    leads = λ v q e at under at_q. absurd (none_leads v q e at under);
  }
