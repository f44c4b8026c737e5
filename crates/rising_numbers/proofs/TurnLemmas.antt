-- The steps of a walk keep what is known of it.
use Rattle.std.proofs.Common.{◌≡◌, ℕ, ◌+◌, ◌-◌, ◌<◌, ◌≤◌, ◌⊎◌, List, [], ◌∷◌, ◌++◌, Some, length, slice_get, get_or, set, take, inl, inr, sym, subst, ap, ◌∙◌, arith}
use Rattle.std.specs.List.{sum}
use Rattle.std.proofs.lemmas.List.{get_or_past, length-set, take_more, take_all}
use Rattle.std.proofs.lemmas.List.Sums.{sum_by-set}
use Rattle.std.proofs.lemmas.Option.{slice_get_within, slice_get-get_or}
use Rattle.rising_numbers.specs.declared.Edge.{Edge}
use Rattle.rising_numbers.specs.declared.chains.Chains.{Chains}
use Rattle.rising_numbers.specs.declared.walk.Walk.{Walk}
use Rattle.rising_numbers.specs.Walks.{Chained, OnPath, Walked, AreAsMany, IsLast, IsNext, HasCome, HasPassed, HasNumbered, HasLess}
use Rattle.rising_numbers.proofs.WalkLemmas.{written, pass_keeps, number_keeps, come_keeps}
use Rattle.rising_numbers.proofs.PathLemmas.{less_keeps, leave_keeps, come_on}

pub low_or_high : (a b : ℕ) → (a < b) ⊎ (b ≤ a)
low_or_high a b = grind arith

-- what is above 0 at a place is of the list
pub in_list : (xs : List ℕ) (v : ℕ) → 0 < get_or xs v 0 → v < length xs
in_list xs v some = elim (low_or_high v (length xs)) [
  | inl low ↦ low
  | inr high ↦ let z = get_or_past xs v 0 high in absurd (omega (arith, z, some))
]

pub set_less : (xs ys : List ℕ) (i y : ℕ) → ys ≡ set xs i y → i < length xs → y < get_or xs i 0 → HasLess xs ys
set_less xs ys i y is within less = record {
  less = subst (λ (zs : List ℕ). sum zs < sum xs) (sym is) lower;
  each = λ v. subst (λ (zs : List ℕ). get_or zs v 0 ≤ get_or xs v 0) (sym is) (at_most v);
  many = ap (λ (zs : List ℕ). length zs) is ∙ length-set xs i y;
}
  where
    lower : sum (set xs i y) < sum xs
    lower = let s : sum (set xs i y) + get_or xs i 0 ≡ sum xs + y = sum_by-set (λ x. x) xs i y 0 within in omega (arith, s, less)

    at_most : (v : ℕ) → get_or (set xs i y) v 0 ≤ get_or xs v 0
    at_most v = elim (written xs i y v within) [
      | inl here ↦ let r = here.reads in let b = here.read in omega (arith, r, b, less)
      | inr else ↦ let r = else.reads in omega (arith, r)
    ]

-- a list whose last element this is
pub front_and_last : (xs : List ℕ) (node : ℕ) → 0 < length xs → node ≡ get_or xs (length xs - 1) 0 → xs ≡ take (length xs - 1) xs ++ node ∷ []
front_and_last xs node some last =
    let more : take (length xs - 1 + 1) xs ≡ take (length xs - 1) xs ++ get_or xs (length xs - 1) 0 ∷ [] = take_more xs (length xs - 1) 0 (omega (arith, some)) in
    let whole : take (length xs - 1 + 1) xs ≡ xs = take_all (length xs - 1 + 1) xs (omega (arith, some)) in
    sym whole ∙ more ∙ ap (λ (n : ℕ). take (length xs - 1) xs ++ n ∷ []) (sym last)

module _ (edges : List Edge) (heads : List ℕ) (walk : Walk) (node : ℕ) (w : Walked edges heads walk) (is : IsLast walk node) where
  last_is : (i : ℕ) → i + 1 ≡ length walk.path.items → get_or walk.path.items i 0 ≡ node
  last_is i at = ap (λ (n : ℕ). get_or walk.path.items n 0) (place i (length walk.path.items) at) ∙ sym is.last
    where
      place : (i n : ℕ) → i + 1 ≡ n → i ≡ n - 1
      place i n at = omega (arith, at)

  at_last : (P : ℕ → Type 0) → ((i : ℕ) → i < length walk.path.items → P (get_or walk.path.items i 0)) → P node
  at_last P all = let some = is.some in subst P (sym is.last) (all (length walk.path.items - 1) (omega (arith, some)))

  pub last_begun : 0 < get_or walk.ahead.items node 0
  last_begun = at_last (λ (n : ℕ). 0 < get_or walk.ahead.items n 0) w.on_path.begun

  pub last_open : get_or walk.ahead.items node 0 ≤ get_or heads node 0 + 1
  last_open = at_last (λ (n : ℕ). get_or walk.ahead.items n 0 ≤ get_or heads n 0 + 1) w.on_path.open_to

  pub last_within : node < length walk.ahead.items
  last_within = in_list walk.ahead.items node last_begun

  on_front : OnPath edges heads walk.ahead.items (take (length walk.path.items - 1) walk.path.items ++ node ∷ [])
  on_front = subst (λ (p : List ℕ). OnPath edges heads walk.ahead.items p) (front_and_last walk.path.items node is.some is.last) w.on_path

  pub last_next : (place from : ℕ) → get_or walk.ahead.items node 0 ≡ place + 2 → ((edge : Edge) → slice_get edges place ≡ Some edge → from ≡ edge.from) → IsNext edges walk from
  last_next place from at named = record {
    waits = λ i last. let same : get_or walk.ahead.items (get_or walk.path.items i 0) 0 ≡ get_or walk.ahead.items node 0 = ap (λ (n : ℕ). get_or walk.ahead.items n 0) (last_is i last) in omega (arith, same, at);
    from_node = λ i p e last at_p ahead_p.
        let same : get_or walk.ahead.items (get_or walk.path.items i 0) 0 ≡ get_or walk.ahead.items node 0 = ap (λ (n : ℕ). get_or walk.ahead.items n 0) (last_is i last) in
        let one : p ≡ place = omega (arith, same, at, ahead_p) in
        sym (named e (ap (λ (n : ℕ). slice_get edges n) (sym one) ∙ at_p));
  }

  pub numbers_on : (after : Walk) → get_or walk.ahead.items node 0 ≡ 1 → HasNumbered walk after node → Walked edges heads after
  numbers_on after at has = record {
    numbered = rw (has.ahead, has.numbers, has.sequence) (number_keeps edges heads walk.ahead.items walk.numbers.items (length walk.sequence.items) node w.numbered last_within (let n = w.numbers in let l = last_within in omega (arith, n, l)) at);
    on_path = rw (has.ahead, has.path) (leave_keeps edges heads walk.ahead.items (take (length walk.path.items - 1) walk.path.items) node on_front last_within);
    numbers = rw (has.ahead, has.numbers) (length-set walk.numbers.items node (length walk.sequence.items + 1) ∙ w.numbers ∙ sym (length-set walk.ahead.items node 0));
  }

module _ (edges : List Edge) (chains : Chains) (walk : Walk) (node place : ℕ)
    (chained : Chained edges chains.heads.items chains.nexts.items (length edges)) (w : Walked edges chains.heads.items walk)
    (is : IsLast walk node) (at : get_or walk.ahead.items node 0 ≡ place + 2) where
  pub place_low : place < get_or chains.heads.items node 0
  place_low = let o = last_open edges chains.heads.items walk node w is in omega (arith, o, at)

  pub place_within : place < length edges
  place_within = let l = place_low in let h = chained.head_low node in omega (arith, l, h)

  edge_there : (e : Edge) × (slice_get edges place ≡ Some e)
  edge_there = (get_or edges place (record { from = 0; to = 0 }), slice_get-get_or edges place (record { from = 0; to = 0 }) place_within)

  pub from_within : (from : ℕ) → AreAsMany edges chains walk → ((edge : Edge) → slice_get edges place ≡ Some edge → from ≡ edge.from) → from < length walk.ahead.items
  from_within from many named = let e = edge_there in subst (λ (n : ℕ). n < length walk.ahead.items) (sym (named e.0 e.1)) (many.within.from place e.0 e.1)

  pub passes_on : (from : ℕ) (after : Walk) → ((edge : Edge) → slice_get edges place ≡ Some edge → from ≡ edge.from) → get_or walk.ahead.items from 0 ≡ 0 → HasPassed chains.nexts.items walk after node place → Walked edges chains.heads.items after
  passes_on from after named done has =
      let e = edge_there in
      let in_ahead : node < length walk.ahead.items = last_within edges chains.heads.items walk node w is in
      let low : place < get_or chains.heads.items node 0 = place_low in
      let next = chained.next_low place in
      record {
        numbered = rw (has.ahead, has.numbers, has.sequence) (pass_keeps edges chains.heads.items chains.nexts.items walk.ahead.items walk.numbers.items (length walk.sequence.items) node place e.0 chained w.numbered in_ahead e.1 at low (ap (λ (n : ℕ). get_or walk.ahead.items n 0) (sym (named e.0 e.1)) ∙ done) place_within);
        on_path = rw (has.ahead, has.path, front_and_last walk.path.items node is.some is.last) (less_keeps edges chains.heads.items walk.ahead.items (take (length walk.path.items - 1) walk.path.items) node (get_or chains.nexts.items place 0 + 1) (on_front edges chains.heads.items walk node w is) in_ahead (omega arith) (omega (arith, next, low)));
        numbers = rw (has.ahead, has.numbers) (w.numbers ∙ sym (length-set walk.ahead.items node (get_or chains.nexts.items place 0 + 1)));
      }

  pub pass_is_less : (after : Walk) → HasPassed chains.nexts.items walk after node place → HasLess walk.ahead.items after.ahead.items
  pass_is_less after has = let next = chained.next_low place in set_less walk.ahead.items after.ahead.items node (get_or chains.nexts.items place 0 + 1) has.ahead (last_within edges chains.heads.items walk node w is) (omega (arith, next, at))

module _ (edges : List Edge) (chains : Chains) (walk after : Walk) (node : ℕ)
    (chained : Chained edges chains.heads.items chains.nexts.items (length edges)) (w : Walked edges chains.heads.items walk)
    (within : node < length walk.ahead.items) (fresh : get_or chains.heads.items node 0 + 1 < get_or walk.ahead.items node 0) (has : HasCome chains.heads.items walk after node) where
  pub comes_on : IsNext edges walk node → Walked edges chains.heads.items after
  comes_on next = record {
    numbered = rw (has.ahead, has.numbers, has.sequence) (come_keeps edges chains.heads.items chains.nexts.items walk.ahead.items walk.numbers.items (length walk.sequence.items) node chained w.numbered within fresh (λ p e at. slice_get_within edges p e at));
    on_path = rw (has.ahead, has.path) (come_on edges chains.heads.items walk.ahead.items walk.path.items node w.on_path within fresh next.waits next.from_node);
    numbers = rw (has.ahead, has.numbers) (w.numbers ∙ sym (length-set walk.ahead.items node (get_or chains.heads.items node 0 + 1)));
  }

  pub come_is_less : HasLess walk.ahead.items after.ahead.items
  come_is_less = set_less walk.ahead.items after.ahead.items node (get_or chains.heads.items node 0 + 1) has.ahead within fresh

-- the first node of a path waits for none
pub nothing_waits : (edges : List Edge) (walk : Walk) (node : ℕ) → walk.path.items ≡ [] → IsNext edges walk node
nothing_waits edges walk node empty = record {
  waits = λ i last. absurd (none i last);
  from_node = λ i p e last at ahead_p. absurd (none i last);
}
  where
    none : (i : ℕ) → i + 1 ≡ length walk.path.items → ⊥
    none i last = let l : length walk.path.items ≡ 0 = ap (λ (p : List ℕ). length p) empty in absurd (omega (arith, last, l))
