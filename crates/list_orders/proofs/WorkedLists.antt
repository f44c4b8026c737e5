-- The small trace, gone through.
use Rattle.std.proofs.Common.{◌≡◌, ◌≢◌, ℕ, zero, suc, ◌+◌, ◌<◌, ◌⊎◌, List, [], ◌∷◌, Option, Some, None, slice_get, inl, inr, refl, sym, subst, ap, ◌∙◌, arith}
use Rattle.std.proofs.lemmas.Option.{same_Some}
use Rattle.trace_rules.specs.declared.trace.Operation.{Operation}
use Rattle.trace_rules.specs.declared.trace.Operation.TheVariants.{Read, Write}
use Rattle.list_orders.specs.Lists.{ComesFirst, IsSeen, SeesValues, WriteAt}
use Rattle.list_orders.specs.WorkedLists.{appended, in_turn}

-- the places, writers and values of its writes
record Is (q w v : ℕ) (place writer value : ℕ) : Type 0 where
  q_is : q ≡ place
  w_is : w ≡ writer
  v_is : v ≡ value

writes : (q w v : ℕ) → WriteAt appended q w 7 v → Is q w v 0 0 1 ⊎ Is q w v 1 1 2
writes zero w v at = inl (let e = same_Some (Write 0 7 1) (Write w 7 v) at in record { q_is = refl; w_is = writer e; v_is = value e })
  where
    writer : Write 0 7 1 ≡ Write w 7 v → w ≡ 0
    writer e = cc

    value : Write 0 7 1 ≡ Write w 7 v → v ≡ 1
    value e = cc
writes (suc zero) w v at = inr (let e = same_Some (Write 1 7 2) (Write w 7 v) at in record { q_is = refl; w_is = writer e; v_is = value e })
  where
    writer : Write 1 7 2 ≡ Write w 7 v → w ≡ 1
    writer e = cc

    value : Write 1 7 2 ≡ Write w 7 v → v ≡ 2
    value e = cc
writes (suc (suc zero)) w v at = absurd (cc)
writes (suc (suc (suc q))) w v at = absurd (cc)

members : (i v : ℕ) → slice_get (1 ∷ 2 ∷ []) i ≡ Some v → ((i ≡ 0) × (v ≡ 1)) ⊎ ((i ≡ 1) × (v ≡ 2))
members zero v at = inl (refl, sym (same_Some 1 v at))
members (suc zero) v at = inr (refl, sym (same_Some 2 v at))
members (suc (suc i)) v at = absurd (cc)

pub sees_two : SeesValues in_turn appended 2 2 7 (1 ∷ 2 ∷ [])
sees_two = record { each = each; all = all; rises = rises }
  where
    each : (i v : ℕ) → slice_get (1 ∷ 2 ∷ []) i ≡ Some v → (q : ℕ) × (w : ℕ) × WriteAt appended q w 7 v × IsSeen in_turn appended 2 2 q w
    each zero v at = (0, 0, ap (λ (x : ℕ). Some (Write 0 7 x)) (same_Some 1 v at), inl (refl, omega arith))
    each (suc zero) v at = (1, 1, ap (λ (x : ℕ). Some (Write 1 7 x)) (same_Some 2 v at), inl (refl, omega arith))
    each (suc (suc i)) v at = absurd (cc)

    all : (q w v : ℕ) → WriteAt appended q w 7 v → IsSeen in_turn appended 2 2 q w → (i : ℕ) × (slice_get (1 ∷ 2 ∷ []) i ≡ Some v)
    all q w v at seen = elim (writes q w v at) [ inl a ↦ (0, ap Some (sym a.v_is)) | inr b ↦ (1, ap Some (sym b.v_is)) ]

    rises : (i j v x q w r u : ℕ) → i < j → slice_get (1 ∷ 2 ∷ []) i ≡ Some v → slice_get (1 ∷ 2 ∷ []) j ≡ Some x → WriteAt appended q w 7 v → WriteAt appended r u 7 x → ComesFirst in_turn q w r u
    rises i j v x q w r u less at_i at_j one other = elim (members i v at_i) [
      | inl a ↦ elim (members j x at_j) [
        | inl b ↦ let p = a.0 in let p2 = b.0 in absurd (omega (arith, less, p, p2))
        | inr b ↦ elim (writes q w v one) [
          | inl c ↦ elim (writes r u x other) [
            | inl d ↦ let p = d.v_is in let p2 = b.1 in absurd (omega (arith, p, p2))
            | inr d ↦ let w_is = c.w_is in let u_is = d.w_is in inr (λ e. absurd (omega (arith, e, w_is, u_is)), omega (arith, w_is, u_is))
          ]
          | inr c ↦ let p = c.v_is in let p2 = a.1 in absurd (omega (arith, p, p2))
        ]
      ]
      | inr a ↦ elim (members j x at_j) [
        | inl b ↦ let p = a.0 in let p2 = b.0 in absurd (omega (arith, less, p, p2))
        | inr b ↦ let p = a.0 in let p2 = b.0 in absurd (omega (arith, less, p, p2))
      ]
    ]

pub not_turned_round : SeesValues in_turn appended 2 2 7 (2 ∷ 1 ∷ []) → ⊥
not_turned_round sees = elim (sees.rises 0 1 2 1 1 1 0 0 (omega arith) refl refl refl refl) [
  | inl same ↦ let e = same.0 in absurd (omega (arith, e))
  | inr first ↦ let low = first.1 in absurd (omega (arith, low))
]

pub not_short : SeesValues in_turn appended 2 2 7 (1 ∷ []) → ⊥
not_short sees =
    let there = sees.all 1 1 2 refl (inl (refl, omega arith)) in
    by there.0 there.1
  where
    by : (i : ℕ) → slice_get {X = ℕ} (1 ∷ []) i ≡ Some 2 → ⊥
    by zero at = let e = same_Some 1 2 at in absurd (omega (arith, e))
    by (suc i) at = absurd (cc)
