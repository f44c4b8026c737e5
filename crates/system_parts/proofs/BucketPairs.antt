-- For conflict_buckets too.
-- Laws for the crates above: what the pairs of a bucket hold after a change.
use Rattle.std.proofs.Common.{◌≡◌, ℕ, suc, ◌+◌, ◌<◌, ◌==◌, nat_lt, List, [], ◌∷◌, length, Option, Some, None, ◌⊎◌, inl, inr, refl, sym, subst, ap, ◌∙◌, arith, if◌then◌else◌}
use Rattle.std.proofs.lemmas.Bool.{cases_Bool, eqb-true, eqb-false, eq-eqb, ne_eqb, ltb-true, ltb-false}
use Rattle.system_parts.specs.declared.buckets.Recorded.{Recorded}
use Rattle.system_parts.specs.Buckets.{kept_commit, replaced, added, without}

-- P of each pair
abbrev pub Every : (Recorded → Type 0) → List Recorded → Type 0
Every P [] = Unit {0}
Every P (pair ∷ pairs) = P pair × Every P pairs

-- the pair is one of them
abbrev pub IsAmong : Recorded → List Recorded → Type 0
IsAmong pair [] = ⊥
IsAmong pair (first ∷ pairs) = (pair ≡ first) ⊎ IsAmong pair pairs

-- the keys ascend
abbrev pub Ascends : List Recorded → Type 0
Ascends [] = Unit {0}
Ascends (pair ∷ pairs) = Every (λ later. pair.key < later.key) pairs × Ascends pairs

pub every-among : (P : Recorded → Type 0) (pair : Recorded) (pairs : List Recorded) → Every P pairs → IsAmong pair pairs → P pair
every-among P pair [] h m = absurd m
every-among P pair (first ∷ pairs) h m = elim m [ inl e ↦ subst P (sym e) h.0 | inr rest ↦ every-among P pair pairs h.1 rest ]

pub every-more : (P Q : Recorded → Type 0) → ((pair : Recorded) → P pair → Q pair) → (pairs : List Recorded) → Every P pairs → Every Q pairs
every-more P Q f [] h = tt
every-more P Q f (pair ∷ pairs) h = (f pair h.0, every-more P Q f pairs h.1)

pub every-replaced : (P : Recorded → Type 0) (pairs : List Recorded) (pair : Recorded) → P pair → Every P pairs → Every P (replaced pairs pair)
unfolding replaced
every-replaced P [] pair here h = tt
every-replaced P (old ∷ pairs) pair here h = elim (cases_Bool (old.key == pair.key)) [ inl q ↦ rw q (here, h.1) | inr q ↦ rw q (h.0, every-replaced P pairs pair here h.1) ]

pub every-added : (P : Recorded → Type 0) (pairs : List Recorded) (pair : Recorded) → P pair → Every P pairs → Every P (added pairs pair)
unfolding added
every-added P [] pair here h = (here, tt)
every-added P (old ∷ pairs) pair here h = elim (cases_Bool (nat_lt pair.key old.key)) [ inl q ↦ rw q (here, h) | inr q ↦ rw q (h.0, every-added P pairs pair here h.1) ]

pub every-without : (P : Recorded → Type 0) (pairs : List Recorded) (key : ℕ) → Every P pairs → Every P (without pairs key)
unfolding without
every-without P [] key h = tt
every-without P (old ∷ pairs) key h = elim (cases_Bool (old.key == key)) [ inl q ↦ rw q h.1 | inr q ↦ rw q (h.0, every-without P pairs key h.1) ]

-- a replaced key keeps its place in the order
every_key-replaced : (low : ℕ) (pairs : List Recorded) (pair : Recorded) → Every (λ later. low < later.key) pairs → Every (λ later. low < later.key) (replaced pairs pair)
unfolding replaced
every_key-replaced low [] pair h = tt
every_key-replaced low (old ∷ pairs) pair h = elim (cases_Bool (old.key == pair.key)) [
  | inl q ↦ rw q (let same = eqb-true old.key pair.key q in let above : low < pair.key = omega (arith, h.0) in (above, h.1))
  | inr q ↦ rw q (h.0, every_key-replaced low pairs pair h.1)
]

pub ascends-replaced : (pairs : List Recorded) (pair : Recorded) → Ascends pairs → Ascends (replaced pairs pair)
unfolding replaced
ascends-replaced [] pair h = tt
ascends-replaced (old ∷ pairs) pair h = elim (cases_Bool (old.key == pair.key)) [
  | inl q ↦ rw q (let same = eqb-true old.key pair.key q in (subst (λ (k : ℕ). Every (λ later. k < later.key) pairs) same h.0, h.1))
  | inr q ↦ rw q (every_key-replaced old.key pairs pair h.0, ascends-replaced pairs pair h.1)
]

pub ascends-added : (pairs : List Recorded) (pair : Recorded) → kept_commit pairs pair.key ≡ None → Ascends pairs → Ascends (added pairs pair)
unfolding added kept_commit
ascends-added [] pair e h = (tt, tt)
ascends-added (old ∷ pairs) pair e h = elim (cases_Bool (nat_lt pair.key old.key)) [
  | inl q ↦ let below : pair.key < old.key = ltb-true pair.key old.key q in
      rw q ((below, every-more (λ later. old.key < later.key) (λ later. pair.key < later.key) (λ later lt. omega arith) pairs h.0), h)
  | inr q ↦ elim (cases_Bool (old.key == pair.key)) [
    | inl same ↦ absurd (let found = rw same at e in cc)
    | inr other ↦ let rest : kept_commit pairs pair.key ≡ None = rw other at e in
        let above : old.key < pair.key = (let up = ltb-false pair.key old.key q in let ne = eqb-false old.key pair.key other in omega arith) in
        rw q (every-added (λ later. old.key < later.key) pairs pair above h.0, ascends-added pairs pair rest h.1)
  ]
]

pub ascends-without : (pairs : List Recorded) (key : ℕ) → Ascends pairs → Ascends (without pairs key)
unfolding without
ascends-without [] key h = tt
ascends-without (old ∷ pairs) key h = elim (cases_Bool (old.key == key)) [
  | inl q ↦ rw q h.1
  | inr q ↦ rw q (every-without (λ later. old.key < later.key) pairs key h.0, ascends-without pairs key h.1)
]

pub kept_commit-replaced : (pairs : List Recorded) (pair : Recorded) (before : ℕ) → kept_commit pairs pair.key ≡ Some before → kept_commit (replaced pairs pair) pair.key ≡ Some pair.commit
unfolding kept_commit replaced
kept_commit-replaced [] pair before e = absurd (cc)
kept_commit-replaced (old ∷ pairs) pair before e = elim (cases_Bool (old.key == pair.key)) [
  | inl q ↦ rw (q, eq-eqb pair.key pair.key refl) refl
  | inr q ↦ let rest : kept_commit pairs pair.key ≡ Some before = rw q at e in rw (q, q) (kept_commit-replaced pairs pair before rest)
]

pub kept_commit-replaced_other : (pairs : List Recorded) (pair : Recorded) (key : ℕ) → (pair.key ≡ key → ⊥) → kept_commit (replaced pairs pair) key ≡ kept_commit pairs key
unfolding kept_commit replaced
kept_commit-replaced_other [] pair key ne = refl
kept_commit-replaced_other (old ∷ pairs) pair key ne = elim (cases_Bool (old.key == pair.key)) [
  | inl q ↦ let same = eqb-true old.key pair.key q in rw (q, ne_eqb pair.key key ne, ne_eqb old.key key (λ e. ne (sym same ∙ e))) refl
  | inr q ↦ rw q (ap (λ (o : Option ℕ). if old.key == key then Some old.commit else o) (kept_commit-replaced_other pairs pair key ne))
]

pub kept_commit-added : (pairs : List Recorded) (pair : Recorded) → kept_commit pairs pair.key ≡ None → kept_commit (added pairs pair) pair.key ≡ Some pair.commit
unfolding kept_commit added
kept_commit-added [] pair e = rw (eq-eqb pair.key pair.key refl) refl
kept_commit-added (old ∷ pairs) pair e = elim (cases_Bool (nat_lt pair.key old.key)) [
  | inl q ↦ rw (q, eq-eqb pair.key pair.key refl) refl
  | inr q ↦ elim (cases_Bool (old.key == pair.key)) [
    | inl same ↦ absurd (let found = rw same at e in cc)
    | inr other ↦ let rest : kept_commit pairs pair.key ≡ None = rw other at e in rw (q, other) (kept_commit-added pairs pair rest)
  ]
]

pub kept_commit-added_other : (pairs : List Recorded) (pair : Recorded) (key : ℕ) → (pair.key ≡ key → ⊥) → kept_commit (added pairs pair) key ≡ kept_commit pairs key
unfolding kept_commit added
kept_commit-added_other [] pair key ne = rw (ne_eqb pair.key key ne) refl
kept_commit-added_other (old ∷ pairs) pair key ne = elim (cases_Bool (nat_lt pair.key old.key)) [
  | inl q ↦ rw (q, ne_eqb pair.key key ne) refl
  | inr q ↦ rw q (ap (λ (o : Option ℕ). if old.key == key then Some old.commit else o) (kept_commit-added_other pairs pair key ne))
]

pub kept_commit-without_other : (pairs : List Recorded) (out key : ℕ) → (out ≡ key → ⊥) → kept_commit (without pairs out) key ≡ kept_commit pairs key
unfolding kept_commit without
kept_commit-without_other [] out key ne = refl
kept_commit-without_other (old ∷ pairs) out key ne = elim (cases_Bool (old.key == out)) [
  | inl q ↦ let same = eqb-true old.key out q in rw (q, ne_eqb old.key key (λ e. ne (sym same ∙ e))) refl
  | inr q ↦ rw q (ap (λ (o : Option ℕ). if old.key == key then Some old.commit else o) (kept_commit-without_other pairs out key ne))
]

-- no pair of a key below all of them
kept_commit-below : (pairs : List Recorded) (key : ℕ) → Every (λ later. key < later.key) pairs → kept_commit pairs key ≡ None
unfolding kept_commit
kept_commit-below [] key h = refl
kept_commit-below (old ∷ pairs) key h = rw (ne_eqb old.key key (λ e. let up = h.0 in omega arith)) (kept_commit-below pairs key h.1)

pub kept_commit-without : (pairs : List Recorded) (out : ℕ) → Ascends pairs → kept_commit (without pairs out) out ≡ None
unfolding kept_commit without
kept_commit-without [] out h = refl
kept_commit-without (old ∷ pairs) out h = elim (cases_Bool (old.key == out)) [
  | inl q ↦ let same = eqb-true old.key out q in rw q (kept_commit-below pairs out (subst (λ (k : ℕ). Every (λ later. k < later.key) pairs) same h.0))
  | inr q ↦ rw (q, q) (kept_commit-without pairs out h.1)
]

pub length-replaced : (pairs : List Recorded) (pair : Recorded) → length (replaced pairs pair) ≡ length pairs
unfolding replaced
length-replaced [] pair = refl
length-replaced (old ∷ pairs) pair = elim (cases_Bool (old.key == pair.key)) [ inl q ↦ rw q refl | inr q ↦ rw q (ap suc (length-replaced pairs pair)) ]

pub length-added : (pairs : List Recorded) (pair : Recorded) → length (added pairs pair) ≡ length pairs + 1
unfolding added
length-added [] pair = refl
length-added (old ∷ pairs) pair = elim (cases_Bool (nat_lt pair.key old.key)) [ inl q ↦ rw q (omega arith) | inr q ↦ rw q (let ih = length-added pairs pair in omega arith) ]

pub length-without : (pairs : List Recorded) (pair : Recorded) → IsAmong pair pairs → length (without pairs pair.key) + 1 ≡ length pairs
unfolding without
length-without [] pair m = absurd m
length-without (old ∷ pairs) pair m = elim (cases_Bool (old.key == pair.key)) [
  | inl q ↦ rw q (omega arith)
  | inr q ↦ rw q (elim m [
    | inl e ↦ absurd (eqb-false old.key pair.key q (sym (ap (λ (p : Recorded). p.key) e)))
    | inr rest ↦ let ih = length-without pairs pair rest in omega arith
  ])
]
