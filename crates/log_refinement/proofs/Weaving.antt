-- Entries in the order of their ticks: each is the next of one log, or one of another log.
use Rattle.log_refinement.proofs.Names.{◌≡◌, ℕ, ◌+◌, ◌<◌, ◌≤◌, true, List, [], ◌∷◌, length, ◌⊎◌, inl, inr, refl, sym}
use Rattle.log_refinement.proofs.Names.{ap, subst, arith, and_parts, ltb-true, ◌∈◌, Entry, ticks_of, rises_above}
use Rattle.std.proofs.Common.{nat_lt}
use Rattle.tick_word.specs.Rule.{ticks_from}

-- these entries stand among the others in their order, and each of the others has the property
unfoldable pub Woven : (Entry → Type 0) → List Entry → List Entry → Type 0
Woven P own [] = own ≡ []
Woven P [] (e ∷ es) = P e × Woven P [] es
Woven P (o ∷ own) (e ∷ es) = ((e ≡ o) × Woven P own es) ⊎ (P e × Woven P (o ∷ own) es)

-- ---- ticks
-- the ticks are those from this one on
unfoldable pub Counts : ℕ → List Entry → Type 0
Counts n [] = Unit {0}
Counts n (e ∷ es) = (e.tick ≡ n) × Counts (n + 1) es

-- each tick is above the one before it, and none is below this one
unfoldable pub Rises : ℕ → List Entry → Type 0
Rises low [] = Unit {0}
Rises low (e ∷ es) = (low ≤ e.tick) × Rises (e.tick + 1) es

pub counts_of : (n : ℕ) (es : List Entry) → ticks_of es ≡ ticks_from n (length es) → Counts n es
unfolding Counts ticks_from
counts_of n [] is = tt
counts_of n (e ∷ es) is =
    let same : (e.tick ∷ ticks_of es) ≡ (n ∷ ticks_from (n + 1) (length es)) = is in
    let first : e.tick ≡ n = cc in
    let rest : ticks_of es ≡ ticks_from (n + 1) (length es) = cc in
    (first, counts_of (n + 1) es rest)

pub rises_of : (low : ℕ) (es : List Entry) → rises_above low (ticks_of es) ≡ true → Rises (low + 1) es
unfolding Rises
rises_of low [] is = tt
rises_of low (e ∷ es) is =
    let parts = and_parts (nat_lt low e.tick) (rises_above e.tick (ticks_of es)) is in
    let above : low < e.tick = ltb-true low e.tick parts.0 in
    (omega (arith, above), rises_of e.tick es parts.1)

counted_from : (n : ℕ) (es : List Entry) (x : Entry) → Counts n es → x ∈ es → n ≤ x.tick
unfolding Counts ◌∈◌
counted_from n [] x counts m = absurd m
counted_from n (e ∷ es) x counts (inl is) = let same : x.tick ≡ e.tick = ap (λ (y : Entry). y.tick) is in omega (arith, counts.0, same)
counted_from n (e ∷ es) x counts (inr m) = let later = counted_from (n + 1) es x counts.1 m in omega (arith, later)

risen_from : (low : ℕ) (es : List Entry) (x : Entry) → Rises low es → x ∈ es → low ≤ x.tick
unfolding Rises ◌∈◌
risen_from low [] x rises m = absurd m
risen_from low (e ∷ es) x rises (inl is) = let same : x.tick ≡ e.tick = ap (λ (y : Entry). y.tick) is in omega (arith, rises.0, same)
risen_from low (e ∷ es) x rises (inr m) = let later = risen_from (e.tick + 1) es x rises.1 m in omega (arith, later, rises.0)

-- ---- one log among all entries
-- the entries of the log are among these, and what is not in the log has the property
pub record Among (P : Entry → Type 0) (own es : List Entry) : Type 0 where
  pub inside : (x : Entry) → x ∈ own → x ∈ es
  pub others : (x : Entry) → x ∈ es → (x ∈ own) ⊎ P x

none_left : (P : Entry → Type 0) (e : Entry) (es : List Entry) → Among P [] (e ∷ es) → P e × Among P [] es
unfolding ◌∈◌
none_left P e es k = (elim (k.others e (inl refl)) [ inl none ↦ absurd none | inr here ↦ here ], record { inside = λ x m. absurd m; others = λ x m. k.others x (inr m) })

same_tick : (x y : Entry) → x ≡ y → x.tick ≡ y.tick
same_tick x y is = ap (λ (z : Entry). z.tick) is

-- the next of the log is the first of all
own_first : (P : Entry → Type 0) (n : ℕ) (o e : Entry) (own es : List Entry) → Counts n (e ∷ es) → Rises n (o ∷ own) → Among P (o ∷ own) (e ∷ es) → o.tick ≡ n → (e ≡ o) × Rises (n + 1) own × Among P own es
unfolding Counts Rises ◌∈◌
own_first P n o e own es counts rises k at = (
  elim (k.inside o (inl refl)) [ inl is ↦ sym is | inr m ↦ absurd (omega (arith, counted_from (n + 1) es o counts.1 m, at)) ],
  subst (λ (t : ℕ). Rises (t + 1) own) at rises.1,
  record {
    inside = λ x m. elim (k.inside x (inr m)) [
      | inl is ↦ absurd (omega (arith, same_tick x e is, counts.0, risen_from (o.tick + 1) own x rises.1 m, at))
      | inr there ↦ there
    ];
    others = λ x m. elim (k.others x (inr m)) [
      | inl (inl is) ↦ absurd (omega (arith, same_tick x o is, at, counted_from (n + 1) es x counts.1 m))
      | inl (inr own_m) ↦ inl own_m
      | inr here ↦ inr here
    ];
  },
)

-- the first of all is of another log
other_first : (P : Entry → Type 0) (n : ℕ) (o e : Entry) (own es : List Entry) → Counts n (e ∷ es) → Rises (n + 1) (o ∷ own) → Among P (o ∷ own) (e ∷ es) → P e × Among P (o ∷ own) es
unfolding Counts ◌∈◌
other_first P n o e own es counts rises k = (
  elim (k.others e (inl refl)) [
    | inl m ↦ absurd (omega (arith, risen_from (n + 1) (o ∷ own) e rises m, counts.0))
    | inr here ↦ here
  ],
  record {
    inside = λ x m. elim (k.inside x m) [
      | inl is ↦ absurd (omega (arith, same_tick x e is, counts.0, risen_from (n + 1) (o ∷ own) x rises m))
      | inr there ↦ there
    ];
    others = λ x m. k.others x (inr m);
  },
)

pub woven : (P : Entry → Type 0) (n : ℕ) (own es : List Entry) → Counts n es → Rises n own → Among P own es → Woven P own es
unfolding Woven Counts Rises ◌∈◌
woven P n [] [] counts rises k = refl
woven P n (o ∷ own) [] counts rises k = absurd (k.inside o (inl refl))
woven P n [] (e ∷ es) counts rises k =
    let left = none_left P e es k in
    (left.0, woven P (n + 1) [] es counts.1 tt left.1)
woven P n (o ∷ own) (e ∷ es) counts rises k =
    let cases : (o.tick ≡ n) ⊎ (n + 1 ≤ o.tick) = grind (arith, rises.0) in
    elim cases [
      | inl at ↦ let first = own_first P n o e own es counts rises k at in inl (first.0, woven P (n + 1) own es counts.1 first.1 first.2)
      | inr later ↦ let other = other_first P n o e own es counts (later, rises.1) k in inr (other.0, woven P (n + 1) (o ∷ own) es counts.1 (later, rises.1) other.1)
    ]
