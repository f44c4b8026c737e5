-- Which versions stand among the cells of a read, or below their floor; cutting the cells at the first that decides keeps
-- them.
use Rattle.isolation_laws.proofs.Names.{◌≡◌, ℕ, zero, suc, ◌<◌, ◌≤◌, Bool, true, false, if◌then◌else◌, List, [], ◌∷◌}
use Rattle.isolation_laws.proofs.Names.{◌⊎◌, inl, inr, refl, sym, ◌∙◌, ap, subst, arith, All, cases_Bool, Cell}
use Rattle.isolation_laws.proofs.Names.{AreFalling, is_below, front_of, floor_at, floor_of, IsAmong, IsCovered}
use Rattle.std.specs.List.{Contains}

-- ---- falling cells
pub falls_head : (c : Cell) (cs : List Cell) → AreFalling (c ∷ cs) → All (λ (d : Cell). d.version < c.version) cs
falls_head c cs falling i d there = falling 0 (suc i) d (omega arith) (omega arith)

pub falls_tail : (c : Cell) (cs : List Cell) → AreFalling (c ∷ cs) → AreFalling cs
falls_tail c cs falling i j d less there = falling (suc i) (suc j) d (omega arith) (omega arith)

-- ---- among the cells
pub among_none : (u : ℕ) → IsAmong u [] → ⊥
among_none u (i, x, lt, at, is) = omega (arith, lt)

pub among_head : (u : ℕ) (c : Cell) (cs : List Cell) → c.version ≡ u → IsAmong u (c ∷ cs)
among_head u c cs is = (zero, c, omega arith, refl, is)

pub among_later : (u : ℕ) (c : Cell) (cs : List Cell) → IsAmong u cs → IsAmong u (c ∷ cs)
among_later u c cs (i, x, lt, at, is) = (suc i, x, omega (arith, lt), at, is)

pub among_cases : (u : ℕ) (c : Cell) (cs : List Cell) → IsAmong u (c ∷ cs) → (c.version ≡ u) ⊎ IsAmong u cs
among_cases u c cs (zero, x, lt, at, is) = inl (ap (λ (y : Cell). y.version) at ∙ is)
among_cases u c cs (suc i, x, lt, at, is) = inr (i, x, omega (arith, lt), at, is)

pub among_contained : (u : ℕ) (cells : List Cell) (c : Cell) → Contains cells c → c.version ≡ u → IsAmong u cells
among_contained u cells c there is = (there.0, c, there.1, there.2, is)

-- what stands among falling cells behind one is below it
pub among_below : (u : ℕ) (c : Cell) (cs : List Cell) → AreFalling (c ∷ cs) → IsAmong u cs → u < c.version
among_below u c cs falling (i, x, lt, at, is) = subst (λ v. v < c.version) (ap (λ (y : Cell). y.version) at ∙ is) (falls_head c cs falling i x lt)

-- ---- the floor
floor_chosen : (b : Bool) (version : ℕ) → (if b then version else 0) ≤ version
floor_chosen true version = omega arith
floor_chosen false version = omega arith

floor_at_most : (b : ℕ) (c : Cell) → floor_at b c ≤ c.version
floor_at_most b c = floor_chosen (is_below b c.shadow) c.version

pub floor_most : (b : ℕ) (c : Cell) (cs : List Cell) → AreFalling (c ∷ cs) → floor_of b (c ∷ cs) ≤ c.version
unfolding floor_of
floor_most b c [] falling = floor_at_most b c
floor_most b c (d ∷ cs) falling =
    let less : d.version < c.version = falls_head c (d ∷ cs) falling 0 d (omega arith) in
    omega (arith, floor_most b d cs (falls_tail c (d ∷ cs) falling), less)

-- ---- among the cells, or below their floor
pub covered_none : (b u : ℕ) → IsCovered b u [] → ⊥
unfolding floor_of
covered_none b u (inl among) = among_none u among
covered_none b u (inr below) = omega (arith, below)

pub covered_later : (b u : ℕ) (c : Cell) (cs : List Cell) → IsCovered b u cs → IsCovered b u (c ∷ cs)
unfolding floor_of
covered_later b u c cs (inl among) = inl (among_later u c cs among)
covered_later b u c [] (inr below) = absurd (omega (arith, below))
covered_later b u c (d ∷ cs) (inr below) = inr below

pub covered_cases : (b u : ℕ) (c : Cell) (cs : List Cell) → IsCovered b u (c ∷ cs) → (c.version ≡ u) ⊎ (IsCovered b u cs ⊎ (u < floor_at b c))
unfolding floor_of
covered_cases b u c cs (inl among) = elim (among_cases u c cs among) [
  | inl here ↦ inl here
  | inr later ↦ inr (inl (inl later))
]
covered_cases b u c [] (inr below) = inr (inr below)
covered_cases b u c (d ∷ cs) (inr below) = inr (inl (inr below))

-- what a falling list covers is its first version, or below it
pub covered_upto : (b u : ℕ) (c : Cell) (cs : List Cell) → AreFalling (c ∷ cs) → IsCovered b u (c ∷ cs) → (c.version ≡ u) ⊎ (u < c.version)
covered_upto b u c cs falling (inl among) = elim (among_cases u c cs among) [
  | inl here ↦ inl here
  | inr later ↦ inr (among_below u c cs falling later)
]
covered_upto b u c cs falling (inr below) = inr (omega (arith, below, floor_most b c cs falling))

no_floor : (b : ℕ) (c : Cell) → is_below b c.shadow ≡ false → floor_at b c ≡ 0
no_floor b c none = ap (λ chosen. if chosen then c.version else 0) none

floor_here : (b : ℕ) (c : Cell) → is_below b c.shadow ≡ true → floor_at b c ≡ c.version
floor_here b c some = ap (λ chosen. if chosen then c.version else 0) some

-- cut at a cell that decides
covered_cut : (b u : ℕ) (c : Cell) (cs : List Cell) → AreFalling (c ∷ cs) → is_below b c.shadow ≡ true → IsCovered b u (c ∷ cs) → IsCovered b u (c ∷ [])
unfolding floor_of
covered_cut b u c cs falling some covered = elim (covered_upto b u c cs falling covered) [
  | inl here ↦ inl (among_head u c [] here)
  | inr below ↦ inr (subst (λ v. u < v) (sym (floor_here b c some)) below)
]

pub covered_front : (b u : ℕ) (cells : List Cell) → AreFalling cells → IsCovered b u cells → IsCovered b u (front_of b cells)
unfolding front_of
covered_front b u [] falling covered = covered
covered_front b u (c ∷ cs) falling covered = elim (cases_Bool (is_below b c.shadow)) [
  | inl some ↦ rw some (covered_cut b u c cs falling some covered)
  | inr none ↦ rw none (elim (covered_cases b u c cs covered) [
    | inl here ↦ inl (among_head u c (front_of b cs) here)
    | inr (inl later) ↦ covered_later b u c (front_of b cs) (covered_front b u cs (falls_tail c cs falling) later)
    | inr (inr below) ↦ absurd (omega (arith, below, no_floor b c none))
  ])
]
