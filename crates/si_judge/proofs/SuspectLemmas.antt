-- Marks of the places where a rule may be broken.
use Rattle.si_judge.proofs.Names.{◌≡◌, ◌<◌, ℕ, zero, suc, Bool, true, false, List, length, get_or, replicate, inl, inr}
use Rattle.si_judge.proofs.Names.{refl, sym, subst, ◌∙◌, cases_eq, get_or-set_same, get_or-set_other, set, Item, Rule}
use Rattle.si_judge.proofs.Names.{Passes}

-- each place that is not marked passes
pub record ArePassed (rule : Rule) (h : List Item) (marks : List Bool) : Type 0 where
  pub passes : (i : ℕ) → get_or marks i true ≡ false → Passes rule h i

all_true : (n i : ℕ) → get_or (replicate n true) i true ≡ true
all_true zero i = refl
all_true (suc n) zero = refl
all_true (suc n) (suc i) = all_true n i

pub marked_pass : (rule : Rule) (h : List Item) (n : ℕ) → ArePassed rule h (replicate n true)
marked_pass rule h n = record { passes = λ i off. let on = all_true n i in absurd (cc) }

-- one more mark
pub mark_passes : (rule : Rule) (h : List Item) (marks : List Bool) (place : ℕ) (mark : Bool) → place < length marks → ArePassed rule h marks → (mark ≡ false → Passes rule h place) → ArePassed rule h (set marks place mark)
mark_passes rule h marks place mark less old here = record {
  passes = λ i off. elim (cases_eq i place) [
    | inl same ↦ subst (λ (n : ℕ). Passes rule h n) (sym same) (here (sym (get_or-set_same marks place mark true less) ∙ subst (λ (n : ℕ). get_or (set marks place mark) n true ≡ false) same off))
    | inr other ↦ old.passes i (sym (get_or-set_other marks place i mark true other) ∙ off)
  ];
}
