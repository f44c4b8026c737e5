-- A text that grows piece by piece. For breach_reasons and omid_view too.
use Rattle.std.proofs.Common.{◌≡◌, ℕ, ◌+◌, ◌<◌, List, ◌∷◌, ◌++◌, append_assoc, ap, ◌∙◌, refl, sym, drop, length, get_or, add-one}
use Rattle.std.proofs.Math.Seq.{drop-cons}
use Rattle.history_view.specs.Words.{each_text}

-- one piece more, or some
pub then_one : (old mid new words a : List ℕ) → mid ≡ old ++ words → new ≡ mid ++ a → new ≡ old ++ (words ++ a)
then_one old mid new words a so next = next ∙ (ap (λ text. text ++ a) so ∙ append_assoc old words a)

pub then_field : (old mid new words a b : List ℕ) → mid ≡ old ++ words → new ≡ (mid ++ a) ++ b → new ≡ old ++ ((words ++ a) ++ b)
then_field old mid new words a b so next = then_one old (mid ++ a) new (words ++ a) b (then_one old mid (mid ++ a) words a so refl) next

pub then_between : (old mid new words a b c : List ℕ) → mid ≡ old ++ words → new ≡ ((mid ++ a) ++ b) ++ c → new ≡ old ++ (((words ++ a) ++ b) ++ c)
then_between old mid new words a b c so next = then_one old ((mid ++ a) ++ b) new ((words ++ a) ++ b) c (then_field old mid ((mid ++ a) ++ b) words a b so refl) next

pub then_two : (old mid new words a b c d : List ℕ) → mid ≡ old ++ words → new ≡ (((mid ++ a) ++ b) ++ c) ++ d → new ≡ old ++ ((((words ++ a) ++ b) ++ c) ++ d)
then_two old mid new words a b c d so next = then_one old (((mid ++ a) ++ b) ++ c) new (((words ++ a) ++ b) ++ c) d (then_between old mid (((mid ++ a) ++ b) ++ c) words a b c so refl) next

-- a piece for each
pub one_each : {X : Type 0} (piece : ℕ → X → List ℕ) (old new : List ℕ) (number : ℕ) (xs : List X) (d : X) → number < length xs → new ≡ old ++ piece number (get_or xs number d)
    → new ++ each_text piece (number + 1) (drop (number + 1) xs) ≡ old ++ each_text piece number (drop number xs)
unfolding each_text
one_each piece old new number xs d within is =
    let parts : drop number xs ≡ get_or xs number d ∷ drop (number + 1) xs = rw add-one (drop-cons xs number d within) in
    ap (λ text. text ++ each_text piece (number + 1) (drop (number + 1) xs)) is
    ∙ (append_assoc old (piece number (get_or xs number d)) (each_text piece (number + 1) (drop (number + 1) xs))
    ∙ ap (λ rest. old ++ each_text piece number rest) (sym parts))
