-- For command_semantics too.
-- What holds at each place of a history and of the items behind it holds at each place of both; an item behind a history.
use Rattle.cause_laws.proofs.Names.{suc, List, [], ◌∷◌, ◌++◌, append_assoc, inl, refl, sym, subst, take, append-nil}
use Rattle.cause_laws.proofs.Names.{◌∈◌, AtEach, AtEach-push, in_back}

-- of items behind a history: at the first, and at each behind it
behind_first : {X : Type 0} (P : List X → X → Type 0) (x : X) (xs : List X) → AtEach P (x ∷ xs) → AtEach (λ told y. P (x ∷ told) y) xs
behind_first P x xs each = record { at = λ place y found. each.at (suc place) y found }

pub each_longer : {X : Type 0} (P : List X → X → Type 0) (h items : List X) → AtEach P h → AtEach (λ told x. P (h ++ told) x) items → AtEach P (h ++ items)
each_longer P h [] all each = subst (λ xs. AtEach P xs) (sym (append-nil h)) all
each_longer {X} P h (x ∷ items) all each =
    let first : P h x = subst (λ before. P before x) (append-nil h) (each.at 0 x refl) in
    let pushed : AtEach P (h ++ x ∷ []) = AtEach-push P h x all first in
    let rest : AtEach (λ told y. P (h ++ x ∷ told) y) items = behind_first (λ told y. P (h ++ told) y) x items each in
    let moved : AtEach (λ told y. P ((h ++ x ∷ []) ++ told) y) items = record {
      at = λ place y found. subst (λ before. P before y) (sym (append_assoc h (x ∷ []) (take place items))) (rest.at place y found);
    } in
    subst (λ xs. AtEach P xs) (append_assoc h (x ∷ []) items) (each_longer P (h ++ x ∷ []) items pushed moved)

-- an item between others
pub in_second : {X : Type 0} (x : X) (h items : List X) → x ∈ (h ++ x ∷ items)
unfolding ◌∈◌
in_second x h items = in_back x h (x ∷ items) (inl refl)
