-- Where an item of a longer history stands: in the history before, or among the items that came.
use Rattle.request_completion.proofs.Names.{◌≡◌, List, [], ◌∷◌, ◌++◌, inl, refl, sym, ◌∙◌, ap, subst, ◌∈◌, Item}
use Rattle.request_completion.proofs.Names.{in_back}

pub data Stood (h items before behind : List Item) (x : Item) : Type 0 where
  Before : (rest : List Item) → h ≡ before ++ x ∷ rest → behind ≡ rest ++ items → Stood h items before behind x
  Among : (front : List Item) → before ≡ h ++ front → items ≡ front ++ x ∷ behind → Stood h items before behind x

first_same : (x y : Item) (xs ys : List Item) → x ∷ xs ≡ y ∷ ys → x ≡ y
first_same x y xs ys same = cc

rest_same : (x y : Item) (xs ys : List Item) → x ∷ xs ≡ y ∷ ys → xs ≡ ys
rest_same x y xs ys same = cc

later : (y z : Item) (h items before behind : List Item) (x : Item) → y ≡ z → Stood h items before behind x → Stood (y ∷ h) items (z ∷ before) behind x
later y z h items before behind x same (Before rest old new) = Before rest (ap (λ (a : Item). a ∷ h) same ∙ ap (λ (xs : List Item). z ∷ xs) old) new
later y z h items before behind x same (Among front old new) = Among front (ap (λ (a : Item). a ∷ before) (sym same) ∙ ap (λ (xs : List Item). y ∷ xs) old) new

pub stood : (h items before behind : List Item) (x : Item) → h ++ items ≡ before ++ x ∷ behind → Stood h items before behind x
stood [] items before behind x is = Among before refl is
stood (y ∷ h) items [] behind x is = Before h (ap (λ (a : Item). a ∷ h) (first_same y x (h ++ items) behind is)) (sym (rest_same y x (h ++ items) behind is))
stood (y ∷ h) items (z ∷ before) behind x is =
    later y z h items before behind x (first_same y z (h ++ items) (before ++ x ∷ behind) is) (stood h items before behind x (rest_same y z (h ++ items) (before ++ x ∷ behind) is))

-- it stands there
pub stands_in : (x : Item) (front behind items : List Item) → items ≡ front ++ x ∷ behind → x ∈ items
unfolding ◌∈◌
stands_in x front behind items is = subst (λ (xs : List Item). x ∈ xs) (sym is) (in_back x front (x ∷ behind) (inl refl))

-- one item alone
pub alone : (x y : Item) (front behind : List Item) → y ∷ [] ≡ front ++ x ∷ behind → (front ≡ []) × (x ≡ y)
alone x y [] behind is = (refl, cc)
alone x y (z ∷ []) behind is = absurd (cc)
alone x y (z ∷ a ∷ front) behind is = absurd (cc)
