-- Where an item stands in a list of items that another is put behind.
use Rattle.log_refinement.proofs.Names.{◌≡◌, List, [], ◌∷◌, ◌++◌, ◌⊎◌, inl, inr, refl, sym, ap, subst, ◌∈◌, Item}
use Rattle.log_refinement.proofs.Names.{in_back, in_append}

-- ---- a list is taken apart at an item
-- it stands in the first of two lists
pub record InFirst (first more behind : List Item) (before : List Item) (x : Item) : Type 0 where
  pub rest : List Item
  pub is : first ≡ before ++ x ∷ rest
  pub behind_is : behind ≡ rest ++ more

-- or in the second
pub record InMore (first more behind : List Item) (before : List Item) (x : Item) : Type 0 where
  pub front : List Item
  pub is : more ≡ front ++ x ∷ behind
  pub before_is : before ≡ first ++ front

deeper : (y x : Item) (xs more before behind : List Item) → InFirst xs more behind before x ⊎ InMore xs more behind before x → InFirst (y ∷ xs) more behind (y ∷ before) x ⊎ InMore (y ∷ xs) more behind (y ∷ before) x
deeper y x xs more before behind (inl k) = inl (record { rest = k.rest; is = ap (λ (zs : List Item). y ∷ zs) k.is; behind_is = k.behind_is })
deeper y x xs more before behind (inr k) = inr (record { front = k.front; is = k.is; before_is = ap (λ (zs : List Item). y ∷ zs) k.before_is })

pub split_cases : (first more before behind : List Item) (x : Item) → first ++ more ≡ before ++ x ∷ behind → InFirst first more behind before x ⊎ InMore first more behind before x
split_cases [] more before behind x is = inr (record { front = before; is = is; before_is = refl })
split_cases (y ∷ xs) more [] behind x is =
    let same : y ≡ x = cc in
    let rest : xs ++ more ≡ behind = cc in
    inl (record { rest = xs; is = ap (λ (z : Item). z ∷ xs) same; behind_is = sym rest })
split_cases (y ∷ xs) more (z ∷ before) behind x is =
    let same : y ≡ z = cc in
    let rest : xs ++ more ≡ before ++ x ∷ behind = cc in
    subst (λ (q : Item). InFirst (y ∷ xs) more behind (q ∷ before) x ⊎ InMore (y ∷ xs) more behind (q ∷ before) x) same (deeper y x xs more before behind (split_cases xs more before behind x rest))

-- ---- two items of one list
-- the one stands behind the other, or what stands behind the other does behind it too
pub behind_or_more : (front behind before after : List Item) (x y : Item) → front ++ x ∷ behind ≡ before ++ y ∷ after → (y ∈ behind) ⊎ ((z : Item) → z ∈ behind → z ∈ after)
unfolding ◌∈◌
behind_or_more [] behind [] after x y is = inr (λ z m. let same : behind ≡ after = cc in subst (λ (zs : List Item). z ∈ zs) same m)
behind_or_more [] behind (q ∷ before) after x y is =
    let same : behind ≡ before ++ y ∷ after = cc in
    inl (subst (λ (zs : List Item). y ∈ zs) (sym same) (in_back y before (y ∷ after) (inl refl)))
behind_or_more (q ∷ front) behind [] after x y is =
    let same : front ++ x ∷ behind ≡ after = cc in
    inr (λ z m. subst (λ (zs : List Item). z ∈ zs) same (in_back z front (x ∷ behind) (inr m)))
behind_or_more (q ∷ front) behind (r ∷ before) after x y is =
    let same : front ++ x ∷ behind ≡ before ++ y ∷ after = cc in
    behind_or_more front behind before after x y same

-- ---- members
pub in_middle : (before behind : List Item) (x : Item) → x ∈ (before ++ x ∷ behind)
unfolding ◌∈◌
in_middle before behind x = in_back x before (x ∷ behind) (inl refl)

pub in_split : (xs before behind : List Item) (x : Item) → xs ≡ before ++ x ∷ behind → x ∈ xs
in_split xs before behind x is = subst (λ (zs : List Item). x ∈ zs) (sym is) (in_middle before behind x)

-- what none of two lists has
pub none_append : (P : Item → Type 0) (xs ys : List Item) → ((x : Item) → x ∈ xs → P x → ⊥) → ((x : Item) → x ∈ ys → P x → ⊥) → (x : Item) → x ∈ (xs ++ ys) → P x → ⊥
none_append P xs ys first rest x m is = elim (in_append x xs ys m) [ inl here ↦ first x here is | inr there ↦ rest x there is ]
