-- For request_completion, command_semantics and log_refinement too.
-- What a history told last, and what stands in it since an item, after more items.
use Rattle.cause_laws.proofs.Names.{◌≡◌, refl, Bool, true, false, if◌then◌else◌, List, [], ◌∷◌, ◌++◌, append_assoc}
use Rattle.cause_laws.proofs.Names.{Option, None, sym, ◌∙◌, ap, option_or, All, append-nil, All-head, All-tail}
use Rattle.cause_laws.proofs.Names.{fold_push, fold-append, Item, told_then, last_told, since_then, since}
use Rattle.std.proofs.Common.{fold}

-- ---- one more item
pub last_told-push : {A : Type 0} (told : Item → Option A) (h : List Item) (x : Item) → last_told told (h ++ x ∷ []) ≡ option_or (told x) (last_told told h)
last_told-push told h x = fold_push (told_then told) None h x

pub since-push : (begins : Item → Bool) (h : List Item) (x : Item) → since begins (h ++ x ∷ []) ≡ (if begins x then [] else since begins h ++ x ∷ [])
since-push begins h x = fold_push (since_then begins) [] h x

-- ---- items that tell nothing, and that begin nothing
pub last_told-past : {A : Type 0} (told : Item → Option A) (last : Option A) (items : List Item) → All (λ x. told x ≡ None) items → fold (told_then told) last items ≡ last
last_told-past told last [] none = refl
last_told-past told last (x ∷ items) none =
    ap (λ o. fold (told_then told) (option_or o last) items) (All-head (λ y. told y ≡ None) x items none) ∙ last_told-past told last items (All-tail (λ y. told y ≡ None) x items none)

pub last_told-same : {A : Type 0} (told : Item → Option A) (h items : List Item) → All (λ x. told x ≡ None) items → last_told told (h ++ items) ≡ last_told told h
last_told-same told h items none = fold-append (told_then told) None h items ∙ last_told-past told (last_told told h) items none

since-past : (begins : Item → Bool) (part items : List Item) → All (λ x. begins x ≡ false) items → fold (since_then begins) part items ≡ part ++ items
since-past begins part [] none = sym (append-nil part)
since-past begins part (x ∷ items) none =
    ap (λ (b : Bool). fold (since_then begins) (if b then [] else part ++ x ∷ []) items) (All-head (λ y. begins y ≡ false) x items none)
    ∙ (since-past begins (part ++ x ∷ []) items (All-tail (λ y. begins y ≡ false) x items none) ∙ append_assoc part (x ∷ []) items)

pub since-more : (begins : Item → Bool) (h items : List Item) → All (λ x. begins x ≡ false) items → since begins (h ++ items) ≡ since begins h ++ items
since-more begins h items none = fold-append (since_then begins) [] h items ∙ since-past begins (since begins h) items none

-- an item that begins, and then none
pub since-anew : (begins : Item → Bool) (h items : List Item) (x : Item) → begins x ≡ true → All (λ y. begins y ≡ false) items → since begins (h ++ x ∷ items) ≡ items
since-anew begins h items x is none =
    fold-append (since_then begins) [] h (x ∷ items)
    ∙ (ap (λ (b : Bool). fold (since_then begins) (if b then [] else since begins h ++ x ∷ []) items) is ∙ since-past begins [] items none)
