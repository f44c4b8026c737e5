-- Lists of items by which no transaction ends, as most events append.
use Rattle.std.proofs.Common.{arith}
use Rattle.service_laws.proofs.Names.{◌≡◌, ℕ, Bool, true, false, if◌then◌else◌, List, [], ◌∷◌, ◌++◌, Option}
use Rattle.service_laws.proofs.Names.{inl, inr, sym, subst, All, All-nil, All-cons, All-head, All-tail}
use Rattle.service_laws.proofs.Names.{All-append, Fate, ◌∈◌, Actor, Ending, Item}
use Rattle.service_laws.proofs.Names.{Ask, Told, kept_items}
use Rattle.service_laws.proofs.Names.{items_met, not_true}
use Rattle.history_book.specs.declared.item.Item.TheVariants as item

abbrev pub is_end : Item → Bool
is_end (item.End session start how) = true
is_end _ = false

abbrev pub IsNoEnd : Item → Type 0
IsNoEnd x = is_end x ≡ false

-- by none of the items a transaction ends
abbrev pub Endless : List Item → Type 0
Endless items = All IsNoEnd items

pub none_ends : Endless []
none_ends = All-nil IsNoEnd

pub one_endless : (x : Item) → IsNoEnd x → Endless (x ∷ [])
one_endless x none = All-cons IsNoEnd x [] none none_ends

pub both_endless : (xs ys : List Item) → Endless xs → Endless ys → Endless (xs ++ ys)
both_endless xs ys = All-append IsNoEnd xs ys

pub then_endless : (x : Item) (xs : List Item) → IsNoEnd x → Endless xs → Endless (x ∷ xs)
then_endless x xs none rest = All-cons IsNoEnd x xs none rest

pub no_end_in : (items : List Item) (s t : ℕ) (how : Ending) → Endless items → item.End s t how ∈ items → ⊥
unfolding ◌∈◌
no_end_in [] s t how none m = m
no_end_in (y ∷ ys) s t how none m = elim m [
  | inl same ↦ not_true (sym (subst (λ (z : Item). IsNoEnd z) (sym same) (All-head IsNoEnd y ys none)))
  | inr deeper ↦ no_end_in ys s t how (All-tail IsNoEnd y ys none) deeper
]

pub once_endless : (told_ : Bool) (x : Item) → IsNoEnd x → Endless (if told_ then [] else x ∷ [])
once_endless told_ x none = grind (arith, none_ends, one_endless)

-- ---- store calls
pub kept_endless : {E : Type 0} (fate : Fate) (why : Option E) (items : List Item) → Endless items → Endless (kept_items fate why items)
kept_endless fate why items none = grind (arith, none_ends)

pub met_endless : (actor : Actor) (asked : Ask) (answer : Told) (fate : Fate) → Endless (items_met actor asked answer fate)
met_endless actor asked answer fate = grind (arith, one_endless, both_endless, none_ends)
