-- The transactions whose keys were listed, after one more item; tests of one more item.
use Rattle.si_judge.proofs.Names.{◌≡◌, ◌==◌, ◌||◌, ℕ, Bool, true, false, cond, List, [], ◌∷◌, ◌++◌, refl, sym, ap, ◌∙◌}
use Rattle.si_judge.proofs.Names.{arith, list_any, nat_eq, contains, Updates, nat_tests, Item, lists, HasListed, Txns}
use Rattle.std.proofs.lemmas.List.Folds.{list_any-append}

or_false : (a : Bool) → (a || false) ≡ a
or_false true = refl
or_false false = refl

-- a test of some items and of one more
pub any_more : (f : Item → Bool) (part : List Item) (x : Item) → list_any f (part ++ x ∷ []) ≡ (list_any f part || f x)
any_more f part x = list_any-append f part (x ∷ []) ∙ ap (λ b. list_any f part || b) (or_false (f x))

pub chosen : (a b : Bool) → cond b true a ≡ (a || b)
chosen true true = refl
chosen true false = refl
chosen false true = refl
chosen false false = refl

pub at_number : (t u : ℕ) → nat_eq t u ≡ (u == t)
at_number t u = grind (arith, nat_tests)

-- the transaction that an item lists is entered
pub listed_entered : (part : List Item) (x : Item) (txn : ℕ) (m n : Txns) → ((t : ℕ) → lists t x ≡ (t == txn)) → Updates nat_eq m n txn true → HasListed part m → HasListed (part ++ x ∷ []) n
listed_entered part x txn m n one put old = λ t.
    put.0 t ∙ ap (λ b. cond b true (contains nat_eq m t)) (at_number txn t) ∙ chosen (contains nat_eq m t) (t == txn)
    ∙ ap (λ b. b || (t == txn)) (old t) ∙ ap (λ b. list_any (λ y. lists t y) part || b) (sym (one t)) ∙ sym (any_more (λ y. lists t y) part x)
