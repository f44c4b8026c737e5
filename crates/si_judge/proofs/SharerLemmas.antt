-- The keys of a transaction, and the transactions that wrote one of them, after one more item.
use Rattle.si_judge.proofs.Names.{◌≡◌, ◌==◌, ◌||◌, ◌<◌, ℕ, Bool, true, false, cond, List, [], ◌∷◌, ◌++◌, length}
use Rattle.si_judge.proofs.Names.{slice_index_or, replicate, sym, ap, ◌∙◌, list_any, nat_eq, contains, Updates}
use Rattle.si_judge.proofs.Names.{get_or-replicate, length-replicate, Item, ShareKey, writes, writes_shared, shared_any}
use Rattle.si_judge.proofs.Names.{any_is_shared, HasKeys, HasSharers}
use Rattle.si_judge.specs.StampSets.{StampSet}
use Rattle.si_judge.proofs.ListedLemmas.{any_more, at_number, chosen}

-- of no items
pub no_keys : (t : ℕ) → HasKeys [] t (replicate 4096 false)
no_keys t = record {
  each = length-replicate 4096 false;
  told = λ k less. get_or-replicate 4096 k false false less;
}

pub more_keys : (part : List Item) (x : Item) (t : ℕ) (old new : List Bool) → length new ≡ 4096 → ((k : ℕ) → k < 4096 → slice_index_or new k false ≡ (slice_index_or old k false || writes t k x)) →
    HasKeys part t old → HasKeys (part ++ x ∷ []) t new
more_keys part x t old new each marked h = record {
  each = each;
  told = λ k less. marked k less ∙ (ap (λ b. b || writes t k x) (h.told k less) ∙ sym (any_more (λ y. writes t k y) part x));
}

-- the writer of an item is entered
pub sharer_entered : (h part : List Item) (x : Item) (t writer : ℕ) (old new : StampSet) → ((u : ℕ) → writes_shared h u t x ≡ (u == writer)) → Updates nat_eq old new writer true → HasSharers h t part old → HasSharers h t (part ++ x ∷ []) new
sharer_entered h part x t writer old new one put held = λ u.
    put.0 u ∙ ap (λ b. cond b true (contains nat_eq old u)) (at_number writer u) ∙ chosen (contains nat_eq old u) (u == writer)
    ∙ ap (λ b. b || (u == writer)) (held u) ∙ ap (λ b. list_any (λ y. writes_shared h u t y) part || b) (sym (one u)) ∙ sym (any_more (λ y. writes_shared h u t y) part x)

-- two transactions share a key in either order
turned : (h : List Item) (t u : ℕ) → ShareKey h t u → ShareKey h u t
turned h t u shared = record { key = shared.key; first = shared.second; second = shared.first }

pub sharer_shares : (h : List Item) (t u : ℕ) (starts : StampSet) → HasSharers h t h starts → contains nat_eq starts u ≡ true → ShareKey h t u
sharer_shares h t u starts held e = turned h u t (any_is_shared h u t (sym (held u) ∙ e))

pub shares_entered : (h : List Item) (t u : ℕ) (starts : StampSet) → HasSharers h t h starts → ShareKey h t u → contains nat_eq starts u ≡ true
shares_entered h t u starts held shared = held u ∙ shared_any h u t (turned h t u shared)
