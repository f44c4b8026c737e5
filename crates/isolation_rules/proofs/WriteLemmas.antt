-- For si_judge too.
-- Public laws, which the judge above cites. The place of a last write, and listed keys.
use Rattle.std.proofs.Common.{◌≡◌, ◌||◌, ◌<◌, ℕ, zero, suc, Bool, true, false, List, [], ◌∷◌, Option, Some, None, inl, inr, refl, ap, subst, ◌∙◌, arith}
use Rattle.std.specs.List.{list_any}
use Rattle.std.specs.Option.{option_or}
use Rattle.std.proofs.lemmas.Bool.{eqb-true, eq-eqb, or_cases}
use Rattle.history_book.specs.Members.{◌∈◌}
use Rattle.history_book.specs.Isolation.{last_write, WasListed}
use Rattle.history_book.specs.declared.item.Actor.{Actor}
use Rattle.history_book.specs.declared.item.Item.{Item}
use Rattle.history_book.specs.declared.item.Item.TheVariants.{Step}
use Rattle.history_book.specs.declared.item.StoreStep.{StoreStep}
use Rattle.history_book.specs.declared.item.StoreStep.TheVariants.{Keys}
use Rattle.isolation_rules.specs.ReadPairs.{written_at, IsLastWrite}
use Rattle.isolation_rules.specs.Best.{lists, lists_keys}

or_none : (a b : Option (List ℕ)) → a ≡ None → b ≡ None → option_or a b ≡ None
or_none a b ea eb = rw (ea, eb) refl

-- with no write there is no last one
pub no_write : (h : List Item) (t k : ℕ) → ((p : ℕ) → written_at h t k p ≡ None) → last_write h t k ≡ None
unfolding last_write
no_write [] t k none = refl
no_write (x ∷ xs) t k none = or_none _ _ (no_write xs t k (λ p. none (suc p))) (none zero)

or_second : (a b : Option (List ℕ)) → a ≡ None → option_or a b ≡ b
or_second a b ea = rw ea refl

or_first : (a b : Option (List ℕ)) (v : List ℕ) → a ≡ Some v → option_or a b ≡ Some v
or_first a b v ea = rw ea refl

last_at : (h : List Item) (t k : ℕ) (v : List ℕ) (j : ℕ) → written_at h t k j ≡ Some v → ((later : ℕ) → j < later → written_at h t k later ≡ None) → last_write h t k ≡ Some v
unfolding last_write
last_at [] t k v j wrote last = absurd (cc)
last_at (x ∷ xs) t k v zero wrote last = or_second _ _ (no_write xs t k (λ p. last (suc p) (omega arith))) ∙ wrote
last_at (x ∷ xs) t k v (suc j) wrote last = or_first _ _ v (last_at xs t k v j wrote (λ later less. last (suc later) (omega arith)))

-- the value of a write with no later one is the last
pub last_write_at : (h : List Item) (t k : ℕ) (v : List ℕ) (j : ℕ) → IsLastWrite h t k v j → last_write h t k ≡ Some v
last_write_at h t k v j is = last_at h t k v j is.wrote is.last

keys_of : (t : ℕ) (what : StoreStep) → lists_keys t what ≡ true → (count : ℕ) × (Keys t count ≡ what)
keys_of t (Keys txn count) e = (count, ap (λ n. Keys n count) (eqb-true t txn e))
keys_of t _ e = absurd (cc)

listed_by : (t : ℕ) (x : Item) → lists t x ≡ true → (actor : Actor) × (count : ℕ) × (Step actor (Keys t count) ≡ x)
listed_by t (Step actor what) e = let keys = keys_of t what e in (actor, keys.0, ap (λ w. Step actor w) keys.1)
listed_by t _ e = absurd (cc)

pub any_listed : (h : List Item) (t : ℕ) → list_any (λ x. lists t x) h ≡ true → WasListed h t
unfolding ◌∈◌
any_listed [] t e = absurd (cc)
any_listed (x ∷ xs) t e = elim (or_cases (lists t x) (list_any (λ y. lists t y) xs) e) [
  | inl here ↦ let found = listed_by t x here in (found.0, found.1, inl found.2)
  | inr later ↦ let found = any_listed xs t later in (found.0, found.1, inr found.2)
]

or_left : (a b : Bool) → a ≡ true → (a || b) ≡ true
or_left true b e = refl
or_left false b e = absurd (cc)

or_right : (a b : Bool) → b ≡ true → (a || b) ≡ true
or_right true b e = refl
or_right false b e = e

step_in : (h : List Item) (t : ℕ) (actor : Actor) (count : ℕ) → Step actor (Keys t count) ∈ h → list_any (λ x. lists t x) h ≡ true
unfolding ◌∈◌
step_in [] t actor count m = absurd m
step_in (x ∷ xs) t actor count m = elim m [
  | inl e ↦ or_left (lists t x) _ (subst (λ (y : Item). lists t y ≡ true) e (eq-eqb t t refl))
  | inr deeper ↦ or_right (lists t x) _ (step_in xs t actor count deeper)
]

pub listed_any : (h : List Item) (t : ℕ) → WasListed h t → list_any (λ x. lists t x) h ≡ true
listed_any h t listed = step_in h t listed.0 listed.1 listed.2
