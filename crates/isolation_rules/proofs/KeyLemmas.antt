-- For read_sets and si_judge too.
-- Public laws, which the judge above cites. A shared key, as a test of the writes.
use Rattle.std.proofs.Common.{◌≡◌, ◌==◌, ◌&&◌, ◌||◌, ℕ, Bool, true, false, if◌then◌else◌, List, [], ◌∷◌, Option, Some, None, is_some, refl, sym, ap, subst, ◌∙◌, inl, inr}
use Rattle.std.specs.List.{list_any}
use Rattle.std.specs.Option.{option_or}
use Rattle.std.proofs.lemmas.Bool.{eqb-true, eq-eqb, or_cases}
use Rattle.history_book.specs.Isolation.{last_write, written_by}
use Rattle.history_book.specs.declared.item.Item.{Item}
use Rattle.history_book.specs.declared.item.Item.TheVariants.{Write}
use Rattle.isolation_rules.specs.ApartPairs.{ShareKey, writes, writes_shared}

some_when : (b : Bool) (value : List ℕ) → is_some (if b then Some value else None) ≡ b
some_when true value = refl
some_when false value = refl

some_written : (t k : ℕ) (x : Item) → is_some (written_by t k x) ≡ writes t k x
some_written t k (Write session start key value) = some_when ((start == t) && (key == k)) value
some_written t k _ = refl

some_or : (a b : Option (List ℕ)) → is_some (option_or a b) ≡ (is_some b || is_some a)
some_or None None = refl
some_or None (Some y) = refl
some_or (Some x) None = refl
some_or (Some x) (Some y) = refl

-- some item writes where there is a last write
pub any_writes : (h : List Item) (t k : ℕ) → list_any (λ x. writes t k x) h ≡ is_some (last_write h t k)
unfolding last_write
any_writes [] t k = refl
any_writes (x ∷ xs) t k = rw (some_or (last_write xs t k) (written_by t k x), some_written t k x, any_writes xs t k) refl

some_is : (o : Option (List ℕ)) → is_some o ≡ true → (value : List ℕ) × (o ≡ Some value)
some_is None e = absurd (cc)
some_is (Some value) e = (value, refl)

pub and_parts : (a b : Bool) → (a && b) ≡ true → (a ≡ true) × (b ≡ true)
and_parts true b e = (refl, e)
and_parts false b e = absurd (cc)

and_both : (a b : Bool) → a ≡ true → b ≡ true → (a && b) ≡ true
and_both true b ea eb = eb
and_both false b ea eb = absurd (cc)

or_left : (a b : Bool) → a ≡ true → (a || b) ≡ true
or_left true b e = refl
or_left false b e = absurd (cc)

or_right : (a b : Bool) → b ≡ true → (a || b) ≡ true
or_right true b e = refl
or_right false b e = e

-- a write of t at a key that u writes shares it
write_shares : (h : List Item) (t u k : ℕ) (x : Item) → list_any (λ y. writes u k y) h ≡ true → writes t k x ≡ true → writes_shared h t u x ≡ true
write_shares h t u k (Write session start key value) others here =
    let parts = and_parts (start == t) (key == k) here in
    and_both (start == t) _ parts.0 (subst (λ (n : ℕ). list_any (λ y. writes u n y) h ≡ true) (sym (eqb-true key k parts.1)) others)
write_shares h t u k _ others here = absurd (cc)

any_shared : (h xs : List Item) (t u k : ℕ) → list_any (λ y. writes u k y) h ≡ true → list_any (λ x. writes t k x) xs ≡ true → list_any (λ x. writes_shared h t u x) xs ≡ true
any_shared h [] t u k others some = some
any_shared h (x ∷ xs) t u k others some = elim (or_cases (writes t k x) (list_any (λ y. writes t k y) xs) some) [
  | inl here ↦ or_left (writes_shared h t u x) _ (write_shares h t u k x others here)
  | inr later ↦ or_right (writes_shared h t u x) _ (any_shared h xs t u k others later)
]

pub shared_any : (h : List Item) (t u : ℕ) → ShareKey h t u → list_any (λ x. writes_shared h t u x) h ≡ true
shared_any h t u shared = any_shared h h t u shared.key
    (any_writes h u shared.key ∙ ap is_some shared.second.1)
    (any_writes h t shared.key ∙ ap is_some shared.first.1)

record SharedIn (h xs : List Item) (t u : ℕ) : Type 0 where
  key : ℕ
  first : list_any (λ x. writes t key x) xs ≡ true
  second : list_any (λ x. writes u key x) h ≡ true

shares_write : (h : List Item) (t u : ℕ) (x : Item) → writes_shared h t u x ≡ true → (k : ℕ) × (writes t k x ≡ true) × (list_any (λ y. writes u k y) h ≡ true)
shares_write h t u (Write session start key value) e =
    let parts = and_parts (start == t) (list_any (λ y. writes u key y) h) e in
    (key, and_both (start == t) (key == key) parts.0 (eq-eqb key key refl), parts.1)
shares_write h t u _ e = absurd (cc)

shared_in : (h xs : List Item) (t u : ℕ) → list_any (λ x. writes_shared h t u x) xs ≡ true → SharedIn h xs t u
shared_in h [] t u e = absurd (cc)
shared_in h (x ∷ xs) t u e = elim (or_cases (writes_shared h t u x) (list_any (λ y. writes_shared h t u y) xs) e) [
  | inl here ↦ let found = shares_write h t u x here in record { key = found.0; first = or_left (writes t found.0 x) _ found.1; second = found.2 }
  | inr later ↦ let found = shared_in h xs t u later in record { key = found.key; first = or_right (writes t found.key x) _ found.first; second = found.second }
]

pub any_is_shared : (h : List Item) (t u : ℕ) → list_any (λ x. writes_shared h t u x) h ≡ true → ShareKey h t u
any_is_shared h t u e = let found = shared_in h h t u e in record {
  key = found.key;
  first = some_is (last_write h t found.key) (sym (any_writes h t found.key) ∙ found.first);
  second = some_is (last_write h u found.key) (sym (any_writes h u found.key) ∙ found.second);
}
