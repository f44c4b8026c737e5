-- The shared key that is told, with the last write of both at it.
use Rattle.std.proofs.Common.{◌≡◌, ◌<◌, ◌==◌, ◌&&◌, ℕ, zero, suc, Bool, true, false, if◌then◌else◌, List, [], ◌∷◌, Option, Some, None, is_some, inl, inr, refl, sym, ap, subst, ◌∙◌, arith}
use Rattle.std.specs.Prelude.{slice_get, IsSomeAnd}
use Rattle.std.specs.List.{list_any}
use Rattle.std.proofs.lemmas.Bool.{eqb-true, eq-eqb, or_cases, and_parts}
use Rattle.history_book.specs.Isolation.{Wrote, written_by}
use Rattle.history_book.specs.declared.item.Item.{Item}
use Rattle.history_book.specs.declared.item.Item.TheVariants.{Write}
use Rattle.isolation_rules.specs.ApartPairs.{ShareKey}
use Rattle.isolation_rules.specs.ApartPairs as pairs
use Rattle.isolation_rules.specs.ReadPairs.{written_at}
use Rattle.isolation_rules.proofs.KeyLemmas.{any_writes}
use Rattle.refusal_reasons.specs.declared.clue.Clue.TheVariants as clue
use Rattle.refusal_reasons.specs.Clues.{fits, writes}
use Rattle.refusal_reasons.proofs.SeekLemmas.{Found, IsLast, found, last_is}
use Rattle.breach_reasons.specs.Breaches.{is_shared, shared_place}
use Rattle.breach_reasons.specs.Kinds.{write_place}
use Rattle.breach_reasons.specs.Told.{IsSharedAt, IsWriteAt}

-- ---- an item that writes, and what it writes
value_if : (b : Bool) (value : List ℕ) → b ≡ true → (if b then Some value else None) ≡ Some value
value_if b value e = rw e refl

none_if : (b : Bool) (value : List ℕ) → b ≡ false → (if b then Some value else None) ≡ None
none_if b value e = rw e refl

value_of : (t k : ℕ) (x : Item) → writes t k x ≡ true → (value : List ℕ) × (written_by t k x ≡ Some value)
value_of t k (Write session start key value) e = (value, value_if ((start == t) && (key == k)) value e)
value_of t k _ e = absurd cc

none_of : (t k : ℕ) (x : Item) → writes t k x ≡ false → written_by t k x ≡ None
none_of t k (Write session start key value) e = none_if ((start == t) && (key == k)) value e
none_of t k _ e = refl

-- ---- the last such item is the last write
none_at : (h : List Item) (t k place : ℕ) (there : Option Item) → slice_get h place ≡ there → ((x : Item) → there ≡ Some x → writes t k x ≡ false) → written_at h t k place ≡ None
none_at h t k place None is fails = rw is refl
none_at h t k place (Some x) is fails = rw is (none_of t k x (fails x refl))

write_at : (h : List Item) (t k place : ℕ) (x : Item) → slice_get h place ≡ Some x → writes t k x ≡ true
    → ((later : ℕ) (y : Item) → place < later → slice_get h later ≡ Some y → writes t k y ≡ false) → IsWriteAt h t k place
write_at h t k place x stands fits last =
    let wrote = value_of t k x fits in
    record {
      value = wrote.0;
      is = record { wrote = rw stands wrote.1; last = λ later less. none_at h t k later (slice_get h later) refl (λ y is. last later y less is) };
    }

pub write_found : (h : List Item) (t k place : ℕ) → IsLast (fits (clue.Wrote t k)) h 0 place → IsWriteAt h t k place
write_found h t k place last = write_at h t k place last.item last.stands last.fits last.last

-- ---- where a key was written, the write is found
any_place : (test : Item → Bool) (h : List Item) → list_any test h ≡ true → (place : ℕ) × (x : Item) × (slice_get h place ≡ Some x) × (test x ≡ true)
any_place test [] e = absurd cc
any_place test (x ∷ xs) e = elim (or_cases (test x) (list_any test xs) e) [
  | inl here ↦ (zero, x, refl, here)
  | inr later ↦ let deeper = any_place test xs later in (suc deeper.0, deeper.1, deeper.2, deeper.3)
]

same_test : (t k : ℕ) (x : Item) → pairs.writes t k x ≡ true → writes t k x ≡ true
same_test t k (Write session start key value) e = e
same_test t k _ e = absurd cc

writer : (h : List Item) (t k : ℕ) (value : List ℕ) → Wrote h t k value → (place : ℕ) × (x : Item) × (slice_get h place ≡ Some x) × (writes t k x ≡ true)
writer h t k value wrote =
    let one = any_place (λ x. pairs.writes t k x) h (any_writes h t k ∙ ap is_some wrote) in
    (one.0, one.1, one.2, same_test t k one.1 one.3)

place_is : (h : List Item) (t k : ℕ) (value : List ℕ) → Wrote h t k value → Found (fits (clue.Wrote t k)) h 0
place_is h t k value wrote = let one = writer h t k value wrote in found (fits (clue.Wrote t k)) h 0 one.0 one.1 (omega arith) one.2 one.3

-- ---- a write of a key that the other writes
and_both : (a b : Bool) → a ≡ true → b ≡ true → (a && b) ≡ true
and_both a b ea eb = rw (ea, eb) refl

shares : (h : List Item) (t u k : ℕ) (x : Item) → is_some (write_place h u k) ≡ true → writes t k x ≡ true → is_shared h t u x ≡ true
shares h t u k (Write session start key value) other here =
    let parts = and_parts (start == t) (key == k) here in
    and_both (start == t) _ parts.0 (subst (λ (n : ℕ). is_some (write_place h u n) ≡ true) (sym (eqb-true key k parts.1)) other)
shares h t u k _ other here = absurd cc

by_no_share : (h : List Item) (t u k : ℕ) (x : Item) (b : Bool) → writes t k x ≡ b → is_some (write_place h u k) ≡ true → is_shared h t u x ≡ false → b ≡ false
by_no_share h t u k x true here other none = let share : is_shared h t u x ≡ true = shares h t u k x other here in absurd cc
by_no_share h t u k x false here other none = refl

other_write : (h : List Item) (u k : ℕ) (place : Option ℕ) → write_place h u k ≡ place → is_some place ≡ true → IsSomeAnd place (IsWriteAt h u k)
other_write h u k None is some = absurd cc
other_write h u k (Some place) is some = write_found h u k place (last_is (fits (clue.Wrote u k)) h 0 place is)

shared_by : (h : List Item) (t u place : ℕ) (x : Item) → slice_get h place ≡ Some x → is_shared h t u x ≡ true
    → ((later : ℕ) (y : Item) → place < later → slice_get h later ≡ Some y → is_shared h t u y ≡ false) → IsSharedAt h t u place
shared_by h t u place (Write session start key value) stands fits last =
    let parts = and_parts (start == t) (is_some (write_place h u key)) fits in
    record {
      key = key;
      own = write_at h t key place (Write session start key value) stands (and_both (start == t) (key == key) parts.0 (eq-eqb key key refl))
          (λ later y less is. by_no_share h t u key y (writes t key y) refl parts.1 (last later y less is));
      other = other_write h u key (write_place h u key) refl parts.1;
    }
shared_by h t u place _ stands fits last = absurd cc

pub shared_told : (h : List Item) (t u : ℕ) → ShareKey h t u → IsSomeAnd (shared_place h t u) (IsSharedAt h t u)
shared_told h t u share =
    let one = writer h t share.key share.first.0 share.first.1 in
    let other = place_is h u share.key share.second.0 share.second.1 in
    let some : is_some (write_place h u share.key) ≡ true = rw other.is refl in
    let at = found (is_shared h t u) h 0 one.0 one.1 (omega arith) one.2 (shares h t u share.key one.1 some one.3) in
    subst (λ (o : Option ℕ). IsSomeAnd o (IsSharedAt h t u)) (sym at.is) (shared_by h t u at.place at.last.item at.last.stands at.last.fits at.last.last)
