-- The writers of a key stand side by side in the order of all versions.
use Rattle.std.proofs.Common.{◌≡◌, ◌≢◌, ℕ, zero, suc, ◌<◌, ◌≤◌, ◌==◌, ◌⊎◌, Bool, true, false, List, [], ◌∷◌, Some, slice_get, inl, inr, refl, sym, ap, ◌∙◌, arith}
use Rattle.std.proofs.lemmas.Bool.{eqb-true}
use Rattle.std.proofs.lemmas.Option.{same_Some}
use Rattle.outer_reads.specs.declared.writings.Writing.{Writing}
use Rattle.stamp_check.specs.Orders.{orders_of, kept}

pub record KeysRise (order : List Writing) : Type 0 where
  pub rise : (i j : ℕ) (a b : Writing) → i ≤ j → slice_get order i ≡ Some a → slice_get order j ≡ Some b → a.key ≤ b.key

-- t is a writer of k in the order
pub record Stands (order : List Writing) (k t : ℕ) : Type 0 where
  pub place : ℕ
  pub version : Writing
  pub at : slice_get order place ≡ Some version
  pub key : version.key ≡ k
  pub writer : version.txn ≡ t

-- and the first one
pub record StandsFirst (order : List Writing) (k t : ℕ) : Type 0 where
  pub stands : Stands order k t
  pub none : (i : ℕ) (a : Writing) → i < stands.place → slice_get order i ≡ Some a → a.key ≢ k

-- and u is the next one
pub record StandsNext (order : List Writing) (k t u : ℕ) : Type 0 where
  pub first : Stands order k t
  pub version : Writing
  pub at : slice_get order (suc first.place) ≡ Some version
  pub key : version.key ≡ k
  pub writer : version.txn ≡ u

test_true : (a b : ℕ) → a ≡ b → (a == b) ≡ true
test_true a b same = by (a == b) refl
  where
    by : (c : Bool) → (a == b) ≡ c → (a == b) ≡ true
    by true is = is
    by false is = grind (arith, is, same)

abbrev pub later : (x : Writing) (xs : List Writing) (k t : ℕ) → Stands xs k t → Stands (x ∷ xs) k t
later x xs k t s = record { place = suc s.place; version = s.version; at = s.at; key = s.key; writer = s.writer }

kept_at : (b : Bool) (t : ℕ) (rest : List ℕ) (u : ℕ) → ((p : ℕ) × (slice_get rest p ≡ Some u)) → (p : ℕ) × (slice_get (kept b t rest) p ≡ Some u)
kept_at true t rest u there = (suc there.0, there.1)
kept_at false t rest u there = there

pub in_orders : (order : List Writing) (k i : ℕ) (w : Writing) → slice_get order i ≡ Some w → w.key ≡ k → (p : ℕ) × (slice_get (orders_of order k) p ≡ Some w.txn)
unfolding orders_of
in_orders [] k i w at key = absurd (cc)
in_orders (x ∷ xs) k zero w at key = by (x.key == k) (let same = same_Some x w at in test_true x.key k (ap (λ (y : Writing). y.key) same ∙ key))
  where
    by : (b : Bool) → b ≡ true → (p : ℕ) × (slice_get (kept b x.txn (orders_of xs k)) p ≡ Some w.txn)
    by true is = (0, ap (λ (y : Writing). Some y.txn) (same_Some x w at))
    by false is = absurd (cc)
in_orders (x ∷ xs) k (suc i) w at key = kept_at (x.key == k) x.txn (orders_of xs k) w.txn (in_orders xs k i w at key)

pub of_orders : (order : List Writing) (k p t : ℕ) → slice_get (orders_of order k) p ≡ Some t → Stands order k t
unfolding orders_of
of_orders [] k p t at = absurd (cc)
of_orders (x ∷ xs) k p t at = by (x.key == k) refl p at (λ q there. of_orders xs k q t there)
  where
    by : (b : Bool) → (x.key == k) ≡ b → (p : ℕ) → slice_get (kept b x.txn (orders_of xs k)) p ≡ Some t → ((q : ℕ) → slice_get (orders_of xs k) q ≡ Some t → Stands xs k t) → Stands (x ∷ xs) k t
    by true is zero at rest = record { place = 0; version = x; at = refl; key = eqb-true x.key k is; writer = same_Some x.txn t at }
    by true is (suc p) at rest = later x xs k t (rest p at)
    by false is p at rest = later x xs k t (rest p at)

pub first_of_orders : (order : List Writing) (k t : ℕ) → slice_get (orders_of order k) 0 ≡ Some t → StandsFirst order k t
unfolding orders_of
first_of_orders [] k t at = absurd (cc)
first_of_orders (x ∷ xs) k t at = by (x.key == k) refl at (λ there. first_of_orders xs k t there)
  where
    by : (b : Bool) → (x.key == k) ≡ b → slice_get (kept b x.txn (orders_of xs k)) 0 ≡ Some t → (slice_get (orders_of xs k) 0 ≡ Some t → StandsFirst xs k t) → StandsFirst (x ∷ xs) k t
    by true is at rest = record { stands = record { place = 0; version = x; at = refl; key = eqb-true x.key k is; writer = same_Some x.txn t at }; none = λ i a low at_i. absurd (omega (arith, low)) }
    by false is at rest = let f = rest at in record { stands = later x xs k t f.stands; none = none f }
      where
        none : (f : StandsFirst xs k t) → (i : ℕ) (a : Writing) → i < suc f.stands.place → slice_get (x ∷ xs) i ≡ Some a → a.key ≢ k
        none f zero a low at_i key = let same = same_Some x a at_i in let yes = test_true x.key k (ap (λ (y : Writing). y.key) same ∙ key) in absurd (cc)
        none f (suc i) a low at_i key = f.none i a (omega (arith, low)) at_i key

tail_rises : (x : Writing) (xs : List Writing) → KeysRise (x ∷ xs) → KeysRise xs
tail_rises x xs rises = record { rise = λ i j a b most at_a at_b. rises.rise (suc i) (suc j) a b (omega (arith, most)) at_a at_b }

place_before : (xs : List Writing) (p : ℕ) (u : Writing) → slice_get xs p ≡ Some u → (x : Writing) × (slice_get xs 0 ≡ Some x)
place_before [] p u e = absurd (cc)
place_before (x ∷ xs) p u e = (x, refl)

-- the first of a key behind one of the key is the next place's
beside : (x : Writing) (xs : List Writing) (k u : ℕ) → KeysRise (x ∷ xs) → x.key ≡ k → (f : StandsFirst xs k u) → f.stands.place ≡ 0
beside x xs k u rises key f = elim (zero_or_more f.stands.place) [
  | inl none ↦ none
  | inr some ↦
      let head = place_before xs f.stands.place f.stands.version f.stands.at in
      let low = rises.rise 0 1 x head.0 (omega arith) refl head.1 in
      let high = rises.rise 1 (suc f.stands.place) head.0 f.stands.version (omega arith) head.1 f.stands.at in
      let last = f.stands.key in
      absurd (f.none 0 head.0 some head.1 (omega (arith, low, high, last, key)))
]
  where
    zero_or_more : (n : ℕ) → (n ≡ 0) ⊎ (0 < n)
    zero_or_more n = grind arith

pub next_of_orders : (order : List Writing) (k p t u : ℕ) → KeysRise order → slice_get (orders_of order k) p ≡ Some t → slice_get (orders_of order k) (suc p) ≡ Some u → StandsNext order k t u
unfolding orders_of
next_of_orders [] k p t u rises at_t at_u = absurd (cc)
next_of_orders (x ∷ xs) k p t u rises at_t at_u = by (x.key == k) refl p at_t at_u (λ q a b. next_of_orders xs k q t u (tail_rises x xs rises) a b)
  where
    further : StandsNext xs k t u → StandsNext (x ∷ xs) k t u
    further n = record { first = later x xs k t n.first; version = n.version; at = n.at; key = n.key; writer = n.writer }

    side : x.key ≡ k → x.txn ≡ t → StandsFirst xs k u → StandsNext (x ∷ xs) k t u
    side key writer f = record {
      first = record { place = 0; version = x; at = refl; key = key; writer = writer };
      version = f.stands.version;
      at = ap (λ (n : ℕ). slice_get xs n) (sym (beside x xs k u rises key f)) ∙ f.stands.at;
      key = f.stands.key;
      writer = f.stands.writer;
    }

    by : (b : Bool) → (x.key == k) ≡ b → (p : ℕ) → slice_get (kept b x.txn (orders_of xs k)) p ≡ Some t → slice_get (kept b x.txn (orders_of xs k)) (suc p) ≡ Some u →
        ((q : ℕ) → slice_get (orders_of xs k) q ≡ Some t → slice_get (orders_of xs k) (suc q) ≡ Some u → StandsNext xs k t u) → StandsNext (x ∷ xs) k t u
    by true is zero at_t at_u rest = side (eqb-true x.key k is) (same_Some x.txn t at_t) (first_of_orders xs k u at_u)
    by true is (suc p) at_t at_u rest = further (rest p at_t at_u)
    by false is p at_t at_u rest = further (rest p at_t at_u)
