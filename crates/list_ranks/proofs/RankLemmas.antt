-- Ranks behind others.
use Rattle.std.proofs.Common.{◌≡◌, ℕ, zero, suc, ◌+◌, ◌<◌, ◌≤◌, ◌==◌, ◌&&◌, ◌||◌, ◌⊎◌, nat_lt, Bool, true, false, List, [], ◌∷◌, ◌++◌, Option, Some, None, length, slice_get, inl, inr, refl, sym, subst, ap, ◌∙◌, arith}
use Rattle.std.specs.List.{list_any}
use Rattle.std.proofs.lemmas.Bool.{eqb-true}
use Rattle.std.proofs.lemmas.List.Folds.{list_any_at}
use Rattle.std.proofs.lemmas.Option.{slice_get_within, get_or_from_slice_get}
use Rattle.trace_rules.specs.Stamping.{Stamping, Start, Commit, Keeps}
use Rattle.version_ranks.specs.declared.rank.Rank.{Rank}
use Rattle.version_ranks.specs.Ranks.{by_rank, comes_first, is_lower}

-- ---- lists behind lists
pub in_front : {X : Type 0} (xs ys : List X) (i : ℕ) (x : X) → slice_get xs i ≡ Some x → slice_get (xs ++ ys) i ≡ Some x
in_front [] ys i x at = absurd (cc)
in_front (y ∷ xs) ys zero x at = at
in_front (y ∷ xs) ys (suc i) x at = in_front xs ys i x at

pub behind : {X : Type 0} (xs ys : List X) (i : ℕ) (x : X) → slice_get ys i ≡ Some x → (p : ℕ) × (slice_get (xs ++ ys) p ≡ Some x)
behind [] ys i x at = (i, at)
behind (y ∷ xs) ys i x at = let there = behind xs ys i x at in (suc there.0, there.1)

pub parted : {X : Type 0} (xs ys : List X) (p : ℕ) (x : X) → slice_get (xs ++ ys) p ≡ Some x → (slice_get xs p ≡ Some x) ⊎ ((i : ℕ) × (slice_get ys i ≡ Some x))
parted [] ys p x at = inr (p, at)
parted (y ∷ xs) ys zero x at = inl at
parted (y ∷ xs) ys (suc p) x at = parted xs ys p x at

-- ---- an order that is told

and_parts : (a b : Bool) → a && b ≡ true → (a ≡ true) × (b ≡ true)
and_parts true b e = (refl, e)
and_parts false b e = absurd (cc)

both : (a b : Bool) → a ≡ true → b ≡ true → a && b ≡ true
both a b p q = cc

same_number : (n : ℕ) → (n == n) ≡ true
same_number n = grind arith

found_by : (p : Rank → Bool) (xs : List Rank) → list_any p xs ≡ true → (i : ℕ) × (x : Rank) × (slice_get xs i ≡ Some x) × (p x ≡ true)
found_by p [] e = absurd (cc)
found_by p (x ∷ xs) e = elim (parts (p x) (list_any p xs) e) [
  | inl here ↦ (0, x, refl, here)
  | inr later ↦ let r = found_by p xs later in (suc r.0, r.1, r.2, r.3)
]
  where
    parts : (a b : Bool) → a || b ≡ true → (a ≡ true) ⊎ (b ≡ true)
    parts true b e = inl refl
    parts false b e = inr e

any_at : (p : Rank → Bool) (xs : List Rank) (i : ℕ) (x : Rank) → slice_get xs i ≡ Some x → p x ≡ true → list_any p xs ≡ true
any_at p xs i x at e = list_any_at p xs i x (slice_get_within xs i x at) (ap p (get_or_from_slice_get xs i x x at) ∙ e)

-- two ranks of one key, the first lower
pub record ArePair (ranks : List Rank) (t u : ℕ) : Type 0 where
  pub i : ℕ
  pub j : ℕ
  pub a : Rank
  pub b : Rank
  pub at_a : slice_get ranks i ≡ Some a
  pub at_b : slice_get ranks j ≡ Some b
  pub first : a.txn ≡ t
  pub second : b.txn ≡ u
  pub key : a.key ≡ b.key
  pub less : a.version < b.version

less_of : (a b : ℕ) → nat_lt a b ≡ true → a < b
less_of a b e = grind (arith, e)

lower_of : (a b : ℕ) → a < b → nat_lt a b ≡ true
lower_of a b less = by (nat_lt a b) refl
  where
    by : (c : Bool) → nat_lt a b ≡ c → nat_lt a b ≡ true
    by true is = is
    by false is = grind (arith, is, less)

pub pair_by : (ranks : List Rank) (t u : ℕ) → comes_first ranks t u ≡ true → ArePair ranks t u
pair_by ranks t u e =
    let one = found_by (λ a. (a.txn == t) && list_any (λ b. (b.txn == u) && is_lower a b) ranks) ranks e in
    let parts = and_parts (one.1.txn == t) (list_any (λ b. (b.txn == u) && is_lower one.1 b) ranks) one.3 in
    let two = found_by (λ b. (b.txn == u) && is_lower one.1 b) ranks parts.1 in
    let more = and_parts (two.1.txn == u) (is_lower one.1 two.1) two.3 in
    let last = and_parts (one.1.key == two.1.key) (nat_lt one.1.version two.1.version) more.1 in
    record {
      i = one.0;
      j = two.0;
      a = one.1;
      b = two.1;
      at_a = one.2;
      at_b = two.2;
      first = eqb-true one.1.txn t parts.0;
      second = eqb-true two.1.txn u more.0;
      key = eqb-true one.1.key two.1.key last.0;
      less = less_of one.1.version two.1.version last.1;
    }

pub pair_comes : (ranks : List Rank) (t u : ℕ) → ArePair ranks t u → comes_first ranks t u ≡ true
pair_comes ranks t u r =
    subst (λ (x : ℕ). comes_first ranks x u ≡ true) r.first
    (subst (λ (y : ℕ). comes_first ranks r.a.txn y ≡ true) r.second
    (any_at (λ x. (x.txn == r.a.txn) && list_any (λ y. (y.txn == r.b.txn) && is_lower x y) ranks) ranks r.i r.a r.at_a
    (both (r.a.txn == r.a.txn) (list_any (λ y. (y.txn == r.b.txn) && is_lower r.a y) ranks) (same_number r.a.txn)
    (any_at (λ y. (y.txn == r.b.txn) && is_lower r.a y) ranks r.j r.b r.at_b
    (both (r.b.txn == r.b.txn) (is_lower r.a r.b) (same_number r.b.txn)
    (both (r.a.key == r.b.key) (nat_lt r.a.version r.b.version) (subst (λ (k : ℕ). (r.a.key == k) ≡ true) r.key (same_number r.a.key)) (lower_of r.a.version r.b.version r.less)))))))

-- what keeps the order of more ranks keeps that of these
pub kept_in_front : (versions ranks : List Rank) (st : Stamping) → Keeps (by_rank (versions ++ ranks)) st → Keeps (by_rank versions) st
kept_in_front versions ranks st keeps (Commit t) (Start u) e =
    let r = pair_by versions t u e in
    keeps (Commit t) (Start u) (pair_comes (versions ++ ranks) t u (record {
      i = r.i;
      j = r.j;
      a = r.a;
      b = r.b;
      at_a = in_front versions ranks r.i r.a r.at_a;
      at_b = in_front versions ranks r.j r.b r.at_b;
      first = r.first;
      second = r.second;
      key = r.key;
      less = r.less;
    }))
kept_in_front versions ranks st keeps (Commit t) (Commit u) e = absurd (cc)
kept_in_front versions ranks st keeps (Start t) y e = absurd (cc)

-- all its parts
pub rank_is : (r : Rank) (key version txn : ℕ) → r.key ≡ key → r.version ≡ version → r.txn ≡ txn → r ≡ record { key = key; version = version; txn = txn }
rank_is r key version txn a b c = rw (sym a, sym b, sym c) refl
