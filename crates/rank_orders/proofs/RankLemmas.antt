-- Why edges of the order of versions that is told hold, and why numbers that rise keep it.
use Rattle.std.proofs.Common.{◌≡◌, ℕ, zero, suc, ◌+◌, ◌*◌, ◌<◌, ◌≤◌, ◌==◌, ◌&&◌, ◌||◌, ◌⊎◌, nat_lt, Bool, true, false, List, [], ◌∷◌, ◌++◌, Option, Some, None, length, slice_get, get_or, inl, inr, refl, sym, subst, ap, ◌∙◌, arith}
use Rattle.std.specs.List.{list_any}
use Rattle.std.proofs.lemmas.Bool.{eqb-true}
use Rattle.std.proofs.lemmas.List.Folds.{list_any_at}
use Rattle.std.proofs.lemmas.Option.{slice_get_within, get_or_from_slice_get}
use Rattle.trace_rules.specs.declared.trace.Operation.{Operation}
use Rattle.trace_rules.specs.declared.trace.Transaction.{Transaction}
use Rattle.trace_rules.specs.declared.wanted.Level.{Level}
use Rattle.trace_rules.specs.declared.wanted.Level.TheVariants.{Snapshot, Serializable}
use Rattle.trace_rules.specs.declared.wanted.Times.{Times}
use Rattle.trace_rules.specs.declared.wanted.Wanted.{Wanted}
use Rattle.trace_rules.specs.Trace.{committed_in}
use Rattle.trace_rules.specs.Stamping.{Asked, Point, Start, Commit, Keeps}
use Rattle.trace_rules.specs.Below.{Below, Wanted as AskedFor}
use Rattle.trace_rules.specs.Wants.{asked_of}
use Rattle.rising_numbers.specs.declared.Edge.{Edge}
use Rattle.rising_numbers.specs.Rises.{AreWithin}
use Rattle.outer_reads.specs.Sources.{trace_of}
use Rattle.outer_reads.proofs.ListLemmas.{get_push_cases}
use Rattle.trace_edges.specs.Edges.{starts_of, point_of, MayLay, LeftOut, LaidOn}
use Rattle.trace_edges.proofs.EdgeLemmas.{at_start, from_commit, lower}
use Rattle.stamp_check.proofs.StampLemmas.{spread_less}
use Rattle.asked_orders.specs.declared.edges.Nodes.{Nodes}
use Rattle.asked_orders.specs.Joins.{moments_for}
use Rattle.asked_orders.specs.Keeps.{stamping_of}
use Rattle.asked_orders.specs.Laid.{StillJoined}
use Rattle.asked_orders.proofs.JoinLemmas.{below_always, join_laid, points_join}
use Rattle.version_ranks.specs.declared.rank.Rank.{Rank}
use Rattle.version_ranks.specs.Ranks.{asked_with, by_rank, comes_first, is_lower}
use Rattle.rank_orders.specs.declared.rise.Height.{Height}
use Rattle.rank_orders.specs.Rise.{IsRanked, RanksRise, IsUnder, AreUnder, IsRaised, IsTopped, TakesRank}

or_parts : (a b : Bool) → a || b ≡ true → (a ≡ true) ⊎ (b ≡ true)
or_parts true b e = inl refl
or_parts false b e = inr e

and_parts : (a b : Bool) → a && b ≡ true → (a ≡ true) × (b ≡ true)
and_parts true b e = (refl, e)
and_parts false b e = absurd (cc)

both : (a b : Bool) → a ≡ true → b ≡ true → a && b ≡ true
both a b p q = cc

or_left : (a b : Bool) → a ≡ true → a || b ≡ true
or_left a b p = cc

same_number : (n : ℕ) → (n == n) ≡ true
same_number n = grind arith

found_by : (p : Rank → Bool) (xs : List Rank) → list_any p xs ≡ true → (i : ℕ) × (x : Rank) × (slice_get xs i ≡ Some x) × (p x ≡ true)
found_by p [] e = absurd (cc)
found_by p (x ∷ xs) e = elim (or_parts (p x) (list_any p xs) e) [
  | inl here ↦ (0, x, refl, here)
  | inr behind ↦ let r = found_by p xs behind in (suc r.0, r.1, r.2, r.3)
]

any_at : (p : Rank → Bool) (xs : List Rank) (i : ℕ) (x : Rank) → slice_get xs i ≡ Some x → p x ≡ true → list_any p xs ≡ true
any_at p xs i x at e = list_any_at p xs i x (slice_get_within xs i x at) (ap p (get_or_from_slice_get xs i x x at) ∙ e)

-- two ranks of one key, the first lower
record AreRanked (ranks : List Rank) (t u : ℕ) : Type 0 where
  i : ℕ
  j : ℕ
  a : Rank
  b : Rank
  at_a : slice_get ranks i ≡ Some a
  at_b : slice_get ranks j ≡ Some b
  first : a.txn ≡ t
  second : b.txn ≡ u
  key : a.key ≡ b.key
  less : a.version < b.version

less_of : (a b : ℕ) → nat_lt a b ≡ true → a < b
less_of a b e = grind (arith, e)

ranked_by : (ranks : List Rank) (t u : ℕ) → comes_first ranks t u ≡ true → AreRanked ranks t u
ranked_by ranks t u e =
    let one = found_by (λ a. (a.txn == t) && list_any (λ b. (b.txn == u) && is_lower a b) ranks) ranks e in
    let parts = and_parts (one.1.txn == t) (list_any (λ b. (b.txn == u) && is_lower one.1 b) ranks) one.3 in
    let two = found_by (λ b. (b.txn == u) && is_lower one.1 b) ranks parts.1 in
    let more = and_parts (two.1.txn == u) (is_lower one.1 two.1) two.3 in
    let last = and_parts (one.1.key == two.1.key) (nat_lt one.1.version two.1.version) more.1 in
    record {
      i = one.0;
      j = two.0;
      a = one.1;
      b = two.1;
      at_a = one.2;
      at_b = two.2;
      first = eqb-true one.1.txn t parts.0;
      second = eqb-true two.1.txn u more.0;
      key = eqb-true one.1.key two.1.key last.0;
      less = less_of one.1.version two.1.version last.1;
    }

first_comes : (ranks : List Rank) (i j : ℕ) (a b : Rank) → slice_get ranks i ≡ Some a → slice_get ranks j ≡ Some b → a.key ≡ b.key → a.version < b.version → comes_first ranks a.txn b.txn ≡ true
first_comes ranks i j a b at_a at_b key less =
    any_at (λ x. (x.txn == a.txn) && list_any (λ y. (y.txn == b.txn) && is_lower x y) ranks) ranks i a at_a
    (both (a.txn == a.txn) (list_any (λ y. (y.txn == b.txn) && is_lower a y) ranks) (same_number a.txn)
    (any_at (λ y. (y.txn == b.txn) && is_lower a y) ranks j b at_b
    (both (b.txn == b.txn) (is_lower a b) (same_number b.txn)
    (both (a.key == b.key) (nat_lt a.version b.version) (subst (λ (k : ℕ). (a.key == k) ≡ true) key (same_number a.key)) (lower a.version b.version less)))))

-- ---- edges
pub rank_still : (transactions : List Transaction) (ranks : List Rank) (starts points : ℕ) (old new : List Edge) (edge : Edge) → MayLay points edge old new → IsRanked transactions ranks starts edge →
    (level : Level) (wanted : Wanted) (times : List Times) (chain : List ℕ) → StillJoined level (asked_with wanted level times ranks) (moments_for wanted level times) transactions starts points chain old new
rank_still transactions ranks starts points old new edge may r level wanted times chain operations is joined =
    join_laid level (asked_with wanted level times ranks (trace_of transactions operations)) (moments_for wanted level times) (trace_of transactions operations) starts points points chain old new edge may
    (λ low high. points_join level (asked_with wanted level times ranks (trace_of transactions operations)) (moments_for wanted level times) (trace_of transactions operations) starts points chain edge.from edge.to low high
    (below_always level (asked_with wanted level times ranks (trace_of transactions operations)) (trace_of transactions operations) (point_of starts edge.from) (point_of starts edge.to)
    (subst (λ (x : ℕ). Below level (asked_with wanted level times ranks (trace_of transactions operations)) (trace_of transactions operations) (point_of starts x) (point_of starts edge.to)) (sym r.from)
    (subst (λ (y : ℕ). Below level (asked_with wanted level times ranks (trace_of transactions operations)) (trace_of transactions operations) (point_of starts (starts + r.a.txn)) (point_of starts y)) (sym r.to)
    (from_commit level (asked_with wanted level times ranks (trace_of transactions operations)) (trace_of transactions operations) starts is r.a.txn r.b.txn
    (at_start level (asked_with wanted level times ranks (trace_of transactions operations)) (trace_of transactions operations) starts is r.b.txn (Commit r.a.txn) r.done
    (AskedFor (or_left (comes_first ranks r.a.txn r.b.txn) (asked_of wanted level times (trace_of transactions operations) (Commit r.a.txn) (Start r.b.txn)) (first_comes ranks r.i r.j r.a r.b r.at_a r.at_b r.key r.lower)))))))))
    joined

pub rank_within : (points all : ℕ) (old new : List Edge) (edge : Edge) → MayLay points edge old new → points ≤ all → AreWithin all old → AreWithin all new
rank_within points all old new edge (LeftOut same) room within = subst (λ (es : List Edge). AreWithin all es) (sym same) within
rank_within points all old new edge (LaidOn same low high) room within = subst (λ (es : List Edge). AreWithin all es) (sym same) (record {
  from = λ place e at. elim (get_push_cases old edge place e at) [ inl before ↦ within.from place e before | inr last ↦ subst (λ (x : Edge). x.from < all) last (omega (arith, low, room)) ];
  to = λ place e at. elim (get_push_cases old edge place e at) [ inl before ↦ within.to place e before | inr last ↦ subst (λ (x : Edge). x.to < all) last (omega (arith, high, room)) ];
})

-- ---- numbers
push_cases : (xs : List Rank) (r : Rank) (i : ℕ) (x : Rank) → slice_get (xs ++ r ∷ []) i ≡ Some x → (slice_get xs i ≡ Some x) ⊎ (r ≡ x)
push_cases [] r zero x at = inr (cc)
push_cases [] r (suc i) x at = absurd (cc)
push_cases (y ∷ xs) r zero x at = inl at
push_cases (y ∷ xs) r (suc i) x at = push_cases xs r i x at

pub takes_rank : (count starts : ℕ) (numbers : List ℕ) (old raised new : Height) (rank : Rank) → IsRaised old rank raised → rank.txn < count → raised.under ≤ get_or numbers rank.txn 0 → IsTopped raised (get_or numbers (starts + rank.txn) 0) new →
    TakesRank count starts numbers old rank new
takes_rank count starts numbers old raised new rank up within most top before rise under = (
  record {
    within = λ i a at. elim (push_cases before rank i a at) [ inl there ↦ rise.within i a there | inr here ↦ subst (λ (x : Rank). x.txn < count) here within ];
    rises = pair;
  },
  record { each = λ i a at. elim (push_cases before rank i a at) [ inl there ↦ still a (up.still starts numbers a (under.each i a there)) | inr here ↦ subst (λ (x : Rank). IsUnder starts numbers new x) here own ] },
)
  where
    still : (a : Rank) → IsUnder starts numbers raised a → IsUnder starts numbers new a
    still a u = record {
      key = let k = u.key in let e = top.key in omega (arith, k, e);
      version = λ same. let v = u.version (same ∙ top.key) in let e = top.version in omega (arith, v, e);
      upto = λ same. let v = u.upto (same ∙ top.key) in let e = top.least in omega (arith, v, e);
      under = λ same less. let v = u.under (same ∙ top.key) (let e = top.version in omega (arith, less, e)) in let e = top.under in omega (arith, v, e);
    }

    own : IsUnder starts numbers new rank
    own = record {
      key = let k = up.key in let e = top.key in omega (arith, k, e);
      version = λ same. let v = up.version in let e = top.version in omega (arith, v, e);
      upto = λ same. top.above;
      under = λ same less. let v = up.version in let e = top.version in absurd (omega (arith, less, v, e));
    }

    ahead : (i : ℕ) (a : Rank) → slice_get before i ≡ Some a → a.key ≡ rank.key → a.version < rank.version → get_or numbers (starts + a.txn) 0 < get_or numbers rank.txn 0
    ahead i a at key less =
        let low : get_or numbers (starts + a.txn) 0 < raised.under = (up.still starts numbers a (under.each i a at)).under (key ∙ sym up.key) (let e = up.version in omega (arith, less, e)) in
        omega (arith, low, most)

    back : (i : ℕ) (b : Rank) → slice_get before i ≡ Some b → rank.key ≡ b.key → rank.version < b.version → ⊥
    back i b at key less =
        let low : b.version ≤ raised.version = (up.still starts numbers b (under.each i b at)).version (sym key ∙ sym up.key) in
        let e = up.version in
        absurd (omega (arith, low, less, e))

    pair : (i j : ℕ) (a b : Rank) → slice_get (before ++ rank ∷ []) i ≡ Some a → slice_get (before ++ rank ∷ []) j ≡ Some b → a.key ≡ b.key → a.version < b.version → get_or numbers (starts + a.txn) 0 < get_or numbers b.txn 0
    pair i j a b at_a at_b key less = elim (push_cases before rank i a at_a) [
      | inl there ↦ elim (push_cases before rank j b at_b) [
        | inl too ↦ rise.rises i j a b there too key less
        | inr last ↦ subst (λ (x : Rank). get_or numbers (starts + a.txn) 0 < get_or numbers x.txn 0) last
            (ahead i a there (subst (λ (x : Rank). a.key ≡ x.key) (sym last) key) (subst (λ (x : Rank). a.version < x.version) (sym last) less))
      ]
      | inr here ↦ elim (push_cases before rank j b at_b) [
        | inl too ↦ absurd (back j b too (subst (λ (x : Rank). x.key ≡ b.key) (sym here) key) (subst (λ (x : Rank). x.version < b.version) (sym here) less))
        | inr last ↦ let same : a.version ≡ b.version = ap (λ (x : Rank). x.version) (sym here ∙ last) in absurd (omega (arith, less, same))
      ]
    ]

twice_less : (a b : ℕ) → a < b → suc (a + a) < b + b
twice_less a b less = omega (arith, less)

commit_less : (level : Level) (n : ℕ) (numbers : List ℕ) (t u : ℕ) → t < n → get_or numbers (starts_of level n + t) 0 < get_or numbers u 0 → (stamping_of level n numbers).commit t < (stamping_of level n numbers).start u
commit_less Snapshot n numbers t u low less = spread_less (n + n) (get_or numbers (n + t) 0) (get_or numbers u 0) (n + t) u (omega (arith, low)) less
commit_less Serializable n numbers t u low less =
    twice_less (get_or numbers t 0 * n + t) (get_or numbers u 0 * n + u) (spread_less n (get_or numbers t 0) (get_or numbers u 0) t u low (subst (λ (m : ℕ). get_or numbers m 0 < get_or numbers u 0) (none t) less))
  where
    none : (t : ℕ) → 0 + t ≡ t
    none t = omega arith

pub ranks_kept : (level : Level) (n starts : ℕ) (numbers : List ℕ) (ranks : List Rank) → starts ≡ starts_of level n → RanksRise n starts numbers ranks → Keeps (by_rank ranks) (stamping_of level n numbers)
ranks_kept level n starts numbers ranks is rise (Commit t) (Start u) e =
    let r = ranked_by ranks t u e in
    commit_less level n numbers t u (subst (λ (x : ℕ). x < n) r.first (rise.within r.i r.a r.at_a))
    (subst (λ (s : ℕ). get_or numbers (s + t) 0 < get_or numbers u 0) is
    (subst (λ (x : ℕ). get_or numbers (starts + x) 0 < get_or numbers u 0) r.first
    (subst (λ (y : ℕ). get_or numbers (starts + r.a.txn) 0 < get_or numbers y 0) r.second (rise.rises r.i r.j r.a r.b r.at_a r.at_b r.key r.less))))
ranks_kept level n starts numbers ranks is rise (Commit t) (Commit u) e = absurd (cc)
ranks_kept level n starts numbers ranks is rise (Start t) y e = absurd (cc)
