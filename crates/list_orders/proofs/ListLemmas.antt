-- Why ranks tell lists, and lists tell their order.
use Rattle.std.proofs.Common.{◌≡◌, ◌≢◌, ℕ, zero, suc, ◌+◌, ◌<◌, ◌≤◌, ◌==◌, ◌&&◌, ◌⊎◌, nat_lt, Bool, true, false, List, Option, Some, None, length, slice_get, take, inl, inr, refl, sym, subst, ap, ◌∙◌, arith}
use Rattle.std.specs.List.{list_any}
use Rattle.std.proofs.lemmas.List.Folds.{list_any_at}
use Rattle.std.proofs.lemmas.Option.{same_Some, slice_get_within, get_or_from_slice_get}
use Rattle.trace_rules.specs.declared.trace.Operation.{Operation}
use Rattle.trace_rules.specs.declared.trace.Operation.TheVariants.{Read, Write}
use Rattle.trace_rules.specs.declared.trace.Version.{Version}
use Rattle.trace_rules.specs.declared.wanted.Level.{Level}
use Rattle.trace_rules.specs.declared.wanted.Level.TheVariants.{Snapshot, Serializable}
use Rattle.trace_rules.specs.Trace.{Trace, Done, Writer, ReadAt, last_of}
use Rattle.trace_rules.specs.Stamping.{Stamping, Conflict, Newest, Visible, RightAnswer, IsolatedBy, Keeps, Start, Commit}
use Rattle.version_ranks.specs.declared.rank.Rank.{Rank}
use Rattle.version_ranks.specs.Ranks.{by_rank, is_lower}
use Rattle.list_orders.specs.Lists.{ComesFirst, IsSeen, SeesValues, WriteAt}
use Rattle.list_orders.specs.Told.{IsCutOff, IsRanked, TellsKey}
use Rattle.list_orders.proofs.WriteLemmas.{last_stands, none_before, only_taken, some_last}

pub compare : (a b : ℕ) → (a < b) ⊎ ((a ≡ b) ⊎ (b < a))
compare a b = grind arith

gap : (i j : ℕ) → i < j → (d : ℕ) × (j ≡ suc (d + i))
gap i zero less = absurd (omega (arith, less))
gap i (suc j) less = elim (compare i j) [
  | inl under ↦ let r = gap i j under in let e = r.1 in (suc r.0, omega (arith, e))
  | inr rest ↦ elim rest [
    | inl same ↦ (zero, omega (arith, same))
    | inr over ↦ absurd (omega (arith, less, over))
  ]
]

lower : (a b : ℕ) → a < b → nat_lt a b ≡ true
lower a b less = by (nat_lt a b) refl
  where
    by : (c : Bool) → nat_lt a b ≡ c → nat_lt a b ≡ true
    by true is = is
    by false is = grind (arith, is, less)

both : (a b : Bool) → a ≡ true → b ≡ true → a && b ≡ true
both a b p q = cc

same_number : (n : ℕ) → (n == n) ≡ true
same_number n = grind arith

any_at : (p : Rank → Bool) (xs : List Rank) (i : ℕ) (x : Rank) → slice_get xs i ≡ Some x → p x ≡ true → list_any p xs ≡ true
any_at p xs i x at e = list_any_at p xs i x (slice_get_within xs i x at) (ap p (get_or_from_slice_get xs i x x at) ∙ e)

-- one of a lower number is committed before the other starts
pub rank_first : (ranks : List Rank) (st : Stamping) (k v w t u : ℕ) → Keeps (by_rank ranks) st → IsRanked ranks k v t → IsRanked ranks k w u → v < w → st.commit t < st.start u
rank_first ranks st k v w t u keeps one two less = keeps (Commit t) (Start u)
    (any_at (λ x. (x.txn == t) && list_any (λ y. (y.txn == u) && is_lower x y) ranks) ranks one.place (record { key = k; version = v; txn = t }) one.stands
    (both (t == t) (list_any (λ y. (y.txn == u) && is_lower (record { key = k; version = v; txn = t }) y) ranks) (same_number t)
    (any_at (λ y. (y.txn == u) && is_lower (record { key = k; version = v; txn = t }) y) ranks two.place (record { key = k; version = w; txn = u }) two.stands
    (both (u == u) (is_lower (record { key = k; version = v; txn = t }) (record { key = k; version = w; txn = u })) (same_number u)
    (both (k == k) (nat_lt v w) (same_number k) (lower v w less))))))

pub writer_of_write : (trace : Trace) (q r w u k v x : ℕ) → q ≡ r → WriteAt trace q w k v → WriteAt trace r u k x → w ≡ u
writer_of_write trace q r w u k v x same one two = of_write (same_Some (Write w k v) (Write u k x) (sym one ∙ ap (λ (n : ℕ). slice_get trace.operations n) same ∙ two))
  where
    of_write : Write w k v ≡ Write u k x → w ≡ u
    of_write e = cc

-- ---- along a key's list
-- of two members the first comes first: of one writer by their places, and others by their versions
module _ (trace : Trace) (ranks : List Rank) (name k : ℕ) (values : List ℕ) (tells : TellsKey trace ranks name k values) where
  abbrev Rises : ℕ → ℕ → Type 0
  Rises i j = ((tells.writer i ≡ tells.writer j) × (tells.place i < tells.place j)) ⊎ (tells.version (tells.writer i) < tells.version (tells.writer j))

  joined : (i j l : ℕ) → Rises i j → Rises j l → Rises i l
  joined i j l (inl one) (inl two) = let a = one.1 in let b = two.1 in inl (one.0 ∙ two.0, omega (arith, a, b))
  joined i j l (inl one) (inr two) = inr (subst (λ (w : ℕ). tells.version w < tells.version (tells.writer l)) (sym one.0) two)
  joined i j l (inr one) (inl two) = inr (subst (λ (w : ℕ). tells.version (tells.writer i) < tells.version w) two.0 one)
  joined i j l (inr one) (inr two) = inr (omega (arith, one, two))

  rises_by : (d i : ℕ) → suc (d + i) < length values → Rises i (suc (d + i))
  rises_by zero i within = subst (λ (n : ℕ). Rises i (suc n)) same (tells.rises i (omega (arith, within)))
    where
      same : i ≡ zero + i
      same = omega arith
  rises_by (suc d) i within =
      let low : suc (d + i) < length values = omega (arith, within) in
      let last : Rises (suc (d + i)) (suc (suc (d + i))) = tells.rises (suc (d + i)) (omega (arith, within)) in
      subst (λ (n : ℕ). Rises i (suc n)) same (joined i (suc (d + i)) (suc (suc (d + i))) (rises_by d i low) last)
    where
      same : suc (d + i) ≡ suc d + i
      same = omega arith

  pub rises_to : (i j : ℕ) → i < j → j < length values → Rises i j
  rises_to i j less within = subst (λ (n : ℕ). Rises i n) (sym is) (rises_by (away.0) i (omega (arith, within, is)))
    where
      away : (d : ℕ) × (j ≡ suc (d + i))
      away = gap i j less

      is : j ≡ suc (away.0 + i)
      is = away.1

  pub is_writer : (i v q w : ℕ) → slice_get values i ≡ Some v → WriteAt trace q w k v → (q ≡ tells.place i) × (w ≡ tells.writer i)
  is_writer i v q w at one = let same = tells.once i v q w at one in (same, writer_of_write trace q (tells.place i) w (tells.writer i) k v v same one (tells.wrote i v at))

-- ---- under stamps that isolate the trace
module _ (level : Level) (trace : Trace) (st : Stamping) (is : IsolatedBy level st trace) where
  writer_at : (q w k v : ℕ) → WriteAt trace q w k v → Done trace w → (u : ℕ) × Writer trace w k u
  writer_at q w k v at done = let last = some_last trace.operations w k q v at in (last.0, record { done = done; wrote = last.1 })

  conflict_of : (l : Level) (t u k v w : ℕ) → Writer trace t k v → Writer trace u k w → Conflict l trace t u
  conflict_of Snapshot t u k v w one two = record { key = k; value = v; other = w; first = one; second = two }
  conflict_of Serializable t u k v w one two = record { first = one.done; second = two.done }

  own : (t : ℕ) → Done trace t → st.start t < st.commit t
  own t done = is.numbered.ordered t done

  apart : (q w r u k v x : ℕ) → w ≢ u → WriteAt trace q w k v → Done trace w → WriteAt trace r u k x → Done trace u → (st.commit w < st.start u) ⊎ (st.commit u < st.start w)
  apart q w r u k v x differ one done two too =
      let first = writer_at q w k v one done in
      let second = writer_at r u k x two too in
      is.apart w u differ (conflict_of level w u k first.0 second.0 first.1 second.1)

  -- ---- what a list tells
  module _ (ranks : List Rank) (name k : ℕ) (values : List ℕ) (tells : TellsKey trace ranks name k values) (place t : ℕ) (done : Done trace t) (sees : SeesValues st trace place t k values) where
    -- a writer is one of the list's, or its version is behind them
    member_or_behind : (q w v : ℕ) → WriteAt trace q w k v → Done trace w → ((i : ℕ) × (x : ℕ) × (slice_get values i ≡ Some x) × (w ≡ tells.writer i)) ⊎ (tells.version w ≡ length values)
    member_or_behind q w v at is_done = elim (tells.rest q w v at is_done) [
      | inl listed ↦ inl (listed.0, v, listed.1, (is_writer trace ranks name k values tells listed.0 v q w listed.1 at).1)
      | inr more ↦ elim more [
        | inl behind ↦ inr behind
        | inr cut ↦ inl (cut.last, cut.value, cut.at, cut.same)
      ]
    ]

    differ : (w u : ℕ) → tells.version w < tells.version u → w ≢ u
    differ w u less same = let equal = ap (λ (n : ℕ). tells.version n) same in absurd (omega (arith, less, equal))

    of_members : (i j v x : ℕ) → slice_get values i ≡ Some v → slice_get values j ≡ Some x → tells.version (tells.writer i) < tells.version (tells.writer j) → st.commit (tells.writer i) < st.start (tells.writer j)
    of_members i j v x at_i at_j less = elim (compare i j) [
      | inl before ↦ elim (sees.rises i j v x (tells.place i) (tells.writer i) (tells.place j) (tells.writer j) before at_i at_j (tells.wrote i v at_i) (tells.wrote j x at_j)) [
        | inl same ↦ absurd (differ (tells.writer i) (tells.writer j) less same.0)
        | inr first ↦ elim (apart (tells.place i) (tells.writer i) (tells.place j) (tells.writer j) k v x first.0 (tells.wrote i v at_i) (tells.done i v at_i) (tells.wrote j x at_j) (tells.done j x at_j)) [
          | inl good ↦ good
          | inr bad ↦ let low = first.1 in let mine = own (tells.writer i) (tells.done i v at_i) in absurd (omega (arith, bad, low, mine))
        ]
      ]
      | inr rest ↦ elim rest [
        | inl same ↦ let equal = ap (λ (n : ℕ). tells.version (tells.writer n)) same in absurd (omega (arith, less, equal))
        | inr after ↦ elim (rises_to trace ranks name k values tells j i after (slice_get_within values i v at_i)) [
          | inl one ↦ absurd (differ (tells.writer i) (tells.writer j) less (sym one.0))
          | inr more ↦ absurd (omega (arith, less, more))
        ]
      ]
    ]

    -- one of the list's comes before one that the list has not
    of_behind : (i v q u x : ℕ) → slice_get values i ≡ Some v → WriteAt trace q u k x → Done trace u → tells.version u ≡ length values → st.commit (tells.writer i) < st.start u
    of_behind i v q u x at_i wrote is_done behind =
        let low = tells.low i (slice_get_within values i v at_i) in
        let ne : tells.writer i ≢ u = differ (tells.writer i) u (omega (arith, low, behind)) in
        let seen = sees.each i v at_i in
        let who = is_writer trace ranks name k values tells i v seen.0 seen.1 at_i seen.2 in
        elim (apart (tells.place i) (tells.writer i) q u k v x ne (tells.wrote i v at_i) (tells.done i v at_i) wrote is_done) [
          | inl good ↦ good
          | inr bad ↦ absurd (unlisted (sees.all q u x wrote (inl (is_done, under seen.1 who.1 bad seen.3))))
        ]
      where
        under : (w : ℕ) → w ≡ tells.writer i → st.commit u < st.start (tells.writer i) → IsSeen st trace place t (sees.each i v at_i).0 w → st.commit u < st.start t
        under w same bad (inl below) =
            let low = below.1 in
            let mine = own w below.0 in
            let bad_too : st.commit u < st.start w = subst (λ (n : ℕ). st.commit u < st.start n) (sym same) bad in
            omega (arith, low, mine, bad_too)
        under w same bad (inr mine) = subst (λ (n : ℕ). st.commit u < st.start n) (sym same ∙ mine.0) bad

        unlisted : (j : ℕ) × (slice_get values j ≡ Some x) → ⊥
        unlisted there =
            let who = is_writer trace ranks name k values tells there.0 x q u there.1 wrote in
            let low = tells.low there.0 (slice_get_within values there.0 x there.1) in
            let equal = ap (λ (n : ℕ). tells.version n) who.1 in
            absurd (omega (arith, low, equal, behind))

    pub told_first : (n m a b : ℕ) → IsRanked ranks name n a → IsRanked ranks name m b → n < m → st.commit a < st.start b
    told_first n m a b one two less =
        let first = tells.only n a one in
        let second = tells.only m b two in
        let n_is = first.0 in
        let m_is = second.0 in
        let lower : tells.version a < tells.version b = omega (arith, less, n_is, m_is) in
        elim (member_or_behind first.1 a first.2 first.3 first.4) [
          | inl i ↦ elim (member_or_behind second.1 b second.2 second.3 second.4) [
            | inl j ↦
                subst (λ (w : ℕ). st.commit w < st.start b) (sym i.3)
                (subst (λ (w : ℕ). st.commit (tells.writer i.0) < st.start w) (sym j.3)
                (of_members i.0 j.0 i.1 j.1 i.2 j.2
                (subst (λ (w : ℕ). tells.version w < tells.version (tells.writer j.0)) i.3
                (subst (λ (w : ℕ). tells.version a < tells.version w) j.3 lower))))
            | inr behind ↦ subst (λ (w : ℕ). st.commit w < st.start b) (sym i.3) (of_behind i.0 i.1 second.1 b second.2 i.2 second.3 second.4 behind)
          ]
          | inr behind ↦ elim (member_or_behind second.1 b second.2 second.3 second.4) [
            | inl j ↦ let low = tells.low j.0 (slice_get_within values j.0 j.1 j.2) in let equal = ap (λ (x : ℕ). tells.version x) j.3 in absurd (omega (arith, lower, behind, low, equal))
            | inr also ↦ absurd (omega (arith, lower, behind, also))
          ]
        ]
