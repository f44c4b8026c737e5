-- Why a list that begins a key's longest one is read right, where its last member is and the ranks are kept.
use Rattle.std.proofs.Common.{◌≡◌, ◌≢◌, ℕ, suc, ◌<◌, ◌≤◌, ◌⊎◌, List, [], Option, Some, None, length, slice_get, take, inl, inr, refl, sym, subst, ap, ◌∙◌, arith}
use Rattle.std.proofs.lemmas.Option.{same_Some, slice_get_within}
use Rattle.trace_rules.specs.declared.trace.Operation.{Operation}
use Rattle.trace_rules.specs.declared.trace.Version.{Version}
use Rattle.trace_rules.specs.declared.wanted.Level.{Level}
use Rattle.trace_rules.specs.Trace.{Trace, Done, Writer, ReadAt, last_of}
use Rattle.trace_rules.specs.Stamping.{Stamping, Newest, IsolatedBy, Keeps}
use Rattle.version_ranks.specs.declared.rank.Rank.{Rank}
use Rattle.version_ranks.specs.Ranks.{by_rank}
use Rattle.list_orders.specs.Lists.{ComesFirst, IsSeen, SeesValues, WriteAt}
use Rattle.list_orders.specs.Told.{IsBegun, TellsKey}
use Rattle.list_orders.proofs.WriteLemmas.{last_stands, none_before, only_taken, some_last, taken}
use Rattle.list_orders.proofs.ListLemmas.{compare, is_writer, rank_first, rises_to}

module _ (level : Level) (trace : Trace) (st : Stamping) (is : IsolatedBy level st trace) (ranks : List Rank) (name k : ℕ) (all : List ℕ) (tells : TellsKey trace ranks name k all) (keeps : Keeps (by_rank ranks) st) where
  own : (t : ℕ) → Done trace t → st.start t < st.commit t
  own t done = is.numbered.ordered t done

  writer_at : (q w v : ℕ) → WriteAt trace q w k v → Done trace w → (u : ℕ) × Writer trace w k u
  writer_at q w v at done = let last = some_last trace.operations w k q v at in (last.0, record { done = done; wrote = last.1 })

  -- a writer of a lower version is committed before that of a higher one starts
  below : (q w v r u x : ℕ) → WriteAt trace q w k v → Done trace w → WriteAt trace r u k x → Done trace u → tells.version w < tells.version u → st.commit w < st.start u
  below q w v r u x one done two too less = rank_first ranks st name (tells.version w) (tells.version u) w u keeps (tells.ranked q w v one done) (tells.ranked r u x two too) less

  -- of two members, the first is of the same writer and stands before, or was committed before the other's writer started
  abbrev Rose : ℕ → ℕ → ℕ → ℕ → Type 0
  Rose q w r u = ((w ≡ u) × (q < r)) ⊎ (st.commit w < st.start u)

  rose : (i j v x : ℕ) → i < j → slice_get all i ≡ Some v → slice_get all j ≡ Some x → Rose (tells.place i) (tells.writer i) (tells.place j) (tells.writer j)
  rose i j v x less at_i at_j = elim (rises_to trace ranks name k all tells i j less (slice_get_within all j x at_j)) [
    | inl one ↦ inl one
    | inr more ↦ inr (below (tells.place i) (tells.writer i) v (tells.place j) (tells.writer j) x (tells.wrote i v at_i) (tells.done i v at_i) (tells.wrote j x at_j) (tells.done j x at_j) more)
  ]

  -- a write is one of the members up to this one, or comes behind it
  placed : (l vl q w v : ℕ) → slice_get all l ≡ Some vl → WriteAt trace q w k v → Done trace w → ((i : ℕ) × (i ≤ l) × (slice_get all i ≡ Some v)) ⊎ Rose (tells.place l) (tells.writer l) q w
  placed l vl q w v at_l at done = elim (tells.rest q w v at done) [
    | inl listed ↦ member listed.0 listed.1 (compare listed.0 l)
    | inr more ↦ elim more [
      | inl behind ↦
          let low = tells.low l (slice_get_within all l vl at_l) in
          inr (inr (below (tells.place l) (tells.writer l) vl q w v (tells.wrote l vl at_l) (tells.done l vl at_l) at done (omega (arith, low, behind))))
      | inr cut ↦ inr (behind_end cut.last cut.value cut.at cut.same cut.behind (compare l cut.last) cut.end)
    ]
  ]
    where
      member : (i : ℕ) → slice_get all i ≡ Some v → (i < l) ⊎ ((i ≡ l) ⊎ (l < i)) → ((i : ℕ) × (i ≤ l) × (slice_get all i ≡ Some v)) ⊎ Rose (tells.place l) (tells.writer l) q w
      member i at_i (inl under) = inl (i, omega (arith, under), at_i)
      member i at_i (inr (inl same)) = inl (i, omega (arith, same), at_i)
      member i at_i (inr (inr over)) =
          let who = is_writer trace ranks name k all tells i v q w at_i at in
          inr (elim (rose l i vl v over at_l at_i) [
            | inl one ↦ let less = one.1 in let here = who.0 in inl (one.0 ∙ sym who.1, omega (arith, less, here))
            | inr more ↦ inr (subst (λ (u : ℕ). st.commit (tells.writer l) < st.start u) (sym who.1) more)
          ])

      behind_end : (end x : ℕ) → slice_get all end ≡ Some x → w ≡ tells.writer end → tells.place end < q → (l < end) ⊎ ((l ≡ end) ⊎ (end < l)) → suc end ≡ length all → Rose (tells.place l) (tells.writer l) q w
      behind_end end x at_end same over (inl under) last = elim (rose l end vl x under at_l at_end) [
        | inl one ↦ let less = one.1 in inl (one.0 ∙ sym same, omega (arith, less, over))
        | inr more ↦ inr (subst (λ (u : ℕ). st.commit (tells.writer l) < st.start u) (sym same) more)
      ]
      behind_end end x at_end same over (inr (inl here)) last = let equal = ap (λ (n : ℕ). tells.place n) here in inl (ap (λ (n : ℕ). tells.writer n) here ∙ sym same, omega (arith, equal, over))
      behind_end end x at_end same over (inr (inr past)) last = let within = slice_get_within all l vl at_l in absurd (omega (arith, past, within, last))

  module _ (values : List ℕ) (begun : IsBegun all values) (place t : ℕ) (done : Done trace t) where
    in_all : (i v : ℕ) → slice_get values i ≡ Some v → slice_get all i ≡ Some v
    in_all i v at = sym (begun.same i (slice_get_within values i v at)) ∙ at

    rises : (i j v x q w r u : ℕ) → i < j → slice_get values i ≡ Some v → slice_get values j ≡ Some x → WriteAt trace q w k v → WriteAt trace r u k x → ComesFirst st q w r u
    rises i j v x q w r u less at_i at_j one two =
        let first = is_writer trace ranks name k all tells i v q w (in_all i v at_i) one in
        let second = is_writer trace ranks name k all tells j x r u (in_all j x at_j) two in
        let q_is = first.0 in
        let r_is = second.0 in
        elim (rose i j v x less (in_all i v at_i) (in_all j x at_j)) [
          | inl same ↦ let low = same.1 in inl (first.1 ∙ same.0 ∙ sym second.1, omega (arith, low, q_is, r_is))
          | inr before ↦
              let low : st.commit w < st.start u = subst (λ (n : ℕ). st.commit n < st.start u) (sym first.1) (subst (λ (n : ℕ). st.commit (tells.writer i) < st.start n) (sym second.1) before) in
              let mine_u = own u (subst (λ (n : ℕ). Done trace n) (sym second.1) (tells.done j x (in_all j x at_j))) in
              let mine_w = own w (subst (λ (n : ℕ). Done trace n) (sym first.1) (tells.done i v (in_all i v at_i))) in
              inr (λ same. let equal = ap (λ (n : ℕ). st.start n) same in absurd (omega (arith, low, mine_w, equal)), omega (arith, low, mine_u))
        ]

    -- ---- with a last member, which is what the read found
    module _ (l vl : ℕ) (end : suc l ≡ length values) (at_l : slice_get values l ≡ Some vl) where
      at_all : slice_get all l ≡ Some vl
      at_all = in_all l vl at_l

      wl : ℕ
      wl = tells.writer l

      front : (i v : ℕ) → i ≤ l → slice_get all i ≡ Some v → (i : ℕ) × (slice_get values i ≡ Some v)
      front i v most at = (i, begun.same i (omega (arith, most, end)) ∙ at)

      -- what stands at or before the last member is of its writer before it, or of one who was committed before that started
      each_first : (i v : ℕ) → slice_get values i ≡ Some v → (i ≡ l) ⊎ Rose (tells.place i) (tells.writer i) (tells.place l) (tells.writer l)
      each_first i v at = elim (compare i l) [
        | inl under ↦ inr (rose i l v vl under (in_all i v at) at_all)
        | inr rest ↦ elim rest [
          | inl same ↦ inl same
          | inr over ↦ let within = slice_get_within values i v at in absurd (omega (arith, over, within, end))
        ]
      ]

      -- it was visible at the reader's start
      pub sees_others : Newest st trace (st.start t) k (record { from = tells.writer l; value = vl }) → last_of (take place trace.operations) t k ≡ None → SeesValues st trace place t k values
      sees_others newest none = record { each = each; all = seen; rises = rises }
        where
          each : (i v : ℕ) → slice_get values i ≡ Some v → (q : ℕ) × (w : ℕ) × WriteAt trace q w k v × IsSeen st trace place t q w
          each i v at = (tells.place i, tells.writer i, tells.wrote i v (in_all i v at), inl (tells.done i v (in_all i v at), low))
            where
              low : st.commit (tells.writer i) < st.start t
              low = elim (each_first i v at) [
                | inl same ↦ subst (λ (n : ℕ). st.commit (tells.writer n) < st.start t) (sym same) newest.below
                | inr more ↦ elim more [
                  | inl one ↦ subst (λ (n : ℕ). st.commit n < st.start t) (sym one.0) newest.below
                  | inr before ↦ let under = newest.below in let mine = own (tells.writer l) (tells.done l vl at_all) in omega (arith, before, under, mine)
                ]
              ]

          seen : (q w v : ℕ) → WriteAt trace q w k v → IsSeen st trace place t q w → (i : ℕ) × (slice_get values i ≡ Some v)
          seen q w v at (inr mine) = absurd (none_before trace.operations place t k q v none mine.1 (subst (λ (n : ℕ). WriteAt trace q n k v) mine.0 at))
          seen q w v at (inl under) = elim (placed l vl q w v at_all at under.0) [
            | inl there ↦ front there.0 v there.1 there.2
            | inr more ↦ elim more [
              | inl one ↦
                  let last = last_stands trace.operations (tells.writer l) k vl newest.writer.wrote in
                  let most = last.greatest q v (subst (λ (n : ℕ). WriteAt trace q n k v) (sym one.0) at) in
                  let here = tells.once l vl last.place (tells.writer l) at_all last.stands in
                  let over = one.1 in
                  absurd (omega (arith, most, here, over))
              | inr behind ↦
                  let w_is = writer_at q w v at under.0 in
                  let most = newest.greatest w w_is.0 w_is.1 under.1 in
                  let mine = own w under.0 in
                  absurd (omega (arith, behind, most, mine))
            ]
          ]

      -- or the reader's own
      pub sees_own : tells.writer l ≡ t → last_of (take place trace.operations) t k ≡ Some vl → SeesValues st trace place t k values
      sees_own same_t some = record { each = each; all = seen; rises = rises }
        where
          last : (r : ℕ) × (r < place) × WriteAt trace r t k vl × ((q u : ℕ) → q < place → WriteAt trace q t k u → q ≤ r)
          last =
              let it = last_stands (take place trace.operations) t k vl some in
              let there = only_taken trace.operations place it.place _ it.stands in
              (it.place, there.0, there.1, λ q u less at. it.greatest q u (taken trace.operations place q less ∙ at))

          here : last.0 ≡ tells.place l
          here = tells.once l vl last.0 t at_all last.2

          mine_t : st.start t < st.commit t
          mine_t = own t done

          each : (i v : ℕ) → slice_get values i ≡ Some v → (q : ℕ) × (w : ℕ) × WriteAt trace q w k v × IsSeen st trace place t q w
          each i v at = (tells.place i, tells.writer i, tells.wrote i v (in_all i v at), seen_it)
            where
              seen_it : IsSeen st trace place t (tells.place i) (tells.writer i)
              seen_it = elim (each_first i v at) [
                | inl same ↦ let low = last.1 in let p = ap (λ (n : ℕ). tells.place n) same in inr (ap (λ (n : ℕ). tells.writer n) same ∙ same_t, omega (arith, low, here, p))
                | inr more ↦ elim more [
                  | inl one ↦ let less = one.1 in let low = last.1 in inr (one.0 ∙ same_t, omega (arith, less, low, here))
                  | inr before ↦ inl (tells.done i v (in_all i v at), subst (λ (n : ℕ). st.commit (tells.writer i) < st.start n) same_t before)
                ]
              ]

          seen : (q w v : ℕ) → WriteAt trace q w k v → IsSeen st trace place t q w → (i : ℕ) × (slice_get values i ≡ Some v)
          seen q w v at (inr mine) = elim (placed l vl q w v at_all at (subst (λ (n : ℕ). Done trace n) (sym mine.0) done)) [
            | inl there ↦ front there.0 v there.1 there.2
            | inr more ↦ elim more [
              | inl one ↦ let most = last.3 q v mine.1 (subst (λ (n : ℕ). WriteAt trace q n k v) mine.0 at) in let over = one.1 in absurd (omega (arith, most, over, here))
              | inr behind ↦
                  let low : st.commit t < st.start t = subst (λ (n : ℕ). st.commit n < st.start t) same_t (subst (λ (n : ℕ). st.commit (tells.writer l) < st.start n) mine.0 behind) in
                  absurd (omega (arith, low, mine_t))
            ]
          ]
          seen q w v at (inl under) = elim (placed l vl q w v at_all at under.0) [
            | inl there ↦ front there.0 v there.1 there.2
            | inr more ↦ elim more [
              | inl one ↦
                  let low : st.commit t < st.start t = subst (λ (n : ℕ). st.commit n < st.start t) (sym one.0 ∙ same_t) under.1 in
                  absurd (omega (arith, low, mine_t))
              | inr behind ↦
                  let late : st.commit t < st.start w = subst (λ (n : ℕ). st.commit n < st.start w) same_t behind in
                  let early = under.1 in
                  let mine_w = own w under.0 in
                  absurd (omega (arith, late, early, mine_w, mine_t))
            ]
          ]

-- ---- a list with nothing in it
module _ (level : Level) (trace : Trace) (st : Stamping) (is : IsolatedBy level st trace) (k : ℕ) where
  pub sees_nothing : (values : List ℕ) (place t : ℕ) → length values ≡ 0 → ((w v : ℕ) → Writer trace w k v → st.commit w < st.start t → ⊥) → last_of (take place trace.operations) t k ≡ None → SeesValues st trace place t k values
  sees_nothing values place t empty hidden none = record {
    each = λ i v at. absurd (nobody i v at);
    all = seen;
    rises = λ i j v x q w r u less at_i at_j one two. absurd (nobody i v at_i);
  }
    where
      nobody : (i v : ℕ) → slice_get values i ≡ Some v → ⊥
      nobody i v at = let within = slice_get_within values i v at in absurd (omega (arith, within, empty))

      seen : (q w v : ℕ) → WriteAt trace q w k v → IsSeen st trace place t q w → (i : ℕ) × (slice_get values i ≡ Some v)
      seen q w v at (inr mine) = absurd (none_before trace.operations place t k q v none mine.1 (subst (λ (n : ℕ). WriteAt trace q n k v) mine.0 at))
      seen q w v at (inl under) = let last = some_last trace.operations w k q v at in absurd (hidden w last.0 (record { done = under.0; wrote = last.1 }) under.1)
