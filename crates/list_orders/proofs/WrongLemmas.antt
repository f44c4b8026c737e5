-- Why no stamps give some lists.
use Rattle.std.proofs.Common.{◌≡◌, ◌≢◌, ℕ, suc, ◌<◌, ◌≤◌, ◌⊎◌, List, [], Option, Some, None, length, slice_get, inl, inr, refl, sym, subst, ap, ◌∙◌, arith}
use Rattle.std.proofs.lemmas.Option.{same_Some}
use Rattle.trace_rules.specs.declared.trace.Operation.TheVariants.{Write}
use Rattle.trace_rules.specs.declared.wanted.Level.{Level}
use Rattle.trace_rules.specs.declared.wanted.Level.TheVariants.{Snapshot, Serializable}
use Rattle.trace_rules.specs.Trace.{Trace, Done, Writer}
use Rattle.trace_rules.specs.Stamping.{Stamping, Conflict, IsolatedBy}
use Rattle.list_orders.specs.Lists.{ComesFirst, IsSeen, SeesValues, WriteAt}
use Rattle.list_orders.proofs.WriteLemmas.{some_last}
use Rattle.list_orders.proofs.ListLemmas.{compare, writer_of_write}

module _ (st : Stamping) (trace : Trace) (place t k : ℕ) (values : List ℕ) (sees : SeesValues st trace place t k values) where
  -- of one writer, the second member stands before the first or is it
  pub not_turned : (i j v x q r w : ℕ) → i < j → slice_get values i ≡ Some v → slice_get values j ≡ Some x → WriteAt trace q w k v → WriteAt trace r w k x → r ≤ q → ⊥
  not_turned i j v x q r w less at_i at_j one two most = elim (sees.rises i j v x q w r w less at_i at_j one two) [
    | inl same ↦ let over = same.1 in absurd (omega (arith, over, most))
    | inr apart ↦ apart.0 refl
  ]

  -- between two members of one writer stands one of another
  pub not_split : (i j l v x y q w r u s : ℕ) → i < j → j < l → slice_get values i ≡ Some v → slice_get values j ≡ Some x → slice_get values l ≡ Some y →
      WriteAt trace q w k v → WriteAt trace r u k x → WriteAt trace s w k y → w ≢ u → ⊥
  not_split i j l v x y q w r u s less more at_i at_j at_l one two three differ = elim (sees.rises i j v x q w r u less at_i at_j one two) [
    | inl same ↦ differ same.0
    | inr first ↦ elim (sees.rises j l x y r u s w more at_j at_l two three) [
      | inl same ↦ differ (sym same.0)
      | inr second ↦ let a = first.1 in let b = second.1 in absurd (omega (arith, a, b))
    ]
  ]

  -- nobody who was committed wrote a member
  pub not_dirty : (i v q w : ℕ) → Done trace t → slice_get values i ≡ Some v → ((r u : ℕ) → WriteAt trace r u k v → r ≡ q) → WriteAt trace q w k v → (Done trace w → ⊥) → ⊥
  not_dirty i v q w done at once wrote none =
      let seen = sees.each i v at in
      let same = writer_of_write trace seen.0 q seen.1 w k v v (once seen.0 seen.1 seen.2) seen.2 wrote in
      elim seen.3 [
        | inl below ↦ none (subst (λ (n : ℕ). Done trace n) same below.0)
        | inr own ↦ none (subst (λ (n : ℕ). Done trace n) (sym own.0 ∙ same) done)
      ]

  -- a writer's value is missing that stands before one of its members
  pub not_missing : (i v q r w x : ℕ) → slice_get values i ≡ Some v → ((s u : ℕ) → WriteAt trace s u k v → s ≡ q) → WriteAt trace q w k v → WriteAt trace r w k x → r < q → ((j : ℕ) → slice_get values j ≡ Some x → ⊥) → ⊥
  not_missing i v q r w x at once wrote other before none =
      let seen = sees.each i v at in
      let q_is = once seen.0 seen.1 seen.2 in
      let same = writer_of_write trace seen.0 q seen.1 w k v v q_is seen.2 wrote in
      let there = sees.all r w x other (elim seen.3 [
        | inl below ↦ inl (subst (λ (n : ℕ). Done trace n) same below.0, subst (λ (n : ℕ). st.commit n < st.start t) same below.1)
        | inr own ↦ let less = own.1 in inr (sym same ∙ own.0, omega (arith, less, q_is, before))
      ]) in
      none there.0 there.1

  -- a writer's value is missing, and one of its members stands before one of another
  pub not_cut : (level : Level) (i j v y q w r u s x : ℕ) → IsolatedBy level st trace → Done trace t → i < j → slice_get values i ≡ Some v → slice_get values j ≡ Some y → ((a b : ℕ) → WriteAt trace a b k v → a ≡ q) → ((a b : ℕ) → WriteAt trace a b k y → a ≡ r) →
      WriteAt trace q w k v → WriteAt trace r u k y → w ≢ u → WriteAt trace s w k x → ((l : ℕ) → slice_get values l ≡ Some x → ⊥) → ⊥
  not_cut level i j v y q w r u s x is done less at_i at_j once also one two differ other none = elim (sees.rises i j v y q w r u less at_i at_j one two) [
    | inl same ↦ differ same.0
    | inr first ↦
        let seen = sees.each i v at_i in
        let same = writer_of_write trace seen.0 q seen.1 w k v v (once seen.0 seen.1 seen.2) seen.2 one in
        elim seen.3 [
          | inl below ↦ let there = sees.all s w x other (inl (subst (λ (n : ℕ). Done trace n) same below.0, subst (λ (n : ℕ). st.commit n < st.start t) same below.1)) in none there.0 there.1
          | inr own ↦
              let second = sees.each j y at_j in
              let same_u = writer_of_write trace second.0 r second.1 u k y y (also second.0 second.1 second.2) second.2 two in
              let w_t : w ≡ t = sym same ∙ own.0 in
              elim second.3 [
                | inl below ↦
                    let low : st.commit u < st.start t = subst (λ (n : ℕ). st.commit n < st.start t) same_u below.1 in
                    let mine = is.numbered.ordered t done in
                    let late : st.commit t < st.commit u = subst (λ (n : ℕ). st.commit n < st.commit u) w_t first.1 in
                    absurd (omega (arith, low, mine, late))
                | inr own_too ↦ differ (w_t ∙ sym own_too.0 ∙ same_u)
              ]
        ]
  ]

-- ---- two lists
module _ (level : Level) (st : Stamping) (trace : Trace) (k : ℕ) (is : IsolatedBy level st trace) where
  conflict_of : (l : Level) (t u v w : ℕ) → Writer trace t k v → Writer trace u k w → Conflict l trace t u
  conflict_of Snapshot t u v w one two = record { key = k; value = v; other = w; first = one; second = two }
  conflict_of Serializable t u v w one two = record { first = one.done; second = two.done }

  -- of two writes, the one surely before the other
  abbrev Before : ℕ → ℕ → ℕ → ℕ → Type 0
  Before q w r u = ((w ≡ u) × (q < r)) ⊎ ((w ≢ u) × (st.commit w < st.start u))

  -- who sees a write sees those before it
  sees_before : (place t q w r u : ℕ) → Done trace w → Done trace u → Before q w r u → IsSeen st trace place t r u → IsSeen st trace place t q w
  sees_before place t q w r u done_w done_u (inl same) (inl below) = inl (done_w, subst (λ (n : ℕ). st.commit n < st.start t) (sym same.0) below.1)
  sees_before place t q w r u done_w done_u (inl same) (inr own) = let a = same.1 in let b = own.1 in inr (same.0 ∙ own.0, omega (arith, a, b))
  sees_before place t q w r u done_w done_u (inr less) (inl below) = let a = less.1 in let b = below.1 in let c = is.numbered.ordered u done_u in inl (done_w, omega (arith, a, b, c))
  sees_before place t q w r u done_w done_u (inr less) (inr own) = inl (done_w, subst (λ (n : ℕ). st.commit w < st.start n) own.0 less.1)

  -- the second list lacks at this place a value that comes before what it has there, where both have the same values before
  first_missing : (place t other s i x y q w r u : ℕ) (values lacking : List ℕ) → SeesValues st trace place t k values → SeesValues st trace other s k lacking → ((j v : ℕ) → j < i → slice_get lacking j ≡ Some v → slice_get values j ≡ Some v) →
      slice_get values i ≡ Some x → slice_get lacking i ≡ Some y → x ≢ y → WriteAt trace q w k x → WriteAt trace r u k y → Done trace w → Done trace u → IsSeen st trace other s r u → Before q w r u → ⊥
  first_missing place t other s i x y q w r u values lacking one two same at_x at_y differ wrote_x wrote_y done_w done_u seen before =
      let there = two.all q w x wrote_x (sees_before other s q w r u done_w done_u before seen) in
      by there.0 there.1 (compare there.0 i)
    where
      by : (j : ℕ) → slice_get lacking j ≡ Some x → (j < i) ⊎ ((j ≡ i) ⊎ (i < j)) → ⊥
      by j at (inl under) = elim (one.rises j i x x q w q w under (same j x under at) at_x wrote_x wrote_x) [
        | inl again ↦ let less = again.1 in absurd (omega (arith, less))
        | inr apart ↦ apart.0 refl
      ]
      by j at (inr (inl here)) = differ (same_Some x y (sym at ∙ ap (λ (n : ℕ). slice_get lacking n) here ∙ at_y))
      by j at (inr (inr over)) = elim (two.rises i j y x r u q w over at_y at wrote_y wrote_x) [
        | inl turned ↦ elim before [
          | inl ahead ↦ let a = turned.1 in let b = ahead.1 in absurd (omega (arith, a, b))
          | inr less ↦ less.0 (sym turned.0)
        ]
        | inr turned ↦ elim before [
          | inl ahead ↦ turned.0 (sym ahead.0)
          | inr less ↦ let a = less.1 in let b = turned.1 in let c = is.numbered.ordered u done_u in absurd (omega (arith, a, b, c))
        ]
      ]

  done_of : (place t q w : ℕ) → Done trace t → IsSeen st trace place t q w → Done trace w
  done_of place t q w done (inl below) = below.0
  done_of place t q w done (inr own) = subst (λ (n : ℕ). Done trace n) (sym own.0) done

  -- both have a value at a place, not the same, and the same values before
  pub not_different : (place t other s i x y : ℕ) (values lacking : List ℕ) → Done trace t → Done trace s → SeesValues st trace place t k values → SeesValues st trace other s k lacking → ((j v : ℕ) → j < i → slice_get lacking j ≡ Some v → slice_get values j ≡ Some v) → ((j v : ℕ) → j < i → slice_get values j ≡ Some v → slice_get lacking j ≡ Some v) →
      slice_get values i ≡ Some x → slice_get lacking i ≡ Some y → x ≢ y → ⊥
  not_different place t other s i x y values lacking done_t done_s one two same back at_x at_y differ =
      let a = one.each i x at_x in
      let b = two.each i y at_y in
      let done_w = done_of place t a.0 a.1 done_t a.3 in
      let done_u = done_of other s b.0 b.1 done_s b.3 in
      elim (order a.0 a.1 b.0 b.1 a.2 b.2 done_w done_u) [
        | inl before ↦ first_missing place t other s i x y a.0 a.1 b.0 b.1 values lacking one two same at_x at_y differ a.2 b.2 done_w done_u b.3 before
        | inr after ↦ first_missing other s place t i y x b.0 b.1 a.0 a.1 lacking values two one back at_y at_x (λ e. differ (sym e)) b.2 a.2 done_u done_w a.3 after
      ]
    where
      order : (q w r u : ℕ) → WriteAt trace q w k x → WriteAt trace r u k y → Done trace w → Done trace u → Before q w r u ⊎ Before r u q w
      order q w r u wrote_x wrote_y done_w done_u = elim (compare w u) [
        | inl less ↦ others (λ e. absurd (omega (arith, less, e)))
        | inr rest ↦ elim rest [
          | inl same ↦ elim (compare q r) [
            | inl under ↦ inl (inl (same, under))
            | inr more ↦ elim more [
              | inl here ↦ absurd (differ (of_write (same_Some _ _ (sym wrote_x ∙ ap (λ (n : ℕ). slice_get trace.operations n) here ∙ wrote_y))))
              | inr over ↦ inr (inl (sym same, over))
            ]
          ]
          | inr more ↦ others (λ e. absurd (omega (arith, more, e)))
        ]
      ]
        where
          of_write : Write w k x ≡ Write u k y → x ≡ y
          of_write e = cc

          others : w ≢ u → Before q w r u ⊎ Before r u q w
          others ne =
              let first = some_last trace.operations w k q x wrote_x in
              let second = some_last trace.operations u k r y wrote_y in
              elim (is.apart w u ne (conflict_of level w u first.0 second.0 (record { done = done_w; wrote = first.1 }) (record { done = done_u; wrote = second.1 }))) [
                | inl one ↦ inl (inr (ne, one))
                | inr two ↦ inr (inr (λ e. ne (sym e), two))
              ]
