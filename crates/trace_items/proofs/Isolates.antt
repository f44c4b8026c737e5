-- The history that stamps make of a trace is isolated where the trace is. For omid_check_top too.
use Rattle.std.proofs.Common.{◌≡◌, ◌≢◌, ℕ, ◌<◌, ◌≤◌, ◌==◌, Bool, true, false, cond, List, [], ◌∷◌, ◌++◌, length, map, take, Option, None, Some, slice_get, inl, inr, refl, sym, subst, ap, ◌∙◌, arith}
use Rattle.std.specs.Option.{option_or}
use Rattle.std.proofs.Math.Seq.{take-append_seam}
use Rattle.std.proofs.lemmas.Bool.{eqb-true}
use Rattle.std.proofs.lemmas.List.{append_assoc}
use Rattle.std.proofs.lemmas.List.Concat.{flat_map-append}
use Rattle.history_book.specs.Members.{◌∈◌, AtEach}
use Rattle.history_book.specs.Isolation.{last_write, Committed, Wrote, Candidate, Newest, Visible, RightAnswer, RightRead, Apart, NewStamps, Stamped, StartsAbove, Fresh, Isolated}
use Rattle.history_book.specs.Serial.{StoodUntil, StoodAtCommit, Serial}
use Rattle.history_book.specs.declared.item.Item.{Item}
use Rattle.history_book.specs.declared.item.Item.TheVariants as item
use Rattle.history_book.proofs.MemberLemmas.{in_back, in_front, in_push}
use Rattle.history_book.proofs.HistoryLemmas.{before_ask-in, last_write-push}
use Rattle.trace_rules.specs.declared.trace.Version.{Version}
use Rattle.trace_rules.specs.declared.trace.Operation.{Operation}
use Rattle.trace_rules.specs.declared.trace.Operation.TheVariants.{Read, Write}
use Rattle.trace_rules.specs.declared.wanted.Level.{Level}
use Rattle.trace_rules.specs.declared.wanted.Level.TheVariants.{Snapshot, Serializable}
use Rattle.trace_rules.specs.Trace.{Trace, Done, Writer, last_of}
use Rattle.trace_rules.specs.Stamping.{Stamping, Conflict, IsolatedBy, Point, Start, Commit, Newest as TraceNewest, Visible as TraceVisible, RightAnswer as TraceAnswer}
use Rattle.trace_items.specs.Items.{InOrder, KeysDiffer, Telling, found_of, item_of, items_at, history_of, operations_of, txn_of}
use Rattle.trace_items.proofs.Along.{Along, each_flat, first_in, slice_get-seam, split_at}
use Rattle.trace_items.proofs.Points.{before_below, begin_of, behind_above, place_in, placed_of}
use Rattle.trace_items.proofs.Words.{said, Agrees, agrees_all, agrees_item, agrees_skip, all_told, last_write-append, none_written}

-- what holds of every item of a kind holds along the operations
along_items : (st : Stamping) (tell : Telling) (P : List Item → Item → Type 0) → ((b : List Item) (o : Operation) → P b (item_of st tell o)) → (xs : List Operation) (acc : List Item) → Along P acc (map (item_of st tell) xs)
unfolding Along
along_items st tell P holds [] acc = tt
along_items st tell P holds (x ∷ xs) acc = (holds acc x, along_items st tell P holds xs (acc ++ item_of st tell x ∷ []))

module _ (level : Level) (st : Stamping) (tell : Telling) (trace : Trace) (points : List Point) (keys : KeysDiffer tell) (order : InOrder st trace points) (is : IsolatedBy level st trace) where
  h : List Item
  h = history_of st tell trace points

  committed_is : (t c : ℕ) → Committed h t c → (m : ℕ) × Done trace m × (t ≡ st.start m) × (c ≡ st.commit m)
  unfolding h
  committed_is t c placed = let m = placed_of st tell trace points t c placed in (m.0, order.done (Commit m.0) m.1, m.2, m.3)

  is_committed : (m : ℕ) → Done trace m → Committed h (st.start m) (st.commit m)
  unfolding h
  is_committed m d = place_in st tell trace points m (order.all (Commit m) d)

  -- ---- what was written
  -- before its own start a transaction wrote nothing
  blank : (front rest : List Point) (t k : ℕ) → points ≡ front ++ Start t ∷ rest → last_write (history_of st tell trace front) (st.start t) k ≡ None
  blank front rest t k same = none_written st tell trace (st.start t) k front (λ u m e. let less = before_below st tell trace points order front rest (Start t) (Start u) same m in absurd (omega (arith, less, e)))

  begun : (front rest : List Point) (t : ℕ) → points ≡ front ++ Start t ∷ rest → Agrees st tell t [] ((history_of st tell trace front ++ item.AskBegin (tell.session t) 0 ∷ []) ++ item.Begin (tell.session t) (st.start t) ∷ [])
  unfolding Agrees said last_of
  begun front rest t same k =
      let ask = item.AskBegin (tell.session t) 0 in
      last_write-push (history_of st tell trace front ++ ask ∷ []) (item.Begin (tell.session t) (st.start t)) (st.start t) (tell.key k)
      ∙ last_write-push (history_of st tell trace front) ask (st.start t) (tell.key k)
      ∙ blank front rest t (tell.key k) same

  own_agrees : (t k : ℕ) → last_write (items_at st tell trace (Start t)) (st.start t) (tell.key k) ≡ said tell (last_of trace.operations t k)
  unfolding Agrees said last_of last_write
  own_agrees t k = agrees_all st tell keys t [] trace.operations (item.AskBegin (tell.session t) 0 ∷ item.Begin (tell.session t) (st.start t) ∷ []) (λ l. refl) k

  or-None : {X : Type 0} (a : Option X) → option_or a None ≡ a
  or-None None = refl
  or-None (Some x) = refl

  agrees_seam : (t k : ℕ) (front rest : List Point) → points ≡ front ++ Start t ∷ rest → last_write (history_of st tell trace (front ++ Start t ∷ rest)) (st.start t) (tell.key k) ≡ said tell (last_of trace.operations t k)
  agrees_seam t k front rest same =
      let s = st.start t in
      let n = tell.key k in
      let low = history_of st tell trace front in
      let here = items_at st tell trace (Start t) in
      let high = history_of st tell trace rest in
      ap (λ (l : List Item). last_write l s n) (flat_map-append (items_at st tell trace) front (Start t ∷ rest))
      ∙ last_write-append low (here ++ high) s n
      ∙ ap (λ (o : Option (List ℕ)). option_or (last_write (here ++ high) s n) o) (blank front rest t n same)
      ∙ or-None (last_write (here ++ high) s n)
      ∙ last_write-append here high s n
      ∙ ap (λ (o : Option (List ℕ)). option_or o (last_write here s n)) (none_written st tell trace s n rest (λ u m e. let less = behind_above st tell trace points order front rest (Start t) (Start u) same m in absurd (omega (arith, less, e))))
      ∙ own_agrees t k

  agrees : (t k : ℕ) → Done trace t → last_write h (st.start t) (tell.key k) ≡ said tell (last_of trace.operations t k)
  unfolding h
  agrees t k d =
      let s = split_at (Start t) points (order.all (Start t) d) in
      ap (λ (l : List Point). last_write (history_of st tell trace l) (st.start t) (tell.key k)) s.2 ∙ agrees_seam t k s.0 s.1 s.2

  said_of : (o : Option ℕ) (v : List ℕ) → said tell o ≡ Some v → (n : ℕ) × (o ≡ Some n)
  unfolding said
  said_of None v e = absurd (cc)
  said_of (Some n) v e = (n, refl)

  -- what is written at the number of a key was written at the key
  wrote_at : (t m k : ℕ) (v : List ℕ) → t ≡ st.start m → Done trace m → Wrote h t (tell.key k) v → (value : ℕ) × Writer trace m k value
  wrote_at t m k v same d wrote =
      let n = said_of (last_of trace.operations m k) v (sym (agrees m k d) ∙ ap (λ (s : ℕ). last_write h s (tell.key k)) (sym same) ∙ wrote) in
      (n.0, record { done = d; wrote = n.1 })

  told : (t n : ℕ) (v : List ℕ) → Wrote h t n v → (k : ℕ) × (n ≡ tell.key k)
  unfolding h
  told t n v wrote = all_told st tell trace t n v points wrote

  is_wrote : (m k value : ℕ) → Writer trace m k value → Wrote h (st.start m) (tell.key k) (tell.value value)
  unfolding said
  is_wrote m k value w = agrees m k w.done ∙ ap (said tell) w.wrote

  -- ---- no two overlap
  conflict : (l : Level) (m n k v w : ℕ) → Writer trace m k v → Writer trace n k w → Conflict l trace m n
  conflict Snapshot m n k v w one two = record { key = k; value = v; other = w; first = one; second = two }
  conflict Serializable m n k v w one two = record { first = one.done; second = two.done }

  differ : (t u m n : ℕ) → t ≡ st.start m → u ≡ st.start n → t ≢ u → m ≢ n
  differ t u m n a b other same = other (a ∙ ap (λ (x : ℕ). st.start x) same ∙ sym b)

  apart : Apart h
  apart = record {
    apart = λ t c u d n v w ct cu other wt wu.
        let key = told t n v wt in
        let m = committed_is t c ct in
        let o = committed_is u d cu in
        let one = wrote_at t m.0 key.0 v m.2 m.1 (subst (λ (x : ℕ). Wrote h t x v) key.1 wt) in
        let two = wrote_at u o.0 key.0 w o.2 o.1 (subst (λ (x : ℕ). Wrote h u x w) key.1 wu) in
        elim (is.apart m.0 o.0 (differ t u m.0 o.0 m.2 o.2 other) (conflict level m.0 o.0 key.0 one.0 two.0 one.1 two.1)) [
          | inl less ↦ inl (moved c u (st.commit m.0) (st.start o.0) m.3 o.2 less)
          | inr less ↦ inr (moved d t (st.commit o.0) (st.start m.0) o.3 m.2 less)
        ];
  }
    where
      moved : (a b x y : ℕ) → a ≡ x → b ≡ y → x < y → a < b
      moved a b x y e f less = omega (arith, e, f, less)

  -- ---- reads
  visible_none : (s k : ℕ) → TraceVisible st trace s k None → (t c : ℕ) → Candidate h s (tell.key k) t c → ⊥
  visible_none s k none t c a =
      let m = committed_is t c a.committed in
      let w = wrote_at t m.0 k a.wrote.0 m.2 m.1 a.wrote.1 in
      let below = a.below in
      let at = m.3 in
      none m.0 w.0 w.1 (omega (arith, below, at))

  visible_some : (s k : ℕ) (found : Version) → TraceNewest st trace s k found → Newest h s (tell.key k) (record { from = st.start found.from; value = tell.value found.value })
  visible_some s k found newest = record {
    commit = st.commit found.from;
    candidate = record { committed = is_committed found.from newest.writer.done; below = newest.below; wrote = (tell.value found.value, is_wrote found.from k found.value newest.writer) };
    value = is_wrote found.from k found.value newest.writer;
    greatest = λ t c a.
        let m = committed_is t c a.committed in
        let w = wrote_at t m.0 k a.wrote.0 m.2 m.1 a.wrote.1 in
        let below = a.below in
        let at = m.3 in
        let most : st.commit m.0 ≤ st.commit found.from = newest.greatest m.0 w.0 w.1 (omega (arith, below, at)) in
        omega (arith, most, at);
  }

  visible : (s k : ℕ) (answer : Option Version) → TraceVisible st trace s k answer → Visible h s (tell.key k) (found_of st tell answer)
  visible s k None v = visible_none s k v
  visible s k (Some found) v = visible_some s k found v

  right : (before : List Item) (t k : ℕ) (answer : Option Version) (own : Option ℕ) → TraceAnswer st trace t k answer own → RightAnswer h before (st.start t) (tell.key k) (found_of st tell answer) (said tell own)
  unfolding said
  right before t k answer None v = visible (st.start t) k answer v
  right before t k answer (Some own) e = inl (ap (found_of st tell) e)

  right_item : (t : ℕ) (front rest : List Operation) (acc : List Item) (x : Operation) → trace.operations ≡ front ++ x ∷ rest → Agrees st tell t front acc → Done trace t → txn_of x ≡ t → RightRead h acc (item_of st tell x)
  unfolding Agrees
  right_item t front rest acc (Write u k value) same agree d own = tt
  right_item t front rest acc (Read u k answer) same agree d own =
      subst (λ (n : ℕ). RightAnswer h acc (st.start n) (tell.key k) (found_of st tell answer) (last_write acc (st.start n) (tell.key k))) (sym own)
      (subst (λ (o : Option (List ℕ)). RightAnswer h acc (st.start t) (tell.key k) (found_of st tell answer) o) (sym (agree k))
      (right acc t k answer (last_of front t k) (is.reads (length front) t k answer (last_of front t k) (record {
        done = d;
        stands = ap (λ (l : List Operation). slice_get l (length front)) same ∙ slice_get-seam front (Read u k answer) rest ∙ ap (λ (n : ℕ). Some (Read n k answer)) own;
        before = ap (λ (l : List Operation). last_of (take (length front) l) t k) same ∙ ap (λ (l : List Operation). last_of l t k) (take-append_seam front (Read u k answer ∷ rest));
      }))))

  reads_along : (t : ℕ) → Done trace t → (rest front : List Operation) (acc : List Item) → trace.operations ≡ front ++ rest → Agrees st tell t front acc → Along (RightRead h) acc (map (item_of st tell) (operations_of t rest))
  unfolding Along
  reads_along t d [] front acc same agree = tt
  reads_along t d (x ∷ rest) front acc same agree = by (txn_of x == t) refl
      (λ e. reads_along t d rest (front ++ x ∷ []) (acc ++ item_of st tell x ∷ []) (same ∙ sym (append_assoc front (x ∷ []) rest)) (agrees_item st tell keys t front acc x agree (eqb-true (txn_of x) t e)))
      (λ e. reads_along t d rest (front ++ x ∷ []) acc (same ∙ sym (append_assoc front (x ∷ []) rest)) (agrees_skip st tell t front acc x agree e))
    where
      by : (b : Bool) → (txn_of x == t) ≡ b
          → ((txn_of x == t) ≡ true → Along (RightRead h) (acc ++ item_of st tell x ∷ []) (map (item_of st tell) (operations_of t rest)))
          → ((txn_of x == t) ≡ false → Along (RightRead h) acc (map (item_of st tell) (operations_of t rest)))
          → Along (RightRead h) acc (map (item_of st tell) (cond b (x ∷ operations_of t rest) (operations_of t rest)))
      by true e more skip = (right_item t front rest acc x same agree d (eqb-true (txn_of x) t e), more e)
      by false e more skip = skip e

  there : (front rest : List Point) (x : Point) → points ≡ front ++ x ∷ rest → x ∈ points
  there front rest x same = subst (λ (l : List Point). x ∈ l) (sym same) (in_back x front (x ∷ rest) (first_in x rest))

  reads_at : (front rest : List Point) (x : Point) → points ≡ front ++ x ∷ rest → Along (RightRead h) (history_of st tell trace front) (items_at st tell trace x)
  unfolding Along
  reads_at front rest (Commit t) same = (tt, tt)
  reads_at front rest (Start t) same = (
    tt,
    (
      tt,
      reads_along t (order.done (Start t) (there front rest (Start t) same)) trace.operations []
          ((history_of st tell trace front ++ item.AskBegin (tell.session t) 0 ∷ []) ++ item.Begin (tell.session t) (st.start t) ∷ []) refl (begun front rest t same),
    ),
  )

  reads : AtEach (RightRead h) h
  unfolding h
  reads = each_flat (items_at st tell trace) (RightRead h) points reads_at

  -- ---- stamps
  new_at : (front rest : List Point) (x : Point) → points ≡ front ++ x ∷ rest → Along NewStamps (history_of st tell trace front) (items_at st tell trace x)
  unfolding Along
  new_at front rest (Commit t) same = (
    (λ u c placed.
        let m = placed_of st tell trace front u c placed in
        let less : st.commit m.0 < st.commit t = before_below st tell trace points order front rest (Commit t) (Commit m.0) same m.1 in (
          (λ one. not_same m.0 t (is.numbered.starts m.0 t (order.done (Commit m.0) (early front rest (Commit t) (Commit m.0) same m.1)) (order.done (Commit t) (there front rest (Commit t) same)) (sym m.2 ∙ one)) less),
          (λ one. let at = m.3 in absurd (omega (arith, one, at, less))),
        )),
    tt,
  )
    where
      not_same : (m t : ℕ) → m ≡ t → st.commit m < st.commit t → ⊥
      not_same m t one less = let same = ap (λ (n : ℕ). st.commit n) one in absurd (omega (arith, same, less))

      early : (front rest : List Point) (x y : Point) → points ≡ front ++ x ∷ rest → y ∈ front → y ∈ points
      early front rest x y same m = subst (λ (l : List Point). y ∈ l) (sym same) (in_front y front (x ∷ rest) m)
  new_at front rest (Start t) same = (
    tt,
    (
      (λ s placed. elim (in_push (item.Begin s (st.start t)) (item.AskBegin (tell.session t) 0) (history_of st tell trace front) placed) [
        | inl old ↦
            let m = begin_of st tell trace front s (st.start t) old in
            let less : st.start m.0 < st.start t = before_below st tell trace points order front rest (Start t) (Start m.0) same m.1 in
            let at = m.2 in
            absurd (omega (arith, less, at))
        | inr new ↦ absurd (cc)
      ]),
      along_items st tell NewStamps quiet (operations_of t trace.operations) ((history_of st tell trace front ++ item.AskBegin (tell.session t) 0 ∷ []) ++ item.Begin (tell.session t) (st.start t) ∷ []),
    ),
  )
    where
      quiet : (b : List Item) (o : Operation) → NewStamps b (item_of st tell o)
      quiet b (Read u k a) = tt
      quiet b (Write u k v) = tt

  begun_is : (s t : ℕ) → item.Begin s t ∈ h → (m : ℕ) × Done trace m × (t ≡ st.start m)
  unfolding h
  begun_is s t placed = let m = begin_of st tell trace points s t placed in (m.0, order.done (Start m.0) m.1, m.2)

  stamped : Stamped h
  unfolding h
  stamped = record {
    distinct = each_flat (items_at st tell trace) NewStamps points new_at;
    no_start_commits = λ session t u begin placed.
        let m = begun_is session t begin in
        let n = committed_is u t placed in
        is.numbered.no_start_commits m.0 n.0 m.1 n.1 (sym m.2 ∙ n.3);
    start_below_commit = λ t c placed.
        let m = committed_is t c placed in
        let own = is.numbered.ordered m.0 m.1 in
        let s = m.2 in
        let e = m.3 in
        omega (arith, own, s, e);
  }

  -- ---- begins: what was committed before one was asked for stands before it
  fresh_at : (front rest : List Point) (x : Point) → points ≡ front ++ x ∷ rest → Along StartsAbove (history_of st tell trace front) (items_at st tell trace x)
  unfolding Along
  fresh_at front rest (Commit t) same = (tt, tt)
  fresh_at front rest (Start t) same = (
    tt,
    (
      (λ u c placed. elim (in_push (item.Placed u c) (item.AskBegin (tell.session t) 0) (history_of st tell trace front) (before_ask-in (tell.session t) (history_of st tell trace front ++ item.AskBegin (tell.session t) 0 ∷ []) (item.Placed u c) placed)) [
        | inl old ↦
            let m = placed_of st tell trace front u c old in
            let less : st.commit m.0 < st.start t = before_below st tell trace points order front rest (Start t) (Commit m.0) same m.1 in
            let at = m.3 in
            omega (arith, less, at)
        | inr new ↦ absurd (cc)
      ]),
      along_items st tell StartsAbove quiet (operations_of t trace.operations) ((history_of st tell trace front ++ item.AskBegin (tell.session t) 0 ∷ []) ++ item.Begin (tell.session t) (st.start t) ∷ []),
    ),
  )
    where
      quiet : (b : List Item) (o : Operation) → StartsAbove b (item_of st tell o)
      quiet b (Read u k a) = tt
      quiet b (Write u k v) = tt

  fresh : Fresh h
  unfolding h
  fresh = each_flat (items_at st tell trace) StartsAbove points fresh_at

  all_isolated : Isolated (history_of st tell trace points)
  unfolding h
  all_isolated = record { apart = apart; stamped = stamped; fresh = fresh; reads = reads }

pub isolated : (level : Level) (st : Stamping) (tell : Telling) (trace : Trace) (points : List Point) → KeysDiffer tell → InOrder st trace points → IsolatedBy level st trace → Isolated (history_of st tell trace points)
isolated level st tell trace points keys order is = all_isolated level st tell trace points keys order is

-- ---- serial
module _ (st : Stamping) (tell : Telling) (trace : Trace) (points : List Point) (keys : KeysDiffer tell) (order : InOrder st trace points) (is : IsolatedBy Serializable st trace) where
  stood : (s k d : ℕ) → Committed (history_of st tell trace points) s d → StoodUntil (history_of st tell trace points) k s d
  unfolding h
  stood s k d mine t c value theirs other wrote above below =
      let m = committed_is Serializable st tell trace points keys order is s d mine in
      let n = committed_is Serializable st tell trace points keys order is t c theirs in
      let own = is.numbered.ordered n.0 n.1 in
      let s_is = m.2 in
      let d_is = m.3 in
      let t_is = n.2 in
      let c_is = n.3 in
      absurd (elim (is.apart m.0 n.0 (λ same. other (n.2 ∙ ap (λ (x : ℕ). st.start x) (sym same) ∙ sym m.2)) (record { first = m.1; second = n.1 })) [
        | inl less ↦ omega (arith, less, own, d_is, c_is, below)
        | inr less ↦ omega (arith, less, s_is, c_is, above)
      ])

  stands : (b : List Item) (o : Operation) → StoodAtCommit (history_of st tell trace points) b (item_of st tell o)
  stands b (Read t k answer) = λ none d mine. stood (st.start t) (tell.key k) d mine
  stands b (Write t k value) = tt

  stands_at : (front rest : List Point) (x : Point) → points ≡ front ++ x ∷ rest → Along (StoodAtCommit (history_of st tell trace points)) (history_of st tell trace front) (items_at st tell trace x)
  unfolding Along
  stands_at front rest (Commit t) same = (tt, tt)
  stands_at front rest (Start t) same = (
    tt,
    (
      tt,
      along_items st tell (StoodAtCommit (history_of st tell trace points)) stands (operations_of t trace.operations) ((history_of st tell trace front ++ item.AskBegin (tell.session t) 0 ∷ []) ++ item.Begin (tell.session t) (st.start t) ∷ []),
    ),
  )

  all_serial : Serial (history_of st tell trace points)
  all_serial = each_flat (items_at st tell trace) (StoodAtCommit (history_of st tell trace points)) points stands_at

pub serial : (st : Stamping) (tell : Telling) (trace : Trace) (points : List Point) → KeysDiffer tell → InOrder st trace points → IsolatedBy Serializable st trace → Serial (history_of st tell trace points)
serial st tell trace points keys order is = all_serial st tell trace points keys order is
