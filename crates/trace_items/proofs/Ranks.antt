-- Of stamps only the order counts. For crates that number the points of a trace.
use Rattle.std.proofs.Common.{◌≡◌, ◌≢◌, ℕ, ◌<◌, ◌≤◌, ◌⊎◌, List, Option, None, Some, slice_get, inl, inr, sym, ap, ◌∙◌, arith}
use Rattle.std.proofs.lemmas.Option.{same_Some}
use Rattle.trace_rules.specs.declared.trace.Version.{Version}
use Rattle.trace_rules.specs.declared.wanted.Level.{Level}
use Rattle.trace_rules.specs.declared.wanted.Level.TheVariants.{Snapshot, Serializable}
use Rattle.trace_rules.specs.Serial.{owner}
use Rattle.trace_rules.specs.Trace.{Trace, Done}
use Rattle.trace_rules.specs.Stamping.{Stamping, Conflict, IsolatedBy, Numbered, Point, Start, Commit, stamp_of, Newest, RightAnswer}
use Rattle.trace_items.specs.Items.{InOrder, Ranked}
use Rattle.trace_items.proofs.Along.{from_taken, place_of, taken}

compare : (a b : ℕ) → (a < b) ⊎ ((a ≡ b) ⊎ (b < a))
compare a b = grind arith

-- stamps that lie in the same order isolate too
module _ (level : Level) (st ranks : Stamping) (trace : Trace) (is : IsolatedBy level st trace)
    (up : (x y : Point) → Done trace (owner x) → Done trace (owner y) → stamp_of st x < stamp_of st y → stamp_of ranks x < stamp_of ranks y) where
  -- equal ranks are of equal stamps
  down : (x y : Point) → Done trace (owner x) → Done trace (owner y) → stamp_of ranks x ≡ stamp_of ranks y → stamp_of st x ≡ stamp_of st y
  down x y dx dy same = elim (compare (stamp_of st x) (stamp_of st y)) [
    | inl less ↦ let over = up x y dx dy less in absurd (omega (arith, over, same))
    | inr rest ↦ elim rest [
      | inl equal ↦ equal
      | inr more ↦ let over = up y x dy dx more in absurd (omega (arith, over, same))
    ]
  ]

  below : (x y : Point) → Done trace (owner x) → Done trace (owner y) → stamp_of st x ≢ stamp_of st y → stamp_of ranks x < stamp_of ranks y → stamp_of st x < stamp_of st y
  below x y dx dy other low = elim (compare (stamp_of st x) (stamp_of st y)) [
    | inl less ↦ less
    | inr rest ↦ elim rest [
      | inl equal ↦ absurd (other equal)
      | inr more ↦ let over = up y x dy dx more in absurd (omega (arith, over, low))
    ]
  ]

  numbered : Numbered ranks trace
  numbered = record {
    ordered = λ t d. up (Start t) (Commit t) d d (is.numbered.ordered t d);
    starts = λ t u dt du same. is.numbered.starts t u dt du (down (Start t) (Start u) dt du same);
    commits = λ t u dt du same. is.numbered.commits t u dt du (down (Commit t) (Commit u) dt du same);
    no_start_commits = λ t u dt du same. is.numbered.no_start_commits t u dt du (down (Start t) (Commit u) dt du same);
  }

  low_commit : (t s : ℕ) → Done trace t → Done trace s → ranks.commit t < ranks.start s → st.commit t < st.start s
  low_commit t s dt ds low = below (Commit t) (Start s) dt ds (λ same. is.numbered.no_start_commits s t ds dt (sym same)) low

  conflict_done : (l : Level) (t u : ℕ) → Conflict l trace t u → Done trace t × Done trace u
  conflict_done Snapshot t u c = (c.first.done, c.second.done)
  conflict_done Serializable t u c = (c.first, c.second)

  no_higher : (t u : ℕ) → Done trace t → Done trace u → st.commit t ≤ st.commit u → ranks.commit t ≤ ranks.commit u
  no_higher t u dt du most = elim (compare (st.commit t) (st.commit u)) [
    | inl less ↦ let low = up (Commit t) (Commit u) dt du less in omega (arith, low)
    | inr rest ↦ elim rest [
      | inl equal ↦ let same = ap (λ (n : ℕ). ranks.commit n) (is.numbered.commits t u dt du equal) in omega (arith, same)
      | inr more ↦ absurd (omega (arith, most, more))
    ]
  ]

  newest : (s k : ℕ) (found : Version) → Done trace s → Newest st trace (st.start s) k found → Newest ranks trace (ranks.start s) k found
  newest s k found d new = record {
    writer = new.writer;
    below = up (Commit found.from) (Start s) new.writer.done d new.below;
    greatest = λ t value w low. no_higher t found.from w.done new.writer.done (new.greatest t value w (low_commit t s w.done d low));
  }

  answers : (t k : ℕ) (answer : Option Version) (own : Option ℕ) → Done trace t → RightAnswer st trace t k answer own → RightAnswer ranks trace t k answer own
  answers t k answer (Some own) d right = right
  answers t k None None d none = λ u value w low. none u value w (low_commit u t w.done d low)
  answers t k (Some found) None d new = newest t k found d new

  same_order : IsolatedBy level ranks trace
  same_order = record {
    numbered = numbered;
    apart = λ t u other conflict.
        let d = conflict_done level t u conflict in
        elim (is.apart t u other conflict) [
          | inl less ↦ inl (up (Commit t) (Start u) d.0 d.1 less)
          | inr less ↦ inr (up (Commit u) (Start t) d.1 d.0 less)
        ];
    reads = λ place t k answer own read. answers t k answer own read.done (is.reads place t k answer own read);
  }

-- ---- places are in order
module _ (st ranks : Stamping) (trace : Trace) (points : List Point) (order : InOrder st trace points) (ranked : Ranked ranks points) where
  pub ranks_order : InOrder ranks trace points
  ranks_order = record {
    all = order.all;
    done = order.done;
    rises = record {
      at = λ p x at y before.
          let q = from_taken y points p before in
          let low = q.1 in
          let one = ranked q.0 y q.2 in
          let two = ranked p x at in
          omega (arith, low, one, two);
    };
  }

  ranks_up : (x y : Point) → Done trace (owner x) → Done trace (owner y) → stamp_of st x < stamp_of st y → stamp_of ranks x < stamp_of ranks y
  ranks_up x y dx dy less =
      let p = place_of x points (order.all x dx) in
      let q = place_of y points (order.all y dy) in
      elim (compare p.0 q.0) [
        | inl low ↦ let one = ranked p.0 x p.1 in let two = ranked q.0 y q.1 in omega (arith, low, one, two)
        | inr rest ↦ elim rest [
          | inl same ↦ absurd (one_point (same_Some _ _ (sym p.1 ∙ ap (λ (n : ℕ). slice_get points n) same ∙ q.1)))
          | inr more ↦ let over : stamp_of st y < stamp_of st x = order.rises.at p.0 x p.1 y (taken y points q.0 p.0 q.1 more) in absurd (omega (arith, less, over))
        ]
      ]
    where
      one_point : x ≡ y → ⊥
      one_point same = let equal = ap (λ (z : Point). stamp_of st z) same in absurd (omega (arith, less, equal))

  pub ranks_isolate : (level : Level) → IsolatedBy level st trace → IsolatedBy level ranks trace
  ranks_isolate level is = same_order level st ranks trace is ranks_up
