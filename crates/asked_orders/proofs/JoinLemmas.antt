-- Why edges of what is asked for hold in all stamps that keep it, and edges one after another too.
use Rattle.std.proofs.Common.{◌≡◌, ℕ, ◌+◌, ◌-◌, ◌<◌, ◌≤◌, nat_lt, Bool, true, false, ◌&&◌, ◌==◌, List, [], ◌∷◌, ◌++◌, Option, Some, None, length, slice_get, get_or, inl, inr, refl, sym, subst, ap, ◌∙◌, arith}
use Rattle.std.proofs.lemmas.Option.{get_or_from_slice_get}
use Rattle.trace_rules.specs.declared.trace.Operation.{Operation}
use Rattle.trace_rules.specs.declared.trace.Transaction.{Transaction}
use Rattle.trace_rules.specs.declared.wanted.Level.{Level}
use Rattle.trace_rules.specs.declared.wanted.Level.TheVariants.{Snapshot, Serializable}
use Rattle.trace_rules.specs.declared.wanted.Times.{Times}
use Rattle.trace_rules.specs.Trace.{Trace, Done, committed_in}
use Rattle.trace_rules.specs.Stamping.{Asked, IsolatedBy, Keeps, Point, Start, Commit, Stamping, stamp_of}
use Rattle.trace_rules.specs.Below.{Below, Wanted}
use Rattle.trace_rules.specs.Wants.{Moments, in_time, is_under, moments_of, of_done, of_one_process, real_time, sessions}
use Rattle.trace_rules.proofs.Forced.{edges}
use Rattle.rising_numbers.specs.declared.Edge.{Edge}
use Rattle.rising_numbers.specs.Rises.{AreWithin}
use Rattle.outer_reads.specs.Sources.{trace_of}
use Rattle.outer_reads.proofs.ListLemmas.{get_push_cases}
use Rattle.trace_edges.specs.Edges.{starts_of, point_of, AreForced, MayLay, LeftOut, LaidOn}
use Rattle.asked_orders.specs.Joins.{Always, Place, AtPoint, AtMoment, stands_for, place_of, no_moments, ComesBy, ComesBehind, UpTo, Here, Under, ToMoment, FromMoment, Across, Later, Through, Joins, AreJoined}
use Rattle.asked_orders.specs.Laid.{IsFrom, IsNext, IsUntil, StillJoined}
use Rattle.trace_edges.proofs.EdgeLemmas.{at_start, commit_point, from_commit, lower, start_point, sole_point, done_within, not_lower}

-- ---- places that follow one another
pub below_always : (level : Level) (asked : Asked) (trace : Trace) (x y : Point) → Below level asked trace x y → Always level asked trace x y
below_always level asked trace x y below = λ st is keeps. edges level asked trace st x y below is keeps

module _ (level : Level) (asked : Asked) (moments : Moments) (trace : Trace) where
  then_always : (x y z : Point) → Always level asked trace x y → Always level asked trace y z → Always level asked trace x z
  then_always x y z p q = λ st is keeps. let low = p st is keeps in let high = q st is keeps in omega (arith, low, high)

  up_then : (x y z : Point) → UpTo level asked trace x y → UpTo level asked trace y z → UpTo level asked trace x z
  up_then x y z Here q = q
  up_then x y z (Under p) Here = Under p
  up_then x y z (Under p) (Under q) = Under (then_always x y z p q)

  up_below : (x y z : Point) → UpTo level asked trace x y → Always level asked trace y z → Always level asked trace x z
  up_below x y z Here q = q
  up_below x y z (Under p) q = then_always x y z p q

  below_up : (x y z : Point) → Always level asked trace x y → UpTo level asked trace y z → Always level asked trace x z
  below_up x y z p Here = p
  below_up x y z p (Under q) = then_always x y z p q

  by_later : (x : Point) (a b : ℕ) → ComesBy moments trace x a → a < b → ComesBy moments trace x b
  by_later x a b comes less = record { done = comes.done; until = comes.until; known = comes.known; most = let most = comes.most in omega (arith, most, less) }

  behind_earlier : (x : Point) (a b : ℕ) → a < b → ComesBehind moments trace x b → ComesBehind moments trace x a
  behind_earlier x a b less comes = record { done = comes.done; from = comes.from; known = comes.known; less = let low = comes.less in omega (arith, low, less) }

  module _ (timed : (x y : Point) → of_done trace x ≡ true → of_done trace y ≡ true → in_time moments x y ≡ true → asked x y ≡ true) where
    -- what came by a moment is below what came behind it
    meets : (x y : Point) (a : ℕ) → ComesBy moments trace x a → ComesBehind moments trace y a → Always level asked trace x y
    meets x y a by behind = λ st is keeps. keeps x y (timed x y by.done behind.done
        (subst (λ (o : Option ℕ). is_under o (moments.from y) ≡ true) (sym by.known)
        (subst (λ (o : Option ℕ). is_under (Some by.until) o ≡ true) (sym behind.known)
        (lower by.until behind.from (let most = by.most in let less = behind.less in omega (arith, most, less))))))

    pub joins_then : (a b c : Place) → Joins level asked moments trace a b → Joins level asked moments trace b c → Joins level asked moments trace a c
    joins_then (AtPoint x) (AtPoint y) (AtPoint z) p q = then_always x y z p q
    joins_then (AtPoint x) (AtPoint y) (AtMoment c) p q = record { point = q.point; up = up_then x y q.point (Under p) q.up; comes = q.comes }
    joins_then (AtPoint x) (AtMoment b) (AtPoint z) p q = below_up x q.point z (up_below x p.point q.point p.up (meets p.point q.point b p.comes q.comes)) q.up
    joins_then (AtPoint x) (AtMoment b) (AtMoment c) p (Later less) = record { point = p.point; up = p.up; comes = by_later p.point b c p.comes less }
    joins_then (AtPoint x) (AtMoment b) (AtMoment c) p (Through v w behind up by) = record { point = w; up = up_then x v w (Under (up_below x p.point v p.up (meets p.point v b p.comes behind))) up; comes = by }
    joins_then (AtMoment a) (AtPoint y) (AtPoint z) p q = record { point = p.point; comes = p.comes; up = up_then p.point y z p.up (Under q) }
    joins_then (AtMoment a) (AtPoint y) (AtMoment c) p q = Through p.point q.point p.comes (up_then p.point y q.point p.up q.up) q.comes
    joins_then (AtMoment a) (AtMoment b) (AtPoint z) (Later less) q = record { point = q.point; comes = behind_earlier q.point a b less q.comes; up = q.up }
    joins_then (AtMoment a) (AtMoment b) (AtPoint z) (Through v w behind up by) q = record { point = v; comes = behind; up = up_then v w z up (Under (below_up w q.point z (meets w q.point b by q.comes) q.up)) }
    joins_then (AtMoment a) (AtMoment b) (AtMoment c) (Later one) (Later two) = Later (omega (arith, one, two))
    joins_then (AtMoment a) (AtMoment b) (AtMoment c) (Later one) (Through v w behind up by) = Through v w (behind_earlier v a b one behind) up by
    joins_then (AtMoment a) (AtMoment b) (AtMoment c) (Through v w behind up by) (Later two) = Through v w behind up (by_later w b c by two)
    joins_then (AtMoment a) (AtMoment b) (AtMoment c) (Through v w behind up by) (Through x y other over last) = Through v y behind (up_then v w y up (up_then w x y (Under (meets w x b by other)) over)) last

    -- a place before itself gives a point below itself
    pub joins_round : (a : Place) → Joins level asked moments trace a a → (x : Point) × Always level asked trace x x
    joins_round (AtPoint x) p = (x, p)
    joins_round (AtMoment a) (Later less) = absurd (omega (arith, less))
    joins_round (AtMoment a) (Through v w behind up by) = (v, up_below v w v up (meets w v a by behind))

-- ---- edges between points
pub point_place : (starts points : ℕ) (chain : List ℕ) (x : ℕ) → x < points → place_of starts points chain x ≡ AtPoint (point_of starts x)
point_place starts points chain x less = ap (λ (b : Bool). stands_for b starts points chain x) (lower x points less)

pub points_join : (level : Level) (asked : Asked) (moments : Moments) (trace : Trace) (starts points : ℕ) (chain : List ℕ) (x y : ℕ) → x < points → y < points → Always level asked trace (point_of starts x) (point_of starts y) →
    Joins level asked moments trace (place_of starts points chain x) (place_of starts points chain y)
points_join level asked moments trace starts points chain x y low high below =
    subst (λ (p : Place). Joins level asked moments trace p (place_of starts points chain y)) (sym (point_place starts points chain x low))
    (subst (λ (q : Place). Joins level asked moments trace (AtPoint (point_of starts x)) q) (sym (point_place starts points chain y high)) below)

pub forced_join : (level : Level) (asked : Asked) (moments : Moments) (trace : Trace) (starts points : ℕ) (chain : List ℕ) (edges : List Edge) → AreWithin points edges → AreForced level asked trace starts edges → AreJoined level asked moments trace starts points chain edges
forced_join level asked moments trace starts points chain edges within forced place edge at =
    points_join level asked moments trace starts points chain edge.from edge.to (within.from place edge at) (within.to place edge at) (below_always level asked trace (point_of starts edge.from) (point_of starts edge.to) (forced place edge at))

-- ---- an edge more
pub join_laid : (level : Level) (asked : Asked) (moments : Moments) (trace : Trace) (starts points count : ℕ) (chain : List ℕ) (old new : List Edge) (edge : Edge) →
    MayLay count edge old new → (edge.from < count → edge.to < count → Joins level asked moments trace (place_of starts points chain edge.from) (place_of starts points chain edge.to)) →
    AreJoined level asked moments trace starts points chain old → AreJoined level asked moments trace starts points chain new
join_laid level asked moments trace starts points count chain old new edge (LeftOut same) joins joined = subst (λ (xs : List Edge). AreJoined level asked moments trace starts points chain xs) (sym same) joined
join_laid level asked moments trace starts points count chain old new edge (LaidOn is from to) joins joined = subst (λ (xs : List Edge). AreJoined level asked moments trace starts points chain xs) (sym is) (λ place e at. elim (get_push_cases old edge place e at) [
  | inl before ↦ joined place e before
  | inr last ↦ subst (λ (x : Edge). Joins level asked moments trace (place_of starts points chain x.from) (place_of starts points chain x.to)) last (joins from to)
])

-- ---- sessions
process_done : (a b : Option Transaction) → of_one_process a b ≡ true → committed_in b ≡ true
process_done (Some a) (Some b) e = by a.committed b.committed (a.process == b.process) e
  where
    by : (x y z : Bool) → x && y && z ≡ true → y ≡ true
    by true true z e = refl
    by true false z e = absurd (cc)
    by false y z e = absurd (cc)
process_done (Some a) None e = absurd (cc)
process_done None b e = absurd (cc)

both : (a b : Bool) → a ≡ true → b ≡ true → a && b ≡ true
both a b e f = cc

pub turn_joins : (level : Level) (transactions : List Transaction) (operations : List Operation) (starts points : ℕ) (chain : List ℕ) (edge : Edge) (t u : ℕ) → starts ≡ starts_of level (length transactions) →
    t < u → of_one_process (slice_get transactions t) (slice_get transactions u) ≡ true → edge.from ≡ starts + t → edge.to ≡ u → edge.from < points → edge.to < points →
    Joins level (sessions (trace_of transactions operations)) no_moments (trace_of transactions operations) (place_of starts points chain edge.from) (place_of starts points chain edge.to)
turn_joins level transactions operations starts points chain edge t u is less one from to low high =
    points_join level (sessions (trace_of transactions operations)) no_moments (trace_of transactions operations) starts points chain edge.from edge.to low high
    (subst (λ (x : ℕ). Always level (sessions (trace_of transactions operations)) (trace_of transactions operations) (point_of starts x) (point_of starts edge.to)) (sym from)
    (subst (λ (y : ℕ). Always level (sessions (trace_of transactions operations)) (trace_of transactions operations) (point_of starts (starts + t)) (point_of starts y)) (sym to)
    (below_always level (sessions (trace_of transactions operations)) (trace_of transactions operations) (point_of starts (starts + t)) (point_of starts u)
    (from_commit level (sessions (trace_of transactions operations)) (trace_of transactions operations) starts is t u
    (at_start level (sessions (trace_of transactions operations)) (trace_of transactions operations) starts is u (Commit t) (process_done (slice_get transactions t) (slice_get transactions u) one)
    (Wanted (both (nat_lt t u) (of_one_process (slice_get transactions t) (slice_get transactions u)) (lower t u less) one)))))))

-- ---- time
-- the node of a moment
moment_place : (starts points : ℕ) (chain : List ℕ) (place last : ℕ) → slice_get chain place ≡ Some last → place_of starts points chain (points + place) ≡ AtMoment last
moment_place starts points chain place last at =
    ap (λ (b : Bool). stands_for b starts points chain (points + place)) (not_lower (points + place) points (omega arith))
    ∙ ap AtMoment (ap (λ (i : ℕ). get_or chain i 0) (back points place) ∙ get_or_from_slice_get chain place last 0 at)
  where
    back : (n i : ℕ) → n + i - n ≡ i
    back n i = omega arith

-- the start of a committed transaction is the point of its node, or below it
start_up : (level : Level) (asked : Asked) (trace : Trace) (t : ℕ) → Done trace t → UpTo level asked trace (Start t) (point_of (starts_of level (length trace.transactions)) t)
start_up Snapshot asked trace t done = subst (λ (y : Point). UpTo Snapshot asked trace (Start t) y) (sym (start_point (length trace.transactions) t (done_within trace t done))) Here
start_up Serializable asked trace t done = subst (λ (y : Point). UpTo Serializable asked trace (Start t) y) (sym (sole_point t)) (Under (λ st is keeps. is.numbered.ordered t done))

module _ (level : Level) (times : List Times) (transactions : List Transaction) (operations : List Operation) (starts points : ℕ) (chain : List ℕ) (is : starts ≡ starts_of level (length transactions)) where
  abbrev timed : Asked
  timed = real_time level times (trace_of transactions operations)

  abbrev Joined : Place → Place → Type 0
  Joined = Joins level timed (moments_of level times) (trace_of transactions operations)

  pub from_joins : (t node : ℕ) (x : Point) (edge : Edge) → committed_in (slice_get transactions t) ≡ true → UpTo level timed (trace_of transactions operations) x (point_of starts node) → of_done (trace_of transactions operations) x ≡ true →
      IsFrom chain points node ((moments_of level times).from x) edge → Joined (place_of starts points chain edge.from) (place_of starts points chain edge.to)
  from_joins t node x edge done up counts e =
      subst (λ (n : ℕ). Joined (place_of starts points chain n) (place_of starts points chain edge.to)) (sym e.from)
      (subst (λ (n : ℕ). Joined (place_of starts points chain (points + e.place)) (place_of starts points chain n)) (sym e.to)
      (subst (λ (p : Place). Joined p (place_of starts points chain node)) (sym (moment_place starts points chain e.place e.last e.stands))
      (subst (λ (q : Place). Joined (AtMoment e.last) q) (sym (point_place starts points chain node e.point))
      (record { point = x; comes = record { done = counts; from = e.moment; known = e.known; less = e.less }; up = up }))))

  pub until_joins : (t node : ℕ) (x : Point) (edge : Edge) → point_of starts node ≡ x → of_done (trace_of transactions operations) x ≡ true →
      IsUntil chain points node ((moments_of level times).until x) edge → Joined (place_of starts points chain edge.from) (place_of starts points chain edge.to)
  until_joins t node x edge same counts e =
      subst (λ (n : ℕ). Joined (place_of starts points chain n) (place_of starts points chain edge.to)) (sym e.from)
      (subst (λ (n : ℕ). Joined (place_of starts points chain node) (place_of starts points chain n)) (sym e.to)
      (subst (λ (p : Place). Joined p (place_of starts points chain (points + e.place))) (sym (point_place starts points chain node e.point))
      (subst (λ (q : Place). Joined (AtPoint (point_of starts node)) q) (sym (moment_place starts points chain e.place e.last e.stands))
      (record { point = x; up = subst (λ (y : Point). UpTo level timed (trace_of transactions operations) (point_of starts node) y) same Here; comes = record { done = counts; until = e.moment; known = e.known; most = e.most } }))))

  pub next_joins : (edge : Edge) → IsNext chain points edge → Joined (place_of starts points chain edge.from) (place_of starts points chain edge.to)
  next_joins edge e =
      subst (λ (n : ℕ). Joined (place_of starts points chain n) (place_of starts points chain edge.to)) (sym e.from)
      (subst (λ (n : ℕ). Joined (place_of starts points chain (points + e.place)) (place_of starts points chain n)) (sym e.to)
      (subst (λ (p : Place). Joined p (place_of starts points chain (points + e.next))) (sym (moment_place starts points chain e.place e.first e.stands))
      (subst (λ (q : Place). Joined (AtMoment e.first) q) (sym (moment_place starts points chain e.next e.second e.follows)) (Later e.less))))

  start_from_joins : (t : ℕ) (edge : Edge) → committed_in (slice_get transactions t) ≡ true → IsFrom chain points t ((moments_of level times).from (Start t)) edge → Joined (place_of starts points chain edge.from) (place_of starts points chain edge.to)
  start_from_joins t edge done e = from_joins t t (Start t) edge done
      (subst (λ (s : ℕ). UpTo level timed (trace_of transactions operations) (Start t) (point_of s t)) (sym is) (start_up level timed (trace_of transactions operations) t done)) done e

  commit_from_joins : (t node : ℕ) (edge : Edge) → node ≡ starts + t → committed_in (slice_get transactions t) ≡ true → IsFrom chain points node ((moments_of level times).from (Commit t)) edge → Joined (place_of starts points chain edge.from) (place_of starts points chain edge.to)
  commit_from_joins t node edge at done e = from_joins t node (Commit t) edge done
      (subst (λ (y : Point). UpTo level timed (trace_of transactions operations) (Commit t) y) (sym (ap (λ (n : ℕ). point_of starts n) at ∙ commit_point starts t)) Here) done e

  commit_until_joins : (t node : ℕ) (edge : Edge) → node ≡ starts + t → committed_in (slice_get transactions t) ≡ true → IsUntil chain points node ((moments_of level times).until (Commit t)) edge → Joined (place_of starts points chain edge.from) (place_of starts points chain edge.to)
  commit_until_joins t node edge at done e = until_joins t node (Commit t) edge (ap (λ (n : ℕ). point_of starts n) at ∙ commit_point starts t) done e

-- of a transaction that is one point nothing is known of when its start came
no_until : (times : List Times) (t points : ℕ) (chain : List ℕ) (edge : Edge) → IsUntil chain points t ((moments_of Serializable times).until (Start t)) edge → ⊥
no_until times t points chain edge e = let known : None ≡ Some e.moment = e.known in absurd (cc)

start_until_joins : (level : Level) (times : List Times) (transactions : List Transaction) (operations : List Operation) (starts points : ℕ) (chain : List ℕ) → starts ≡ starts_of level (length transactions) → (t : ℕ) (edge : Edge) →
    committed_in (slice_get transactions t) ≡ true → IsUntil chain points t ((moments_of level times).until (Start t)) edge →
    Joins level (real_time level times (trace_of transactions operations)) (moments_of level times) (trace_of transactions operations) (place_of starts points chain edge.from) (place_of starts points chain edge.to)
start_until_joins Snapshot times transactions operations starts points chain is t edge done e = until_joins Snapshot times transactions operations starts points chain is t t (Start t) edge
    (start_point starts t (subst (λ (s : ℕ). t < s) (sym is) (done_within (trace_of transactions operations) t done))) done e
start_until_joins Serializable times transactions operations starts points chain is t edge done e = absurd (no_until times t points chain edge e)

-- ---- edges that may be laid
module _ (level : Level) (times : List Times) (transactions : List Transaction) (starts points all : ℕ) (chain : List ℕ) (old new : List Edge) (edge : Edge) (may : MayLay all edge old new) where
  still : ((operations : List Operation) → starts ≡ starts_of level (length transactions) → Joins level (real_time level times (trace_of transactions operations)) (moments_of level times) (trace_of transactions operations) (place_of starts points chain edge.from) (place_of starts points chain edge.to)) →
      StillJoined level (real_time level times) (moments_of level times) transactions starts points chain old new
  still joins = λ operations is joined. join_laid level (real_time level times (trace_of transactions operations)) (moments_of level times) (trace_of transactions operations) starts points all chain old new edge may (λ from to. joins operations is) joined

  pub start_from_still : (t : ℕ) → committed_in (slice_get transactions t) ≡ true → IsFrom chain points t ((moments_of level times).from (Start t)) edge → StillJoined level (real_time level times) (moments_of level times) transactions starts points chain old new
  start_from_still t done e = still (λ operations is. start_from_joins level times transactions operations starts points chain is t edge done e)

  pub start_until_still : (t : ℕ) → committed_in (slice_get transactions t) ≡ true → IsUntil chain points t ((moments_of level times).until (Start t)) edge → StillJoined level (real_time level times) (moments_of level times) transactions starts points chain old new
  start_until_still t done e = still (λ operations is. start_until_joins level times transactions operations starts points chain is t edge done e)

  pub commit_from_still : (t node : ℕ) → node ≡ starts + t → committed_in (slice_get transactions t) ≡ true → IsFrom chain points node ((moments_of level times).from (Commit t)) edge → StillJoined level (real_time level times) (moments_of level times) transactions starts points chain old new
  commit_from_still t node at done e = still (λ operations is. commit_from_joins level times transactions operations starts points chain is t node edge at done e)

  pub commit_until_still : (t node : ℕ) → node ≡ starts + t → committed_in (slice_get transactions t) ≡ true → IsUntil chain points node ((moments_of level times).until (Commit t)) edge → StillJoined level (real_time level times) (moments_of level times) transactions starts points chain old new
  commit_until_still t node at done e = still (λ operations is. commit_until_joins level times transactions operations starts points chain is t node edge at done e)

  pub next_still : IsNext chain points edge → StillJoined level (real_time level times) (moments_of level times) transactions starts points chain old new
  next_still e = still (λ operations is. next_joins level times transactions operations starts points chain is edge e)

pub turn_still : (level : Level) (transactions : List Transaction) (starts points all : ℕ) (chain : List ℕ) (old new : List Edge) (edge : Edge) → MayLay all edge old new →
    (t u : ℕ) → t < u → of_one_process (slice_get transactions t) (slice_get transactions u) ≡ true → edge.from ≡ starts + t → edge.to ≡ u → edge.from < points → edge.to < points →
    StillJoined level sessions no_moments transactions starts points chain old new
turn_still level transactions starts points all chain old new edge may t u less one from to low high = λ operations is joined.
    join_laid level (sessions (trace_of transactions operations)) no_moments (trace_of transactions operations) starts points all chain old new edge may
    (λ f g. turn_joins level transactions operations starts points chain edge t u is less one from to low high) joined
