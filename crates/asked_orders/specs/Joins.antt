-- Edges of what is asked for besides: those of sessions between points, those of time by way of moments.
use Rattle.std.specs.Prelude.{◌≡◌, ℕ, ◌-◌, ◌<◌, ◌≤◌, nat_lt, Bool, true, false, List, Option, None, Some, slice_get, slice_index}
use Rattle.trace_rules.specs.declared.wanted.Level.{Level}
use Rattle.trace_rules.specs.declared.wanted.Times.{Times}
use Rattle.trace_rules.specs.declared.wanted.Wanted.{Wanted}
use Rattle.trace_rules.specs.declared.wanted.Wanted.TheVariants.{Nothing, Sessions, RealTime}
use Rattle.trace_rules.specs.Trace.{Trace}
use Rattle.trace_rules.specs.Stamping.{Asked, IsolatedBy, Keeps, Point, Stamping, stamp_of}
use Rattle.trace_rules.specs.Wants.{Moments, moments_of, of_done}
use Rattle.rising_numbers.specs.declared.Edge.{Edge}
use Rattle.trace_edges.specs.Edges.{point_of}

-- the one point is below the other in all stamps that make the trace isolated and keep what is asked for
abbrev pub Always : Level → Asked → Trace → Point → Point → Type 0
Always level asked trace x y = (st : Stamping) → IsolatedBy level st trace → Keeps asked st → stamp_of st x < stamp_of st y

-- what a node stands for: a point, or a moment
pub data Place : Type 0 where
  AtPoint : Point → Place
  AtMoment : ℕ → Place

abbrev pub stands_for : Bool → ℕ → ℕ → List ℕ → ℕ → Place
stands_for true starts points chain x = AtPoint (point_of starts x)
stands_for false starts points chain x = AtMoment (slice_index chain (x - points))

-- the nodes of moments stand behind those of points
abbrev pub place_of : ℕ → ℕ → List ℕ → ℕ → Place
place_of starts points chain x = stands_for (nat_lt x points) starts points chain x

abbrev pub no_moments : Moments
no_moments = record { from = λ x. None; until = λ x. None }

-- the moments that count where this order is asked for
abbrev pub moments_for : Wanted → Level → List Times → Moments
moments_for Nothing level times = no_moments
moments_for Sessions level times = no_moments
moments_for RealTime level times = moments_of level times

-- the point of a committed transaction surely came by the moment
pub record ComesBy (moments : Moments) (trace : Trace) (x : Point) (moment : ℕ) : Type 0 where
  pub done : of_done trace x ≡ true
  pub until : ℕ
  pub known : moments.until x ≡ Some until
  pub most : until ≤ moment

-- or surely came behind it
pub record ComesBehind (moments : Moments) (trace : Trace) (x : Point) (moment : ℕ) : Type 0 where
  pub done : of_done trace x ≡ true
  pub from : ℕ
  pub known : moments.from x ≡ Some from
  pub less : moment < from

-- the same point, or one above it
pub data UpTo (level : Level) (asked : Asked) (trace : Trace) (x : Point) : Point → Type 0 where
  Here : UpTo level asked trace x x
  Under : {y : Point} → Always level asked trace x y → UpTo level asked trace x y

pub record ToMoment (level : Level) (asked : Asked) (moments : Moments) (trace : Trace) (x : Point) (moment : ℕ) : Type 0 where
  pub point : Point
  pub up : UpTo level asked trace x point
  pub comes : ComesBy moments trace point moment

pub record FromMoment (level : Level) (asked : Asked) (moments : Moments) (trace : Trace) (moment : ℕ) (y : Point) : Type 0 where
  pub point : Point
  pub comes : ComesBehind moments trace point moment
  pub up : UpTo level asked trace point y

pub data Across (level : Level) (asked : Asked) (moments : Moments) (trace : Trace) (a b : ℕ) : Type 0 where
  Later : a < b → Across level asked moments trace a b
  Through : (x y : Point) → ComesBehind moments trace x a → UpTo level asked trace x y → ComesBy moments trace y b → Across level asked moments trace a b

-- the one place comes before the other in all stamps
abbrev pub Joins : Level → Asked → Moments → Trace → Place → Place → Type 0
Joins level asked moments trace (AtPoint x) (AtPoint y) = Always level asked trace x y
Joins level asked moments trace (AtPoint x) (AtMoment b) = ToMoment level asked moments trace x b
Joins level asked moments trace (AtMoment a) (AtPoint y) = FromMoment level asked moments trace a y
Joins level asked moments trace (AtMoment a) (AtMoment b) = Across level asked moments trace a b

abbrev pub AreJoined : Level → Asked → Moments → Trace → ℕ → ℕ → List ℕ → List Edge → Type 0
AreJoined level asked moments trace starts points chain edges =
    (place : ℕ) (edge : Edge) → slice_get edges place ≡ Some edge → Joins level asked moments trace (place_of starts points chain edge.from) (place_of starts points chain edge.to)
