-- What may be asked for besides: the order of sessions, and the order of time.
use Rattle.std.specs.Prelude.{ℕ, ◌==◌, nat_lt, Bool, false, ◌&&◌, ◌||◌, List, Option, None, Some, slice_get}
use Rattle.trace_rules.specs.declared.trace.Transaction.{Transaction}
use Rattle.trace_rules.specs.declared.wanted.Level.{Level}
use Rattle.trace_rules.specs.declared.wanted.Level.TheVariants.{Snapshot, Serializable}
use Rattle.trace_rules.specs.declared.wanted.Times.{Times}
use Rattle.trace_rules.specs.declared.wanted.Wanted.{Wanted}
use Rattle.trace_rules.specs.declared.wanted.Wanted.TheVariants.{Nothing, Sessions, RealTime}
use Rattle.trace_rules.specs.Trace.{Trace, committed_in}
use Rattle.trace_rules.specs.Stamping.{Point, Start, Commit, Asked}

abbrev pub no_wants : Asked
no_wants x y = false

abbrev pub either : Asked → Asked → Asked
either one other x y = one x y || other x y

-- both are committed and of one process
abbrev pub of_one_process : Option Transaction → Option Transaction → Bool
of_one_process (Some a) (Some b) = a.committed && b.committed && (a.process == b.process)
of_one_process (Some a) None = false
of_one_process None b = false

-- a transaction starts above the commits of those that its process had before
abbrev pub sessions : Trace → Asked
sessions trace (Commit t) (Start u) = nat_lt t u && of_one_process (slice_get trace.transactions t) (slice_get trace.transactions u)
sessions trace (Commit t) (Commit u) = false
sessions trace (Start t) y = false

-- the moments between which a point surely lies, where they are known
pub record Moments : Type 0 where
  pub from : Point → Option ℕ
  pub until : Point → Option ℕ

abbrev pub is_under : Option ℕ → Option ℕ → Bool
is_under (Some a) (Some b) = nat_lt a b
is_under (Some a) None = false
is_under None b = false

-- a point that surely was before another is below it
abbrev pub in_time : Moments → Asked
in_time moments x y = is_under (moments.until x) (moments.from y)

-- The moments that are known of a transaction's start and commit; a transaction past the end of the list has none.
abbrev pub asked_at : Option Times → Option ℕ
asked_at None = None
asked_at (Some times) = times.asked

abbrev pub began_at : Option Times → Option ℕ
began_at None = None
began_at (Some times) = times.began

abbrev pub committing_at : Option Times → Option ℕ
committing_at None = None
committing_at (Some times) = times.committing

abbrev pub completed_at : Option Times → Option ℕ
completed_at None = None
completed_at (Some times) = times.completed

abbrev pub from_of : List Times → Point → Option ℕ
from_of times (Start t) = asked_at (slice_get times t)
from_of times (Commit t) = committing_at (slice_get times t)

abbrev pub until_of : List Times → Point → Option ℕ
until_of times (Start t) = began_at (slice_get times t)
until_of times (Commit t) = completed_at (slice_get times t)

-- of a transaction that is a single point only when it was asked for and completed counts
abbrev pub whole_from : List Times → Point → Option ℕ
whole_from times (Start t) = asked_at (slice_get times t)
whole_from times (Commit t) = None

abbrev pub whole_until : List Times → Point → Option ℕ
whole_until times (Start t) = None
whole_until times (Commit t) = completed_at (slice_get times t)

abbrev pub moments_of : Level → List Times → Moments
moments_of Snapshot times = record { from = from_of times; until = until_of times }
moments_of Serializable times = record { from = whole_from times; until = whole_until times }

-- a point of a committed transaction
abbrev pub of_done : Trace → Point → Bool
of_done trace (Start t) = committed_in (slice_get trace.transactions t)
of_done trace (Commit t) = committed_in (slice_get trace.transactions t)

abbrev pub real_time : Level → List Times → Trace → Asked
real_time level times trace x y = of_done trace x && of_done trace y && in_time (moments_of level times) x y

abbrev pub asked_of : Wanted → Level → List Times → Trace → Asked
asked_of Nothing level times trace = no_wants
asked_of Sessions level times trace = sessions trace
asked_of RealTime level times trace = real_time level times trace
