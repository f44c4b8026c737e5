-- What it means that stamps make a trace isolated, and that there are any.
use Rattle.std.specs.Prelude.{◌≡◌, ◌≢◌, ℕ, ◌<◌, ◌≤◌, ◌⊎◌, Bool, true, Option, None, Some}
use Rattle.trace_rules.specs.declared.trace.Version.{Version}
use Rattle.trace_rules.specs.declared.wanted.Level.{Level}
use Rattle.trace_rules.specs.declared.wanted.Level.TheVariants.{Snapshot, Serializable}
use Rattle.trace_rules.specs.Trace.{Trace, Done, Writer, ReadAt}

-- a start and a commit for each transaction
pub record Stamping : Type 0 where
  pub start : ℕ → ℕ
  pub commit : ℕ → ℕ

-- t and u wrote one key
pub record ShareKey (trace : Trace) (t u : ℕ) : Type 0 where
  pub key : ℕ
  pub value : ℕ
  pub other : ℕ
  pub first : Writer trace t key value
  pub second : Writer trace u key other

pub record BothDone (trace : Trace) (t u : ℕ) : Type 0 where
  pub first : Done trace t
  pub second : Done trace u

abbrev pub Conflict : Level → Trace → ℕ → ℕ → Type 0
Conflict Snapshot trace t u = ShareKey trace t u
Conflict Serializable trace t u = BothDone trace t u

-- of the versions of k that were committed below s, the one that was committed last
pub record Newest (st : Stamping) (trace : Trace) (s k : ℕ) (found : Version) : Type 0 where
  pub writer : Writer trace found.from k found.value
  pub below : st.commit found.from < s
  pub greatest : (t value : ℕ) → Writer trace t k value → st.commit t < s → st.commit t ≤ st.commit found.from

abbrev pub Visible : Stamping → Trace → ℕ → ℕ → Option Version → Type 0
Visible st trace s k None = (t value : ℕ) → Writer trace t k value → st.commit t < s → ⊥
Visible st trace s k (Some found) = Newest st trace s k found

-- a transaction reads its own last write before the read, and else what is visible at its start
abbrev pub RightAnswer : Stamping → Trace → ℕ → ℕ → Option Version → Option ℕ → Type 0
RightAnswer st trace t k answer None = Visible st trace (st.start t) k answer
RightAnswer st trace t k answer (Some own) = answer ≡ Some (record { from = t; value = own })

-- the stamps of committed transactions are all different, and each start is below its commit
pub record Numbered (st : Stamping) (trace : Trace) : Type 0 where
  pub ordered : (t : ℕ) → Done trace t → st.start t < st.commit t
  pub starts : (t u : ℕ) → Done trace t → Done trace u → st.start t ≡ st.start u → t ≡ u
  pub commits : (t u : ℕ) → Done trace t → Done trace u → st.commit t ≡ st.commit u → t ≡ u
  pub no_start_commits : (t u : ℕ) → Done trace t → Done trace u → st.start t ≡ st.commit u → ⊥

pub record IsolatedBy (level : Level) (st : Stamping) (trace : Trace) : Type 0 where
  pub numbered : Numbered st trace
  pub apart : (t u : ℕ) → t ≢ u → Conflict level trace t u → (st.commit t < st.start u) ⊎ (st.commit u < st.start t)
  pub reads : (place t k : ℕ) (answer : Option Version) (own : Option ℕ) → ReadAt trace place t k answer own → RightAnswer st trace t k answer own

-- a start or a commit of a transaction
pub data Point : Type 0 where
  Start : ℕ → Point
  Commit : ℕ → Point

abbrev pub stamp_of : Stamping → Point → ℕ
stamp_of st (Start t) = st.start t
stamp_of st (Commit t) = st.commit t

-- what is asked for besides, of sessions and of time, is an order of points
abbrev pub Asked : Type 0
Asked = Point → Point → Bool

abbrev pub Keeps : Asked → Stamping → Type 0
Keeps asked st = (x y : Point) → asked x y ≡ true → stamp_of st x < stamp_of st y

-- some stamps make the trace isolated and keep what is asked for
pub record Stampable (level : Level) (asked : Asked) (trace : Trace) : Type 0 where
  pub stamps : Stamping
  pub isolated : IsolatedBy level stamps trace
  pub keeps : Keeps asked stamps
