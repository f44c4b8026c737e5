-- What is checked of numbers: that they keep the order that is asked for.
use Rattle.std.specs.Prelude.{◌≡◌, ℕ, ◌+◌, ◌<◌, ◌≤◌, true, List, Option, None, Some, length, slice_get, slice_index}
use Rattle.trace_rules.specs.declared.trace.Transaction.{Transaction}
use Rattle.trace_rules.specs.declared.wanted.Level.{Level}
use Rattle.trace_rules.specs.declared.wanted.Level.TheVariants.{Snapshot, Serializable}
use Rattle.trace_rules.specs.declared.wanted.Times.{Times}
use Rattle.trace_rules.specs.Trace.{committed_in}
use Rattle.trace_rules.specs.Stamping.{Stamping, Start, Commit}
use Rattle.trace_rules.specs.Serial.{one_by_one}
use Rattle.trace_rules.specs.Wants.{moments_of}
use Rattle.stamp_check.specs.Orders.{places_of, stamps_of}
use Rattle.asked_orders.specs.declared.plan.Turn.{Turn}

-- the stamps that numbers of so many transactions make
abbrev pub stamping_of : Level → ℕ → List ℕ → Stamping
stamping_of Snapshot n numbers = stamps_of n numbers
stamping_of Serializable n numbers = one_by_one (places_of n numbers)

-- ---- sessions
-- of the transactions below the count, each committed one has a turn
abbrev pub HaveTurns : ℕ → List Transaction → List Turn → Type 0
HaveTurns count transactions turns = (t : ℕ) (x : Transaction) → t < count → slice_get transactions t ≡ Some x → x.committed ≡ true → (seat : ℕ) × (slice_get turns seat ≡ Some (record { process = x.process; txn = t }))

-- the second is of a greater process, or of the same one, where it is a later transaction that begins above the commit of the first
pub record TurnRises (starts : ℕ) (numbers : List ℕ) (a b : Turn) : Type 0 where
  pub own : slice_index numbers a.txn ≤ slice_index numbers (starts + a.txn)
  pub processes : a.process ≤ b.process
  pub later : a.process ≡ b.process → a.txn < b.txn
  pub rises : a.process ≡ b.process → slice_index numbers (starts + a.txn) < slice_index numbers b.txn

-- of the turns below the count
abbrev pub TurnsRise : ℕ → List ℕ → ℕ → List Turn → Type 0
TurnsRise starts numbers count turns = (seat : ℕ) (a b : Turn) → seat + 1 < count → slice_get turns seat ≡ Some a → slice_get turns (seat + 1) ≡ Some b → TurnRises starts numbers a b

-- ---- time
-- the moment behind the place is later, and has a greater number
pub record NextRises (points : ℕ) (numbers moments : List ℕ) (place : ℕ) : Type 0 where
  pub later : slice_index moments place < slice_index moments (place + 1)
  pub rises : slice_index numbers (points + place) < slice_index numbers (points + (place + 1))

abbrev pub MomentsRise : ℕ → List ℕ → ℕ → List ℕ → Type 0
MomentsRise points numbers count moments = (place : ℕ) → place + 1 < count → NextRises points numbers moments place

-- the number is below that of the moment
pub record UnderMoment (moments : List ℕ) (points : ℕ) (numbers : List ℕ) (moment number : ℕ) : Type 0 where
  pub place : ℕ
  pub stands : slice_get moments place ≡ Some moment
  pub less : number < slice_index numbers (points + place)

abbrev pub IsUnder : List ℕ → ℕ → List ℕ → Option ℕ → ℕ → Type 0
IsUnder moments points numbers None number = Unit {0}
IsUnder moments points numbers (Some moment) number = UnderMoment moments points numbers moment number

-- the number is above that of the last moment before this one
pub record AboveMoment (moments : List ℕ) (points : ℕ) (numbers : List ℕ) (moment number : ℕ) : Type 0 where
  pub place : ℕ
  pub within : place ≤ length moments
  pub behind : (found : ℕ) → slice_get moments place ≡ Some found → moment ≤ found
  pub more : (before : ℕ) → before + 1 ≡ place → slice_index numbers (points + before) < number

abbrev pub IsAbove : List ℕ → ℕ → List ℕ → Option ℕ → ℕ → Type 0
IsAbove moments points numbers None number = Unit {0}
IsAbove moments points numbers (Some moment) number = AboveMoment moments points numbers moment number

pub record IsTimed (moments : List ℕ) (points : ℕ) (numbers : List ℕ) (from until : Option ℕ) (number : ℕ) : Type 0 where
  pub above : IsAbove moments points numbers from number
  pub under : IsUnder moments points numbers until number

-- both points of a transaction, where the number of a commit stands behind those of starts
pub record ArePointsTimed (level : Level) (times : List Times) (starts points : ℕ) (moments numbers : List ℕ) (t : ℕ) : Type 0 where
  pub start : IsTimed moments points numbers ((moments_of level times).from (Start t)) ((moments_of level times).until (Start t)) (slice_index numbers t)
  pub commit : IsTimed moments points numbers ((moments_of level times).from (Commit t)) ((moments_of level times).until (Commit t)) (slice_index numbers (starts + t))

-- of the transactions below the count, each committed one's
abbrev pub AreTimed : Level → List Times → ℕ → List Transaction → ℕ → ℕ → List ℕ → List ℕ → Type 0
AreTimed level times count transactions starts points moments numbers = (t : ℕ) → t < count → committed_in (slice_get transactions t) ≡ true → ArePointsTimed level times starts points moments numbers t
