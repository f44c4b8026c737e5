-- Versions in order: those of a key stand together, each before the next one.
use Rattle.std.specs.Prelude.{◌≡◌, ◌≢◌, ℕ, ◌+◌, ◌*◌, ◌<◌, ◌≤◌, ◌==◌, Bool, true, false, List, [], ◌∷◌, Option, Some, None, slice_get, slice_index}
use Rattle.trace_rules.specs.declared.trace.Version.{Version}
use Rattle.trace_rules.specs.Trace.{Trace, Done}
use Rattle.trace_rules.specs.Stamping.{Stamping}
use Rattle.outer_reads.specs.declared.writings.Writing.{Writing}
use Rattle.outer_reads.specs.declared.readings.Reading.{Reading}

abbrev pub kept : Bool → ℕ → List ℕ → List ℕ
kept true t rest = t ∷ rest
kept false t rest = rest

-- the writers of a key
unfoldable pub orders_of : List Writing → ℕ → List ℕ
orders_of [] k = []
orders_of (w ∷ ws) k = kept (w.key == k) w.txn (orders_of ws k)

-- A number for each start, by the transaction's place, and behind these for each commit. Times the count of both, with the
-- point's own place added, they are all different.
abbrev pub stamps_of : ℕ → List ℕ → Stamping
stamps_of n numbers = record { start = λ t. slice_index numbers t * (n + n) + t; commit = λ t. slice_index numbers (n + t) * (n + n) + (n + t) }

-- the number of each transaction, spread so that all are different
abbrev pub places_of : ℕ → List ℕ → ℕ → ℕ
places_of n numbers t = slice_index numbers t * n + t

-- each committed transaction's start has a lower number than its commit
abbrev pub OwnRise : Trace → ℕ → List ℕ → Type 0
OwnRise trace n numbers = (t : ℕ) → Done trace t → slice_index numbers t < slice_index numbers (n + t)

-- keys do not fall, and the commit of a version has a lower number than the start of the next one's writer
pub record NextRises (n : ℕ) (numbers : List ℕ) (a b : Writing) : Type 0 where
  pub keys : a.key ≤ b.key
  pub rises : a.key ≡ b.key → slice_index numbers (n + a.txn) < slice_index numbers b.txn

abbrev pub NextsRise : ℕ → List ℕ → List Writing → Type 0
NextsRise n numbers order = (i : ℕ) (a b : Writing) → slice_get order i ≡ Some a → slice_get order (i + 1) ≡ Some b → NextRises n numbers a b

-- the version at the place, where it is of the key, and not the reader's, was committed above the reader's start
abbrev pub Unseen : ℕ → List ℕ → List Writing → ℕ → ℕ → ℕ → Type 0
Unseen n numbers order place k t = (b : Writing) → slice_get order place ≡ Some b → b.key ≡ k → b.txn ≢ t → slice_index numbers t < slice_index numbers (n + b.txn)

-- what was read stands at the place, was committed below the reader's start, and the next version was not
pub record SeesAt (n : ℕ) (numbers : List ℕ) (order : List Writing) (place k t from : ℕ) : Type 0 where
  pub version : Writing
  pub stands : slice_get order place ≡ Some version
  pub key : version.key ≡ k
  pub writer : version.txn ≡ from
  pub read : slice_index numbers (n + from) < slice_index numbers t
  pub missed : Unseen n numbers order (place + 1) k t

-- where anything stands before the place, what stands there last is of a lesser key
abbrev pub IsBelow : List Writing → ℕ → ℕ → Type 0
IsBelow order place k = (i : ℕ) → i + 1 ≡ place → (a : Writing) × (slice_get order i ≡ Some a) × (a.key < k)

-- the versions of the key, if there are any, begin at the place, and the first was not committed below the reader's start
pub record SeesNone (n : ℕ) (numbers : List ℕ) (order : List Writing) (place k t : ℕ) : Type 0 where
  pub below : IsBelow order place k
  pub above : (a : Writing) → slice_get order place ≡ Some a → k ≤ a.key
  pub missed : Unseen n numbers order place k t

abbrev pub Sees : ℕ → List ℕ → List Writing → ℕ → ℕ → ℕ → Option Version → Type 0
Sees n numbers order place k t None = SeesNone n numbers order place k t
Sees n numbers order place k t (Some found) = SeesAt n numbers order place k t found.from

abbrev pub ReadsRise : ℕ → List ℕ → List Writing → List Reading → Type 0
ReadsRise n numbers order readings = (i : ℕ) (r : Reading) → slice_get readings i ≡ Some r → (place : ℕ) × Sees n numbers order place r.key r.txn r.answer
