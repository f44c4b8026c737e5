-- What is told of a breach is what the definitions ask for: the shared key with both writes, the right answer, and the ask.
use Rattle.std.specs.Prelude.{◌≡◌, ℕ, ◌≤◌, List, Option, None, Some, length, take, slice_get, IsSomeAnd, MatchOption}
use Rattle.history_book.specs.Isolation.{RightRead}
use Rattle.history_book.specs.declared.item.Found.{Found}
use Rattle.history_book.specs.declared.item.Item.{Item}
use Rattle.history_book.specs.declared.item.Item.TheVariants.{Read, Write}
use Rattle.isolation_rules.specs.ApartPairs.{ShareKey}
use Rattle.isolation_rules.specs.FreshPairs.{ask_place}
use Rattle.isolation_rules.specs.ReadPairs.{BreaksRead, IsLastWrite}
use Rattle.refusal_reasons.specs.declared.clue.Clue.TheVariants as clue
use Rattle.refusal_reasons.specs.Sought.{seek}
use Rattle.breach_reasons.specs.Breaches.{shared_place}
use Rattle.breach_reasons.specs.Kinds.{write_place}

-- ---- apart
-- the last write of t at k stands at the place
pub record IsWriteAt (h : List Item) (t k place : ℕ) : Type 0 where
  pub value : List ℕ
  pub is : IsLastWrite h t k value place

-- at the place stands t's last write of some key, and the last write of u at that key is found
pub record IsSharedAt (h : List Item) (t u place : ℕ) : Type 0 where
  pub key : ℕ
  pub own : IsWriteAt h t key place
  pub other : IsSomeAnd (write_place h u key) (IsWriteAt h u key)

-- of two transactions that share a key, one is told, with the last write of both
abbrev pub SharedAreTold : Type 0
SharedAreTold = (h : List Item) (t u : ℕ) → ShareKey h t u → IsSomeAnd (shared_place h t u) (IsSharedAt h t u)

-- ---- read
-- the answer that is told as the right one, by the item that is named with it: what that wrote, or none
abbrev pub told_answer : Option Item → Option Found
told_answer (Some (Write session start key value)) = Some (record { from = start; value = value })
told_answer _ = None

-- of a wrong read, with that answer in place of its own it would be right
abbrev pub RightIsTold : Type 0
RightIsTold = (h : List Item) (i j session s k : ℕ) (answer : Option Found) → slice_get h i ≡ Some (Read session s k answer) → BreaksRead h i j
    → RightRead h (take i h) (Read session s k (told_answer (slice_get h j)))

-- ---- fresh
-- the ask that is told is the one that the rule counts from, and none is told where it counts from the begin
abbrev pub AskIsTold : Type 0
AskIsTold = (h : List Item) (session j : ℕ) → j ≤ length h
    → MatchOption (seek (take j h) 0 (clue.AskedStart session)) (ask_place h session j ≡ j) (λ place. ask_place h session j ≡ place)
