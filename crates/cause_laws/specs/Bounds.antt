-- How far the numbers of the clocks and of the master record are from the end of the machine's numbers, how many posts and
-- clients there are, and so what takes, renewals, extensions and draws come to.
use Rattle.std.specs.Prelude.{◌≡◌, ◌≢◌, ℕ, ◌+◌, ◌≤◌, ◌^◌, length, Option, None, IfSome}
use Rattle.stamp_base.specs.Ranges.{IsNumber, IsTerm, IsStamp, IsStampRange}
use Rattle.stamp_base.specs.SetupNumbers.{SetupNumbers}
use Rattle.system_parts.specs.declared.record.Grant.{Grant}
use Rattle.system_parts.specs.Record.{MasterRecord, free_record, take_refused, granted, renewed_until, extend_refused}
use Rattle.system_parts.specs.Instance.{InstanceEntry}
use Rattle.machine.specs.State.{State}
use Rattle.machine.specs.Events.Take.{rules_of}
use Rattle.isolation_laws.specs.Words.{InstanceAt}
use Rattle.cause_laws.specs.RequestCalls.{PostAt}

-- no lease ends later than one lease after the greatest reading, each term has had a stamp of its own at least, and all that
-- may be drawn are stamps; a record without a holder is as at first
pub record IsBounded (setup : SetupNumbers) (seen : ℕ) (master : MasterRecord) : Type 0 where
  pub reading : seen ≤ 2 ^ 61
  pub lease : master.until ≤ seen + setup.lease
  pub term : master.term ≤ master.ceiling
  pub ceiling : master.ceiling ≤ 2 ^ 62
  pub free : master.holder ≡ None → master ≡ free_record

-- so it is in the state, which has a post for each node of the setup
pub record Bounded (w : State) : Type 0 where
  pub numbers : IsBounded w.setup w.seen w.master
  pub posts : length w.nodes ≡ w.setup.nodes

-- there are a client for each session and a post for each node
pub record PartsAreCounted (w : State) : Type 0 where
  pub clients : length w.clients ≡ 16
  pub posts : length w.nodes ≡ w.setup.nodes
  pub few : w.setup.nodes ≤ 8

-- ---- the master record
-- the numbers of a grant are those of a term, a range of stamps and a clock
pub record IsGrant (grant : Grant) : Type 0 where
  pub term : IsTerm grant.term
  pub range : IsStampRange grant.epoch grant.ceiling
  pub until : IsNumber grant.until

-- a take that is not refused grants such numbers
abbrev pub TakeMayBeMade : State → Type 0
TakeMayBeMade w = (reading : ℕ) → reading ≤ 2 ^ 61 → take_refused (rules_of w.setup) w.master reading ≡ None → IsGrant (granted (rules_of w.setup) w.master reading)

-- a renewal gives an end that a clock may show
abbrev pub RenewalMayBeMade : State → Type 0
RenewalMayBeMade w = (reading : ℕ) → reading ≤ 2 ^ 61 → IsNumber (renewed_until (rules_of w.setup) w.master reading)

-- an instance's range ends at most where the record's does, and an extension that is not refused makes it wider
pub record CanExtend (w : State) (post : Option InstanceEntry) : Type 0 where
  pub covered : IfSome post (λ i. i.ceiling ≤ w.master.ceiling)
  pub widened : IfSome post (λ i. extend_refused (rules_of w.setup) w.master i.term ≡ None → IsStampRange i.ceiling (w.master.ceiling + w.setup.range))

abbrev pub ExtensionMayBeMade : State → Type 0
ExtensionMayBeMade w = (node : ℕ) (post : Option InstanceEntry) → PostAt w node post → CanExtend w post

-- ---- draws
-- an instance draws within a range of stamps, and where that is not used up the next one is a stamp
pub record DrawsStamps (i : InstanceEntry) : Type 0 where
  pub range : IsStampRange i.epoch i.ceiling
  pub above : i.epoch ≤ i.last
  pub within : i.last ≤ i.ceiling
  pub next : i.last ≢ i.ceiling → IsStamp (i.last + 1)

abbrev pub DrawMayBeMade : State → Type 0
DrawMayBeMade w = (node : ℕ) (i : InstanceEntry) → InstanceAt w.nodes node i → DrawsStamps i
