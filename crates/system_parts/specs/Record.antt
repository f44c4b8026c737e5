-- The master record, and what a take, a renewal and an extension do to it.
use Rattle.std.specs.Prelude.{ℕ, ◌+◌, ◌^◌, ◌==◌, nat_lt, max, Bool, ◌&&◌, if◌then◌else◌, Option, None, Some, is_some, Result, Ok, Err}
use Rattle.port_io.specs.declared.weather.Fate.{Fate}
use Rattle.port_io.specs.declared.weather.Fate.TheVariants.{Works, FailsUnchanged, FailsApplied}
use Rattle.system_parts.specs.declared.record.Grant.{Grant}
use Rattle.system_parts.specs.declared.record.TakeRefused as take
use Rattle.system_parts.specs.declared.record.TakeRefused.{TakeRefused}
use Rattle.system_parts.specs.declared.record.RenewRefused as renew
use Rattle.system_parts.specs.declared.record.RenewRefused.{RenewRefused}
use Rattle.system_parts.specs.declared.record.ExtendRefused as extend
use Rattle.system_parts.specs.declared.record.ExtendRefused.{ExtendRefused}

-- the record: a free one has the term 0 and no holder
pub record MasterRecord : Type 0 where
  pub term : ℕ
  pub holder : Option ℕ
  pub until : ℕ
  pub ceiling : ℕ

-- how long a lease lasts, how far clocks may differ, and how many stamps a range has
pub record Leasing : Type 0 where
  pub lease : ℕ
  pub skew : ℕ
  pub range : ℕ

abbrev pub free_record : MasterRecord
free_record = record { term = 0; holder = None; until = 0; ceiling = 0 }

-- ---- the take
-- a holder is there, and its lease may still stand by a clock that is behind
abbrev pub is_early : Leasing → MasterRecord → ℕ → Bool
is_early rules r reading = is_some r.holder && nat_lt reading (r.until + rules.skew)

-- a further range goes past the last stamp
abbrev pub is_spent : Leasing → MasterRecord → Bool
is_spent rules r = nat_lt (2 ^ 62) (r.ceiling + rules.range)

abbrev pub take_refused : Leasing → MasterRecord → ℕ → Option TakeRefused
take_refused rules r reading =
    if is_early rules r reading then Some (take.TheVariants.Early reading r.until)
    else if is_spent rules r then Some (take.TheVariants.Spent r.ceiling)
    else None

-- the next term draws from the old ceiling on
abbrev pub granted : Leasing → MasterRecord → ℕ → Grant
granted rules r reading = record { term = r.term + 1; epoch = r.ceiling; until = reading + rules.lease; ceiling = r.ceiling + rules.range }

abbrev pub held_by : ℕ → Grant → MasterRecord
held_by node grant = record { term = grant.term; holder = Some node; until = grant.until; ceiling = grant.ceiling }

-- a refused step changes nothing
abbrev pub unless_refused : {E : Type 0} → Option E → MasterRecord → MasterRecord → MasterRecord
unless_refused None old changed = changed
unless_refused (Some why) old changed = old

abbrev pub taken : Leasing → MasterRecord → ℕ → ℕ → MasterRecord
taken rules r node reading = unless_refused (take_refused rules r reading) r (held_by node (granted rules r reading))

-- ---- the renewal
abbrev pub renew_refused : MasterRecord → ℕ → Option RenewRefused
renew_refused r term = if r.term == term then None else Some (renew.TheVariants.Replaced r.term)

-- the lease's end goes up, and never down
abbrev pub renewed_until : Leasing → MasterRecord → ℕ → ℕ
renewed_until rules r reading = max r.until (reading + rules.lease)

abbrev pub renewed : Leasing → MasterRecord → ℕ → ℕ → MasterRecord
renewed rules r term reading = unless_refused (renew_refused r term) r (record r { until = renewed_until rules r reading })

-- ---- the extension
abbrev pub extend_refused : Leasing → MasterRecord → ℕ → Option ExtendRefused
extend_refused rules r term =
    if r.term == term then (if is_spent rules r then Some (extend.TheVariants.Spent r.ceiling) else None)
    else Some (extend.TheVariants.Replaced r.term)

abbrev pub extended : Leasing → MasterRecord → ℕ → MasterRecord
extended rules r term = unless_refused (extend_refused rules r term) r (record r { ceiling = r.ceiling + rules.range })

-- ---- what a step answers
abbrev pub unless_some : {T E : Type 0} → Option E → T → Result T E
unless_some None x = Ok x
unless_some (Some why) x = Err why

-- a fault hides the refusal
abbrev pub answered : {T E : Type 0} → Fate → E → Option E → T → Result T E
answered Works fault refused x = unless_some refused x
answered FailsUnchanged fault refused x = Err fault
answered FailsApplied fault refused x = Err fault
