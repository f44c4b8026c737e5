-- The master record as contracts see it, and what is true of every one.
use Rattle.std.specs.Prelude.{◌≡◌, ◌+◌, ◌≤◌, ◌^◌, nat_lt, is_some}
use Rattle.system_parts.specs.Record.{MasterRecord, Leasing}
use Rattle.master_record.specs.declared.Master.TheInside.{Inside}

-- the rules that were set at the start, and the record as it is now
pub record SeenMaster : Type 0 where
  pub rules : Leasing
  pub state : MasterRecord

abbrev pub seen : Inside → SeenMaster
seen m = record {
  rules = record { lease = m.lease; skew = m.skew; range = m.range };
  state = record { term = m.term; holder = m.holder; until = m.until; ceiling = m.ceiling };
}

-- all numbers are small enough to be added, and each term has had a stamp of its own at least
pub record IsSound (m : Inside) : Type 0 where
  pub lease : m.lease ≤ 1000000
  pub skew : m.skew ≤ 1000000
  pub range : (1 ≤ m.range) × (m.range ≤ 2 ^ 62)
  pub until : m.until ≤ 2 ^ 61 + 1000000
  pub ceiling : m.ceiling ≤ 2 ^ 62
  pub term : m.term ≤ m.ceiling
  pub holder : is_some m.holder ≡ nat_lt 0 m.term
