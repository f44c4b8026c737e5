-- The master record stays in bounds: what takes, renewals and extensions leave of it.
use Rattle.cause_laws.proofs.Names.{◌≡◌, ℕ, ◌+◌, ◌≤◌, max, Bool, true, false, if◌then◌else◌, Option, Some, None, refl}
use Rattle.cause_laws.proofs.Names.{arith, ◌^◌, IsSome, ltb-false, AreInRange, MasterRecord, Leasing, is_early}
use Rattle.cause_laws.proofs.Names.{is_spent, take_refused, renewed_until, extend_refused, State, rules_of, IsBounded}
use Rattle.system_parts.specs.declared.record.TakeRefused.{TakeRefused}
use Rattle.system_parts.specs.declared.record.TakeRefused.TheVariants as take
use Rattle.isolation_laws.proofs.Numbers.NumbersOfTakes.{record_taken}
use Rattle.machine.proofs.Inversions.InversionOfExtensions.{extend_room}

-- ---- room in the record for one more range
granted_room : (early spent : Bool) (why full : TakeRefused) → (if early then Some why else if spent then Some full else None) ≡ None → spent ≡ false
granted_room true spent why full go = absurd (cc)
granted_room false true why full go = absurd (cc)
granted_room false false why full go = refl

pub has_room : (rules : Leasing) (r : MasterRecord) → is_spent rules r ≡ false → r.ceiling + rules.range ≤ 2 ^ 62
has_room rules r room = ltb-false (2 ^ 62) (r.ceiling + rules.range) room

pub take_room : (rules : Leasing) (r : MasterRecord) (reading : ℕ) → take_refused rules r reading ≡ None → r.ceiling + rules.range ≤ 2 ^ 62
take_room rules r reading free = has_room rules r (granted_room (is_early rules r reading) (is_spent rules r) (take.Early reading r.until) (take.Spent r.ceiling) free)

-- ---- a held record
held_not_free : {X : Type 0} (holder : Option ℕ) → IsSome holder → holder ≡ None → X
held_not_free None held none = absurd (cc)
held_not_free (Some node) held none = absurd (cc)

-- ---- take
pub bounded_taken : (w : State) (node reading : ℕ) → AreInRange w.setup → take_refused (rules_of w.setup) w.master reading ≡ None → IsBounded w.setup (max w.seen reading) w.master → IsBounded w.setup (max w.seen reading) (record_taken w node reading)
bounded_taken w node reading ranges free bounded = record {
  reading = bounded.reading;
  lease = omega arith;
  term = omega (arith, bounded.term, ranges.range.0);
  ceiling = take_room (rules_of w.setup) w.master reading free;
  free = held_not_free (Some node) refl;
}

-- ---- renew
pub bounded_renewed : (w : State) (reading : ℕ) → IsSome w.master.holder → IsBounded w.setup (max w.seen reading) w.master → IsBounded w.setup (max w.seen reading) (record w.master { until = renewed_until (rules_of w.setup) w.master reading })
bounded_renewed w reading held bounded = record {
  reading = bounded.reading;
  lease = omega (arith, bounded.lease);
  term = bounded.term;
  ceiling = bounded.ceiling;
  free = held_not_free w.master.holder held;
}

-- ---- extend
pub bounded_extended : (w : State) → IsSome w.master.holder → w.master.ceiling + w.setup.range ≤ 2 ^ 62 → IsBounded w.setup w.seen w.master → IsBounded w.setup w.seen (record w.master { ceiling = w.master.ceiling + w.setup.range })
bounded_extended w held room bounded = record {
  reading = bounded.reading;
  lease = bounded.lease;
  term = omega (arith, bounded.term);
  ceiling = room;
  free = held_not_free w.master.holder held;
}

-- what an extension that is not refused leaves is stamps
pub extension_room : (w : State) (term : ℕ) → extend_refused (rules_of w.setup) w.master term ≡ None → w.master.ceiling + w.setup.range ≤ 2 ^ 62
extension_room w term free = has_room (rules_of w.setup) w.master (extend_room w term free).1
