-- For cause_laws too.
-- Stamps, terms and leases where the master record is taken.
use Rattle.isolation_laws.proofs.Names.{◌≡◌, ◌≢◌, ℕ, ◌+◌, ◌≤◌, max, nat_lt, Bool, true, false, ◌&&◌, if◌then◌else◌}
use Rattle.isolation_laws.proofs.Names.{List, ◌++◌, Option, Some, None, is_some, ◌⊎◌, inl, inr, refl, sym, ◌∙◌, ap}
use Rattle.isolation_laws.proofs.Names.{subst, arith, slice_set, IsSome, ltb-false, none-some, Item, SetupNumbers}
use Rattle.isolation_laws.proofs.Names.{Leasing, MasterRecord, is_early, take_refused, granted, InstanceEntry, State}
use Rattle.isolation_laws.proofs.Names.{rules_of, instance_of, InstanceAt, AreRanges, AreLeases, AreDrawn, NumberFacts}
use Rattle.isolation_laws.proofs.Names.{IsolationInvariant, instance_changed, Granted, granted_nodes, granted_state}
use Rattle.isolation_laws.proofs.Names.{max_left, max_right}
use Rattle.system_parts.specs.declared.record.TakeRefused.{TakeRefused}
use Rattle.system_parts.specs.declared.record.TakeRefused.TheVariants.{Early}
use Rattle.system_parts.specs.Record.{held_by}
use Rattle.isolation_laws.proofs.Numbers.NumbersMoved.{below_or_at, numbers_told, ranges_under, drawn_under, numbers_moved}

-- ---- a take that is not early
not_early : (b : Bool) (r : MasterRecord) (reading : ℕ) (other : Option TakeRefused) → (if b then Some (Early reading r.until) else other) ≡ None → b ≡ false
not_early true r reading other is = absurd (none-some _ (sym is))
not_early false r reading other is = refl

late_enough : (holder : Option ℕ) (reading bound : ℕ) → (is_some holder && nat_lt reading bound) ≡ false → IsSome holder → bound ≤ reading
late_enough None reading bound is held = absurd (cc)
late_enough (Some node) reading bound is held = ltb-false reading bound is

pub take_in_time : (rules : Leasing) (r : MasterRecord) (reading : ℕ) → take_refused rules r reading ≡ None → IsSome r.holder → r.until + rules.skew ≤ reading
take_in_time rules r reading free held = late_enough r.holder reading (r.until + rules.skew) (not_early (is_early rules r reading) r reading _ free) held

-- ---- a record that went up, over the same instances
-- the numbers of a record after a take
abbrev pub record_taken : State → ℕ → ℕ → MasterRecord
record_taken w node reading = held_by node (granted (rules_of w.setup) w.master reading)

-- after a take in time each instance of before has ended by every clock
lease_over : (setup : SetupNumbers) (seen reading n : ℕ) (nodes : List (Option InstanceEntry)) (master : MasterRecord) (i : InstanceEntry) → AreRanges nodes master → AreLeases setup seen nodes master → take_refused (rules_of setup) master reading ≡ None → InstanceAt nodes n i → i.until + setup.skew ≤ max seen reading
lease_over setup seen reading n nodes master i ranges leases free at =
    let late : master.until + setup.skew ≤ reading = take_in_time (rules_of setup) master reading free (leases.holder n i at) in
    elim (below_or_at i.term master.term (ranges.counted n i at).1) [
      | inl less ↦ omega (arith, leases.replaced n i at less, max_left seen reading)
      | inr same ↦ omega (arith, leases.present n i at same, late, max_right seen reading)
    ]

taken_leases : (w : State) (node reading : ℕ) → AreRanges w.nodes w.master → AreLeases w.setup w.seen w.nodes w.master → take_refused (rules_of w.setup) w.master reading ≡ None → AreLeases w.setup (max w.seen reading) w.nodes (record_taken w node reading)
taken_leases w node reading ranges leases free = record {
  holder = λ n i at. refl;
  present = λ n i at is. absurd (omega (arith, (ranges.counted n i at).1, is));
  replaced = λ n i at less. lease_over w.setup w.seen reading n w.nodes w.master i ranges leases free at;
}

-- the record moved, and no instance
take_alone : (w : State) (node reading : ℕ) (h : List Item) → NumberFacts w.setup w.seen w.nodes w.master h → take_refused (rules_of w.setup) w.master reading ≡ None → NumberFacts w.setup (max w.seen reading) w.nodes (record_taken w node reading) h
take_alone w node reading h facts free =
    numbers_moved _ _ _ _ _ _ _ _ (ranges_under w.nodes w.master (record_taken w node reading) (omega arith) (omega arith) facts.ranges) (taken_leases w node reading facts.ranges facts.leases free) (drawn_under w.nodes w.master (record_taken w node reading) h (omega arith) (omega arith) facts.drawn) facts

-- ---- a new instance: of a term above all, with a range above all that was drawn
abbrev pub new_instance : State → ℕ → ℕ → InstanceEntry
new_instance w node reading = instance_of w.setup node (granted (rules_of w.setup) w.master reading)

abbrev pub with_new : State → ℕ → ℕ → List (Option InstanceEntry)
with_new w node reading = slice_set w.nodes node (Some (new_instance w node reading))

-- an instance that stands there now: the new one, or one that the record before has counted
pub record IsOld (w : State) (node m : ℕ) (j : InstanceEntry) : Type 0 where
  pub other : m ≢ node
  pub at : InstanceAt w.nodes m j
  pub counted : (1 ≤ j.term) × (j.term ≤ w.master.term)
  pub covered : j.ceiling ≤ w.master.ceiling

pub with_new_cases : (w : State) (node reading m : ℕ) (j : InstanceEntry) → AreRanges w.nodes w.master → InstanceAt (with_new w node reading) m j → ((m ≡ node) × (j ≡ new_instance w node reading)) ⊎ IsOld w node m j
with_new_cases w node reading m j ranges at = elim (instance_changed w.nodes node m (new_instance w node reading) j at) [
  | inl here ↦ inl here
  | inr there ↦ inr (record { other = there.0; at = there.1; counted = ranges.counted m j there.1; covered = ranges.covered m j there.1 })
]

granted_ranges : (w : State) (node reading : ℕ) → AreRanges w.nodes w.master → AreRanges (with_new w node reading) (record_taken w node reading)
granted_ranges w node reading ranges = record {
  above = λ n i at. elim (with_new_cases w node reading n i ranges at) [
    | inl here ↦ subst (λ (x : InstanceEntry). x.epoch ≤ x.last) (sym here.1) (omega arith)
    | inr old ↦ ranges.above n i old.at
  ];
  within = λ n i at. elim (with_new_cases w node reading n i ranges at) [
    | inl here ↦ subst (λ (x : InstanceEntry). x.last ≤ x.ceiling) (sym here.1) (omega arith)
    | inr old ↦ ranges.within n i old.at
  ];
  covered = λ n i at. elim (with_new_cases w node reading n i ranges at) [
    | inl here ↦ subst (λ (x : InstanceEntry). x.ceiling ≤ w.master.ceiling + w.setup.range) (sym here.1) (omega arith)
    | inr old ↦ omega (arith, old.covered)
  ];
  counted = λ n i at. elim (with_new_cases w node reading n i ranges at) [
    | inl here ↦ subst (λ (x : InstanceEntry). (1 ≤ x.term) × (x.term ≤ w.master.term + 1)) (sym here.1) (omega arith, omega arith)
    | inr old ↦ (old.counted.0, omega (arith, old.counted.1))
  ];
  differ = λ n m i j other at there. elim (with_new_cases w node reading n i ranges at) [
    | inl here ↦ elim (with_new_cases w node reading m j ranges there) [
      | inl also ↦ absurd (other (here.0 ∙ sym also.0))
      | inr old ↦ λ same. omega (arith, old.counted.1, same, ap (λ x. x.term) here.1)
    ]
    | inr old ↦ elim (with_new_cases w node reading m j ranges there) [
      | inl also ↦ λ same. omega (arith, old.counted.1, same, ap (λ x. x.term) also.1)
      | inr too ↦ ranges.differ n m i j other old.at too.at
    ]
  ];
  apart = λ n m i j at there less. elim (with_new_cases w node reading n i ranges at) [
    | inl here ↦ elim (with_new_cases w node reading m j ranges there) [
      | inl also ↦ absurd (omega (arith, less, ap (λ x. x.term) here.1, ap (λ x. x.term) also.1))
      | inr old ↦ absurd (omega (arith, less, old.counted.1, ap (λ x. x.term) here.1))
    ]
    | inr old ↦ elim (with_new_cases w node reading m j ranges there) [
      | inl also ↦ omega (arith, old.covered, ap (λ x. x.epoch) also.1)
      | inr too ↦ ranges.apart n m i j old.at too.at less
    ]
  ];
}

granted_leases : (w : State) (node reading : ℕ) → AreRanges w.nodes w.master → AreLeases w.setup w.seen w.nodes w.master → take_refused (rules_of w.setup) w.master reading ≡ None → AreLeases w.setup (max w.seen reading) (with_new w node reading) (record_taken w node reading)
granted_leases w node reading ranges leases free = record {
  holder = λ n i at. refl;
  present = λ n i at is. elim (with_new_cases w node reading n i ranges at) [
    | inl here ↦ omega (arith, ap (λ x. x.until) here.1)
    | inr old ↦ absurd (omega (arith, old.counted.1, is))
  ];
  replaced = λ n i at less. elim (with_new_cases w node reading n i ranges at) [
    | inl here ↦ absurd (omega (arith, less, ap (λ x. x.term) here.1))
    | inr old ↦ lease_over w.setup w.seen reading n w.nodes w.master i ranges leases free old.at
  ];
}

granted_drawn : (w : State) (node reading : ℕ) (h : List Item) → AreRanges w.nodes w.master → AreDrawn w.nodes w.master h → AreDrawn (with_new w node reading) (record_taken w node reading) h
granted_drawn w node reading h ranges drawn = record {
  counted = λ s n term t commit drew. let was = drawn.counted s n term t commit drew in (was.0, omega (arith, was.1), omega (arith, was.2));
  earlier = λ s m term t n commit i drew at less. elim (with_new_cases w node reading n i ranges at) [
    | inl here ↦ omega (arith, (drawn.counted s m term t commit drew).2, ap (λ x. x.epoch) here.1)
    | inr old ↦ drawn.earlier s m term t n commit i drew old.at less
  ];
  same = λ s m term t n commit i drew at is. elim (with_new_cases w node reading n i ranges at) [
    | inl here ↦ absurd (omega (arith, (drawn.counted s m term t commit drew).1, is, ap (λ x. x.term) here.1))
    | inr old ↦ drawn.same s m term t n commit i drew old.at is
  ];
  later = λ s m term t n commit i drew at less. elim (with_new_cases w node reading n i ranges at) [
    | inl here ↦ absurd (omega (arith, (drawn.counted s m term t commit drew).1, less, ap (λ x. x.term) here.1))
    | inr old ↦ drawn.later s m term t n commit i drew old.at less
  ];
}

take_whole : (w : State) (node reading : ℕ) (h : List Item) → NumberFacts w.setup w.seen w.nodes w.master h → take_refused (rules_of w.setup) w.master reading ≡ None → NumberFacts w.setup (max w.seen reading) (with_new w node reading) (record_taken w node reading) h
take_whole w node reading h facts free =
    numbers_moved _ _ _ _ _ _ _ _ (granted_ranges w node reading facts.ranges) (granted_leases w node reading facts.ranges facts.leases free) (granted_drawn w node reading h facts.ranges facts.drawn) facts

granted_by : (w : State) (h : List Item) (k : Granted w) (failed : Bool) → NumberFacts w.setup w.seen w.nodes w.master h → NumberFacts w.setup (max w.seen k.reading) (granted_nodes w k failed) (record_taken w k.node k.reading) h
granted_by w h k true facts = take_alone w k.node k.reading h facts k.free
granted_by w h k false facts = take_whole w k.node k.reading h facts k.free

pub numbers_granted : (w : State) (h : List Item) (k : Granted w) → IsolationInvariant w h → NumberFacts w.setup (granted_state w k).seen (granted_state w k).nodes (granted_state w k).master (h ++ k.items)
numbers_granted w h k holds = numbers_told w.setup (max w.seen k.reading) (granted_state w k).nodes (granted_state w k).master h k.items k.quiet (granted_by w h k k.failed holds.numbers)
