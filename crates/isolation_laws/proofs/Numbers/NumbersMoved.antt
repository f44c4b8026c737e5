-- Stamps, terms and leases under a master record that went up, over the same instances.
use Rattle.isolation_laws.proofs.Names.{◌≡◌, ℕ, ◌<◌, ◌≤◌, List, ◌++◌, Option, ◌⊎◌, arith, Item, SetupNumbers}
use Rattle.isolation_laws.proofs.Names.{MasterRecord, InstanceEntry, AllQuiet, AreRanges, AreDrawn, NumberFacts}
use Rattle.isolation_laws.proofs.Names.{AreLeases}
use Rattle.isolation_laws.proofs.Numbers.NumbersStay.{numbered_same, numbers_quiet}

-- ---- a take that is not early
pub below_or_at : (a b : ℕ) → a ≤ b → (a < b) ⊎ (a ≡ b)
below_or_at a b within = grind arith

-- quiet items behind
pub numbers_told : (setup : SetupNumbers) (seen : ℕ) (nodes : List (Option InstanceEntry)) (master : MasterRecord) (h items : List Item) → AllQuiet items → NumberFacts setup seen nodes master h → NumberFacts setup seen nodes master (h ++ items)
numbers_told setup seen nodes master h items quiet facts = numbers_quiet setup seen seen nodes nodes master h items (numbered_same nodes) (omega arith) quiet facts

-- ---- a record that went up, over the same instances
pub ranges_under : (nodes : List (Option InstanceEntry)) (old new : MasterRecord) → old.term ≤ new.term → old.ceiling ≤ new.ceiling → AreRanges nodes old → AreRanges nodes new
ranges_under nodes old new term ceiling ranges = record {
  above = ranges.above;
  within = ranges.within;
  covered = λ n i at. omega (arith, ranges.covered n i at, ceiling);
  counted = λ n i at. ((ranges.counted n i at).0, omega (arith, (ranges.counted n i at).1, term));
  differ = ranges.differ;
  apart = ranges.apart;
}

pub drawn_under : (nodes : List (Option InstanceEntry)) (old new : MasterRecord) (h : List Item) → old.term ≤ new.term → old.ceiling ≤ new.ceiling → AreDrawn nodes old h → AreDrawn nodes new h
drawn_under nodes old new h term ceiling drawn = record {
  counted = λ s n t0 t commit drew. let was = drawn.counted s n t0 t commit drew in (was.0, omega (arith, was.1, term), omega (arith, was.2, ceiling));
  earlier = drawn.earlier;
  same = drawn.same;
  later = drawn.later;
}

-- ---- a renewal: instance and record get the same end of the lease, or the record alone
-- ranges, leases and draws moved, over the same history
pub numbers_moved : (setup : SetupNumbers) (seen later : ℕ) (old new : List (Option InstanceEntry)) (master after : MasterRecord) (h : List Item) → AreRanges new after → AreLeases setup later new after → AreDrawn new after h → NumberFacts setup seen old master h → NumberFacts setup later new after h
numbers_moved setup seen later old new master after h ranges leases drawn facts =
    record { ranges = ranges; leases = leases; drawn = drawn; new = facts.new; begun = facts.begun; placed = facts.placed }
