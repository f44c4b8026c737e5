-- Stamps, terms and leases where a lease is renewed: instance and record get the same end of the lease, or the record alone.
use Rattle.isolation_laws.proofs.Names.{◌≡◌, ℕ, ◌+◌, ◌≤◌, max, Bool, true, false, List, ◌++◌, Option, ◌⊎◌, inl, inr}
use Rattle.isolation_laws.proofs.Names.{refl, sym, ◌∙◌, ap, subst, arith, Item, renewed_until, InstanceEntry}
use Rattle.isolation_laws.proofs.Names.{instance_renewed, State, rules_of, InstanceAt, AreRanges, AreLeases, AreDrawn}
use Rattle.isolation_laws.proofs.Names.{NumberFacts, IsolationInvariant, instance_changed, Renewed, renewed_nodes}
use Rattle.isolation_laws.proofs.Names.{renewed_state, max_left, max_within}
use Rattle.isolation_laws.proofs.Numbers.NumbersMoved.{numbers_told, ranges_under, drawn_under, numbers_moved}

-- ---- a renewal: instance and record get the same end of the lease, or the record alone
renewed_number : (w : State) (reading n : ℕ) (i : InstanceEntry) (nodes : List (Option InstanceEntry)) → AreLeases w.setup w.seen nodes w.master → AreLeases w.setup (max w.seen reading) nodes (record w.master { until = renewed_until (rules_of w.setup) w.master reading })
renewed_number w reading n i nodes leases = record {
  holder = leases.holder;
  present = λ m j at is. omega (arith, leases.present m j at is, max_left w.master.until (reading + w.setup.lease));
  replaced = λ m j at less. omega (arith, leases.replaced m j at less, max_left w.seen reading);
}

renewed_instance : (w : State) (k : Renewed w) (m : ℕ) (j : InstanceEntry) → InstanceAt (renewed_nodes w k false) m j → (i : InstanceEntry) × InstanceAt w.nodes m i × (j.term ≡ i.term) × (j.epoch ≡ i.epoch) × (j.last ≡ i.last) × (j.ceiling ≡ i.ceiling) × ((j.until ≡ i.until) ⊎ ((j.until ≡ max i.until (renewed_until (rules_of w.setup) w.master k.reading)) × (i.term ≡ w.master.term)))
renewed_instance w k m j at = elim (instance_changed w.nodes k.node m (instance_renewed k.i (renewed_until (rules_of w.setup) w.master k.reading)) j at) [
  | inl here ↦ (k.i, subst (λ q. InstanceAt w.nodes q k.i) (sym here.0) k.at, ap (λ x. x.term) here.1, ap (λ x. x.epoch) here.1, ap (λ x. x.last) here.1, ap (λ x. x.ceiling) here.1, inr (ap (λ x. x.until) here.1, sym k.own))
  | inr there ↦ (j, there.1, refl, refl, refl, refl, inl refl)
]

renewed_leases : (w : State) (k : Renewed w) → AreLeases w.setup w.seen w.nodes w.master → AreLeases w.setup (max w.seen k.reading) (renewed_nodes w k false) (record w.master { until = renewed_until (rules_of w.setup) w.master k.reading })
renewed_leases w k leases = record {
  holder = λ m j at. let was = renewed_instance w k m j at in leases.holder m was.0 was.1;
  present = λ m j at is. let was = renewed_instance w k m j at in
      let old_one : was.0.until ≤ w.master.until = leases.present m was.0 was.1 (sym was.2 ∙ is) in
      let up : w.master.until ≤ renewed_until (rules_of w.setup) w.master k.reading = max_left w.master.until (k.reading + w.setup.lease) in
      elim was.6 [
        | inl same ↦ omega (arith, old_one, up, same)
        | inr moved ↦ omega (arith, moved.0, max_within was.0.until (renewed_until (rules_of w.setup) w.master k.reading) (renewed_until (rules_of w.setup) w.master k.reading) (omega (arith, old_one, up)) (omega arith))
      ];
  replaced = λ m j at less. let was = renewed_instance w k m j at in
      elim was.6 [
        | inl same ↦ omega (arith, leases.replaced m was.0 was.1 (omega (arith, less, was.2)), same, max_left w.seen k.reading)
        | inr moved ↦ absurd (omega (arith, less, was.2, moved.1))
      ];
}

renewed_ranges : (w : State) (k : Renewed w) → AreRanges w.nodes w.master → AreRanges (renewed_nodes w k false) w.master
renewed_ranges w k ranges = record {
  above = λ n j at. let was = renewed_instance w k n j at in omega (arith, ranges.above n was.0 was.1, was.3, was.4);
  within = λ n j at. let was = renewed_instance w k n j at in omega (arith, ranges.within n was.0 was.1, was.4, was.5);
  covered = λ n j at. let was = renewed_instance w k n j at in omega (arith, ranges.covered n was.0 was.1, was.5);
  counted = λ n j at. let was = renewed_instance w k n j at in (omega (arith, (ranges.counted n was.0 was.1).0, was.2), omega (arith, (ranges.counted n was.0 was.1).1, was.2));
  differ = λ n m j g other at there. let a = renewed_instance w k n j at in let b = renewed_instance w k m g there in λ is. ranges.differ n m a.0 b.0 other a.1 b.1 (sym a.2 ∙ (is ∙ b.2));
  apart = λ n m j g at there less. let a = renewed_instance w k n j at in let b = renewed_instance w k m g there in
      omega (arith, ranges.apart n m a.0 b.0 a.1 b.1 (omega (arith, less, a.2, b.2)), a.5, b.3);
}

renewed_drawn : (w : State) (k : Renewed w) (h : List Item) → AreDrawn w.nodes w.master h → AreDrawn (renewed_nodes w k false) w.master h
renewed_drawn w k h drawn = record {
  counted = drawn.counted;
  earlier = λ s m term t n commit j drew at less. let was = renewed_instance w k n j at in omega (arith, drawn.earlier s m term t n commit was.0 drew was.1 (omega (arith, less, was.2)), was.3);
  same = λ s m term t n commit j drew at is. let was = renewed_instance w k n j at in
      let old_one = drawn.same s m term t n commit was.0 drew was.1 (is ∙ was.2) in (omega (arith, old_one.0, was.3), omega (arith, old_one.1, was.4));
  later = λ s m term t n commit j drew at less. let was = renewed_instance w k n j at in
      let old_one = drawn.later s m term t n commit was.0 drew was.1 (omega (arith, less, was.2)) in (omega (arith, old_one.0, was.5), omega (arith, old_one.1, was.5));
}

renewed_by : (w : State) (h : List Item) (k : Renewed w) (failed : Bool) → NumberFacts w.setup w.seen w.nodes w.master h → NumberFacts w.setup (max w.seen k.reading) (renewed_nodes w k failed) (record w.master { until = renewed_until (rules_of w.setup) w.master k.reading }) h
renewed_by w h k true facts =
    numbers_moved _ _ _ _ _ _ _ _ (ranges_under w.nodes w.master _ (omega arith) (omega arith) facts.ranges) (renewed_number w k.reading k.node k.i w.nodes facts.leases) (drawn_under w.nodes w.master _ h (omega arith) (omega arith) facts.drawn) facts
renewed_by w h k false facts =
    numbers_moved _ _ _ _ _ _ _ _ (ranges_under (renewed_nodes w k false) w.master _ (omega arith) (omega arith) (renewed_ranges w k facts.ranges)) (renewed_leases w k facts.leases) (drawn_under (renewed_nodes w k false) w.master _ h (omega arith) (omega arith) (renewed_drawn w k h facts.drawn)) facts

pub numbers_renewed : (w : State) (h : List Item) (k : Renewed w) → IsolationInvariant w h → NumberFacts w.setup (renewed_state w k).seen (renewed_state w k).nodes (renewed_state w k).master (h ++ k.items)
numbers_renewed w h k holds = numbers_told w.setup (max w.seen k.reading) (renewed_state w k).nodes (renewed_state w k).master h k.items k.quiet (renewed_by w h k k.failed holds.numbers)
