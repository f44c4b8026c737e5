-- Stamps, terms and leases where a range is added: the record's ceiling goes up, and the instance's range with it; no term is
-- above the instance's.
use Rattle.isolation_laws.proofs.Names.{◌≡◌, ℕ, ◌+◌, Bool, true, false, List, ◌++◌, ◌⊎◌, inl, inr, refl, sym, ◌∙◌, ap}
use Rattle.isolation_laws.proofs.Names.{subst, arith, Item, MasterRecord, InstanceEntry, instance_widened, State}
use Rattle.isolation_laws.proofs.Names.{InstanceAt, AreRanges, AreLeases, AreDrawn, NumberFacts, IsolationInvariant}
use Rattle.isolation_laws.proofs.Names.{instance_changed, Extended, extended_nodes, extended_state}
use Rattle.isolation_laws.proofs.Numbers.NumbersMoved.{numbers_told, ranges_under, drawn_under, numbers_moved}

-- ---- an extension: the record's ceiling goes up, and the instance's range with it; no term is above the instance's
extended_instance : (w : State) (k : Extended w) (m : ℕ) (j : InstanceEntry) → InstanceAt (extended_nodes w k false) m j → (i : InstanceEntry) × InstanceAt w.nodes m i × (j.term ≡ i.term) × (j.epoch ≡ i.epoch) × (j.last ≡ i.last) × (j.until ≡ i.until) × ((j.ceiling ≡ i.ceiling) ⊎ ((j.ceiling ≡ w.master.ceiling + w.setup.range) × (i.term ≡ w.master.term)))
extended_instance w k m j at = elim (instance_changed w.nodes k.node m (instance_widened k.i (w.master.ceiling + w.setup.range)) j at) [
  | inl here ↦ (k.i, subst (λ q. InstanceAt w.nodes q k.i) (sym here.0) k.at, ap (λ x. x.term) here.1, ap (λ x. x.epoch) here.1, ap (λ x. x.last) here.1, ap (λ x. x.until) here.1, inr (ap (λ x. x.ceiling) here.1, sym k.own))
  | inr there ↦ (j, there.1, refl, refl, refl, refl, inl refl)
]

abbrev pub record_extended : State → MasterRecord
record_extended w = record w.master { ceiling = w.master.ceiling + w.setup.range }

extended_ranges : (w : State) (k : Extended w) → AreRanges w.nodes w.master → AreRanges (extended_nodes w k false) (record_extended w)
extended_ranges w k ranges = record {
  above = λ n j at. let was = extended_instance w k n j at in omega (arith, ranges.above n was.0 was.1, was.3, was.4);
  within = λ n j at. let was = extended_instance w k n j at in elim was.6 [
    | inl same ↦ omega (arith, ranges.within n was.0 was.1, was.4, same)
    | inr more ↦ omega (arith, ranges.within n was.0 was.1, ranges.covered n was.0 was.1, was.4, more.0)
  ];
  covered = λ n j at. let was = extended_instance w k n j at in elim was.6 [
    | inl same ↦ omega (arith, ranges.covered n was.0 was.1, same)
    | inr more ↦ omega (arith, more.0)
  ];
  counted = λ n j at. let was = extended_instance w k n j at in (omega (arith, (ranges.counted n was.0 was.1).0, was.2), omega (arith, (ranges.counted n was.0 was.1).1, was.2));
  differ = λ n m j g other at there. let a = extended_instance w k n j at in let b = extended_instance w k m g there in λ is. ranges.differ n m a.0 b.0 other a.1 b.1 (sym a.2 ∙ (is ∙ b.2));
  apart = λ n m j g at there less. let a = extended_instance w k n j at in let b = extended_instance w k m g there in elim a.6 [
    | inl same ↦ omega (arith, ranges.apart n m a.0 b.0 a.1 b.1 (omega (arith, less, a.2, b.2)), same, b.3)
    | inr more ↦ absurd (omega (arith, less, a.2, more.1, b.2, (ranges.counted m b.0 b.1).1))
  ];
}

extended_leases : (w : State) (k : Extended w) → AreLeases w.setup w.seen w.nodes w.master → AreLeases w.setup w.seen (extended_nodes w k false) (record_extended w)
extended_leases w k leases = record {
  holder = λ m j at. let was = extended_instance w k m j at in leases.holder m was.0 was.1;
  present = λ m j at is. let was = extended_instance w k m j at in omega (arith, leases.present m was.0 was.1 (sym was.2 ∙ is), was.5);
  replaced = λ m j at less. let was = extended_instance w k m j at in omega (arith, leases.replaced m was.0 was.1 (omega (arith, less, was.2)), was.5);
}

extended_drawn : (w : State) (k : Extended w) (h : List Item) → AreDrawn w.nodes w.master h → AreDrawn (extended_nodes w k false) (record_extended w) h
extended_drawn w k h drawn = record {
  counted = λ s n term t commit drew. let was = drawn.counted s n term t commit drew in (was.0, was.1, omega (arith, was.2));
  earlier = λ s m term t n commit j drew at less. let was = extended_instance w k n j at in omega (arith, drawn.earlier s m term t n commit was.0 drew was.1 (omega (arith, less, was.2)), was.3);
  same = λ s m term t n commit j drew at is. let was = extended_instance w k n j at in
      let old_one = drawn.same s m term t n commit was.0 drew was.1 (is ∙ was.2) in (omega (arith, old_one.0, was.3), omega (arith, old_one.1, was.4));
  later = λ s m term t n commit j drew at less. let was = extended_instance w k n j at in elim was.6 [
    | inl same ↦ let old_one = drawn.later s m term t n commit was.0 drew was.1 (omega (arith, less, was.2)) in (omega (arith, old_one.0, same), omega (arith, old_one.1, same))
    | inr more ↦ absurd (omega (arith, less, was.2, more.1, (drawn.counted s m term t commit drew).1))
  ];
}

extended_by : (w : State) (h : List Item) (k : Extended w) (failed : Bool) → NumberFacts w.setup w.seen w.nodes w.master h → NumberFacts w.setup w.seen (extended_nodes w k failed) (record_extended w) h
extended_by w h k true facts =
    numbers_moved _ _ _ _ _ _ _ _ (ranges_under w.nodes w.master (record_extended w) (omega arith) (omega arith) facts.ranges) (record { holder = facts.leases.holder; present = facts.leases.present; replaced = facts.leases.replaced }) (drawn_under w.nodes w.master (record_extended w) h (omega arith) (omega arith) facts.drawn) facts
extended_by w h k false facts =
    numbers_moved _ _ _ _ _ _ _ _ (extended_ranges w k facts.ranges) (extended_leases w k facts.leases) (extended_drawn w k h facts.drawn) facts

pub numbers_extended : (w : State) (h : List Item) (k : Extended w) → IsolationInvariant w h → NumberFacts w.setup (extended_state w k).seen (extended_state w k).nodes (extended_state w k).master (h ++ k.items)
numbers_extended w h k holds = numbers_told w.setup w.seen (extended_state w k).nodes (extended_state w k).master h k.items k.quiet (extended_by w h k k.failed holds.numbers)
