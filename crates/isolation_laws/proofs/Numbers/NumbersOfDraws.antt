-- Stamps, terms and leases where a stamp is drawn: it is the next one of its instance, above all of its term, and new.
use Rattle.isolation_laws.proofs.Names.{◌≡◌, ◌≢◌, ℕ, ◌+◌, ◌≤◌, Option, Some, None, ◌⊎◌, inl, inr, refl, sym, ◌∙◌, ap}
use Rattle.isolation_laws.proofs.Names.{subst, arith, Draw, Request, BeginRequest, Commit, InstanceEntry, State}
use Rattle.isolation_laws.proofs.Names.{draw_item, InstanceAt, drawn_stamp, AreRanges, AreLeases, instance_changed}
use Rattle.isolation_laws.proofs.Names.{Drew, drew_instance, drew_state}

-- ---- what is drawn: its stamp, and the start that it is drawn for
abbrev pub start_drawn : Request → ℕ → ℕ
start_drawn (BeginRequest session) stamp = stamp
start_drawn (Commit session start keys) stamp = start

abbrev pub commit_drawn : Request → ℕ → Option ℕ
commit_drawn (BeginRequest session) stamp = None
commit_drawn (Commit session start keys) stamp = Some stamp

abbrev pub asker_of : Request → ℕ
asker_of (BeginRequest session) = session
asker_of (Commit session start keys) = session

pub draw_item_is : (node term : ℕ) (request : Request) (stamp : ℕ) → draw_item node term request stamp ≡ Draw (asker_of request) node term (start_drawn request stamp) (commit_drawn request stamp)
draw_item_is node term (BeginRequest session) stamp = refl
draw_item_is node term (Commit session start keys) stamp = refl

pub stamp_drawn : (request : Request) (stamp : ℕ) → drawn_stamp (start_drawn request stamp) (commit_drawn request stamp) ≡ stamp
stamp_drawn (BeginRequest session) stamp = refl
stamp_drawn (Commit session start keys) stamp = refl

-- ---- the instance that drew: its last stamp is one up
pub drew_cases : (w : State) (k : Drew w) (m : ℕ) (j : InstanceEntry) → InstanceAt (drew_state w k).nodes m j → ((m ≡ k.node) × (j ≡ drew_instance w k)) ⊎ ((m ≢ k.node) × InstanceAt w.nodes m j)
drew_cases w k m j at = instance_changed w.nodes k.node m (drew_instance w k) j at

-- the range has room
next_within : (last ceiling : ℕ) → last ≤ ceiling → last ≢ ceiling → last + 1 ≤ ceiling
next_within last ceiling within other = grind (arith, within, other)

pub drew_room : (w : State) (k : Drew w) → AreRanges w.nodes w.master → k.i.last + 1 ≤ k.i.ceiling
drew_room w k ranges = next_within k.i.last k.i.ceiling (ranges.within k.node k.i k.at) k.room

pub drew_ranges : (w : State) (k : Drew w) → AreRanges w.nodes w.master → AreRanges (drew_state w k).nodes w.master
drew_ranges w k ranges = record {
  above = λ n j at. elim (drew_cases w k n j at) [
    | inl here ↦ subst (λ (x : InstanceEntry). x.epoch ≤ x.last) (sym here.1) (omega (arith, ranges.above k.node k.i k.at))
    | inr there ↦ ranges.above n j there.1
  ];
  within = λ n j at. elim (drew_cases w k n j at) [
    | inl here ↦ subst (λ (x : InstanceEntry). x.last ≤ x.ceiling) (sym here.1) (drew_room w k ranges)
    | inr there ↦ ranges.within n j there.1
  ];
  covered = λ n j at. elim (drew_cases w k n j at) [
    | inl here ↦ subst (λ (x : InstanceEntry). x.ceiling ≤ w.master.ceiling) (sym here.1) (ranges.covered k.node k.i k.at)
    | inr there ↦ ranges.covered n j there.1
  ];
  counted = λ n j at. elim (drew_cases w k n j at) [
    | inl here ↦ subst (λ (x : InstanceEntry). (1 ≤ x.term) × (x.term ≤ w.master.term)) (sym here.1) (ranges.counted k.node k.i k.at)
    | inr there ↦ ranges.counted n j there.1
  ];
  differ = λ n m i j other at there. elim (drew_cases w k n i at) [
    | inl here ↦ elim (drew_cases w k m j there) [
      | inl also ↦ absurd (other (here.0 ∙ sym also.0))
      | inr else ↦ λ same. ranges.differ k.node m k.i j (λ is. else.0 (sym is)) k.at else.1 (ap (λ x. x.term) (sym here.1) ∙ same)
    ]
    | inr old ↦ elim (drew_cases w k m j there) [
      | inl also ↦ λ same. ranges.differ n k.node i k.i old.0 old.1 k.at (same ∙ ap (λ x. x.term) also.1)
      | inr too ↦ ranges.differ n m i j other old.1 too.1
    ]
  ];
  apart = λ n m i j at there less. elim (drew_cases w k n i at) [
    | inl here ↦ elim (drew_cases w k m j there) [
      | inl also ↦ absurd (omega (arith, less, ap (λ x. x.term) here.1, ap (λ x. x.term) also.1))
      | inr else ↦ omega (arith, ranges.apart k.node m k.i j k.at else.1 (omega (arith, less, ap (λ x. x.term) here.1)), ap (λ x. x.ceiling) here.1)
    ]
    | inr old ↦ elim (drew_cases w k m j there) [
      | inl also ↦ omega (arith, ranges.apart n k.node i k.i old.1 k.at (omega (arith, less, ap (λ x. x.term) also.1)), ap (λ x. x.epoch) also.1)
      | inr too ↦ ranges.apart n m i j old.1 too.1 less
    ]
  ];
}

pub drew_leases : (w : State) (k : Drew w) → AreLeases w.setup w.seen w.nodes w.master → AreLeases w.setup w.seen (drew_state w k).nodes w.master
drew_leases w k leases = record {
  holder = λ n j at. elim (drew_cases w k n j at) [
    | inl here ↦ leases.holder k.node k.i k.at
    | inr there ↦ leases.holder n j there.1
  ];
  present = λ n j at is. elim (drew_cases w k n j at) [
    | inl here ↦ omega (arith, leases.present k.node k.i k.at (ap (λ x. x.term) (sym here.1) ∙ is), ap (λ x. x.until) here.1)
    | inr there ↦ leases.present n j there.1 is
  ];
  replaced = λ n j at less. elim (drew_cases w k n j at) [
    | inl here ↦ omega (arith, leases.replaced k.node k.i k.at (omega (arith, less, ap (λ x. x.term) here.1)), ap (λ x. x.until) here.1)
    | inr there ↦ leases.replaced n j there.1 less
  ];
}
