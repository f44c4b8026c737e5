-- Of an open transaction each instance draws at most up to the epoch, or is past the start, whatever comes.
use Rattle.isolation_laws.proofs.Names.{◌≡◌, ◌≢◌, ℕ, zero, suc, ◌+◌, ◌<◌, ◌≤◌, Bool, true, false, List, [], ◌∷◌, Option}
use Rattle.isolation_laws.proofs.Names.{Some, None, ◌⊎◌, inl, inr, refl, sym, ◌∙◌, ap, subst, arith, All, IfSome}
use Rattle.isolation_laws.proofs.Names.{slice_index_or, All-head, All-tail, Item, granted, Held, Progress, Request}
use Rattle.isolation_laws.proofs.Names.{Commit, InstanceEntry, unsettled_by, without_request, drawn_as}
use Rattle.isolation_laws.proofs.Names.{instance_widened, Client, State, rules_of, instance_of, InstanceAt, HeldBy}
use Rattle.isolation_laws.proofs.Names.{OpenAt, Begun, AreSettledBelow, IsPast, IsolationInvariant, instance_changed}
use Rattle.isolation_laws.proofs.Names.{one_instance, heldby_changed, heldby_ended, Granted, granted_nodes}
use Rattle.isolation_laws.proofs.Names.{granted_state, Extended, extended_nodes, extended_state, Drew, drew_instance}
use Rattle.isolation_laws.proofs.Names.{drew_state, AnsweredBegin, answered_begin_state, three_ways}
use Rattle.system_parts.specs.declared.instance.Progress.TheVariants as progress
use Rattle.system_parts.specs.InstanceLaws.{IsNotBelow}
use Rattle.system_parts.proofs.InstanceBegins.{none_waits}
use Rattle.isolation_laws.proofs.Owners.{begun_below_last}
use Rattle.isolation_laws.proofs.Requests.ClientsOpen.{FewerOpen}
use Rattle.isolation_laws.proofs.Requests.OpenAfter.{open_answered_begin}
use Rattle.isolation_laws.proofs.Requests.PendingAfter.{new_holds_none, drawn_as_stamp}
use Rattle.isolation_laws.proofs.Numbers.NumbersKept.{drew_start}
use Rattle.isolation_laws.proofs.Numbers.NumbersStay.{SameNumbers}
use Rattle.isolation_laws.proofs.Reading.ReadersRely.{open_now_begun}
use Rattle.isolation_laws.proofs.Requests.CommitsInFlight.{FewerStanding, IsDrawnNow}
use Rattle.isolation_laws.proofs.Requests.Standing.{standing_over}

-- each instance was there, draws up to the same, and is no less far
pub record KeepsRanges (old new : List (Option InstanceEntry)) : Type 0 where
  pub each : (n : ℕ) (j : InstanceEntry) → InstanceAt new n j → (i : InstanceEntry) × InstanceAt old n i × (j.ceiling ≡ i.ceiling) × (i.last ≤ j.last)

pub numbers_keep : (old new : List (Option InstanceEntry)) → SameNumbers old new → KeepsRanges old new
numbers_keep old new same = record { each = λ n j at. let was = same.each n j at in (was.0, was.1, was.2.ceiling, omega (arith, was.2.last)) }

past_on : (old new : List (Option InstanceEntry)) (n b : ℕ) (i j : InstanceEntry) → FewerStanding IsDrawnNow old new → InstanceAt old n i → InstanceAt new n j → i.last ≤ j.last → IsPast i b → IsPast j b
past_on old new n b i j fewer at now last past = record {
  last = omega (arith, past.last, last);
  settled = λ r t c keys held.
      let was = fewer.each n r j (Commit r t keys) (progress.Drawn c) tt now held in
      past.settled r t c keys (subst (λ (x : InstanceEntry). HeldBy x r (Commit r t keys) (progress.Drawn c)) (one_instance old n was.0 i was.1 at) was.2);
}

-- of the same transaction, one instance
pub below_on : (old new : List (Option InstanceEntry)) (n b e : ℕ) (i j : InstanceEntry) → FewerStanding IsDrawnNow old new → InstanceAt old n i → InstanceAt new n j → j.ceiling ≡ i.ceiling → i.last ≤ j.last → (i.ceiling ≤ e) ⊎ IsPast i b → (j.ceiling ≤ e) ⊎ IsPast j b
below_on old new n b e i j fewer at now ceiling last (inl all) = inl (omega (arith, all, ceiling))
below_on old new n b e i j fewer at now ceiling last (inr past) = inr (past_on old new n b i j fewer at now last past)

pub below_fewer : (before after : List Client) (old new : List (Option InstanceEntry)) → FewerOpen before after → KeepsRanges old new → FewerStanding IsDrawnNow old new → AreSettledBelow before old → AreSettledBelow after new
below_fewer before after old new opens keeps fewer settled = record {
  below = λ s b e n j o at.
      let was = keeps.each n j at in
      below_on old new n b e was.0 j fewer was.1 at was.2 was.3 (settled.below s b e n was.0 (opens s b e o) was.1);
}

-- ---- a new instance begins above all that was drawn
new_past : (w : State) (h : List Item) (k : Granted w) (s b : ℕ) → IsolationInvariant w h → Begun h s b → IsPast (instance_of w.setup k.node (granted (rules_of w.setup) w.master k.reading)) b
new_past w h k s b holds begun =
    let drew = holds.numbers.begun.drawn s b begun in
    record {
      last = (holds.numbers.drawn.counted s drew.0 drew.1 b None drew.2).2;
      settled = λ r t c keys held. absurd (new_holds_none (granted (rules_of w.setup) w.master k.reading) k.node w.setup.buckets w.setup.width w.setup.slots w.setup.direct r (Commit r t keys) (progress.Drawn c) held);
    }

granted_below : (w : State) (h : List Item) (k : Granted w) (failed : Bool) → IsolationInvariant w h → AreSettledBelow w.clients w.nodes → AreSettledBelow w.clients (granted_nodes w k failed)
granted_below w h k true holds was = was
granted_below w h k false holds was = record {
  below = λ s b e n j o at. elim (instance_changed w.nodes k.node n (instance_of w.setup k.node (granted (rules_of w.setup) w.master k.reading)) j at) [
    | inl here ↦ inr (subst (λ (x : InstanceEntry). IsPast x b) (sym here.1) (new_past w h k s b holds (open_now_begun w h s b e holds o)))
    | inr there ↦ was.below s b e n j o there.1
  ];
}

pub below_granted : (w : State) (h : List Item) (k : Granted w) → IsolationInvariant w h → AreSettledBelow w.clients w.nodes → AreSettledBelow w.clients (granted_state w k).nodes
below_granted w h k holds was = granted_below w h k k.failed holds was

-- ---- a range is added to the instance of the record's term, which is past each start
widened_past : (i : InstanceEntry) (b ceiling : ℕ) → IsPast i b → IsPast (instance_widened i ceiling) b
widened_past i b ceiling past = record { last = past.last; settled = λ r t c keys held. past.settled r t c keys (record { held = held.held; has = held.has; asks = held.asks; stands = held.stands }) }

past_now : (w : State) (h : List Item) (k : Extended w) (s b e : ℕ) → IsolationInvariant w h → AreSettledBelow w.clients w.nodes → OpenAt w.clients s b e → IsPast k.i b
past_now w h k s b e holds was o = elim (was.below s b e k.node k.i o k.at) [
  | inl all ↦
      let last : b ≤ k.i.last = begun_below_last w.nodes w.master h k.node k.i s b holds.numbers.ranges holds.numbers.drawn holds.numbers.begun k.at (sym k.own) (open_now_begun w h s b e holds o) in
      absurd (omega (arith, all, last, holds.numbers.ranges.within k.node k.i k.at, holds.requests.opened.above s b e o))
  | inr past ↦ past
]

extended_below : (w : State) (h : List Item) (k : Extended w) (failed : Bool) → IsolationInvariant w h → AreSettledBelow w.clients w.nodes → AreSettledBelow w.clients (extended_nodes w k failed)
extended_below w h k true holds was = was
extended_below w h k false holds was = record {
  below = λ s b e n j o at. elim (instance_changed w.nodes k.node n (instance_widened k.i (w.master.ceiling + w.setup.range)) j at) [
    | inl here ↦ inr (subst (λ (x : InstanceEntry). IsPast x b) (sym here.1) (widened_past k.i b (w.master.ceiling + w.setup.range) (past_now w h k s b e holds was o)))
    | inr there ↦ was.below s b e n j o there.1
  ];
}

pub below_extended : (w : State) (h : List Item) (k : Extended w) → IsolationInvariant w h → AreSettledBelow w.clients w.nodes → AreSettledBelow w.clients (extended_state w k).nodes
below_extended w h k holds was = extended_below w h k k.failed holds was

-- ---- a commit is drawn above the last stamp
drew_past : (w : State) (k : Drew w) (b : ℕ) → IsPast k.i b → IsPast (drew_instance w k) b
drew_past w k b past = record {
  last = omega (arith, past.last);
  settled = λ r t c keys held. elim (heldby_changed k.i k.session r (record k.held { progress = drawn_as k.i.direct k.held.request (k.i.last + 1) }) (Commit r t keys) (progress.Drawn c) (record { held = held.held; has = held.has; asks = held.asks; stands = held.stands })) [
    | inl now ↦ omega (arith, past.last, drawn_as_stamp k.i.direct k.held.request (k.i.last + 1) c now.2)
    | inr old ↦ past.settled r t c keys old.1
  ];
}

drew_below_one : (w : State) (k : Drew w) (b e : ℕ) → (k.i.ceiling ≤ e) ⊎ IsPast k.i b → ((drew_instance w k).ceiling ≤ e) ⊎ IsPast (drew_instance w k) b
drew_below_one w k b e (inl all) = inl all
drew_below_one w k b e (inr past) = inr (drew_past w k b past)

pub below_drew : (w : State) (k : Drew w) → AreSettledBelow w.clients w.nodes → AreSettledBelow w.clients (drew_state w k).nodes
below_drew w k was = record {
  below = λ s b e n j o at. elim (instance_changed w.nodes k.node n (drew_instance w k) j at) [
    | inl here ↦ subst (λ (x : InstanceEntry). (x.ceiling ≤ e) ⊎ IsPast x b) (sym here.1) (drew_below_one w k b e (was.below s b e k.node k.i o k.at))
    | inr there ↦ was.below s b e n j o there.1
  ];
}

-- ---- a begin is answered where no commit below its start waits
all_at : (P : Option Held → Type 0) (requests : List (Option Held)) (s : ℕ) (held : Held) → All P requests → slice_index_or requests s None ≡ Some held → P (Some held)
all_at P [] s held all there = absurd (cc)
all_at P (x ∷ others) zero held all there = subst P there (All-head P x others all)
all_at P (x ∷ others) (suc s) held all there = all_at P others s held (All-tail P x others all) there

-- a drawn commit that the answer waited for is none
not_waiting : (start : ℕ) (request : Request) (p : Progress) (r t c : ℕ) (keys : List ℕ) → request ≡ Commit r t keys → p ≡ progress.Drawn c → IfSome (unsettled_by request p) (λ commit. start ≤ commit) → start ≤ c
not_waiting start request p r t c keys asks stands none = subst (λ (commit : Option ℕ). IfSome commit (λ d. start ≤ d)) (ap (λ x. unsettled_by x p) asks ∙ ap (unsettled_by (Commit r t keys)) stands) none

answered_past : (w : State) (h : List Item) (k : AnsweredBegin w) → IsolationInvariant w h → IsPast (without_request k.i k.session) k.start
answered_past w h k holds = record {
  last = (holds.numbers.drawn.same k.session k.node k.i.term k.start k.node None k.i (drew_start w h k holds) k.at refl).1;
  settled = λ r t c keys held.
      let old = (heldby_ended k.i k.session r (Commit r t keys) (progress.Drawn c) held).1 in
      not_waiting k.start old.held.request old.held.progress r t c keys old.asks old.stands (all_at (IsNotBelow k.start) k.i.requests r old.held (none_waits k.i.requests k.start k.settled) old.has);
}

-- what an instance has drawn for a commit that it holds
drawn_there : (w : State) (h : List Item) (n r t c : ℕ) (keys : List ℕ) (j : InstanceEntry) → IsolationInvariant w h → InstanceAt w.nodes n j → HeldBy j r (Commit r t keys) (progress.Drawn c) → j.epoch < c
drawn_there w h n r t c keys j holds at held =
    (holds.numbers.drawn.same r n j.term t n (Some c) j (holds.requests.pending.here n r t c keys (progress.Drawn c) j at held refl) at refl).0

-- other instances end at or below the epoch, or begin above the start
other_below : (w : State) (h : List Item) (k : AnsweredBegin w) (n : ℕ) (j : InstanceEntry) → IsolationInvariant w h → n ≢ k.node → InstanceAt w.nodes n j → (j.ceiling ≤ k.i.epoch) ⊎ IsPast j k.start
other_below w h k n j holds other at = elim (three_ways j.term k.i.term) [
  | inl less ↦ inl (holds.numbers.ranges.apart n k.node j k.i at k.at less)
  | inr (inl same) ↦ absurd (holds.numbers.ranges.differ n k.node j k.i other at k.at same)
  | inr (inr more) ↦
      let above : k.i.ceiling ≤ j.epoch = holds.numbers.ranges.apart k.node n k.i j k.at at more in
      let mine : k.start ≤ k.i.last = (holds.numbers.drawn.same k.session k.node k.i.term k.start k.node None k.i (drew_start w h k holds) k.at refl).1 in
      let up : k.start ≤ j.epoch = omega (arith, mine, above, holds.numbers.ranges.within k.node k.i k.at) in
      inr (record {
        last = omega (arith, up, holds.numbers.ranges.above n j at);
        settled = λ r t c keys held. omega (arith, up, drawn_there w h n r t c keys j holds at held);
      })
]

new_below : (w : State) (h : List Item) (k : AnsweredBegin w) (n : ℕ) (j : InstanceEntry) → IsolationInvariant w h → InstanceAt (answered_begin_state w k).nodes n j → (j.ceiling ≤ k.i.epoch) ⊎ IsPast j k.start
new_below w h k n j holds at = elim (instance_changed w.nodes k.node n (without_request k.i k.session) j at) [
  | inl here ↦ inr (subst (λ (x : InstanceEntry). IsPast x k.start) (sym here.1) (answered_past w h k holds))
  | inr there ↦ other_below w h k n j holds there.0 there.1
]

old_range : (w : State) (k : AnsweredBegin w) (n : ℕ) (j : InstanceEntry) → InstanceAt (answered_begin_state w k).nodes n j → (i : InstanceEntry) × InstanceAt w.nodes n i × (j.ceiling ≡ i.ceiling) × (i.last ≤ j.last)
old_range w k n j at = elim (instance_changed w.nodes k.node n (without_request k.i k.session) j at) [
  | inl here ↦ (k.i, subst (λ m. InstanceAt w.nodes m k.i) (sym here.0) k.at, ap (λ x. x.ceiling) here.1, omega (arith, ap (λ x. x.last) here.1))
  | inr there ↦ (j, there.1, refl, omega arith)
]

old_below : (w : State) (k : AnsweredBegin w) (s b e n : ℕ) (j : InstanceEntry) → AreSettledBelow w.clients w.nodes → OpenAt w.clients s b e → InstanceAt (answered_begin_state w k).nodes n j → (j.ceiling ≤ e) ⊎ IsPast j b
old_below w k s b e n j before o at =
    let was = old_range w k n j at in
    below_on w.nodes (answered_begin_state w k).nodes n b e was.0 j (standing_over IsDrawnNow w.nodes k.node k.session k.i k.at) was.1 at was.2 was.3 (before.below s b e n was.0 o was.1)

pub below_answered_begin : (w : State) (h : List Item) (k : AnsweredBegin w) → IsolationInvariant w h → AreSettledBelow w.clients w.nodes → AreSettledBelow (answered_begin_state w k).clients (answered_begin_state w k).nodes
below_answered_begin w h k holds before = record {
  below = λ s b e n j o at. elim (open_answered_begin w k s b e o) [
    | inl old ↦ old_below w k s b e n j before old at
    | inr new ↦ subst (λ y. (j.ceiling ≤ y) ⊎ IsPast j b) (sym new.2) (subst (λ x. (j.ceiling ≤ k.i.epoch) ⊎ IsPast j x) (sym new.1) (new_below w h k n j holds at))
  ];
}
