-- Every outcome keeps the facts on the conflict memory.
use Rattle.isolation_laws.proofs.Names.{◌≡◌, ℕ, ◌+◌, Bool, true, false, List, [], ◌++◌, Some, inl, inr, refl, sym, ◌∙◌}
use Rattle.isolation_laws.proofs.Names.{ap, arith, Item, contents, State, recorded, AreOfForm, AreRecorded, MemoryFacts}
use Rattle.isolation_laws.proofs.Names.{IsolationInvariant, instance_changed, Granted, granted_nodes, granted_state}
use Rattle.isolation_laws.proofs.Names.{Outcome, OfGranted, OfDrew, left_by, told_by_outcome}
use Rattle.isolation_laws.proofs.Memory.RecordedCommits.{recorded_none}
use Rattle.isolation_laws.proofs.Memory.MemoryStays.{remembered_same, nothing_quiet, memory_same}
use Rattle.isolation_laws.proofs.Memory.SerialDraws.{memory_drew}
use Rattle.isolation_laws.proofs.Holding.Alone.{memory_alone}
use Rattle.isolation_laws.proofs.Holding.LeftAlone.{alone}

-- ---- a new instance
-- it begins with empty buckets, and nothing was drawn in its term
new_recorded : (w : State) (h : List Item) (node reading : ℕ) → IsolationInvariant w h → recorded h (w.master.term + 1) ≡ []
new_recorded w h node reading holds = recorded_none h (w.master.term + 1) (λ s n t c drew. absurd (omega (arith, (holds.numbers.drawn.counted s n (w.master.term + 1) t (Some c) drew).1)))

new_holds : (w : State) (h : List Item) (k : Granted w) → IsolationInvariant w h → AreRecorded w.setup (granted_nodes w k false) h
new_holds w h k holds = record {
  hold = λ n j at. elim (instance_changed w.nodes k.node n _ j at) [
    | inl here ↦ ap (λ x. x.buckets) here.1 ∙ ap (contents w.setup.buckets w.setup.width) (sym (ap (λ x. recorded h x.term) here.1 ∙ new_recorded w h k.node k.reading holds))
    | inr there ↦ holds.memory.recorded.hold n j there.1
  ];
}

granted_holds : (w : State) (h : List Item) (k : Granted w) (failed : Bool) → IsolationInvariant w h → AreRecorded w.setup (granted_nodes w k failed) h
granted_holds w h k true holds = holds.memory.recorded
granted_holds w h k false holds = new_holds w h k holds

granted_form : (w : State) (k : Granted w) (failed : Bool) → AreOfForm w.setup w.nodes → AreOfForm w.setup (granted_nodes w k failed)
granted_form w k true form = form
granted_form w k false form = record {
  direct = λ n j at. elim (instance_changed w.nodes k.node n _ j at) [
    | inl here ↦ ap (λ x. x.direct) here.1
    | inr there ↦ form.direct n j there.1
  ];
}

memory_granted : (w : State) (h : List Item) (k : Granted w) → IsolationInvariant w h → MemoryFacts w.setup (granted_state w k).nodes (h ++ k.items)
memory_granted w h k holds =
    memory_same w.setup (granted_state w k).nodes (granted_state w k).nodes h (h ++ k.items) (remembered_same (granted_state w k).nodes) (nothing_quiet h k.items k.quiet) (record { recorded = granted_holds w h k k.failed holds; form = granted_form w k k.failed holds.memory.form; apart = holds.memory.apart; serial = holds.memory.serial })

-- ---- every outcome
pub memory_kept : (w : State) (h : List Item) (o : Outcome w) → IsolationInvariant w h → MemoryFacts (left_by w o).setup (left_by w o).nodes (h ++ told_by_outcome w o)
memory_kept w h (OfGranted k) holds = memory_granted w h k holds
memory_kept w h (OfDrew k) holds = memory_drew w h k holds
memory_kept w h o holds = memory_alone w h o (alone w h o holds) refl holds
