-- An event asks one store, or none: its refusals, and what a fault leaves.
use Rattle.machine.proofs.Names.{◌≡◌, Option, Some, None, refl, subst, Store, Fate, Works, FailsUnchanged, FailsApplied}
use Rattle.machine.proofs.Names.{Cause, Actor, Stop, Faults, Effect, refused, IsFaultOf}
use Rattle.machine.proofs.Refusals.{LeavesAll, refusal_leaves, fault_leaves, going_leaves}

-- the fate does not matter where no store is asked, and where one is, the effect fails exactly where its call does
pub record AskedOnce {P : Type 0} (old : P) (asks : Option Store) (f : Fate → Effect P) : Type 0 where
  pub leaves : (fate : Fate) → LeavesAll old (f fate)
  pub none : asks ≡ None → (fate other : Fate) → f fate ≡ f other
  pub unchanged : (store : Store) → asks ≡ Some store → IsFaultOf store (f FailsUnchanged).stop
  pub applied : (store : Store) → asks ≡ Some store → IsFaultOf store (f FailsApplied).stop
  pub works : (store : Store) → (f Works).stop ≡ Some (Faults store) → ⊥

-- ---- the two ways: no store is asked, or one is
unasked_refusal : {P : Type 0} (old : P) (e : Effect P) → LeavesAll old e → ((store : Store) → e.stop ≡ Some (Faults store) → ⊥) → AskedOnce old None (λ fate. e)
unasked_refusal old e leaves works = record {
  leaves = λ fate. leaves;
  none = λ not fate other. refl;
  unchanged = λ store is. absurd (cc);
  applied = λ store is. absurd (cc);
  works = works;
}

same_fault : (store other : Store) → Some store ≡ Some other → Some (Faults store) ≡ Some (Faults other)
same_fault store other is = cc

asked_leaves : {P : Type 0} (old : P) (store : Store) (f : Fate → Effect P) → LeavesAll old (f Works) → (f FailsUnchanged).stop ≡ Some (Faults store) → (f FailsApplied).stop ≡ Some (Faults store) → (fate : Fate) → LeavesAll old (f fate)
asked_leaves old store f leaves unchanged applied Works = leaves
asked_leaves old store f leaves unchanged applied FailsUnchanged = fault_leaves old (f FailsUnchanged) store unchanged
asked_leaves old store f leaves unchanged applied FailsApplied = fault_leaves old (f FailsApplied) store applied

pub asked : {P : Type 0} (old : P) (store : Store) (f : Fate → Effect P) → LeavesAll old (f Works) → (f FailsUnchanged).stop ≡ Some (Faults store) → (f FailsApplied).stop ≡ Some (Faults store) → ((other : Store) → (f Works).stop ≡ Some (Faults other) → ⊥) → AskedOnce old (Some store) f
asked old store f leaves unchanged applied works = record {
  leaves = λ fate. asked_leaves old store f leaves unchanged applied fate;
  none = λ not fate other. absurd (cc);
  unchanged = λ other is. subst (λ (x : Option Stop). (f FailsUnchanged).stop ≡ x) (same_fault store other is) unchanged;
  applied = λ other is. subst (λ (x : Option Stop). (f FailsApplied).stop ≡ x) (same_fault store other is) applied;
  works = works;
}

-- a refusal, or an effect that goes on, whatever the fate
pub refuses : {P : Type 0} (old : P) (actor : Actor) (why : Cause) → AskedOnce old None (λ fate. refused old actor why)
refuses old actor why = unasked_refusal old (refused old actor why) (refusal_leaves old actor why) (λ store stop. absurd (cc))

pub goes : {P : Type 0} (old : P) (e : Effect P) → e.stop ≡ None → AskedOnce old None (λ fate. e)
goes old e is = unasked_refusal old e (going_leaves old e is) (λ store stop. absurd (cc))
