-- A commit that a node holds asks for the keys that its transaction wrote: every event keeps it so.
use Rattle.std.proofs.Common.{◌≡◌, ℕ, List, [], ◌++◌, Option, Some, inl, inr, refl, sym, ◌∙◌, ap, subst}
use Rattle.std.proofs.lemmas.Bool.{cases_eq}
use Rattle.stamp_base.specs.SetupNumbers.{SetupNumbers}
use Rattle.port_io.specs.declared.weather.Fate.{Fate}
use Rattle.history_book.specs.declared.item.Item.{Item}
use Rattle.system_parts.specs.declared.session.State.TheVariants as phase
use Rattle.system_parts.specs.declared.instance.Progress.{Progress}
use Rattle.system_parts.specs.declared.instance.Progress.TheVariants as progress
use Rattle.system_parts.specs.declared.instance.Request.TheVariants.{Begin, Commit}
use Rattle.system_parts.specs.Instance.{InstanceEntry}
use Rattle.machine.specs.declared.event.Event.{Event}
use Rattle.machine.specs.State.{State, opening}
use Rattle.machine.specs.Machine.{stepped}
use Rattle.machine.specs.Outcome.Outcomes.{Outcome, OfAskedBegin, OfAskedCommit, OfWrote, left_by, told_by_outcome}
use Rattle.machine.specs.Outcome.OutcomesOfRequests.{AskedBegin, asked_begin_state, asked_begin_items, AskedCommit, asked_commit_state}
use Rattle.machine.specs.Outcome.OutcomesOfSessions.{WroteOne, wrote_items}
use Rattle.isolation_laws.specs.Words.{InstanceAt, HeldBy, Begun, written_keys}
use Rattle.isolation_laws.specs.Pending.{Stage, Waits, Taken, Has, stage_of}
use Rattle.isolation_laws.specs.Sound.{ReachedInvariant}
use Rattle.isolation_laws.specs.IsolationInvariant.{IsolationInvariant}
use Rattle.isolation_laws.proofs.AlwaysHolds.{each_outcome}
use Rattle.isolation_laws.proofs.Inversions.InversionSound.{none_at}
use Rattle.isolation_laws.proofs.OnceEach.{begun_once}
use Rattle.isolation_laws.proofs.Holding.LeftAlone.{alone}
use Rattle.isolation_laws.proofs.Numbers.NumbersKept.{open_begun}
use Rattle.isolation_laws.proofs.Requests.ClientsAfter.{written_keys-other}
use Rattle.isolation_laws.proofs.Requests.RequestsAfter.{FewerHeld, new_held, none_held, open_waits}
use Rattle.part_laws.specs.Reached.{HoldWrittenKeys}

-- ---- whose a commit is that is held
own_commit : (w : State) (n s asker t : ℕ) (keys : List ℕ) (p : Progress) (i : InstanceEntry) (h : List Item) → IsolationInvariant w h → InstanceAt w.nodes n i → HeldBy i s (Commit asker t keys) p → HeldBy i s (Commit s t keys) p
own_commit w n s asker t keys p i h holds at held =
    let own : asker ≡ s = holds.requests.requests.own n s i (Commit asker t keys) p at held in
    subst (λ x. HeldBy i s (Commit x t keys) p) own held

begun_pending : (w : State) (n s t : ℕ) (keys : List ℕ) (p : Progress) (i : InstanceEntry) (h : List Item) (stage : Stage) → IsolationInvariant w h → InstanceAt w.nodes n i → HeldBy i s (Commit s t keys) p → stage_of i.last p ≡ Some stage → Begun h s t
begun_pending w n s t keys p i h stage holds at held is =
    holds.requests.pending.begun (record { session = s; start = t; keys = keys; stage = stage }) (inl (record { node = n; instance_of = i; progress_of = p; at = at; held = held; stage_is = is }))

begun_held : (w : State) (n s t : ℕ) (keys : List ℕ) (p : Progress) (i : InstanceEntry) (h : List Item) → IsolationInvariant w h → InstanceAt w.nodes n i → HeldBy i s (Commit s t keys) p → Begun h s t
begun_held w n s t keys progress.Asked i h holds at held = begun_pending w n s t keys progress.Asked i h Waits holds at held refl
begun_held w n s t keys progress.Accepted i h holds at held = begun_pending w n s t keys progress.Accepted i h (Taken i.last) holds at held refl
begun_held w n s t keys (progress.Drawn c) i h holds at held = begun_pending w n s t keys (progress.Drawn c) i h (Has c) holds at held refl
begun_held w n s t keys (progress.Handed c) i h holds at held = begun_pending w n s t keys (progress.Handed c) i h (Has c) holds at held refl
begun_held w n s t keys (progress.Settled c by) i h holds at held = holds.requests.settled.begun n s t c keys by i at held

-- ---- the outcomes
-- no request is new, and nothing is written
held_stay : (old new : List (Option InstanceEntry)) (h g : List Item) → FewerHeld old new → ((t : ℕ) → written_keys g t ≡ written_keys h t) → HoldWrittenKeys old h → HoldWrittenKeys new g
held_stay old new h g fewer same held = record {
  keys = λ n s asker t keys p j at has.
      let was = fewer.each n s j (Commit asker t keys) p at has in
      held.keys n s asker t keys was.1 was.0 was.2 was.3 ∙ sym (same t);
}

held_asked_begin : (w : State) (h : List Item) (k : AskedBegin w) → IsolationInvariant w h → HoldWrittenKeys w.nodes h → HoldWrittenKeys (asked_begin_state w k).nodes (h ++ asked_begin_items w k)
held_asked_begin w h k holds held = record {
  keys = λ n s asker t keys p j at has. elim ((new_held w.nodes k.session k.node k.i _ k.at).each n s j (Commit asker t keys) p at has) [
    | inl now ↦ absurd (not_begin now.2)
    | inr was ↦ held.keys n s asker t keys p was.0 was.1 was.2 ∙ sym ((alone w h (OfAskedBegin k) holds).items.writes refl t)
  ];
}
  where
    not_begin : {s asker t : ℕ} {keys : List ℕ} → Commit asker t keys ≡ Begin s → ⊥
    not_begin is = cc

commit_keys : (asker other t u : ℕ) (keys mine : List ℕ) → Commit asker t keys ≡ Commit other u mine → (t ≡ u) × (keys ≡ mine)
commit_keys asker other t u keys mine is = (cc, cc)

held_asked_commit : (w : State) (h : List Item) (k : AskedCommit w) → IsolationInvariant w h → HoldWrittenKeys w.nodes h → HoldWrittenKeys (asked_commit_state w k).nodes (h ++ k.items)
held_asked_commit w h k holds held =
    let same : (t : ℕ) → written_keys (h ++ k.items) t ≡ written_keys h t = (alone w h (OfAskedCommit k) holds).items.writes refl in record {
      keys = λ n s asker t keys p j at has. elim ((new_held w.nodes k.session k.node k.i _ k.at).each n s j (Commit asker t keys) p at has) [
        | inl now ↦
            let its = commit_keys asker k.session t k.start keys k.c.entry.keys now.2 in
            its.1 ∙ holds.requests.keys.written k.session k.start k.c k.client_at (inl k.is_open) k.start_is ∙ ap (written_keys h) (sym its.0) ∙ sym (same t)
        | inr was ↦ held.keys n s asker t keys p was.0 was.1 was.2 ∙ sym (same t)
      ];
    }

-- the session that writes has no request held, and no other session has its transaction
held_wrote : (w : State) (h : List Item) (k : WroteOne w) → IsolationInvariant w h → HoldWrittenKeys w.nodes h → HoldWrittenKeys w.nodes (h ++ wrote_items w k)
held_wrote w h k holds held = record {
  keys = λ n s asker t keys p i at has. elim (cases_eq k.start t) [
    | inl mine ↦
        let own : HeldBy i s (Commit s t keys) p = own_commit w n s asker t keys p i h holds at has in
        let writer : Begun h k.it.session k.start = open_begun w.clients h k.it.session k.start k.it.c holds.requests.have_begun k.it.client_at k.it.is_open k.start_is in
        let same : s ≡ k.it.session = begun_once h s k.it.session t holds.isolated.stamped (begun_held w n s t keys p i h holds at own) (subst (Begun h k.it.session) mine writer) in
        absurd (none_held w.nodes w.clients k.it.session k.it.c phase.Open holds.requests.requests k.it.client_at k.it.is_open open_waits n i (Commit s t keys) p at (subst (λ x. HeldBy i x (Commit s t keys) p) same own))
    | inr other ↦ held.keys n s asker t keys p i at has ∙ sym (written_keys-other h k.it.session k.start t k.key k.value other)
  ];
}

held_kept : (w : State) (h : List Item) (o : Outcome w) → IsolationInvariant w h → HoldWrittenKeys w.nodes h → HoldWrittenKeys (left_by w o).nodes (h ++ told_by_outcome w o)
held_kept w h (OfAskedBegin k) holds held = held_asked_begin w h k holds held
held_kept w h (OfAskedCommit k) holds held = held_asked_commit w h k holds held
held_kept w h (OfWrote k) holds held = held_wrote w h k holds held
held_kept w h o holds held = held_stay w.nodes (left_by w o).nodes h (h ++ told_by_outcome w o) ((alone w h o holds).nodes.held refl) ((alone w h o holds).items.writes refl) held

-- ---- one event, and the opening
pub held_stays : (w : State) (h : List Item) (e : Event) (fate : Fate) → ReachedInvariant w h → HoldWrittenKeys w.nodes h → HoldWrittenKeys (stepped w e fate).state.nodes (h ++ (stepped w e fate).items)
held_stays w h e fate both held = each_outcome (λ v items. HoldWrittenKeys v.nodes (h ++ items)) w h e fate both (λ o. held_kept w h o both.holds held)

-- at first no node holds anything
pub held_at_first : (setup : SetupNumbers) → HoldWrittenKeys (opening setup).nodes []
held_at_first setup = record { keys = λ n s asker t keys p i at has. absurd (none_at setup.nodes n i at) }
