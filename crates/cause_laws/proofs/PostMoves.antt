-- What each node transition does to posts: the items that it tells of them, and which instances stand afterwards.
use Rattle.cause_laws.proofs.Names.{◌≡◌, ◌≢◌, ℕ, ◌+◌, Bool, true, false, List, [], ◌∷◌, ◌++◌, Option, Some, None, inl}
use Rattle.cause_laws.proofs.Names.{inr, refl, sym, ◌∙◌, ap, subst, slice_get, slice_set, same_Some, none-some, All-nil}
use Rattle.cause_laws.proofs.Names.{All-cons, All-append, All-weaker, granted, Item, Held, Request, Begin, Commit}
use Rattle.cause_laws.proofs.Names.{Settled, InstanceEntry, decide_drawn, instance_widened, instance_renewed}
use Rattle.cause_laws.proofs.Names.{instance_stopped, State, rules_of, instance_of, draw_item, InstanceAt}
use Rattle.cause_laws.proofs.Names.{instance_changed, instance_ended, takes_for, crashes_for}
use Rattle.std.proofs.Common.{All, ne_eqb}
use Rattle.history_book.specs.declared.item.Item.TheVariants as item
use Rattle.system_parts.specs.declared.instance.Settled.TheVariants as how
use Rattle.cause_laws.proofs.NodeTransitions.{NodeTransition, OfRested, OfTook, OfRenewed, OfWidened, OfStopped, OfCrashed, OfAsked, OfAccepted, OfDrew, OfSettled, OfTold, OfEnded, OfLearned, Granted, Renewed, Widened, Stopped, Crashed, Drew, SettledOne, Learned, granted_nodes, took_items, fault_if, fault_of, renewed_to, widened_to, IsLossOf, EndsFor, ask_item, now_at, nodes_by, items_by}
use Rattle.cause_laws.proofs.PostWords.{NoTakes, NoCrashes}
use Rattle.cause_laws.proofs.PostItems.{is_calm, AllCalm, calm_no_takes, calm_no_crashes, calm_one, silent_calm, crash_no_takes, crash_no_crashes}

-- ---- the items of node transitions that are neither takes nor crashes
ask_calm : (node : ℕ) (request : Request) → is_calm (ask_item node request) ≡ true
ask_calm node (Begin session) = refl
ask_calm node (Commit session start keys) = refl

draw_calm : (node term : ℕ) (request : Request) (stamp : ℕ) → is_calm (draw_item node term request stamp) ≡ true
draw_calm node term (Begin session) stamp = refl
draw_calm node term (Commit session start keys) stamp = refl

last_calm : (s : ℕ) (x : Item) → EndsFor s x → is_calm x ≡ true
last_calm s (item.Take node reading term epoch until ceiling) ends = absurd ends
last_calm s (item.Crash node term) ends = absurd ends
last_calm s _ ends = refl

loss_is_calm : (i : InstanceEntry) (x : Item) → IsLossOf i x → is_calm x ≡ true
loss_is_calm i (item.Take node reading term epoch until ceiling) loss = absurd loss
loss_is_calm i (item.Crash node term) loss = absurd loss
loss_is_calm i _ loss = refl

pub losses_calm : (i : InstanceEntry) (told : List Item) → All (IsLossOf i) told → AllCalm told
losses_calm i told losses = All-weaker (IsLossOf i) (λ (x : Item). is_calm x ≡ true) (loss_is_calm i) told losses

fault_calm : (by : Settled) (node : ℕ) → AllCalm (fault_of by node)
fault_calm how.Placed node = All-nil (λ (x : Item). is_calm x ≡ true)
fault_calm how.Invalid node = All-nil (λ (x : Item). is_calm x ≡ true)
fault_calm how.Faulted node = calm_one (item.Fault _ _) refl

settled_calm : (w : State) (k : SettledOne w) → AllCalm (k.effects ++ fault_of k.by k.it.node)
settled_calm w k = All-append (λ (x : Item). is_calm x ≡ true) k.effects (fault_of k.by k.it.node) (silent_calm k.effects k.silent) (fault_calm k.by k.it.node)

learned_calm : (w : State) (k : Learned w) → AllCalm (k.steps ++ k.last ∷ [])
learned_calm w k = All-append (λ (x : Item). is_calm x ≡ true) k.steps (k.last ∷ []) (silent_calm k.steps k.silent) (calm_one k.last (last_calm k.session k.last k.ends))

-- the node transition is neither a take nor a crash
abbrev pub is_calm_deed : {w : State} → NodeTransition w → Bool
is_calm_deed (OfTook k) = false
is_calm_deed (OfCrashed k) = false
is_calm_deed _ = true

pub calm_by : (w : State) (d : NodeTransition w) → is_calm_deed d ≡ true → AllCalm (items_by w d)
calm_by w (OfRested k) calm = silent_calm k.items k.silent
calm_by w (OfTook k) calm = absurd (cc)
calm_by w (OfCrashed k) calm = absurd (cc)
calm_by w (OfAsked k) calm = calm_one _ (ask_calm k.node k.request)
calm_by w (OfDrew k) calm = calm_one _ (draw_calm k.it.node k.it.i.term k.it.held.request (k.it.i.last + 1))
calm_by w (OfSettled k) calm = settled_calm w k
calm_by w (OfTold k) calm = silent_calm k.items k.silent
calm_by w (OfEnded k) calm = calm_one k.last (last_calm k.it.session k.last k.ends)
calm_by w (OfLearned k) calm = learned_calm w k
calm_by w _ calm = calm_one _ refl

-- ---- the items of a take, at other nodes
faults_calm : (failed : Bool) (node : ℕ) → AllCalm (fault_if failed node)
faults_calm true node = calm_one _ refl
faults_calm false node = All-nil (λ (x : Item). is_calm x ≡ true)

pub take_no_takes : (w : State) (k : Granted w) (m : ℕ) → m ≢ k.node → NoTakes m (took_items w k)
take_no_takes w k m other = All-cons (λ (x : Item). takes_for m x ≡ false) _ (fault_if k.failed k.node) (ne_eqb k.node m (λ same. other (sym same))) (calm_no_takes m (fault_if k.failed k.node) (faults_calm k.failed k.node))

pub take_no_crashes : (w : State) (k : Granted w) (m : ℕ) → NoCrashes m (took_items w k)
take_no_crashes w k m = All-cons (λ (x : Item). crashes_for m x ≡ false) _ (fault_if k.failed k.node) refl (calm_no_crashes m (fault_if k.failed k.node) (faults_calm k.failed k.node))

-- ---- the instances that stand after a node transition
-- how what holds of an instance is kept: where the items tell nothing of its node, where its requests change, and at the
-- instances that a node transition moves or makes
pub record KeptBy (w : State) (P : List Item → ℕ → InstanceEntry → Type 0) : Type 0 where
  pub told : (items : List Item) (m : ℕ) (i : InstanceEntry) → InstanceAt w.nodes m i → NoTakes m items → NoCrashes m items → P items m i
  pub requests : (items : List Item) (m : ℕ) (i : InstanceEntry) (now : List (Option Held)) → P items m i → P items m (record i { requests = now })
  pub took : (k : Granted w) → k.failed ≡ false → P (took_items w k) k.node (instance_of w.setup k.node (granted (rules_of w.setup) w.master k.reading))
  pub renewed : (k : Renewed w) → P (items_by w (OfRenewed k)) k.node k.i → P (items_by w (OfRenewed k)) k.node (instance_renewed k.i (renewed_to w k))
  pub widened : (k : Widened w) → P (items_by w (OfWidened k)) k.node k.i → P (items_by w (OfWidened k)) k.node (instance_widened k.i (widened_to w))
  pub stopped : (k : Stopped w) → P (items_by w (OfStopped k)) k.node k.i → P (items_by w (OfStopped k)) k.node (instance_stopped k.i k.why)
  pub drew : (k : Drew w) → P (items_by w (OfDrew k)) k.it.node k.it.i → P (items_by w (OfDrew k)) k.it.node (decide_drawn k.it.i k.it.session k.it.held (k.it.i.last + 1)).left

module _ (w : State) (P : List Item → ℕ → InstanceEntry → Type 0) (kept : KeptBy w P) where
  calmly : (items : List Item) (m : ℕ) (i : InstanceEntry) → AllCalm items → InstanceAt w.nodes m i → P items m i
  calmly items m i calm at = kept.told items m i at (calm_no_takes m items calm) (calm_no_crashes m items calm)

  -- one instance was put in the place of another
  put : (items : List Item) (node : ℕ) (i now : InstanceEntry) → AllCalm items → InstanceAt w.nodes node i → (P items node i → P items node now) → (m : ℕ) (j : InstanceEntry) → InstanceAt (now_at w node now) m j → P items m j
  put items node i now calm at keeps m j there = elim (instance_changed w.nodes node m now j there) [
    | inl here ↦ subst (λ n. P items n j) (sym here.0) (subst (λ x. P items node x) (sym here.1) (keeps (calmly items node i calm at)))
    | inr old ↦ calmly items m j calm old.1
  ]

  other_node : (k : Granted w) (m : ℕ) (j : InstanceEntry) → InstanceAt w.nodes m j → m ≢ k.node
  other_node k m j at same = none-some j (same_Some None (Some j) (sym k.vacant ∙ (ap (slice_get w.nodes) (sym same) ∙ at)))

  past_take : (k : Granted w) (m : ℕ) (j : InstanceEntry) → m ≢ k.node → InstanceAt w.nodes m j → P (took_items w k) m j
  past_take k m j other at = kept.told (took_items w k) m j at (take_no_takes w k m other) (take_no_crashes w k m)

  taking : (k : Granted w) (failed : Bool) → k.failed ≡ failed → (m : ℕ) (j : InstanceEntry) → InstanceAt (granted_nodes w k failed) m j → P (took_items w k) m j
  taking k true is m j at = past_take k m j (other_node k m j at) at
  taking k false is m j at = elim (instance_changed w.nodes k.node m _ j at) [
    | inl here ↦ subst (λ n. P (took_items w k) n j) (sym here.0) (subst (λ x. P (took_items w k) k.node x) (sym here.1) (kept.took k is))
    | inr old ↦ past_take k m j old.0 old.1
  ]

  crashing : (k : Crashed w) (m : ℕ) (j : InstanceEntry) → InstanceAt (slice_set w.nodes k.node None) m j → P (item.Crash k.node k.i.term ∷ k.told) m j
  crashing k m j at =
      let old = instance_ended w.nodes k.node m j at in
      let calm : AllCalm k.told = losses_calm k.i k.told k.losses in
      kept.told (item.Crash k.node k.i.term ∷ k.told) m j old.1 (crash_no_takes m k.node k.i.term k.told calm) (crash_no_crashes m k.node k.i.term k.told old.0 calm)

  pub each_by : (d : NodeTransition w) (m : ℕ) (j : InstanceEntry) → InstanceAt (nodes_by w d) m j → P (items_by w d) m j
  each_by (OfRested k) m j at = calmly k.items m j (calm_by w (OfRested k) refl) at
  each_by (OfTook k) m j at = taking k k.failed refl m j at
  each_by (OfRenewed k) m j at = put _ k.node k.i _ (calm_by w (OfRenewed k) refl) k.at (kept.renewed k) m j at
  each_by (OfWidened k) m j at = put _ k.node k.i _ (calm_by w (OfWidened k) refl) k.at (kept.widened k) m j at
  each_by (OfStopped k) m j at = put _ k.node k.i _ (calm_by w (OfStopped k) refl) k.at (kept.stopped k) m j at
  each_by (OfCrashed k) m j at = crashing k m j at
  each_by (OfAsked k) m j at = put _ k.node k.i _ (calm_by w (OfAsked k) refl) k.at (kept.requests _ k.node k.i _) m j at
  each_by (OfAccepted k) m j at = put _ k.it.node k.it.i _ (calm_by w (OfAccepted k) refl) k.it.at (kept.requests _ k.it.node k.it.i _) m j at
  each_by (OfDrew k) m j at = put _ k.it.node k.it.i _ (calm_by w (OfDrew k) refl) k.it.at (kept.drew k) m j at
  each_by (OfSettled k) m j at = put _ k.it.node k.it.i _ (calm_by w (OfSettled k) refl) k.it.at (kept.requests _ k.it.node k.it.i _) m j at
  each_by (OfTold k) m j at = put _ k.it.node k.it.i _ (calm_by w (OfTold k) refl) k.it.at (kept.requests _ k.it.node k.it.i _) m j at
  each_by (OfEnded k) m j at = put _ k.it.node k.it.i _ (calm_by w (OfEnded k) refl) k.it.at (kept.requests _ k.it.node k.it.i _) m j at
  each_by (OfLearned k) m j at = calmly _ m j (calm_by w (OfLearned k) refl) at
