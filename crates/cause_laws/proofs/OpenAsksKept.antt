-- Each node transition keeps that a session's asks at a node are open exactly where the node holds its request.
use Rattle.cause_laws.proofs.Names.{◌≡◌, ◌≢◌, ℕ, ◌+◌, suc, ◌<◌, Bool, true, false, ◌&&◌, List, [], ◌∷◌, ◌++◌, length}
use Rattle.cause_laws.proofs.Names.{Option, None, Some, inl, inr, refl, sym, ◌∙◌, ap, subst, slice_get, slice_set, All}
use Rattle.cause_laws.proofs.Names.{fold, ne_eqb, length-replicate, All-nil, All-cons, All-append, All-weaker}
use Rattle.cause_laws.proofs.Names.{slice_get_within, Node, Session, Item, granted, Held, Progress, Request, Settled}
use Rattle.cause_laws.proofs.Names.{InstanceEntry, with_request, session_of, without_request, just_asked, drawn_as}
use Rattle.cause_laws.proofs.Names.{decide_drawn, instance_widened, instance_renewed, instance_stopped}
use Rattle.cause_laws.proofs.Names.{held_of-instance_new, State, rules_of, instance_of, take_item, draw_item}
use Rattle.cause_laws.proofs.Names.{ends_request, asks_at, open_then, InstanceAt, HeldBy, ReachedInvariant, held_by}
use Rattle.cause_laws.proofs.Names.{held_count, AreOpenAsks, ShownInvariant}
use Rattle.history_book.specs.declared.item.Item.TheVariants as item
use Rattle.system_parts.specs.declared.instance.Progress.TheVariants as progress
use Rattle.system_parts.specs.declared.instance.Settled.TheVariants as how
use Rattle.cause_laws.proofs.NodeTransitions.{Granted, Crashed, Asked, Serving, Ended, Learned, NodeTransition, OfRested, OfTook, OfRenewed, OfWidened, OfStopped, OfCrashed, OfAsked, OfAccepted, OfDrew, OfSettled, OfTold, OfEnded, OfLearned, IsLossOf, granted_nodes, took_items, fault_if, fault_of, renewed_to, widened_to, ask_item, nodes_by, items_by}
use Rattle.cause_laws.proofs.OpenWords.{Keeps, open_kept, Calm, calm_keeps, all_calm_keep, none_keeps, closed, all_silent_calm, draw_calm, ask_of_other, ask_elsewhere, ask_opens, crash_elsewhere, crash_closes, ends_no_ask, ends_closes, ends_of_other}
use Rattle.cause_laws.proofs.HeldCounts.{same_or_other, count_of, held_within, count_other, count_now, count_same, no_count, AllCame, came_all, calm_stays, came_at, came_calm, AllShaped, shaped_put, shaped_ended, shape_request, shaped_of, open_asks_by}
use Rattle.cause_laws.proofs.RequestsWere.{serving_alone, learned_unheld}

one_calm : (n s : ℕ) (x : Item) → Calm n s x → All (Calm n s) (x ∷ [])
one_calm n s x calm = All-cons (Calm n s) x [] calm (All-nil (Calm n s))

-- what is told to a session that has no request there leaves the counts there
unheld_keeps : (nodes : List (Option InstanceEntry)) (m s r : ℕ) (post : Option InstanceEntry) (x : Item) → slice_get nodes m ≡ Some post → asks_at m s x ≡ false → (s ≢ r → Calm m s x) → ((j : InstanceEntry) (request : Request) (p : Progress) → InstanceAt nodes m j → HeldBy j r request p → ⊥) → Keeps m s (held_count post s) x
unheld_keeps nodes m s r post x at none others unheld = elim (same_or_other s r) [
  | inl same ↦
      let zero : held_count post s ≡ 0 = no_count nodes m s post at (λ j request p there holds. unheld j request p there (subst (λ (k : ℕ). HeldBy j k request p) same holds)) in
      subst (λ (count : ℕ). Keeps m s count x) (sym zero) (none_keeps m s x none)
  | inr other ↦ calm_keeps m s (held_count post s) x (others other)
]

-- ---- a take
fault_if_calm : (m s node : ℕ) (failed : Bool) → All (Calm m s) (fault_if failed node)
fault_if_calm m s node true = one_calm m s _ (record { asks = refl; closes_none = refl })
fault_if_calm m s node false = All-nil (Calm m s)

took_calm : (w : State) (k : Granted w) (m s : ℕ) → All (Calm m s) (took_items w k)
took_calm w k m s = All-cons (Calm m s) (take_item k.node k.reading (granted (rules_of w.setup) w.master k.reading)) (fault_if k.failed k.node) (record { asks = refl; closes_none = refl }) (fault_if_calm m s k.node k.failed)

came_took : (w : State) (k : Granted w) (failed : Bool) → AllCame w.nodes (took_items w k) (granted_nodes w k failed)
came_took w k true m s now at = came_all w.nodes (took_items w k) (λ m. calm_stays w.nodes (took_items w k) m (took_calm w k m)) m s now at
came_took w k false m s now at =
    came_calm w.nodes (took_items w k) k.node None (Some (instance_of w.setup k.node (granted (rules_of w.setup) w.master k.reading))) k.vacant (took_calm w k)
    (λ r. ap count_of (held_of-instance_new (granted (rules_of w.setup) w.master k.reading) k.node w.setup.buckets w.setup.width w.setup.slots r w.setup.direct)) m s now at

no_requests : Option Held
no_requests = None

shaped_took : (w : State) (k : Granted w) (failed : Bool) → AllShaped w.setup w.nodes → AllShaped w.setup (granted_nodes w k failed)
shaped_took w k true all m j at = all m j at
shaped_took w k false all m j at = shaped_put w.setup w.nodes k.node (instance_of w.setup k.node (granted (rules_of w.setup) w.master k.reading)) all (refl, length-replicate 16 no_requests) m j at

-- ---- a crash
loss_no_ask : (n s : ℕ) (i : InstanceEntry) (x : Item) → IsLossOf i x → asks_at n s x ≡ false
loss_no_ask n s i (item.Refused actor why) loss = refl
loss_no_ask n s i _ loss = absurd loss

loss_keeps : (w : State) (h : List Item) (k : Crashed w) (m s : ℕ) (post : Option InstanceEntry) → ReachedInvariant w h → m ≢ k.node → slice_get w.nodes m ≡ Some post → (x : Item) → IsLossOf k.i x → Keeps m s (held_count post s) x
loss_keeps w h k m s post stands other at (item.Refused (Session r) why) loss =
    unheld_keeps w.nodes m s r post (item.Refused (Session r) why) at refl
    (λ differ. record { asks = refl; closes_none = ap (λ b. b && ends_request why) (ne_eqb r s (λ same. differ (sym same))) })
    (λ j request p there holds. other (stands.holds.requests.requests.one m k.node r j k.i request loss.0.request p loss.0.progress there k.at holds (held_by k.i r loss.0 loss.1)))
loss_keeps w h k m s post stands other at _ loss = absurd loss

came_crashed : (w : State) (h : List Item) (k : Crashed w) → ReachedInvariant w h → AllCame w.nodes (item.Crash k.node k.i.term ∷ k.told) (slice_set w.nodes k.node None)
came_crashed w h k stands =
    let crash : Item = item.Crash k.node k.i.term in
    came_at w.nodes (crash ∷ k.told) k.node (Some k.i) None k.at
    (λ s. ap (λ count. fold (open_then k.node s) count k.told) (crash_closes k.node s (held_count (Some k.i) s) k.i.term)
    ∙ open_kept k.node s 0 k.told (All-weaker (IsLossOf k.i) (Keeps k.node s 0) (λ x loss. none_keeps k.node s x (loss_no_ask k.node s k.i x loss)) k.told k.losses))
    (λ m other s post at. ap (λ count. fold (open_then m s) count k.told) (calm_keeps m s (held_count post s) crash (crash_elsewhere m s k.node k.i.term (λ same. other (sym same))))
    ∙ open_kept m s (held_count post s) k.told (All-weaker (IsLossOf k.i) (Keeps m s (held_count post s)) (loss_keeps w h k m s post stands other at) k.told k.losses))

-- ---- an ask
came_asked : (w : State) (k : Asked w) → session_of k.request < length k.i.requests → AllCame w.nodes (ask_item k.node k.request ∷ []) (nodes_by w (OfAsked k))
came_asked w k within =
    let r : ℕ = session_of k.request in
    let x : Item = ask_item k.node k.request in
    let held : Option Held = Some (just_asked k.request) in
    came_at w.nodes (x ∷ []) k.node (Some k.i) (Some (with_request k.i r held)) k.at
    (λ s. elim (same_or_other s r) [
      | inl same ↦ subst (λ (y : ℕ). open_then k.node y (held_count (Some k.i) y) x ≡ held_count (Some (with_request k.i r held)) y) (sym same)
          (ask_opens k.node (held_count (Some k.i) r) k.request ∙ (ap (λ o. suc (count_of o)) k.none ∙ sym (count_now k.i r held within)))
      | inr other ↦ calm_keeps k.node s (held_count (Some k.i) s) x (ask_of_other k.node s k.node k.request (λ same. other (sym same))) ∙ sym (count_other k.i r s held other)
    ])
    (λ m other. calm_stays w.nodes (x ∷ []) m (λ s. one_calm m s x (ask_elsewhere m s k.node k.request (λ same. other (sym same)))))

-- ---- a put that has ended
fault_of_calm : (m s node : ℕ) (by : Settled) → All (Calm m s) (fault_of by node)
fault_of_calm m s node how.Placed = All-nil (Calm m s)
fault_of_calm m s node how.Invalid = All-nil (Calm m s)
fault_of_calm m s node how.Faulted = one_calm m s _ (record { asks = refl; closes_none = refl })

-- ---- a request that is over, and an outcome that was learned
came_ended : (w : State) (h : List Item) (k : Ended w) → ReachedInvariant w h → AllCame w.nodes (k.last ∷ []) (nodes_by w (OfEnded k))
came_ended w h k stands =
    let it : Serving w = k.it in
    came_at w.nodes (k.last ∷ []) it.node (Some it.i) (Some (without_request it.i it.session)) it.at
    (λ s. elim (same_or_other s it.session) [
      | inl same ↦ subst (λ (y : ℕ). open_then it.node y (held_count (Some it.i) y) k.last ≡ held_count (Some (without_request it.i it.session)) y) (sym same)
          (closed it.node it.session (held_count (Some it.i) it.session) k.last (ends_no_ask it.node it.session it.session k.last k.ends) (ends_closes it.node it.session k.last k.ends)
          ∙ sym (count_now it.i it.session None (held_within it.i it.session it.held it.has)))
      | inr other ↦ calm_keeps it.node s (held_count (Some it.i) s) k.last (ends_of_other it.node it.session s k.last k.ends other) ∙ sym (count_other it.i it.session s None other)
    ])
    (λ m other s post at. unheld_keeps w.nodes m s it.session post k.last at (ends_no_ask m it.session s k.last k.ends) (ends_of_other m it.session s k.last k.ends)
    (λ j request p there holds. other ((serving_alone w h it stands).one m j request p there holds)))

came_learned : (w : State) (h : List Item) (k : Learned w) → ReachedInvariant w h → AllCame w.nodes (k.steps ++ k.last ∷ []) w.nodes
came_learned w h k stands =
    let last : Item = k.last in
    came_all w.nodes (k.steps ++ last ∷ []) (λ m s post at.
    let keeps : Keeps m s (held_count post s) last =
    unheld_keeps w.nodes m s k.session post last at (ends_no_ask m k.session s last k.ends) (ends_of_other m k.session s last k.ends) (learned_unheld w h k stands m) in
    open_kept m s (held_count post s) (k.steps ++ last ∷ [])
    (All-append (Keeps m s (held_count post s)) k.steps (last ∷ []) (all_calm_keep m s (held_count post s) k.steps (all_silent_calm m s k.steps k.silent))
    (All-cons (Keeps m s (held_count post s)) last [] keeps (All-nil (Keeps m s (held_count post s))))))

shaped_request_put : (w : State) (n : ℕ) (i : InstanceEntry) (r : ℕ) (now : Option Held) → InstanceAt w.nodes n i → AllShaped w.setup w.nodes → AllShaped w.setup (slice_set w.nodes n (Some (with_request i r now)))
shaped_request_put w n i r now at all = shaped_put w.setup w.nodes n (with_request i r now) all (shape_request w.setup i r now (all n i at))

-- ---- every node transition
came_by : (w : State) (h : List Item) (d : NodeTransition w) → ReachedInvariant w h → length w.clients ≡ 16 → AllShaped w.setup w.nodes → AllCame w.nodes (items_by w d) (nodes_by w d)
came_by w h (OfRested k) stands sixteen shaped = came_all w.nodes k.items (λ m. calm_stays w.nodes k.items m (λ s. all_silent_calm m s k.items k.silent))
came_by w h (OfTook k) stands sixteen shaped = came_took w k k.failed
came_by w h (OfRenewed k) stands sixteen shaped =
    came_calm w.nodes (item.Renew k.node k.reading k.i.term (renewed_to w k) ∷ []) k.node (Some k.i) (Some (instance_renewed k.i (renewed_to w k))) k.at (λ m s. one_calm m s _ (record { asks = refl; closes_none = refl })) (λ s. refl)
came_by w h (OfWidened k) stands sixteen shaped =
    came_calm w.nodes (item.Extend k.node k.i.term (widened_to w) ∷ []) k.node (Some k.i) (Some (instance_widened k.i (widened_to w))) k.at (λ m s. one_calm m s _ (record { asks = refl; closes_none = refl })) (λ s. refl)
came_by w h (OfStopped k) stands sixteen shaped =
    came_calm w.nodes (item.Refused (Node k.node) k.why ∷ []) k.node (Some k.i) (Some (instance_stopped k.i k.why)) k.at (λ m s. one_calm m s _ (record { asks = refl; closes_none = refl })) (λ s. refl)
came_by w h (OfCrashed k) stands sixteen shaped = came_crashed w h k stands
came_by w h (OfAsked k) stands sixteen shaped =
    let within : session_of k.request < length w.clients = slice_get_within w.clients (session_of k.request) k.c k.client_at in
    came_asked w k (subst (λ (count : ℕ). session_of k.request < count) (sixteen ∙ sym (shaped k.node k.i k.at).1) within)
came_by w h (OfAccepted k) stands sixteen shaped =
    came_calm w.nodes (item.Accept k.it.session k.it.node k.it.i.term k.reading ∷ []) k.it.node (Some k.it.i) _ k.it.at (λ m s. one_calm m s _ (record { asks = refl; closes_none = refl })) (count_same k.it.i k.it.session k.it.held (record k.it.held { progress = progress.Accepted }) k.it.has)
came_by w h (OfDrew k) stands sixteen shaped =
    let stamp : ℕ = k.it.i.last + 1 in
    came_calm w.nodes (draw_item k.it.node k.it.i.term k.it.held.request stamp ∷ []) k.it.node (Some k.it.i) (Some (decide_drawn k.it.i k.it.session k.it.held stamp).left) k.it.at
    (λ m s. one_calm m s (draw_item k.it.node k.it.i.term k.it.held.request stamp) (draw_calm m s k.it.node k.it.i.term stamp k.it.held.request)) (count_same k.it.i k.it.session k.it.held (record k.it.held { progress = drawn_as k.it.i.direct k.it.held.request stamp }) k.it.has)
came_by w h (OfSettled k) stands sixteen shaped =
    came_calm w.nodes (k.effects ++ fault_of k.by k.it.node) k.it.node (Some k.it.i) _ k.it.at
    (λ m s. All-append (Calm m s) k.effects (fault_of k.by k.it.node) (all_silent_calm m s k.effects k.silent) (fault_of_calm m s k.it.node k.by)) (count_same k.it.i k.it.session k.it.held (record k.it.held { progress = progress.Settled k.commit k.by }) k.it.has)
came_by w h (OfTold k) stands sixteen shaped =
    came_calm w.nodes k.items k.it.node (Some k.it.i) (Some (with_request k.it.i k.it.session (Some k.told))) k.it.at (λ m s. all_silent_calm m s k.items k.silent) (count_same k.it.i k.it.session k.it.held k.told k.it.has)
came_by w h (OfEnded k) stands sixteen shaped = came_ended w h k stands
came_by w h (OfLearned k) stands sixteen shaped = came_learned w h k stands

shaped_by : (w : State) (d : NodeTransition w) → AllShaped w.setup w.nodes → AllShaped w.setup (nodes_by w d)
shaped_by w (OfRested k) all = all
shaped_by w (OfTook k) all = shaped_took w k k.failed all
shaped_by w (OfRenewed k) all = shaped_put w.setup w.nodes k.node (instance_renewed k.i (renewed_to w k)) all (all k.node k.i k.at)
shaped_by w (OfWidened k) all = shaped_put w.setup w.nodes k.node (instance_widened k.i (widened_to w)) all (all k.node k.i k.at)
shaped_by w (OfStopped k) all = shaped_put w.setup w.nodes k.node (instance_stopped k.i k.why) all (all k.node k.i k.at)
shaped_by w (OfCrashed k) all = shaped_ended w.setup w.nodes k.node all
shaped_by w (OfAsked k) all = shaped_request_put w k.node k.i (session_of k.request) (Some (just_asked k.request)) k.at all
shaped_by w (OfAccepted k) all = shaped_request_put w k.it.node k.it.i k.it.session (Some (record k.it.held { progress = progress.Accepted })) k.it.at all
shaped_by w (OfDrew k) all =
    let stamp : ℕ = k.it.i.last + 1 in
    shaped_put w.setup w.nodes k.it.node (decide_drawn k.it.i k.it.session k.it.held stamp).left all (shape_request w.setup k.it.i k.it.session (Some (record k.it.held { progress = drawn_as k.it.i.direct k.it.held.request stamp })) (all k.it.node k.it.i k.it.at))
shaped_by w (OfSettled k) all = shaped_request_put w k.it.node k.it.i k.it.session (Some (record k.it.held { progress = progress.Settled k.commit k.by })) k.it.at all
shaped_by w (OfTold k) all = shaped_request_put w k.it.node k.it.i k.it.session (Some k.told) k.it.at all
shaped_by w (OfEnded k) all = shaped_request_put w k.it.node k.it.i k.it.session None k.it.at all
shaped_by w (OfLearned k) all = all

-- a session that asks is one of the 16, so that its request has a place
pub open_asks_kept : (w : State) (h : List Item) (d : NodeTransition w) → ReachedInvariant w h → ShownInvariant w h → length w.clients ≡ 16 → AreOpenAsks w.setup (nodes_by w d) (h ++ items_by w d)
open_asks_kept w h d stands shows sixteen =
    let shaped : AllShaped w.setup w.nodes = shaped_of w.setup w.nodes h shows.open_asks in
    open_asks_by w.setup w.nodes (nodes_by w d) h (items_by w d) shows.open_asks (came_by w h d stands sixteen shaped) (shaped_by w d shaped)
