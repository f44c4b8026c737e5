-- Each node transition keeps what the history tells of the requests that are held.
use Rattle.cause_laws.proofs.Names.{◌≡◌, ◌≢◌, ℕ, ◌+◌, Bool, true, false, List, [], ◌∷◌, ◌++◌, Option, None, Some, inl}
use Rattle.cause_laws.proofs.Names.{inr, refl, sym, ◌∙◌, subst, slice_set, Node, Item, granted, Held, Progress, Request}
use Rattle.cause_laws.proofs.Names.{Commit, InstanceEntry, with_request, session_of, without_request, moved, just_asked}
use Rattle.cause_laws.proofs.Names.{drawn_as, decide_drawn, instance_widened, instance_renewed, instance_stopped, State}
use Rattle.cause_laws.proofs.Names.{rules_of, instance_of, draw_item, InstanceAt, HeldBy, ReachedInvariant}
use Rattle.cause_laws.proofs.Names.{instance_changed, held_by, heldby_ended, heldby_changed, AreAsked, AreFaulted}
use Rattle.cause_laws.proofs.Names.{ArePutByNodes, ShownInvariant}
use Rattle.history_book.specs.declared.item.Item.TheVariants as item
use Rattle.system_parts.specs.declared.instance.Progress.TheVariants as progress
use Rattle.isolation_laws.proofs.Requests.PendingAfter.{new_holds_none, same_requests}
use Rattle.cause_laws.proofs.NodeTransitions.{Granted, Told as ToldToWait, Asked, Serving, Accepted, Drew, SettledOne, NodeTransition, OfRested, OfTook, OfRenewed, OfWidened, OfStopped, OfCrashed, OfAsked, OfAccepted, OfDrew, OfSettled, OfTold, OfEnded, OfLearned, granted_nodes, took_items, renewed_to, widened_to, ask_item, fault_of, nodes_by, items_by, now_at}
use Rattle.cause_laws.proofs.AskWords.{AllMute, silent_mute, other_ask, other_accept, other_draw}
use Rattle.cause_laws.proofs.NodeTransitionsMute.{one_mute, always_mute, took_mute, crashed_mute, settled_mute, ended_mute, learned_mute}
use Rattle.cause_laws.proofs.RequestsTold.{Told, AllTold, all_told, asked_by_told, faulted_by_told, put_by_told, told_mute, told_ask, told_accept, told_draw, told_settled}
use Rattle.cause_laws.proofs.RequestsWere.{AllWere, were_same, were_put, were_ended, was_told, Alone, serving_alone, serving_own, asked_unheld, unheld_alone, IsNow, now_or_was}

-- ---- node transitions that change no request, and tell nothing of any
kept : (direct : Bool) (nodes new : List (Option InstanceEntry)) (h items : List Item) → AllTold direct nodes h → AllWere nodes new → ((s : ℕ) → AllMute s items) → AllTold direct new (h ++ items)
kept direct nodes new h items all were mute n s i request p at holds =
    told_mute direct h items n s i.term request p (mute s) (was_told direct nodes h n s i.term request p all (were n s i request p at holds))

were_took : (w : State) (k : Granted w) (failed : Bool) → AllWere w.nodes (granted_nodes w k failed)
were_took w k true m s j request p there holds = were_same w.nodes m s j request p there holds
were_took w k false m s j request p there holds = elim (instance_changed w.nodes k.node m (instance_of w.setup k.node (granted (rules_of w.setup) w.master k.reading)) j there) [
  | inl here ↦ absurd (new_holds_none (granted (rules_of w.setup) w.master k.reading) k.node w.setup.buckets w.setup.width w.setup.slots w.setup.direct s request p (subst (λ (i : InstanceEntry). HeldBy i s request p) here.1 holds))
  | inr other ↦ record { i = j; at = other.1; term_is = refl; holds = holds }
]

-- a request that was told to wait is the same
told_same : (w : State) (k : ToldToWait w) (s : ℕ) (request : Request) (p : Progress) → HeldBy (with_request k.it.i k.it.session (Some k.told)) s request p → HeldBy k.it.i s request p
told_same w k s request p holds = elim (heldby_changed k.it.i k.it.session s k.told request p holds) [
  | inl now ↦ subst (λ (r : ℕ). HeldBy k.it.i r request p) (sym now.0)
      (record { held = k.it.held; has = k.it.has; asks = sym k.same_request ∙ now.1; stands = sym k.same_progress ∙ now.2 })
  | inr other ↦ other.1
]

-- ---- node transitions that change one request
told_now : (direct : Bool) (g : List Item) (n s term : ℕ) (now : Held) (m r other : ℕ) (request : Request) (p : Progress) → IsNow n s term now m r other request p → Told direct g n s term now.request now.progress → Told direct g m r other request p
told_now direct g n s term now m r other request p is told =
    subst (λ (x : ℕ). Told direct g x r other request p) (sym is.node)
    (subst (λ (x : ℕ). Told direct g n x other request p) (sym is.session)
    (subst (λ (x : ℕ). Told direct g n s x request p) (sym is.term_is)
    (subst (λ (x : Request). Told direct g n s term x p) is.asks
    (subst (λ (x : Progress). Told direct g n s term now.request x) is.stands told))))

changed : (direct : Bool) (nodes : List (Option InstanceEntry)) (h items : List Item) (n s : ℕ) (i new : InstanceEntry) (now : Held) → AllTold direct nodes h → Alone nodes n s → InstanceAt nodes n i → new.term ≡ i.term
    → ((r : ℕ) (request : Request) (p : Progress) → HeldBy new r request p → HeldBy (with_request i s (Some now)) r request p)
    → ((r : ℕ) → r ≢ s → AllMute r items) → Told direct (h ++ items) n s i.term now.request now.progress → AllTold direct (slice_set nodes n (Some new)) (h ++ items)
changed direct nodes h items n s i new now all alone at term fewer mute told m r j request p there holds = elim (now_or_was nodes n s i new now alone term fewer m r j request p there holds at) [
  | inl is ↦ told_now direct (h ++ items) n s i.term now m r j.term request p is told
  | inr other ↦ told_mute direct h items m r j.term request p (mute r other.0) (was_told direct nodes h m r j.term request p all other.1)
]

-- what was told of the request that is served
served_told : (w : State) (h : List Item) (k : Serving w) (p : Progress) → AllTold w.setup.direct w.nodes h → k.held.progress ≡ p → Told w.setup.direct h k.node k.session k.i.term k.held.request p
served_told w h k p all is =
    subst (λ (q : Progress). Told w.setup.direct h k.node k.session k.i.term k.held.request q) is (all k.node k.session k.i k.held.request k.held.progress k.at (held_by k.i k.session k.held k.has))

by_ask : (w : State) (h : List Item) (k : Asked w) → ReachedInvariant w h → AllTold w.setup.direct w.nodes h → AllTold w.setup.direct (nodes_by w (OfAsked k)) (h ++ ask_item k.node k.request ∷ [])
by_ask w h k stands all =
    let s : ℕ = session_of k.request in
    changed w.setup.direct w.nodes h (ask_item k.node k.request ∷ []) k.node s k.i (with_request k.i s (Some (just_asked k.request))) (just_asked k.request) all
    (unheld_alone w.nodes k.node s (asked_unheld w h k stands)) k.at refl (λ r request p holds. holds)
    (λ r other. one_mute r (ask_item k.node k.request) (other_ask r k.node k.request (λ same. other (sym same))))
    (told_ask w.setup.direct h k.node k.i.term k.request)

by_accept : (w : State) (h : List Item) (k : Accepted w) → ReachedInvariant w h → AllTold w.setup.direct w.nodes h → AllTold w.setup.direct (nodes_by w (OfAccepted k)) (h ++ item.Accept k.it.session k.it.node k.it.i.term k.reading ∷ [])
by_accept w h k stands all =
    let it : Serving w = k.it in
    changed w.setup.direct w.nodes h (item.Accept it.session it.node it.i.term k.reading ∷ []) it.node it.session it.i (moved it.i it.session it.held progress.Accepted) (record it.held { progress = progress.Accepted }) all
    (serving_alone w h it stands) it.at refl (λ r request p holds. holds)
    (λ r other. one_mute r (item.Accept it.session it.node it.i.term k.reading) (other_accept r it.session it.node it.i.term k.reading (λ same. other (sym same))))
    (told_accept w.setup.direct h it.node it.session it.i.term k.reading it.held.request (served_told w h it progress.Asked all k.asked))

by_draw : (w : State) (h : List Item) (k : Drew w) → ReachedInvariant w h → AllTold w.setup.direct w.nodes h → AllTold w.setup.direct (nodes_by w (OfDrew k)) (h ++ draw_item k.it.node k.it.i.term k.it.held.request (k.it.i.last + 1) ∷ [])
by_draw w h k stands all =
    let it : Serving w = k.it in
    let stamp : ℕ = it.i.last + 1 in
    let x : Item = draw_item it.node it.i.term it.held.request stamp in
    let own : session_of it.held.request ≡ it.session = serving_own w h it stands in
    let before : Told w.setup.direct h it.node (session_of it.held.request) it.i.term it.held.request progress.Accepted =
    subst (λ (r : ℕ). Told w.setup.direct h it.node r it.i.term it.held.request progress.Accepted) (sym own) (served_told w h it progress.Accepted all k.accepted) in
    changed w.setup.direct w.nodes h (x ∷ []) it.node it.session it.i (decide_drawn it.i it.session it.held stamp).left (record it.held { progress = drawn_as it.i.direct it.held.request stamp }) all
    (serving_alone w h it stands) it.at refl (λ r request p holds. record { held = holds.held; has = holds.has; asks = holds.asks; stands = holds.stands })
    (λ r other. one_mute r x (other_draw r it.node it.i.term it.held.request stamp (λ same. other (sym same ∙ own))))
    (subst (λ (r : ℕ). Told w.setup.direct (h ++ x ∷ []) it.node r it.i.term it.held.request (drawn_as it.i.direct it.held.request stamp)) own
    (told_draw w.setup.direct it.i.direct h it.node it.i.term stamp it.held.request (stands.holds.memory.form.direct it.node it.i it.at) before))

by_settle : (w : State) (h : List Item) (k : SettledOne w) → ReachedInvariant w h → ShownInvariant w h → AllTold w.setup.direct w.nodes h → AllTold w.setup.direct (nodes_by w (OfSettled k)) (h ++ (k.effects ++ fault_of k.by k.it.node))
by_settle w h k stands shows all =
    let it : Serving w = k.it in
    let items : List Item = k.effects ++ fault_of k.by it.node in
    let before : Told w.setup.direct h it.node it.session it.i.term (Commit k.asker k.start k.keys) (progress.Drawn k.commit) =
    subst (λ (q : Request). Told w.setup.direct h it.node it.session it.i.term q (progress.Drawn k.commit)) k.request_is (served_told w h it (progress.Drawn k.commit) all k.drawn) in
    changed w.setup.direct w.nodes h items it.node it.session it.i (moved it.i it.session it.held (progress.Settled k.commit k.by)) (record it.held { progress = progress.Settled k.commit k.by }) all
    (serving_alone w h it stands) it.at refl (λ r request p holds. holds) (λ r other. settled_mute w k r)
    (subst (λ (q : Request). Told w.setup.direct (h ++ items) it.node it.session it.i.term q (progress.Settled k.commit k.by)) (sym k.request_is)
    (told_settled w.setup.direct h k.effects it.node it.session it.i.term k.asker k.start k.commit k.keys k.by (settled_mute w k it.session) (λ is. shows.marked.marked k.start (k.found is)) before))

-- ---- every node transition
told_by : (w : State) (h : List Item) (d : NodeTransition w) → ReachedInvariant w h → ShownInvariant w h → AllTold w.setup.direct w.nodes h → AllTold w.setup.direct (nodes_by w d) (h ++ items_by w d)
told_by w h (OfRested k) stands shows all = kept w.setup.direct w.nodes w.nodes h k.items all (were_same w.nodes) (λ s. silent_mute s k.items k.silent)
told_by w h (OfTook k) stands shows all = kept w.setup.direct w.nodes (granted_nodes w k k.failed) h (took_items w k) all (were_took w k k.failed) (took_mute w k)
told_by w h (OfRenewed k) stands shows all =
    kept w.setup.direct w.nodes (now_at w k.node (instance_renewed k.i (renewed_to w k))) h (item.Renew k.node k.reading k.i.term (renewed_to w k) ∷ []) all
    (were_put w.nodes k.node k.i (instance_renewed k.i (renewed_to w k)) k.at refl (same_requests k.i (instance_renewed k.i (renewed_to w k)) refl)) (λ s. always_mute s (item.Renew k.node k.reading k.i.term (renewed_to w k)) refl)
told_by w h (OfWidened k) stands shows all =
    kept w.setup.direct w.nodes (now_at w k.node (instance_widened k.i (widened_to w))) h (item.Extend k.node k.i.term (widened_to w) ∷ []) all
    (were_put w.nodes k.node k.i (instance_widened k.i (widened_to w)) k.at refl (same_requests k.i (instance_widened k.i (widened_to w)) refl)) (λ s. always_mute s (item.Extend k.node k.i.term (widened_to w)) refl)
told_by w h (OfStopped k) stands shows all =
    kept w.setup.direct w.nodes (now_at w k.node (instance_stopped k.i k.why)) h (item.Refused (Node k.node) k.why ∷ []) all
    (were_put w.nodes k.node k.i (instance_stopped k.i k.why) k.at refl (same_requests k.i (instance_stopped k.i k.why) refl)) (λ s. always_mute s (item.Refused (Node k.node) k.why) refl)
told_by w h (OfCrashed k) stands shows all = kept w.setup.direct w.nodes (slice_set w.nodes k.node None) h (item.Crash k.node k.i.term ∷ k.told) all (were_ended w.nodes k.node) (crashed_mute w k)
told_by w h (OfAsked k) stands shows all = by_ask w h k stands all
told_by w h (OfAccepted k) stands shows all = by_accept w h k stands all
told_by w h (OfDrew k) stands shows all = by_draw w h k stands all
told_by w h (OfSettled k) stands shows all = by_settle w h k stands shows all
told_by w h (OfTold k) stands shows all =
    kept w.setup.direct w.nodes (now_at w k.it.node (with_request k.it.i k.it.session (Some k.told))) h k.items all
    (were_put w.nodes k.it.node k.it.i (with_request k.it.i k.it.session (Some k.told)) k.it.at refl (told_same w k)) (λ s. silent_mute s k.items k.silent)
told_by w h (OfEnded k) stands shows all =
    kept w.setup.direct w.nodes (now_at w k.it.node (without_request k.it.i k.it.session)) h (k.last ∷ []) all
    (were_put w.nodes k.it.node k.it.i (without_request k.it.i k.it.session) k.it.at refl (λ s request p holds. (heldby_ended k.it.i k.it.session s request p holds).1)) (ended_mute w k)
told_by w h (OfLearned k) stands shows all = kept w.setup.direct w.nodes w.nodes h (k.steps ++ k.last ∷ []) all (were_same w.nodes) (learned_mute w k)

-- ---- the facts
deed_told : (w : State) (h : List Item) (d : NodeTransition w) → ReachedInvariant w h → ShownInvariant w h → AllTold w.setup.direct (nodes_by w d) (h ++ items_by w d)
deed_told w h d stands shows = told_by w h d stands shows (all_told w.setup w.nodes h shows.asked shows.faulted shows.put)

pub asked_kept : (w : State) (h : List Item) (d : NodeTransition w) → ReachedInvariant w h → ShownInvariant w h → AreAsked (nodes_by w d) (h ++ items_by w d)
asked_kept w h d stands shows = asked_by_told w.setup.direct (nodes_by w d) (h ++ items_by w d) (deed_told w h d stands shows)

pub faulted_kept : (w : State) (h : List Item) (d : NodeTransition w) → ReachedInvariant w h → ShownInvariant w h → AreFaulted (nodes_by w d) (h ++ items_by w d)
faulted_kept w h d stands shows = faulted_by_told w.setup.direct (nodes_by w d) (h ++ items_by w d) (deed_told w h d stands shows)

pub put_kept : (w : State) (h : List Item) (d : NodeTransition w) → ReachedInvariant w h → ShownInvariant w h → ArePutByNodes w.setup (nodes_by w d)
put_kept w h d stands shows = put_by_told w.setup (nodes_by w d) (h ++ items_by w d) (deed_told w h d stands shows)
