-- Whoever is told of a begin asked for one last.
use Rattle.request_completion.proofs.Names.{◌≡◌, ℕ, List, [], ◌∷◌, None, Some, inl, inr, subst, take, slice_get}
use Rattle.request_completion.proofs.Names.{none-some, Fate, ◌∈◌, Cause, Session, Item, Request, Begin, Commit, Event}
use Rattle.request_completion.proofs.Names.{State, stepped, its_ask, Due, DueLoss, cause_of_loss, dues, each_outcome}
use Rattle.request_completion.proofs.Names.{place_of, not_true, quiet_in, told_by_outcome, ask_for, ExplainedInvariant}
use Rattle.request_completion.proofs.Names.{IsAsked, OfBegin, BeginsAreAsked}
use Rattle.history_book.specs.declared.cause.Cause.TheVariants as cause
use Rattle.history_book.specs.declared.item.Item.TheVariants as item
use Rattle.isolation_laws.proofs.Numbers.Placings.{placed_item}
use Rattle.isolation_laws.proofs.Holding.IsolatedItems.{Stamping, StampsNone, StampsPlaced, StampsBegin, stamping, begin_old}
use Rattle.request_completion.proofs.OwingItems.{only_is}
use Rattle.request_completion.proofs.OwingOutcomes.{among}
use Rattle.request_completion.proofs.SessionTurns.{asked_of}

-- ---- a wait, and a begin that a crash has lost
loss_waits : (commit node term : ℕ) (request : Request) → cause.NotYet commit ≡ cause_of_loss node term request → ⊥
loss_waits commit node term (Begin asker) is = cc
loss_waits commit node term (Commit asker start keys) is = cc

wait_asked : (w : State) (h told : List Item) (s commit : ℕ) → ExplainedInvariant w h → Due w told (item.Refused (Session s) (cause.NotYet commit)) → IsAsked h s None
wait_asked w h told s commit tells (inl any) = absurd (none-some (any w.setup []).node (any w.setup []).node_is)
wait_asked w h told s commit tells (inr (inl now)) =
    let due = now.1 in
    (due.serves.node, tells.shows.asked.asked due.serves.node s due.i (Begin due.asker) _ due.serves.at due.serves.holds)
wait_asked w h told s commit tells (inr (inr (inl loss))) = absurd (loss_waits commit loss.serves.node loss.i.term loss.request loss.why_is)
wait_asked w h told s commit tells (inr (inr (inr placing))) = absurd placing.how

same_session : (s r : ℕ) → Session s ≡ Session r → r ≡ s
same_session s r same = cc

lost_is : (h : List Item) (s n t node term : ℕ) (request : Request) → cause.Crashed node term ≡ cause_of_loss n t request → its_ask h s ≡ Some (ask_for n request) → IsAsked h s None
lost_is h s n t node term (Begin asker) is asked = (n, asked)
lost_is h s n t node term (Commit asker start keys) is asked = absurd (cc)

loss_asked : (w : State) (h told : List Item) (s node term : ℕ) → ExplainedInvariant w h → DueLoss w told (Session s) (cause.Crashed node term) → IsAsked h s None
loss_asked w h told s node term tells loss =
    let same : loss.session ≡ s = same_session s loss.session loss.actor_is in
    subst (λ (r : ℕ). IsAsked h r None) same (lost_is h loss.session loss.serves.node loss.i.term node term loss.request loss.why_is (tells.shows.asked.asked loss.serves.node loss.session loss.i loss.request loss.p loss.serves.at loss.serves.holds))

crash_asked : (w : State) (h told : List Item) (s node term : ℕ) → ExplainedInvariant w h → Due w told (item.Refused (Session s) (cause.Crashed node term)) → IsAsked h s None
crash_asked w h told s node term tells (inl any) = absurd (none-some node (any w.setup []).node_is)
crash_asked w h told s node term tells (inr (inl now)) = absurd now.1
crash_asked w h told s node term tells (inr (inr (inl loss))) = loss_asked w h told s node term tells loss
crash_asked w h told s node term tells (inr (inr (inr placing))) = absurd placing.how

-- ---- an answer
same_begin : (s t r u : ℕ) → item.Begin s t ≡ item.Begin r u → r ≡ s
same_begin s t r u same = cc

begin_by : (w : State) (h items : List Item) (s start : ℕ) → ExplainedInvariant w h → Stamping w items → item.Begin s start ∈ items → IsAsked h s None
unfolding ◌∈◌
begin_by w h items s start tells (StampsNone none) m = absurd (begin_old [] items s start none m)
begin_by w h items s start tells (StampsPlaced p rest quiet is) m = elim (among (item.Begin s start) items (placed_item w p ∷ rest) is m) [
  | inl same ↦ absurd (cc)
  | inr later ↦ absurd (not_true (quiet_in (item.Begin s start) rest quiet later))
]
begin_by w h items s start tells (StampsBegin k is) m =
    let same : k.session ≡ s = same_begin s start k.session k.start (only_is (item.Begin s start) (item.Begin k.session k.start) (among (item.Begin s start) items (item.Begin k.session k.start ∷ []) is m)) in
    subst (λ (r : ℕ). IsAsked h r None) same (asked_of w h k.node k.session k.i k.held (Begin k.asker) tells k.at k.has k.request_is)

-- ---- each item
due_at : (w : State) (h : List Item) (e : Event) (fate : Fate) (x : Item) → ExplainedInvariant w h → x ∈ (stepped w e fate).items → (told : List Item) × Due w told x
due_at w h e fate x tells m =
    let place : (p : ℕ) × (slice_get (stepped w e fate).items p ≡ Some x) = place_of x (stepped w e fate).items m in
    (take place.0 (stepped w e fate).items, (dues w h e fate tells.stands).at place.0 x place.1)

refused_asked : (w : State) (h : List Item) (e : Event) (fate : Fate) (s r : ℕ) (why : Cause) → ExplainedInvariant w h → item.Refused (Session r) why ∈ (stepped w e fate).items → OfBegin s (item.Refused (Session r) why) → IsAsked h s None
refused_asked w h e fate s r (cause.NotYet commit) tells m same =
    let due = due_at w h e fate (item.Refused (Session r) (cause.NotYet commit)) tells m in
    subst (λ (q : ℕ). IsAsked h q None) same (wait_asked w h due.0 r commit tells due.1)
refused_asked w h e fate s r (cause.Crashed node term) tells m same =
    let due = due_at w h e fate (item.Refused (Session r) (cause.Crashed node term)) tells m in
    subst (λ (q : ℕ). IsAsked h q None) same (crash_asked w h due.0 r node term tells due.1)
refused_asked w h e fate s r why tells m same = absurd same

pub begins_are_asked : BeginsAreAsked
begins_are_asked w h e fate s (item.Begin r start) tells m same =
    subst (λ (q : ℕ). IsAsked h q None) same (each_outcome (λ v items. item.Begin r start ∈ items → IsAsked h r None) w h e fate tells.stands (λ o here. begin_by w h (told_by_outcome w o) r start tells (stamping w h o tells.stands.holds) here) m)
begins_are_asked w h e fate s (item.Refused (Session r) why) tells m same = refused_asked w h e fate s r why tells m same
begins_are_asked w h e fate s x tells m same = absurd same
