-- Every event keeps that a session which places its commit asked for it last: until then it tells nothing of another request.
use Rattle.cause_laws.proofs.Names.{at_work_moved, is_placing, ap, inl, ◌≡◌, ℕ, ◌+◌, List, ◌++◌, Some, ◌⊎◌, inr, refl}
use Rattle.cause_laws.proofs.Names.{sym, ◌∙◌, subst, slice_set, same_Some, Fate, Session, HandedStep, Item, Phase}
use Rattle.cause_laws.proofs.Names.{SessionEntry, Commit, session_of, Event, Client, State, stepped, HeldBy, ClientAt}
use Rattle.cause_laws.proofs.Names.{ReachedInvariant, client_set, held_by, one_client, Outcome, left_by}
use Rattle.cause_laws.proofs.Names.{told_by_outcome, each_outcome, AskedToPlace, ArePlacingAsked, ShownInvariant}
use Rattle.history_book.specs.declared.item.Item.TheVariants as item
use Rattle.system_parts.specs.declared.session.State.TheVariants as phase
use Rattle.system_parts.specs.declared.instance.Progress.TheVariants as progress
use Rattle.cause_laws.proofs.NodeTransitions.{Asked, Serving, NodeTransition, OfRested, OfTook, OfRenewed, OfWidened, OfStopped, OfCrashed, OfAsked, OfAccepted, OfDrew, OfSettled, OfTold, OfEnded, OfLearned, NodeTransitionOf, ask_item, items_by}
use Rattle.cause_laws.proofs.NodeTransitionsDone.{outcome_deed}
use Rattle.cause_laws.proofs.AskWords.{AllMute, silent_mute, other_ask, other_accept, other_draw, its_ask-mute, its_draw-mute}
use Rattle.cause_laws.proofs.NodeTransitionsMute.{one_mute, always_mute, took_mute, crashed_mute, settled_mute, ended_mute, learned_mute}
use Rattle.cause_laws.proofs.RequestsWere.{alone_unheld, serving_own}
use Rattle.cause_laws.proofs.AsBefore.{IsPlacing}
use Rattle.cause_laws.proofs.ClientsMoved.{ClientsMoved, Moves, PutBack, Handed, moved}

-- ---- a session that places its commit makes no request
idle_not_placing : (state : Phase) → (state ≡ phase.Free) ⊎ (state ≡ phase.Open) → state ≡ phase.Placing → ⊥
idle_not_placing state (inl free) placing = let clash : phase.Free ≡ phase.Placing = sym free ∙ placing in cc
idle_not_placing state (inr opened) placing = let clash : phase.Open ≡ phase.Placing = sym opened ∙ placing in cc

asks_not : (w : State) (k : Asked w) (s : ℕ) (c : Client) → ClientAt w.clients s c → IsPlacing c → session_of k.request ≡ s → ⊥
asks_not w k s c at placing same =
    let own : ClientAt w.clients s k.c = subst (λ (r : ℕ). ClientAt w.clients r k.c) same k.client_at in
    idle_not_placing k.c.entry.state k.idle (ap (λ (d : Client). d.entry.state) (one_client w.clients s k.c c own at) ∙ placing)

serves_not : (w : State) (h : List Item) (it : Serving w) (s : ℕ) (c : Client) → ReachedInvariant w h → ClientAt w.clients s c → IsPlacing c → it.session ≡ s → ⊥
serves_not w h it s c stands at placing same =
    alone_unheld w h s c stands at (inr placing) it.node it.i it.held.request it.held.progress it.at (subst (λ (r : ℕ). HeldBy it.i r it.held.request it.held.progress) same (held_by it.i it.session it.held it.has))

placing_mute : (w : State) (h : List Item) (d : NodeTransition w) (s : ℕ) (c : Client) → ReachedInvariant w h → ClientAt w.clients s c → IsPlacing c → AllMute s (items_by w d)
placing_mute w h (OfRested k) s c stands at placing = silent_mute s k.items k.silent
placing_mute w h (OfTook k) s c stands at placing = took_mute w k s
placing_mute w h (OfRenewed k) s c stands at placing = always_mute s _ refl
placing_mute w h (OfWidened k) s c stands at placing = always_mute s _ refl
placing_mute w h (OfStopped k) s c stands at placing = always_mute s _ refl
placing_mute w h (OfCrashed k) s c stands at placing = crashed_mute w k s
placing_mute w h (OfAsked k) s c stands at placing = one_mute s (ask_item k.node k.request) (other_ask s k.node k.request (asks_not w k s c at placing))
placing_mute w h (OfAccepted k) s c stands at placing = one_mute s _ (other_accept s k.it.session k.it.node k.it.i.term k.reading (serves_not w h k.it s c stands at placing))
placing_mute w h (OfDrew k) s c stands at placing =
    one_mute s _ (other_draw s k.it.node k.it.i.term k.it.held.request (k.it.i.last + 1) (λ same. serves_not w h k.it s c stands at placing (sym (serving_own w h k.it stands) ∙ same)))
placing_mute w h (OfSettled k) s c stands at placing = settled_mute w k s
placing_mute w h (OfTold k) s c stands at placing = silent_mute s k.items k.silent
placing_mute w h (OfEnded k) s c stands at placing = ended_mute w k s
placing_mute w h (OfLearned k) s c stands at placing = learned_mute w k s

outcome_mute : (w : State) (h : List Item) (o : Outcome w) (s : ℕ) (c : Client) → ReachedInvariant w h → ClientAt w.clients s c → IsPlacing c → AllMute s (told_by_outcome w o)
outcome_mute w h o s c stands at placing =
    let by : NodeTransitionOf w (left_by w o).nodes (told_by_outcome w o) = outcome_deed w h o stands.holds in
    subst (AllMute s) (sym by.tells) (placing_mute w h by.deed s c stands at placing)

-- ---- what was asked stays so
asked_on : (h items : List Item) (s start commit : ℕ) → AllMute s items → AskedToPlace h s start commit → AskedToPlace (h ++ items) s start commit
asked_on h items s start commit mute asked = record { node = asked.node; asked = its_ask-mute h items s mute ∙ asked.asked; drawn = its_draw-mute h items s mute ∙ asked.drawn }

-- those that place a commit now did so before, or it is handed to them
abbrev PlacingCame : State → List Client → List Item → Type 0
PlacingCame w left items = (s : ℕ) (c : Client) → ClientAt left s c → IsPlacing c → ((d : Client) × ClientAt w.clients s d × (d.entry ≡ c.entry)) ⊎ Handed w s c.entry items

came_put : (w : State) (session : ℕ) (c new : Client) (items : List Item) → ClientAt w.clients session c → (IsPlacing new → (c.entry ≡ new.entry) ⊎ Handed w session new.entry items) → PlacingCame w (slice_set w.clients session new) items
came_put w session c new items at came s d there placing = elim (client_set w.clients session s new d there) [
  | inl here ↦ elim (came (subst IsPlacing here.1 placing)) [
    | inl same ↦ inl (c, subst (λ (r : ℕ). ClientAt w.clients r c) (sym here.0) at, same ∙ ap (λ (x : Client). x.entry) (sym here.1))
    | inr handed ↦ inr (subst (λ (r : ℕ). Handed w r d.entry items) (sym here.0) (subst (λ (x : Client). Handed w session x.entry items) (sym here.1) handed))
  ]
  | inr other ↦ inl (d, other.1, refl)
]

came : (w : State) (left : List Client) (items : List Item) → ClientsMoved w left items → PlacingCame w left items
came w left items (Moves move) s c at placing = inl ((at_work_moved w.clients left move).placing s c at (ap is_placing placing))
came w left items (PutBack session old new was same gone handed) s c at placing = came_put w session old new items was handed s c (subst (λ (clients : List Client). ClientAt clients s c) same at) placing

-- ---- each outcome
handed_asked : (w : State) (h : List Item) (s start commit : ℕ) (e : SessionEntry) (items : List Item) → ShownInvariant w h → Handed w s e items → e.start ≡ Some start → e.commit ≡ Some commit → AskedToPlace (h ++ items) s start commit
handed_asked w h s start commit e items shows k start_is commit_is =
    let mute : AllMute s items = subst (AllMute s) (sym k.tells) (always_mute s (item.Step (Session s) (HandedStep k.start k.commit)) refl) in
    let asked : AskedToPlace h s k.start k.commit = record {
      node = k.node;
      asked = shows.asked.asked k.node s k.i (Commit k.asker k.start k.keys) (progress.Handed k.commit) k.at k.holds;
      drawn = shows.asked.drawn k.node s k.i (Commit k.asker k.start k.keys) (progress.Handed k.commit) (k.start, Some k.commit) k.at k.holds refl;
    } in
    subst (λ (t : ℕ). AskedToPlace (h ++ items) s t commit) (same_Some k.start start (sym k.start_is ∙ start_is))
    (subst (λ (u : ℕ). AskedToPlace (h ++ items) s k.start u) (same_Some k.commit commit (sym k.commit_is ∙ commit_is)) (asked_on h items s k.start k.commit mute asked))

placing_on : (w : State) (h : List Item) (o : Outcome w) → ReachedInvariant w h → ShownInvariant w h → ArePlacingAsked (left_by w o).clients (h ++ told_by_outcome w o)
placing_on w h o stands shows = record {
  each = λ s start commit c at placing start_is commit_is. elim (came w (left_by w o).clients (told_by_outcome w o) (moved w h o stands.holds) s c at placing) [
    | inl was ↦
        let places : IsPlacing was.0 = ap (λ (e : SessionEntry). e.state) was.2 ∙ placing in
        asked_on h (told_by_outcome w o) s start commit (outcome_mute w h o s was.0 stands was.1 places)
        (shows.placing.each s start commit was.0 was.1 places (ap (λ (e : SessionEntry). e.start) was.2 ∙ start_is) (ap (λ (e : SessionEntry). e.commit) was.2 ∙ commit_is))
    | inr handed ↦ handed_asked w h s start commit c.entry (told_by_outcome w o) shows handed start_is commit_is
  ];
}

pub placing_kept : (w : State) (h : List Item) (e : Event) (fate : Fate) → ReachedInvariant w h → ShownInvariant w h → ArePlacingAsked (stepped w e fate).state.clients (h ++ (stepped w e fate).items)
placing_kept w h e fate stands shows = each_outcome (λ v items. ArePlacingAsked v.clients (h ++ items)) w h e fate stands (λ o. placing_on w h o stands shows)
