-- Every event keeps that the record of each commit that was told is removed, unless that failed or is still to come.
use Rattle.request_completion.proofs.Names.{◌≡◌, ℕ, false, List, [], ◌∷◌, ◌++◌, Option, Some, ◌⊎◌, inl, inr, refl, sym}
use Rattle.request_completion.proofs.Names.{◌∙◌, ap, subst, Fate, ◌∈◌, Session, Item, in_last, finish_asks, Event}
use Rattle.request_completion.proofs.Names.{Client, State, client_committed, finish_of, stepped, WaitsFor, ClientAt}
use Rattle.request_completion.proofs.Names.{held_by, in_append, ExplainedInvariant, Owes, AreGoneSince, IsToAsk, Comes}
use Rattle.request_completion.proofs.Names.{Vanished, Left, AreRemoved, EndsCommit, EndsWith, MayCommit}
use Rattle.request_completion.proofs.Names.{SessionTransition, Rests, AsksBegin, AsksCommit, Begins, LosesBegin, Writes}
use Rattle.request_completion.proofs.Names.{Frees, Undoes, Hands, Commits, Refuses, LeavesOpen, Vanishes, IsGone}
use Rattle.history_book.specs.declared.item.StoreStep.TheVariants as step
use Rattle.history_book.specs.declared.item.Item.TheVariants as item
use Rattle.system_parts.specs.declared.asks.Ask.TheVariants as ask
use Rattle.system_parts.specs.declared.session.State.TheVariants as phase
use Rattle.request_completion.proofs.OwingItems.{only_is}
use Rattle.request_completion.proofs.OwingOutcomes.{among, owing_by}
use Rattle.request_completion.proofs.EventFacts.{still_there}
use Rattle.request_completion.proofs.CompletionsKept.{gone_vanished, comes_on}
use Rattle.request_completion.proofs.Splits.{Stood, Before, Among, stood, stands_in}
use Rattle.request_completion.proofs.TurnsOfOutcomes.{session_turns}

-- ---- the session that is told is there
pub owing_client : (w : State) (h : List Item) (e : Event) (fate : Fate) (s : ℕ) (x : Item) → ExplainedInvariant w h → x ∈ (stepped w e fate).items → Owes s x → (c : Client) × ClientAt w.clients s c
owing_client w h e fate s x tells m owes = elim (owing_by w h e fate s x tells m owes) [
  | inl k ↦
      let waits : (c : Client) × ClientAt w.clients s c × WaitsFor k.held.request c = tells.stands.holds.requests.requests.waits k.node s k.i k.held.request k.held.progress k.at (held_by k.i s k.held k.has) in
      (waits.0, waits.1)
  | inr alone ↦ (alone.client, alone.at)
]

-- ---- a commit that is told
-- its transaction completes from now on
pub record HasCommitted (s start : ℕ) (c d : Client) : Type 0 where
  pub commit : ℕ
  pub start_is : c.entry.start ≡ Some start
  pub is : d ≡ client_committed c commit

may_start : (h : List Item) (s start : ℕ) (c : Client) → MayCommit h s start c → c.entry.start ≡ Some start
may_start h s start c (inl waits) = waits.start_is
may_start h s start c (inr outcome) = outcome.1

same_start : (s t c r u d : ℕ) → item.Committed s t c ≡ item.Committed r u d → u ≡ t
same_start s t c r u d same = cc

-- the last of the items, behind others that tell no end of a commit
pub last_told : (s : ℕ) (x last : Item) (items : List Item) → EndsWith s last items → x ∈ items → EndsCommit s x → x ≡ last
last_told s x last items ends m told = elim (in_append x ends.front (last ∷ []) (among x items (ends.front ++ last ∷ []) ends.is m)) [
  | inl early ↦ absurd (ends.none x early told)
  | inr late ↦ only_is x last late
]

commit_told : (h : List Item) (s start commit : ℕ) (c d : Client) (items : List Item) → SessionTransition h s c items d → item.Committed s start commit ∈ items → (c.entry.state ≡ phase.Gone) ⊎ HasCommitted s start c d
commit_told h s start commit c d items (Rests same none) m = absurd (none (item.Committed s start commit) m refl)
commit_told h s start commit c d items (AsksBegin node free asking is) m = let same : item.Committed s start commit ≡ item.AskBegin s node = only_is _ _ (among _ items _ is m) in absurd (cc)
commit_told h s start commit c d items (AsksCommit node t opened committing start_is then is) m = let same : item.Committed s start commit ≡ item.AskCommit s node t = only_is _ _ (among _ items _ is m) in absurd (cc)
commit_told h s start commit c d items (Begins asking opened keys asked none) m = absurd (none (item.Committed s start commit) m refl)
commit_told h s start commit c d items (LosesBegin asking free asked none) m = absurd (none.none start commit m)
commit_told h s start commit c d items (Writes t key value opened same start_is is) m = let clash : item.Committed s start commit ≡ item.Write s t key value = only_is _ _ (among _ items _ is m) in absurd (cc)
commit_told h s start commit c d items (Frees may free none) m = absurd (none (item.Committed s start commit) m refl)
commit_told h s start commit c d items (Undoes was undone none) m = absurd (none (item.Committed s start commit) m refl)
commit_told h s start commit c d items (Hands committing placing same none) m = absurd (none (item.Committed s start commit) m refl)
commit_told h s start commit c d items (Commits t other may ends same) m =
    let told : t ≡ start = same_start s start commit s t other (last_told s (item.Committed s start commit) (item.Committed s t other) items ends m refl) in
    inr (record { commit = other; start_is = may_start h s t c may ∙ ap Some told; is = same })
commit_told h s start commit c d items (Refuses t why waits leaves ends same) m = let clash : item.Committed s start commit ≡ item.Refused (Session s) why = last_told s _ _ items ends m refl in absurd (cc)
commit_told h s start commit c d items (LeavesOpen t waits told none same) m = absurd (none (item.Committed s start commit) m refl)
commit_told h s start commit c d items (Vanishes gone is) m = let clash : item.Committed s start commit ≡ item.Vanish s = only_is _ _ (among _ items _ is m) in absurd (cc)
commit_told h s start commit c d items (IsGone was same) m = inl was

committed_asks : (clients : List Client) (s start : ℕ) (c d : Client) → ClientAt clients s d → HasCommitted s start c d → IsToAsk clients s start false (ask.Remove start)
committed_asks clients s start c d at k = record {
  client = d;
  at = at;
  completes = ap (λ (x : Client). x.entry.state) k.is;
  start_is = ap (λ (x : Client). x.entry.start) k.is ∙ k.start_is;
  asks = finish_asks start k.commit c.entry.keys;
  under_way = ap (λ (x : Client). x.under_way) k.is ∙ ap (λ (t : Option ℕ). finish_of t k.commit c.entry.keys) k.start_is;
  left = in_last (ask.Remove start) _;
}

removal_comes : (w : State) (h : List Item) (e : Event) (fate : Fate) (s start commit : ℕ) (behind : List Item) → ExplainedInvariant w h → AreGoneSince w.clients h → item.Committed s start commit ∈ (stepped w e fate).items → Comes (stepped w e fate).state.clients (h ++ (stepped w e fate).items) s start false (ask.Remove start) (item.Step (Session s) (step.Remove start)) behind
removal_comes w h e fate s start commit behind tells are m =
    let at : (c : Client) × ClientAt w.clients s c = owing_client w h e fate s (item.Committed s start commit) tells m refl in
    let there : (d : Client) × ClientAt (stepped w e fate).state.clients s d = still_there w e fate s at.0 at.1 in
    elim (commit_told h s start commit at.0 there.0 (stepped w e fate).items (session_turns w h e fate s at.0 there.0 tells at.1 there.1) m) [
      | inl gone ↦ Vanished (gone_vanished w h e fate s at.0 tells are at.1 gone)
      | inr now ↦ Left (committed_asks (stepped w e fate).state.clients s start at.0 there.0 there.1 now)
    ]

-- ---- one event
removed_by : (w : State) (h : List Item) (e : Event) (fate : Fate) (before behind : List Item) (s start commit : ℕ) → ExplainedInvariant w h → AreGoneSince w.clients h → AreRemoved w.clients h → Stood h (stepped w e fate).items before behind (item.Committed s start commit) → Comes (stepped w e fate).state.clients (h ++ (stepped w e fate).items) s start false (ask.Remove start) (item.Step (Session s) (step.Remove start)) behind
removed_by w h e fate before behind s start commit tells gone are (Before rest old new) =
    let made : Item = item.Step (Session s) (step.Remove start) in
    subst (λ (xs : List Item). Comes (stepped w e fate).state.clients (h ++ (stepped w e fate).items) s start false (ask.Remove start) made xs) (sym new)
    (comes_on w h e fate s start false (ask.Remove start) made rest tells gone (λ answer. refl) (are.each before rest s start commit old))
removed_by w h e fate before behind s start commit tells gone are (Among front old new) = removal_comes w h e fate s start commit behind tells gone (stands_in (item.Committed s start commit) front behind (stepped w e fate).items new)

pub removed_kept : (w : State) (h : List Item) (e : Event) (fate : Fate) → ExplainedInvariant w h → AreGoneSince w.clients h → AreRemoved w.clients h → AreRemoved (stepped w e fate).state.clients (h ++ (stepped w e fate).items)
removed_kept w h e fate tells gone are = record {
  each = λ before behind s start commit is. removed_by w h e fate before behind s start commit tells gone are (stood h (stepped w e fate).items before behind (item.Committed s start commit) is);
}
