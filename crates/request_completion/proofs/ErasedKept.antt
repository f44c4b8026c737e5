-- Every event keeps that behind each refusal that ended a commit its cells are erased, unless that failed or is still to come.
use Rattle.request_completion.proofs.Names.{◌≡◌, ℕ, true, List, [], ◌∷◌, ◌++◌, Option, None, Some, ◌⊎◌, inl, inr, refl}
use Rattle.request_completion.proofs.Names.{sym, ◌∙◌, ap, subst, Fate, ◌∈◌, Cause, Session, Item, in_front}
use Rattle.request_completion.proofs.Names.{SessionState, aborted_by, undo_asks, Event, Client, State, emptied, undo_of}
use Rattle.request_completion.proofs.Names.{client_aborted, stepped, its_ask, written_keys, is_placing, HasAsked}
use Rattle.request_completion.proofs.Names.{ClientAt, each_outcome, ExplainedInvariant, leaves_cells, AreGoneSince}
use Rattle.request_completion.proofs.Names.{AreClosed, IsToAsk, Comes, Vanished, Left, AreErased, EndsCommit, IsAsked}
use Rattle.request_completion.proofs.Names.{IsCommitting, SessionTransition, Rests, AsksBegin, AsksCommit, Begins}
use Rattle.request_completion.proofs.Names.{LosesBegin, Writes, Frees, Undoes, Hands, Commits, Refuses, LeavesOpen}
use Rattle.request_completion.proofs.Names.{Vanishes, IsGone}
use Rattle.history_book.specs.declared.item.StoreStep.TheVariants as step
use Rattle.history_book.specs.declared.item.Item.TheVariants as item
use Rattle.system_parts.specs.declared.asks.Ask.TheVariants as ask
use Rattle.system_parts.specs.declared.session.State.TheVariants as phase
use Rattle.request_completion.proofs.OwingItems.{only_is}
use Rattle.request_completion.proofs.OwingOutcomes.{among}
use Rattle.request_completion.proofs.EndingItems.{leaves_end}
use Rattle.request_completion.proofs.AskItems.{NoneAsked, ask_stays, Asking, Nobody, ForBegin, ForCommit}
use Rattle.request_completion.proofs.ClosedKept.{written_stays}
use Rattle.request_completion.proofs.EventFacts.{still_there, asks_of}
use Rattle.request_completion.proofs.CompletionsKept.{gone_vanished, comes_on}
use Rattle.request_completion.proofs.LastAsks.{same_ask, no_begin, asked_in, front_unasked}
use Rattle.request_completion.proofs.RemovedKept.{owing_client, last_told}
use Rattle.request_completion.proofs.Splits.{Stood, Before, Among, stood, stands_in}
use Rattle.request_completion.proofs.TurnsOfOutcomes.{session_turns}

-- ---- a refusal that is told
refused_ends : (s : ℕ) (why : Cause) → leaves_cells why ≡ true → EndsCommit s (item.Refused (Session s) why)
refused_ends s why leaves = (refl, leaves_end why leaves)

-- it ended a commit, whose transaction is undone from now on
pub record HasRefused (h : List Item) (s : ℕ) (c d : Client) : Type 0 where
  pub start : ℕ
  pub waits : IsCommitting h s start c
  pub is : d ≡ client_aborted c

refusal_told : (h : List Item) (s : ℕ) (why : Cause) (c d : Client) (items : List Item) → leaves_cells why ≡ true → SessionTransition h s c items d → item.Refused (Session s) why ∈ items → (c.entry.state ≡ phase.Gone) ⊎ (IsAsked h s None ⊎ HasRefused h s c d)
refusal_told h s why c d items leaves (Rests same none) m = absurd (none (item.Refused (Session s) why) m (refused_ends s why leaves))
refusal_told h s why c d items leaves (AsksBegin node free asking is) m = let same : item.Refused (Session s) why ≡ item.AskBegin s node = only_is _ _ (among _ items _ is m) in absurd (cc)
refusal_told h s why c d items leaves (AsksCommit node t opened committing start_is then is) m = let same : item.Refused (Session s) why ≡ item.AskCommit s node t = only_is _ _ (among _ items _ is m) in absurd (cc)
refusal_told h s why c d items leaves (Begins asking opened keys asked none) m = absurd (none (item.Refused (Session s) why) m (refused_ends s why leaves))
refusal_told h s why c d items leaves (LosesBegin asking free asked none) m = inr (inl asked)
refusal_told h s why c d items leaves (Writes t key value opened same start_is is) m = let clash : item.Refused (Session s) why ≡ item.Write s t key value = only_is _ _ (among _ items _ is m) in absurd (cc)
refusal_told h s why c d items leaves (Frees may free none) m = absurd (none (item.Refused (Session s) why) m (refused_ends s why leaves))
refusal_told h s why c d items leaves (Undoes was undone none) m = absurd (none (item.Refused (Session s) why) m (refused_ends s why leaves))
refusal_told h s why c d items leaves (Hands committing placing same none) m = absurd (none (item.Refused (Session s) why) m (refused_ends s why leaves))
refusal_told h s why c d items leaves (Commits t other may ends same) m = let clash : item.Refused (Session s) why ≡ item.Committed s t other = last_told s _ _ items ends m (refused_ends s why leaves) in absurd (cc)
refusal_told h s why c d items leaves (Refuses t other waits left ends same) m = inr (inr (record { start = t; waits = waits; is = same }))
refusal_told h s why c d items leaves (LeavesOpen t waits told none same) m = absurd (none (item.Refused (Session s) why) m (refl, leaves))
refusal_told h s why c d items leaves (Vanishes gone is) m = let clash : item.Refused (Session s) why ≡ item.Vanish s = only_is _ _ (among _ items _ is m) in absurd (cc)
refusal_told h s why c d items leaves (IsGone was same) m = inl was

-- ---- what is undone
erase_in : (start key : ℕ) (keys : List ℕ) → key ∈ keys → ask.Erase key start ∈ undo_asks start keys
unfolding ◌∈◌
erase_in start key [] m = m
erase_in start key (k ∷ keys) m = elim m [ inl same ↦ inl (ap (λ (q : ℕ). ask.Erase q start) same) | inr deeper ↦ inr (erase_in start key keys deeper) ]

aborted_is : (c : Client) (start : ℕ) (keys : List ℕ) → c.entry.start ≡ Some start → c.entry.keys ≡ keys → client_aborted c ≡ record (emptied c) { entry = aborted_by c.entry keys; under_way = undo_of (Some start) keys }
aborted_is c start keys start_is keys_are =
    ap (λ (ks : List ℕ). record (emptied c) { entry = aborted_by c.entry ks; under_way = undo_of c.entry.start ks }) keys_are
    ∙ ap (λ (t : Option ℕ). record (emptied c) { entry = aborted_by c.entry keys; under_way = undo_of t keys }) start_is

aborted_asks : (clients : List Client) (s start key : ℕ) (c d : Client) (keys : List ℕ) → ClientAt clients s d → c.entry.start ≡ Some start → c.entry.keys ≡ keys → d ≡ client_aborted c → key ∈ keys → IsToAsk clients s start true (ask.Erase key start)
unfolding ◌∈◌
aborted_asks clients s start key c d [] at start_is keys_are is m = absurd m
aborted_asks clients s start key c d (k ∷ keys) at start_is keys_are is m =
    let made : d ≡ record (emptied c) { entry = aborted_by c.entry (k ∷ keys); under_way = undo_of (Some start) (k ∷ keys) } = is ∙ aborted_is c start (k ∷ keys) start_is keys_are in
    record {
      client = d;
      at = at;
      completes = ap (λ (x : Client). x.entry.state) made;
      start_is = ap (λ (x : Client). x.entry.start) made ∙ start_is;
      asks = undo_asks start (k ∷ keys);
      under_way = ap (λ (x : Client). x.under_way) made;
      left = erase_in start key (k ∷ keys) m;
    }

waits_asked : (state : SessionState) → (state ≡ phase.Committing) ⊎ (state ≡ phase.Placing) → (state ≡ phase.Open) ⊎ HasAsked state
waits_asked state (inl committing) = inr (inl committing)
waits_asked state (inr placing) = inr (inr (inr (ap is_placing placing)))

-- ---- the keys that were written
closed_keys : (w : State) (h : List Item) (e : Event) (fate : Fate) (s n start : ℕ) → ExplainedInvariant w h → AreClosed w.clients h → item.AskCommit s n start ∈ h → written_keys (h ++ (stepped w e fate).items) start ≡ written_keys h start
closed_keys w h e fate s n start tells closed m =
    each_outcome (λ v items. written_keys (h ++ items) start ≡ written_keys h start) w h e fate tells.stands (λ o. written_stays w h o start tells.stands.holds (closed.closed s n start m))

-- ---- the ask of the refusal
refused_none : (w : State) (s : ℕ) (why : Cause) (items : List Item) → Asking w s items → item.Refused (Session s) why ∈ items → NoneAsked s items
refused_none w s why items (Nobody none) m = none
refused_none w s why items (ForBegin c n at free is) m = let clash : item.Refused (Session s) why ≡ item.AskBegin s n = only_is _ _ (among _ items _ is m) in absurd (cc)
refused_none w s why items (ForCommit c n t at is_open start_is is) m = let clash : item.Refused (Session s) why ≡ item.AskCommit s n t = only_is _ _ (among _ items _ is m) in absurd (cc)

erasure_by : (w : State) (h : List Item) (e : Event) (fate : Fate) (s n start key : ℕ) (c d : Client) (behind : List Item) → ExplainedInvariant w h → AreGoneSince w.clients h → ClientAt w.clients s c → ClientAt (stepped w e fate).state.clients s d → its_ask h s ≡ Some (record { node = n; start = Some start }) → key ∈ written_keys h start → (c.entry.state ≡ phase.Gone) ⊎ (IsAsked h s None ⊎ HasRefused h s c d)
    → Comes (stepped w e fate).state.clients (h ++ (stepped w e fate).items) s start true (ask.Erase key start) (item.Step (Session s) (step.Erase key start)) behind
erasure_by w h e fate s n start key c d behind tells are at there asked m (inl gone) = Vanished (gone_vanished w h e fate s c tells are at gone)
erasure_by w h e fate s n start key c d behind tells are at there asked m (inr (inl begin)) = absurd (no_begin begin.0 n start (sym begin.1 ∙ asked))
erasure_by w h e fate s n start key c d behind tells are at there asked m (inr (inr k)) =
    let same : k.start ≡ start = (same_ask k.waits.asked.0 n k.start start (sym k.waits.asked.1 ∙ asked)).1 in
    let start_is : c.entry.start ≡ Some start = k.waits.start_is ∙ ap Some same in
    let keys : c.entry.keys ≡ written_keys h start = tells.stands.holds.requests.keys.written s start c at (waits_asked c.entry.state k.waits.state) start_is in
    Left (aborted_asks (stepped w e fate).state.clients s start key c d (written_keys h start) there start_is keys k.is m)

erasure_comes : (w : State) (h : List Item) (e : Event) (fate : Fate) (s n start key : ℕ) (why : Cause) (front behind : List Item) → ExplainedInvariant w h → AreGoneSince w.clients h → AreClosed w.clients h → leaves_cells why ≡ true → (stepped w e fate).items ≡ front ++ item.Refused (Session s) why ∷ behind → its_ask (h ++ front) s ≡ Some (record { node = n; start = Some start }) → key ∈ written_keys (h ++ (stepped w e fate).items) start
    → Comes (stepped w e fate).state.clients (h ++ (stepped w e fate).items) s start true (ask.Erase key start) (item.Step (Session s) (step.Erase key start)) behind
erasure_comes w h e fate s n start key why front behind tells gone closed leaves is asked key_in =
    let m : item.Refused (Session s) why ∈ (stepped w e fate).items = stands_in (item.Refused (Session s) why) front behind (stepped w e fate).items is in
    let none : NoneAsked s front = front_unasked s front (item.Refused (Session s) why ∷ behind) (subst (NoneAsked s) is (refused_none w s why (stepped w e fate).items (asks_of w h e fate s tells.stands) m)) in
    let before : its_ask h s ≡ Some (record { node = n; start = Some start }) = sym (ask_stays h front s none) ∙ asked in
    let written : key ∈ written_keys h start = subst (λ (ks : List ℕ). key ∈ ks) (closed_keys w h e fate s n start tells closed (asked_in h s n start before)) key_in in
    let at : (c : Client) × ClientAt w.clients s c = owing_client w h e fate s (item.Refused (Session s) why) tells m (refl, leaves) in
    let there : (d : Client) × ClientAt (stepped w e fate).state.clients s d = still_there w e fate s at.0 at.1 in
    erasure_by w h e fate s n start key at.0 there.0 behind tells gone at.1 there.1 before written
    (refusal_told h s why at.0 there.0 (stepped w e fate).items leaves (session_turns w h e fate s at.0 there.0 tells at.1 there.1) m)

-- ---- one event
erased_by : (w : State) (h : List Item) (e : Event) (fate : Fate) (before behind : List Item) (s n start key : ℕ) (why : Cause) → ExplainedInvariant w h → AreGoneSince w.clients h → AreClosed w.clients h → AreErased w.clients h → leaves_cells why ≡ true → its_ask before s ≡ Some (record { node = n; start = Some start }) → key ∈ written_keys (h ++ (stepped w e fate).items) start → Stood h (stepped w e fate).items before behind (item.Refused (Session s) why)
    → Comes (stepped w e fate).state.clients (h ++ (stepped w e fate).items) s start true (ask.Erase key start) (item.Step (Session s) (step.Erase key start)) behind
erased_by w h e fate before behind s n start key why tells gone closed are leaves asked key_in (Before rest old new) =
    let made : Item = item.Step (Session s) (step.Erase key start) in
    let ask_in : item.AskCommit s n start ∈ h = subst (λ (xs : List Item). item.AskCommit s n start ∈ xs) (sym old) (in_front (item.AskCommit s n start) before (item.Refused (Session s) why ∷ rest) (asked_in before s n start asked)) in
    let written : key ∈ written_keys h start = subst (λ (ks : List ℕ). key ∈ ks) (closed_keys w h e fate s n start tells closed ask_in) key_in in
    subst (λ (xs : List Item). Comes (stepped w e fate).state.clients (h ++ (stepped w e fate).items) s start true (ask.Erase key start) made xs) (sym new)
    (comes_on w h e fate s start true (ask.Erase key start) made rest tells gone (λ answer. refl) (are.each before rest s n start key why old leaves asked written))
erased_by w h e fate before behind s n start key why tells gone closed are leaves asked key_in (Among front old new) =
    erasure_comes w h e fate s n start key why front behind tells gone closed leaves new (ap (λ (xs : List Item). its_ask xs s) (sym old) ∙ asked) key_in

pub erased_kept : (w : State) (h : List Item) (e : Event) (fate : Fate) → ExplainedInvariant w h → AreGoneSince w.clients h → AreClosed w.clients h → AreErased w.clients h → AreErased (stepped w e fate).state.clients (h ++ (stepped w e fate).items)
erased_kept w h e fate tells gone closed are = record {
  each = λ before behind s n start key why is leaves asked key_in.
      erased_by w h e fate before behind s n start key why tells gone closed are leaves asked key_in (stood h (stepped w e fate).items before behind (item.Refused (Session s) why) is);
}
