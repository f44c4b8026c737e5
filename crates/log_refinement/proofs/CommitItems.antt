-- What the items of its actor's own events say of the ask of a commit, and that it is over once nothing is owed.
use Rattle.log_refinement.proofs.Names.{◌≡◌, ℕ, ◌==◌, Bool, true, false, ◌&&◌, if◌then◌else◌, List, [], ◌∷◌, ◌++◌, Some}
use Rattle.log_refinement.proofs.Names.{◌⊎◌, inl, inr, refl, sym, ◌∙◌, ap, subst, append_assoc, not, filter, and_parts}
use Rattle.log_refinement.proofs.Names.{eqb-true, same_Some, ◌∈◌, Cause, Actor, Session, Item, in_back, Store, Client}
use Rattle.log_refinement.proofs.Names.{State, written_keys, open_asks_of, Opens, same_actor, actor_same, AllNot, Owes}
use Rattle.log_refinement.proofs.Names.{EndsCommit, OfBegin, SessionTransition, Due, Owed, Nothing, Read, Answer}
use Rattle.log_refinement.proofs.Names.{Denied, Removal, Erasure, Quiet, leaves_cells, leaves_nothing}
use Rattle.log_refinement.proofs.Names.{after_own_refusal, is_lost, after_refusal, fails_record, after_asking}
use Rattle.log_refinement.proofs.Names.{ends_completion, removes, is_idle, owed_after, written_after, without_key}
use Rattle.log_refinement.proofs.Names.{unerased_after, Standing, with_item, with_items, is_nil, is_settled, HasCome}
use Rattle.history_book.specs.declared.cause.Cause.TheVariants as cause
use Rattle.history_book.specs.declared.item.StoreStep.TheVariants as step
use Rattle.history_book.specs.declared.item.Item.TheVariants as item
use Rattle.system_parts.specs.declared.session.State.TheVariants as phase
use Rattle.log_refinement.proofs.AskFacts.{MachineLaws, Passed, closes_ask, loses_ask, if_either, lost_is, nothing_left, leaving_closes, opening_closes, failed_at, EndsBy}
use Rattle.log_refinement.proofs.CommitAsks.{CommitAsk, ask_of, asked_upto, Place, PlaceBefore, PlaceBehind, now_asked, turn_of, passed_of, Settled, Erasing, CommitComes, removed_now, settled_at_rest}
use Rattle.log_refinement.proofs.CommitTrails.{after_open, is_committing, clashes, not_begin, leaves_ends, IsRefused, refused_turn, IsOpened, opened_turn}
use Rattle.log_refinement.proofs.ItemLists.{split_cases, behind_or_more, in_split, none_append}
use Rattle.log_refinement.proofs.KeptKeys.{stays_written}
use Rattle.log_refinement.proofs.Moves.{Move, items_of, state_after, history_after, AskMove, since_after}
use Rattle.log_refinement.proofs.SinceAsk.{in_not}
use Rattle.log_refinement.proofs.StepItems.{rests, SaysTo}

-- ---- the places before and behind an own event
-- one event of a session's own, past its ask of a commit; whether it is a step
pub record OwnEvent : Type 0 where
  pub ask : CommitAsk
  pub past : AskMove
  pub steps : Bool

abbrev pub asker : OwnEvent → ℕ
asker e = e.past.session

abbrev pub own_items : OwnEvent → List Item
own_items e = items_of e.past.move

pub record Own (e : OwnEvent) : Type 0 where
  pub k : PlaceBefore e.ask e.past
  pub l : PlaceBehind e.ask e.past
  pub none : AllNot (Session (asker e)) (own_items e)
  pub says : e.steps ≡ true → (x : Item) → x ∈ own_items e → SaysTo (asker e) e.past.client e.past.next x

own_passed : (e : OwnEvent) → Own e → Passed (ask_of e.ask) (asked_upto (asker e) e.ask) e.past
own_passed e o = passed_of e.ask e.past o.k o.l o.none

-- the log has the keys that the transaction wrote
abbrev pub HasKeys : List Item → ℕ → List ℕ → Type 0
HasKeys h t written = (key : ℕ) → key ∈ written_keys h t → key ∈ written

-- behind the event: the log has all keys, what has come of the ask, and which cells are still to be erased
abbrev pub HasBehind : OwnEvent → List ℕ → Type 0
HasBehind e written = HasKeys (history_after e.past.move) e.ask.start written

abbrev pub ComesBehind : OwnEvent → List ℕ → Owed → Type 0
ComesBehind e keys owed = CommitComes (asker e) e.ask.node e.ask.start (history_after e.past.move) (since_after e.past) e.past.next keys owed

abbrev ErasingBehind : OwnEvent → List ℕ → Type 0
ErasingBehind e keys = Erasing (asker e) e.ask.start (history_after e.past.move) (since_after e.past) e.past.next keys

owes_ends : (s : ℕ) (x : Item) → Owes s x → EndsCommit s x
owes_ends s (item.Committed session start commit) owes = owes
owes_ends s (item.Refused (Session session) why) owes = (owes.0, leaves_ends why owes.1)
owes_ends s _ owes = absurd owes

-- ---- an answer to the ask
own_turn : MachineLaws → (e : OwnEvent) → Own e → SessionTransition e.past.move.history (asker e) e.past.client (own_items e) e.past.next
own_turn laws e o = turn_of laws e.ask e.past o.k o.l.at

-- a refusal that leaves cells: all that were written are to be erased
erasing_anew : MachineLaws → (e : OwnEvent) (why : Cause) (written : List ℕ) → Own e → item.Refused (Session (asker e)) why ∈ own_items e → leaves_cells why ≡ true → HasBehind e written → ErasingBehind e written
unfolding ◌∈◌
erasing_anew laws e why written o m leaves keys =
    let s : ℕ = asker e in
    let since : List Item = e.past.since in
    let told : IsRefused s e.past.client (own_items e) e.past.next = refused_turn s e.ask.node e.ask.start e.past.move.history since (own_items e) e.past.client e.past.next why (now_asked e.ask e.past o.k) o.k.trail (own_turn laws e o) m leaves in
    record {
      front = since ++ told.ends.front;
      behind = [];
      why = told.why;
      is = ap (λ (xs : List Item). since ++ xs) told.ends.is ∙ sym (append_assoc since told.ends.front (item.Refused (Session s) told.why ∷ []));
      leaves = told.leaves;
      none = λ x none ends. absurd none;
      undone = told.undone;
      left = λ key there. inl (keys key there);
    }

unerased_all : (s : ℕ) (steps : Bool) (written keys : List ℕ) (who : Actor) (why : Cause) → same_actor who (Session s) ≡ true → leaves_cells why ≡ true → written ≡ unerased_after (Session s) steps written keys (item.Refused who why)
unerased_all s steps written keys who why mine leaves = sym (ap (λ (b : Bool). if b && leaves_cells why then written else keys) mine ∙ ap (λ (b : Bool). if b then written else keys) leaves)

nothing_open : MachineLaws → (e : OwnEvent) (u : ℕ) → Own e → item.Refused (Session (asker e)) (cause.Open u) ∈ own_items e → Settled (asker e) e.ask.start (history_after e.past.move) (since_after e.past) e.past.next
nothing_open laws e u o m =
    let s : ℕ = asker e in
    let since : List Item = e.past.since in
    let items : List Item = own_items e in
    let told : IsOpened s e.past.client items e.past.next = opened_turn s e.ask.node e.ask.start u e.past.move.history since items e.past.client e.past.next (now_asked e.ask e.past o.k) o.k.trail (own_turn laws e o) m in
    let none : (x : Item) → x ∈ (since ++ items) → Owes s x → ⊥ = none_append (Owes s) since items (λ x there owes. o.k.trail.waits told.was x there (owes_ends s x owes)) told.none in
    record {
      removed = λ front behind start commit is. absurd (none (item.Committed s start commit) (in_split (since ++ items) front behind (item.Committed s start commit) is) refl);
      erased = λ front behind why is leaves. absurd (none (item.Refused (Session s) why) (in_split (since ++ items) front behind (item.Refused (Session s) why) is) (refl, leaves));
      stays = inr ((u, in_back (item.Refused (Session s) (cause.Open u)) since items m), ap after_open told.opened);
    }

-- no begin is answered: the session has asked for a commit
no_begin : MachineLaws → (e : OwnEvent) (x : Item) → Own e → x ∈ own_items e → OfBegin (asker e) x → ⊥
no_begin laws e x o m answers =
    let v : Move = e.past.move in
    not_begin v.history (asker e) e.ask.node e.ask.start (now_asked e.ask e.past o.k) (laws.begins v.state v.history v.event v.fate (asker e) x o.k.tells m answers)

own_refused : MachineLaws → (e : OwnEvent) (d : Due) (written keys : List ℕ) (who : Actor) (why : Cause) → Own e → same_actor who (Session (asker e)) ≡ true → item.Refused (Session (asker e)) why ∈ own_items e → HasBehind e written →
    ComesBehind e (unerased_after (Session (asker e)) e.steps written keys (item.Refused who why)) (after_own_refusal e.ask.node d why)
own_refused laws e d written keys who why o mine m has =
    let s : ℕ = asker e in
    let n : ℕ = e.ask.node in
    let items : List Item = own_items e in
    let p : Passed (ask_of e.ask) (asked_upto s e.ask) e.past = own_passed e o in
    let P : Owed → Type 0 = ComesBehind e (unerased_after (Session s) e.steps written keys (item.Refused who why)) in
    if_either P (leaves_cells why) Erasure (if leaves_nothing why then Nothing else Answer n d)
    (λ leaves. (
      closes_ask laws (ask_of e.ask) _ e.past (item.Refused (Session s) why) p m (leaving_closes n s why leaves),
      subst (λ (left : List ℕ). ErasingBehind e left) (unerased_all s e.steps written keys who why mine leaves) (erasing_anew laws e why written o m leaves has),
    ))
    (λ stays. if_either P (leaves_nothing why) Nothing (Answer n d) (λ nothing. elim (nothing_left why nothing) [
      | inl waits ↦ absurd (no_begin laws e (item.Refused (Session s) (cause.NotYet waits.0)) o (subst (λ (q : Cause). item.Refused (Session s) q ∈ items) waits.1 m) refl)
      | inr (inl opens) ↦
          let told : item.Refused (Session s) (cause.Open opens.0) ∈ items = subst (λ (q : Cause). item.Refused (Session s) q ∈ items) opens.1 m in
          inr (closes_ask laws (ask_of e.ask) _ e.past (item.Refused (Session s) (cause.Open opens.0)) p told (opening_closes n s opens.0), nothing_open laws e opens.0 o told)
      | inr (inr lost) ↦ absurd (no_begin laws e (item.Refused (Session s) (cause.Crashed lost.0 lost.1)) o (subst (λ (q : Cause). item.Refused (Session s) q ∈ items) lost.2 m) refl)
    ]) (λ other. refl))

any_refused : MachineLaws → (e : OwnEvent) (d : Due) (written keys : List ℕ) (who : Actor) (why : Cause) → Own e → item.Refused who why ∈ own_items e → HasBehind e written →
    ComesBehind e (unerased_after (Session (asker e)) e.steps written keys (item.Refused who why)) (after_refusal (Session (asker e)) e.ask.node d who why)
any_refused laws e d written keys who why o m has =
    let s : ℕ = asker e in
    let n : ℕ = e.ask.node in
    let items : List Item = own_items e in
    let P : Owed → Type 0 = ComesBehind e (unerased_after (Session s) e.steps written keys (item.Refused who why)) in
    let own : Owed = if same_actor who (Session s) then after_own_refusal n d why else Answer n d in
    if_either P (is_lost n why) Quiet own
    (λ lost. loses_ask laws (ask_of e.ask) _ e.past who (own_passed e o) (subst (λ (q : Cause). item.Refused who q ∈ items) (lost_is n why lost) m))
    (λ there. if_either P (same_actor who (Session s)) (after_own_refusal n d why) (Answer n d)
    (λ mine. own_refused laws e d written keys who why o mine (subst (λ (a : Actor). item.Refused a why ∈ items) (actor_same who (Session s) mine) m) has)
    (λ other. refl))

commit_asking : MachineLaws → (e : OwnEvent) (d : Due) (written keys : List ℕ) (x : Item) → Own e → x ∈ own_items e → HasBehind e written → ComesBehind e (unerased_after (Session (asker e)) e.steps written keys x) (after_asking (Session (asker e)) e.ask.node d x)
commit_asking laws e d written keys (item.Begin session start) o m has =
    if_either (ComesBehind e keys) (session == asker e) Nothing (Answer e.ask.node d)
    (λ mine. absurd (no_begin laws e (item.Begin session start) o m (eqb-true session (asker e) mine))) (λ other. refl)
commit_asking laws e d written keys (item.Committed session start commit) o m has =
    if_either (ComesBehind e keys) (session == asker e) (Removal start) (Answer e.ask.node d)
    (λ mine. closes_ask laws (ask_of e.ask) _ e.past (item.Committed session start commit) (own_passed e o) m mine) (λ other. refl)
commit_asking laws e d written keys (item.Refused who why) o m has = any_refused laws e d written keys who why o m has
commit_asking laws e d written keys (item.Fault who store) o m has =
    if_either (ComesBehind e keys) (fails_record e.ask.node who store) Nothing (Answer e.ask.node d) (λ fails. inl (failed_at e.ask.node e.past.since (own_items e) who store m fails)) (λ other. refl)
commit_asking laws e d written keys _ o m has = refl

-- ---- what pays a completion leaves the session at rest
fault_rests : (s : ℕ) (c d : Client) (who : Actor) (store : Store) → SaysTo s c d (item.Fault who store) → same_actor who (Session s) ≡ true → rests d.entry.state ≡ true
fault_rests s c d who store said mine =
    let own : SaysTo s c d (item.Fault (Session s) store) = subst (λ (a : Actor). SaysTo s c d (item.Fault a store)) (actor_same who (Session s) mine) said in
    own refl

removal_rests : (s : ℕ) (c d : Client) (who : Actor) (txn : ℕ) → SaysTo s c d (item.Step who (step.Remove txn)) → same_actor who (Session s) ≡ true → rests d.entry.state ≡ true
removal_rests s c d who txn said mine =
    let own : SaysTo s c d (item.Step (Session s) (step.Remove txn)) = subst (λ (a : Actor). SaysTo s c d (item.Step a (step.Remove txn))) (actor_same who (Session s) mine) said in
    own refl

idle_rests : (s : ℕ) (c d : Client) (who : Actor) → SaysTo s c d (item.Refused who cause.Idle) → same_actor who (Session s) ≡ true → rests d.entry.state ≡ true
idle_rests s c d who said mine =
    let own : SaysTo s c d (item.Refused (Session s) cause.Idle) = subst (λ (a : Actor). SaysTo s c d (item.Refused a cause.Idle)) (actor_same who (Session s) mine) said in
    own refl

ends_rests : (s : ℕ) (c d : Client) (x : Item) → SaysTo s c d x → ends_completion (Session s) x ≡ true → rests d.entry.state ≡ true
ends_rests s c d (item.Fault who store) said is = fault_rests s c d who store said is
ends_rests s c d _ said is = absurd (cc)

removes_rests : (s : ℕ) (c d : Client) (start : ℕ) (x : Item) → SaysTo s c d x → removes (Session s) start x ≡ true → rests d.entry.state ≡ true
removes_rests s c d start (item.Step who (step.Remove txn)) said is = removal_rests s c d who txn said (and_parts (same_actor who (Session s)) (txn == start) is).0
removes_rests s c d start (item.Fault who store) said is = fault_rests s c d who store said is
removes_rests s c d start _ said is = absurd (cc)

idles_rests : (s : ℕ) (c d : Client) (x : Item) → SaysTo s c d x → is_idle (Session s) x ≡ true → rests d.entry.state ≡ true
idles_rests s c d (item.Refused who cause.Idle) said is = idle_rests s c d who said is
idles_rests s c d (item.Step who (step.Remove txn)) said is = removal_rests s c d who txn said is
idles_rests s c d (item.Fault who store) said is = fault_rests s c d who store said is
idles_rests s c d _ said is = absurd (cc)

-- it is paid by a step that leaves the session at rest, or owed on
pays : (e : OwnEvent) (paid : Bool) (keys : List ℕ) (owed : Owed) → Own e → open_asks_of (history_after e.past.move) e.ask.node (asker e) ≡ 0 → (e.steps ≡ true → paid ≡ true → rests e.past.next.entry.state ≡ true) → ComesBehind e keys owed → ComesBehind e keys (if e.steps && paid then Nothing else owed)
pays e paid keys owed o over rest comes =
    if_either (ComesBehind e keys) (e.steps && paid) Nothing owed
    (λ both. let parts = and_parts e.steps paid both in inr (over, settled_at_rest (asker e) e.ask (state_after e.past.move) (history_after e.past.move) (since_after e.past) e.past.next o.l over (rest parts.0 parts.1)))
    (λ neither. comes)

-- ---- erased cells
still_by : (keys : List ℕ) (key k q : ℕ) (same : Bool) → (q == key) ≡ same → (k ≡ q) ⊎ (k ∈ keys) → (k ∈ keys → (k ∈ filter (λ z. not (z == key)) keys) ⊎ (k ≡ key)) → (k ∈ (if not same then q ∷ filter (λ z. not (z == key)) keys else filter (λ z. not (z == key)) keys)) ⊎ (k ≡ key)
unfolding ◌∈◌
still_by keys key k q true is (inl here) later = inr (here ∙ eqb-true q key is)
still_by keys key k q true is (inr there) later = later there
still_by keys key k q false is (inl here) later = inl (inl here)
still_by keys key k q false is (inr there) later = elim (later there) [ inl kept ↦ inl (inr kept) | inr gone ↦ inr gone ]

still_left : (keys : List ℕ) (key k : ℕ) → k ∈ keys → (k ∈ filter (λ z. not (z == key)) keys) ⊎ (k ≡ key)
unfolding ◌∈◌
still_left [] key k m = absurd m
still_left (q ∷ keys) key k m = still_by keys key k q (q == key) refl m (still_left keys key k)

-- an erase of the transaction, told behind the refusal
erase_behind : MachineLaws → (e : OwnEvent) (keys : List ℕ) (key txn : ℕ) → Own e → e.steps ≡ true → item.Step (Session (asker e)) (step.Erase key txn) ∈ own_items e → (k : ErasingBehind e keys) → item.Step (Session (asker e)) (step.Erase key e.ask.start) ∈ k.behind
erase_behind laws e keys key txn o step_is m k =
    let s : ℕ = asker e in
    let t : ℕ = e.ask.start in
    let c : Client = e.past.client in
    let since : List Item = e.past.since in
    let items : List Item = own_items e in
    let said : SaysTo s c e.past.next (item.Step (Session s) (step.Erase key txn)) = o.says step_is (item.Step (Session s) (step.Erase key txn)) m in
    let undoes = said refl in
    let start : c.entry.start ≡ Some t = o.k.trail.start_is (λ free. let clash : phase.Completing true ≡ phase.Free = sym undoes.0 ∙ free in absurd (cc)) in
    let same : txn ≡ t = same_Some txn t (sym undoes.1 ∙ start) in
    let made : item.Step (Session s) (step.Erase key t) ∈ items = subst (λ (q : ℕ). item.Step (Session s) (step.Erase key q) ∈ items) same m in
    elim (split_cases since items k.front k.behind (item.Refused (Session s) k.why) k.is) [
      | inl first ↦ subst (λ (xs : List Item). item.Step (Session s) (step.Erase key t) ∈ xs) (sym first.behind_is) (in_back _ first.rest items made)
      | inr more ↦
          let told : IsRefused s c items e.past.next = refused_turn s e.ask.node t e.past.move.history since items c e.past.next k.why (now_asked e.ask e.past o.k) o.k.trail (own_turn laws e o) (in_split items more.front k.behind (item.Refused (Session s) k.why) more.is) k.leaves in
          absurd (clashes is_committing c.entry.state (phase.Completing true) told.was undoes.0 refl)
    ]

with_left : (s t : ℕ) (h since : List Item) (d : Client) (old new : List ℕ) → (k : Erasing s t h since d old) → ((key : ℕ) → key ∈ old → (key ∈ new) ⊎ (item.Step (Session s) (step.Erase key t) ∈ k.behind)) → Erasing s t h since d new
with_left s t h since d old new k each = record {
  front = k.front;
  behind = k.behind;
  why = k.why;
  is = k.is;
  leaves = k.leaves;
  none = k.none;
  undone = k.undone;
  left = λ key m. elim (k.left key m) [ inl there ↦ each key there | inr made ↦ inr made ];
}

erasing_step : MachineLaws → (e : OwnEvent) (keys : List ℕ) (who : Actor) (key txn : ℕ) (mine : Bool) → Own e → item.Step who (step.Erase key txn) ∈ own_items e → (e.steps && same_actor who (Session (asker e))) ≡ mine → ErasingBehind e keys → ErasingBehind e (if mine then without_key keys key else keys)
erasing_step laws e keys who key txn false o m is k = k
erasing_step laws e keys who key txn true o m is k =
    let s : ℕ = asker e in
    let t : ℕ = e.ask.start in
    let items : List Item = own_items e in
    let parts = and_parts e.steps (same_actor who (Session s)) is in
    let own : item.Step (Session s) (step.Erase key txn) ∈ items = subst (λ (a : Actor). item.Step a (step.Erase key txn) ∈ items) (actor_same who (Session s) parts.1) m in
    with_left s t (history_after e.past.move) (since_after e.past) e.past.next keys (without_key keys key) k (λ q there. elim (still_left keys key q there) [
      | inl kept ↦ inl kept
      | inr same ↦ inr (subst (λ (z : ℕ). item.Step (Session s) (step.Erase z t) ∈ k.behind) (sym same) (erase_behind laws e keys key txn o parts.0 own k))
    ])

erasing_refused : MachineLaws → (e : OwnEvent) (written keys : List ℕ) (who : Actor) (why : Cause) (anew : Bool) → Own e → item.Refused who why ∈ own_items e → HasBehind e written → (same_actor who (Session (asker e)) && leaves_cells why) ≡ anew → ErasingBehind e keys → ErasingBehind e (if anew then written else keys)
erasing_refused laws e written keys who why false o m has is k = k
erasing_refused laws e written keys who why true o m has is k =
    let parts = and_parts (same_actor who (Session (asker e))) (leaves_cells why) is in
    erasing_anew laws e why written o (subst (λ (a : Actor). item.Refused a why ∈ own_items e) (actor_same who (Session (asker e)) parts.0) m) parts.1 has

erasing_item : MachineLaws → (e : OwnEvent) (written keys : List ℕ) (x : Item) → Own e → x ∈ own_items e → HasBehind e written → ErasingBehind e keys → ErasingBehind e (unerased_after (Session (asker e)) e.steps written keys x)
erasing_item laws e written keys (item.Refused who why) o m has k = erasing_refused laws e written keys who why (same_actor who (Session (asker e)) && leaves_cells why) o m has refl k
erasing_item laws e written keys (item.Step who (step.Erase key txn)) o m has k = erasing_step laws e keys who key txn (e.steps && same_actor who (Session (asker e))) o m refl k
erasing_item laws e written keys _ o m has k = k

-- ---- one item of an own event
commit_item : MachineLaws → (e : OwnEvent) (written keys : List ℕ) (owed : Owed) (x : Item) → Own e → x ∈ own_items e → HasBehind e written → ComesBehind e keys owed → ComesBehind e (unerased_after (Session (asker e)) e.steps written keys x) (owed_after (Session (asker e)) e.steps owed x)
commit_item laws e written keys Nothing x o m has comes = comes
commit_item laws e written keys (Read key) x o m has comes = absurd comes
commit_item laws e written keys Denied x o m has comes = comes
commit_item laws e written keys (Answer asked d) x o m has comes =
    subst (λ (q : ℕ). ComesBehind e (unerased_after (Session (asker e)) e.steps written keys x) (after_asking (Session (asker e)) q d x)) (sym comes) (commit_asking laws e d written keys x o m has)
commit_item laws e written keys (Removal start) x o m has comes =
    pays e (removes (Session (asker e)) start x) (unerased_after (Session (asker e)) e.steps written keys x) (Removal start) o comes (λ step_is paid. removes_rests (asker e) e.past.client e.past.next start x (o.says step_is x m) paid) comes
commit_item laws e written keys Erasure x o m has comes =
    pays e (ends_completion (Session (asker e)) x) (unerased_after (Session (asker e)) e.steps written keys x) Erasure o comes.0 (λ step_is paid. ends_rests (asker e) e.past.client e.past.next x (o.says step_is x m) paid)
    (comes.0, erasing_item laws e written keys x o m has comes.1)
commit_item laws e written keys Quiet x o m has comes =
    pays e (is_idle (Session (asker e)) x) (unerased_after (Session (asker e)) e.steps written keys x) Quiet o comes (λ step_is paid. idles_rests (asker e) e.past.client e.past.next x (o.says step_is x m) paid) comes

-- the log keeps the keys
has_after : (s t : ℕ) (h : List Item) (written : List ℕ) (x : Item) → (Opens (Session s) x → ⊥) → HasKeys h t written → HasKeys h t (written_after (Session s) written x)
has_after s t h written x opens has key m = stays_written s written x key (λ node is. opens (subst (λ (y : Item). Opens (Session s) y) (sym is) refl)) (has key m)

-- all items of an own event
pub commit_items : MachineLaws → (e : OwnEvent) (st : Standing) (xs : List Item) → Own e → ((x : Item) → x ∈ xs → x ∈ own_items e) → HasBehind e st.written → ComesBehind e st.unerased st.owed →
    HasBehind e (with_items (Session (asker e)) e.steps st xs).written × ComesBehind e (with_items (Session (asker e)) e.steps st xs).unerased (with_items (Session (asker e)) e.steps st xs).owed
unfolding with_items ◌∈◌
commit_items laws e st [] o all has comes = (has, comes)
commit_items laws e st (x ∷ xs) o all has comes =
    let m : x ∈ own_items e = all x (inl refl) in
    commit_items laws e (with_item (Session (asker e)) e.steps st x) xs o (λ y there. all y (inr there))
    (has_after (asker e) e.ask.start (history_after e.past.move) st.written x (in_not (asker e) (own_items e) x o.none m) has)
    (commit_item laws e st.written st.unerased st.owed x o m has comes)

-- ---- once nothing is owed
no_keys : (keys : List ℕ) → is_nil keys ≡ true → keys ≡ []
no_keys [] is = refl
no_keys (k ∷ keys) is = absurd (cc)

none_left : (s t : ℕ) (h since : List Item) (c : Client) (keys : List ℕ) → (k : Erasing s t h since c keys) → is_nil keys ≡ true → (key : ℕ) → key ∈ written_keys h t → item.Step (Session s) (step.Erase key t) ∈ k.behind
unfolding ◌∈◌
none_left s t h since c keys k is key m = elim (k.left key m) [
  | inl there ↦ absurd (let none : key ∈ [] = subst (λ (xs : List ℕ). key ∈ xs) (no_keys keys is) there in none)
  | inr made ↦ made
]

all_erased : (s : ℕ) (ask : CommitAsk) (w : State) (h since : List Item) (c : Client) (keys : List ℕ) → Place s ask w h since c → open_asks_of h ask.node s ≡ 0 → Erasing s ask.start h since c keys → is_nil keys ≡ true → HasCome h s (ask_of ask) since
all_erased s ask w h since c keys p over k is = record {
  over = inl over;
  removed = removed_now s ask w h since c p (λ finishes. elim k.undone [
    | inl undoes ↦ let clash : phase.Completing true ≡ phase.Completing false = sym undoes ∙ finishes in absurd (cc)
    | inr free ↦ let clash : phase.Free ≡ phase.Completing false = sym free ∙ finishes in absurd (cc)
  ]);
  erased = λ front behind why splits leaves. elim (behind_or_more k.front k.behind front behind (item.Refused (Session s) k.why) (item.Refused (Session s) why) (sym k.is ∙ splits)) [
    | inl later ↦ absurd (k.none (item.Refused (Session s) why) later (refl, leaves_ends why leaves))
    | inr more ↦ inl (λ key m. more (item.Step (Session s) (step.Erase key ask.start)) (none_left s ask.start h since c keys k is key m))
  ];
}

pub commit_ended : (s : ℕ) (ask : CommitAsk) (w : State) (h since : List Item) (c : Client) (keys : List ℕ) (owed : Owed) → Place s ask w h since c → CommitComes s ask.node ask.start h since c keys owed → is_settled owed keys ≡ true → EndsBy h s (ask_of ask) since owed
commit_ended s ask w h since c keys Nothing p (inl failed) paid = inr (inl failed)
commit_ended s ask w h since c keys Denied p denied paid = inl (refl, denied)
commit_ended s ask w h since c keys Nothing p (inr over) paid = inr (inr (record { over = inl over.0; removed = over.1.removed; erased = over.1.erased }))
commit_ended s ask w h since c keys Erasure p comes paid = inr (inr (all_erased s ask w h since c keys p comes.0 comes.1 paid))
commit_ended s ask w h since c keys (Read key) p comes paid = absurd comes
commit_ended s ask w h since c keys (Answer asked d) p comes paid = absurd (cc)
commit_ended s ask w h since c keys (Removal start) p comes paid = absurd (cc)
commit_ended s ask w h since c keys Quiet p comes paid = absurd (cc)
