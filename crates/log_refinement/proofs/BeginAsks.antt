-- What the ask of a begin has come to, by what its actor's log owes of it.
use Rattle.log_refinement.proofs.Names.{◌≡◌, ℕ, ◌==◌, Bool, true, false, ◌&&◌, if◌then◌else◌, List, [], ◌∷◌, None, Some}
use Rattle.log_refinement.proofs.Names.{◌⊎◌, inl, inr, refl, sym, ◌∙◌, ap, subst, same_Some, none-some, ◌∈◌, Cause}
use Rattle.log_refinement.proofs.Names.{Actor, Master, Node, Session, Item, in_back, in_front, in_push, Client, Ask}
use Rattle.log_refinement.proofs.Names.{its_ask, closes, open_asks_of, same_actor, actor_same, NoneEnds, EndsWith}
use Rattle.log_refinement.proofs.Names.{IsAsked, SessionTransition, Rests, AsksBegin, AsksCommit, Begins, LosesBegin}
use Rattle.log_refinement.proofs.Names.{Writes, Frees, Undoes, Hands, Commits, Refuses, LeavesOpen, Vanishes, IsGone}
use Rattle.log_refinement.proofs.Names.{Due, Owed, Nothing, Read, Answer, Denied, Removal, Erasure, Quiet, leaves_cells}
use Rattle.log_refinement.proofs.Names.{leaves_nothing, after_own_refusal, is_lost, after_refusal, fails_record}
use Rattle.log_refinement.proofs.Names.{after_asking, ends_completion, removes, is_idle, owed_after, Standing}
use Rattle.log_refinement.proofs.Names.{with_item, with_items, is_settled, IsOver, WasDenied}
use Rattle.history_book.specs.declared.item.Item.TheVariants as item
use Rattle.system_parts.specs.declared.session.State.TheVariants as phase
use Rattle.log_refinement.proofs.AskFacts.{MachineLaws, Passed, stays_over, closes_ask, loses_ask, if_either, lost_is, nothing_left, leaving_closes, opening_closes, crashing_closes, failed_at, EndsBy}
use Rattle.log_refinement.proofs.ItemLists.{in_split}
use Rattle.log_refinement.proofs.Moves.{items_of, history_after, AskMove, since_after}
use Rattle.log_refinement.proofs.SinceAsk.{asked_now, stays_there}

-- ---- nobody is told of a commit
abbrev pub NoCommitted : ℕ → List Item → Type 0
NoCommitted s items = (start commit : ℕ) → item.Committed s start commit ∈ items → ⊥

abbrev pub begin_ask : ℕ → Ask
begin_ask n = record { node = n; start = None }

none_committed : (s : ℕ) (items : List Item) → NoneEnds s items → NoCommitted s items
none_committed s items none start commit m = none (item.Committed s start commit) m refl

-- an ask is of a begin or of a commit
pub not_both : (h : List Item) (s n start : ℕ) → its_ask h s ≡ Some (begin_ask n) → IsAsked h s (Some start) → ⊥
not_both h s n start asked k =
    let same : begin_ask n ≡ record { node = k.0; start = Some start } = same_Some _ _ (sym asked ∙ k.1) in
    let clash : None ≡ Some start = ap (λ (a : Ask). a.start) same in
    none-some start clash

only_committed : (s : ℕ) (x : Item) (items : List Item) → items ≡ x ∷ [] → ((start commit : ℕ) → item.Committed s start commit ≡ x → ⊥) → NoCommitted s items
unfolding ◌∈◌
only_committed s x items is not start commit m = elim (subst (λ (xs : List Item). item.Committed s start commit ∈ xs) is m) [ inl same ↦ not start commit same | inr none ↦ absurd none ]

refused_last : (s : ℕ) (why : Cause) (items : List Item) → EndsWith s (item.Refused (Session s) why) items → NoCommitted s items
refused_last s why items k start commit m = elim (in_push (item.Committed s start commit) (item.Refused (Session s) why) k.front (subst (λ (xs : List Item). item.Committed s start commit ∈ xs) k.is m)) [
  | inl front ↦ k.none (item.Committed s start commit) front refl
  | inr same ↦ absurd (let clash : item.Committed s start commit ≡ item.Refused (Session s) why = same in cc)
]

turn_commits : (s n : ℕ) (h items : List Item) (c d : Client) → its_ask h s ≡ Some (begin_ask n) → (c.entry.state ≡ phase.Gone → ⊥) → (c.entry.state ≡ phase.OpenOutcome → (start : ℕ) × IsAsked h s (Some start)) → SessionTransition h s c items d → NoCommitted s items
turn_commits s n h items c d asked alive opened (Rests same none) = none_committed s items none
turn_commits s n h items c d asked alive opened (AsksBegin node free now is) = only_committed s (item.AskBegin s node) items is (λ start commit same. absurd (cc))
turn_commits s n h items c d asked alive opened (AsksCommit node t was now start after is) = only_committed s (item.AskCommit s node t) items is (λ start commit same. absurd (cc))
turn_commits s n h items c d asked alive opened (Begins was now keys begun none) = none_committed s items none
turn_commits s n h items c d asked alive opened (LosesBegin was now begun none) = none.none
turn_commits s n h items c d asked alive opened (Writes t key value was wrote start is) = only_committed s (item.Write s t key value) items is (λ u commit same. absurd (cc))
turn_commits s n h items c d asked alive opened (Frees may free none) = none_committed s items none
turn_commits s n h items c d asked alive opened (Undoes was undone none) = none_committed s items none
turn_commits s n h items c d asked alive opened (Hands was now start none) = none_committed s items none
turn_commits s n h items c d asked alive opened (Commits start commit (inl k) ends is) = absurd (not_both h s n start asked k.asked)
turn_commits s n h items c d asked alive opened (Commits start commit (inr k) ends is) = let o = opened k.0 in absurd (not_both h s n o.0 asked o.1)
turn_commits s n h items c d asked alive opened (Refuses start why k leaves ends is) = refused_last s why items ends
turn_commits s n h items c d asked alive opened (LeavesOpen start k m none is) = λ t commit told. none (item.Committed s t commit) told refl
turn_commits s n h items c d asked alive opened (Vanishes now is) = only_committed s (item.Vanish s) items is (λ start commit same. absurd (cc))
turn_commits s n h items c d asked alive opened (IsGone gone same) = absurd (alive gone)

pub tells_no_commit : MachineLaws → (n : ℕ) (upto : List Item) (a : AskMove) → Passed (begin_ask n) upto a → NoCommitted a.session (items_of a.move)
tells_no_commit laws n upto a k =
    let s : ℕ = a.session in
    let h : List Item = a.move.history in
    turn_commits s n h (items_of a.move) a.client a.next (asked_now s (begin_ask n) h upto a.since k.is_since)
    (λ gone. stays_there s (begin_ask n) h upto a.since k.is_since (k.ends.gone.vanished s a.client k.at gone))
    (λ open_now. let o = k.ends.outcomes.told s a.client k.at open_now in (o.start, (o.node, o.asked)))
    (laws.turns a.move.state h a.move.event a.move.fate s a.client a.next k.tells k.at k.there)

-- ---- what is owed, and what has come
abbrev pub BeginComes : ℕ → ℕ → List Item → List Item → Owed → Type 0
BeginComes s n h since Nothing = (item.Fault (Node n) Master ∈ since) ⊎ IsOver h s n since
BeginComes s n h since (Read key) = ⊥
BeginComes s n h since (Answer asked d) = asked ≡ n
BeginComes s n h since Denied = WasDenied s since
BeginComes s n h since (Removal start) = open_asks_of h n s ≡ 0
BeginComes s n h since Erasure = open_asks_of h n s ≡ 0
BeginComes s n h since Quiet = open_asks_of h n s ≡ 0

-- one event later
-- what has come of the ask behind the event
abbrev pub BeginBehind : ℕ → AskMove → Owed → Type 0
BeginBehind n a owed = BeginComes a.session n (history_after a.move) (since_after a) owed

pub begin_later : MachineLaws → (n : ℕ) (upto : List Item) (a : AskMove) (owed : Owed) → Passed (begin_ask n) upto a → BeginComes a.session n a.move.history a.since owed → BeginBehind n a owed
begin_later laws n upto a Nothing k (inl failed) = inl (in_front _ a.since (items_of a.move) failed)
begin_later laws n upto a Nothing k (inr (inl over)) = inr (inl (stays_over laws (begin_ask n) upto a k over))
begin_later laws n upto a Nothing k (inr (inr told)) = inr (inr (told.0, in_front _ a.since (items_of a.move) told.1))
begin_later laws n upto a (Read key) k comes = absurd comes
begin_later laws n upto a (Answer asked d) k comes = comes
begin_later laws n upto a Denied k comes = (comes.0, in_front _ a.since (items_of a.move) comes.1)
begin_later laws n upto a (Removal start) k comes = stays_over laws (begin_ask n) upto a k comes
begin_later laws n upto a Erasure k comes = stays_over laws (begin_ask n) upto a k comes
begin_later laws n upto a Quiet k comes = stays_over laws (begin_ask n) upto a k comes

-- ---- one item of an own event
own_refused : MachineLaws → (n : ℕ) (d : Due) (upto : List Item) (a : AskMove) (why : Cause) → Passed (begin_ask n) upto a → item.Refused (Session a.session) why ∈ items_of a.move → BeginBehind n a (after_own_refusal n d why)
own_refused laws n d upto a why k m =
    let s : ℕ = a.session in
    let items : List Item = items_of a.move in
    let P : Owed → Type 0 = BeginBehind n a in
    if_either P (leaves_cells why) Erasure (if leaves_nothing why then Nothing else Answer n d)
    (λ leaves. closes_ask laws (begin_ask n) upto a (item.Refused (Session s) why) k m (leaving_closes n s why leaves))
    (λ not. if_either P (leaves_nothing why) Nothing (Answer n d) (λ nothing. elim (nothing_left why nothing) [
      | inl waits ↦ inr (inr (waits.0, in_back _ a.since items (subst (λ (q : Cause). item.Refused (Session s) q ∈ items) waits.1 m)))
      | inr (inl opens) ↦ inr (inl (closes_ask laws (begin_ask n) upto a (item.Refused (Session s) why) k m (ap (λ (q : Cause). closes n s (item.Refused (Session s) q)) opens.1 ∙ opening_closes n s opens.0)))
      | inr (inr lost) ↦ inr (inl (closes_ask laws (begin_ask n) upto a (item.Refused (Session s) why) k m (ap (λ (q : Cause). closes n s (item.Refused (Session s) q)) lost.2 ∙ crashing_closes n s lost.0 lost.1)))
    ]) (λ other. refl))

any_refused : MachineLaws → (n : ℕ) (d : Due) (upto : List Item) (a : AskMove) (who : Actor) (why : Cause) → Passed (begin_ask n) upto a → item.Refused who why ∈ items_of a.move → BeginBehind n a (after_refusal (Session a.session) n d who why)
any_refused laws n d upto a who why k m =
    let s : ℕ = a.session in
    let items : List Item = items_of a.move in
    let P : Owed → Type 0 = BeginBehind n a in
    let own : Owed = if same_actor who (Session s) then after_own_refusal n d why else Answer n d in
    if_either P (is_lost n why) Quiet own
    (λ lost. loses_ask laws (begin_ask n) upto a who k (subst (λ (q : Cause). item.Refused who q ∈ items) (lost_is n why lost) m))
    (λ there. if_either P (same_actor who (Session s)) (after_own_refusal n d why) (Answer n d)
    (λ mine. own_refused laws n d upto a why k (subst (λ (b : Actor). item.Refused b why ∈ items) (actor_same who (Session s) mine) m))
    (λ other. refl))

begin_asking : MachineLaws → (n : ℕ) (d : Due) (upto : List Item) (a : AskMove) (x : Item) → Passed (begin_ask n) upto a → x ∈ items_of a.move → BeginBehind n a (after_asking (Session a.session) n d x)
begin_asking laws n d upto a (item.Begin session start) k m =
    if_either (BeginBehind n a) (session == a.session) Nothing (Answer n d) (λ mine. inr (inl (closes_ask laws (begin_ask n) upto a (item.Begin session start) k m mine))) (λ other. refl)
begin_asking laws n d upto a (item.Committed session start commit) k m =
    if_either (BeginBehind n a) (session == a.session) (Removal start) (Answer n d) (λ mine. closes_ask laws (begin_ask n) upto a (item.Committed session start commit) k m mine) (λ other. refl)
begin_asking laws n d upto a (item.Refused who why) k m = any_refused laws n d upto a who why k m
begin_asking laws n d upto a (item.Fault who store) k m =
    if_either (BeginBehind n a) (fails_record n who store) Nothing (Answer n d) (λ fails. inl (failed_at n a.since (items_of a.move) who store m fails)) (λ other. refl)
begin_asking laws n d upto a _ k m = refl

-- one that is over stays so, whatever is owed of its completion
pays : (s n : ℕ) (h since : List Item) (paid : Bool) (owed : Owed) → open_asks_of h n s ≡ 0 → BeginComes s n h since owed → BeginComes s n h since (if paid then Nothing else owed)
pays s n h since true owed over comes = inr (inl over)
pays s n h since false owed over comes = comes

begin_item : MachineLaws → (n : ℕ) (upto : List Item) (a : AskMove) (steps : Bool) (owed : Owed) (x : Item) → Passed (begin_ask n) upto a → x ∈ items_of a.move → BeginBehind n a owed → BeginBehind n a (owed_after (Session a.session) steps owed x)
begin_item laws n upto a steps Nothing x k m comes = comes
begin_item laws n upto a steps (Read key) x k m comes = absurd comes
begin_item laws n upto a steps (Answer asked d) x k m comes = subst (λ (q : ℕ). BeginBehind n a (after_asking (Session a.session) q d x)) (sym comes) (begin_asking laws n d upto a x k m)
begin_item laws n upto a steps Denied x k m comes = comes
begin_item laws n upto a steps (Removal start) x k m comes = pays a.session n (history_after a.move) (since_after a) (steps && removes (Session a.session) start x) (Removal start) comes comes
begin_item laws n upto a steps Erasure x k m comes = pays a.session n (history_after a.move) (since_after a) (steps && ends_completion (Session a.session) x) Erasure comes comes
begin_item laws n upto a steps Quiet x k m comes = pays a.session n (history_after a.move) (since_after a) (steps && is_idle (Session a.session) x) Quiet comes comes

-- all items of an own event
pub begin_items : MachineLaws → (n : ℕ) (upto : List Item) (a : AskMove) (steps : Bool) (st : Standing) (xs : List Item) → Passed (begin_ask n) upto a → ((x : Item) → x ∈ xs → x ∈ items_of a.move) → BeginBehind n a st.owed → BeginBehind n a (with_items (Session a.session) steps st xs).owed
unfolding with_items ◌∈◌
begin_items laws n upto a steps st [] k all comes = comes
begin_items laws n upto a steps st (x ∷ xs) k all comes =
    begin_items laws n upto a steps (with_item (Session a.session) steps st x) xs k (λ y m. all y (inr m))
    (begin_item laws n upto a steps st.owed x k (all x (inl refl)) comes)

-- ---- once nothing is owed
pub begin_ended : (s n : ℕ) (h since : List Item) (owed : Owed) (keys : List ℕ) → NoCommitted s since → BeginComes s n h since owed → is_settled owed keys ≡ true → EndsBy h s (begin_ask n) since owed
begin_ended s n h since Nothing keys none (inl failed) paid = inr (inl failed)
begin_ended s n h since Denied keys none denied paid = inl (refl, denied)
begin_ended s n h since Nothing keys none (inr over) paid = inr (inr (record {
  over = over;
  removed = λ before behind start commit is. absurd (none start commit (in_split since before behind (item.Committed s start commit) is));
  erased = tt;
}))
begin_ended s n h since Erasure keys none over paid = inr (inr (record {
  over = inl over;
  removed = λ before behind start commit is. absurd (none start commit (in_split since before behind (item.Committed s start commit) is));
  erased = tt;
}))
begin_ended s n h since (Read key) keys none comes paid = absurd (cc)
begin_ended s n h since (Answer asked d) keys none comes paid = absurd (cc)
begin_ended s n h since (Removal start) keys none comes paid = absurd (cc)
begin_ended s n h since Quiet keys none comes paid = absurd (cc)
