-- What the ask of a commit has come to, by what its actor's log owes of it.
use Rattle.log_refinement.proofs.Names.{◌≡◌, ℕ, Bool, true, false, if◌then◌else◌, List, [], ◌∷◌, ◌++◌, Option, Some}
use Rattle.log_refinement.proofs.Names.{◌⊎◌, inl, inr, refl, sym, ◌∙◌, ap, subst, append_assoc, arith, is_some}
use Rattle.log_refinement.proofs.Names.{same_Some, ◌∈◌, Cause, Master, Node, Session, Item, in_front, SessionState}
use Rattle.log_refinement.proofs.Names.{Held, Request, InstanceEntry, held_of, Client, State, ClientAt, written_keys}
use Rattle.log_refinement.proofs.Names.{one_client, held_by, in_append, Ask, its_ask, open_asks_of, ExplainedInvariant}
use Rattle.log_refinement.proofs.Names.{AllNot, IsHeld, IsToAsk, HasVanished, Comes, Made, Failed, Vanished, Left, Ends}
use Rattle.log_refinement.proofs.Names.{EndsCommit, NoneEnds, SessionTransition, Owed, Nothing, Read, Answer, Denied}
use Rattle.log_refinement.proofs.Names.{Removal, Erasure, Quiet, leaves_cells, HasFailed, WasOpen, IsRemoved, IsErased}
use Rattle.log_refinement.proofs.Names.{WasDenied}
use Rattle.history_book.specs.declared.cause.Cause.TheVariants as cause
use Rattle.history_book.specs.declared.item.StoreStep.TheVariants as step
use Rattle.history_book.specs.declared.item.Item.TheVariants as item
use Rattle.system_parts.specs.declared.asks.Ask as asks
use Rattle.system_parts.specs.declared.session.State.TheVariants as phase
use Rattle.system_parts.specs.declared.instance.Request.TheVariants as request
use Rattle.cause_laws.specs.Requests.{ask_for, held_count}
use Rattle.log_refinement.proofs.AskFacts.{MachineLaws, Passed, stays_over}
use Rattle.log_refinement.proofs.CommitTrails.{commit_ask, of_commit, after_open, IsUndone, Trail, not_begin, trail_next, leaves_ends, undone_turn, free_turn, NoLeaving, open_turn}
use Rattle.log_refinement.proofs.ItemLists.{split_cases, in_split, none_append}
use Rattle.log_refinement.proofs.Moves.{Move, items_of, state_after, history_after, AskMove, since_after}
use Rattle.log_refinement.proofs.SinceAsk.{IsSince, since_more, asked_at, asked_now, since_now, place_in, none_before, stays_there}
use Rattle.log_refinement.proofs.StepItems.{rests}

-- ---- a place of the history since the ask
-- the ask of a commit: its node and transaction, and the history before its item
pub record CommitAsk : Type 0 where
  pub node : ℕ
  pub start : ℕ
  pub before : List Item

abbrev pub ask_of : CommitAsk → Ask
ask_of ask = commit_ask ask.node ask.start

-- the history up to its item
abbrev pub asked_upto : ℕ → CommitAsk → List Item
asked_upto s ask = ask.before ++ item.AskCommit s ask.node ask.start ∷ []

pub record Place (s : ℕ) (ask : CommitAsk) (w : State) (h since : List Item) (c : Client) : Type 0 where
  pub tells : ExplainedInvariant w h
  pub ends : Ends w h
  pub is_since : IsSince s (ask_of ask) h (asked_upto s ask) since
  pub at : ClientAt w.clients s c
  pub trail : Trail s ask.start since c
  pub unwaited : (commit : ℕ) → item.Refused (Session s) (cause.NotYet commit) ∈ since → ⊥

-- before an event, and behind it
abbrev pub PlaceBefore : CommitAsk → AskMove → Type 0
PlaceBefore ask a = Place a.session ask a.move.state a.move.history a.since a.client

abbrev pub PlaceBehind : CommitAsk → AskMove → Type 0
PlaceBehind ask a = Place a.session ask (state_after a.move) (history_after a.move) (since_after a) a.next

-- what the session asked last
pub now_asked : (ask : CommitAsk) (a : AskMove) → PlaceBefore ask a → its_ask a.move.history a.session ≡ Some (ask_of ask)
now_asked ask a k = asked_now a.session (ask_of ask) a.move.history _ a.since k.is_since

-- what the event does to it
pub turn_of : MachineLaws → (ask : CommitAsk) (a : AskMove) → PlaceBefore ask a → ClientAt (state_after a.move).clients a.session a.next → SessionTransition a.move.history a.session a.client (items_of a.move) a.next
turn_of laws ask a k there = laws.turns a.move.state a.move.history a.move.event a.move.fate a.session a.client a.next k.tells k.at there

-- one event later
pub place_later : MachineLaws → (ask : CommitAsk) (a : AskMove) → PlaceBefore ask a → ExplainedInvariant (state_after a.move) (history_after a.move) → ClientAt (state_after a.move).clients a.session a.next → AllNot (Session a.session) (items_of a.move) → PlaceBehind ask a
place_later laws ask a k now there none =
    let v : Move = a.move in
    let s : ℕ = a.session in
    let asked : its_ask v.history s ≡ Some (ask_of ask) = now_asked ask a k in
    record {
      tells = now;
      ends = laws.keeps v.state v.history v.event v.fate k.tells k.ends;
      is_since = since_more s (ask_of ask) v.history _ a.since (items_of v) k.is_since none;
      at = there;
      trail = trail_next s ask.node ask.start v.history a.since (items_of v) a.client a.next asked none k.trail (turn_of laws ask a k there);
      unwaited = λ commit m. elim (in_append (item.Refused (Session s) (cause.NotYet commit)) a.since (items_of v) m) [
        | inl here ↦ k.unwaited commit here
        | inr told ↦ not_begin v.history s ask.node ask.start asked (laws.begins v.state v.history v.event v.fate s (item.Refused (Session s) (cause.NotYet commit)) k.tells told refl)
      ];
    }

-- the event between the two
pub passed_of : (ask : CommitAsk) (a : AskMove) → PlaceBefore ask a → PlaceBehind ask a → AllNot (Session a.session) (items_of a.move) → Passed (ask_of ask) (asked_upto a.session ask) a
passed_of ask a k l none = record { tells = k.tells; ends = k.ends; now = l.tells; ended = l.ends; is_since = k.is_since; at = k.at; there = l.at; none = none }

-- the transaction writes no further key
pub keys_before : (s : ℕ) (ask : CommitAsk) (w : State) (h since : List Item) (c : Client) → Place s ask w h since c → written_keys h ask.start ≡ written_keys ask.before ask.start
keys_before s ask w h since c k = k.ends.closed.keys ask.before since s ask.node ask.start (k.is_since.is ∙ append_assoc ask.before (item.AskCommit s ask.node ask.start ∷ []) since)

pub keys_same : (ask : CommitAsk) (a : AskMove) → PlaceBefore ask a → PlaceBehind ask a → written_keys (history_after a.move) ask.start ≡ written_keys a.move.history ask.start
keys_same ask a k l = keys_before a.session ask (state_after a.move) (history_after a.move) (since_after a) a.next l ∙ sym (keys_before a.session ask a.move.state a.move.history a.since a.client k)

gone_not : (s : ℕ) (ask : CommitAsk) (w : State) (h since : List Item) (c : Client) → Place s ask w h since c → HasVanished w.clients h s → ⊥
gone_not s ask w h since c k v = stays_there s (ask_of ask) h _ since k.is_since v.told

-- ---- what is left to be done of the commit
pub record Settled (s t : ℕ) (h since : List Item) (c : Client) : Type 0 where
  pub removed : IsRemoved s since
  pub erased : IsErased h s (Some t) since
  pub stays : (c.entry.state ≡ phase.Free) ⊎ (WasOpen s since × (after_open c.entry.state ≡ true))

pub record Erasing (s t : ℕ) (h since : List Item) (c : Client) (keys : List ℕ) : Type 0 where
  pub front : List Item
  pub behind : List Item
  pub why : Cause
  pub is : since ≡ front ++ item.Refused (Session s) why ∷ behind
  pub leaves : leaves_cells why ≡ true
  pub none : NoneEnds s behind
  pub undone : IsUndone c.entry.state
  pub left : (key : ℕ) → key ∈ written_keys h t → (key ∈ keys) ⊎ (item.Step (Session s) (step.Erase key t) ∈ behind)

abbrev pub CommitComes : ℕ → ℕ → ℕ → List Item → List Item → Client → List ℕ → Owed → Type 0
CommitComes s n t h since c keys Nothing = (item.Fault (Node n) Master ∈ since) ⊎ ((open_asks_of h n s ≡ 0) × Settled s t h since c)
CommitComes s n t h since c keys (Read key) = ⊥
CommitComes s n t h since c keys (Answer asked d) = asked ≡ n
CommitComes s n t h since c keys Denied = WasDenied s since
CommitComes s n t h since c keys (Removal start) = open_asks_of h n s ≡ 0
CommitComes s n t h since c keys Erasure = (open_asks_of h n s ≡ 0) × Erasing s t h since c keys
CommitComes s n t h since c keys Quiet = open_asks_of h n s ≡ 0

-- ---- one event later
removed_more : (s : ℕ) (since items : List Item) → IsRemoved s since → ((start commit : ℕ) → item.Committed s start commit ∈ items → WasOpen s since) → IsRemoved s (since ++ items)
removed_more s since items removed told before behind start commit is = elim (split_cases since items before behind (item.Committed s start commit) is) [
  | inl k ↦ elim (removed before k.rest start commit k.is) [
    | inl was ↦ inl was
    | inr (inl made) ↦ inr (inl (subst (λ (xs : List Item). item.Step (Session s) (step.Remove start) ∈ xs) (sym k.behind_is) (in_front _ k.rest items made)))
    | inr (inr failed) ↦ inr (inr (failed.0, subst (λ (xs : List Item). item.Fault (Session s) failed.0 ∈ xs) (sym k.behind_is) (in_front _ k.rest items failed.1)))
  ]
  | inr k ↦
      let was : WasOpen s since = told start commit (in_split items k.front behind (item.Committed s start commit) k.is) in
      inl (was.0, subst (λ (xs : List Item). item.Refused (Session s) (cause.Open was.0) ∈ xs) (sym k.before_is) (in_front _ since k.front was.1))
]

erased_more : (s t : ℕ) (h g since items : List Item) → written_keys g t ≡ written_keys h t → IsErased h s (Some t) since → NoLeaving s items → IsErased g s (Some t) (since ++ items)
erased_more s t h g since items same erased none before behind why is leaves = elim (split_cases since items before behind (item.Refused (Session s) why) is) [
  | inl k ↦ elim (erased before k.rest why k.is leaves) [
    | inl made ↦ inl (λ key m. subst (λ (xs : List Item). item.Step (Session s) (step.Erase key t) ∈ xs) (sym k.behind_is) (in_front _ k.rest items (made key (subst (λ (keys : List ℕ). key ∈ keys) same m))))
    | inr failed ↦ inr (failed.0, subst (λ (xs : List Item). item.Fault (Session s) failed.0 ∈ xs) (sym k.behind_is) (in_front _ k.rest items failed.1))
  ]
  | inr k ↦ absurd (none why (in_split items k.front behind (item.Refused (Session s) why) k.is) leaves)
]

settled_later : MachineLaws → (ask : CommitAsk) (a : AskMove) → PlaceBefore ask a → PlaceBehind ask a → AllNot (Session a.session) (items_of a.move) → Settled a.session ask.start a.move.history a.since a.client → Settled a.session ask.start (history_after a.move) (since_after a) a.next
settled_later laws ask a k l none settled =
    let s : ℕ = a.session in
    let h : List Item = a.move.history in
    let items : List Item = items_of a.move in
    let asked : its_ask h s ≡ Some (ask_of ask) = now_asked ask a k in
    let turn : SessionTransition h s a.client items a.next = turn_of laws ask a k l.at in
    let same : written_keys (h ++ items) ask.start ≡ written_keys h ask.start = keys_same ask a k l in
    elim settled.stays [
      | inl free ↦
          let still = free_turn s ask.node ask.start h a.since items a.client a.next asked none k.trail free turn in
          record {
            removed = removed_more s a.since items settled.removed (λ start commit m. absurd (still.1 (item.Committed s start commit) m refl));
            erased = erased_more s ask.start h (h ++ items) a.since items same settled.erased (λ why m leaves. still.1 (item.Refused (Session s) why) m (refl, leaves_ends why leaves));
            stays = inl still.0;
          }
      | inr open_now ↦
          let still = open_turn s ask.node ask.start h a.since items a.client a.next asked none k.trail open_now.1 turn in
          record {
            removed = removed_more s a.since items settled.removed (λ start commit m. open_now.0);
            erased = erased_more s ask.start h (h ++ items) a.since items same settled.erased still.1;
            stays = inr ((open_now.0.0, in_front _ a.since items open_now.0.1), still.0);
          }
    ]

erasing_later : MachineLaws → (ask : CommitAsk) (a : AskMove) (keys : List ℕ) → PlaceBefore ask a → PlaceBehind ask a → AllNot (Session a.session) (items_of a.move) → Erasing a.session ask.start a.move.history a.since a.client keys → Erasing a.session ask.start (history_after a.move) (since_after a) a.next keys
erasing_later laws ask a keys k l none erasing =
    let s : ℕ = a.session in
    let h : List Item = a.move.history in
    let items : List Item = items_of a.move in
    let same : written_keys (h ++ items) ask.start ≡ written_keys h ask.start = keys_same ask a k l in
    let still = undone_turn s ask.node ask.start h a.since items a.client a.next (now_asked ask a k) none k.trail erasing.undone (turn_of laws ask a k l.at) in
    record {
      front = erasing.front;
      behind = erasing.behind ++ items;
      why = erasing.why;
      is = ap (λ (xs : List Item). xs ++ items) erasing.is ∙ append_assoc erasing.front (item.Refused (Session s) erasing.why ∷ erasing.behind) items;
      leaves = erasing.leaves;
      none = none_append (EndsCommit s) erasing.behind items erasing.none still.1;
      undone = still.0;
      left = λ key m. elim (erasing.left key (subst (λ (all : List ℕ). key ∈ all) same m)) [
        | inl there ↦ inl there
        | inr made ↦ inr (in_front _ erasing.behind items made)
      ];
    }

over_later : MachineLaws → (ask : CommitAsk) (a : AskMove) → PlaceBefore ask a → PlaceBehind ask a → AllNot (Session a.session) (items_of a.move) → open_asks_of a.move.history ask.node a.session ≡ 0 → open_asks_of (history_after a.move) ask.node a.session ≡ 0
over_later laws ask a k l none over = stays_over laws (ask_of ask) _ a (passed_of ask a k l none) over

pub commit_later : MachineLaws → (ask : CommitAsk) (a : AskMove) (keys : List ℕ) (owed : Owed) → PlaceBefore ask a → PlaceBehind ask a → AllNot (Session a.session) (items_of a.move) →
    CommitComes a.session ask.node ask.start a.move.history a.since a.client keys owed → CommitComes a.session ask.node ask.start (history_after a.move) (since_after a) a.next keys owed
commit_later laws ask a keys Nothing k l none (inl failed) = inl (in_front _ a.since (items_of a.move) failed)
commit_later laws ask a keys Nothing k l none (inr over) = inr (over_later laws ask a k l none over.0, settled_later laws ask a k l none over.1)
commit_later laws ask a keys (Read key) k l none comes = absurd comes
commit_later laws ask a keys (Answer asked d) k l none comes = comes
commit_later laws ask a keys Denied k l none comes = (comes.0, in_front _ a.since (items_of a.move) comes.1)
commit_later laws ask a keys (Removal start) k l none comes = over_later laws ask a k l none comes
commit_later laws ask a keys Erasure k l none comes = (over_later laws ask a k l none comes.0, erasing_later laws ask a keys k l none comes.1)
commit_later laws ask a keys Quiet k l none comes = over_later laws ask a k l none comes

-- ---- a session that rests has done what there was to do
held_one : (i : InstanceEntry) (s : ℕ) (held : Held) → held_of i s ≡ Some held → held_count (Some i) s ≡ 1
held_one i s held is = ap (λ (x : Option Held). if is_some x then 1 else 0) is

node_for : (n : ℕ) (r : Request) → (ask_for n r).node ≡ n
node_for n (request.Begin session) = refl
node_for n (request.Commit session start keys) = refl

-- its request is no longer held
not_committing : (s : ℕ) (ask : CommitAsk) (w : State) (h since : List Item) (c : Client) → Place s ask w h since c → open_asks_of h ask.node s ≡ 0 → c.entry.state ≡ phase.Committing → ⊥
not_committing s ask w h since c k over committing =
    let held : IsHeld w.nodes s = k.ends.awaited.each s c k.at committing in
    let asked : its_ask h s ≡ Some (ask_for held.node held.held.request) = k.tells.shows.asked.asked held.node s held.i held.held.request held.held.progress held.at (held_by held.i s held.held held.has) in
    let node : held.node ≡ ask.node = sym (node_for held.node held.held.request) ∙ ap (λ (a : Ask). a.node) (same_Some _ _ (sym asked ∙ asked_now s (ask_of ask) h _ since k.is_since)) in
    let one : open_asks_of h held.node s ≡ 1 = k.tells.shows.open_asks.each held.node s (Some held.i) held.at ∙ held_one held.i s held.held held.has in
    let here : open_asks_of h ask.node s ≡ 1 = subst (λ (m : ℕ). open_asks_of h m s ≡ 1) node one in
    absurd (omega (arith, over, here))

rest_state : (state : SessionState) → of_commit state ≡ true → rests state ≡ true → (state ≡ phase.Committing) ⊎ ((state ≡ phase.Free) ⊎ (state ≡ phase.OpenOutcome))
rest_state phase.Committing of rest = inl refl
rest_state phase.Free of rest = inr (inl refl)
rest_state phase.OpenOutcome of rest = inr (inr refl)
rest_state phase.Asking of rest = absurd (cc)
rest_state phase.Open of rest = absurd (cc)
rest_state phase.Gone of rest = absurd (cc)
rest_state phase.Placing of rest = absurd (cc)
rest_state (phase.Completing undo) of rest = absurd (cc)

has_come : (w : State) (h : List Item) (s start : ℕ) (undo : Bool) (asked : asks.Ask) (made : Item) (behind : List Item) → Comes w.clients h s start undo asked made behind → (HasVanished w.clients h s → ⊥) → (IsToAsk w.clients s start undo asked → ⊥) → (made ∈ behind) ⊎ HasFailed s behind
has_come w h s start undo asked made behind (Made m) there done = inl m
has_come w h s start undo asked made behind (Failed store m) there done = inr (store, m)
has_come w h s start undo asked made behind (Vanished v) there done = absurd (there v)
has_come w h s start undo asked made behind (Left k) there done = absurd (done k)

pub removed_now : (s : ℕ) (ask : CommitAsk) (w : State) (h since : List Item) (c : Client) → Place s ask w h since c → (c.entry.state ≡ phase.Completing false → ⊥) → IsRemoved s since
removed_now s ask w h since c k idle front behind start commit is =
    let come = k.ends.removed.each _ behind s start commit (place_in s (ask_of ask) h _ since front behind (item.Committed s start commit) k.is_since is) in
    inr (has_come w h s start false _ _ behind come (gone_not s ask w h since c k)
    (λ left. idle (ap (λ (x : Client). x.entry.state) (one_client w.clients s c left.client k.at left.at) ∙ left.completes)))

-- for all keys, or a call has failed
all_or : (P : ℕ → Type 0) (Q : Type 0) (keys : List ℕ) → ((key : ℕ) → key ∈ keys → P key ⊎ Q) → ((key : ℕ) → key ∈ keys → P key) ⊎ Q
unfolding ◌∈◌
all_or P Q [] each = inl (λ key m. absurd m)
all_or P Q (k ∷ keys) each = elim (each k (inl refl)) [
  | inr q ↦ inr q
  | inl here ↦ elim (all_or P Q keys (λ key m. each key (inr m))) [
    | inr q ↦ inr q
    | inl rest ↦ inl (λ key m. elim m [ inl same ↦ subst P (sym same) here | inr there ↦ rest key there ])
  ]
]

erased_now : (s : ℕ) (ask : CommitAsk) (w : State) (h since : List Item) (c : Client) → Place s ask w h since c → (c.entry.state ≡ phase.Completing true → ⊥) → IsErased h s (Some ask.start) since
erased_now s ask w h since c k idle front behind why is leaves =
    all_or (λ key. item.Step (Session s) (step.Erase key ask.start) ∈ behind) (HasFailed s behind) (written_keys h ask.start) (λ key m.
    let come = k.ends.erased.each _ behind s ask.node ask.start key why (place_in s (ask_of ask) h _ since front behind (item.Refused (Session s) why) k.is_since is) leaves
    (asked_at s (ask_of ask) h _ since front k.is_since (none_before s (ask_of ask) h _ since front behind (item.Refused (Session s) why) k.is_since is)) m in
    has_come w h s ask.start true _ _ behind come (gone_not s ask w h since c k)
    (λ left. idle (ap (λ (x : Client). x.entry.state) (one_client w.clients s c left.client k.at left.at) ∙ left.completes)))

settled_at : (s : ℕ) (ask : CommitAsk) (w : State) (h since : List Item) (c : Client) → Place s ask w h since c → (state : SessionState) → c.entry.state ≡ state → (state ≡ phase.Completing false → ⊥) → (state ≡ phase.Completing true → ⊥) → ((c.entry.state ≡ phase.Free) ⊎ (WasOpen s since × (after_open c.entry.state ≡ true))) → Settled s ask.start h since c
settled_at s ask w h since c k state is finishes undoes stays = record {
  removed = removed_now s ask w h since c k (λ now. finishes (sym is ∙ now));
  erased = erased_now s ask w h since c k (λ now. undoes (sym is ∙ now));
  stays = stays;
}

pub settled_at_rest : (s : ℕ) (ask : CommitAsk) (w : State) (h since : List Item) (c : Client) → Place s ask w h since c → open_asks_of h ask.node s ≡ 0 → rests c.entry.state ≡ true → Settled s ask.start h since c
settled_at_rest s ask w h since c k over rest = elim (rest_state c.entry.state k.trail.state_is rest) [
  | inl committing ↦ absurd (not_committing s ask w h since c k over committing)
  | inr (inl free) ↦ settled_at s ask w h since c k phase.Free free (λ is. cc) (λ is. cc) (inl free)
  | inr (inr open_now) ↦
      let told = k.ends.outcomes.told s c k.at open_now in
      settled_at s ask w h since c k phase.OpenOutcome open_now (λ is. cc) (λ is. cc)
      (inr ((told.start, subst (λ (xs : List Item). item.Refused (Session s) (cause.Open told.start) ∈ xs) (since_now s (ask_of ask) h _ since k.is_since) told.told), ap after_open open_now))
]
