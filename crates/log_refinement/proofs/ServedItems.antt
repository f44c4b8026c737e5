-- The walk of a history along an actor's lines, over the items of one entry: what a line has begun, and what is owed of it.
use Rattle.log_refinement.proofs.Names.{◌≡◌, ℕ, ◌==◌, ◌<◌, Bool, true, false, if◌then◌else◌, List, [], ◌∷◌, ◌++◌}
use Rattle.log_refinement.proofs.Names.{Option, Some, None, ◌⊎◌, inl, inr, refl, sym, ◌∙◌, ap, subst, append_assoc}
use Rattle.log_refinement.proofs.Names.{arith, length, same_Some, SetupNumbers, and_parts, cases_Bool, eqb-true}
use Rattle.log_refinement.proofs.Names.{append-nil, Fate, ◌∈◌, Actor, Clock, Node, Session, Janitor, Item, in_front}
use Rattle.log_refinement.proofs.Names.{in_back, State, Ask, ScriptData, Line, Target, Verb, IsAnswer, asks_last}
use Rattle.log_refinement.proofs.Names.{last_master, ActorFits, TargetFits, VerbFits, found, AllNot, Event, timed_at}
use Rattle.log_refinement.proofs.Names.{Due, Owed, OwesNothing, Read, Answer, Denied, Removal, Erasure, Quiet}
use Rattle.log_refinement.proofs.Names.{ends_read, Standing, with_item, with_items, is_paid, is_due, due_after}
use Rattle.log_refinement.proofs.Names.{denies_request, when_due, after_due, repeats, after_repeat, is_step, opened}
use Rattle.log_refinement.proofs.Names.{standing_with, first_event, others_serve, HasCrashed, WasDenied, IsLeft}
use Rattle.log_refinement.proofs.Names.{HasCome, Begun, Reads, Asks, begun_by, begun_after, HasEnded, AnsweredServed}
use Rattle.history_book.specs.declared.item.StoreStep.TheVariants as step
use Rattle.history_book.specs.declared.item.Item.TheVariants as item
use Rattle.machine.specs.declared.event.Event.TheVariants as made
use Rattle.script_data.specs.declared.line.Target.TheVariants as target
use Rattle.script_data.specs.declared.line.Verb.TheVariants as verb
use Rattle.split_parts.specs.declared.event.Event.TheVariants as event
use Rattle.log_refinement.specs.declared.owed.Due.TheVariants as due
use Rattle.log_refinement.specs.Served.{Nothing}
use Rattle.log_refinement.proofs.AskFacts.{MachineLaws, if_either, was_denied, EndsBy}
use Rattle.log_refinement.proofs.DueRequests.{HeldAt, NodeShows}
use Rattle.log_refinement.proofs.ShownRequests.{AsksNode, crashed_or_not}
use Rattle.log_refinement.proofs.AskPlaces.{Known, KnownBehind, client_there, AskStands, Between, between, begin_first, CommitAsked, commit_first, stands_later, stands_own, stands_silent, own_says, ask_ended}
use Rattle.log_refinement.proofs.BeginAsks.{begin_ask}
use Rattle.log_refinement.proofs.CommitTrails.{commit_ask}
use Rattle.log_refinement.proofs.KeptKeys.{KeysKept}
use Rattle.log_refinement.proofs.Moves.{Move, items_of, state_after, history_after}
use Rattle.log_refinement.proofs.WalkedItems.{still_owed, paid_read}

-- ---- what was begun, after items
unfoldable pub begun_over : Actor → Begun → List Item → Begun
begun_over actor begun [] = begun
begun_over actor begun (x ∷ xs) = begun_over actor (begun_after actor begun x) xs

pub shift : (script : ScriptData) (actor : Actor) (h : List Item) (begun : Begun) (lines : List Line) (x : Item) (xs later : List Item) → AnsweredServed (HasEnded script) actor (h ++ x ∷ xs) begun lines later → AnsweredServed (HasEnded script) actor ((h ++ x ∷ []) ++ xs) begun lines later
shift script actor h begun lines x xs later walks = subst (λ (before : List Item). AnsweredServed (HasEnded script) actor before begun lines later) (sym (append_assoc h (x ∷ []) xs)) walks

-- items that open no line of the actor
pub walks_over : (script : ScriptData) (actor : Actor) (h : List Item) (begun : Begun) (lines : List Line) (xs later : List Item) → AllNot actor xs → AnsweredServed (HasEnded script) actor (h ++ xs) (begun_over actor begun xs) lines later → AnsweredServed (HasEnded script) actor h begun lines (xs ++ later)
unfolding AllNot AnsweredServed begun_over
walks_over script actor h begun lines [] later none walks = subst (λ (before : List Item). AnsweredServed (HasEnded script) actor before begun lines later) (append-nil h) walks
walks_over script actor h begun [] (x ∷ xs) later none walks = (none.0, walks_over script actor (h ++ x ∷ []) (begun_after actor begun x) [] xs later none.1 (shift script actor h (begun_over actor (begun_after actor begun x) xs) [] x xs later walks))
walks_over script actor h begun (line ∷ lines) (x ∷ xs) later none walks = inr (none.0, walks_over script actor (h ++ x ∷ []) (begun_after actor begun x) (line ∷ lines) xs later none.1 (shift script actor h (begun_over actor (begun_after actor begun x) xs) (line ∷ lines) x xs later walks))

pub nothing_over : (actor : Actor) (xs : List Item) → begun_over actor Nothing xs ≡ Nothing
unfolding begun_over
nothing_over actor [] = refl
nothing_over actor (x ∷ xs) = nothing_over actor xs

asks_over : (actor : Actor) (s : ℕ) (ask : Ask) (since xs : List Item) → begun_over actor (Asks s ask since) xs ≡ Asks s ask (since ++ xs)
unfolding begun_over
asks_over actor s ask since [] = ap (λ (zs : List Item). Asks s ask zs) (sym (append-nil since))
asks_over actor s ask since (x ∷ xs) = asks_over actor s ask (since ++ x ∷ []) xs ∙ ap (λ (zs : List Item). Asks s ask zs) (append_assoc since (x ∷ []) xs)

-- a read is over, or goes on
reads_over : (actor : Actor) (key : ℕ) (xs : List Item) → (begun_over actor (Reads key) xs ≡ Nothing) ⊎ (begun_over actor (Reads key) xs ≡ Reads key)
unfolding begun_over
reads_over actor key [] = inr refl
reads_over actor key (x ∷ xs) = elim (cases_Bool (ends_read actor key x)) [
  | inl ends ↦ inl (ap (λ (b : Bool). begun_over actor (if b then Nothing else Reads key) xs) ends ∙ nothing_over actor xs)
  | inr on ↦ elim (reads_over actor key xs) [
    | inl over ↦ inl (ap (λ (b : Bool). begun_over actor (if b then Nothing else Reads key) xs) on ∙ over)
    | inr still ↦ inr (ap (λ (b : Bool). begun_over actor (if b then Nothing else Reads key) xs) on ∙ still)
  ]
]

reads_own : (actor : Actor) (steps : Bool) (key : ℕ) (st : Standing) (xs : List Item) → st.owed ≡ Read key → (begun_over actor (Reads key) xs ≡ Nothing) ⊎ ((begun_over actor (Reads key) xs ≡ Reads key) × ((with_items actor steps st xs).owed ≡ Read key))
unfolding begun_over with_items
reads_own actor steps key st [] is = inr (refl, is)
reads_own actor steps key st (x ∷ xs) is = elim (cases_Bool (ends_read actor key x)) [
  | inl ends ↦ inl (ap (λ (b : Bool). begun_over actor (if b then Nothing else Reads key) xs) ends ∙ nothing_over actor xs)
  | inr on ↦ elim (reads_own actor steps key (with_item actor steps st x) xs (still_owed actor steps key st.owed x is on)) [
    | inl over ↦ inl (ap (λ (b : Bool). begun_over actor (if b then Nothing else Reads key) xs) on ∙ over)
    | inr still ↦ inr (ap (λ (b : Bool). begun_over actor (if b then Nothing else Reads key) xs) on ∙ still.0, still.1)
  ]
]

-- ---- what was begun, and what is owed of it
pub record OfAsk (script : ScriptData) (actor : Actor) (s : ℕ) (ask : Ask) (w : State) (h since : List Item) (st : Standing) : Type 0 where
  pub own : actor ≡ Session s
  pub session : s < 16
  pub node : ask.node < w.setup.nodes
  pub stands : AskStands s ask.node ask.start w h since st
  pub shown : others_serve script s ≡ false → (HasCrashed ask.node since → ⊥) → NodeShows w.nodes ask.node s st.owed

abbrev pub ComesTo : ScriptData → Actor → State → List Item → Standing → Begun → Type 0
ComesTo script actor w h st Nothing = Unit {0}
ComesTo script actor w h st (Reads key) = st.owed ≡ Read key
ComesTo script actor w h st (Asks s ask since) = OfAsk script actor s ask w h since st

own_none : (actor : Actor) (s : ℕ) (items : List Item) → actor ≡ Session s → AllNot actor items → AllNot (Session s) items
own_none actor s items own none = subst (λ (a : Actor). AllNot a items) own none

crashed_front : (n : ℕ) (since items : List Item) → HasCrashed n since → HasCrashed n (since ++ items)
crashed_front n since items k = (k.0, in_front _ since items k.1)

crashed_back : (n : ℕ) (since items : List Item) → HasCrashed n items → HasCrashed n (since ++ items)
crashed_back n since items k = (k.0, in_back _ since items k.1)

-- what is known before and behind a move; the numbers of the setup stay
pub record Moved (v : Move) : Type 0 where
  pub k : Known v.state v.history
  pub l : KnownBehind v
  pub setup : (state_after v).setup.nodes ≡ v.state.setup.nodes

-- an event of another log
-- the event leaves what the node of another's ask shows
abbrev pub LeavesShown : ScriptData → Actor → Move → Type 0
LeavesShown script actor v = (s n : ℕ) (owed : Owed) → actor ≡ Session s → others_serve script s ≡ false → (HasCrashed n (items_of v) → ⊥) → NodeShows v.state.nodes n s owed → NodeShows (state_after v).nodes n s owed

asks_past : MachineLaws → (script : ScriptData) (actor : Actor) (s : ℕ) (ask : Ask) (v : Move) (since : List Item) (st : Standing) → Moved v → LeavesShown script actor v → AllNot actor (items_of v) → OfAsk script actor s ask v.state v.history since st → OfAsk script actor s ask (state_after v) (history_after v) (since ++ items_of v) st
asks_past laws script actor s ask v since st moved leaves none of = record {
  own = of.own;
  session = of.session;
  node = subst (λ (n : ℕ). ask.node < n) (sym moved.setup) of.node;
  stands = stands_later laws s ask.node ask.start v since st (between s v of.session moved.k moved.l (own_none actor s (items_of v) of.own none)) of.stands;
  shown = λ alone standing. leaves s ask.node st.owed of.own alone (λ k. standing (crashed_back ask.node since (items_of v) k)) (of.shown alone (λ k. standing (crashed_front ask.node since (items_of v) k)));
}

-- what has come behind a move of what was begun
abbrev ComesBehind : ScriptData → Actor → Move → Standing → Begun → Type 0
ComesBehind script actor v st begun = ComesTo script actor (state_after v) (history_after v) st begun

pub comes_past : MachineLaws → (script : ScriptData) (actor : Actor) (v : Move) (st : Standing) (begun : Begun) → Moved v → LeavesShown script actor v → AllNot actor (items_of v) → ComesTo script actor v.state v.history st begun → ComesBehind script actor v st (begun_over actor begun (items_of v))
comes_past laws script actor v st Nothing moved leaves none comes = subst (λ (b : Begun). ComesBehind script actor v st b) (sym (nothing_over actor (items_of v))) tt
comes_past laws script actor v st (Reads key) moved leaves none comes = elim (reads_over actor key (items_of v)) [
  | inl over ↦ subst (λ (b : Begun). ComesBehind script actor v st b) (sym over) tt
  | inr still ↦ subst (λ (b : Begun). ComesBehind script actor v st b) (sym still) comes
]
comes_past laws script actor v st (Asks s ask since) moved leaves none comes = subst (λ (b : Begun). ComesBehind script actor v st b) (sym (asks_over actor s ask since (items_of v))) (asks_past laws script actor s ask v since st moved leaves none comes)

-- ---- an event of its own that opens no line
-- the standing behind it
abbrev pub gone_by : Actor → Standing → Event → List Item → Standing
gone_by actor st e items = record (with_items actor (is_step e) st items) { owed = after_repeat actor e items (after_due actor e items (with_items actor (is_step e) st items).owed) }

step_is : (base : ℕ) (leads : List ℕ) (master : ℕ) (e : Event) → is_step e ≡ true → (r : ℕ) × (timed_at base leads master e ≡ made.Step r)
step_is base leads master (event.Step session) is = (session, refl)
step_is base leads master _ is = absurd (cc)

-- an answer that repeats is of the ask, and says nothing
pub record Repeats (s n : ℕ) (e : Event) (items : List Item) : Type 0 where
  pub is : e ≡ event.Answer n s
  pub none : items ≡ []

repeats_is : (s n : ℕ) (e : Event) (items : List Item) → repeats (Session s) n e items ≡ true → Repeats s n e items
repeats_is s n (event.Answer node session) [] is =
    let both = and_parts (session == s) (node == n) is in
    record { is = ap (λ (m : ℕ). event.Answer m session) (eqb-true node n both.1) ∙ ap (λ (q : ℕ). event.Answer n q) (eqb-true session s both.0); none = refl }
repeats_is s n _ _ is = absurd (cc)

answer_node : (s n : ℕ) (start : Option ℕ) (w : State) (h since : List Item) (asked : ℕ) (d : Due) (st : Standing) → AskStands s n start w h since (record st { owed = Answer asked d }) → asked ≡ n
answer_node s n None w h since asked d st stands = stands.comes
answer_node s n (Some t) w h since asked d st stands = stands.comes

repeat_by : (s n : ℕ) (start : Option ℕ) (w : State) (h since : List Item) (e : Event) (items : List Item) (owed : Owed) (st : Standing) → (Repeats s n e items → AskStands s n start w h since (record st { owed = OwesNothing })) → AskStands s n start w h since (record st { owed = owed }) →
    AskStands s n start w h since (record st { owed = after_repeat (Session s) e items owed })
repeat_by s n start w h since e items (Answer asked d) st silent stands =
    let asked_is : asked ≡ n = answer_node s n start w h since asked d st stands in
    if_either (λ o. AskStands s n start w h since (record st { owed = o })) (repeats (Session s) asked e items) OwesNothing (Answer asked d)
    (λ is. silent (subst (λ (m : ℕ). Repeats s m e items) asked_is (repeats_is s asked e items is))) (λ other. stands)
repeat_by s n start w h since e items OwesNothing st silent stands = stands
repeat_by s n start w h since e items Denied st silent stands = stands
repeat_by s n start w h since e items (Read key) st silent stands = stands
repeat_by s n start w h since e items (Removal txn) st silent stands = stands
repeat_by s n start w h since e items Erasure st silent stands = stands
repeat_by s n start w h since e items Quiet st silent stands = stands

-- with another thing owed: an answer of the same node, or that it was denied
with_answer : (s n : ℕ) (start : Option ℕ) (w : State) (h since : List Item) (asked : ℕ) (d e : Due) (st : Standing) → AskStands s n start w h since (record st { owed = Answer asked d }) → AskStands s n start w h since (record st { owed = Answer asked e })
with_answer s n None w h since asked d e st stands = record { upto = stands.upto; is_since = stands.is_since; none = stands.none; comes = stands.comes }
with_answer s n (Some t) w h since asked d e st stands = record { before = stands.before; c = stands.c; place = stands.place; has = stands.has; comes = stands.comes }

with_denial : (s n : ℕ) (start : Option ℕ) (w : State) (h since : List Item) (owed : Owed) (st : Standing) → WasDenied s since → AskStands s n start w h since (record st { owed = owed }) → AskStands s n start w h since (record st { owed = Denied })
with_denial s n None w h since owed st denied stands = record { upto = stands.upto; is_since = stands.is_since; none = stands.none; comes = denied }
with_denial s n (Some t) w h since owed st denied stands = record { before = stands.before; c = stands.c; place = stands.place; has = stands.has; comes = denied }

when_by : (s n : ℕ) (start : Option ℕ) (w : State) (h since items : List Item) (asked : ℕ) (d : Due) (st : Standing) → AskStands s n start w h (since ++ items) (record st { owed = Answer asked d }) → AskStands s n start w h (since ++ items) (record st { owed = when_due (Session s) asked d items })
unfolding ◌∈◌
when_by s n start w h since [] asked d st stands = stands
when_by s n start w h since (x ∷ xs) asked d st stands =
    if_either (λ o. AskStands s n start w h (since ++ x ∷ xs) (record st { owed = o })) (denies_request (Session s) x) Denied (Answer asked (due_after d x))
    (λ denies. with_denial s n start w h (since ++ x ∷ xs) (Answer asked d) st (was_denied s since (x ∷ xs) x (inl refl) denies) stands)
    (λ other. with_answer s n start w h (since ++ x ∷ xs) asked d (due_after d x) st stands)

due_by_event : (s n : ℕ) (start : Option ℕ) (w : State) (h since items : List Item) (e : Event) (owed : Owed) (st : Standing) → AskStands s n start w h (since ++ items) (record st { owed = owed }) → AskStands s n start w h (since ++ items) (record st { owed = after_due (Session s) e items owed })
due_by_event s n start w h since items e (Answer asked d) st stands =
    if_either (λ o. AskStands s n start w h (since ++ items) (record st { owed = o })) (is_due (Session s) asked d e) (when_due (Session s) asked d items) (Answer asked d) (λ is. when_by s n start w h since items asked d st stands) (λ other. stands)
due_by_event s n start w h since items e OwesNothing st stands = stands
due_by_event s n start w h since items e Denied st stands = stands
due_by_event s n start w h since items e (Read key) st stands = stands
due_by_event s n start w h since items e (Removal txn) st stands = stands
due_by_event s n start w h since items e Erasure st stands = stands
due_by_event s n start w h since items e Quiet st stands = stands

no_items : (s : ℕ) (steps : Bool) (st : Standing) (items : List Item) → items ≡ [] → with_items (Session s) steps st items ≡ st
unfolding with_items
no_items s steps st items none = ap (λ (xs : List Item). with_items (Session s) steps st xs) none

-- an event of the log, made in the time of a place of a history
pub record TimedMove : Type 0 where
  pub state : State
  pub history : List Item
  pub base : ℕ
  pub leads : List ℕ
  pub master : ℕ
  pub event : Event
  pub fate : Fate

abbrev pub made_of : TimedMove → Move
made_of g = record { state = g.state; history = g.history; event = timed_at g.base g.leads g.master g.event; fate = g.fate }

own_stands : MachineLaws → (s n : ℕ) (start : Option ℕ) (g : TimedMove) (since : List Item) (st : Standing) → n < g.state.setup.nodes → Between s (made_of g) → AskStands s n start g.state g.history since st →
    AskStands s n start (state_after (made_of g)) (history_after (made_of g)) (since ++ items_of (made_of g)) (gone_by (Session s) st g.event (items_of (made_of g)))
own_stands laws s n start g since st less b stands =
    let v : Move = made_of g in
    let items : List Item = items_of v in
    let steps : Bool = is_step g.event in
    let one : Standing = with_items (Session s) steps st items in
    let post = found g.state.nodes n (let many : length g.state.nodes ≡ g.state.setup.nodes = b.k.fit.nodes in omega (arith, many, less)) in
    let behind : AskStands s n start (state_after v) (history_after v) (since ++ items) one = stands_own laws s n start v since steps st b (λ is x m. let r = step_is g.base g.leads g.master g.event is in own_says s r.0 v b r.1 x m) stands in
    repeat_by s n start (state_after v) (history_after v) (since ++ items) g.event items (after_due (Session s) g.event items one.owed) one
    (λ k. subst (λ (z : Standing). AskStands s n start (state_after v) (history_after v) (since ++ items) (record z { owed = OwesNothing })) (sym (no_items s steps st items k.none))
    (stands_silent laws s n start v since st b (record { post = post.0; here = post.1; answer = ap (λ (x : Event). timed_at g.base g.leads g.master x) k.is; none = k.none }) stands))
    (due_by_event s n start (state_after v) (history_after v) since items g.event one.owed one behind)

-- ---- an event of its own
read_stays : (actor : Actor) (e : Event) (items : List Item) (owed : Owed) (key : ℕ) → owed ≡ Read key → after_repeat actor e items (after_due actor e items owed) ≡ Read key
read_stays actor e items owed key is = ap (λ (o : Owed). after_repeat actor e items (after_due actor e items o)) is

-- an event of its own takes on what the node of its ask shows
abbrev pub TakesOn : ScriptData → Actor → TimedMove → Type 0
TakesOn script actor g =
    (s n : ℕ) (st : Standing) → actor ≡ Session s → others_serve script s ≡ false → AsksNode n st.owed → NodeShows g.state.nodes n s st.owed → NodeShows (state_after (made_of g)).nodes n s (gone_by (Session s) st g.event (items_of (made_of g))).owed

node_asked : (s n : ℕ) (start : Option ℕ) (w : State) (h since : List Item) (owed : Owed) (st : Standing) → AskStands s n start w h since (record st { owed = owed }) → AsksNode n owed
node_asked s n start w h since (Answer asked d) st stands = answer_node s n start w h since asked d st stands
node_asked s n start w h since OwesNothing st stands = tt
node_asked s n start w h since Denied st stands = tt
node_asked s n start w h since (Read key) st stands = tt
node_asked s n start w h since (Removal txn) st stands = tt
node_asked s n start w h since Erasure st stands = tt
node_asked s n start w h since Quiet st stands = tt

asks_on : MachineLaws → (script : ScriptData) (actor : Actor) (s : ℕ) (ask : Ask) (g : TimedMove) (since : List Item) (st : Standing) → Moved (made_of g) → TakesOn script actor g → AllNot actor (items_of (made_of g)) → OfAsk script actor s ask g.state g.history since st →
    OfAsk script actor s ask (state_after (made_of g)) (history_after (made_of g)) (since ++ items_of (made_of g)) (gone_by actor st g.event (items_of (made_of g)))
asks_on laws script actor s ask g since st moved takes none of =
    let v : Move = made_of g in
    let items : List Item = items_of v in
    record {
      own = of.own;
      session = of.session;
      node = subst (λ (n : ℕ). ask.node < n) (sym moved.setup) of.node;
      stands = subst (λ (a : Actor). AskStands s ask.node ask.start (state_after v) (history_after v) (since ++ items) (gone_by a st g.event items)) (sym of.own)
          (own_stands laws s ask.node ask.start g since st of.node (between s v of.session moved.k moved.l (own_none actor s items of.own none)) of.stands);
      shown = λ alone standing. subst (λ (a : Actor). NodeShows (state_after v).nodes ask.node s (gone_by a st g.event items).owed) (sym of.own)
          (takes s ask.node st of.own alone (node_asked s ask.node ask.start g.state g.history since st.owed st of.stands) (of.shown alone (λ k. standing (crashed_front ask.node since items k))));
    }

pub comes_on : MachineLaws → (script : ScriptData) (actor : Actor) (g : TimedMove) (st : Standing) (begun : Begun) → Moved (made_of g) → TakesOn script actor g → AllNot actor (items_of (made_of g)) → ComesTo script actor g.state g.history st begun →
    ComesBehind script actor (made_of g) (gone_by actor st g.event (items_of (made_of g))) (begun_over actor begun (items_of (made_of g)))
comes_on laws script actor g st Nothing moved takes none comes =
    let items : List Item = items_of (made_of g) in
    subst (λ (b : Begun). ComesBehind script actor (made_of g) (gone_by actor st g.event items) b) (sym (nothing_over actor items)) tt
comes_on laws script actor g st (Reads key) moved takes none comes =
    let v : Move = made_of g in
    let items : List Item = items_of v in
    elim (reads_own actor (is_step g.event) key st items comes) [
      | inl over ↦ subst (λ (b : Begun). ComesBehind script actor v (gone_by actor st g.event items) b) (sym over) tt
      | inr still ↦ subst (λ (b : Begun). ComesBehind script actor v (gone_by actor st g.event items) b) (sym still.0) (read_stays actor g.event items (with_items actor (is_step g.event) st items).owed key still.1)
    ]
comes_on laws script actor g st (Asks s ask since) moved takes none comes =
    let items : List Item = items_of (made_of g) in
    subst (λ (b : Begun). ComesBehind script actor (made_of g) (gone_by actor st g.event items) b) (sym (asks_over actor s ask since items)) (asks_on laws script actor s ask g since st moved takes none comes)

-- ---- once nothing is owed
ended_by : (script : ScriptData) (s : ℕ) (ask : Ask) (w : State) (h since : List Item) (st : Standing) → (others_serve script s ≡ false → (HasCrashed ask.node since → ⊥) → NodeShows w.nodes ask.node s st.owed) → EndsBy h s ask since st.owed → IsLeft script s ask.node since ⊎ HasCome h s ask since
ended_by script s ask w h since st shown (inr (inl failed)) = inl (inr failed)
ended_by script s ask w h since st shown (inr (inr come)) = inr come
ended_by script s ask w h since st shown (inl denied) = inl (inl (
  denied.1,
  elim (cases_Bool (others_serve script s)) [
    | inl others ↦ inl others
    | inr alone ↦ elim (crashed_or_not ask.node since) [
      | inl crashed ↦ inr crashed
      | inr standing ↦ absurd (subst (NodeShows w.nodes ask.node s) denied.0 (shown alone standing))
    ]
  ],
))

pub has_ended : (script : ScriptData) (actor : Actor) (w : State) (h : List Item) (st : Standing) (begun : Begun) → ComesTo script actor w h st begun → is_paid st ≡ true → HasEnded script h begun
has_ended script actor w h st Nothing comes paid = tt
has_ended script actor w h st (Reads key) comes paid = paid_read st.owed st.unerased key comes paid
has_ended script actor w h st (Asks s ask since) comes paid = ended_by script s ask w h since st comes.shown (ask_ended s ask.node ask.start w h since st comes.stands paid)

-- ---- an event that opens a line
begin_answer : (h : List Item) (actor : Actor) (to : Target) (session node : ℕ) → IsAnswer (asks_last h) actor (verb.Begin to) (item.AskBegin session node) → (actor ≡ Session session) × asks_last h to node
begin_answer h (Session s) to session node (inl k) = (ap (λ (q : ℕ). Session q) (sym k.0), k.1)
begin_answer h (Session s) to session node (inr (inl refusal)) = absurd refusal
begin_answer h (Session s) to session node (inr (inr instead)) = absurd instead
begin_answer h (Node n) to session node (inl k) = absurd k
begin_answer h (Node n) to session node (inr (inl refusal)) = absurd refusal
begin_answer h (Node n) to session node (inr (inr instead)) = absurd instead
begin_answer h Clock to session node (inl k) = absurd k
begin_answer h Clock to session node (inr (inl refusal)) = absurd refusal
begin_answer h Clock to session node (inr (inr instead)) = absurd instead
begin_answer h Janitor to session node (inl k) = absurd k
begin_answer h Janitor to session node (inr (inl refusal)) = absurd refusal
begin_answer h Janitor to session node (inr (inr instead)) = absurd instead

commit_answer : (h : List Item) (actor : Actor) (to : Target) (session node start : ℕ) → IsAnswer (asks_last h) actor (verb.Commit to) (item.AskCommit session node start) → (actor ≡ Session session) × asks_last h to node
commit_answer h (Session s) to session node start (inl k) = (ap (λ (q : ℕ). Session q) (sym k.0), k.1)
commit_answer h (Session s) to session node start (inr (inl refusal)) = absurd refusal
commit_answer h (Session s) to session node start (inr (inr instead)) = absurd instead
commit_answer h (Node n) to session node start (inl k) = absurd k
commit_answer h (Node n) to session node start (inr (inl refusal)) = absurd refusal
commit_answer h (Node n) to session node start (inr (inr instead)) = absurd instead
commit_answer h Clock to session node start (inl k) = absurd k
commit_answer h Clock to session node start (inr (inl refusal)) = absurd refusal
commit_answer h Clock to session node start (inr (inr instead)) = absurd instead
commit_answer h Janitor to session node start (inl k) = absurd k
commit_answer h Janitor to session node start (inr (inl refusal)) = absurd refusal
commit_answer h Janitor to session node start (inr (inr instead)) = absurd instead

-- the node is in range
node_fits : (h : List Item) (setup : SetupNumbers) (to : Target) (node : ℕ) → last_master h < setup.nodes → asks_last h to node → TargetFits setup to → node < setup.nodes
node_fits h setup (target.Node named) node master is fits = subst (λ (n : ℕ). n < setup.nodes) (sym is) fits
node_fits h setup target.Master node master is fits = subst (λ (n : ℕ). n < setup.nodes) (sym is) master

-- what the line has begun, and what is owed of it, by its items
abbrev Opened : ScriptData → Actor → Verb → State → List Item → Standing → Item → List Item → List Item → Type 0
Opened script actor line w h st first rest items = ComesTo script actor w (h ++ items) (opened actor line st items) (begun_over actor (begun_by line first) rest)

nothing_opened : (script : ScriptData) (actor : Actor) (line : Verb) (w : State) (h : List Item) (st : Standing) (first : Item) (rest items : List Item) → begun_by line first ≡ Nothing → Opened script actor line w h st first rest items
nothing_opened script actor line w h st first rest items none = subst (λ (b : Begun). ComesTo script actor w (h ++ items) (opened actor line st items) b) (sym (ap (λ (b : Begun). begun_over actor b rest) none ∙ nothing_over actor rest)) tt

read_opened : (script : ScriptData) (actor : Actor) (key : ℕ) (w : State) (h : List Item) (st : Standing) (first : Item) (rest items : List Item) → items ≡ first ∷ rest → Opened script actor (verb.Read key) w h st first rest items
read_opened script actor key w h st (item.Step who (step.Fetch fetched cells)) rest items is =
    let first : Item = item.Step who (step.Fetch fetched cells) in
    let now : Standing = standing_with actor false st first (Read key) in
    subst (λ (xs : List Item). Opened script actor (verb.Read key) w h st first rest xs) (sym is) (elim (reads_own actor false key now rest refl) [
      | inl over ↦ subst (λ (b : Begun). ComesTo script actor w (h ++ first ∷ rest) (with_items actor false now rest) b) (sym over) tt
      | inr still ↦ subst (λ (b : Begun). ComesTo script actor w (h ++ first ∷ rest) (with_items actor false now rest) b) (sym still.0) still.1
    ])
read_opened script actor key w h st (item.Step who what) rest items is = nothing_opened script actor (verb.Read key) w h st (item.Step who what) rest items refl
read_opened script actor key w h st first rest items is = nothing_opened script actor (verb.Read key) w h st first rest items refl

-- an ask that stands alone is what its line has begun
one_alone : (x y : Item) (rest : List Item) → y ∷ rest ≡ x ∷ [] → rest ≡ []
one_alone x y rest is = cc

-- the first event of a line, with the item that answers the line and those behind it
pub record OpensLine (actor : Actor) (line : Verb) (st : Standing) (first : Item) (rest : List Item) (own : Event) (v : Move) : Type 0 where
  pub moved : Moved v
  pub fits : ActorFits v.state.setup actor
  pub asks : VerbFits v.state.setup line
  pub master : last_master v.history < v.state.setup.nodes
  pub begins : first_event actor line ≡ Some own
  pub kept : KeysKept actor v.state st.written
  pub answers : IsAnswer (asks_last v.history) actor line first
  pub is : items_of v ≡ first ∷ rest
  pub begin_held : (s n : ℕ) (to : Target) → s < 16 → own ≡ event.AskBegin s to → asks_last v.history to n → item.AskBegin s n ∈ items_of v → HeldAt (state_after v).nodes n s due.Accept
  pub commit_held : (s n t : ℕ) (to : Target) → s < 16 → own ≡ event.AskCommit s to → asks_last v.history to n → item.AskCommit s n t ∈ items_of v → HeldAt (state_after v).nodes n s due.Accept

-- what the line has begun behind it
abbrev OpenedBehind : ScriptData → Actor → Verb → Standing → Item → List Item → Move → Type 0
OpenedBehind script actor line st first rest v = Opened script actor line (state_after v) v.history st first rest (items_of v)

begin_own : (actor : Actor) (to : Target) (e : Event) (session : ℕ) → actor ≡ Session session → first_event actor (verb.Begin to) ≡ Some e → e ≡ event.AskBegin session to
begin_own actor to e session same is = sym (same_Some (event.AskBegin session to) e (sym (ap (λ (a : Actor). first_event a (verb.Begin to)) same) ∙ is))

commit_own : (actor : Actor) (to : Target) (e : Event) (session : ℕ) → actor ≡ Session session → first_event actor (verb.Commit to) ≡ Some e → e ≡ event.AskCommit session to
commit_own actor to e session same is = sym (same_Some (event.AskCommit session to) e (sym (ap (λ (a : Actor). first_event a (verb.Commit to)) same) ∙ is))

begin_opened : MachineLaws → (script : ScriptData) (actor : Actor) (to : Target) (st : Standing) (session node : ℕ) (rest : List Item) (own : Event) (v : Move) → OpensLine actor (verb.Begin to) st (item.AskBegin session node) rest own v → OpenedBehind script actor (verb.Begin to) st (item.AskBegin session node) rest v
unfolding ◌∈◌ with_items begun_over
begin_opened laws script actor to st session node rest own v o =
    let w : State = v.state in
    let h : List Item = v.history in
    let x : Item = item.AskBegin session node in
    let answer : (actor ≡ Session session) × asks_last h to node = begin_answer h actor to session node o.answers in
    let less : session < 16 = subst (λ (a : Actor). ActorFits w.setup a) answer.0 o.fits in
    let c = client_there w h session o.moved.k less in
    let d = client_there (state_after v) (history_after v) session o.moved.l less in
    let told : x ∈ items_of v = subst (λ (xs : List Item). x ∈ xs) (sym o.is) (inl refl) in
    let takes = (laws.asks w h v.event v.fate session c.0 d.0 o.moved.k.tells c.1 d.1).begins node told in
    let none : rest ≡ [] = one_alone x x rest (sym o.is ∙ takes.2) in
    let of : OfAsk script actor session (begin_ask node) (state_after v) (h ++ x ∷ []) [] (standing_with actor false st x (Answer node due.Accept)) = record {
      own = answer.0;
      session = less;
      node = subst (λ (n : ℕ). node < n) (sym o.moved.setup) (node_fits h w.setup to node o.master answer.1 o.asks);
      stands = begin_first session node h;
      shown = λ alone standing. o.begin_held session node to less (begin_own actor to own session answer.0 o.begins) answer.1 told;
    } in
    subst (λ (xs : List Item). OpenedBehind script actor (verb.Begin to) st x xs v) (sym none) (subst (λ (xs : List Item). Opened script actor (verb.Begin to) (state_after v) h st x [] xs) (sym takes.2) of)

commit_opened : MachineLaws → (script : ScriptData) (actor : Actor) (to : Target) (st : Standing) (session node start : ℕ) (rest : List Item) (own : Event) (v : Move) → OpensLine actor (verb.Commit to) st (item.AskCommit session node start) rest own v → OpenedBehind script actor (verb.Commit to) st (item.AskCommit session node start) rest v
unfolding ◌∈◌ with_items begun_over
commit_opened laws script actor to st session node start rest own v o =
    let w : State = v.state in
    let h : List Item = v.history in
    let x : Item = item.AskCommit session node start in
    let answer : (actor ≡ Session session) × asks_last h to node = commit_answer h actor to session node start o.answers in
    let less : session < 16 = subst (λ (a : Actor). ActorFits w.setup a) answer.0 o.fits in
    let c = client_there w h session o.moved.k less in
    let d = client_there (state_after v) (history_after v) session o.moved.l less in
    let told : x ∈ items_of v = subst (λ (xs : List Item). x ∈ xs) (sym o.is) (inl refl) in
    let takes = (laws.asks w h v.event v.fate session c.0 d.0 o.moved.k.tells c.1 d.1).commits node start told in
    let none : rest ≡ [] = one_alone x x rest (sym o.is ∙ takes.4) in
    let now : Known (state_after v) (h ++ x ∷ []) = subst (λ (xs : List Item). Known (state_after v) (h ++ xs)) takes.4 o.moved.l in
    let asked : CommitAsked session node start w (state_after v) h c.0 d.0 = record { k = o.moved.k; l = now; at = c.1; there = d.1; was = takes.0; now = takes.1; old = takes.2; new = takes.3 } in
    let of : OfAsk script actor session (commit_ask node start) (state_after v) (h ++ x ∷ []) [] (standing_with actor false st x (Answer node due.Accept)) = record {
      own = answer.0;
      session = less;
      node = subst (λ (n : ℕ). node < n) (sym o.moved.setup) (node_fits h w.setup to node o.master answer.1 o.asks);
      stands = commit_first session node start w (state_after v) h c.0 d.0 (standing_with actor false st x (Answer node due.Accept)) asked (subst (λ (a : Actor). KeysKept a w st.written) answer.0 o.kept) refl;
      shown = λ alone standing. o.commit_held session node start to less (commit_own actor to own session answer.0 o.begins) answer.1 told;
    } in
    subst (λ (xs : List Item). OpenedBehind script actor (verb.Commit to) st x xs v) (sym none) (subst (λ (xs : List Item). Opened script actor (verb.Commit to) (state_after v) h st x [] xs) (sym takes.4) of)

begin_line : MachineLaws → (script : ScriptData) (actor : Actor) (to : Target) (st : Standing) (first : Item) (rest : List Item) (own : Event) (v : Move) → OpensLine actor (verb.Begin to) st first rest own v → OpenedBehind script actor (verb.Begin to) st first rest v
begin_line laws script actor to st (item.AskBegin session node) rest own v o = begin_opened laws script actor to st session node rest own v o
begin_line laws script actor to st first rest own v o = nothing_opened script actor (verb.Begin to) (state_after v) v.history st first rest (items_of v) refl

commit_line : MachineLaws → (script : ScriptData) (actor : Actor) (to : Target) (st : Standing) (first : Item) (rest : List Item) (own : Event) (v : Move) → OpensLine actor (verb.Commit to) st first rest own v → OpenedBehind script actor (verb.Commit to) st first rest v
commit_line laws script actor to st (item.AskCommit session node start) rest own v o = commit_opened laws script actor to st session node start rest own v o
commit_line laws script actor to st first rest own v o = nothing_opened script actor (verb.Commit to) (state_after v) v.history st first rest (items_of v) refl

pub comes_open : MachineLaws → (script : ScriptData) (actor : Actor) (line : Verb) (st : Standing) (first : Item) (rest : List Item) (own : Event) (v : Move) → OpensLine actor line st first rest own v → OpenedBehind script actor line st first rest v
comes_open laws script actor (verb.Read key) st first rest own v o = read_opened script actor key (state_after v) v.history st first rest (items_of v) o.is
comes_open laws script actor (verb.Begin to) st first rest own v o = begin_line laws script actor to st first rest own v o
comes_open laws script actor (verb.Commit to) st first rest own v o = commit_line laws script actor to st first rest own v o
comes_open laws script actor line st first rest own v o = nothing_opened script actor line (state_after v) v.history st first rest (items_of v) refl
