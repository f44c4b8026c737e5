-- Entries among which the log of an actor stands, which follows its lines, serve these lines.
use Rattle.log_refinement.proofs.Names.{◌≡◌, ℕ, ◌<◌, arith, length, false, Bool, true, List, [], ◌∷◌, ◌++◌, Some, None}
use Rattle.log_refinement.proofs.Names.{inl, inr, refl, sym, ◌∙◌, ap, subst, SetupNumbers, Actor, Session, Item, Line}
use Rattle.log_refinement.proofs.Names.{Target, Verb, ScriptData, IsAnswer, asks_last, ActorFits, VerbFits, last_master}
use Rattle.log_refinement.proofs.Names.{Played, fate_of, AllNot, plain_not, ◌∈◌, Step, stepped, node_for, Event, Entry}
use Rattle.log_refinement.proofs.Names.{timed_at, timed_in, played_with, IsReplayed, kept_items, Ends, opener}
use Rattle.log_refinement.proofs.Names.{first_event, Standing, is_step, is_paid, with_items, gone_on, opened}
use Rattle.log_refinement.proofs.Names.{others_serve, Begun, begun_by, HasEnded, AnsweredServed}
use Rattle.history_book.specs.declared.item.Item.TheVariants as item
use Rattle.script_data.specs.declared.line.Target.TheVariants as target
use Rattle.command_semantics.proofs.OpeningItems.{Begins}
use Rattle.machine.specs.declared.event.Event.TheVariants as machine_event
use Rattle.log_refinement.proofs.AskFacts.{MachineLaws}
use Rattle.log_refinement.proofs.AskPlaces.{Known, client_before}
use Rattle.log_refinement.proofs.KeptKeys.{KeysKept, keys_later, items_keep, items_take, opened_keep, opened_take}
use Rattle.log_refinement.proofs.MadeEntries.{IsGood, AllMade, made_good}
use Rattle.log_refinement.proofs.Moves.{Move, items_of, state_after}
use Rattle.log_refinement.proofs.OpeningLogs.{FollowsOpened}
use Rattle.log_refinement.specs.declared.owed.Due.TheVariants as due
use Rattle.log_refinement.proofs.OtherLogs.{OwnLine, AreOwn, IsOther}
use Rattle.log_refinement.proofs.DueRequests.{HeldAt, CanDecide}
use Rattle.log_refinement.proofs.ShownRequests.{IsApart, HasPlaces, begin_held, commit_held, own_shows, other_shows, plain_script}
use Rattle.log_refinement.proofs.ServedItems.{begun_over, shift, walks_over, ComesTo, Moved, LeavesShown, TakesOn, comes_past, gone_by, TimedMove, made_of, comes_on, has_ended, OpensLine, comes_open}
use Rattle.log_refinement.proofs.SinceAsk.{in_not}
use Rattle.log_refinement.proofs.WalkedEntries.{master_fits, plain_kept, other_kept, open_kept, WalkAt, played_after, left_of, walk_at}
use Rattle.log_refinement.proofs.Weaving.{Woven}

-- ---- places
known_of : (script : ScriptData) (p : Played) → IsGood script p → Ends p.state p.items → Known p.state p.items
known_of script p good ends = record { tells = good.told.tells; ends = ends; fit = good.fit }

-- the event of an entry, made where it is replayed
abbrev replayed : WalkAt → TimedMove
replayed a = record { state = a.played.state; history = a.played.items; base = a.played.clock; leads = a.script.leads; master = last_master a.played.items; event = a.entry.event; fate = fate_of a.script a.played (timed_in a.script a.played a.entry.event) }

abbrev move_of : WalkAt → Move
move_of a = made_of (replayed a)

ends_next : MachineLaws → (a : WalkAt) → IsGood a.script a.played → Ends a.played.state a.played.items → Ends (played_after a).state (played_after a).items
ends_next laws a good ends = let v : Move = move_of a in laws.keeps v.state v.history v.event v.fate good.told.tells ends

setup_stays : (script : ScriptData) (p q : Played) → IsGood script p → IsGood script q → q.state.setup.nodes ≡ p.state.setup.nodes
setup_stays script p q good next = ap (λ (setup : SetupNumbers). setup.nodes) (next.told.reached.setup ∙ sym good.told.reached.setup)

-- ---- the keys in the log
keys_past : MachineLaws → (actor : Actor) (v : Move) (written : List ℕ) → Moved v → AllNot actor (items_of v) → KeysKept actor v.state written → KeysKept actor (state_after v) written
keys_past laws (Session s) v written moved none kept = keys_later laws s v written written moved.k.tells (λ d at. client_before v s d moved.k moved.l at) kept (λ key anew m. m) (λ key anew writes. absurd (in_not s (items_of v) (item.Write s writes.start key writes.value) none writes.told refl))
keys_past laws _ v written moved none kept = tt

keys_on : MachineLaws → (actor : Actor) (v : Move) (steps : Bool) (st : Standing) → Moved v → KeysKept actor v.state st.written → KeysKept actor (state_after v) (with_items actor steps st (items_of v)).written
keys_on laws (Session s) v steps st moved kept = keys_later laws s v st.written (with_items (Session s) steps st (items_of v)).written moved.k.tells (λ d at. client_before v s d moved.k moved.l at) kept
    (λ key anew m. items_keep s steps st (items_of v) key anew m) (λ key anew writes. items_take s steps st (items_of v) writes.start key writes.value anew writes.told)
keys_on laws _ v steps st moved kept = tt

keys_open : MachineLaws → (actor : Actor) (v : Move) (line : Verb) (st : Standing) → Moved v → KeysKept actor v.state st.written → KeysKept actor (state_after v) (opened actor line st (items_of v)).written
keys_open laws (Session s) v line st moved kept = keys_later laws s v st.written (opened (Session s) line st (items_of v)).written moved.k.tells (λ d at. client_before v s d moved.k moved.l at) kept
    (λ key anew m. opened_keep s line st (items_of v) key anew m) (λ key anew writes. opened_take s line st (items_of v) writes.start key writes.value anew writes.told)
keys_open laws _ v line st moved kept = tt

-- ---- all entries
-- what the rest of the entries serves, from a state where this is begun and owed
abbrev pub Serves : ScriptData → Actor → List Entry → List Entry → Played → Type 0
Serves script actor own es p =
    Ends p.state p.items → (st : Standing) (begun : Begun) (lines : List Line) → AreOwn script.setup actor lines → FollowsOpened actor st lines own → KeysKept actor p.state st.written → ComesTo script actor p.state p.items st begun → AnsweredServed (HasEnded script) actor p.items begun lines (kept_items es)

at_end : (script : ScriptData) (actor : Actor) (p : Played) (begun : Begun) (st : Standing) (lines : List Line) → ComesTo script actor p.state p.items st begun → FollowsOpened actor st lines [] → AnsweredServed (HasEnded script) actor p.items begun lines []
unfolding AnsweredServed FollowsOpened
at_end script actor p begun st lines comes follows = (has_ended script actor p.state p.items st begun comes follows.1, follows.0)

-- what is known of a place of the walk: it is good, and so is the place behind it, its entry is replayed, and the rest serves
record Stands (a : WalkAt) : Type 0 where
  pub good : IsGood a.script a.played
  pub next : IsGood a.script (played_after a)
  pub here : IsReplayed a.script a.played a.entry
  pub later : Serves a.script a.actor a.own a.entries (played_after a)

-- what has been begun there and is owed
record HasBegun (a : WalkAt) (st : Standing) (begun : Begun) : Type 0 where
  pub ends : Ends a.played.state a.played.items
  pub kept : KeysKept a.actor a.played.state st.written
  pub comes : ComesTo a.script a.actor a.played.state a.played.items st begun

-- the move of the entry
moved_of : MachineLaws → (a : WalkAt) → Stands a → Ends a.played.state a.played.items → Moved (move_of a)
moved_of laws a at ends = record {
  k = known_of a.script a.played at.good ends;
  l = known_of a.script (played_after a) at.next (ends_next laws a at.good ends);
  setup = setup_stays a.script a.played (played_after a) at.good at.next;
}

-- the items of one entry, and those of the rest
walk_past : (a : WalkAt) (begun : Begun) (lines : List Line) → IsReplayed a.script a.played a.entry → AllNot a.actor (items_of (move_of a)) → AnsweredServed (HasEnded a.script) a.actor (played_after a).items (begun_over a.actor begun (items_of (move_of a))) lines (kept_items a.entries) → AnsweredServed (HasEnded a.script) a.actor a.played.items begun lines (left_of a)
walk_past a begun lines here none later =
    subst (λ (xs : List Item). AnsweredServed (HasEnded a.script) a.actor a.played.items begun lines (xs ++ kept_items a.entries)) (sym here) (walks_over a.script a.actor a.played.items begun lines (items_of (move_of a)) (kept_items a.entries) none later)

-- an event of another's log leaves what the node shows
leaves_shown : (a : WalkAt) → IsApart a.script a.actor a.entry.event → LeavesShown a.script a.actor (move_of a)
leaves_shown a other s n owed own alone standing k =
    other_shows a.script.setup a.played.state a.played.clock a.script.leads (last_master a.played.items) a.entry.event (move_of a).fate n s owed (subst (λ (x : Actor). IsOther a.script.setup x a.entry.event) own other.0) (other.1 s own alone) standing k

-- where commits are not handed over, the node can decide
can_decide : (a : WalkAt) (s n : ℕ) → Stands a → Moved (move_of a) → others_serve a.script s ≡ false → CanDecide a.played.state n
can_decide a s n at moved alone = record {
  stops = λ i there. moved.k.tells.stands.sound.stops.stop n i there;
  plain = λ i there. moved.k.tells.stands.holds.memory.form.direct n i there ∙ (ap (λ (setup : SetupNumbers). setup.direct) at.good.told.reached.setup ∙ plain_script a.script s alone);
}

takes_on : (a : WalkAt) → Stands a → Moved (move_of a) → opener a.entry.event ≡ None → TakesOn a.script a.actor (replayed a)
takes_on a at moved opens s n st own alone asks k = own_shows a.played.state a.played.clock a.script.leads (last_master a.played.items) a.entry.event (move_of a).fate s n st (can_decide a s n at moved alone) opens asks k

has_places : (a : WalkAt) (s n : ℕ) → s < 16 → Moved (move_of a) → HasPlaces a.played.state n s
has_places a s n less moved i there = let many : length i.requests ≡ 16 = moved.k.tells.shows.open_asks.sixteen n i there in omega (arith, many, less)

-- the event of the entry, were it this one
abbrev BeginHeldBy : WalkAt → ℕ → ℕ → Event → Type 0
BeginHeldBy a s n e = let step : Step = stepped a.played.state (timed_at a.played.clock a.script.leads (last_master a.played.items) e) (move_of a).fate in item.AskBegin s n ∈ step.items → HeldAt step.state.nodes n s due.Accept

abbrev CommitHeldBy : WalkAt → ℕ → ℕ → Event → Type 0
CommitHeldBy a s n e = let step : Step = stepped a.played.state (timed_at a.played.clock a.script.leads (last_master a.played.items) e) (move_of a).fate in (t : ℕ) → item.AskCommit s n t ∈ step.items → HeldAt step.state.nodes n s due.Accept

-- and were it an ask of this node
abbrev BeginHeldAt : WalkAt → ℕ → ℕ → ℕ → Type 0
BeginHeldAt a s n m = let step : Step = stepped a.played.state (machine_event.AskBegin s m) (move_of a).fate in item.AskBegin s n ∈ step.items → HeldAt step.state.nodes n s due.Accept

abbrev CommitHeldAt : WalkAt → ℕ → ℕ → ℕ → Type 0
CommitHeldAt a s n m = let step : Step = stepped a.played.state (machine_event.AskCommit s m) (move_of a).fate in (t : ℕ) → item.AskCommit s n t ∈ step.items → HeldAt step.state.nodes n s due.Accept

-- the node that the ask is for
node_is : (h : List Item) (to : Target) (n : ℕ) → asks_last h to n → n ≡ node_for (last_master h) to
node_is h (target.Node named) n is = is
node_is h target.Master n is = is

other_step : MachineLaws → (a : WalkAt) → Stands a → IsApart a.script a.actor a.entry.event → Serves a.script a.actor a.own (a.entry ∷ a.entries) a.played
other_step laws a at other ends st begun lines are_own follows kept comes =
    let v : Move = move_of a in
    let moved : Moved v = moved_of laws a at ends in
    let none : AllNot a.actor (items_of v) = subst (λ (xs : List Item). AllNot a.actor xs) at.here (other_kept a.script a.actor a.played a.entry at.good at.here other.0) in
    walk_past a begun lines at.here none
    (at.later moved.l.ends st (begun_over a.actor begun (items_of v)) lines are_own follows
    (keys_past laws a.actor v st.written moved none kept)
    (comes_past laws a.script a.actor v st begun moved (leaves_shown a other) none comes))

go_step : MachineLaws → (a : WalkAt) (st : Standing) (begun : Begun) (lines : List Line) → Stands a → HasBegun a st begun → AreOwn a.script.setup a.actor lines → opener a.entry.event ≡ None → FollowsOpened a.actor (gone_on a.actor st a.entry) lines a.own → AnsweredServed (HasEnded a.script) a.actor a.played.items begun lines (left_of a)
go_step laws a st begun lines at come are_own opens follows =
    let v : Move = move_of a in
    let items : List Item = items_of v in
    let then : Standing = gone_by a.actor st a.entry.event items in
    let moved : Moved v = moved_of laws a at come.ends in
    let none : AllNot a.actor items = subst (λ (xs : List Item). AllNot a.actor xs) at.here (plain_kept a.script a.actor a.played a.entry at.here opens) in
    let now : FollowsOpened a.actor then lines a.own = subst (λ (xs : List Item). FollowsOpened a.actor (gone_by a.actor st a.entry.event xs) lines a.own) at.here follows in
    walk_past a begun lines at.here none
    (at.later moved.l.ends then (begun_over a.actor begun items) lines are_own now
    (keys_on laws a.actor v (is_step a.entry.event) st moved come.kept)
    (comes_on laws a.script a.actor (replayed a) st begun moved (takes_on a at moved opens) none come.comes))

-- the item with which a line opens, and those behind it
walk_open : (a : WalkAt) (begun : Begun) (line : Line) (lines : List Line) → IsReplayed a.script a.played a.entry → (b : Begins (IsAnswer (asks_last a.played.items) line.actor line.verb) a.entry.kept.items) → HasEnded a.script a.played.items begun → AnsweredServed (HasEnded a.script) a.actor (played_after a).items (begun_over a.actor (begun_by line.verb b.first) b.rest) lines (kept_items a.entries) →
    AnsweredServed (HasEnded a.script) a.actor a.played.items begun (line ∷ lines) (left_of a)
unfolding AnsweredServed
walk_open a begun line lines here b ended later =
    let actor : Actor = a.actor in
    let h : List Item = a.played.items in
    let rest : List Item = kept_items a.entries in
    let is : items_of (move_of a) ≡ b.first ∷ b.rest = sym here ∙ b.is in
    let at : AnsweredServed (HasEnded a.script) actor (h ++ b.first ∷ b.rest) (begun_over actor (begun_by line.verb b.first) b.rest) lines rest = subst (λ (xs : List Item). AnsweredServed (HasEnded a.script) actor (h ++ xs) (begun_over actor (begun_by line.verb b.first) b.rest) lines rest) is later in
    let walks : AnsweredServed (HasEnded a.script) actor (h ++ b.first ∷ []) (begun_by line.verb b.first) lines (b.rest ++ rest) =
    walks_over a.script actor (h ++ b.first ∷ []) (begun_by line.verb b.first) lines b.rest rest (plain_not actor b.rest b.plain) (shift a.script actor h (begun_over actor (begun_by line.verb b.first) b.rest) lines b.first b.rest rest at) in
    subst (λ (xs : List Item). AnsweredServed (HasEnded a.script) actor h begun (line ∷ lines) (xs ++ rest)) (sym b.is) (inl (ended, b.answers, walks))

open_step : MachineLaws → (a : WalkAt) (st : Standing) (begun : Begun) (line : Line) (lines : List Line) → Stands a → HasBegun a st begun → OwnLine a.script.setup a.actor line → AreOwn a.script.setup a.actor lines → is_paid st ≡ true → first_event a.actor line.verb ≡ Some a.entry.event → FollowsOpened a.actor (opened a.actor line.verb st a.entry.kept.items) lines a.own →
    AnsweredServed (HasEnded a.script) a.actor a.played.items begun (line ∷ lines) (left_of a)
open_step laws a st begun line lines at come mine are_own paid first follows =
    let actor : Actor = a.actor in
    let p : Played = a.played in
    let v : Move = move_of a in
    let items : List Item = items_of v in
    let moved : Moved v = moved_of laws a at come.ends in
    let b : Begins (IsAnswer (asks_last p.items) line.actor line.verb) a.entry.kept.items = open_kept a.script actor p line a.entry at.good at.here mine first in
    let opens : OpensLine actor line.verb st b.first b.rest a.entry.event v = record {
      moved = moved;
      fits = subst (λ (x : Actor). ActorFits p.state.setup x) mine.same (subst (λ (setup : SetupNumbers). ActorFits setup line.actor) (sym at.good.told.reached.setup) mine.in_range);
      asks = subst (λ (setup : SetupNumbers). VerbFits setup line.verb) (sym at.good.told.reached.setup) mine.asks;
      begins = first;
      kept = come.kept;
      answers = subst (λ (x : Actor). IsAnswer (asks_last p.items) x line.verb b.first) mine.same b.answers;
      is = sym at.here ∙ b.is;
      master = master_fits a.script p at.good;
      begin_held = λ s n to less own asked told. subst (λ (e : Event). BeginHeldBy a s n e) (sym own) (subst (λ (m : ℕ). BeginHeldAt a s n m) (node_is p.items to n asked) (begin_held p.state s n v.fate (has_places a s n less moved))) told;
      commit_held = λ s n t to less own asked told. subst (λ (e : Event). CommitHeldBy a s n e) (sym own) (subst (λ (m : ℕ). CommitHeldAt a s n m) (node_is p.items to n asked) (commit_held p.state s n v.fate (has_places a s n less moved))) t told;
    } in
    let now : FollowsOpened actor (opened actor line.verb st items) lines a.own = subst (λ (xs : List Item). FollowsOpened actor (opened actor line.verb st xs) lines a.own) at.here follows in
    walk_open a begun line lines at.here b (has_ended a.script actor p.state p.items st begun come.comes paid)
    (at.later moved.l.ends (opened actor line.verb st items) (begun_over actor (begun_by line.verb b.first) b.rest) lines are_own now
    (keys_open laws actor v line.verb st moved come.kept)
    (comes_open laws a.script actor line.verb st b.first b.rest a.entry.event v opens))

own_step : MachineLaws → (a : WalkAt) → Stands a → Serves a.script a.actor (a.entry ∷ a.own) (a.entry ∷ a.entries) a.played
unfolding FollowsOpened AreOwn
own_step laws a at ends st begun [] are_own follows kept comes = go_step laws a st begun [] at (record { ends = ends; kept = kept; comes = comes }) are_own follows.0 follows.1
own_step laws a at ends st begun (line ∷ lines) are_own (inl on) kept comes = go_step laws a st begun (line ∷ lines) at (record { ends = ends; kept = kept; comes = comes }) are_own on.0 on.1
own_step laws a at ends st begun (line ∷ lines) are_own (inr k) kept comes = open_step laws a st begun line lines at (record { ends = ends; kept = kept; comes = comes }) are_own.0 are_own.1 k.0 k.1 k.2

pub entries_serve : MachineLaws → (script : ScriptData) (actor : Actor) (own es : List Entry) (p : Played) → AllMade script es p → Woven (λ e. IsApart script actor e.event) own es → Serves script actor own es p
unfolding AllMade Woven
entries_serve laws script actor own [] p made woven = λ ends st begun lines are_own follows kept comes. at_end script actor p begun st lines comes (subst (λ (xs : List Entry). FollowsOpened actor st lines xs) woven follows)
entries_serve laws script actor [] (e ∷ es) p made woven =
    other_step laws (walk_at script actor p e es []) (record { good = made.0; next = made_good script es (played_with script p e.event) made.2; here = made.1; later = entries_serve laws script actor [] es (played_with script p e.event) made.2 woven.1 }) woven.0
entries_serve laws script actor (o ∷ own) (e ∷ es) p made (inl mine) =
    subst (λ (x : Entry). Serves script actor (x ∷ own) (e ∷ es) p) mine.0
    (own_step laws (walk_at script actor p e es own) (record { good = made.0; next = made_good script es (played_with script p e.event) made.2; here = made.1; later = entries_serve laws script actor own es (played_with script p e.event) made.2 mine.1 }))
entries_serve laws script actor (o ∷ own) (e ∷ es) p made (inr other) =
    other_step laws (walk_at script actor p e es (o ∷ own)) (record { good = made.0; next = made_good script es (played_with script p e.event) made.2; here = made.1; later = entries_serve laws script actor (o ∷ own) es (played_with script p e.event) made.2 other.1 }) other.0
