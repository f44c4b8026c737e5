-- Entries among which the log of an actor stands, which follows its lines, answer these lines.
use Rattle.log_refinement.proofs.Names.{◌≡◌, ℕ, ◌<◌, true, List, [], ◌∷◌, ◌++◌, Option, Some, None, inl, inr, refl, sym}
use Rattle.log_refinement.proofs.Names.{subst, SetupNumbers, Actor, Item, State, Line, Target, ScriptData, IsAnswer}
use Rattle.log_refinement.proofs.Names.{asks_last, Answered, ActorFits, VerbFits, Clocks, target_node, Played, fate_of}
use Rattle.log_refinement.proofs.Names.{clocks_of, view_of, events_plain, last_fits, AllNot, plain_not, Entry, timed_in}
use Rattle.log_refinement.proofs.Names.{replayed_items, played_with, IsReplayed, kept_items, opener, first_event}
use Rattle.log_refinement.proofs.Names.{Standing, is_paid, gone_on, opened}
use Rattle.machine.specs.declared.event.Event as machine
use Rattle.script_data.specs.declared.line.Target.TheVariants as target
use Rattle.command_semantics.proofs.OpenedLines.{line_answered}
use Rattle.command_semantics.proofs.OpeningItems.{Begins}
use Rattle.log_refinement.proofs.FirstEvents.{first_is, none_opens}
use Rattle.log_refinement.proofs.MadeEntries.{IsGood, AllMade}
use Rattle.log_refinement.proofs.OpeningLogs.{FollowsOpened}
use Rattle.log_refinement.proofs.OtherLogs.{OwnLine, AreOwn, IsOther, other_not}
use Rattle.log_refinement.proofs.WalkedItems.{IsOwed, none_begun, Walked, walked_past, walked_on, walked_open}
use Rattle.log_refinement.proofs.Weaving.{Woven}

-- ---- the items of one entry
pub master_fits : (script : ScriptData) (p : Played) → IsGood script p → (clocks_of script p).master < p.state.setup.nodes
master_fits script p good = last_fits p.state.setup.nodes p.items good.takes

-- an event that opens no line
pub plain_kept : (script : ScriptData) (actor : Actor) (p : Played) (e : Entry) → IsReplayed script p e → opener e.event ≡ None → AllNot actor e.kept.items
plain_kept script actor p e here none =
    let made : machine.Event = timed_in script p e.event in
    subst (λ (xs : List Item). AllNot actor xs) (sym here) (plain_not actor (replayed_items script p e.event) (events_plain p.state made (fate_of script p made) (none_opens p.clock script.leads (clocks_of script p).master e.event none)))

-- an event of another log
pub other_kept : (script : ScriptData) (actor : Actor) (p : Played) (e : Entry) → IsGood script p → IsReplayed script p e → IsOther script.setup actor e.event → AllNot actor e.kept.items
other_kept script actor p e good here other =
    let mine : IsOther p.state.setup actor e.event = subst (λ (setup : SetupNumbers). IsOther setup actor e.event) (sym good.told.reached.setup) other in
    subst (λ (xs : List Item). AllNot actor xs) (sym here) (other_not actor (clocks_of script p) p.state p.items e.event (fate_of script p (timed_in script p e.event)) good.told.reached.stands good.fit (master_fits script p good) mine)

-- a line asks the last before it that took the record
asks_it : (script : ScriptData) (p : Played) (to : Target) → asks_last p.items to (target_node (clocks_of script p) to)
asks_it script p (target.Node node) = refl
asks_it script p target.Master = refl

-- the first event of a line
pub open_kept : (script : ScriptData) (actor : Actor) (p : Played) (line : Line) (e : Entry) → IsGood script p → IsReplayed script p e → OwnLine script.setup actor line → first_event actor line.verb ≡ Some e.event → Begins (IsAnswer (asks_last p.items) line.actor line.verb) e.kept.items
open_kept script actor p line e good here own first =
    let w : State = p.state in
    let clocks : Clocks = clocks_of script p in
    let made : machine.Event = timed_in script p e.event in
    let mine : first_event line.actor line.verb ≡ Some e.event = subst (λ (a : Actor). first_event a line.verb ≡ Some e.event) (sym own.same) first in
    let in_range : ActorFits w.setup line.actor = subst (λ (setup : SetupNumbers). ActorFits setup line.actor) (sym good.told.reached.setup) own.in_range in
    let asks : VerbFits w.setup line.verb = subst (λ (setup : SetupNumbers). VerbFits setup line.verb) (sym good.told.reached.setup) own.asks in
    subst (λ (xs : List Item). Begins (IsAnswer (asks_last p.items) line.actor line.verb) xs) (sym here)
    (line_answered (asks_last p.items) clocks w p.items line.actor line.verb (view_of w line.actor) made (fate_of script p made) good.told.reached.stands good.fit in_range asks (master_fits script p good) (asks_it script p) own.opening (first_is clocks line.actor line.verb (view_of w line.actor) e.event mine).next_is)

-- ---- all entries
-- a place of the walk: what has been played, the first of the entries that are left, the others, and those among these that are left of the actor's log
pub record WalkAt : Type 0 where
  pub script : ScriptData
  pub actor : Actor
  pub played : Played
  pub entry : Entry
  pub entries : List Entry
  pub own : List Entry

-- what is played behind the entry, and what is left before it
abbrev pub played_after : WalkAt → Played
played_after a = played_with a.script a.played a.entry.event

abbrev pub left_of : WalkAt → List Item
left_of a = kept_items (a.entry ∷ a.entries)

-- what is walked over the items of the first, and from there to the end
walk_on : (a : WalkAt) (begun then : Option ℕ) (lines rest : List Line) → IsReplayed a.script a.played a.entry → ((later : List Item) → Answered asks_last a.actor (a.played.items ++ a.entry.kept.items) then rest later → Answered asks_last a.actor a.played.items begun lines (a.entry.kept.items ++ later)) → Answered asks_last a.actor (played_after a).items then rest (kept_items a.entries) →
    Answered asks_last a.actor a.played.items begun lines (left_of a)
walk_on a begun then lines rest here walks later = walks (kept_items a.entries) (subst (λ (xs : List Item). Answered asks_last a.actor (a.played.items ++ xs) then rest (kept_items a.entries)) (sym here) later)

at_end : (actor : Actor) (h : List Item) (begun : Option ℕ) (st : Standing) (lines : List Line) → IsOwed begun st.owed → FollowsOpened actor st lines [] → Answered asks_last actor h begun lines []
unfolding Answered FollowsOpened
at_end actor h begun st lines owed follows = subst (λ (b : Option ℕ). Answered asks_last actor h b lines []) (sym (none_begun begun st owed follows.1)) (refl, follows.0)

-- what the rest of the entries answers, from a state where this is begun and owed
abbrev pub Answers : ScriptData → Actor → List Entry → List Entry → Played → Type 0
Answers script actor own es p = (st : Standing) (begun : Option ℕ) (lines : List Line) → AreOwn script.setup actor lines → FollowsOpened actor st lines own → IsOwed begun st.owed → Answered asks_last actor p.items begun lines (kept_items es)

-- what is known of a place of the walk: it is good, its entry is replayed, and the rest answers
record Stands (a : WalkAt) : Type 0 where
  pub good : IsGood a.script a.played
  pub here : IsReplayed a.script a.played a.entry
  pub later : Answers a.script a.actor a.own a.entries (played_after a)

other_step : (a : WalkAt) → Stands a → IsOther a.script.setup a.actor a.entry.event → Answers a.script a.actor a.own (a.entry ∷ a.entries) a.played
other_step a at other st begun lines are_own follows owed =
    let k : Walked a.actor a.played.items a.entry.kept.items begun lines lines st.owed = walked_past a.actor a.played.items a.entry.kept.items begun lines st.owed (other_kept a.script a.actor a.played a.entry at.good at.here other) owed in
    walk_on a begun k.then lines lines at.here k.walks (at.later st k.then lines are_own follows k.is_owed)

go_step : (a : WalkAt) (st : Standing) (begun : Option ℕ) (lines : List Line) → Stands a → AreOwn a.script.setup a.actor lines → opener a.entry.event ≡ None → FollowsOpened a.actor (gone_on a.actor st a.entry) lines a.own → IsOwed begun st.owed → Answered asks_last a.actor a.played.items begun lines (left_of a)
go_step a st begun lines at are_own none follows owed =
    let now : Standing = gone_on a.actor st a.entry in
    let k : Walked a.actor a.played.items a.entry.kept.items begun lines lines now.owed = walked_on a.actor a.played.items begun st lines a.entry (plain_kept a.script a.actor a.played a.entry at.here none) owed in
    walk_on a begun k.then lines lines at.here k.walks (at.later now k.then lines are_own follows k.is_owed)

open_step : (a : WalkAt) (st : Standing) (begun : Option ℕ) (line : Line) (lines : List Line) → Stands a → OwnLine a.script.setup a.actor line → AreOwn a.script.setup a.actor lines → is_paid st ≡ true → first_event a.actor line.verb ≡ Some a.entry.event → FollowsOpened a.actor (opened a.actor line.verb st a.entry.kept.items) lines a.own → IsOwed begun st.owed →
    Answered asks_last a.actor a.played.items begun (line ∷ lines) (left_of a)
open_step a st begun line lines at mine are_own paid first follows owed =
    let items : List Item = a.entry.kept.items in
    let now : Standing = opened a.actor line.verb st items in
    let k : Walked a.actor a.played.items items None (line ∷ lines) lines now.owed = walked_open a.actor a.played.items st line lines items (open_kept a.script a.actor a.played line a.entry at.good at.here mine first) in
    let from : Answered asks_last a.actor a.played.items None (line ∷ lines) (left_of a) = walk_on a None k.then (line ∷ lines) lines at.here k.walks (at.later now k.then lines are_own follows k.is_owed) in
    subst (λ (b : Option ℕ). Answered asks_last a.actor a.played.items b (line ∷ lines) (left_of a)) (sym (none_begun begun st owed paid)) from

own_step : (a : WalkAt) → Stands a → Answers a.script a.actor (a.entry ∷ a.own) (a.entry ∷ a.entries) a.played
unfolding FollowsOpened AreOwn
own_step a at st begun [] are_own follows owed = go_step a st begun [] at are_own follows.0 follows.1 owed
own_step a at st begun (line ∷ lines) are_own (inl on) owed = go_step a st begun (line ∷ lines) at are_own on.0 on.1 owed
own_step a at st begun (line ∷ lines) are_own (inr k) owed = open_step a st begun line lines at are_own.0 are_own.1 k.0 k.1 k.2 owed

-- the place before the first entry
abbrev pub walk_at : ScriptData → Actor → Played → Entry → List Entry → List Entry → WalkAt
walk_at script actor p e es own = record { script = script; actor = actor; played = p; entry = e; entries = es; own = own }

pub entries_answer : (script : ScriptData) (actor : Actor) (own es : List Entry) (p : Played) → AllMade script es p → Woven (λ e. IsOther script.setup actor e.event) own es → Answers script actor own es p
unfolding AllMade Woven
entries_answer script actor own [] p made woven = λ st begun lines are_own follows owed. at_end actor p.items begun st lines owed (subst (λ (xs : List Entry). FollowsOpened actor st lines xs) woven follows)
entries_answer script actor [] (e ∷ es) p made woven = other_step (walk_at script actor p e es []) (record { good = made.0; here = made.1; later = entries_answer script actor [] es (played_with script p e.event) made.2 woven.1 }) woven.0
entries_answer script actor (o ∷ own) (e ∷ es) p made (inl mine) =
    subst (λ (x : Entry). Answers script actor (x ∷ own) (e ∷ es) p) mine.0 (own_step (walk_at script actor p e es own) (record { good = made.0; here = made.1; later = entries_answer script actor own es (played_with script p e.event) made.2 mine.1 }))
entries_answer script actor (o ∷ own) (e ∷ es) p made (inr other) = other_step (walk_at script actor p e es (o ∷ own)) (record { good = made.0; here = made.1; later = entries_answer script actor (o ∷ own) es (played_with script p e.event) made.2 other.1 }) other.0
