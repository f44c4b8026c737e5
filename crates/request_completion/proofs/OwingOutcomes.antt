-- What leaves something to be done comes of a request that a node holds, or the session finds it by itself.
use Rattle.request_completion.proofs.Names.{◌≡◌, ℕ, ◌+◌, Bool, true, false, if◌then◌else◌, is_some, List, [], ◌∷◌}
use Rattle.request_completion.proofs.Names.{Option, None, Some, ◌⊎◌, inl, inr, refl, sym, ◌∙◌, ap, subst, All-cons}
use Rattle.request_completion.proofs.Names.{Fate, ◌∈◌, Session, DeadEnd, Handed, Item, granted, SettleTurn, Goes}
use Rattle.request_completion.proofs.Names.{Decides, settle_ask, settle_turn, Held, Request, Commit, InstanceEntry}
use Rattle.request_completion.proofs.Names.{held_of, Event, State, told_by, stepped, all_crashed_items, draw_item}
use Rattle.request_completion.proofs.Names.{settle_items, rules_of, take_item, InstanceAt, ClientAt, each_outcome}
use Rattle.request_completion.proofs.Names.{held_by, Silent, none_silent, fault_if, AnsweredCommit, answered_item}
use Rattle.request_completion.proofs.Names.{Ended, AtPlacing, own_told, OutcomeStepped, Outcome, OfGranted, OfCrashed}
use Rattle.request_completion.proofs.Names.{OfAskedBegin, OfAskedCommit, OfAccepted, OfEnded, OfDrew, OfAnsweredBegin}
use Rattle.request_completion.proofs.Names.{OfAnsweredCommit, OfHanded, OfOwnPlaced, OfOwnNotPlaced, OfOutcome}
use Rattle.request_completion.proofs.Names.{told_by_outcome, ask_for, ExplainedInvariant, fault_if_silent, silent_items}
use Rattle.request_completion.proofs.Names.{Owes, NoneOwes, HasOpenAsk, IsAlone, OwingNeedsAnAsk, CommitsAreAsked}
use Rattle.history_book.specs.declared.item.Item.TheVariants as item
use Rattle.system_parts.specs.declared.resolve.Outcome.TheVariants as outcome
use Rattle.request_completion.proofs.OwingItems.{silent_in, first_not, only_not, only_is, draw_not, all_lost_not, answered_owes, answered_start, own_owes}

-- a node holds a request of the session; of a commit that is told, that with its start
pub record HeldFor (w : State) (s : ℕ) (x : Item) : Type 0 where
  pub node : ℕ
  pub i : InstanceEntry
  pub held : Held
  pub at : InstanceAt w.nodes node i
  pub has : held_of i s ≡ Some held
  pub start_is : (t c : ℕ) → x ≡ item.Committed s t c → (asker : ℕ) × (keys : List ℕ) × (held.request ≡ Commit asker t keys)

-- the items are these
pub among : (x : Item) (items these : List Item) → items ≡ these → x ∈ items → x ∈ these
among x items these is m = subst (λ (xs : List Item). x ∈ xs) is m

ended_held : (w : State) (k : Ended w) (s : ℕ) (x : Item) → x ∈ k.items → Owes s x → HeldFor w s x
ended_held w k s x m owes =
    let told : Item = item.Refused (Session k.session) k.why in
    let is : x ≡ told = only_is x told (among x k.items (told ∷ []) k.tells m) in
    let owed : Owes s told = subst (λ (z : Item). Owes s z) is owes in
    record {
      node = k.node;
      i = k.i;
      held = k.held;
      at = k.at;
      has = subst (λ (r : ℕ). held_of k.i r ≡ Some k.held) owed.0 k.has;
      start_is = λ t c same. let clash : item.Refused (Session k.session) k.why ≡ item.Committed s t c = sym is ∙ same in absurd (cc);
    }

answered_held : (w : State) (k : AnsweredCommit w) (s : ℕ) (x : Item) → x ∈ k.items → Owes s x → HeldFor w s x
answered_held w k s x m owes =
    let told : Item = answered_item k.by k.session k.start k.commit in
    let is : x ≡ told = only_is x told (among x k.items (told ∷ []) k.tells m) in
    let same : k.session ≡ s = answered_owes s k.by k.session k.start k.commit (subst (λ (z : Item). Owes s z) is owes) in
    record {
      node = k.node;
      i = k.i;
      held = k.held;
      at = k.at;
      has = subst (λ (r : ℕ). held_of k.i r ≡ Some k.held) same k.has;
      start_is = λ t c committed. (k.asker, k.keys, k.request_is ∙ ap (λ (start : ℕ). Commit k.asker start k.keys) (answered_start x k.by k.session k.start k.commit s t c is committed));
    }

placing_alone : (w : State) (it : AtPlacing w) (s : ℕ) → it.session ≡ s → IsAlone w s
placing_alone w it s same = record { client = it.c; at = subst (λ (r : ℕ). ClientAt w.clients r it.c) same it.client_at; alone = inr it.placing }

-- the resolve of an own commit
settled_same : (s : ℕ) (x first : Item) (session : ℕ) (start : Option ℕ) (turn : SettleTurn) → Silent first → x ∈ (first ∷ settle_items session start turn) → Owes s x → session ≡ s
unfolding ◌∈◌
settled_same s x first session (Some start) (Decides (outcome.Committed commit by_table)) silent m owes = elim m [
  | inl same ↦ absurd (silent_in s x (first ∷ []) (All-cons Silent first [] silent none_silent) (inl same) owes)
  | inr last ↦ subst (λ (z : Item). Owes s z) (only_is x (item.Committed session start commit) last) owes
]
settled_same s x first session (Some start) (Decides outcome.Dead) silent m owes = absurd (silent_in s x (first ∷ item.End session start DeadEnd ∷ []) (All-cons Silent first (item.End session start DeadEnd ∷ []) silent (All-cons Silent (item.End session start DeadEnd) [] refl none_silent)) m owes)
settled_same s x first session (Some start) (Goes point) silent m owes = absurd (silent_in s x (first ∷ []) (All-cons Silent first [] silent none_silent) m owes)
settled_same s x first session None turn silent m owes = absurd (silent_in s x (first ∷ []) (All-cons Silent first [] silent none_silent) m owes)

outcome_alone : (w : State) (k : OutcomeStepped w) (s : ℕ) (x : Item) → x ∈ k.items → Owes s x → IsAlone w s
outcome_alone w k s x m owes =
    let turn : SettleTurn = settle_turn k.x (told_by (settle_ask k.x) w.rows w.pairs) in
    let same : k.it.session ≡ s = settled_same s x k.first k.it.session k.it.c.entry.start turn k.silent (among x k.items (k.first ∷ settle_items k.it.session k.it.c.entry.start turn) k.tells m) owes in
    record { client = k.it.c; at = subst (λ (r : ℕ). ClientAt w.clients r k.it.c) same k.it.client_at; alone = inl k.it.is_open }

-- ---- every outcome
abbrev pub is_owing : {w : State} → Outcome w → Bool
is_owing (OfEnded k) = true
is_owing (OfAnsweredCommit k) = true
is_owing (OfOwnPlaced k) = true
is_owing (OfOwnNotPlaced k) = true
is_owing (OfOutcome k) = true
is_owing _ = false

-- no other tells what is owed
pub owing_none : (w : State) (o : Outcome w) (s : ℕ) → is_owing o ≡ false → NoneOwes s (told_by_outcome w o)
unfolding ◌∈◌
owing_none w (OfGranted k) s is x m owes =
    let told : Item = take_item k.node k.reading (granted (rules_of w.setup) w.master k.reading) in
    first_not s x told (fault_if k.failed k.node) (λ owed. owed) (fault_if_silent k.failed k.node) (among x k.items (told ∷ fault_if k.failed k.node) k.tells m) owes
owing_none w (OfCrashed k) s is x m owes =
    let told : Item = item.Crash k.node k.i.term in
    let losses : List Item = all_crashed_items k.node k.i.term k.i.requests w.clients in
    elim (among x k.items (told ∷ losses) k.tells m) [
      | inl same ↦ subst (λ (z : Item). Owes s z) same owes
      | inr lost ↦ all_lost_not s x k.node k.i.term k.i.requests w.clients lost owes
    ]
owing_none w (OfAskedBegin k) s is x m owes = only_not s x (item.AskBegin k.session k.node) (λ owed. owed) m owes
owing_none w (OfAskedCommit k) s is x m owes = only_not s x (item.AskCommit k.session k.node k.start) (λ owed. owed) (among x k.items (item.AskCommit k.session k.node k.start ∷ []) k.tells m) owes
owing_none w (OfAccepted k) s is x m owes = only_not s x (item.Accept k.session k.node k.i.term k.reading) (λ owed. owed) (among x k.items (item.Accept k.session k.node k.i.term k.reading ∷ []) k.tells m) owes
owing_none w (OfDrew k) s is x m owes = only_not s x (draw_item k.node k.i.term k.held.request (k.i.last + 1)) (λ owed. draw_not s k.node k.i.term (k.i.last + 1) k.held.request owed) m owes
owing_none w (OfAnsweredBegin k) s is x m owes = only_not s x (item.Begin k.session k.start) (λ owed. owed) m owes
owing_none w (OfHanded k) s is x m owes = only_not s x (item.Step (Session k.session) (Handed k.start k.commit)) (λ owed. owed) (among x k.items (item.Step (Session k.session) (Handed k.start k.commit) ∷ []) k.tells m) owes
owing_none w (OfEnded k) s is x m owes = absurd (cc)
owing_none w (OfAnsweredCommit k) s is x m owes = absurd (cc)
owing_none w (OfOwnPlaced k) s is x m owes = absurd (cc)
owing_none w (OfOwnNotPlaced k) s is x m owes = absurd (cc)
owing_none w (OfOutcome k) s is x m owes = absurd (cc)
owing_none w o s is x m owes = silent_in s x (told_by_outcome w o) (silent_items w o refl) m owes

owing_of : (w : State) (o : Outcome w) (s : ℕ) (x : Item) → x ∈ told_by_outcome w o → Owes s x → HeldFor w s x ⊎ IsAlone w s
unfolding ◌∈◌
owing_of w (OfEnded k) s x m owes = inl (ended_held w k s x m owes)
owing_of w (OfAnsweredCommit k) s x m owes = inl (answered_held w k s x m owes)
owing_of w (OfOwnPlaced k) s x m owes = elim m [
  | inl same ↦ absurd (subst (λ (z : Item). Owes s z) same owes)
  | inr told ↦ inr (placing_alone w k.it s (own_owes s x k.by k.it.session k.it.start k.it.commit (among x k.items (own_told k.by k.it.session k.it.start k.it.commit) k.tells told) owes))
]
owing_of w (OfOwnNotPlaced k) s x m owes = inr (placing_alone w k.it s (own_owes s x k.by k.it.session k.it.start k.it.commit (among x k.items (own_told k.by k.it.session k.it.start k.it.commit) k.tells m) owes))
owing_of w (OfOutcome k) s x m owes = inr (outcome_alone w k s x m owes)
owing_of w o s x m owes = absurd (owing_none w o s refl x m owes)

-- ---- one event
pub owing_by : (w : State) (h : List Item) (e : Event) (fate : Fate) (s : ℕ) (x : Item) → ExplainedInvariant w h → x ∈ (stepped w e fate).items → Owes s x → HeldFor w s x ⊎ IsAlone w s
owing_by w h e fate s x tells m owes =
    each_outcome (λ v items. x ∈ items → Owes s x → HeldFor w s x ⊎ IsAlone w s) w h e fate tells.stands (λ o here owed. owing_of w o s x here owed) m owes

held_open : (w : State) (h : List Item) (s : ℕ) (x : Item) → ExplainedInvariant w h → HeldFor w s x → HasOpenAsk h s
held_open w h s x tells k = record {
  node = k.node;
  one = tells.shows.open_asks.each k.node s (Some k.i) k.at ∙ ap (λ (held : Option Held). if is_some held then 1 else 0) k.has;
}

pub owing_needs_an_ask : OwingNeedsAnAsk
owing_needs_an_ask w h e fate s x tells m owes = elim (owing_by w h e fate s x tells m owes) [
  | inl held ↦ inl (held_open w h s x tells held)
  | inr alone ↦ inr alone
]

-- the last ask is that of the request that is held
pub commits_are_asked : CommitsAreAsked
commits_are_asked w h e fate s start commit tells m = elim (owing_by w h e fate s (item.Committed s start commit) tells m refl) [
  | inl k ↦
      let of_start : (asker : ℕ) × (keys : List ℕ) × (k.held.request ≡ Commit asker start keys) = k.start_is start commit refl in
      inl (record {
        node = k.node;
        ask_is = tells.shows.asked.asked k.node s k.i k.held.request k.held.progress k.at (held_by k.i s k.held k.has) ∙ ap (λ (request : Request). Some (ask_for k.node request)) of_start.2;
      })
  | inr alone ↦ inr alone
]
