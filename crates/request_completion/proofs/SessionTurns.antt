-- What each outcome makes of a session, and what it tells it.
use Rattle.std.proofs.Common.{arith}
use Rattle.request_completion.proofs.Names.{◌≡◌, ℕ, Bool, true, false, List, [], ◌∷◌, ◌++◌, Some, ◌⊎◌, inl, inr, refl}
use Rattle.request_completion.proofs.Names.{sym, ◌∙◌, ap, subst, slice_set, ◌∈◌, Session, DeadEnd, Item, in_last, Ask}
use Rattle.request_completion.proofs.Names.{SessionState, Settling, SettleTurn, Goes, Decides}
use Rattle.request_completion.proofs.Names.{Held, Request, Begin, Commit, Settled, InstanceEntry, held_of, Client}
use Rattle.request_completion.proofs.Names.{State, client_aborted, unless_gone, unless_gone_by, client_settled}
use Rattle.request_completion.proofs.Names.{settle_items, after_asks, InstanceAt, ClientAt, IsolationInvariant}
use Rattle.request_completion.proofs.Names.{WaitsFor, client_set, one_client, held_by, Silent, AllSilent, one_silent}
use Rattle.request_completion.proofs.Names.{two_silent, answered_client, answered_item, ask_for, ExplainedInvariant}
use Rattle.request_completion.proofs.Names.{Owes, NoneOwes, NoneEnds, EndsWith, IsAsked, IsCommitting, IsUndone}
use Rattle.request_completion.proofs.Names.{SessionTransition, Rests, Undoes, Frees, Commits, Refuses, LeavesOpen}
use Rattle.request_completion.proofs.Names.{IsGone}
use Rattle.history_book.specs.declared.cause.Cause.TheVariants as cause
use Rattle.history_book.specs.declared.item.Item.TheVariants as item
use Rattle.system_parts.specs.declared.resolve.Outcome.TheVariants as outcome
use Rattle.system_parts.specs.declared.session.State.TheVariants as phase
use Rattle.system_parts.specs.declared.instance.Settled.TheVariants as how
use Rattle.request_completion.proofs.EndingItems.{silent_ends, last_is, owes_ends}

-- ---- an answer that is heard, or not
alive_by : (old new : Client) (state : SessionState) → ((state ≡ phase.Gone) × (unless_gone_by state old new ≡ old)) ⊎ ((state ≡ phase.Gone → ⊥) × (unless_gone_by state old new ≡ new))
alive_by old new phase.Gone = inl (refl, refl)
alive_by old new _ = inr (λ is. cc, refl)

pub heard_turn : (h : List Item) (s : ℕ) (c new : Client) (items : List Item) → ((c.entry.state ≡ phase.Gone → ⊥) → SessionTransition h s c items new) → SessionTransition h s c items (unless_gone c new)
heard_turn h s c new items turn = elim (alive_by c new c.entry.state) [
  | inl gone ↦ IsGone gone.0 gone.1
  | inr alive ↦ subst (λ (d : Client). SessionTransition h s c items d) (sym alive.1) (turn alive.0)
]

-- ---- the client of a request that a node holds
pub waits_client : (w : State) (h : List Item) (n s : ℕ) (i : InstanceEntry) (held : Held) (c : Client) → IsolationInvariant w h → InstanceAt w.nodes n i → held_of i s ≡ Some held → ClientAt w.clients s c → WaitsFor held.request c
waits_client w h n s i held c holds at has client_at =
    let waits : (x : Client) × ClientAt w.clients s x × WaitsFor held.request x = holds.requests.requests.waits n s i held.request held.progress at (held_by i s held has) in
    subst (λ (x : Client). WaitsFor held.request x) (one_client w.clients s waits.0 c waits.1 client_at) waits.2

begin_waits : (asker : ℕ) (c : Client) → WaitsFor (Begin asker) c → (c.entry.state ≡ phase.Gone → ⊥) → c.entry.state ≡ phase.Asking
begin_waits asker c (inl gone) alive = absurd (alive gone)
begin_waits asker c (inr asking) alive = asking

commit_waits : (asker start : ℕ) (keys : List ℕ) (c : Client) → WaitsFor (Commit asker start keys) c → (c.entry.state ≡ phase.Gone → ⊥) → (c.entry.state ≡ phase.Committing) × (c.entry.start ≡ Some start)
commit_waits asker start keys c (inl gone) alive = absurd (alive gone)
commit_waits asker start keys c (inr committing) alive = committing

pub asked_of : (w : State) (h : List Item) (n s : ℕ) (i : InstanceEntry) (held : Held) (request : Request) → ExplainedInvariant w h → InstanceAt w.nodes n i → held_of i s ≡ Some held → held.request ≡ request → IsAsked h s (ask_for n request).start
asked_of w h n s i held (Begin asker) tells at has is = (n, tells.shows.asked.asked n s i held.request held.progress at (held_by i s held has) ∙ ap (λ (r : Request). Some (ask_for n r)) is)
asked_of w h n s i held (Commit asker start keys) tells at has is = (n, tells.shows.asked.asked n s i held.request held.progress at (held_by i s held has) ∙ ap (λ (r : Request). Some (ask_for n r)) is)

pub asking_of : (w : State) (h : List Item) (n s asker : ℕ) (i : InstanceEntry) (held : Held) (c : Client) → ExplainedInvariant w h → InstanceAt w.nodes n i → held_of i s ≡ Some held → ClientAt w.clients s c → held.request ≡ Begin asker → (c.entry.state ≡ phase.Gone → ⊥) → c.entry.state ≡ phase.Asking
asking_of w h n s asker i held c tells at has client_at is alive = begin_waits asker c (subst (λ (r : Request). WaitsFor r c) is (waits_client w h n s i held c tells.stands.holds at has client_at)) alive

pub waiting_of : (w : State) (h : List Item) (n s asker start : ℕ) (keys : List ℕ) (i : InstanceEntry) (held : Held) (c : Client) → ExplainedInvariant w h → InstanceAt w.nodes n i → held_of i s ≡ Some held → ClientAt w.clients s c → held.request ≡ Commit asker start keys → (c.entry.state ≡ phase.Gone → ⊥) → (c.entry.state ≡ phase.Committing) × (c.entry.start ≡ Some start)
waiting_of w h n s asker start keys i held c tells at has client_at is alive = commit_waits asker start keys c (subst (λ (r : Request). WaitsFor r c) is (waits_client w h n s i held c tells.stands.holds at has client_at)) alive

pub committing_of : (w : State) (h : List Item) (n s asker start : ℕ) (keys : List ℕ) (i : InstanceEntry) (held : Held) (c : Client) → ExplainedInvariant w h → InstanceAt w.nodes n i → held_of i s ≡ Some held → ClientAt w.clients s c → held.request ≡ Commit asker start keys → (c.entry.state ≡ phase.Gone → ⊥) → IsCommitting h s start c
committing_of w h n s asker start keys i held c tells at has client_at is alive =
    let waits : (c.entry.state ≡ phase.Committing) × (c.entry.start ≡ Some start) = waiting_of w h n s asker start keys i held c tells at has client_at is alive in
    record { state = inl waits.0; start_is = waits.1; asked = asked_of w h n s i held (Commit asker start keys) tells at has is }

-- ---- how a commit ends
pub aborted_undone : (c : Client) → IsUndone c.entry (client_aborted c).entry
aborted_undone c = grind arith

open_owes_none : (s start : ℕ) → Owes s (item.Refused (Session s) (cause.Open start)) → ⊥
open_owes_none s start owes = let clash : false ≡ true = owes.1 in cc

with_last : (s : ℕ) (x : Item) (front items : List Item) → items ≡ front ++ x ∷ [] → AllSilent front → EndsWith s x items
with_last s x front items is silent = record { front = front; is = is; none = silent_ends s front silent }

pub answered_turn : (h : List Item) (s start commit : ℕ) (c : Client) (front items : List Item) (by : Settled) → IsCommitting h s start c → AllSilent front → items ≡ front ++ answered_item by s start commit ∷ [] → SessionTransition h s c items (answered_client by c commit)
answered_turn h s start commit c front items how.Placed waits silent is = Commits start commit (inl waits) (with_last s (item.Committed s start commit) front items is silent) refl
answered_turn h s start commit c front items how.Invalid waits silent is = Refuses start (cause.Invalid start) waits refl (with_last s (item.Refused (Session s) (cause.Invalid start)) front items is silent) refl
answered_turn h s start commit c front items how.Faulted waits silent is =
    let told : Item = item.Refused (Session s) (cause.Open start) in
    let none : NoneOwes s items = λ x m owes. open_owes_none s start (subst (λ (z : Item). Owes s z) (last_is s x front told items is silent m (owes_ends s x owes)) owes) in
    LeavesOpen start waits (subst (λ (xs : List Item). told ∈ xs) (sym is) (in_last told front)) none refl

-- the resolve of an own commit
pub settled_turn : (h : List Item) (s start : ℕ) (c : Client) (x : Settling) (first : Item) (items : List Item) (turn : SettleTurn) → c.entry.state ≡ phase.OpenOutcome → c.entry.start ≡ Some start → Silent first → items ≡ first ∷ settle_items s (Some start) turn → SessionTransition h s c items (client_settled c x turn)
settled_turn h s start c x first items (Goes point) is_open start_is silent is = Rests refl (silent_ends s items (subst AllSilent (sym is) (one_silent first silent)))
settled_turn h s start c x first items (Decides (outcome.Committed commit by_table)) is_open start_is silent is =
    Commits start commit (inr (is_open, start_is)) (with_last s (item.Committed s start commit) (first ∷ []) items is (one_silent first silent)) refl
settled_turn h s start c x first items (Decides outcome.Dead) is_open start_is silent is =
    Undoes (inr is_open) (aborted_undone c) (silent_ends s items (subst AllSilent (sym is) (two_silent first (item.End s start DeadEnd) silent refl)))

-- ---- a completion
pub asks_turn : (h : List Item) (s : ℕ) (c : Client) (undo : Bool) (asks : List Ask) (items : List Item) → c.entry.state ≡ phase.Completing undo → NoneEnds s items → SessionTransition h s c items (after_asks c asks)
asks_turn h s c undo [] items completing none = Frees (inr (undo, completing)) refl none
asks_turn h s c undo (asked ∷ asks) items completing none = Rests refl none

-- ---- one client is set
pub one_turn : (w : State) (h items : List Item) (r : ℕ) (old new : Client) (s : ℕ) (c d : Client) → ClientAt w.clients r old → SessionTransition h r old items new → ((s ≡ r → ⊥) → NoneEnds s items) → ClientAt w.clients s c → ClientAt (slice_set w.clients r new) s d → SessionTransition h s c items d
one_turn w h items r old new s c d was turn other at there = elim (client_set w.clients r s new d there) [
  | inl here ↦
      let mine : ClientAt w.clients s old = subst (λ (q : ℕ). ClientAt w.clients q old) (sym here.0) was in
      let now : SessionTransition h s old items d = subst (λ (x : Client). SessionTransition h s old items x) (sym here.1) (subst (λ (q : ℕ). SessionTransition h q old items new) (sym here.0) turn) in
      subst (λ (x : Client). SessionTransition h s x items d) (one_client w.clients s old c mine at) now
  | inr there2 ↦ Rests (ap (λ (x : Client). x.entry) (one_client w.clients s d c there2.1 at)) (other there2.0)
]

-- no client is moved
pub still_turn : (w : State) (h items : List Item) (s : ℕ) (c d : Client) → NoneEnds s items → ClientAt w.clients s c → ClientAt w.clients s d → SessionTransition h s c items d
still_turn w h items s c d none at there = Rests (ap (λ (x : Client). x.entry) (one_client w.clients s d c there at)) none
