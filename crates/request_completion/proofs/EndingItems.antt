-- Which items tell a session how its commit ends, and of which outcomes.
use Rattle.std.proofs.Common.{arith}
use Rattle.request_completion.proofs.Names.{◌≡◌, ℕ, Bool, true, false, List, [], ◌∷◌, ◌++◌, inl, inr, refl, sym}
use Rattle.request_completion.proofs.Names.{subst, All-head, All-tail, Table, ◌∈◌, Cause, Session, PutFound}
use Rattle.request_completion.proofs.Names.{Item, Request, Begin, Commit, Settled, session_of, Client, State}
use Rattle.request_completion.proofs.Names.{loss_heard, loss_items}
use Rattle.request_completion.proofs.Names.{not_true, in_append, Silent, AllSilent, none_silent, one_silent}
use Rattle.request_completion.proofs.Names.{answered_item, own_told, Outcome, OfCrashed}
use Rattle.request_completion.proofs.Names.{OfEnded}
use Rattle.request_completion.proofs.Names.{OfAnsweredCommit, OfOwnPlaced, OfOwnNotPlaced, OfOutcome}
use Rattle.request_completion.proofs.Names.{told_by_outcome, fault_if_silent, silent_items, leaves_cells, Owes}
use Rattle.request_completion.proofs.Names.{ends_commit, EndsCommit, NoneEnds}
use Rattle.history_book.specs.declared.cause.Cause.TheVariants as cause
use Rattle.history_book.specs.declared.item.Item.TheVariants as item
use Rattle.system_parts.specs.declared.session.State as state
use Rattle.system_parts.specs.declared.session.State.TheVariants as phase
use Rattle.system_parts.specs.declared.instance.Settled.TheVariants as how
use Rattle.request_completion.proofs.OwingItems.{only_is, refusal_not, leaves_ends}
use Rattle.request_completion.proofs.OwingOutcomes.{among}

-- ---- silent items do not
ends_silent : (s : ℕ) (x : Item) → Silent x → EndsCommit s x → ⊥
ends_silent s x silent ends = grind (arith, not_true, refusal_not, leaves_ends)

pub silent_ends : (s : ℕ) (items : List Item) → AllSilent items → NoneEnds s items
unfolding ◌∈◌
silent_ends s [] silent x m ends = m
silent_ends s (y ∷ ys) silent x m ends = elim m [
  | inl same ↦ ends_silent s x (subst (λ (z : Item). Silent z) (sym same) (All-head Silent y ys silent)) ends
  | inr deeper ↦ silent_ends s ys (All-tail Silent y ys silent) x deeper ends
]

pub leaves_end : (why : Cause) → leaves_cells why ≡ true → ends_commit why ≡ true
leaves_end (cause.Open start) is = absurd (not_true is)
leaves_end why is = is

pub owes_ends : (s : ℕ) (x : Item) → Owes s x → EndsCommit s x
owes_ends s (item.Committed session start commit) owes = owes
owes_ends s (item.Refused (Session session) why) owes = (owes.0, leaves_end why owes.1)
owes_ends s _ owes = owes

-- ---- the last item alone may
pub first_none : (s : ℕ) (y : Item) (ys : List Item) → (EndsCommit s y → ⊥) → AllSilent ys → NoneEnds s (y ∷ ys)
unfolding ◌∈◌
first_none s y ys not silent x m ends = elim m [
  | inl same ↦ not (subst (λ (z : Item). EndsCommit s z) same ends)
  | inr deeper ↦ silent_ends s ys silent x deeper ends
]

pub last_is : (s : ℕ) (x : Item) (front : List Item) (last : Item) (items : List Item) → items ≡ front ++ last ∷ [] → AllSilent front → x ∈ items → EndsCommit s x → x ≡ last
last_is s x front last items is silent m ends = elim (in_append x front (last ∷ []) (among x items (front ++ last ∷ []) is m)) [
  | inl early ↦ absurd (silent_ends s front silent x early ends)
  | inr late ↦ only_is x last late
]

-- where the last is told to another session
pub last_none : (s r : ℕ) (front : List Item) (last : Item) (items : List Item) → items ≡ front ++ last ∷ [] → AllSilent front → (EndsCommit s last → r ≡ s) → (s ≡ r → ⊥) → NoneEnds s items
last_none s r front last items is silent told other x m ends = other (sym (told (subst (λ (z : Item). EndsCommit s z) (last_is s x front last items is silent m ends) ends)))

-- ---- what is told of a commit
pub answered_told : (s : ℕ) (by : Settled) (session start commit : ℕ) → EndsCommit s (answered_item by session start commit) → session ≡ s
answered_told s how.Placed session start commit ends = ends
answered_told s how.Invalid session start commit ends = ends.0
answered_told s how.Faulted session start commit ends = ends.0

-- what stands before it where a session places its commit
abbrev pub own_front : Settled → ℕ → ℕ → List Item
own_front how.Placed session start = []
own_front how.Invalid session start = item.Step (Session session) (PutFound start) ∷ []
own_front how.Faulted session start = item.Fault (Session session) Table ∷ []

pub own_is : (by : Settled) (session start commit : ℕ) → own_told by session start commit ≡ own_front by session start ++ answered_item by session start commit ∷ []
own_is how.Placed session start commit = refl
own_is how.Invalid session start commit = refl
own_is how.Faulted session start commit = refl

pub own_silent : (by : Settled) (session start : ℕ) → AllSilent (own_front by session start)
own_silent how.Placed session start = none_silent
own_silent how.Invalid session start = one_silent (item.Step (Session session) (PutFound start)) refl
own_silent how.Faulted session start = one_silent (item.Fault (Session session) Table) refl

-- ---- what a crash tells
pub heard_is : (x : Item) (heard : state.State) (items : List Item) → x ∈ loss_heard heard items → x ∈ items
unfolding ◌∈◌
heard_is x phase.Gone items m = absurd m
heard_is x _ items m = m

pub loss_told : (s : ℕ) (x : Item) (node term : ℕ) (request : Request) (c : Client) → x ∈ loss_items node term request c → EndsCommit s x → session_of request ≡ s
loss_told s x node term (Begin session) c m ends =
    let is : x ≡ item.Refused (Session session) (cause.Crashed node term) = only_is x _ (heard_is x c.entry.state _ m) in
    (subst (λ (z : Item). EndsCommit s z) is ends).0
loss_told s x node term (Commit session start keys) c m ends =
    let is : x ≡ item.Refused (Session session) (cause.Open start) = only_is x _ (heard_is x c.entry.state _ m) in
    (subst (λ (z : Item). EndsCommit s z) is ends).0

-- ---- the outcomes that tell it
abbrev pub is_ending : {w : State} → Outcome w → Bool
is_ending (OfCrashed k) = true
is_ending (OfEnded k) = true
is_ending (OfAnsweredCommit k) = true
is_ending (OfOwnPlaced k) = true
is_ending (OfOwnNotPlaced k) = true
is_ending (OfOutcome k) = true
is_ending _ = false

pub ends_none : (w : State) (o : Outcome w) (s : ℕ) → is_ending o ≡ false → NoneEnds s (told_by_outcome w o)
ends_none w o s is x m ends = grind (arith, first_none, fault_if_silent, among, none_silent, silent_ends, silent_items)
