-- Which items leave something to be done: none that is silent, and none that tells of a loss.
use Rattle.std.proofs.Common.{arith}
use Rattle.request_completion.proofs.Names.{◌≡◌, ℕ, Bool, true, false, if◌then◌else◌, List, [], ◌∷◌, Option, None, Some}
use Rattle.request_completion.proofs.Names.{inl, inr, refl, sym, ◌∙◌, subst, All-head, All-tail, ◌∈◌, Cause}
use Rattle.request_completion.proofs.Names.{Session, Item, Held, Request, Begin, Commit, Settled, Client}
use Rattle.request_completion.proofs.Names.{loss_heard, loss_items, crashed_items, all_crashed_items, draw_item}
use Rattle.request_completion.proofs.Names.{ends_request, not_true, in_append, Silent, AllSilent, none_silent}
use Rattle.request_completion.proofs.Names.{answered_item, own_told, leaves_cells, Owes}
use Rattle.history_book.specs.declared.cause.Cause.TheVariants as cause
use Rattle.history_book.specs.declared.item.Item.TheVariants as item
use Rattle.system_parts.specs.declared.session.State as state
use Rattle.system_parts.specs.declared.session.State.TheVariants as phase
use Rattle.system_parts.specs.declared.instance.Settled.TheVariants as how

-- ---- silent items
pub leaves_ends : (why : Cause) → leaves_cells why ≡ true → ends_request why ≡ true
leaves_ends (cause.Expired reading until) is = refl
leaves_ends (cause.OldEpoch start epoch) is = refl
leaves_ends (cause.Conflict key by) is = refl
leaves_ends (cause.Hidden key water) is = refl
leaves_ends (cause.Replaced found) is = refl
leaves_ends (cause.Spent ceiling) is = refl
leaves_ends (cause.Invalid start) is = refl
leaves_ends _ is = absurd (not_true is)

pub refusal_not : (ends : Bool) → ends ≡ true → (if ends then false else true) ≡ true → ⊥
refusal_not true is silent = not_true silent
refusal_not false is silent = not_true is

pub silent_not : (s : ℕ) (x : Item) → Silent x → Owes s x → ⊥
silent_not s (item.Committed session start commit) silent owes = not_true silent
silent_not s (item.Refused (Session session) why) silent owes = refusal_not (ends_request why) (leaves_ends why owes.1) silent
silent_not s _ silent owes = owes

pub silent_in : (s : ℕ) (x : Item) (items : List Item) → AllSilent items → x ∈ items → Owes s x → ⊥
unfolding ◌∈◌
silent_in s x [] silent m owes = m
silent_in s x (y ∷ ys) silent m owes = elim m [
  | inl same ↦ silent_not s x (subst (λ (z : Item). Silent z) (sym same) (All-head Silent y ys silent)) owes
  | inr deeper ↦ silent_in s x ys (All-tail Silent y ys silent) deeper owes
]

-- ---- items that owe nothing, by their form
pub first_not : (s : ℕ) (x y : Item) (ys : List Item) → (Owes s y → ⊥) → AllSilent ys → x ∈ (y ∷ ys) → Owes s x → ⊥
unfolding ◌∈◌
first_not s x y ys not silent m owes = elim m [
  | inl same ↦ not (subst (λ (z : Item). Owes s z) same owes)
  | inr deeper ↦ silent_in s x ys silent deeper owes
]

pub only_not : (s : ℕ) (x y : Item) → (Owes s y → ⊥) → x ∈ (y ∷ []) → Owes s x → ⊥
only_not s x y not m owes = first_not s x y [] not none_silent m owes

pub only_is : (x y : Item) → x ∈ (y ∷ []) → x ≡ y
unfolding ◌∈◌
only_is x y m = elim m [ inl same ↦ same | inr none ↦ absurd none ]

pub draw_not : (s node term stamp : ℕ) (request : Request) → Owes s (draw_item node term request stamp) → ⊥
draw_not s node term stamp (Begin session) owes = owes
draw_not s node term stamp (Commit session start keys) owes = owes

-- ---- what a crash tells
heard_not : (s : ℕ) (x : Item) (heard : state.State) (y : Item) → (Owes s y → ⊥) → x ∈ loss_heard heard (y ∷ []) → Owes s x → ⊥
unfolding ◌∈◌
heard_not s x phase.Gone y not m owes = m
heard_not s x _ y not m owes = only_not s x y not m owes

loss_not : (s : ℕ) (x : Item) (node term : ℕ) (request : Request) (c : Client) → x ∈ loss_items node term request c → Owes s x → ⊥
loss_not s x node term (Begin session) c m owes = heard_not s x c.entry.state (item.Refused (Session session) (cause.Crashed node term)) (λ owed. not_true owed.1) m owes
loss_not s x node term (Commit session start keys) c m owes = heard_not s x c.entry.state (item.Refused (Session session) (cause.Open start)) (λ owed. not_true owed.1) m owes

lost_not : (s : ℕ) (x : Item) (node term : ℕ) (held : Option Held) (c : Client) → x ∈ crashed_items node term held c → Owes s x → ⊥
unfolding ◌∈◌
lost_not s x node term None c m owes = m
lost_not s x node term (Some held) c m owes = loss_not s x node term held.request c m owes

pub all_lost_not : (s : ℕ) (x : Item) (node term : ℕ) (requests : List (Option Held)) (cs : List Client) → x ∈ all_crashed_items node term requests cs → Owes s x → ⊥
unfolding all_crashed_items ◌∈◌
all_lost_not s x node term [] cs m owes = m
all_lost_not s x node term (held ∷ others) [] m owes = m
all_lost_not s x node term (held ∷ others) (c ∷ cs) m owes = elim (in_append x (crashed_items node term held c) (all_crashed_items node term others cs) m) [
  | inl here ↦ lost_not s x node term held c here owes
  | inr there ↦ all_lost_not s x node term others cs there owes
]

-- ---- answers to a commit
pub answered_owes : (s : ℕ) (by : Settled) (session start commit : ℕ) → Owes s (answered_item by session start commit) → session ≡ s
answered_owes s how.Placed session start commit owes = owes
answered_owes s how.Invalid session start commit owes = owes.0
answered_owes s how.Faulted session start commit owes = owes.0

pub answered_start : (x : Item) (by : Settled) (session start commit s t c : ℕ) → x ≡ answered_item by session start commit → x ≡ item.Committed s t c → start ≡ t
answered_start x how.Placed session start commit s t c is told = let same : item.Committed session start commit ≡ item.Committed s t c = sym is ∙ told in cc
answered_start x how.Invalid session start commit s t c is told = let clash : item.Refused (Session session) (cause.Invalid start) ≡ item.Committed s t c = sym is ∙ told in absurd (cc)
answered_start x how.Faulted session start commit s t c is told = let clash : item.Refused (Session session) (cause.Open start) ≡ item.Committed s t c = sym is ∙ told in absurd (cc)

-- what the session finds by itself
pub own_owes : (s : ℕ) (x : Item) (by : Settled) (session start commit : ℕ) → x ∈ own_told by session start commit → Owes s x → session ≡ s
unfolding ◌∈◌
own_owes s x by session start commit m owes = grind (arith, answered_owes, only_is, silent_not)
