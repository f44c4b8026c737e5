-- Which items ask: where a session's own client does not, what stands since its last ask grows longer.
use Rattle.std.proofs.Common.{arith}
use Rattle.request_completion.proofs.Names.{◌≡◌, ℕ, Bool, true, false, List, [], ◌∷◌, ◌++◌, Option}
use Rattle.request_completion.proofs.Names.{None, Some, inl, inr, refl, sym, ◌∙◌, ap, subst, All, cases_eq, ne_eqb}
use Rattle.request_completion.proofs.Names.{All-nil, All-cons, All-append, ◌∈◌, Item}
use Rattle.request_completion.proofs.Names.{in_front, in_back, SettleTurn, Goes, Decides}
use Rattle.request_completion.proofs.Names.{Held, Request, Begin, Commit, Settled, Client, State}
use Rattle.request_completion.proofs.Names.{crashed_items, all_crashed_items, draw_item}
use Rattle.request_completion.proofs.Names.{settle_items, asks_for, its_ask, since_ask}
use Rattle.request_completion.proofs.Names.{ClientAt, one_client, not_true, Silent, answered_item}
use Rattle.request_completion.proofs.Names.{own_told, Outcome, OfAskedBegin, OfAskedCommit}
use Rattle.request_completion.proofs.Names.{told_by_outcome, fault_if_silent}
use Rattle.request_completion.proofs.Names.{silent_items}
use Rattle.history_book.specs.declared.item.Item.TheVariants as item
use Rattle.system_parts.specs.declared.resolve.Outcome.TheVariants as outcome
use Rattle.system_parts.specs.declared.session.State.TheVariants as phase
use Rattle.system_parts.specs.declared.instance.Settled.TheVariants as how
use Rattle.cause_laws.proofs.SinceWords.{last_told-same, since-more}

abbrev pub NotAsked : ℕ → Item → Type 0
NotAsked s x = asks_for s x ≡ false

abbrev pub NoneAsked : ℕ → List Item → Type 0
NoneAsked s items = All (NotAsked s) items

-- ---- since the last ask
pub ask_stays : (h items : List Item) (s : ℕ) → NoneAsked s items → its_ask (h ++ items) s ≡ its_ask h s
ask_stays h items s none = grind (arith, last_told-same)

pub since_was : (x : Item) (h items : List Item) (s : ℕ) → NoneAsked s items → x ∈ since_ask h s → x ∈ since_ask (h ++ items) s
since_was x h items s none m = grind (arith, since-more, in_front)

pub since_now : (x : Item) (h items : List Item) (s : ℕ) → NoneAsked s items → x ∈ items → x ∈ since_ask (h ++ items) s
since_now x h items s none m = grind (arith, since-more, in_back)

-- ---- items that ask nothing
silent_asks : (s : ℕ) (x : Item) → Silent x → NotAsked s x
silent_asks s (item.AskBegin session node) silent = absurd (not_true silent)
silent_asks s (item.AskCommit session node start) silent = absurd (not_true silent)
silent_asks s _ silent = refl

pub one_unasked : (s : ℕ) (x : Item) → NotAsked s x → NoneAsked s (x ∷ [])
one_unasked s x none = All-cons (NotAsked s) x [] none (All-nil (NotAsked s))

these_unasked : (s : ℕ) (items these : List Item) → items ≡ these → NoneAsked s these → NoneAsked s items
these_unasked s items these is none = subst (NoneAsked s) (sym is) none

draw_asks : (s node term stamp : ℕ) (request : Request) → NotAsked s (draw_item node term request stamp)
draw_asks s node term stamp (Begin session) = refl
draw_asks s node term stamp (Commit session start keys) = refl

answered_asks : (s : ℕ) (by : Settled) (session start commit : ℕ) → NotAsked s (answered_item by session start commit)
answered_asks s how.Placed session start commit = refl
answered_asks s how.Invalid session start commit = refl
answered_asks s how.Faulted session start commit = refl

own_unasked : (s : ℕ) (by : Settled) (session start commit : ℕ) → NoneAsked s (own_told by session start commit)
own_unasked s by session start commit = grind (arith, one_unasked)

settle_unasked : (s r : ℕ) (start : Option ℕ) (turn : SettleTurn) → NoneAsked s (settle_items r start turn)
settle_unasked s r (Some start) (Decides (outcome.Committed commit by_table)) = one_unasked s _ refl
settle_unasked s r (Some start) (Decides outcome.Dead) = one_unasked s _ refl
settle_unasked s r (Some start) (Goes point) = All-nil (NotAsked s)
settle_unasked s r None turn = All-nil (NotAsked s)

lost_unasked : (s node term : ℕ) (held : Option Held) (c : Client) → NoneAsked s (crashed_items node term held c)
lost_unasked s node term held c = grind (arith, one_unasked)

crash_unasked : (s node term : ℕ) (requests : List (Option Held)) (cs : List Client) → NoneAsked s (all_crashed_items node term requests cs)
unfolding all_crashed_items
crash_unasked s node term [] cs = All-nil (NotAsked s)
crash_unasked s node term (held ∷ others) [] = All-nil (NotAsked s)
crash_unasked s node term (held ∷ others) (c ∷ cs) = All-append (NotAsked s) (crashed_items node term held c) (all_crashed_items node term others cs) (lost_unasked s node term held c) (crash_unasked s node term others cs)

-- ---- the items of an outcome
abbrev pub is_asking : {w : State} → Outcome w → Bool
is_asking (OfAskedBegin k) = true
is_asking (OfAskedCommit k) = true
is_asking _ = false

pub plain_asks : (w : State) (o : Outcome w) (s : ℕ) → is_asking o ≡ false → NoneAsked s (told_by_outcome w o)
plain_asks w o s is =
    grind (arith, these_unasked, silent_asks, fault_if_silent, crash_unasked, one_unasked, draw_asks, answered_asks, own_unasked, settle_unasked, silent_items)

-- nobody asks for the session, or its own client does
pub data Asking (w : State) (s : ℕ) (items : List Item) : Type 0 where
  Nobody : NoneAsked s items → Asking w s items
  ForBegin : (c : Client) (n : ℕ) → ClientAt w.clients s c → c.entry.state ≡ phase.Free → items ≡ item.AskBegin s n ∷ [] → Asking w s items
  ForCommit : (c : Client) (n start : ℕ) → ClientAt w.clients s c → c.entry.state ≡ phase.Open → c.entry.start ≡ Some start → items ≡ item.AskCommit s n start ∷ [] → Asking w s items

pub asking : (w : State) (o : Outcome w) (s : ℕ) → Asking w s (told_by_outcome w o)
asking w (OfAskedBegin k) s = elim (cases_eq k.session s) [
  | inl same ↦ ForBegin k.c k.node (subst (λ (q : ℕ). ClientAt w.clients q k.c) same k.client_at) k.free (ap (λ (q : ℕ). item.AskBegin q k.node ∷ []) same)
  | inr other ↦ Nobody (one_unasked s (item.AskBegin k.session k.node) (ne_eqb k.session s other))
]
asking w (OfAskedCommit k) s = elim (cases_eq k.session s) [
  | inl same ↦ ForCommit k.c k.node k.start (subst (λ (q : ℕ). ClientAt w.clients q k.c) same k.client_at) k.is_open k.start_is (k.tells ∙ ap (λ (q : ℕ). item.AskCommit q k.node k.start ∷ []) same)
  | inr other ↦ Nobody (these_unasked s k.items _ k.tells (one_unasked s (item.AskCommit k.session k.node k.start) (ne_eqb k.session s other)))
]
asking w o s = Nobody (plain_asks w o s refl)

-- a session that is neither free nor open asks nothing
pub unasked : (w : State) (s : ℕ) (c : Client) (items : List Item) → ClientAt w.clients s c → (c.entry.state ≡ phase.Free → ⊥) → (c.entry.state ≡ phase.Open → ⊥) → Asking w s items → NoneAsked s items
unasked w s c items at not_free not_open (Nobody none) = none
unasked w s c items at not_free not_open (ForBegin d n there free is) = absurd (not_free (ap (λ (x : Client). x.entry.state) (one_client w.clients s c d at there) ∙ free))
unasked w s c items at not_free not_open (ForCommit d n start there is_open start_is is) = absurd (not_open (ap (λ (x : Client). x.entry.state) (one_client w.clients s c d at there) ∙ is_open))
