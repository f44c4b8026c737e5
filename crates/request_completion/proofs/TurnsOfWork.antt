-- The transition of a session that places its commit, resolves it, or completes its transaction.
use Rattle.request_completion.proofs.Names.{◌≡◌, ℕ, List, [], ◌∷◌, ◌++◌, append_assoc, Option, None, Some, inl, inr}
use Rattle.request_completion.proofs.Names.{refl, sym, ◌∙◌, ap, subst, All-append, DeadEnd, Item, SettleTurn, Goes}
use Rattle.request_completion.proofs.Names.{Decides, settle_ask, settle_turn, Settled, Client, State, told_by}
use Rattle.request_completion.proofs.Names.{client_settled, settle_items, Silent, AllSilent, one_silent, two_silent}
use Rattle.request_completion.proofs.Names.{answered_client, answered_item, AtPlacing, own_told, OutcomeStepped}
use Rattle.request_completion.proofs.Names.{CompletedOne, OfCompleted, has_by, ExplainedInvariant, NoneEnds}
use Rattle.request_completion.proofs.Names.{IsCommitting, SessionTransition, Frees}
use Rattle.history_book.specs.declared.item.Item.TheVariants as item
use Rattle.system_parts.specs.declared.resolve.Outcome.TheVariants as outcome
use Rattle.system_parts.specs.declared.session.State.TheVariants as phase
use Rattle.request_completion.proofs.EndingItems.{silent_ends, last_none, answered_told, own_front, own_is, own_silent, ends_none}
use Rattle.request_completion.proofs.SessionTurns.{answered_turn, settled_turn, asks_turn}

-- ---- a session places its commit
placing_waits : (w : State) (h : List Item) (it : AtPlacing w) → ExplainedInvariant w h → IsCommitting h it.session it.start it.c
placing_waits w h it tells =
    let asked = tells.shows.placing.each it.session it.start it.commit it.c it.client_at it.placing it.start_is it.commit_is in
    record { state = inr it.placing; start_is = it.start_is; asked = (asked.node, asked.asked) }

-- the items of a placing, behind what was placed
placed_is : (by : Settled) (front items : List Item) (session start commit : ℕ) → items ≡ own_told by session start commit → front ++ items ≡ (front ++ own_front by session start) ++ answered_item by session start commit ∷ []
placed_is by front items session start commit is = ap (λ (xs : List Item). front ++ xs) (is ∙ own_is by session start commit) ∙ sym (append_assoc front (own_front by session start) (answered_item by session start commit ∷ []))

pub placing_turn : (w : State) (h : List Item) (it : AtPlacing w) (front items : List Item) (by : Settled) → ExplainedInvariant w h → AllSilent front → items ≡ own_told by it.session it.start it.commit → SessionTransition h it.session it.c (front ++ items) (answered_client by it.c it.commit)
placing_turn w h it front items by tells silent is =
    answered_turn h it.session it.start it.commit it.c (front ++ own_front by it.session it.start) (front ++ items) by (placing_waits w h it tells)
    (All-append Silent front (own_front by it.session it.start) silent (own_silent by it.session it.start)) (placed_is by front items it.session it.start it.commit is)

pub placing_other : (w : State) (it : AtPlacing w) (front items : List Item) (by : Settled) (s : ℕ) → AllSilent front → items ≡ own_told by it.session it.start it.commit → (s ≡ it.session → ⊥) → NoneEnds s (front ++ items)
placing_other w it front items by s silent is other =
    last_none s it.session (front ++ own_front by it.session it.start) (answered_item by it.session it.start it.commit) (front ++ items) (placed_is by front items it.session it.start it.commit is)
    (All-append Silent front (own_front by it.session it.start) silent (own_silent by it.session it.start)) (λ ends. answered_told s by it.session it.start it.commit ends) other

-- ---- the resolve of an own commit
pub resolve_turn : (w : State) (h : List Item) (k : OutcomeStepped w) → ExplainedInvariant w h → SessionTransition h k.it.session k.it.c k.items (client_settled k.it.c k.x (settle_turn k.x (told_by (settle_ask k.x) w.rows w.pairs)))
resolve_turn w h k tells =
    let begun = tells.stands.holds.requests.have_begun.begun k.it.session k.it.c k.it.client_at (has_by k.it.c.entry.state phase.OpenOutcome k.it.is_open refl) in
    settled_turn h k.it.session begun.0 k.it.c k.x k.first k.items (settle_turn k.x (told_by (settle_ask k.x) w.rows w.pairs)) k.it.is_open begun.1 k.silent
    (k.tells ∙ ap (λ (start : Option ℕ). k.first ∷ settle_items k.it.session start (settle_turn k.x (told_by (settle_ask k.x) w.rows w.pairs))) begun.1)

resolve_other_by : (s r : ℕ) (start : Option ℕ) (turn : SettleTurn) (first : Item) (items : List Item) → items ≡ first ∷ settle_items r start turn → Silent first → (s ≡ r → ⊥) → NoneEnds s items
resolve_other_by s r (Some start) (Decides (outcome.Committed commit by_table)) first items is silent other = last_none s r (first ∷ []) (item.Committed r start commit) items is (one_silent first silent) (λ ends. ends) other
resolve_other_by s r (Some start) (Decides outcome.Dead) first items is silent other = silent_ends s items (subst AllSilent (sym is) (two_silent first (item.End r start DeadEnd) silent refl))
resolve_other_by s r (Some start) (Goes point) first items is silent other = silent_ends s items (subst AllSilent (sym is) (one_silent first silent))
resolve_other_by s r None turn first items is silent other = silent_ends s items (subst AllSilent (sym is) (one_silent first silent))

pub resolve_other : (w : State) (k : OutcomeStepped w) (s : ℕ) → (s ≡ k.it.session → ⊥) → NoneEnds s k.items
resolve_other w k s other = resolve_other_by s k.it.session k.it.c.entry.start (settle_turn k.x (told_by (settle_ask k.x) w.rows w.pairs)) k.first k.items k.tells k.silent other

-- ---- a completion
pub completed_turn : (w : State) (h : List Item) (k : CompletedOne w) → SessionTransition h k.session k.c k.items k.left
completed_turn w h k =
    let none : NoneEnds k.session k.items = ends_none w (OfCompleted k) k.session refl in
    elim k.left_is [
      | inl goes ↦ subst (λ (d : Client). SessionTransition h k.session k.c k.items d) (sym goes.0) (asks_turn h k.session k.c k.undo k.asks k.items k.completing none)
      | inr freed ↦ subst (λ (d : Client). SessionTransition h k.session k.c k.items d) (sym freed.0) (Frees (inr (k.undo, k.completing)) refl none)
    ]
