-- What is marked before it is placed, and what is neither open nor in flight, is never placed, whatever comes.
use Rattle.isolation_laws.proofs.Names.{ℕ, List, [], ◌∷◌, ◌++◌, append_assoc, sym, subst, append-nil, Item, State}
use Rattle.isolation_laws.proofs.Names.{stepped, Move, state_after, items_after, AreSteady, IsolationInvariant}
use Rattle.isolation_laws.proofs.Names.{ReachedInvariant, IsMarkedFirst, IsLost, Outcome, left_by, told_by_outcome}
use Rattle.machine.specs.Machine.{Step}
use Rattle.isolation_laws.proofs.AlwaysHolds.{each_outcome, facts_stay, steady_now, steady_stays}
use Rattle.isolation_laws.proofs.Holding.NeverPlaced.{marked_outcome, lost_outcome}

-- what each outcome keeps, moves keep
kept_after : (P : State → List Item → Type 0) → ((w : State) (h : List Item) (o : Outcome w) → IsolationInvariant w h → P w h → P (left_by w o) (h ++ told_by_outcome w o)) → (w : State) (h : List Item) (moves : List Move) → ReachedInvariant w h → AreSteady w.setup.skew w.seen moves → P w h → P (state_after w moves) (h ++ items_after w moves)
unfolding state_after items_after
kept_after P each w h [] both steady has = subst (λ (xs : List Item). P w xs) (sym (append-nil h)) has
kept_after P each w h (move ∷ moves) both steady has =
    let step : Step = stepped w move.event move.fate in
    let after : ReachedInvariant step.state (h ++ step.items) = facts_stay w h move.event move.fate both (steady_now w move moves steady) in
    let kept : P step.state (h ++ step.items) = each_outcome (λ v items. P v (h ++ items)) w h move.event move.fate both (λ o. each w h o both.holds has) in
    subst (λ (xs : List Item). P (state_after step.state moves) xs) (append_assoc h step.items (items_after step.state moves)) (kept_after P each step.state (h ++ step.items) moves after (steady_stays w move moves steady) kept)

pub marked_first_after : (w : State) (h : List Item) (moves : List Move) (t : ℕ) → ReachedInvariant w h → AreSteady w.setup.skew w.seen moves → IsMarkedFirst w h t → IsMarkedFirst (state_after w moves) (h ++ items_after w moves) t
marked_first_after w h moves t = kept_after (λ v g. IsMarkedFirst v g t) (λ v g o holds first. marked_outcome v g o t holds first) w h moves

pub lost_after : (w : State) (h : List Item) (moves : List Move) (t : ℕ) → ReachedInvariant w h → AreSteady w.setup.skew w.seen moves → IsLost w h t → IsLost (state_after w moves) (h ++ items_after w moves) t
lost_after w h moves t = kept_after (λ v g. IsLost v g t) (λ v g o holds lost. lost_outcome v g o t holds lost) w h moves
