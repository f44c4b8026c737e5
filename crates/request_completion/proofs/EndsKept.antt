-- What the history shows of sessions whose asks and transactions come to their end: at first, and after every event.
use Rattle.std.proofs.Common.{arith}
use Rattle.request_completion.proofs.Names.{◌≡◌, ℕ, zero, suc, List, [], ◌∷◌, ◌++◌, append_assoc, Some, sym}
use Rattle.request_completion.proofs.Names.{subst, slice_get, replicate, append-nil, same_Some, none-some}
use Rattle.request_completion.proofs.Names.{SetupNumbers, AreInRange, Fate, ◌∈◌, Item}
use Rattle.request_completion.proofs.Names.{Event, State, opening, Step, stepped, Move, state_after}
use Rattle.request_completion.proofs.Names.{items_after, history_after, AreSteady, Steady}
use Rattle.request_completion.proofs.Names.{each_outcome, steady_now, steady_stays, ExplainedInvariant, AreClosed, Ends}
use Rattle.cause_laws.proofs.AlwaysExplained.{tells_stay, tells_at_first}
use Rattle.request_completion.specs.Laws.{EndsAtFirst, EventsKeepEnds, ToldWaitsStand, OpenOutcomesWereTold, CommitsAreRemoved, RefusalsAreErased}
use Rattle.request_completion.proofs.AwaitedNow.{awaited_kept}
use Rattle.request_completion.proofs.ClosedKept.{closed_on}
use Rattle.request_completion.proofs.ErasedKept.{erased_kept}
use Rattle.request_completion.proofs.RemovedKept.{removed_kept}
use Rattle.request_completion.proofs.SinceKept.{waits_kept, gone_kept, outcomes_kept}

-- ---- at first
found_copy : {X : Type 0} (n : ℕ) (x y : X) (p : ℕ) → slice_get (replicate n x) p ≡ Some y → y ≡ x
found_copy zero x y p found = absurd (cc)
found_copy (suc n) x y zero found = sym (same_Some x y found)
found_copy (suc n) x y (suc p) found = found_copy n x y p found

none_stood : (before behind : List Item) (x : Item) → [] ≡ before ++ x ∷ behind → ⊥
none_stood [] behind x is = cc
none_stood (y ∷ before) behind x is = cc

none_in : (x : Item) → x ∈ [] → ⊥
unfolding ◌∈◌
none_in x m = m

pub ends_at_first : EndsAtFirst
ends_at_first setup = grind (arith, none-some, found_copy, none_in, none_stood)

-- ---- one event
closed_kept : (w : State) (h : List Item) (e : Event) (fate : Fate) → ExplainedInvariant w h → AreClosed w.clients h → AreClosed (stepped w e fate).state.clients (h ++ (stepped w e fate).items)
closed_kept w h e fate tells are = each_outcome (λ v items. AreClosed v.clients (h ++ items)) w h e fate tells.stands (λ o. closed_on w h o tells.stands.holds are)

pub events_keep_ends : EventsKeepEnds
events_keep_ends w h e fate tells ends = record {
  waits = waits_kept w h e fate tells ends.waits;
  gone = gone_kept w h e fate tells ends.gone;
  outcomes = outcomes_kept w h e fate tells ends.outcomes;
  awaited = awaited_kept w h e fate tells ends.awaited;
  closed = closed_kept w h e fate tells ends.closed;
  removed = removed_kept w h e fate tells ends.gone ends.removed;
  erased = erased_kept w h e fate tells ends.gone ends.closed ends.erased;
}

-- ---- all moves
ends_after : (w : State) (h : List Item) (moves : List Move) → ExplainedInvariant w h → Ends w h → AreSteady w.setup.skew w.seen moves → Ends (state_after w moves) (h ++ items_after w moves)
unfolding state_after items_after
ends_after w h [] tells ends steady = subst (λ (xs : List Item). Ends w xs) (sym (append-nil h)) ends
ends_after w h (move ∷ moves) tells ends steady =
    let step : Step = stepped w move.event move.fate in
    let told : ExplainedInvariant step.state (h ++ step.items) = tells_stay w h move.event move.fate tells (steady_now w move moves steady) in
    let after : Ends step.state (h ++ step.items) = events_keep_ends w h move.event move.fate tells ends in
    subst (λ (xs : List Item). Ends (state_after step.state moves) xs) (append_assoc h step.items (items_after step.state moves)) (ends_after step.state (h ++ step.items) moves told after (steady_stays w move moves steady))

always_ends : (setup : SetupNumbers) (moves : List Move) → AreInRange setup → Steady setup moves → Ends (state_after (opening setup) moves) (history_after setup moves)
always_ends setup moves in_range steady = ends_after (opening setup) [] moves (tells_at_first setup in_range) (ends_at_first setup) steady

pub told_waits_stand : ToldWaitsStand
told_waits_stand setup moves in_range steady = (always_ends setup moves in_range steady).waits

pub open_outcomes_were_told : OpenOutcomesWereTold
open_outcomes_were_told setup moves in_range steady = (always_ends setup moves in_range steady).outcomes

pub commits_are_removed : CommitsAreRemoved
commits_are_removed setup moves in_range steady = (always_ends setup moves in_range steady).removed

pub refusals_are_erased : RefusalsAreErased
refusals_are_erased setup moves in_range steady = (always_ends setup moves in_range steady).erased
