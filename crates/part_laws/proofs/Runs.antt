-- Each state of a run is reached so.
use Rattle.std.proofs.Common.{arith, List, [], ◌∷◌, ◌++◌, append_assoc, sym, subst}
use Rattle.std.proofs.lemmas.List.{append-nil}
use Rattle.stamp_base.specs.SetupNumbers.{SetupNumbers, AreInRange}
use Rattle.history_book.specs.declared.item.Item.{Item}
use Rattle.machine.specs.State.{State, opening}
use Rattle.machine.specs.Machine.{Move, Step, stepped, Steady, AreSteady, state_after, items_after, history_after}
use Rattle.isolation_laws.proofs.AlwaysHolds.{steady_now, steady_stays}
use Rattle.cause_laws.specs.ShownInvariant.{ExplainedInvariant}
use Rattle.cause_laws.proofs.AlwaysExplained.{tells_at_first, tells_stay}
use Rattle.part_laws.specs.Reached.{HoldWrittenKeys, ReachedPartsAgree, WrittenKeysAreHeld}
use Rattle.part_laws.proofs.HeldKeys.{held_at_first, held_stays}
use Rattle.part_laws.proofs.PartsAgree.{agree}

-- with this history all facts hold of the state
record Stands (w : State) (h : List Item) : Type 0 where
  told : ExplainedInvariant w h
  keys : HoldWrittenKeys w.nodes h

stands_after : (w : State) (h : List Item) (moves : List Move) → Stands w h → AreSteady w.setup.skew w.seen moves → Stands (state_after w moves) (h ++ items_after w moves)
unfolding state_after items_after
stands_after w h [] at steady = subst (Stands w) (sym (append-nil h)) at
stands_after w h (move ∷ moves) at steady =
    let step : Step = stepped w move.event move.fate in
    let after : Stands step.state (h ++ step.items) = record {
      told = tells_stay w h move.event move.fate at.told (steady_now w move moves steady);
      keys = held_stays w h move.event move.fate at.told.stands at.keys;
    } in
    subst (Stands (state_after step.state moves)) (append_assoc h step.items (items_after step.state moves)) (stands_after step.state (h ++ step.items) moves after (steady_stays w move moves steady))

always_stands : (setup : SetupNumbers) (moves : List Move) → AreInRange setup → Steady setup moves → Stands (state_after (opening setup) moves) (history_after setup moves)
always_stands setup moves in_range steady = stands_after (opening setup) [] moves (record { told = tells_at_first setup in_range; keys = held_at_first setup }) steady

-- the laws
pub keys_held : WrittenKeysAreHeld
keys_held setup moves in_range steady = (always_stands setup moves in_range steady).keys

pub reached_agree : ReachedPartsAgree
reached_agree setup moves l e in_range steady of has clock calls = grind (arith, always_stands, agree)
