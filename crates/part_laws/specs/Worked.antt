-- A session's part of a state and one that is of no such state; a session and a node of one state, and of two.
use Rattle.std.specs.Prelude.{[], ◌∷◌, None, Some, replicate, slice_index_or}
use Rattle.stamp_base.specs.SetupNumbers.{default_numbers}
use Rattle.script_data.specs.Data.{ScriptData}
use Rattle.machine.specs.declared.event.Event.TheVariants as event
use Rattle.machine.specs.Clients.{client_vanished}
use Rattle.machine.specs.State.{Client, State, client_new, opening}
use Rattle.machine.specs.Machine.{state_after}
use Rattle.machine.specs.WorkedMoves.{working}
use Rattle.split_parts.specs.Parts.{Node, Parts}
use Rattle.split_parts.specs.Lending.{no_parts}

abbrev pub plan : ScriptData
plan = record { setup = default_numbers; leads = []; faults = []; lines = [] }

abbrev pub opened : State
opened = opening default_numbers

-- the session 0 alone is lent
abbrev pub one_session : Client → Parts
one_session c = record (no_parts plan) { sessions = Some (record { number = 0; client = c }) ∷ replicate 15 None }

-- it is free, as in the opening state; it has vanished
abbrev pub free_session : Parts
free_session = one_session (client_new 0)

abbrev pub vanished_session : Parts
vanished_session = one_session (client_vanished (client_new 0))

-- ---- the node 0 has taken the record, and the session 0 has asked it for a start
abbrev pub asked : State
asked = state_after opened (working (event.Take 0 0 ∷ event.AskBegin 0 0 ∷ []))

-- the session and the node, with the base clock
abbrev pub first_node : State → Node
first_node w = record { node = 0; instance = slice_index_or w.nodes 0 None }

abbrev pub with_node : Client → State → Parts
with_node c w = record (one_session c) { clock = Some 0; node = Some (first_node w) }

-- both of that state; the session as it was at the opening, and the node of that state
abbrev pub of_one_state : Parts
of_one_state = with_node (slice_index_or asked.clients 0 (client_new 0)) asked

abbrev pub of_two_states : Parts
of_two_states = with_node (client_new 0) asked
