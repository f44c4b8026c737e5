-- How one part and the engine's stand for each other.
use Rattle.std.specs.Prelude.{ℕ, slice_index_or, Option, None, Some}
use Rattle.machine.specs.State.{Client, State, client_new}
use Rattle.machine.specs.Machine.{with_client}
use Rattle.split_parts.specs.Parts.{Session}

-- the client of a session of the system
abbrev pub client_at : State → ℕ → Client
client_at w session = slice_index_or w.clients session (client_new 0)

-- the state with the client that is lent for a session, if one is
abbrev pub client_in : State → ℕ → Option Session → State
client_in w session None = w
client_in w session (Some own) = with_client w session own.client
