-- What is lent for a session, and the lent node's instance in the filled state.
use Rattle.std.specs.Prelude.{ℕ, nat_lt, slice_index_or, option_map, if◌then◌else◌, Option, None, Some}
use Rattle.system_parts.specs.Instance.{InstanceEntry}
use Rattle.machine.specs.State.{Client}
use Rattle.split_parts.specs.Parts.{Node, Parts, Session}

-- what is lent as the session's part, and its client
abbrev pub session_at : Parts → ℕ → Option Session
session_at l session = slice_index_or l.sessions session None

abbrev pub client_lent : Parts → ℕ → Option Client
client_lent l session = option_map (λ own. own.client) (session_at l session)

-- what stands at the lent node, where there are so many nodes that it is one
abbrev pub post_by : ℕ → Option Node → Option (Option InstanceEntry)
post_by nodes None = None
post_by nodes (Some n) = if nat_lt n.node nodes then Some n.instance else None
