use Rattle.std.specs.Prelude.{◌≡◌}
use Rattle.split_parts.specs.Parts.{given_sessions, lent_clients, rest_of, sessions_seen}
use Rattle.split_parts.proofs.lent.Lent.swap_sessions.Given as goal

abbrev pub invariant-loop-number : goal.invariant-loop-number
invariant-loop-number l = record {
  state : l.engine.state ≡ record l.fn.engine.state { clients = lent_clients l.number l.fn.engine.state.clients (sessions_seen l.fn.self) };
  history : l.engine.history ≡ l.fn.engine.history;
  sessions : sessions_seen l.self ≡ given_sessions l.number (sessions_seen l.fn.self) l.fn.engine.state.clients;
  rest : rest_of l.self ≡ rest_of l.fn.self;
}
