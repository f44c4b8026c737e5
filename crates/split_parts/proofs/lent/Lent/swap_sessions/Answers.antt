use Rattle.split_parts.proofs.Names.{refl, ◌∙◌, arith, given_sessions, lent_clients, sessions_seen}
use Rattle.split_parts.proofs.OneMore.{clients_next, sessions_next}
use Rattle.split_parts.proofs.lent.Lent.swap_sessions.Goals as goal

pub loop-number-init : goal.loop-number-init
unfolding lent_clients given_sessions
loop-number-init c = record { state = refl; history = refl; sessions = refl; rest = refl }

pub loop-number-preserved : goal.loop-number-preserved
loop-number-preserved c = record {
  state = clients_next c.args.engine.now.state c.loop-number.engine.state c.swap_session.new.engine.state c.loop-number.number (sessions_seen c.args.self.now) (sessions_seen c.loop-number.self) (grind arith) (grind arith) c.loop-number.invariant.state c.loop-number.invariant.sessions c.swap_session.ensures.state;
  history = c.swap_session.ensures.history ∙ c.loop-number.invariant.history;
  sessions = sessions_next c.args.engine.now.state c.loop-number.engine.state c.loop-number.number (sessions_seen c.args.self.now) (sessions_seen c.loop-number.self) (sessions_seen c.swap_session.new.self) (grind arith) (grind arith) c.loop-number.invariant.state c.loop-number.invariant.sessions c.swap_session.ensures.sessions;
  rest = c.swap_session.ensures.rest ∙ c.loop-number.invariant.rest;
}
