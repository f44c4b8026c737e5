use Rattle.std.proofs.Common.{rules, ◌≡◌, arith}
use Rattle.std.specs.Prelude.{IsTrue}
use Rattle.split_parts.specs.Parts.{seen}
use Rattle.split_stores.proofs.LockLemmas.{next_session}
use Rattle.split_stores.proofs.inside.are_sessions.Goals as goal

pub returns-then-not-is_session : goal.returns-then-not-is_session
returns-then-not-is_session c = (
  λ no. absurd (cc),
  λ all.
      let there : IsTrue c.is_session.result = c.is_session.ensures.1 (all c.in-Some.session (grind arith)) in
      search rules,
)

pub loop-number-preserved : goal.loop-number-preserved
loop-number-preserved c = next_session (seen c.args.lent.now) c.loop-number.number c.in-Some.session (grind arith) c.loop-number.invariant (c.is_session.ensures.0 (search rules))
