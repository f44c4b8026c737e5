use Rattle.std.proofs.Common.{Option, refl, ◌∙◌, subst}
use Rattle.std.specs.Option.{IfSome}
use Rattle.command_semantics.specs.declared.point.Point.{Point}
use Rattle.split_driver.specs.Runs.{MayRun, stand}
use Rattle.split_driver.proofs.Following.{goes_on_none, goes_on_more}
use Rattle.split_driver.proofs.player.Player.run.Goals as goal

pub loop-init : goal.loop-init
loop-init g c = (refl, goes_on_none c.args.self.now.actor (stand c.args.seat.now c.args.account.now), c.requires.may)

pub loop-preserved : goal.loop-preserved
loop-preserved g c = (c.turn.ensures.word ∙ c.loop.invariant.0, goes_on_more _ _ _ _ c.loop.invariant.1 c.in_ok-then.ensures.on, subst (λ (then : Option Point). IfSome then (MayRun c.args.self.now.actor c.args.line.now.verb)) c.in-Some-2.is c.in_ok-then.ensures.may)

pub returns-in-None-2-clause-on : goal.returns-in-None-2-clause-on
returns-in-None-2-clause-on g c = goes_on_more _ _ _ _ c.loop.invariant.1 c.in_ok-then.ensures.on

pub turn-requires-clause-may : goal.turn-requires-clause-may
turn-requires-clause-may g c κs within = c.loop.invariant.2
