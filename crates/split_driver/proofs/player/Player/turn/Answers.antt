use Rattle.std.proofs.Common.{◌≡◌, sym, ap, subst, ◌∙◌}
use Rattle.history_book.specs.declared.item.Actor.{Actor}
use Rattle.command_semantics.specs.declared.point.Point.{Point}
use Rattle.log_refinement.specs.Follows.{IsLater}
use Rattle.split_driver.specs.Runs.{MayRun, stand}
use Rattle.split_driver.specs.Sights.{IsSightOf}
use Rattle.split_driver.proofs.Following.{ticks_within, goes_on_none, stops_here}
use Rattle.split_driver.proofs.LaterEvents.{may_run}
use Rattle.split_driver.proofs.player.Player.turn.Goals as goal

pub choose-requires-clause-ticks : goal.choose-requires-clause-ticks
choose-requires-clause-ticks g c = ticks_within c.args.line.now.verb c.requires.ticks

pub choose-requires-clause-sight : goal.choose-requires-clause-sight
choose-requires-clause-sight g c = subst (λ (a : Actor). IsSightOf a c.look-sight.result) (sym c.requires.own) c.look-sight.ensures

pub choose-requires-clause-may : goal.choose-requires-clause-may
choose-requires-clause-may g c = subst (λ (a : Actor). MayRun a c.args.line.now.verb c.args.point) (sym c.requires.own) c.requires.may

pub returns-in-Over-clause-on : goal.returns-in-Over-clause-on
returns-in-Over-clause-on g c = goes_on_none c.args.self.now.actor (stand c.args.seat.now c.args.account.now)

pub returns-in-Stuck-clause-stops : goal.returns-in-Stuck-clause-stops
returns-in-Stuck-clause-stops g c = stops_here c.args.self.now.actor (stand c.args.seat.now c.args.account.now)
