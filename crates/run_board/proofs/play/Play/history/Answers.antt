use Rattle.run_board.proofs.Names.{subst, IsPlannedSoFar, AreBehind, reached_by, place_of, Played, AreCounted}
use Rattle.run_board.proofs.Names.{AreAnsweredSoFar}
use Rattle.run_board.proofs.SoFar.{answered_so_far, planned_so_far}
use Rattle.run_board.proofs.play.Play.history.Goals as goal

pub returns-clause-answered : goal.returns-clause-answered
returns-clause-answered g c = subst (λ (p : Played). AreAnsweredSoFar p.ran) c.self.view_is (answered_so_far c.self.inside.run c.self.inside.cursors c.turns_answer_so_far.ensures c.self.invariant.kept)

pub returns-clause-behind : goal.returns-clause-behind
returns-clause-behind g c = subst (λ (p : Played). AreBehind (place_of p.ran) p.cursors) c.self.view_is c.self.invariant.kept.behind

pub returns-clause-counted : goal.returns-clause-counted
returns-clause-counted g c = subst (λ (p : Played). AreCounted p.ran p.cursors) c.self.view_is c.self.invariant.counted

pub returns-clause-planned : goal.returns-clause-planned
returns-clause-planned g c = subst (λ (p : Played). IsPlannedSoFar p.ran.script (reached_by p.ran)) c.self.view_is (planned_so_far c.self.inside.run c.self.inside.cursors c.turns_are_planned_so_far.ensures c.self.invariant.kept)
