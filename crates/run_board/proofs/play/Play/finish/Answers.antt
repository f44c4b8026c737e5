use Rattle.run_board.proofs.Names.{refl, subst, ScriptData, AnswersOnThreads, KeepsService}
use Rattle.run_board.proofs.play.Play.finish.Goals as goal

pub returns-clause-answered : goal.returns-clause-answered
returns-clause-answered g c = subst (λ (script : ScriptData). AnswersOnThreads script c.close.result.0.history) (c.if-not-is_over.ensures.0 refl).same_script c.close.ensures.answered

pub returns-clause-service : goal.returns-clause-service
returns-clause-service g c = subst (λ (script : ScriptData). KeepsService script.setup c.close.result.0.history) (c.if-not-is_over.ensures.0 refl).same_script c.close.ensures.service
