use Rattle.run_board.proofs.Names.{ScriptData, AnswersOnThreads, Planned, KeepsService, IsResult}
use Rattle.run_board.proofs.Closing.{AreOf, result_at_end, answered_at_end, planned_at_end, service_at_end, of_parts}
use Rattle.run_board.proofs.play.Play.close.Goals as goal

pub returns-clause-result : goal.returns-clause-result
returns-clause-result g c =
    let run = c.self.inside.run in
    let cursors = c.self.inside.cursors in
    let history = c.into_parts.result.0.history in
    let turns = c.into_parts.result.1.items in
    let of : AreOf run history turns = record { history_is = c.into_parts.ensures.history; turns_are = c.into_parts.ensures.turns; lawful = c.into_parts.ensures.lawful } in
    of_parts run cursors c.args.self (λ (script : ScriptData). IsResult script history turns) c.self.view_is (result_at_end run cursors history turns c.ended_runs_are_whole.ensures c.self.invariant.kept of) c.requires.ends

pub returns-clause-answered : goal.returns-clause-answered
returns-clause-answered g c =
    let run = c.self.inside.run in
    let cursors = c.self.inside.cursors in
    let history = c.into_parts.result.0.history in
    of_parts run cursors c.args.self (λ (script : ScriptData). AnswersOnThreads script history) c.self.view_is (answered_at_end run cursors history c.ended_runs_are_whole.ensures c.turns_answer.ensures c.self.invariant.kept c.into_parts.ensures.history) c.requires.ends

pub returns-clause-planned : goal.returns-clause-planned
returns-clause-planned g c =
    let run = c.self.inside.run in
    let cursors = c.self.inside.cursors in
    let history = c.into_parts.result.0.history in
    of_parts run cursors c.args.self (λ (script : ScriptData). Planned script history) c.self.view_is (planned_at_end run cursors history c.ended_runs_are_whole.ensures c.turns_are_planned.ensures c.self.invariant.kept c.into_parts.ensures.history) c.requires.ends

pub returns-clause-service : goal.returns-clause-service
returns-clause-service g c =
    let run = c.self.inside.run in
    let cursors = c.self.inside.cursors in
    let history = c.into_parts.result.0.history in
    of_parts run cursors c.args.self (λ (script : ScriptData). KeepsService script.setup history) c.self.view_is (λ _. service_at_end run cursors history c.turns_keep_service.ensures c.self.invariant.kept c.into_parts.ensures.history) c.requires.ends
