use Rattle.run_board.proofs.Names.{◌∙◌, ap, ClusterModel, carried_items, Ran, reached_by}
use Rattle.run_board.proofs.run.ScriptRun.into_parts.Goals as goal

pub returns-clause-history : goal.returns-clause-history
returns-clause-history c = ap (λ (w : ClusterModel). w.history) c.into_cluster.ensures ∙ c.self.invariant.0.history ∙ ap (λ (r : Ran). carried_items r.script r.turns) c.self.view_is

pub returns-clause-state : goal.returns-clause-state
returns-clause-state c = ap (λ (w : ClusterModel). w.state) c.into_cluster.ensures ∙ c.self.invariant.0.state ∙ ap (λ (r : Ran). (reached_by r).played.state) c.self.view_is
