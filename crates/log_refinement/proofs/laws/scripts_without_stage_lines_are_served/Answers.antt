use Rattle.log_refinement.proofs.ServedOutcomes as lemmas
use Rattle.log_refinement.proofs.laws.scripts_without_stage_lines_are_served.Goals as goal

pub returns : goal.returns
returns c = lemmas.served_by_outcomes
