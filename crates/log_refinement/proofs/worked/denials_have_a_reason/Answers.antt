use Rattle.log_refinement.proofs.WorkedDues as lemmas
use Rattle.log_refinement.proofs.worked.denials_have_a_reason.Goals as goal

pub returns : goal.returns
returns c = record { stage = lemmas.stage_ends; crash = lemmas.crash_ends; none = lemmas.alone_owes; other = lemmas.other_owes }
