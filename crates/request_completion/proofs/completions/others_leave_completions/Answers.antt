use Rattle.request_completion.proofs.LeftByOthers as lemmas
use Rattle.request_completion.proofs.completions.others_leave_completions.Goals as goal

pub returns : goal.returns
returns c = lemmas.others_leave_completions
