use Rattle.service_laws.proofs.OneCopyLaw as lemmas
use Rattle.service_laws.proofs.one_copy.reads_give_one_copy.Goals as goal

pub returns : goal.returns
returns c = lemmas.one_copy_now
