use Rattle.service_laws.proofs.OneCopyLaw as lemmas
use Rattle.service_laws.proofs.one_copy.one_copy_if_strict.Goals as goal

pub returns : goal.returns
returns c = lemmas.one_copy_always
