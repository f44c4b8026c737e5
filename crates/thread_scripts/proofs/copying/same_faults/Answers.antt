use Rattle.std.proofs.lemmas.Slice.Eq.{slice_eq-Decides}
use Rattle.thread_scripts.proofs.Deciding.{Decides-fault}
use Rattle.thread_scripts.proofs.copying.same_faults.Goals as goal

pub returns : goal.returns
returns c = slice_eq-Decides Decides-fault _ _ _ c.eq.ensures
