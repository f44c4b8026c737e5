use Rattle.std.proofs.lemmas.Slice.Eq.{slice_eq-Decides}
use Rattle.thread_scripts.proofs.Deciding.{Decides-line}
use Rattle.thread_scripts.proofs.copying.same_lines.Goals as goal

pub returns : goal.returns
returns c = slice_eq-Decides Decides-line _ _ _ c.eq.ensures
