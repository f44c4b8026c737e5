use Rattle.std.proofs.Common.{Option, IfSome, subst}
use Rattle.read_sets.specs.declared.index.Index.{Index}
use Rattle.read_sets.specs.Index.{IsIndexOf}
use Rattle.read_sets.proofs.index.may_write.Goals as goal

pub returns-in-Some : goal.returns-in-Some
returns-in-Some c = λ h is off. c.has_written.ensures h (subst (λ (o : Option Index). IfSome o (λ some. IsIndexOf h some)) c.in-Some.is is) off
