use Rattle.line_reasons.proofs.ObjectLemmas.{more_there}
use Rattle.line_reasons.proofs.members.has_more.Goals as goal

pub returns-in-Some : goal.returns-in-Some
returns-in-Some c = λ _. more_there _ _ c.in-Some.members.now.entries c.names_in.result c.len.result c.in-Some.ensures c.names_in.ensures.names c.len.ensures.len c.if-names_in-len.true
