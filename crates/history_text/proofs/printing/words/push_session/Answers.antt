use Rattle.std.proofs.Common.{arith, codes}
use Rattle.std.proofs.lemmas.Fmt.{length-decimal-le}
use Rattle.history_text.proofs.DigitLemmas.{short_name}
use Rattle.history_text.proofs.printing.words.push_session.Goals as goal

pub returns-clause-len : goal.returns-clause-len
returns-clause-len c = omega (arith, short_name _ _ (codes "s") c.value.result 2 c.print_one.ensures.text (length-decimal-le 2 c.value.result (omega arith) (omega arith) (omega arith)))
