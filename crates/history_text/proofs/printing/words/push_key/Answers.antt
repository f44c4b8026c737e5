use Rattle.std.proofs.Common.{arith, codes}
use Rattle.std.proofs.lemmas.Fmt.{length-decimal-le}
use Rattle.history_text.proofs.DigitLemmas.{short_name}
use Rattle.history_text.proofs.printing.words.push_key.Goals as goal

pub returns-clause-len : goal.returns-clause-len
returns-clause-len c = omega (arith, short_name _ _ (codes "k") c.value.result 4 c.print_one.ensures.text (length-decimal-le 4 c.value.result (omega arith) (omega arith) (omega arith)))
