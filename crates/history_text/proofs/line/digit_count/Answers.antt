use Rattle.std.proofs.Common.{arith}
use Rattle.history_text.proofs.DigitLemmas.{four_more, at_most_twenty}
use Rattle.history_text.proofs.line.digit_count.Goals as goal

pub overflow_add-count : goal.overflow_add-count
overflow_add-count c =
    omega (arith, four_more c.loop-rest.rest c.loop-rest-test.true (omega arith), c.loop-rest.invariant, at_most_twenty c.args.number (omega arith))

pub loop-rest-preserved : goal.loop-rest-preserved
loop-rest-preserved c = omega (arith, four_more c.loop-rest.rest c.loop-rest-test.true (omega arith), c.loop-rest.invariant)

pub overflow_add-result : goal.overflow_add-result
overflow_add-result c = omega (arith, c.last_digits.ensures, c.loop-rest.invariant, at_most_twenty c.args.number (omega arith))

pub returns-clause-digits : goal.returns-clause-digits
returns-clause-digits c = omega (arith, c.last_digits.ensures, c.loop-rest.invariant)

pub returns-clause-most : goal.returns-clause-most
returns-clause-most c = omega (arith, c.last_digits.ensures, c.loop-rest.invariant, at_most_twenty c.args.number (omega arith))
