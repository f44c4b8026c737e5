use Rattle.std.proofs.Common.{rules, sym}
use Rattle.history_text.proofs.DigitLemmas.{one_digit, two_digits, three_digits, four_digits}
use Rattle.history_text.proofs.line.last_digits.Goals as goal

pub returns-in-0-to-9 : goal.returns-in-0-to-9
returns-in-0-to-9 c = sym (one_digit c.args.number (search rules))

pub returns-in-10-to-99 : goal.returns-in-10-to-99
returns-in-10-to-99 c = sym (two_digits c.args.number (search rules) (search rules))

pub returns-in-100-to-999 : goal.returns-in-100-to-999
returns-in-100-to-999 c = sym (three_digits c.args.number (search rules) (search rules))

pub returns-in_default : goal.returns-in_default
returns-in_default c = sym (four_digits c.args.number (search rules) c.requires)
