use Rattle.std.proofs.Common.{arith, refl}
use Rattle.json.specs.Print.{escape_byte}
use Rattle.json.proofs.Printed.Strings.{escape_byte_plain}
use Rattle.history_json.proofs.templates.sessions.push_byte.Goals as goal

pub returns-in-34-clause-text : goal.returns-in-34-clause-text
unfolding escape_byte
returns-in-34-clause-text c = rw (c.push_text.ensures.text, c.in-34.is) refl

pub returns-in-92-clause-text : goal.returns-in-92-clause-text
unfolding escape_byte
returns-in-92-clause-text c = rw (c.push_text-in-92.ensures.text, c.in-92.is) refl

pub returns-in_default-clause-text : goal.returns-in_default-clause-text
returns-in_default-clause-text c =
    rw (c.push_text-in_default.ensures.text, escape_byte_plain c.args.byte (λ e. omega (arith, e)) (λ e. omega (arith, e)) (omega arith)) refl
