use Rattle.std.proofs.Common.{refl}
use Rattle.history_text.proofs.printing.kinds.print_committed.Goals as goal

pub returns-clause-text : goal.returns-clause-text
returns-clause-text c = rw (c.push_field-2.ensures.text, c.push_field.ensures.text, c.push_session.ensures.text, c.set_text.ensures, c.value.ensures.value, c.value-2.ensures.value) refl
