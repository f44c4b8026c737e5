use Rattle.std.proofs.Common.{refl}
use Rattle.history_text.proofs.printing.causes.push_cause.Goals as goal

pub returns-in-Conflict-clause-text : goal.returns-in-Conflict-clause-text
returns-in-Conflict-clause-text c = rw (c.print_two.ensures.text, c.value.ensures.value, c.value-in-Conflict.ensures.value, c.in-Conflict.is) refl

pub returns-in-Hidden-clause-text : goal.returns-in-Hidden-clause-text
returns-in-Hidden-clause-text c = rw (c.print_two-in-Hidden.ensures.text, c.value-in-Hidden.ensures.value, c.in-Hidden.is) refl

pub returns-in-OldEpoch-clause-text : goal.returns-in-OldEpoch-clause-text
returns-in-OldEpoch-clause-text c = rw (c.print_two-in-OldEpoch.ensures.text, c.value-in-OldEpoch.ensures.value, c.in-OldEpoch.is) refl

pub returns-in-Expired-clause-text : goal.returns-in-Expired-clause-text
returns-in-Expired-clause-text c = rw (c.print_two-in-Expired.ensures.text, c.in-Expired.is) refl

pub returns-in-Replaced-clause-text : goal.returns-in-Replaced-clause-text
returns-in-Replaced-clause-text c = rw (c.print_one.ensures.text, c.in-Replaced.is) refl

pub returns-in-Open-clause-text : goal.returns-in-Open-clause-text
returns-in-Open-clause-text c = rw (c.print_one-in-Open.ensures.text, c.value-in-Open.ensures.value, c.in-Open.is) refl

pub returns-in-NotYet-clause-text : goal.returns-in-NotYet-clause-text
returns-in-NotYet-clause-text c = rw (c.print_one-in-NotYet.ensures.text, c.value-in-NotYet.ensures.value, c.in-NotYet.is) refl

pub returns-in-NoRequest-clause-text : goal.returns-in-NoRequest-clause-text
returns-in-NoRequest-clause-text c = rw (c.print_one-in-NoRequest.ensures.text, c.value-in-NoRequest.ensures.value, c.in-NoRequest.is) refl

pub returns-in-Early-clause-text : goal.returns-in-Early-clause-text
returns-in-Early-clause-text c = rw (c.print_two-in-Early.ensures.text, c.in-Early.is) refl

pub returns-in-Holding-clause-text : goal.returns-in-Holding-clause-text
returns-in-Holding-clause-text c = rw (c.print_one-in-Holding.ensures.text, c.value-in-Holding.ensures.value, c.in-Holding.is) refl

pub returns-in-TooManyKeys-clause-text : goal.returns-in-TooManyKeys-clause-text
returns-in-TooManyKeys-clause-text c = rw (c.push_text-in-TooManyKeys.ensures.text, c.in-TooManyKeys.is) refl

pub returns-in-Undecided-clause-text : goal.returns-in-Undecided-clause-text
returns-in-Undecided-clause-text c = rw (c.print_two-in-Undecided.ensures.text, c.value-in-Undecided.ensures.value, c.in-Undecided.is) refl
