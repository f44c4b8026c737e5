use Rattle.cause_rules.proofs.WorkedTerms.{below_the_ceiling, drawn_in_another_term, ended_by_a_start, range_of_another_term, stamp_left, to_the_end}
use Rattle.cause_rules.proofs.WorkedUnasked.{no_stamp_unasked}
use Rattle.cause_rules.proofs.terms.ranges_are_drawn_to_their_end.Goals as goal

pub returns : goal.returns
returns c = record {
  to_the_end = to_the_end;
  ended_by_a_start = ended_by_a_start;
  stamp_left = stamp_left;
  below_the_ceiling = below_the_ceiling;
  range_of_another_term = range_of_another_term;
  drawn_in_another_term = drawn_in_another_term;
  not_asked = no_stamp_unasked;
}
