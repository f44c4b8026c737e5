use Rattle.cause_rules.proofs.WorkedConflicts.{above, at_the_start, below_the_start, drawn_later, not_drawn, not_its_own, not_of_the_writer, not_read, other_term, read, read_before, read_by_another, read_for_another, read_later, read_not_strictly}
use Rattle.cause_rules.proofs.WorkedUnasked.{conflict_unasked}
use Rattle.cause_rules.proofs.commits.conflicts_are_above_the_start.Goals as goal

pub returns : goal.returns
returns c = record {
  above = above;
  at_the_start = at_the_start;
  below_the_start = below_the_start;
  other_term = other_term;
  not_drawn = not_drawn;
  drawn_later = drawn_later;
  not_of_the_writer = not_of_the_writer;
  not_its_own = not_its_own;
  read = read;
  read_later = read_later;
  read_not_strictly = read_not_strictly;
  not_read = not_read;
  read_before = read_before;
  read_by_another = read_by_another;
  read_for_another = read_for_another;
  not_asked = conflict_unasked;
}
