use Rattle.cause_rules.proofs.WorkedLosses.{marked, marked_later, other_invalid, other_marked}
use Rattle.cause_rules.proofs.WorkedUnasked.{invalid_unasked}
use Rattle.cause_rules.proofs.commits.marked_commits_are_invalid.Goals as goal

pub returns : goal.returns
returns c = record {
  marked = marked;
  other_marked = other_marked;
  other_told = other_invalid;
  marked_later = marked_later;
  not_asked = invalid_unasked;
}
