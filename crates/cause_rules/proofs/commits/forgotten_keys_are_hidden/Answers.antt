use Rattle.cause_rules.proofs.WorkedHidden.{at_the_start, below_the_start, forgotten, kept, kept_by_width, not_drawn, not_forgotten, not_its_own, not_read, other_bucket, other_term, read, read_before, read_kept, read_not_strictly}
use Rattle.cause_rules.proofs.WorkedUnasked.{hidden_unasked}
use Rattle.cause_rules.proofs.commits.forgotten_keys_are_hidden.Goals as goal

pub returns : goal.returns
returns c = record {
  forgotten = forgotten;
  kept_by_width = kept_by_width;
  kept = kept;
  at_the_start = at_the_start;
  below_the_start = below_the_start;
  other_term = other_term;
  other_bucket = other_bucket;
  not_drawn = not_drawn;
  not_forgotten = not_forgotten;
  not_its_own = not_its_own;
  read = read;
  read_kept = read_kept;
  read_not_strictly = read_not_strictly;
  not_read = not_read;
  read_before = read_before;
  not_asked = hidden_unasked;
}
