use Rattle.service_rules.proofs.WorkedStamps.{drawn_wrong, commit_wrong, begun_wrong, drawn_fresh, asked_fresh}
use Rattle.service_rules.proofs.worked.stamps_are_above_what_was_told.Goals as goal

pub returns : goal.returns
returns c = record {
  above = drawn_fresh;
  below = drawn_wrong;
  asked_before = asked_fresh;
  begun = begun_wrong;
  commit = commit_wrong;
}
