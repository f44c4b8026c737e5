use Rattle.service_rules.proofs.WorkedTold.{refused_wrong, placed_wrong, invalid_wrong, open_true, begin_true}
use Rattle.service_rules.proofs.worked.refused_commits_stay_out.Goals as goal

pub returns : goal.returns
returns c = record {
  behind = refused_wrong;
  before = placed_wrong;
  invalid = invalid_wrong;
  left_open = open_true;
  begin = begin_true;
}
