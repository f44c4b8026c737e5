use Rattle.cause_rules.proofs.WorkedActors.{at_the_skew, before_the_skew, end_never_given, renewed_at_the_skew, renewed_before_the_skew}
use Rattle.cause_rules.proofs.nodes.early_takes_meet_a_lease.Goals as goal

pub returns : goal.returns
returns c = record {
  before_the_skew = before_the_skew;
  renewed_before_the_skew = renewed_before_the_skew;
  at_the_skew = at_the_skew;
  renewed_at_the_skew = renewed_at_the_skew;
  end_never_given = end_never_given;
}
