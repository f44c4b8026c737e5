use Rattle.cause_rules.proofs.WorkedPosts.{before_the_end, lease_of_an_earlier_take, lease_of_another, over_by_the_renewal, over_by_the_take, renewal_before_the_take, renewal_of_another}
use Rattle.cause_rules.proofs.terms.ends_of_leases_are_the_nodes_own.Goals as goal

pub returns : goal.returns
returns c = record {
  by_the_take = over_by_the_take;
  by_the_renewal = over_by_the_renewal;
  before_the_end = before_the_end;
  take_of_another = lease_of_another;
  renewal_of_another = renewal_of_another;
  earlier_take = lease_of_an_earlier_take;
  renewal_before_the_take = renewal_before_the_take;
}
