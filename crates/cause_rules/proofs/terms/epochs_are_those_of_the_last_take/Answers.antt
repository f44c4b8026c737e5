use Rattle.cause_rules.proofs.WorkedPosts.{above_the_epoch, at_the_epoch, below_the_epoch, epoch_of_an_earlier_take, epoch_of_another, start_of_another}
use Rattle.cause_rules.proofs.terms.epochs_are_those_of_the_last_take.Goals as goal

pub returns : goal.returns
returns c = record {
  below = below_the_epoch;
  at = at_the_epoch;
  above = above_the_epoch;
  of_an_earlier_take = epoch_of_an_earlier_take;
  of_another_node = epoch_of_another;
  of_another_start = start_of_another;
}
