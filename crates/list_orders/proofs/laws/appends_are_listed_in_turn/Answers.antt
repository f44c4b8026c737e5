use Rattle.list_orders.proofs.WorkedLists.{not_short, not_turned_round, sees_two}
use Rattle.list_orders.proofs.laws.appends_are_listed_in_turn.Goals as goal

pub returns : goal.returns
returns c = record { both = sees_two; turned = not_turned_round; short = not_short }
