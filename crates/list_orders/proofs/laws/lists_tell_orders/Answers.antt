use Rattle.list_orders.proofs.ListLemmas.{told_first}
use Rattle.list_orders.proofs.SeesLemmas.{sees_nothing, sees_others, sees_own}
use Rattle.list_orders.proofs.laws.lists_tell_orders.Goals as goal

pub returns : goal.returns
returns c = record {
  first = λ level trace st ranks name k place t n m a b values is tells done sees one two less. told_first level trace st is ranks name k values tells place t done sees n m a b one two less;
  others = λ level trace st ranks name k place t l vl all values is tells keeps begun done end at. sees_others level trace st is ranks name k all tells keeps values begun place t done l vl end at;
  own = λ level trace st ranks name k place t l vl all values is tells keeps begun done end at. sees_own level trace st is ranks name k all tells keeps values begun place t done l vl end at;
  nothing = λ level trace st k place t values is. sees_nothing level trace st is k values place t;
}
