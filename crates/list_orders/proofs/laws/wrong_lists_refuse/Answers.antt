use Rattle.list_orders.proofs.WrongLemmas.{not_cut, not_different, not_dirty, not_missing, not_split, not_turned}
use Rattle.list_orders.proofs.laws.wrong_lists_refuse.Goals as goal

pub returns : goal.returns
returns c = record {
  turned = λ st trace place t k i j v x q r w values sees. not_turned st trace place t k values sees i j v x q r w;
  split = λ st trace place t k i j l v x y q w r u s values sees. not_split st trace place t k values sees i j l v x y q w r u s;
  dirty = λ st trace place t k i v q w values sees. not_dirty st trace place t k values sees i v q w;
  missing = λ st trace place t k i v q r w x values sees. not_missing st trace place t k values sees i v q r w x;
  cut = λ level st trace place t k i j v y q w r u s x values sees. not_cut st trace place t k values sees level i j v y q w r u s x;
  different = λ level st trace k place t other s i x y values lacking is. not_different level st trace k is place t other s i x y values lacking;
}
