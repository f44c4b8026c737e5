use Rattle.version_orders.proofs.OrderLemmas.{writers_part, reader_misses, seen_first, reader_of_none_misses}
use Rattle.version_orders.proofs.laws.orders_are_forced.Goals as goal

pub returns : goal.returns
returns c = record { writers = writers_part; missed = reader_misses; seen = seen_first; none = reader_of_none_misses }
