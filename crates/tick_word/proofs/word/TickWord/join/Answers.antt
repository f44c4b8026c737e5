use Rattle.std.proofs.Common.{rules}
use Rattle.tick_word.proofs.Steps.{joins}
use Rattle.tick_word.proofs.word.TickWord.join.Goals as goal

pub join_seat-requires : goal.join_seat-requires
join_seat-requires c = (search rules, search rules, search rules, search rules, joins _ _ _ _ _)
