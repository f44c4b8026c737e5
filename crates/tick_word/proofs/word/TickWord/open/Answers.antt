use Rattle.tick_word.proofs.Steps.{begins}
use Rattle.tick_word.proofs.word.TickWord.open.Goals as goal

pub of_words-requires : goal.of_words-requires
of_words-requires c = begins c.args.seats c.requires
