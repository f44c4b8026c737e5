use Rattle.turn_rules.proofs.Facts.{turns_keep_facts}
use Rattle.turn_rules.proofs.laws.turns_keep_facts.Goals as goal

pub returns : goal.returns
returns c = turns_keep_facts
