use Rattle.grant_laws.proofs.StageTurns.{served_turns_are_granted}
use Rattle.grant_laws.proofs.carried.served_turns_are_granted.Goals as goal

pub returns : goal.returns
returns c = served_turns_are_granted c.turns_keep_facts.ensures
