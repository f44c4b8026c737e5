use Rattle.si_judge.proofs.TurnLemmas.{told_apart}
use Rattle.si_judge.proofs.overlap_index.overlap_suspects.Goals as goal

pub suspects_by-requires-clause-apart : goal.suspects_by-requires-clause-apart
suspects_by-requires-clause-apart c = λ on. told_apart c.args.items.now c.in_ok-commits.commits c.in_ok-turns.turns c.in_ok-commits.ensures c.in_ok-turns.ensures on
