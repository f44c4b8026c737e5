use Rattle.si_judge.proofs.search.indexed_pair.Goals as goal

pub returns-in_ok-suspects-in-Stamped-clause-pair : goal.returns-in_ok-suspects-in-Stamped-clause-pair
returns-in_ok-suspects-in-Stamped-clause-pair c = rw c.in-Stamped.is c.first_of.ensures.pair
