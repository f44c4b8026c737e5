use Rattle.machine.proofs.PlainReads.{decides_alone, keeps_none, refused_alone}
use Rattle.machine.proofs.laws.reads_count_if_strict.Goals as goal

pub returns-clause-empty : goal.returns-clause-empty
returns-clause-empty c = decides_alone

pub returns-clause-kept : goal.returns-clause-kept
returns-clause-kept c = keeps_none

pub returns-clause-refused : goal.returns-clause-refused
returns-clause-refused c = refused_alone
