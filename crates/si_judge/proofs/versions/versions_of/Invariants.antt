use Rattle.si_judge.proofs.Names.{take, HasVersions}
use Rattle.si_judge.proofs.versions.versions_of.Given as goal

abbrev pub invariant-loop-place : goal.invariant-loop-place
invariant-loop-place l = HasVersions l.items (take l.place l.items) l.versions
