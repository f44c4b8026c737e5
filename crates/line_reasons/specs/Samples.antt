-- For each thing that a member may want, a line that has it and is right in all else: the words before it and behind it.
use Rattle.std.specs.Prelude.{ℕ, List, [], codes}
use Rattle.line_reasons.specs.declared.wants.Wants.{Wants}
use Rattle.line_reasons.specs.declared.wants.Wants.TheVariants as wants

abbrev pub before_it : Wants → List ℕ
before_it wants.Number = codes "tick "
before_it wants.Term = codes "crash a term="
before_it wants.Stamp = codes "mark clock start="
before_it wants.Node = codes "crash "
before_it wants.Session = codes "vanish "
before_it wants.Key = codes "write s0 start=1 "
before_it wants.Value = codes "write s0 start=1 k0 "
before_it wants.Ending = codes "end s0 start=1 "
before_it wants.Actor = codes "mark "
before_it wants.Note = codes "note clock "
before_it wants.Name = codes "note clock post "
before_it wants.Stage = codes "note clock hold "
before_it wants.Step = codes "step clock "
before_it wants.Cause = codes "refused clock "
before_it wants.Store = codes "fault clock "

abbrev pub after_it : Wants → List ℕ
after_it wants.Node = codes " term=1"
after_it wants.Key = codes " v"
after_it wants.Actor = codes " start=1"
after_it wants.Note = codes " request"
after_it _ = []
