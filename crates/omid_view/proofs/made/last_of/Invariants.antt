use Rattle.std.proofs.Common.{◌≡◌, drop}
use Rattle.omid_view.specs.Views.{last_of}
use Rattle.omid_view.proofs.made.last_of.Given as goal

abbrev pub invariant-loop-one : goal.invariant-loop-one
invariant-loop-one l = last_of l.last (drop l.one-index l.chosen) ≡ last_of l.fn.before l.chosen
