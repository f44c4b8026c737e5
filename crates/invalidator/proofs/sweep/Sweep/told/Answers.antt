use Rattle.std.proofs.lemmas.List.{drop-drop}
use Rattle.invalidator.proofs.sweep.Sweep.told.Goals as goal

pub returns-in-Listed : goal.returns-in-Listed
returns-in-Listed c = rw (← c.self.view_is, c.in-Listed.is, ← drop-drop 1 c.in-Listed.done)
