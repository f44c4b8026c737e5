use Rattle.std.proofs.Common.{rules, refl}
use Rattle.split_parts.specs.Parts.{seen}
use Rattle.split_stores.proofs.MakeLemmas.{inside_of}
use Rattle.split_stores.proofs.inside.Turn.inside.Goals as goal

pub returns-in-Ok-clause-done : goal.returns-in-Ok-clause-done
returns-in-Ok-clause-done g c = inside_of _ _ _ _ _ c.in-Ok.acted _ c.in-Ok.ensures.performs c.logged.ensures.adds c.logged.ensures.answers

pub returns-in-Ok-clause-parts : goal.returns-in-Ok-clause-parts
returns-in-Ok-clause-parts g c = record {
  old = seen c.args.lent.now;
  new = seen c.perform.new.lent;
  planned = c.requires.plan;
  has = c.requires.parts;
  inside = inside_of _ _ _ _ _ c.in-Ok.acted _ c.in-Ok.ensures.performs c.logged.ensures.adds c.logged.ensures.answers;
}

pub returns-in-Err-clause-parts : goal.returns-in-Err-clause-parts
returns-in-Err-clause-parts g c = record {
  old = seen c.args.lent.now;
  new = seen c.perform.new.lent;
  planned = c.requires.plan;
  has = c.requires.parts;
  inside = (record { word = refl; entries = refl }, search rules);
}
