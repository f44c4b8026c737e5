use Rattle.std.proofs.Common.{rules}
use Rattle.split_parts.specs.Parts.{seen}
use Rattle.split_stores.proofs.split.Split.at_clock_and_record.Goals as goal

pub inside-requires-clause-parts : goal.inside-requires-clause-parts
inside-requires-clause-parts g c = λ lifetimes within at. c.requires.parts (seen c.with_master-lent.result) ((search rules), (search rules), (search rules)) at
