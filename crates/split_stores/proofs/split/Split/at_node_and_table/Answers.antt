use Rattle.std.proofs.Common.{rules}
use Rattle.split_parts.specs.Parts.{seen}
use Rattle.split_stores.proofs.split.Split.at_node_and_table.Goals as goal

pub inside-requires-clause-parts : goal.inside-requires-clause-parts
inside-requires-clause-parts g c = λ lifetimes within at. c.requires.parts (seen c.with_table-lent.result) ((search rules), (search rules)) at
