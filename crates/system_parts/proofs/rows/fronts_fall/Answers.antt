use Rattle.std.proofs.Common.{◌≤◌}
use Rattle.system_parts.specs.declared.rows.Cell.{Cell}
use Rattle.system_parts.proofs.RowFetches.{front-falls, front-all}
use Rattle.system_parts.proofs.rows.fronts_fall.Goals as goal

pub returns : goal.returns
returns c = record { falling = front-falls; upto = λ start upto cells all. front-all (λ (cell : Cell). cell.version ≤ upto) start cells all }
