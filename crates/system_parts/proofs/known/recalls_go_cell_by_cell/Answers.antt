use Rattle.system_parts.proofs.RecalledLemmas.{recalls_go_cell_by_cell}
use Rattle.system_parts.proofs.known.recalls_go_cell_by_cell.Goals as goal

pub returns : goal.returns
returns c = recalls_go_cell_by_cell
