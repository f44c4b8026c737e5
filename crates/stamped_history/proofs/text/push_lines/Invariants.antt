use Rattle.std.proofs.Common.{◌≡◌, ◌++◌, drop, flat_map}
use Rattle.history_text.specs.Text.{text_of}
use Rattle.stamped_history.proofs.text.push_lines.Given as goal

abbrev pub invariant-loop-item : goal.invariant-loop-item
invariant-loop-item l = l.text.items ++ flat_map text_of (drop l.item-index l.items) ≡ l.fn.text.items ++ flat_map text_of l.items
