use Rattle.rising_numbers.specs.Rises.{AreWithin}
use Rattle.trace_edges.proofs.lay_tried.Given as goal

abbrev pub invariant-loop-next : goal.invariant-loop-next
invariant-loop-next l = AreWithin l.nodes l.initial.edges.items → AreWithin l.nodes l.edges.items

abbrev pub invariant-loop-i : goal.invariant-loop-i
invariant-loop-i l = AreWithin l.nodes l.initial.edges.items → AreWithin l.nodes l.edges.items
