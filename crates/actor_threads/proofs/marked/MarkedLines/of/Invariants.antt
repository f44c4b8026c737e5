use Rattle.std.specs.Prelude.{◌≡◌, map, take}
use Rattle.script_data.specs.declared.line.Line.{Line as ScriptLine}
use Rattle.actor_threads.specs.Marks.{mark_of}
use Rattle.actor_threads.proofs.marked.MarkedLines.of.Given as goal

abbrev pub invariant-loop-line : goal.invariant-loop-line
invariant-loop-line l = l.marks.items ≡ map (λ (line : ScriptLine). mark_of line.actor) (take l.line-index l.lines)
