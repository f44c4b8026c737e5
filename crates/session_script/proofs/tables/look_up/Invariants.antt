use Rattle.std.proofs.Common.{◌≡◌, map, drop}
use Rattle.session_script.specs.Grammar.{named}
use Rattle.session_script.proofs.tables.look_up.Given as goal

abbrev pub invariant-loop-text : goal.invariant-loop-text
invariant-loop-text g l = named (map (λ row. (row.0.now, row.1)) (drop l.text-index l.table)) l.word ≡ named (map (λ row. (row.0.now, row.1)) l.table) l.word
