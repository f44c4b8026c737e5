use Rattle.run_board.proofs.Names.{◌≤◌, List, All, length, subst, arith, Line, data_of, SessionIsThere}
use Rattle.run_board.proofs.PlayKept.{kept_at_first}
use Rattle.run_board.proofs.Counted.{counted_at_first}
use Rattle.run_board.proofs.play.Play.open.Goals as goal

pub invariant_of-result : goal.invariant_of-result
invariant_of-result g c =
    let there = subst (λ (lines : List Line). All (λ (line : Line). SessionIsThere line.actor) lines) c.as_slice.ensures.value c.see_sessions.ensures in
    let few : length c.args.script.lines.items ≤ 131072 = omega (arith, c.requires.few, c.args.script.lines.ok.0) in
    let kept = kept_at_first c.in_ok-run.run' (data_of c.args.script) c.args.cursors c.args.script.sound few there c.in_ok-run.ensures.script c.requires.cursors in
    record { kept = kept; counted = counted_at_first c.in_ok-run.run' c.args.cursors c.in_ok-run.ensures.turns }
