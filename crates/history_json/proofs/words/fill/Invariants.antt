use Rattle.std.proofs.Common.{◌≡◌, [], map, length}
use Rattle.serde_json.specs.View.{view}
use Rattle.history_json.specs.Words.{filled}
use Rattle.history_json.proofs.words.fill.Given as goal

abbrev pub invariant-loop-left : goal.invariant-loop-left
invariant-loop-left l = filled l.text.items (map (λ p. p.now) l.left) (view l.object) ≡ filled [] (map (λ p. p.now) l.row) (view l.object)

abbrev pub decreases-loop-left : goal.decreases-loop-left
decreases-loop-left l = length l.left
