use Rattle.std.specs.Prelude.{◌≡◌, ℕ, ◌<◌, false}
use Rattle.run_board.proofs.Names.{Persist, state_of, has_turn}
use Rattle.run_board.proofs.play.Play.are_settled.Given as goal

-- none so far
abbrev pub invariant-loop-number : goal.invariant-loop-number
invariant-loop-number g l = (session : ℕ) → session < l.number → has_turn (state_of l.self.ran) l.node Persist session ≡ false
