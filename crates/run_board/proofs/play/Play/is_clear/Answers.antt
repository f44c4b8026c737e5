use Rattle.run_board.proofs.play.Play.is_clear.Goals as goal

pub returns-then-is_free : goal.returns-then-is_free
returns-then-is_free g c = (
  λ t. record { free = c.is_free.ensures.0 c.if-is_free.true; settled = c.are_settled.ensures.0 t },
  λ clear. c.are_settled.ensures.1 clear.settled,
)
