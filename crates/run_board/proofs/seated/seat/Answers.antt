use Rattle.run_board.proofs.Sitting.{one_more_sits}
use Rattle.run_board.proofs.seated.seat.Goals as goal

pub returns : goal.returns
returns c = λ sitting sits. one_more_sits sitting c.args.all.now.items _ c.args.actor _ sits c.in_ok-push.ensures.items c.first.ensures c.new.ensures.items
