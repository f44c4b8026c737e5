use Rattle.run_board.proofs.Names.{length, refl, slice_get_read}
use Rattle.run_board.proofs.ByIndex.{found_at}
use Rattle.run_board.proofs.seated.seated_of.Goals as goal

pub returns-in-Some : goal.returns-in-Some
returns-in-Some c =
    let one = c.index-seated-index.result in
    let is = slice_get_read c.args.seated.now (length c.args.seated.now) c.in-Some.index one refl c.in-Some.ensures.inside c.index-seated-index.is in
    found_at c.args.seated.now c.in-Some.index c.args.actor.now one c.requires c.in-Some.ensures.sits is
