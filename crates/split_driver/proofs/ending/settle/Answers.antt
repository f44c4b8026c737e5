use Rattle.split_driver.proofs.ending.settle.Goals as goal

pub returns-in-Err : goal.returns-in-Err
returns-in-Err c = c.why.ensures c.args.split.plan c.args.split.seats c.args.seats.items c.in-Err.ensures.stopped
