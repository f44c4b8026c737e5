use Rattle.split_driver.proofs.choosing.choose.Goals as goal

pub returns-in-None-2 : goal.returns-in-None-2
returns-in-None-2 c = c.owed_event.ensures c.args.account.now
