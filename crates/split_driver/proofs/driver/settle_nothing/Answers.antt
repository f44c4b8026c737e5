use Rattle.std.proofs.lemmas.List.{nil_from_length}
use Rattle.session_script.specs.Script.{data_of}
use Rattle.thread_scripts.specs.Actors.{actors_of}
use Rattle.split_driver.proofs.SettleLemmas.{splits_nothing}
use Rattle.split_driver.proofs.driver.settle_nothing.Goals as goal

pub settle-requires-clause-word : goal.settle-requires-clause-word
settle-requires-clause-word c = λ k d within. (c.in_ok-split.ensures.seats k d within).0

pub returns : goal.returns
returns c =
    splits_nothing (data_of c.args.script.now) c.in_ok-split.split.plan c.in_ok-split.split.id c.in_ok-split.seats.items c.settle.result c.in_ok-split.ensures.plan (nil_from_length (actors_of (data_of c.args.script.now)) c.requires.none) c.in_ok-split.ensures.seats c.settle.ensures
