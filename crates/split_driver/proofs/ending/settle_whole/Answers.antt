use Rattle.session_script.specs.Script.{data_of}
use Rattle.thread_scripts.specs.Actors.{actors_of}
use Rattle.split_driver.proofs.ActorLemmas.{seats_of_word, seats_there, seats_are, seats_follow}
use Rattle.split_driver.proofs.SettleLemmas.{splits_whole}
use Rattle.split_driver.proofs.ending.settle_whole.Goals as goal

pub settle-requires-clause-word : goal.settle-requires-clause-word
settle-requires-clause-word c =
    let script = data_of c.args.script.now in
    seats_of_word c.args.split.id script.lines (actors_of script) c.args.played.items c.in_ok-seats.seats.items c.requires.played c.in_ok-seats.ensures

pub settle-requires-clause-all : goal.settle-requires-clause-all
settle-requires-clause-all c =
    let script = data_of c.args.script.now in
    seats_there c.args.split.id script.lines (actors_of script) c.args.played.items c.in_ok-seats.seats.items c.requires.played c.in_ok-seats.ensures c.args.split.seats c.requires.all

pub returns : goal.returns
returns c =
    let script = data_of c.args.script.now in
    let logs = c.in_ok-seats.seats.items in
    splits_whole script c.args.split.plan logs c.settle.result c.requires.plan
    (seats_follow c.args.split.id script.lines (actors_of script) c.args.played.items logs c.requires.played c.in_ok-seats.ensures c.requires.whole)
    (seats_are c.args.split.id script c.args.played.items logs c.requires.played c.in_ok-seats.ensures)
    c.settle.ensures
