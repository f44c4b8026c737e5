use Rattle.session_script.specs.Script.{data_of}
use Rattle.thread_scripts.specs.Actors.{actors_of}
use Rattle.split_driver.proofs.ActorLemmas.{seats_of_word, seats_there, seats_are}
use Rattle.split_driver.proofs.ending.settle_torn.Goals as goal

pub settle-settled-requires-clause-word : goal.settle-settled-requires-clause-word
settle-settled-requires-clause-word g c =
    let script = data_of c.args.script.now in
    seats_of_word c.args.split.id script.lines (actors_of script) c.args.played.items c.in_ok-seats.seats.items c.requires.played c.in_ok-seats.ensures

pub settle-settled-requires-clause-all : goal.settle-settled-requires-clause-all
settle-settled-requires-clause-all g c =
    let script = data_of c.args.script.now in
    seats_there c.args.split.id script.lines (actors_of script) c.args.played.items c.in_ok-seats.seats.items c.requires.played c.in_ok-seats.ensures c.args.split.seats c.requires.all

pub returns : goal.returns
returns g c =
    let script = data_of c.args.script.now in
    let logs = c.in_ok-seats.seats.items in
    c.give_up.ensures script c.args.split.plan logs c.requires.plan (seats_are c.args.split.id script c.args.played.items logs c.requires.played c.in_ok-seats.ensures) c.settle-settled.ensures
