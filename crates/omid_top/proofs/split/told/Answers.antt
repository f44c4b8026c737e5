use Rattle.port_io.specs.Ports.{Gains}
use Rattle.session_script.specs.Script.{data_of}
use Rattle.omid_top.specs.Promise.{GainsFront}
use Rattle.omid_top.proofs.PromiseLemmas.{split_kept, split_written}
use Rattle.omid_top.proofs.split.told.Goals as goal

pub returns-in-Ok-clause-ran : goal.returns-in-Ok-clause-ran
returns-in-Ok-clause-ran g c = λ _.
    let script = data_of c.args.script.now in
    let whole = c.args.cluster.now in
    split_written script whole (Gains (g.K.Sink.held c.args.sink.now) (g.K.Sink.held c.print_in.new.sink)) c.history.result.now c.requires.settles
    (split_kept script whole c.requires.setup c.history.ensures.isolated c.history.ensures.serial c.history.ensures.explained c.requires.answers c.requires.served c.requires.planned c.requires.service)
    c.history.ensures.value c.in-Ok.ensures.all

pub returns-in-Err-clause-cut : goal.returns-in-Err-clause-cut
returns-in-Err-clause-cut g c = λ _.
    let script = data_of c.args.script.now in
    let whole = c.args.cluster.now in
    split_written script whole (GainsFront (g.K.Sink.held c.args.sink.now) (g.K.Sink.held c.print_in.new.sink)) c.history.result.now c.requires.settles
    (split_kept script whole c.requires.setup c.history.ensures.isolated c.history.ensures.serial c.history.ensures.explained c.requires.answers c.requires.served c.requires.planned c.requires.service)
    c.history.ensures.value c.in-Err.ensures.front
