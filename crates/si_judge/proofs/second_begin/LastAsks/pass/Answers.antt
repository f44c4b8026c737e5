use Rattle.std.proofs.Common.{◌<◌, length, arith}
use Rattle.si_judge.proofs.AskIndexLemmas.{other_noted}
use Rattle.si_judge.proofs.StaleLemmas.{ask_passed}
use Rattle.si_judge.proofs.second_begin.LastAsks.pass.Goals as goal

pub returns-in-AskBegin : goal.returns-in-AskBegin
returns-in-AskBegin c = λ before long asked.
    let olds = c.args.self.now.places in
    let inside : c.place_of.result < length olds = omega (arith, c.place_of.ensures.range) in
    ask_passed before olds c.in-AskBegin.session c.in-AskBegin.node c.args.place c.place_of.result c.args.item.now c.in-AskBegin.is c.place_of.ensures.place inside long asked

pub returns-in_default : goal.returns-in_default
returns-in_default c = λ before long asked. other_noted before c.args.self.now.places c.args.item.now (λ s n e. c.in_default.not-AskBegin s n e) asked
