use Rattle.run_board.proofs.Names.{List, Result, length, drop, ◌∙◌, ap, subst, arith, Stopped, Item, Makes, done_by}
use Rattle.run_board.proofs.Since.{grown_least}
use Rattle.run_board.proofs.Telling.{done_serves, done_lacks_none}
use Rattle.run_board.proofs.run.ScriptRun.serve.Goals as goal

pub since-requires : goal.since-requires
since-requires c =
    let before = ap (λ (items : List Item). length items) c.history-before.ensures.value in
    let least = grown_least c.args.self.now c.make.new.self c.args.turn c.args.event.now c.make.result (length c.history-before.result.now) c.requires.event before c.make.ensures.made in
    let same = ap (λ (items : List Item). length items) c.history.ensures.value in
    omega (arith, least, same)

pub returns-in-Ok-clause-made : goal.returns-in-Ok-clause-made
returns-in-Ok-clause-made c =
    let before = ap (λ (items : List Item). length items) c.history-before.ensures.value in
    let made = subst (λ (a : Result Unit Stopped). Makes c.args.self.now c.args.turn c.args.event.now a c.make.new.self) c.in-Ok.is c.make.ensures.made in
    let items = c.since.ensures ∙ ap (λ (h : List Item). drop (length c.history-before.result.now) h) c.history.ensures.value in
    done_serves c.args.self.now c.make.new.self c.args.turn c.args.event.now (length c.history-before.result.now) c.done.result c.requires.event before (c.done.ensures ∙ ap (λ (xs : List Item). done_by c.args.turn xs) items) made

pub returns-in-Ok-clause-memory : goal.returns-in-Ok-clause-memory
returns-in-Ok-clause-memory c = done_lacks_none c.args.turn c.since.result.now c.done.result c.done.ensures
