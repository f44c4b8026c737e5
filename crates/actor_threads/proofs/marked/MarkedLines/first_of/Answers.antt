use Rattle.std.proofs.Common.{◌≡◌, ◌<◌, List, length, sym, ap, ◌∙◌, arith}
use Rattle.script_data.specs.declared.line.Line.{Line}
use Rattle.actor_threads.proofs.LineLemmas.{own_first, own_skipped, none_behind}
use Rattle.actor_threads.proofs.marked.MarkedLines.first_of.Goals as goal

pub returns-then-is_of-clause-there : goal.returns-then-is_of-clause-there
returns-then-is_of-clause-there c = λ line at. own_first c.args.actor c.args.self.now c.loop-place.place line at (sym (c.is_of.ensures line at) ∙ c.if-is_of.true)

pub loop-place-preserved : goal.loop-place-preserved
loop-place-preserved c =
    let many : length c.self.inside.lines.now ≡ length c.args.self.now = ap (λ (lines : List Line). length lines) c.self.view_is in
    let within : c.loop-place.place < length c.args.self.now = omega (arith, many, c.loop-place-test.true) in
    own_skipped c.args.actor c.args.self.now c.loop-place.place within (λ line at. sym (c.is_of.ensures line at) ∙ c.if-is_of.false) ∙ c.loop-place.invariant

pub returns-clause-there : goal.returns-clause-there
returns-clause-there c = λ line at. none_behind c.args.self.now (length c.self.inside.lines.now) line (ap (λ (lines : List Line). length lines) c.self.view_is) at
