use Rattle.std.proofs.Common.{◌∙◌, [], arith}
use Rattle.history_reading.specs.History.{lines_of}
use Rattle.history_reading.proofs.LineLemmas.{next_line, passed_on}
use Rattle.history_json.specs.History.{IsFaultOf}
use Rattle.history_json.proofs.LineLemmas.{bad_line, fit_more, none_bad_more, told_all, told_more}
use Rattle.history_json.proofs.history.read_lines.Goals as goal

pub returns-in_err-add_line-clause-bad : goal.returns-in_err-add_line-clause-bad
returns-in_err-add_line-clause-bad c =
    let line = c.in-Some.line.now in
    let bytes = c.args.bytes.now in
    let next = next_line c.loop-line.done (lines_of bytes) line (lines_of c.in-Some.more.now) (c.loop-line.invariant.placed ∙ c.in-Some.ensures.lines) in
    passed_on _ _ (λ fault. IsFaultOf bytes fault) c.from_residual.ensures.1 (bad_line bytes c.format_of-format.result c.loop-line.done line _ c.format_of-format.ensures c.requires next.1 c.loop-line.invariant.before c.in_err-add_line.ensures.bad)

pub loop-line-preserved : goal.loop-line-preserved
loop-line-preserved c =
    let line = c.in-Some.line.now in
    let bytes = c.args.bytes.now in
    let next = next_line c.loop-line.done (lines_of bytes) line (lines_of c.in-Some.more.now) (c.loop-line.invariant.placed ∙ c.in-Some.ensures.lines) in
    record {
      told = told_more _ line (lines_of c.in-Some.more.now) (lines_of bytes) c.loop-line.items.items _ c.in_ok-add_line.ensures.read (rw c.in-Some.ensures.lines at c.loop-line.invariant.told);
      fit = fit_more _ line c.loop-line.items.items _ c.in_ok-add_line.ensures.read c.loop-line.invariant.fit;
      placed = next.0;
      before = none_bad_more _ (lines_of bytes) c.loop-line.done line next.1 c.in_ok-add_line.ensures.right c.loop-line.invariant.before;
      counted = omega (arith, c.loop-line.invariant.counted, c.in-Some.ensures.shorter);
    }

pub returns-in_err-add_line-2-clause-bad : goal.returns-in_err-add_line-2-clause-bad
returns-in_err-add_line-2-clause-bad c =
    let rest = c.loop-line.rest.now in
    let bytes = c.args.bytes.now in
    let next = next_line c.loop-line.done (lines_of bytes) rest [] (c.loop-line.invariant.placed ∙ c.in_default.ensures.lines) in
    passed_on _ _ (λ fault. IsFaultOf bytes fault) c.from_residual-in_err-add_line-2.ensures.1 (bad_line bytes c.format_of-format.result c.loop-line.done rest _ c.format_of-format.ensures c.requires next.1 c.loop-line.invariant.before c.in_err-add_line-2.ensures.bad)

pub returns-clause-read : goal.returns-clause-read
returns-clause-read c =
    let bytes = c.args.bytes.now in
    let adds = c.in_ok-add_line-2.ensures.read in
    let told = told_more _ c.loop-line.rest.now [] (lines_of bytes) c.loop-line.items.items _ adds (rw c.in_default.ensures.lines at c.loop-line.invariant.told) in
    record {
      short = c.requires;
      fit = fit_more _ c.loop-line.rest.now c.loop-line.items.items _ adds c.loop-line.invariant.fit;
      lines = rw c.format_of-format.ensures at (told_all _ (lines_of bytes) _ told);
    }
