use Rattle.std.proofs.Common.{◌≡◌, ◌∙◌, refl, rules, codes}
use Rattle.omid_top.specs.Promise.{GainsFront}
use Rattle.omid_top.specs.Texts.{tick_line, told_line}
use Rattle.omid_top.proofs.PrintLemmas.{front_of_first, front_of_second, front_of_third, on_err_more}
use Rattle.omid_top.proofs.print.print_torn.Goals as goal

pub returns-in_err-print_text-clause-front : goal.returns-in_err-print_text-clause-front
returns-in_err-print_text-clause-front g c =
    let xs = tick_line c.args.tick in
    let ys = told_line (codes "kept ") c.args.kept.now in
    let zs = told_line (codes "replayed ") c.args.replayed.now in
    let one_is : c.as_slice.result.now ≡ xs = c.as_slice.ensures.value ∙ c.set_tick.ensures in
    let now = g.K.Sink.held c.print_text.new.sink in
    let front = front_of_first (g.K.Sink.held c.args.sink.now) now now now xs ys zs _ ys zs one_is refl refl c.in_err-print_text.ensures.front in
    search (rules, front)

pub returns-in_err-print_text-2-clause-front : goal.returns-in_err-print_text-2-clause-front
returns-in_err-print_text-2-clause-front g c =
    let xs = tick_line c.args.tick in
    let ys = told_line (codes "kept ") c.args.kept.now in
    let zs = told_line (codes "replayed ") c.args.replayed.now in
    let one_is : c.as_slice.result.now ≡ xs = c.as_slice.ensures.value ∙ c.set_tick.ensures in
    let two_is : c.as_slice-2.result.now ≡ ys = c.as_slice-2.ensures.value ∙ c.set_told.ensures in
    let now = g.K.Sink.held c.print_text-2.new.sink in
    let front = front_of_second (g.K.Sink.held c.args.sink.now) (g.K.Sink.held c.print_text.new.sink) now now xs ys zs _ _ zs one_is two_is refl c.in_ok-print_text.ensures.all c.in_err-print_text-2.ensures.front in
    search (rules, front)

pub returns-clause-front : goal.returns-clause-front
returns-clause-front g c =
    let xs = tick_line c.args.tick in
    let ys = told_line (codes "kept ") c.args.kept.now in
    let zs = told_line (codes "replayed ") c.args.replayed.now in
    let one_is : c.as_slice.result.now ≡ xs = c.as_slice.ensures.value ∙ c.set_tick.ensures in
    let two_is : c.as_slice-2.result.now ≡ ys = c.as_slice-2.ensures.value ∙ c.set_told.ensures in
    let three_is : c.as_slice-3.result.now ≡ zs = c.as_slice-3.ensures.value ∙ c.set_told-2.ensures in
    let second = g.K.Sink.held c.print_text-2.new.sink in
    let now = g.K.Sink.held c.print_text-3.new.sink in
    on_err_more c.print_text-3.result (GainsFront second now c.as_slice-3.result.now) _
    (λ front. front_of_third (g.K.Sink.held c.args.sink.now) (g.K.Sink.held c.print_text.new.sink) second now xs ys zs _ _ _ one_is two_is three_is c.in_ok-print_text.ensures.all c.in_ok-print_text-2.ensures.all front)
    c.print_text-3.ensures.front
