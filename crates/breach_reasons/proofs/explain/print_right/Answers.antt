use Rattle.std.specs.Prelude.{slice_get}
use Rattle.std.proofs.Common.{ℕ, List, [], ◌++◌, append-nil, sym}
use Rattle.breach_reasons.specs.Breaches.{right_read_text, writer_text}
use Rattle.history_view.proofs.TextLemmas.{then_one}
use Rattle.breach_reasons.proofs.explain.print_right.Goals as goal

pub returns : goal.returns
returns c =
    let some1 = then_one c.args.text.now c.args.text.now c.print_answer.new.text [] (right_read_text c.args.key (slice_get c.args.items.now c.args.second)) (sym (append-nil c.args.text.now)) c.in_ok-print_answer.ensures in
    let words1 : List ℕ = (right_read_text c.args.key (slice_get c.args.items.now c.args.second)) in
    then_one c.args.text.now c.print_answer.new.text c.print_writer.new.text words1 (writer_text c.args.items.now c.args.first c.args.second) some1 c.in_ok-print_writer.ensures
