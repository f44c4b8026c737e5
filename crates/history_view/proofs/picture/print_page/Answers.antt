use Rattle.std.proofs.Common.{[], append-nil, sym}
use Rattle.std.specs.Prelude.{codes}
use Rattle.history_view.proofs.TextLemmas.{then_one}
use Rattle.history_view.proofs.picture.print_page.Goals as goal

pub returns : goal.returns
returns c =
    let head = then_one c.args.text.now c.args.text.now c.print_head.new.text [] _ (sym (append-nil c.args.text.now)) c.in_ok-print_head.ensures in
    let body = then_one c.args.text.now c.print_head.new.text c.print_body.new.text _ _ head c.in_ok-print_body.ensures in
    let foot = then_one c.args.text.now c.print_body.new.text c.print_foot.new.text _ _ body c.in_ok-print_foot.ensures in
    then_one c.args.text.now c.print_foot.new.text c.push.new.self _ (codes "</svg>\n") foot c.in_ok-push.ensures
