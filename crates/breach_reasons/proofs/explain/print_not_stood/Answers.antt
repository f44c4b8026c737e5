use Rattle.std.proofs.Common.{ℕ, List, [], ◌++◌, append-nil, sym}
use Rattle.std.specs.Prelude.{Some}
use Rattle.breach_reasons.specs.Breaches.{crossing_text, indent, item_text, stood_text}
use Rattle.history_view.proofs.TextLemmas.{then_one}
use Rattle.breach_reasons.proofs.explain.print_not_stood.Goals as goal

pub returns : goal.returns
returns c =
    let some1 = then_one c.args.text.now c.args.text.now c.print_stood.new.text [] (stood_text c.args.key) (sym (append-nil c.args.text.now)) c.in_ok-print_stood.ensures in
    let words1 : List ℕ = (stood_text c.args.key) in
    let some2 = then_one c.args.text.now c.print_stood.new.text c.print_at.new.text words1 (item_text indent c.args.items.now (Some c.args.read)) some1 c.in_ok-print_at.ensures in
    let words2 : List ℕ = (words1 ++ (item_text indent c.args.items.now (Some c.args.read))) in
    then_one c.args.text.now c.print_at.new.text c.print_crossing.new.text words2 (crossing_text c.args.items.now c.args.placed c.args.start c.args.key) some2 c.in_ok-print_crossing.ensures
