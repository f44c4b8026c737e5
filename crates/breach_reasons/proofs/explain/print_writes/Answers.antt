use Rattle.std.proofs.Common.{ℕ, List, [], ◌++◌, append-nil, sym}
use Rattle.std.specs.Prelude.{codes, decimal, Some}
use Rattle.breach_reasons.specs.Breaches.{indent, item_text}
use Rattle.breach_reasons.specs.Kinds.{write_place}
use Rattle.history_view.proofs.TextLemmas.{then_field, then_one}
use Rattle.breach_reasons.proofs.explain.print_writes.Goals as goal

pub returns : goal.returns
returns c =
    let some1 = then_field c.args.text.now c.args.text.now c.print_key.new.text [] (codes "    both wrote k") (decimal c.args.key) (sym (append-nil c.args.text.now)) c.in_ok-print_key.ensures in
    let words1 : List ℕ = ((codes "    both wrote k") ++ (decimal c.args.key)) in
    let some2 = then_one c.args.text.now c.print_key.new.text c.push.new.self words1 (codes ", and neither committed before the other began\n") some1 c.in_ok-push.ensures in
    let words2 : List ℕ = (words1 ++ (codes ", and neither committed before the other began\n")) in
    let some3 = then_one c.args.text.now c.push.new.self c.print_at.new.text words2 (item_text indent c.args.items.now (Some c.args.place)) some2 c.in_ok-print_at.ensures in
    let words3 : List ℕ = (words2 ++ (item_text indent c.args.items.now (Some c.args.place))) in
    then_one c.args.text.now c.print_at.new.text c.print_write.new.text words3 (item_text indent c.args.items.now (write_place c.args.items.now c.args.other c.args.key)) some3 c.in_ok-print_write.ensures
