use Rattle.std.proofs.Common.{ℕ, List, [], ◌++◌, append-nil, sym}
use Rattle.std.specs.Prelude.{codes, decimal}
use Rattle.history_view.specs.Marks.{rect_text}
use Rattle.history_view.proofs.TextLemmas.{then_field, then_one, then_two}
use Rattle.history_view.proofs.marks.print_rect.Goals as goal

pub returns : goal.returns
unfolding rect_text
returns c =
    let some1 = then_two c.args.text.now c.args.text.now c.push_two.new.self [] (codes "<rect x='") (decimal c.args.x) (codes "' y='") (decimal c.args.y) (sym (append-nil c.args.text.now)) c.in_ok-push_two.ensures in
    let words1 : List ℕ = ((((codes "<rect x='") ++ (decimal c.args.x)) ++ (codes "' y='")) ++ (decimal c.args.y)) in
    let some2 = then_field c.args.text.now c.push_two.new.self c.push_field.new.self words1 (codes "' width='") (decimal c.args.width) some1 c.in_ok-push_field.ensures in
    let words2 : List ℕ = ((words1 ++ (codes "' width='")) ++ (decimal c.args.width)) in
    then_one c.args.text.now c.push_field.new.self c.push.new.self words2 (codes "' height='22' rx='7'/>") some2 c.in_ok-push.ensures
