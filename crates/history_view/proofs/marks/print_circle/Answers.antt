use Rattle.std.proofs.Common.{ℕ, List, [], ◌++◌, append-nil, sym}
use Rattle.std.specs.Prelude.{codes, decimal}
use Rattle.history_view.specs.Marks.{circle_text}
use Rattle.history_view.proofs.TextLemmas.{then_field, then_one, then_two}
use Rattle.history_view.proofs.marks.print_circle.Goals as goal

pub returns : goal.returns
unfolding circle_text
returns c =
    let some1 = then_two c.args.text.now c.args.text.now c.push_two.new.self [] (codes "<circle cx='") (decimal c.args.x) (codes "' cy='") (decimal c.args.y) (sym (append-nil c.args.text.now)) c.in_ok-push_two.ensures in
    let words1 : List ℕ = ((((codes "<circle cx='") ++ (decimal c.args.x)) ++ (codes "' cy='")) ++ (decimal c.args.y)) in
    let some2 = then_field c.args.text.now c.push_two.new.self c.push_field.new.self words1 (codes "' r='") (decimal c.args.radius) some1 c.in_ok-push_field.ensures in
    let words2 : List ℕ = ((words1 ++ (codes "' r='")) ++ (decimal c.args.radius)) in
    then_one c.args.text.now c.push_field.new.self c.push.new.self words2 (codes "'/>") some2 c.in_ok-push.ensures
