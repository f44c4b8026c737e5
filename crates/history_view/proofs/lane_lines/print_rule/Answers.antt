use Rattle.std.proofs.Common.{ℕ, List, [], ◌++◌, append-nil, sym}
use Rattle.std.specs.Prelude.{codes, decimal}
use Rattle.history_view.specs.Page.{rule_text}
use Rattle.history_view.proofs.TextLemmas.{then_field, then_one, then_two}
use Rattle.history_view.proofs.lane_lines.print_rule.Goals as goal

pub returns : goal.returns
unfolding rule_text
returns c =
    let some1 = then_field c.args.text.now c.args.text.now c.push_field.new.self [] (codes "<line x1='92' x2='") (decimal c.args.width) (sym (append-nil c.args.text.now)) c.in_ok-push_field.ensures in
    let words1 : List ℕ = ((codes "<line x1='92' x2='") ++ (decimal c.args.width)) in
    let some2 = then_two c.args.text.now c.push_field.new.self c.push_two.new.self words1 (codes "' y1='") (decimal c.args.y) (codes "' y2='") (decimal c.args.y) some1 c.in_ok-push_two.ensures in
    let words2 : List ℕ = ((((words1 ++ (codes "' y1='")) ++ (decimal c.args.y)) ++ (codes "' y2='")) ++ (decimal c.args.y)) in
    then_one c.args.text.now c.push_two.new.self c.push.new.self words2 (codes "'/>") some2 c.in_ok-push.ensures
