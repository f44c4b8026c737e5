use Rattle.std.proofs.Common.{ℕ, ◌-◌, List, [], ◌++◌, append-nil, sym}
use Rattle.std.specs.Prelude.{codes, decimal}
use Rattle.history_view.specs.Page.{bar_key_text}
use Rattle.history_view.proofs.TextLemmas.{then_between, then_one, then_two}
use Rattle.history_view.proofs.page.print_bar_key.Goals as goal

pub returns : goal.returns
unfolding bar_key_text
returns c =
    let some1 = then_between c.args.text.now c.args.text.now c.push_between.new.self [] (codes "<g class='") c.args.class.now (codes "'>") (sym (append-nil c.args.text.now)) c.in_ok-push_between.ensures in
    let words1 : List ℕ = (((codes "<g class='") ++ c.args.class.now) ++ (codes "'>")) in
    let some2 = then_two c.args.text.now c.push_between.new.self c.push_two.new.self words1 (codes "<rect x='") (decimal (c.args.x - 9)) (codes "' y='") (decimal (c.args.y - 7)) some1 c.in_ok-push_two.ensures in
    let words2 : List ℕ = ((((words1 ++ (codes "<rect x='")) ++ (decimal (c.args.x - 9))) ++ (codes "' y='")) ++ (decimal (c.args.y - 7))) in
    then_one c.args.text.now c.push_two.new.self c.push.new.self words2 (codes "' width='18' height='14' rx='5'/></g>") some2 c.in_ok-push.ensures
