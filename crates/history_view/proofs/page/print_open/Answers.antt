use Rattle.std.proofs.Common.{ℕ, List, [], ◌++◌, append-nil, sym}
use Rattle.std.specs.Prelude.{codes, decimal}
use Rattle.history_view.specs.Page.{open_text}
use Rattle.history_view.proofs.TextLemmas.{then_one, then_two}
use Rattle.history_view.proofs.page.print_open.Goals as goal

pub returns : goal.returns
unfolding open_text
returns c =
    let some1 = then_two c.args.text.now c.args.text.now c.push_two.new.self [] (codes "<svg xmlns='http://www.w3.org/2000/svg' width='") (decimal c.args.width) (codes "' height='") (decimal c.args.height) (sym (append-nil c.args.text.now)) c.in_ok-push_two.ensures in
    let words1 : List ℕ = ((((codes "<svg xmlns='http://www.w3.org/2000/svg' width='") ++ (decimal c.args.width)) ++ (codes "' height='")) ++ (decimal c.args.height)) in
    let some2 = then_two c.args.text.now c.push_two.new.self c.push_two-2.new.self words1 (codes "' viewBox='0 0 ") (decimal c.args.width) (codes " ") (decimal c.args.height) some1 c.in_ok-push_two-2.ensures in
    let words2 : List ℕ = ((((words1 ++ (codes "' viewBox='0 0 ")) ++ (decimal c.args.width)) ++ (codes " ")) ++ (decimal c.args.height)) in
    then_one c.args.text.now c.push_two-2.new.self c.push.new.self words2 (codes "' font-family='sans-serif' font-size='11' text-anchor='middle'>\n") some2 c.in_ok-push.ensures
