use Rattle.std.proofs.Common.{ℕ, List, [], ◌++◌, append-nil, sym}
use Rattle.std.specs.Prelude.{codes, decimal}
use Rattle.history_view.specs.Page.{frame_text, left_text}
use Rattle.history_view.proofs.TextLemmas.{then_field, then_one, then_two}
use Rattle.history_view.proofs.page.print_frame.Goals as goal

pub returns : goal.returns
unfolding frame_text
returns c =
    let some1 = then_field c.args.text.now c.args.text.now c.push_field.new.self [] (codes "<text class='lane n' x='12' y='36'>items ") (decimal c.args.frame.now.first) (sym (append-nil c.args.text.now)) c.in_ok-push_field.ensures in
    let words1 : List ℕ = ((codes "<text class='lane n' x='12' y='36'>items ") ++ (decimal c.args.frame.now.first)) in
    let some2 = then_two c.args.text.now c.push_field.new.self c.push_two.new.self words1 (codes " to ") (decimal c.args.frame.now.last) (codes " of ") (decimal c.args.frame.now.total) some1 c.in_ok-push_two.ensures in
    let words2 : List ℕ = ((((words1 ++ (codes " to ")) ++ (decimal c.args.frame.now.last)) ++ (codes " of ")) ++ (decimal c.args.frame.now.total)) in
    let some3 = then_one c.args.text.now c.push_two.new.self c.print_left.new.text words2 (left_text c.args.left) some2 c.in_ok-print_left.ensures in
    let words3 : List ℕ = (words2 ++ (left_text c.args.left)) in
    then_one c.args.text.now c.print_left.new.text c.push.new.self words3 (codes "</text>\n") some3 c.in_ok-push.ensures
