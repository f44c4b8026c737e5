use Rattle.std.proofs.Common.{ℕ, List, [], ◌++◌, append-nil, sym}
use Rattle.std.specs.Prelude.{codes}
use Rattle.history_view.specs.Marks.{circle_text, ring_text}
use Rattle.history_view.proofs.TextLemmas.{then_one}
use Rattle.history_view.proofs.marks.print_ring_at.Goals as goal

pub returns : goal.returns
unfolding ring_text
returns c =
    let some1 = then_one c.args.text.now c.args.text.now c.push.new.self [] (codes "<g class='ring'>") (sym (append-nil c.args.text.now)) c.in_ok-push.ensures in
    let words1 : List ℕ = (codes "<g class='ring'>") in
    let some2 = then_one c.args.text.now c.push.new.self c.print_circle.new.text words1 (circle_text c.args.x c.args.y 13) some1 c.in_ok-print_circle.ensures in
    let words2 : List ℕ = (words1 ++ (circle_text c.args.x c.args.y 13)) in
    then_one c.args.text.now c.print_circle.new.text c.push-2.new.self words2 (codes "</g>") some2 c.in_ok-push-2.ensures
