use Rattle.std.proofs.Common.{ℕ, List, [], ◌++◌, append-nil, sym}
use Rattle.std.specs.Prelude.{codes}
use Rattle.breach_reasons.specs.Findings.{numbers_text}
use Rattle.history_view.proofs.TextLemmas.{then_one}
use Rattle.breach_reasons.proofs.finding.print_broken.Goals as goal

pub returns : goal.returns
returns c =
    let some1 = then_one c.args.text.now c.args.text.now c.push.new.self [] (codes "not isolated: ") (sym (append-nil c.args.text.now)) c.in_ok-push.ensures in
    let words1 : List ℕ = (codes "not isolated: ") in
    let some2 = then_one c.args.text.now c.push.new.self c.push-2.new.self words1 c.args.name.now some1 c.in_ok-push-2.ensures in
    let words2 : List ℕ = (words1 ++ c.args.name.now) in
    then_one c.args.text.now c.push-2.new.self c.print_numbers.new.text words2 (numbers_text c.args.first c.args.second) some2 c.in_ok-print_numbers.ensures
