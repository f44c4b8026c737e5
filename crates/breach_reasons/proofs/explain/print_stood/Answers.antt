use Rattle.std.proofs.Common.{ℕ, List, [], ◌++◌, append-nil, sym}
use Rattle.std.specs.Prelude.{codes, decimal}
use Rattle.history_view.proofs.TextLemmas.{then_field, then_one}
use Rattle.breach_reasons.proofs.explain.print_stood.Goals as goal

pub returns : goal.returns
returns c =
    let some1 = then_field c.args.text.now c.args.text.now c.print_key.new.text [] (codes "    what was read of k") (decimal c.args.key) (sym (append-nil c.args.text.now)) c.in_ok-print_key.ensures in
    let words1 : List ℕ = ((codes "    what was read of k") ++ (decimal c.args.key)) in
    then_one c.args.text.now c.print_key.new.text c.push.new.self words1 (codes " no longer stood when the reader committed\n") some1 c.in_ok-push.ensures
