use Rattle.std.proofs.Common.{ℕ, List, [], ◌++◌, append-nil, sym}
use Rattle.std.specs.Prelude.{slice_get, codes, decimal}
use Rattle.breach_reasons.specs.Breaches.{version_text}
use Rattle.history_view.proofs.TextLemmas.{then_field, then_one}
use Rattle.breach_reasons.proofs.explain.print_answer.Goals as goal

pub returns : goal.returns
returns c =
    let some1 = then_field c.args.text.now c.args.text.now c.print_key.new.text [] (codes "    right: k") (decimal c.args.key) (sym (append-nil c.args.text.now)) c.in_ok-print_key.ensures in
    let words1 : List ℕ = ((codes "    right: k") ++ (decimal c.args.key)) in
    then_one c.args.text.now c.print_key.new.text c.print_version_at.new.text words1 (version_text (slice_get c.args.items.now c.args.place)) some1 c.in_ok-print_version_at.ensures
