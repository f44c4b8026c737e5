use Rattle.std.proofs.Common.{ℕ, List, [], ◌++◌, append-nil, sym}
use Rattle.std.specs.Prelude.{slice_get, codes, Some}
use Rattle.breach_reasons.specs.Breaches.{crossed_by, indent, item_text}
use Rattle.breach_reasons.specs.Kinds.{commit_place}
use Rattle.history_view.proofs.TextLemmas.{then_one}
use Rattle.breach_reasons.proofs.explain.print_crossing.Goals as goal

pub returns : goal.returns
returns c =
    let some1 = then_one c.args.text.now c.args.text.now c.print_crosser.new.text [] (crossed_by c.args.items.now c.args.key (slice_get c.args.items.now c.args.placed)) (sym (append-nil c.args.text.now)) c.in_ok-print_crosser.ensures in
    let words1 : List ℕ = (crossed_by c.args.items.now c.args.key (slice_get c.args.items.now c.args.placed)) in
    let some2 = then_one c.args.text.now c.print_crosser.new.text c.print_at.new.text words1 (item_text indent c.args.items.now (Some c.args.placed)) some1 c.in_ok-print_at.ensures in
    let words2 : List ℕ = (words1 ++ (item_text indent c.args.items.now (Some c.args.placed))) in
    let some3 = then_one c.args.text.now c.print_at.new.text c.print_committed.new.text words2 (item_text indent c.args.items.now (commit_place c.args.items.now c.args.start)) some2 c.in_ok-print_committed.ensures in
    let words3 : List ℕ = (words2 ++ (item_text indent c.args.items.now (commit_place c.args.items.now c.args.start))) in
    then_one c.args.text.now c.print_committed.new.text c.push.new.self words3 (codes "    right: the reader's commit refused\n") some3 c.in_ok-push.ensures
