use Rattle.std.proofs.Common.{arith, rules, ap, ◌∙◌}
use Rattle.history_json.specs.Json.{json_text}
use Rattle.omid_top.proofs.PrintLemmas.{front_more, line_more, short_front}
use Rattle.omid_top.proofs.print.print_json.Goals as goal

pub returns-in_err-print_text-clause-front : goal.returns-in_err-print_text-clause-front
returns-in_err-print_text-clause-front g c =
    let item = c.item-item.result in
    let cut = short_front _ _ c.as_slice.result.now c.in_err-print_text.ensures.front in
    let front = front_more json_text _ _ _ c.args.items.now c.loop-item.item-index item c.as_slice.result.now cut.0 (omega arith) (c.as_slice.ensures.value ∙ c.print_line.ensures.text ∙ ap json_text c.item-item.is) cut.1.0 c.loop-item.invariant.gone cut.1.1 in
    search (rules, front)

pub loop-item-preserved : goal.loop-item-preserved
loop-item-preserved g c =
    let item = c.item-item.result in
    record {
      gone = line_more json_text _ _ _ c.args.items.now c.loop-item.item-index item c.as_slice.result.now (omega arith) (c.as_slice.ensures.value ∙ (c.print_line.ensures.text ∙ ap json_text c.item-item.is)) c.loop-item.invariant.gone c.in_ok-print_text.ensures.all;
      worked = c.in_ok-print_text.ensures.worked ∙ c.loop-item.invariant.worked;
    }
