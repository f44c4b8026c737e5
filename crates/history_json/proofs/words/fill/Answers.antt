use Rattle.std.proofs.lemmas.List.{take_rest}
use Rattle.history_json.proofs.FillLemmas.{row_none, row_step}
use Rattle.history_json.proofs.words.fill.Goals as goal

pub returns-then-not-there : goal.returns-then-not-there
returns-then-not-there c =
    row_none c.loop-left.text.items c.loop-left.left.now _ _ _ c.in-len2-up.len_at_least (c.in_ok-there.ensures.missing c.if-not-there.true) c.loop-left.invariant

pub loop-left-preserved : goal.loop-left-preserved
loop-left-preserved c =
    rw (take_rest c.loop-left.left.now 2)
    (row_step c.loop-left.text.items _ c.as_bytes.result.now c.push_said.new.text.items c.loop-left.left.now _ _ _ c.in-len2-up.len_at_least c.in_ok-extend_from_slice.ensures.items c.as_bytes.ensures.value (c.in_ok-there.ensures.there c.if-not-there.false) c.loop-left.invariant)
