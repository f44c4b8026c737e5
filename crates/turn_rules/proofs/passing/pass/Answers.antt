use Rattle.std.proofs.Common.{refl, sym, ◌∙◌}
use Rattle.turn_rules.proofs.PassLines.{passes_on, passes_no_more, passes_all}
use Rattle.turn_rules.proofs.passing.pass.Goals as goal

pub loop-seat-init : goal.loop-seat-init
loop-seat-init c = record { inside = c.requires.place; same = refl }

pub loop-seat-preserved : goal.loop-seat-preserved
loop-seat-preserved c =
    passes_on _ _ _ _ _ _ c.index-lines-seat.result c.index-lines-seat-in-loop-seat.result c.loop-seat.invariant c.loop-seat-test.true c.index-lines-seat.is
    (sym c.is_passed.ensures ∙ c.if-is_passed.true) c.index-lines-seat-in-loop-seat.is c.with_next_line.ensures

pub returns-else-is_passed : goal.returns-else-is_passed
returns-else-is_passed c = passes_no_more _ _ _ _ _ c.index-lines-seat.result c.loop-seat.invariant c.loop-seat-test.true c.index-lines-seat.is (sym c.is_passed.ensures ∙ c.if-is_passed.false)

pub returns-after-loop-seat : goal.returns-after-loop-seat
returns-after-loop-seat c = passes_all _ _ _ _ _ c.loop-seat.invariant c.loop-seat-test.false
