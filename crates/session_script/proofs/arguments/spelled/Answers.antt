use Rattle.std.proofs.Common.{arith, ◌<◌}
use Rattle.session_script.proofs.ArgumentLemmas.{at_most_18}
use Rattle.session_script.proofs.arguments.spelled.Goals as goal

pub overflow_mul-number : goal.overflow_mul-number
overflow_mul-number c =
    let small : c.loop-b.number < 1000000000000000000 = at_most_18 c.loop-b.number c.loop-b.b-index c.loop-b.invariant.small (omega arith) in
    omega arith

pub overflow_add-number : goal.overflow_add-number
overflow_add-number c =
    let small : c.loop-b.number < 1000000000000000000 = at_most_18 c.loop-b.number c.loop-b.b-index c.loop-b.invariant.small (omega arith) in
    omega (arith, c.type_inv.word c.loop-b.b-index)
