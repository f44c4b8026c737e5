use Rattle.std.proofs.Common.{subst}
use Rattle.outer_reads.specs.declared.readings.Look.{Look}
use Rattle.outer_reads.specs.Sources.{IsLook}
use Rattle.outer_reads.proofs.ReadLemmas.{note_right}
use Rattle.outer_reads.proofs.readings.note.Goals as goal

pub returns-in_ok-push-in-Outer-clause-right : goal.returns-in_ok-push-in-Outer-clause-right
returns-in_ok-push-in-Outer-clause-right c = λ go trace place is are.
    let look = c.in-Outer.is in
    note_right trace place c.args.readings.now.items c.args.look c.push.new.self.items is are
    (λ r e. let items = c.in_ok-push-in-Outer.ensures.items in cc) (λ e. absurd (cc)) (λ e. absurd (cc))

pub returns-in-Wrong-clause-wrong : goal.returns-in-Wrong-clause-wrong
returns-in-Wrong-clause-wrong c = λ go trace place is. subst (λ (look : Look). IsLook trace place look) c.in-Wrong.is is
