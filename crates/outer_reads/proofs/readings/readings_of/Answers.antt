use Rattle.std.proofs.Common.{◌≡◌, ◌<◌, ℕ, List, length, take, sym, subst, rules, arith}
use Rattle.std.proofs.lemmas.List.{take_more}
use Rattle.trace_rules.specs.declared.trace.Operation.{Operation}
use Rattle.outer_reads.specs.Sources.{AreRight, HasLast, trace_of}
use Rattle.outer_reads.proofs.readings.readings_of.Goals as goal

pub returns-then-not-branch : goal.returns-then-not-branch
returns-then-not-branch c = c.in_ok-note.ensures.wrong (search rules) (trace_of c.args.transactions.now c.args.operations.now) c.loop-place.place c.look_at-look.ensures

pub loop-place-preserved : goal.loop-place-preserved
loop-place-preserved c =
    let less : c.loop-place.place < length c.args.operations.now = omega (arith, c.loop-place-test.true) in
    record {
      last = subst (λ (part : List Operation). HasLast part c.pass.new.self.values) (sym (take_more c.args.operations.now c.loop-place.place _ less)) (c.in_ok-pass.ensures (take c.loop-place.place c.args.operations.now) c.loop-place.invariant.last);
      right = c.in_ok-note.ensures.right (search rules) (trace_of c.args.transactions.now c.args.operations.now) c.loop-place.place c.look_at-look.ensures c.loop-place.invariant.right;
    }

pub returns : goal.returns
returns c =
    let all : c.loop-place.place ≡ length c.args.operations.now = omega (arith, c.loop-place-test.false, c.loop-place.auto.place-end) in
    subst (λ (n : ℕ). AreRight (trace_of c.args.transactions.now c.args.operations.now) n c.loop-place.readings.items) all c.loop-place.invariant.right
