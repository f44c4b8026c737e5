use Rattle.std.proofs.Common.{ℕ, rules, arith}
use Rattle.std.proofs.lemmas.Option.{slice_get_within}
use Rattle.trace_rules.specs.Trace.{Done}
use Rattle.list_orders.specs.Lists.{WriteAt}
use Rattle.list_ranks.proofs.CheckLemmas.{below_next}
use Rattle.list_ranks.proofs.dirty.has_done.Goals as goal

pub loop-place-preserved : goal.loop-place-preserved
loop-place-preserved c = below_next (λ (q : ℕ). (w : ℕ) → WriteAt c.args.trace.now q w c.args.key c.args.value → Done c.args.trace.now w → ⊥) c.loop-place.place c.loop-place.invariant (c.is_done_write.ensures.no (search rules))

pub returns-clause-no : goal.returns-clause-no
returns-clause-no c = λ go has. let within = slice_get_within c.args.trace.now.operations has.place _ has.wrote in let count = c.operations_in-place-end.ensures in c.loop-place.invariant has.place (omega (arith, within, count, c.loop-place-test.false)) has.txn has.wrote has.done
