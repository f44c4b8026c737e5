use Rattle.std.proofs.Common.{Some, ap, ◌∙◌, rules, arith}
use Rattle.std.proofs.lemmas.Option.{slice_get-get_or}
use Rattle.std.proofs.lemmas.Grind.{common_steps}
use Rattle.outer_reads.specs.Sources.{trace_of}
use Rattle.outer_reads.proofs.ReadLemmas.{own_looks}
use Rattle.outer_reads.proofs.readings.look_at.Goals as goal

pub returns-in-Some : goal.returns-in-Some
returns-in-Some c = own_looks (trace_of c.args.transactions.now c.args.operations.now) c.args.place c.in-Read.txn c.in-Read.key c.in-Some.own c.in-Read.answer c.own_look.result
    (record {
      done = first_of (search rules, grind (arith, common_steps));
      stands = slice_get-get_or c.args.operations.now c.args.place _ c.requires.place ∙ ap Some c.in-Read.is;
      before = first_of (search rules, grind (arith, common_steps));
    })
    c.own_look.ensures
