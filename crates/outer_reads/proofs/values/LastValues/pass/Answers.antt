use Rattle.std.proofs.Common.{◌∷◌, ◌++◌, [], refl, sym, subst}
use Rattle.trace_rules.specs.declared.trace.Operation.{Operation}
use Rattle.trace_rules.specs.declared.trace.Operation.TheVariants.{Read}
use Rattle.outer_reads.specs.Sources.{HasLast}
use Rattle.outer_reads.proofs.LastLemmas.{read_passes, write_passes}
use Rattle.outer_reads.proofs.values.LastValues.pass.Goals as goal

pub returns-in-Read : goal.returns-in-Read
returns-in-Read c = λ part has. subst (λ (x : Operation). HasLast (part ++ x ∷ []) c.args.self.now.values) (sym c.in-Read.is) (read_passes part c.args.self.now.values (Read c.in-Read.txn c.in-Read.key c.in-Read.answer) (λ t k. refl) has)

pub returns-in_ok-insert-in-Write : goal.returns-in_ok-insert-in-Write
returns-in_ok-insert-in-Write c = λ part has. subst (λ (x : Operation). HasLast (part ++ x ∷ []) c.insert.new.self) (sym c.in-Write.is) (write_passes part c.in-Write.txn c.in-Write.key c.in-Write.value c.args.self.now.values c.insert.new.self c.in_ok-insert-in-Write.ensures.updates has)
