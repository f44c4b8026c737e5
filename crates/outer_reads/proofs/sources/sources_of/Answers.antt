use Rattle.std.proofs.Common.{◌≡◌, List, length, slice_get, subst, ap, ◌∙◌}
use Rattle.outer_reads.specs.declared.readings.Found.{Found}
use Rattle.outer_reads.specs.declared.readings.Reading.{Reading}
use Rattle.outer_reads.specs.Sources.{AreFound, trace_of}
use Rattle.outer_reads.proofs.ReadLemmas.{all_known}
use Rattle.outer_reads.proofs.sources.sources_of.Goals as goal

pub returns-in-WrongAt : goal.returns-in-WrongAt
returns-in-WrongAt c = subst (λ (found : Found). AreFound (trace_of c.args.transactions.now c.args.operations.now) (length c.args.operations.now) found) c.in-WrongAt.is c.in_ok-place.ensures

pub returns-in_ok-writings-in-None : goal.returns-in_ok-writings-in-None
returns-in_ok-writings-in-None c =
    let value = c.deref.ensures.value in
    let same : c.deref.result.now ≡ c.in-AllRight.readings.items = cc in
    all_known (trace_of c.args.transactions.now c.args.operations.now) c.in-AllRight.readings.items c.in_ok-writings-in-None.writings.items
    (subst (λ (found : Found). AreFound (trace_of c.args.transactions.now c.args.operations.now) (length c.args.operations.now) found) c.in-AllRight.is c.in_ok-place.ensures)
    (λ i r at. c.in-None.ensures i r (ap (λ (xs : List Reading). slice_get xs i) same ∙ at)) c.in_ok-writings-in-None.ensures
