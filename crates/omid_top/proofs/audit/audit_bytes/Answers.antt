use Rattle.omid_top.proofs.ReportLemmas.{written_is_fair}
use Rattle.omid_top.proofs.audit.audit_bytes.Goals as goal

pub returns-in-Ok-clause-fair : goal.returns-in-Ok-clause-fair
returns-in-Ok-clause-fair g c = λ items read.
    written_is_fair c.args.asked c.args.bytes.now c.in-Ok.report items _ c.in-Ok.ensures read (λ verdict. (c.reported.ensures.told verdict).0) c.reported.ensures.codes
