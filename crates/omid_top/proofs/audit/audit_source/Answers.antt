use Rattle.std.proofs.Common.{List, Err, ap, sym, arith}
use Rattle.history_book.specs.declared.item.Item.{Item}
use Rattle.omid_top.specs.declared.report.Report.TheVariants.{NotAnItem}
use Rattle.history_json.specs.History.{AreItems}
use Rattle.omid_top.specs.Audit.{Reported, ReportedFront, IsFairTo}
use Rattle.omid_top.proofs.CommandLemmas.{audit_codes, audits_silently, too_many_is_no_end, reported_codes}
use Rattle.omid_top.proofs.ReportLemmas.{of_all_left, of_too_many, written_is_fair}
use Rattle.omid_top.proofs.audit.audit_source.Goals as goal

pub returns-in-Ok-clause-audit : goal.returns-in-Ok-clause-audit
returns-in-Ok-clause-audit g c = record {
  read = λ _. c.in-Ok.ensures.end;
  audited = λ verdict.
      of_all_left _ _ c.in-Ok.bytes.items (λ bytes. Reported c.args.asked bytes c.audit_bytes.result.code (g.K.Sink.held c.args.sink.now) (g.K.Sink.held c.audit_bytes.new.sink)) c.in-Ok.ensures.all c.in-Ok.ensures.end
      (rw (sym c.deref.ensures.value) (c.audit_bytes.ensures.audited verdict));
  fair =
      of_all_left _ _ c.in-Ok.bytes.items (λ bytes. (items : List Item) → AreItems bytes items → IsFairTo c.args.asked items c.audit_bytes.result.code) c.in-Ok.ensures.all c.in-Ok.ensures.end
      (rw (sym c.deref.ensures.value) c.audit_bytes.ensures.fair);
  cut = λ five.
      of_all_left _ _ c.in-Ok.bytes.items (λ bytes. ReportedFront c.args.asked bytes (g.K.Sink.held c.args.sink.now) (g.K.Sink.held c.audit_bytes.new.sink)) c.in-Ok.ensures.all c.in-Ok.ensures.end
      (rw (sym c.deref.ensures.value) (c.audit_bytes.ensures.cut five));
  codes = audit_codes _ c.audit_bytes.ensures.codes;
}

pub returns-in-Err-TooLong-clause-audit : goal.returns-in-Err-TooLong-clause-audit
returns-in-Err-TooLong-clause-audit g c = record {
  read = too_many_is_no_end _ (λ verdict. (c.reported.ensures.told verdict).0);
  audited = λ verdict.
      of_too_many c.args.asked _ (λ bytes. Reported c.args.asked bytes c.reported.result.code (g.K.Sink.held c.args.sink.now) (g.K.Sink.held c.reported.new.sink))
      (λ bytes right. record { report = NotAnItem 0; right = right; status = (c.reported.ensures.told verdict).0; told = (c.reported.ensures.told verdict).1 })
      (c.in-Err-TooLong.ensures.too_long (ap Err c.in-Err-TooLong.field-0-is));
  fair =
      of_too_many c.args.asked _ (λ bytes. (items : List Item) → AreItems bytes items → IsFairTo c.args.asked items c.reported.result.code)
      (λ bytes right items read. written_is_fair c.args.asked bytes (NotAnItem 0) items _ right read (λ verdict. (c.reported.ensures.told verdict).0) c.reported.ensures.codes)
      (c.in-Err-TooLong.ensures.too_long (ap Err c.in-Err-TooLong.field-0-is));
  cut = λ five.
      of_too_many c.args.asked _ (λ bytes. ReportedFront c.args.asked bytes (g.K.Sink.held c.args.sink.now) (g.K.Sink.held c.reported.new.sink))
      (λ bytes right. record { report = NotAnItem 0; right = right; told = c.reported.ensures.cut five })
      (c.in-Err-TooLong.ensures.too_long (ap Err c.in-Err-TooLong.field-0-is));
  codes = audit_codes _ (reported_codes _ c.reported.ensures.codes);
}

pub returns-in-Err-Failed-clause-audit : goal.returns-in-Err-Failed-clause-audit
returns-in-Err-Failed-clause-audit g c = audits_silently c.args.asked 4 _ _ _ _ (omega arith) (omega arith) (λ five. omega (arith, five))

pub returns-in-Err-NoMemory-clause-audit : goal.returns-in-Err-NoMemory-clause-audit
returns-in-Err-NoMemory-clause-audit g c = audits_silently c.args.asked 6 _ _ _ _ (omega arith) (omega arith) (λ five. omega (arith, five))
