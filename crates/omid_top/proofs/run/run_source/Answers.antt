use Rattle.std.proofs.Common.{Err, ap, sym, arith}
use Rattle.std.specs.Prelude.{IsOkAnd, IsErrAnd}
use Rattle.port_io.specs.Ports.{Gains}
use Rattle.session_script.specs.Script.{script_of}
use Rattle.session_script.specs.declared.mode.Mode.TheVariants.{Run}
use Rattle.omid_top.specs.Promise.{WritesRun, IsCutRun}
use Rattle.omid_top.specs.Texts.{bad_line_text}
use Rattle.omid_top.proofs.CommandLemmas.{replay_codes, named_codes, named_is_not_done, runs_silently, of_too_long}
use Rattle.omid_top.proofs.ReportLemmas.{of_all_left}
use Rattle.omid_top.proofs.run.run_source.Goals as goal

pub returns-in-Ok-clause-run : goal.returns-in-Ok-clause-run
returns-in-Ok-clause-run g c = record {
  read = λ _. c.in-Ok.ensures.end;
  ran = λ done.
      of_all_left _ _ c.in-Ok.bytes.items (λ bytes. IsOkAnd (script_of bytes Run) (λ script. WritesRun script (Gains (g.K.Sink.held c.args.sink.now) (g.K.Sink.held c.run_bytes.new.sink)))) c.in-Ok.ensures.all c.in-Ok.ensures.end
      (rw (sym c.deref.ensures.value) (c.run_bytes.ensures.ran done));
  bad_line = λ three.
      of_all_left _ _ c.in-Ok.bytes.items (λ bytes. IsErrAnd (script_of bytes Run) (λ bad. Gains (g.K.Sink.held c.args.sink.now) (g.K.Sink.held c.run_bytes.new.sink) (bad_line_text bad))) c.in-Ok.ensures.all c.in-Ok.ensures.end
      (rw (sym c.deref.ensures.value) (c.run_bytes.ensures.bad_line three));
  cut = λ five.
      of_all_left _ _ c.in-Ok.bytes.items (λ bytes. IsCutRun (script_of bytes Run) (g.K.Sink.held c.args.sink.now) (g.K.Sink.held c.run_bytes.new.sink)) c.in-Ok.ensures.all c.in-Ok.ensures.end
      (rw (sym c.deref.ensures.value) (c.run_bytes.ensures.cut five));
  codes = replay_codes _ c.run_bytes.ensures.codes;
}

pub returns-in-Err-TooLong-clause-run : goal.returns-in-Err-TooLong-clause-run
returns-in-Err-TooLong-clause-run g c = record {
  read = named_is_not_done _ c.named.ensures.codes;
  ran = named_is_not_done _ c.named.ensures.codes;
  bad_line = λ three.
      of_too_long Run _ (λ bytes. IsErrAnd (script_of bytes Run) (λ bad. Gains (g.K.Sink.held c.args.sink.now) (g.K.Sink.held c.named.new.sink) (bad_line_text bad)))
      (λ bytes is. rw is (c.named.ensures.told three))
      (c.in-Err-TooLong.ensures.too_long (ap Err c.in-Err-TooLong.field-0-is));
  cut = λ five.
      of_too_long Run _ (λ bytes. IsCutRun (script_of bytes Run) (g.K.Sink.held c.args.sink.now) (g.K.Sink.held c.named.new.sink))
      (λ bytes is. rw is (c.named.ensures.cut five))
      (c.in-Err-TooLong.ensures.too_long (ap Err c.in-Err-TooLong.field-0-is));
  codes = named_codes _ c.named.ensures.codes;
}

pub returns-in-Err-Failed-clause-run : goal.returns-in-Err-Failed-clause-run
returns-in-Err-Failed-clause-run g c = runs_silently 4 _ _ _ _ (omega arith) (omega arith) (λ five. omega (arith, five))

pub returns-in-Err-NoMemory-clause-run : goal.returns-in-Err-NoMemory-clause-run
returns-in-Err-NoMemory-clause-run g c = runs_silently 6 _ _ _ _ (omega arith) (omega arith) (λ five. omega (arith, five))
