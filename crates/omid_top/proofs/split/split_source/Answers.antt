use Rattle.std.proofs.Common.{Err, ap, sym, arith}
use Rattle.std.specs.Prelude.{IsOkAnd, IsErrAnd}
use Rattle.port_io.specs.Ports.{Gains}
use Rattle.session_script.specs.Script.{script_of}
use Rattle.session_script.specs.declared.mode.Mode.TheVariants.{Split}
use Rattle.omid_top.specs.Promise.{WritesSplit, WritesTorn, IsCutSplit}
use Rattle.omid_top.specs.Texts.{bad_line_text, spent_text}
use Rattle.omid_top.proofs.CommandLemmas.{split_codes, named_split_codes, named_is_no_split, named_is_not_done, named_is_not, splits_silently, of_too_long}
use Rattle.omid_top.proofs.ReportLemmas.{of_all_left}
use Rattle.omid_top.proofs.split.split_source.Goals as goal

pub returns-in-Ok-clause-split : goal.returns-in-Ok-clause-split
returns-in-Ok-clause-split g c = record {
  read = λ _. c.in-Ok.ensures.end;
  ran = λ done.
      of_all_left _ _ c.in-Ok.bytes.items (λ bytes. IsOkAnd (script_of bytes Split) (λ script. WritesSplit script (Gains (g.K.Sink.held c.args.sink.now) (g.K.Sink.held c.split_bytes.new.sink)))) c.in-Ok.ensures.all c.in-Ok.ensures.end
      (rw (sym c.deref.ensures.value) (c.split_bytes.ensures.ran done));
  torn = λ eight.
      of_all_left _ _ c.in-Ok.bytes.items (λ bytes. IsOkAnd (script_of bytes Split) (λ script. WritesTorn script (Gains (g.K.Sink.held c.args.sink.now) (g.K.Sink.held c.split_bytes.new.sink)))) c.in-Ok.ensures.all c.in-Ok.ensures.end
      (rw (sym c.deref.ensures.value) (c.split_bytes.ensures.torn eight));
  spent = λ nine.
      of_all_left _ _ c.in-Ok.bytes.items (λ bytes. IsOkAnd (script_of bytes Split) (λ script. Gains (g.K.Sink.held c.args.sink.now) (g.K.Sink.held c.split_bytes.new.sink) spent_text)) c.in-Ok.ensures.all c.in-Ok.ensures.end
      (rw (sym c.deref.ensures.value) (c.split_bytes.ensures.spent nine));
  bad_line = λ three.
      of_all_left _ _ c.in-Ok.bytes.items (λ bytes. IsErrAnd (script_of bytes Split) (λ bad. Gains (g.K.Sink.held c.args.sink.now) (g.K.Sink.held c.split_bytes.new.sink) (bad_line_text bad))) c.in-Ok.ensures.all c.in-Ok.ensures.end
      (rw (sym c.deref.ensures.value) (c.split_bytes.ensures.bad_line three));
  cut = λ five.
      of_all_left _ _ c.in-Ok.bytes.items (λ bytes. IsCutSplit (script_of bytes Split) (g.K.Sink.held c.args.sink.now) (g.K.Sink.held c.split_bytes.new.sink)) c.in-Ok.ensures.all c.in-Ok.ensures.end
      (rw (sym c.deref.ensures.value) (c.split_bytes.ensures.cut five));
  codes = split_codes _ c.split_bytes.ensures.codes;
}

pub returns-in-Err-TooLong-clause-split : goal.returns-in-Err-TooLong-clause-split
returns-in-Err-TooLong-clause-split g c = record {
  read = named_is_no_split _ c.named.ensures.codes;
  ran = named_is_not_done _ c.named.ensures.codes;
  torn = named_is_not _ 8 (omega arith) c.named.ensures.codes;
  spent = named_is_not _ 9 (omega arith) c.named.ensures.codes;
  bad_line = λ three.
      of_too_long Split _ (λ bytes. IsErrAnd (script_of bytes Split) (λ bad. Gains (g.K.Sink.held c.args.sink.now) (g.K.Sink.held c.named.new.sink) (bad_line_text bad)))
      (λ bytes is. rw is (c.named.ensures.told three))
      (c.in-Err-TooLong.ensures.too_long (ap Err c.in-Err-TooLong.field-0-is));
  cut = λ five.
      of_too_long Split _ (λ bytes. IsCutSplit (script_of bytes Split) (g.K.Sink.held c.args.sink.now) (g.K.Sink.held c.named.new.sink))
      (λ bytes is. rw is (c.named.ensures.cut five))
      (c.in-Err-TooLong.ensures.too_long (ap Err c.in-Err-TooLong.field-0-is));
  codes = named_split_codes _ c.named.ensures.codes;
}

pub returns-in-Err-Failed-clause-split : goal.returns-in-Err-Failed-clause-split
returns-in-Err-Failed-clause-split g c = splits_silently 4 _ _ _ _ (omega arith) (omega arith) (λ five. omega (arith, five))

pub returns-in-Err-NoMemory-clause-split : goal.returns-in-Err-NoMemory-clause-split
returns-in-Err-NoMemory-clause-split g c = splits_silently 6 _ _ _ _ (omega arith) (omega arith) (λ five. omega (arith, five))
