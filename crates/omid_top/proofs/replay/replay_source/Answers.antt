use Rattle.std.proofs.Common.{Err, ap, sym, arith}
use Rattle.std.specs.Prelude.{IsOkAnd, IsErrAnd}
use Rattle.port_io.specs.Ports.{Gains}
use Rattle.session_script.specs.Script.{script_of}
use Rattle.session_script.specs.declared.mode.Mode.TheVariants.{Replay}
use Rattle.command_semantics.specs.Runs.{replayed}
use Rattle.omid_top.specs.Promise.{KeepsPromise, GainsFront}
use Rattle.omid_top.specs.Texts.{bad_line_text, replay_text, text_in}
use Rattle.omid_top.proofs.CommandLemmas.{replay_codes, named_codes, named_is_not_done, replays_silently, of_too_long}
use Rattle.omid_top.proofs.ReportLemmas.{of_all_left}
use Rattle.omid_top.proofs.replay.replay_source.Goals as goal

pub returns-in-Ok-clause-replay : goal.returns-in-Ok-clause-replay
returns-in-Ok-clause-replay g c = record {
  read = λ _. c.in-Ok.ensures.end;
  replayed = λ done.
      of_all_left _ _ c.in-Ok.bytes.items (λ bytes. IsOkAnd (script_of bytes Replay) (λ script. KeepsPromise script × Gains (g.K.Sink.held c.args.sink.now) (g.K.Sink.held c.replay_bytes.new.sink) (text_in c.args.form (replayed script)))) c.in-Ok.ensures.all c.in-Ok.ensures.end
      (rw (sym c.deref.ensures.value) (c.replay_bytes.ensures.replayed done));
  bad_line = λ three.
      of_all_left _ _ c.in-Ok.bytes.items (λ bytes. IsErrAnd (script_of bytes Replay) (λ bad. Gains (g.K.Sink.held c.args.sink.now) (g.K.Sink.held c.replay_bytes.new.sink) (bad_line_text bad))) c.in-Ok.ensures.all c.in-Ok.ensures.end
      (rw (sym c.deref.ensures.value) (c.replay_bytes.ensures.bad_line three));
  cut = λ five.
      of_all_left _ _ c.in-Ok.bytes.items (λ bytes. GainsFront (g.K.Sink.held c.args.sink.now) (g.K.Sink.held c.replay_bytes.new.sink) (replay_text (text_in c.args.form) (script_of bytes Replay))) c.in-Ok.ensures.all c.in-Ok.ensures.end
      (rw (sym c.deref.ensures.value) (c.replay_bytes.ensures.cut five));
  codes = replay_codes _ c.replay_bytes.ensures.codes;
}

pub returns-in-Err-TooLong-clause-replay : goal.returns-in-Err-TooLong-clause-replay
returns-in-Err-TooLong-clause-replay g c = record {
  read = named_is_not_done _ c.named.ensures.codes;
  replayed = named_is_not_done _ c.named.ensures.codes;
  bad_line = λ three.
      of_too_long Replay _ (λ bytes. IsErrAnd (script_of bytes Replay) (λ bad. Gains (g.K.Sink.held c.args.sink.now) (g.K.Sink.held c.named.new.sink) (bad_line_text bad)))
      (λ bytes is. rw is (c.named.ensures.told three))
      (c.in-Err-TooLong.ensures.too_long (ap Err c.in-Err-TooLong.field-0-is));
  cut = λ five.
      of_too_long Replay _ (λ bytes. GainsFront (g.K.Sink.held c.args.sink.now) (g.K.Sink.held c.named.new.sink) (replay_text (text_in c.args.form) (script_of bytes Replay)))
      (λ bytes is. rw is (c.named.ensures.cut five))
      (c.in-Err-TooLong.ensures.too_long (ap Err c.in-Err-TooLong.field-0-is));
  codes = named_codes _ c.named.ensures.codes;
}

pub returns-in-Err-Failed-clause-replay : goal.returns-in-Err-Failed-clause-replay
returns-in-Err-Failed-clause-replay g c = replays_silently _ 4 _ _ _ _ (omega arith) (omega arith) (λ five. omega (arith, five))

pub returns-in-Err-NoMemory-clause-replay : goal.returns-in-Err-NoMemory-clause-replay
returns-in-Err-NoMemory-clause-replay g c = replays_silently _ 6 _ _ _ _ (omega arith) (omega arith) (λ five. omega (arith, five))
