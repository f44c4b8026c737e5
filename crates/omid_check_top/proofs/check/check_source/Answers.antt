use Rattle.std.proofs.Common.{Err, ap, sym, arith}
use Rattle.omid_check_top.specs.Commands.{Told, ToldFront}
use Rattle.omid_check_top.proofs.CheckLemmas.{check_codes, checks_silently, long_codes, long_front, long_is_no_end, long_is_three, long_told, of_all_left, of_too_many}
use Rattle.omid_check_top.proofs.check.check_source.Goals as goal

pub returns-in-Ok-clause-checks : goal.returns-in-Ok-clause-checks
returns-in-Ok-clause-checks g c = record {
  read = λ _. c.in-Ok.ensures.end;
  told = λ told.
      of_all_left _ _ c.in-Ok.bytes.items (λ bytes. Told c.args.question bytes c.check_bytes.result (g.K.Sink.held c.args.sink.now) (g.K.Sink.held c.check_bytes.new.sink)) c.in-Ok.ensures.all c.in-Ok.ensures.end
      (rw (sym c.deref.ensures.value) (c.check_bytes.ensures.told told));
  cut = λ five.
      of_all_left _ _ c.in-Ok.bytes.items (λ bytes. ToldFront c.args.question bytes (g.K.Sink.held c.args.sink.now) (g.K.Sink.held c.check_bytes.new.sink)) c.in-Ok.ensures.all c.in-Ok.ensures.end
      (rw (sym c.deref.ensures.value) (c.check_bytes.ensures.cut five));
  codes = check_codes _ c.check_bytes.ensures.codes;
}

pub returns-in-Err-TooLong-clause-checks : goal.returns-in-Err-TooLong-clause-checks
returns-in-Err-TooLong-clause-checks g c = record {
  read = long_is_no_end _ c.say_too_long.ensures.codes;
  told = λ told.
      let three = long_is_three _ c.say_too_long.ensures.codes told in
      of_too_many _ (λ bytes. Told c.args.question bytes c.say_too_long.result (g.K.Sink.held c.args.sink.now) (g.K.Sink.held c.say_too_long.new.sink))
      (λ bytes long. long_told c.args.question bytes _ _ _ long three (c.say_too_long.ensures.told three))
      (c.in-Err-TooLong.ensures.too_long (ap Err c.in-Err-TooLong.field-0-is));
  cut = λ five.
      of_too_many _ (λ bytes. ToldFront c.args.question bytes (g.K.Sink.held c.args.sink.now) (g.K.Sink.held c.say_too_long.new.sink))
      (λ bytes long. long_front c.args.question bytes _ _ long (c.say_too_long.ensures.cut five))
      (c.in-Err-TooLong.ensures.too_long (ap Err c.in-Err-TooLong.field-0-is));
  codes = long_codes _ c.say_too_long.ensures.codes;
}

pub returns-in-Err-Failed-clause-checks : goal.returns-in-Err-Failed-clause-checks
returns-in-Err-Failed-clause-checks g c = checks_silently c.args.question 4 _ _ _ _ (omega arith) (omega arith) (λ five. omega (arith, five))

pub returns-in-Err-NoMemory-clause-checks : goal.returns-in-Err-NoMemory-clause-checks
returns-in-Err-NoMemory-clause-checks g c = checks_silently c.args.question 6 _ _ _ _ (omega arith) (omega arith) (λ five. omega (arith, five))
