use Rattle.std.proofs.Common.{Err, [], ap, sym, arith}
use Rattle.omid_view.specs.Views.{Shown, ShownFront}
use Rattle.omid_view.proofs.ViewLemmas.{any_cut, any_told, view_codes, named_codes, named_is_no_end, bad_front, bad_shown, views_silently, of_all_left, of_too_many}
use Rattle.omid_view.proofs.view.view_source.Goals as goal

pub returns-in-Ok-clause-views : goal.returns-in-Ok-clause-views
returns-in-Ok-clause-views g c = record {
  read = λ _. c.in-Ok.ensures.end;
  shown = λ told.
      of_all_left _ _ c.in-Ok.bytes.items (λ bytes. Shown c.args.command bytes c.view_bytes.result (g.K.Sink.held c.args.sink.now) (g.K.Sink.held c.view_bytes.new.sink)) c.in-Ok.ensures.all c.in-Ok.ensures.end
      (rw (sym c.deref.ensures.value) (c.view_bytes.ensures.shown told));
  cut = λ five.
      of_all_left _ _ c.in-Ok.bytes.items (λ bytes. ShownFront c.args.command bytes (g.K.Sink.held c.args.sink.now) (g.K.Sink.held c.view_bytes.new.sink)) c.in-Ok.ensures.all c.in-Ok.ensures.end
      (rw (sym c.deref.ensures.value) (c.view_bytes.ensures.cut five));
  codes = view_codes _ c.view_bytes.ensures.codes;
}

pub returns-in-Err-TooLong-clause-views : goal.returns-in-Err-TooLong-clause-views
returns-in-Err-TooLong-clause-views g c = record {
  read = named_is_no_end _ c.bad_line.ensures.codes;
  shown = λ told.
      of_too_many _ (λ bytes. Shown c.args.command bytes c.bad_line.result (g.K.Sink.held c.args.sink.now) (g.K.Sink.held c.bad_line.new.sink))
      (λ bytes bad. bad_shown c.args.command bytes 0 _ _ _ bad c.bad_line.ensures.codes (λ three. any_told c.args.command bytes [] _ _ (c.bad_line.ensures.told three)) told)
      (c.in-Err-TooLong.ensures.too_long (ap Err c.in-Err-TooLong.field-0-is));
  cut = λ five.
      of_too_many _ (λ bytes. ShownFront c.args.command bytes (g.K.Sink.held c.args.sink.now) (g.K.Sink.held c.bad_line.new.sink))
      (λ bytes bad. bad_front c.args.command bytes 0 _ _ bad (any_cut c.args.command bytes [] _ _ (c.bad_line.ensures.cut five)))
      (c.in-Err-TooLong.ensures.too_long (ap Err c.in-Err-TooLong.field-0-is));
  codes = named_codes _ c.bad_line.ensures.codes;
}

pub returns-in-Err-Failed-clause-views : goal.returns-in-Err-Failed-clause-views
returns-in-Err-Failed-clause-views g c = views_silently c.args.command 4 _ _ _ _ (omega arith) (omega arith) (λ five. omega (arith, five))

pub returns-in-Err-NoMemory-clause-views : goal.returns-in-Err-NoMemory-clause-views
returns-in-Err-NoMemory-clause-views g c = views_silently c.args.command 6 _ _ _ _ (omega arith) (omega arith) (λ five. omega (arith, five))
