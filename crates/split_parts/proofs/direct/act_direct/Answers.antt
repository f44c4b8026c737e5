use Rattle.split_parts.proofs.Names.{rules, ap, sym, subst, ◌∙◌, CallsFit, fate_of, seen}
use Rattle.split_parts.proofs.Directly.{IsMadeOf, acts_directly, stays_as_before, fits_still}
use Rattle.split_parts.proofs.Filled.{on_err}
use Rattle.split_parts.proofs.direct.act_direct.Goals as goal

pub fate-requires : goal.fate-requires
fate-requires c = subst (λ asked. CallsFit (seen c.args.lent.now) asked) (sym c.asked-store.ensures) c.requires.calls

pub make_among-made-requires-clause-fate : goal.make_among-made-requires-clause-fate
make_among-made-requires-clause-fate c = c.new-weather.ensures.fate ∙ c.fate.ensures ∙ ap (fate_of (seen c.args.lent.now)) c.asked-store.ensures

pub count_made-requires : goal.count_made-requires
count_made-requires c = fits_still (seen c.args.lent.now) (seen c.make_among-made.new.lent) c.args.event.now c.new-weather.result.fate c.asked-store.result _ c.make_among-made.new.book.items c.make_among-made.result c.make_among-made.ensures (subst (λ asked. CallsFit (seen c.args.lent.now) asked) (sym c.asked-store.ensures) c.requires.calls)

pub returns-in_err-stopped-clause-refused : goal.returns-in_err-stopped-clause-refused
returns-in_err-stopped-clause-refused c =
    let made : IsMadeOf (seen c.args.lent.now) (seen c.make_among-made.new.lent) (seen c.count_made.new.self) c.args.event.now c.asked-store.result c.new-weather.result.fate c.new-book.result.items c.make_among-made.new.book.items c.make_among-made.result = record {
      all = c.requires.all;
      asked_is = c.asked-store.ensures;
      fate_is = c.new-weather.ensures.fate ∙ c.fate.ensures;
      none = c.new-book.ensures.items;
      made = c.make_among-made.ensures;
      counted = c.count_made.ensures;
    } in
    on_err _ _ (stays_as_before c.ended.result made c.ended.ensures (search rules))

pub returns-clause-acted : goal.returns-clause-acted
returns-clause-acted c =
    let made : IsMadeOf (seen c.args.lent.now) (seen c.make_among-made.new.lent) (seen c.count_made.new.self) c.args.event.now c.asked-store.result c.new-weather.result.fate c.new-book.result.items c.make_among-made.new.book.items c.make_among-made.result = record {
      all = c.requires.all;
      asked_is = c.asked-store.ensures;
      fate_is = c.new-weather.ensures.fate ∙ c.fate.ensures;
      none = c.new-book.ensures.items;
      made = c.make_among-made.ensures;
      counted = c.count_made.ensures;
    } in
    acts_directly _ c.ended.result made c.ended.ensures (search rules) (search rules)
