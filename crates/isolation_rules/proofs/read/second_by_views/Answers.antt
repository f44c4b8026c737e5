use Rattle.std.proofs.Common.{◌∙◌, Some, length, refl, sym, ap}
use Rattle.std.proofs.lemmas.Option.{slice_get_read}
use Rattle.isolation_rules.proofs.ReadLemmas.{read_second, other_second}
use Rattle.isolation_rules.proofs.read.second_by_views.Goals as goal

pub returns-in-Read-clause-second : goal.returns-in-Read-clause-second
returns-in-Read-clause-second g c =
    let items = c.args.items.now in
    let there = slice_get_read items (length items) c.args.first c.index-items-first.result refl c.requires.within c.index-items-first.is in
    read_second items c.requires.stamped c.args.first c.in-Read.session c.in-Read.start c.in-Read.key c.in-Read.answer c.wrong_answer.result (there ∙ ap Some c.in-Read.is) (c.wrong_answer.ensures items c.requires.stamped c.requires.within c.requires.views)

pub returns-in_default : goal.returns-in_default
returns-in_default g c =
    let items = c.args.items.now in
    let there = slice_get_read items (length items) c.args.first c.index-items-first.result refl c.requires.within c.index-items-first.is in
    record { second = other_second items c.args.first c.index-items-first.result there (λ session s k answer e. c.in_default.not-Read session s k answer (sym e)); within = tt }
