use Rattle.std.proofs.Common.{◌∙◌, Some, length, refl, ap}
use Rattle.std.proofs.lemmas.Option.{slice_get_read}
use Rattle.read_sets.proofs.CrossingLemmas.{read_second, other_second}
use Rattle.read_sets.proofs.search.second_at.Goals as goal

pub returns-in-Read-clause-second : goal.returns-in-Read-clause-second
returns-in-Read-clause-second c =
    let items = c.args.items.now in
    let there = slice_get_read items (length items) c.args.first c.index-items-first.result refl c.requires.within c.index-items-first.is in
    read_second items c.args.first c.in-Read.session c.in-Read.start c.in-Read.key c.in-Read.answer c.second_of_read.result (there ∙ ap Some c.in-Read.is) c.second_of_read.ensures.second

pub returns-in_default : goal.returns-in_default
returns-in_default c =
    let items = c.args.items.now in
    let there = slice_get_read items (length items) c.args.first c.index-items-first.result refl c.requires.within c.index-items-first.is in
    record { second = other_second items c.args.first c.index-items-first.result there (λ session s k answer e. c.in_default.not-Read session s k answer e); within = tt }
