use Rattle.std.proofs.Common.{refl}
use Rattle.commit_table.proofs.Marks.{place-used, places_from-remove}
use Rattle.commit_table.proofs.entries.use_place.Goals as goal

pub returns-clause-places : goal.returns-clause-places
returns-clause-places c = places_from-remove c.args.places.now c.swap_remove.new.self c.args.txn (rw c.value.ensures.value at c.swap_remove.ensures.updates)

pub returns-clause-len : goal.returns-clause-len
returns-clause-len c = place-used c.args.places.now c.swap_remove.new.self _ c.args.txn c.value.result c.swap_remove.result refl c.requires c.value.ensures.value c.swap_remove.ensures.found c.swap_remove.ensures.len
