use Rattle.node_events.proofs.Places.{reserved_keep}
use Rattle.node_events.proofs.accepting.reserve_place.Goals as goal

pub returns-in-Commit-clause-places : goal.returns-in-Commit-clause-places
returns-in-Commit-clause-places c = reserved_keep c.args.table.now c.reserve.new.self c.in-Commit.start c.reserve.result c.reserve.ensures.places c.reserve.ensures.memory
