use Rattle.split_stores.proofs.MakeLemmas.{made_from, makes_from, makes_of}
use Rattle.split_stores.proofs.split.Split.make.Goals as goal

pub returns-clause-made : goal.returns-clause-made
returns-clause-made g c = makes_from c.args.event c.at_parts.result c.args.seat.now c.reserve.new.self c.at_parts.new.seat c.reserve.ensures.same (makes_of _ c.args.event c.at_parts.result c.reserve.new.self c.at_parts.new.seat c.at_parts.ensures)

pub returns-clause-parts : goal.returns-clause-parts
returns-clause-parts g c = made_from _ c.args.event c.at_parts.result c.args.seat.now c.reserve.new.self c.at_parts.new.seat c.reserve.ensures.same c.at_parts.ensures
