use Rattle.split_parts.proofs.Names.{rules, refl, ap, ◌∙◌, noted, seen}
use Rattle.split_parts.proofs.NotedEvents.{acts_noted}
use Rattle.split_parts.proofs.noting.act_noted.Goals as goal

pub returns-clause-acted : goal.returns-clause-acted
returns-clause-acted c = acts_noted (seen c.args.lent.now) (seen c.note.new.self) c.args.event.now c.args.item _ c.requires (c.note.ensures ∙ ap (noted c.args.event.now) c.new_name.ensures.parts) (search rules) refl
