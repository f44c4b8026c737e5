use Rattle.split_parts.proofs.Names.{refl, put_on, seen}
use Rattle.machine.specs.declared.event.Event.TheVariants as event
use Rattle.split_parts.proofs.Directly.{marks_made}
use Rattle.split_parts.proofs.requesting.put_among.Goals as goal

pub returns : goal.returns
returns c = marks_made (seen c.args.lent.now) _ (event.Put c.args.node c.args.session) c.args.weather.now.fate c.args.node (λ i pairs. put_on c.args.node c.args.session c.args.weather.now.fate i pairs) c.args.book.now.items c.put_to.new.book.items c.put_to.result c.requires.0 c.requires.1 (λ p. refl) refl c.put_to.ensures
