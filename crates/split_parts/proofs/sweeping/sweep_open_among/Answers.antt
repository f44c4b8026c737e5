use Rattle.split_parts.proofs.Names.{refl, seen}
use Rattle.machine.specs.Events.SweepOpen.{sweep_open_on}
use Rattle.machine.specs.declared.event.Event.TheVariants as event
use Rattle.split_parts.proofs.SweepEvents.{janitor_made}
use Rattle.split_parts.proofs.sweeping.sweep_open_among.Goals as goal

pub returns : goal.returns
returns c = λ fate. janitor_made (seen c.args.lent.now) _ (event.SweepOpen c.args.node c.args.txn) fate c.args.node (λ i sweep. sweep_open_on c.args.node c.args.txn i sweep) c.args.book.now.items c.sweep_open_to.new.book.items c.sweep_open_to.result c.requires.0 c.requires.1 (λ p. refl) refl c.sweep_open_to.ensures
