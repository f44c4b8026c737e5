use Rattle.split_parts.proofs.Names.{refl, fate_ahead, sweep_step_asks, sweep_step_on, seen}
use Rattle.machine.specs.declared.event.Event.TheVariants as event
use Rattle.split_parts.proofs.SweepEvents.{may_sweep, sweep_is, swept_made}
use Rattle.split_parts.proofs.sweeping.sweep_step_among.Goals as goal

pub sweep_step_to-requires : goal.sweep_step_to-requires
sweep_step_to-requires c = may_sweep (seen c.args.lent.now) c.requires.can

pub returns : goal.returns
returns c =
    let l = seen c.args.lent.now in
    swept_made l _ event.SweepStep c.args.weather.now.fate (λ sweep rows pairs. sweep_step_on (fate_ahead (sweep_step_asks sweep) (λ store n. c.args.weather.now.fate)) sweep rows pairs) c.args.book.now.items c.sweep_step_to.new.book.items c.sweep_step_to.result c.requires.all (λ s at. sweep_is l c.args.weather.now.fate s at c.requires.fate) refl c.sweep_step_to.ensures
