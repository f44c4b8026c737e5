use Rattle.split_parts.proofs.Names.{refl, subst, sym, IfSome, SetupNumbers, extend_on, rules_of, seen}
use Rattle.std.specs.Prelude.{◌≡◌}
use Rattle.machine.specs.declared.event.Event.TheVariants as event
use Rattle.split_parts.proofs.RecordEvents.{kept_made, may_extend}
use Rattle.split_parts.proofs.recording.extend_among.Goals as goal

pub extend_to-requires-clause-covers : goal.extend_to-requires-clause-covers
extend_to-requires-clause-covers c = may_extend (seen c.args.lent.now) c.args.node c.requires.all.0 c.requires.can

pub extend_to-requires-clause-rules : goal.extend_to-requires-clause-rules
extend_to-requires-clause-rules c = subst (λ (x : SetupNumbers). IfSome (seen c.args.lent.now).master (λ kept. kept.rules ≡ rules_of x)) (sym c.setup-setup.ensures) c.requires.leases

pub returns : goal.returns
returns c = kept_made (seen c.args.lent.now) _ (event.Extend c.args.node) c.args.weather.now.fate c.args.node 0 _ (λ setup i state. extend_on setup c.args.node c.args.weather.now.fate i state) c.args.book.now.items c.extend_to.new.book.items c.extend_to.result c.requires.all.0 c.requires.all.1 c.setup-setup.ensures (λ p. refl) refl c.extend_to.ensures
