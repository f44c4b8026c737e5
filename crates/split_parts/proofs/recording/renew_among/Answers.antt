use Rattle.split_parts.proofs.Names.{max, refl, subst, sym, IfSome, SetupNumbers, renew_on, rules_of, seen}
use Rattle.std.specs.Prelude.{◌≡◌}
use Rattle.machine.specs.declared.event.Event.TheVariants as event
use Rattle.split_parts.proofs.RecordEvents.{kept_made}
use Rattle.split_parts.proofs.recording.renew_among.Goals as goal

pub renew_to-requires-clause-rules : goal.renew_to-requires-clause-rules
renew_to-requires-clause-rules c = subst (λ (x : SetupNumbers). IfSome (seen c.args.lent.now).master (λ kept. kept.rules ≡ rules_of x)) (sym c.setup-setup.ensures) c.requires.leases

pub returns : goal.returns
returns c = kept_made (seen c.args.lent.now) _ (event.Renew c.args.node c.args.reading) c.args.weather.now.fate c.args.node (max 0 c.args.reading) _ (λ setup i state. renew_on setup c.args.node c.args.reading c.args.weather.now.fate i state) c.args.book.now.items c.renew_to.new.book.items c.renew_to.result c.requires.all.0 c.requires.all.1 c.setup-setup.ensures (λ p. refl) refl c.renew_to.ensures
