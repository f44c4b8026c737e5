use Rattle.std.proofs.lemmas.Option.{IfSome_then}
use Rattle.history_reading.specs.Templates.{template_at}
use Rattle.history_reading.proofs.TemplateKinds.{IsPrinted, template_is}
use Rattle.history_reading.proofs.reading.by_template.Goals as goal

pub returns-clause-found : goal.returns-clause-found
returns-clause-found c = rw c.template.ensures (IfSome_then (template_at c.args.line.now) {P = IsPrinted c.args.line.now} (template_is c.args.line.now) (λ item h. h.0))

pub returns-clause-fits : goal.returns-clause-fits
returns-clause-fits c = rw c.template.ensures (IfSome_then (template_at c.args.line.now) {P = IsPrinted c.args.line.now} (template_is c.args.line.now) (λ item h. h.1))
