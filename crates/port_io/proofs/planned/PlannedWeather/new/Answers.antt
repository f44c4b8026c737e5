use Rattle.std.proofs.Common.{◌∙◌}
use Rattle.port_io.proofs.Plans.{first_fate, named_fate, unnamed_fate}
use Rattle.port_io.proofs.planned.PlannedWeather.new.Goals as goal

pub returns-clause-ahead : goal.returns-clause-ahead
returns-clause-ahead c = first_fate c.args.faults.items

pub returns-clause-named : goal.returns-clause-named
returns-clause-named c = λ fault n (k, within, here) number. first_fate c.args.faults.items fault.0 n ∙ named_fate c.args.faults.items fault k _ within here number c.requires

pub returns-clause-others : goal.returns-clause-others
returns-clause-others c = λ store n none. first_fate c.args.faults.items store n ∙ unnamed_fate c.args.faults.items store _ none
