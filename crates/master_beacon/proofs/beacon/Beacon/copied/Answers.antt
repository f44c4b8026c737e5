use Rattle.std.proofs.Common.{sym, ◌∙◌}
use Rattle.master_beacon.proofs.RuleKept.{words_fit, copies}
use Rattle.master_beacon.proofs.beacon.Beacon.copied.Goals as goal

pub split_pass-requires : goal.split_pass-requires
split_pass-requires c = (words_fit.0, (words_fit.1, (c.requires ∙ sym c.self.view_is, copies _ _)))

pub returns-clause-same : goal.returns-clause-same
returns-clause-same c = c.split_pass.ensures.kept

pub returns-clause-copy : goal.returns-clause-copy
returns-clause-copy c = (c.split_pass.ensures.given.0 ∙ c.requires, c.split_pass.ensures.given.1, c.split_pass.ensures.given.2)
