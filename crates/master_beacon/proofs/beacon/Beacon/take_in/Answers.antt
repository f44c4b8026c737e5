use Rattle.std.proofs.Common.{sym, ap, ◌∙◌, subst}
use Rattle.crossbeam_utils.specs.Seq.{cell_view}
use Rattle.master_beacon.specs.declared.rule.BeaconView.{BeaconView}
use Rattle.master_beacon.specs.Steps.{Keeps}
use Rattle.master_beacon.specs.Views.{with_beside}
use Rattle.master_beacon.proofs.RuleKept.{words_fit, puts_beside, compares}
use Rattle.master_beacon.proofs.beacon.Beacon.take_in.Goals as goal

pub copied-copy-requires : goal.copied-copy-requires
copied-copy-requires g c = c.requires.1

pub join_pass-requires : goal.join_pass-requires
join_pass-requires g c =
    let copy = c.copied-copy.ensures.copy in
    let here = c.requires.0 ∙ sym c.self.view_is in
    (words_fit.0, (words_fit.1, ((here, copy.0 ∙ sym c.requires.0, copy.2), puts_beside _ _ _ _)))

pub load_as-requires : goal.load_as-requires
load_as-requires g c =
    let here = c.join_pass.ensures.0.0 ∙ (c.requires.0 ∙ sym c.self.view_is) in
    (words_fit.0, (words_fit.1, (here, compares _ _)))

pub returns-clause-same : goal.returns-clause-same
returns-clause-same g c =
    let joined = c.join_pass.ensures.0 in
    let looked = c.load_as.ensures.cell in
    ((looked.0 ∙ joined.0, looked.1 ∙ joined.1), c.copied-copy.ensures.same.0, c.copied-copy.ensures.same.1)

-- the new pass has seen what the other has
pub returns-clause-kept : goal.returns-clause-kept
returns-clause-kept g c =
    let beside = c.join_pass.ensures.1 ∙ ap (with_beside (cell_view c.args.pass.now)) c.copied-copy.ensures.copy.1 in
    subst (λ (v : BeaconView). Keeps v (cell_view c.load_as.new.pass)) beside c.load_as.ensures.rule
