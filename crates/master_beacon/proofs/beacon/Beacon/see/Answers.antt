use Rattle.std.proofs.Common.{List, sym, ap, ◌∙◌, subst}
use Rattle.crossbeam_utils.specs.Seq.{cell_view}
use Rattle.master_beacon.specs.declared.rule.Announced.{Announced}
use Rattle.master_beacon.specs.declared.rule.BeaconView.{BeaconView}
use Rattle.master_beacon.specs.Announcements.{IsFrontOf}
use Rattle.master_beacon.specs.Holds.{Sight}
use Rattle.master_beacon.proofs.RuleKept.{words_fit, looks}
use Rattle.master_beacon.proofs.beacon.Beacon.see.Goals as goal

pub load_as-words-requires : goal.load_as-words-requires
load_as-words-requires g c =
    let here = ap (λ (s : Sight). s.beacon) c.pass.view_is ∙ (c.requires ∙ sym c.self.view_is) in
    (words_fit.0, (words_fit.1, (here, looks _ _)))

pub invariant_of-pass : goal.invariant_of-pass
invariant_of-pass g c = ap (λ (v : BeaconView). v.publishes) c.load_as-words.ensures.rule.same ∙ c.pass.invariant

pub returns-clause-beacon : goal.returns-clause-beacon
returns-clause-beacon g c = c.load_as-words.ensures.cell.0 ∙ (ap (λ (s : Sight). s.beacon) c.pass.view_is ∙ c.requires)

pub returns-clause-seen : goal.returns-clause-seen
returns-clause-seen g c =
    let told = c.load_as-words.ensures.rule in
    let now = (cell_view c.load_as-words.new.pass).seen in
    record {
      front = subst (λ (before : List Announced). IsFrontOf before now) (ap (λ (s : Sight). s.seen) c.pass.view_is) told.front;
      rising = told.rising;
      last = c.pair_of.ensures _ told.last told.pair;
    }
