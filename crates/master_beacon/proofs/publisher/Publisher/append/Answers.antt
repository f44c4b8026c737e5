use Rattle.std.proofs.Common.{◌<◌, sym, ap, ◌∙◌, ◌++◌, ◌∷◌, [], subst}
use Rattle.stamp_base.specs.Ranges.{IsTerm, IsNode}
use Rattle.crossbeam_utils.specs.Seq.{cell_view}
use Rattle.master_beacon.specs.declared.rule.BeaconView.{BeaconView}
use Rattle.master_beacon.specs.Announcements.{announced, last_term}
use Rattle.master_beacon.specs.Holds.{Published, published}
use Rattle.master_beacon.proofs.Risen.{last_term-push}
use Rattle.master_beacon.proofs.RuleKept.{words_fit, publishes}
use Rattle.master_beacon.proofs.publisher.Publisher.append.Goals as goal

pub swap_as-requires : goal.swap_as-requires
swap_as-requires g c =
    let here = ap (λ (p : Published). p.beacon) c.self.view_is ∙ (c.requires.beacon ∙ sym c.beacon.view_is) in
    let list = sym (ap (λ (p : Published). p.list) c.self.view_is) in
    let number = sym c.value-number.ensures.value in
    let above = subst (λ n. last_term (cell_view c.self.inside.pass).seen < n) number (subst (λ l. last_term l < c.args.term) list c.requires.above) in
    let term = subst IsTerm number c.value-number.ensures.range in
    let node = subst IsNode (sym c.value-place.ensures.value) c.value-place.ensures.range in
    (words_fit.0, (words_fit.1, (here, publishes _ _ (announced c.value-number.result c.value-place.result) c.self.invariant.0 above (term, node))))

pub invariant_of-self : goal.invariant_of-self
invariant_of-self g c =
    let told = c.swap_as.ensures.rule in
    (ap (λ (v : BeaconView). v.publishes) told.last, sym (ap (λ (v : BeaconView). last_term v.seen) told.last ∙ last_term-push (cell_view c.self.inside.pass).seen _), told.rising)

pub returns-clause-list : goal.returns-clause-list
returns-clause-list g c =
    let list = ap (λ (v : BeaconView). v.seen) c.swap_as.ensures.rule.last in
    let before = ap (λ (p : Published). p.list ++ announced c.value-number.result c.value-place.result ∷ []) c.self.view_is in
    let beacon = c.swap_as.ensures.cell.0 ∙ (ap (λ (p : Published). p.beacon) c.self.view_is ∙ c.requires.beacon) in
    ap (λ b. published b (cell_view c.swap_as.new.pass).seen) beacon
    ∙ (ap (published c.args.beacon.now) (list ∙ before)
    ∙ (ap (λ n. published c.args.beacon.now (c.args.self.now.list ++ announced n c.value-place.result ∷ [])) c.value-number.ensures.value
    ∙ ap (λ n. published c.args.beacon.now (c.args.self.now.list ++ announced c.args.term n ∷ [])) c.value-place.ensures.value))

pub returns-clause-rising : goal.returns-clause-rising
returns-clause-rising g c = c.swap_as.ensures.rule.rising
