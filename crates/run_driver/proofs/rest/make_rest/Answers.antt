use Rattle.std.proofs.Common.{Bool, ◌||◌, sym, ap, ◌∙◌, arith, length-set}
use Rattle.thread_steps.specs.Done.{Done}
use Rattle.run_driver.specs.declared.round.Round.{Round}
use Rattle.run_driver.proofs.StillLemmas.{none_made, still_more}
use Rattle.run_driver.proofs.rest.make_rest.Goals as goal

pub loop-place-preserved : goal.loop-place-preserved
loop-place-preserved g c =
    let inv = c.loop-place.invariant in
    let same = c.add_actor.ensures in (
      omega (arith, ap (λ (r : Round). r.actors) same, inv.0),
      ap (λ (r : Round). r.steps) same ∙ inv.1,
      length-set c.loop-place.shares c.loop-place.place c.carry_on.new.mine ∙ inv.2,
      (λ quiet.
          let none = none_made c.loop-place.round.made c.in_ok-stands.stands.made (sym (ap (λ (r : Round). r.made) same) ∙ quiet) in
          still_more c.args.shares.now c.loop-place.shares c.loop-place.place c.carry_on.new.mine c.index-shares-place.result c.in_ok-stands.stands.made (inv.3 none.0) c.in_ok-stands.ensures.no_fall c.in_ok-stands.ensures.risen none.1),
    )
