use Rattle.std.proofs.Common.{sym, subst, arith}
use Rattle.thread_steps.specs.Done.{AreFew}
use Rattle.thread_steps.proofs.Few.{few_done, still_few, same_count}
use Rattle.thread_steps.proofs.cursors.Cursors.catch_up.Goals as goal

pub count-requires : goal.count-requires
count-requires g c =
    let few = still_few c.actor-actor.result c.args.place c.self.inside.cursors.items c.requires.small c.self.invariant.0 in
    let done = few_done c.move_up-more.new.cursors.items (subst AreFew (sym c.move_up-more.ensures.cursors) few) in
    omega (arith, done, c.self.invariant.1, c.move_up-more.ensures.more)

pub invariant_of-self : goal.invariant_of-self
invariant_of-self g c =
    let few = still_few c.actor-actor.result c.args.place c.self.inside.cursors.items c.requires.small c.self.invariant.0 in
    let count = same_count c.actor-actor.result c.args.place c.self.inside.cursors.items in (
      subst AreFew (sym c.move_up-more.ensures.cursors) few,
      omega (arith, c.count.ensures.total, c.self.invariant.1, c.move_up-more.ensures.more),
      c.self.invariant.2,
      rw c.move_up-more.ensures.cursors (rw count c.self.invariant.3),
    )
