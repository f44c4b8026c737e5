use Rattle.std.proofs.Common.{List, [], ◌∷◌, ◌++◌, refl, sym, subst, arith}
use Rattle.std.specs.Prelude.{Option, Ok}
use Rattle.std.specs.List.{AllZip}
use Rattle.std.proofs.lemmas.List.{length_push}
use Rattle.std.proofs.lemmas.List.Elements.{All-pop}
use Rattle.std.specs.Option.{IfSome}
use Rattle.split_stores.specs.Logs.{Logged, IsNew}
use Rattle.split_driver.specs.declared.jobs.Job.{Job}
use Rattle.split_driver.specs.Actors.{IsJobOf}
use Rattle.split_driver.proofs.ActorLemmas.{one_job_more}
use Rattle.split_driver.proofs.jobs.jobs_of.Goals as goal

pub loop-actor-preserved-in-Some-pop : goal.loop-actor-preserved-in-Some-pop
loop-actor-preserved-in-Some-pop c =
    let h = c.loop-actor.invariant in
    let popped = All-pop (IsNew c.args.split.now.id) c.loop-actor.seats.items c.pop.new.self.items c.pop.result c.pop.ensures.items h.0 in
    let fresh : IsNew c.args.split.now.id c.in-Some-pop.seat = subst (λ (o : Option Logged). IfSome o (IsNew c.args.split.now.id)) c.in-Some-pop.is popped.1 in
    let job : Job = record { actor = c.in-Some.actor; seat = c.in-Some-pop.seat; answer = Ok tt } in
    let n = length_push c.loop-actor.yielded c.in-Some.actor in (
      popped.0,
      omega (arith, n, h.1, c.pop.ensures.len, c.in-Some-pop.ensures.len),
      omega (arith, h.2, c.push_reserved.ensures.capacity),
      omega (arith, n, h.3, c.push_reserved.ensures.len),
      subst (λ (jobs : List Job). AllZip (IsJobOf c.args.split.now.id) (c.loop-actor.yielded ++ c.in-Some.actor ∷ []) jobs) (sym c.push_reserved.ensures.items) (one_job_more c.args.split.now.id c.loop-actor.yielded c.loop-actor.jobs.items c.in-Some.actor job h.4 (record { actor_is = refl; new = fresh })),
    )
