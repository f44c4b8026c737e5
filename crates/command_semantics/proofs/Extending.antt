-- An extension lowers what is left: the instance has stamps again, or keeps the refusal, so that the next decision draws or
-- ends the request. A failed one ends the run.
use Rattle.command_semantics.proofs.Names.{◌≡◌, ℕ, ◌+◌, ◌<◌, false, List, Option, Some}
use Rattle.command_semantics.proofs.Names.{None, refl, sym, ◌∙◌, ap, subst, arith, slice_get}
use Rattle.command_semantics.proofs.Names.{same_Some, Fate, Works, FailsUnchanged, FailsApplied, fated, Cause, Item}
use Rattle.command_semantics.proofs.Names.{ExtendRefused, StoreFault, Replaced, Spent, MasterRecord, extend_refused}
use Rattle.command_semantics.proofs.Names.{extended, answered, Held, InstanceEntry, held_of}
use Rattle.command_semantics.proofs.Names.{instance_widened, instance_stopped, State, Effect, Step, step_by, with_post}
use Rattle.command_semantics.proofs.Names.{at_post, stepped, extend_on, rules_of, Verb, halt_of, after_extending}
use Rattle.command_semantics.proofs.Names.{of_client, client_ends, lacks_stamps, drive_left, session_left}
use Rattle.std.proofs.lemmas.Bool.{ne_eqb}
use Rattle.history_book.specs.declared.cause.Cause.TheVariants as cause
use Rattle.system_parts.specs.declared.instance.Place.TheVariants as place
use Rattle.machine.specs.declared.event.Event.TheVariants as event
use Rattle.machine.specs.Events.Extend.{extend_by}
use Rattle.command_semantics.proofs.Clients.{settles_within}
use Rattle.command_semantics.proofs.Holders.{drives_on}
use Rattle.command_semantics.proofs.Serving.{Serving, serving_changed}

-- the step as an effect on the node and the master record
abbrev record_step : State → ℕ → Effect (Option InstanceEntry × MasterRecord) → Step
record_step w node effect = step_by effect (λ (p : Option InstanceEntry × MasterRecord). record (with_post w node p.0) { master = p.1 })

abbrev LowersAfter : State → ℕ → Verb → Step → Type 0
LowersAfter w s verb step = session_left step.state s verb (after_extending (halt_of step.stop)) < 4 + of_client (slice_get w.clients s) client_ends

-- the request is held as it was, by an instance that does not lack stamps
can_decide : (w : State) (h : List Item) (node s : ℕ) (k : Serving w h s (node, place.Accepted)) (now : InstanceEntry) (master : MasterRecord) → now.requests ≡ k.served.holder.i.requests → lacks_stamps now ≡ false → drive_left (record (with_post w node (Some now)) { master = master }) s < 4 + of_client (slice_get w.clients s) client_ends
can_decide w h node s k now master requests enough =
    let i : InstanceEntry = k.served.holder.i in
    let left : State = record (with_post w node (Some now)) { master = master } in
    let ends : ℕ = of_client (slice_get w.clients s) client_ends in
    drives_on w left h node s now (4 + ends) (serving_changed w left h s (node, place.Accepted) k now refl) (λ (other : Held) has.
    let there : held_of i s ≡ Some other = ap (λ (held_now : List (Option Held)). held_of (record i { requests = held_now }) s) (sym requests) ∙ has in
    grind (arith, same_Some)) (omega (arith, settles_within (slice_get w.clients s)))

-- a range that was added is not used up
widened_enough : (w : State) (h : List Item) (node s : ℕ) (k : Serving w h s (node, place.Accepted)) → lacks_stamps (instance_widened k.served.holder.i (w.master.ceiling + w.setup.range)) ≡ false
widened_enough w h node s k = grind (arith, ne_eqb)

-- a refusal that is kept is kept
stopped_enough : (i : InstanceEntry) (why : Cause) → lacks_stamps (instance_stopped i why) ≡ false
stopped_enough i why = grind arith

-- by what the record answered
answer_lowers : (w : State) (h : List Item) (node s : ℕ) (verb : Verb) (k : Serving w h s (node, place.Accepted)) (master : MasterRecord) (kept : List Item) (fate : Fate) (why : Option ExtendRefused) → LowersAfter w s verb (record_step w node (extend_by node k.served.holder.i master kept (answered fate StoreFault why (w.master.ceiling + w.setup.range))))
answer_lowers w h node s verb k master kept Works None = can_decide w h node s k (instance_widened k.served.holder.i (w.master.ceiling + w.setup.range)) master refl (widened_enough w h node s k)
answer_lowers w h node s verb k master kept Works (Some StoreFault) = omega arith
answer_lowers w h node s verb k master kept Works (Some (Replaced found)) = can_decide w h node s k (instance_stopped k.served.holder.i (cause.Replaced found)) master refl (stopped_enough k.served.holder.i (cause.Replaced found))
answer_lowers w h node s verb k master kept Works (Some (Spent ceiling)) = can_decide w h node s k (instance_stopped k.served.holder.i (cause.Spent ceiling)) master refl (stopped_enough k.served.holder.i (cause.Spent ceiling))
answer_lowers w h node s verb k master kept FailsUnchanged why = omega arith
answer_lowers w h node s verb k master kept FailsApplied why = omega arith

pub extend_lowers : (w : State) (h : List Item) (node s : ℕ) (fate : Fate) (verb : Verb) (k : Serving w h s (node, place.Accepted)) → LowersAfter w s verb (stepped w (event.Extend node) fate)
extend_lowers w h node s fate verb k =
    let i : InstanceEntry = k.served.holder.i in
    let is : stepped w (event.Extend node) fate ≡ record_step w node (extend_on w.setup node fate (Some i) w.master) = ap (λ (found : Option (Option InstanceEntry)). at_post w found (λ post. record_step w node (extend_on w.setup node fate post w.master))) k.served.holder.at in
    subst (λ (step : Step). LowersAfter w s verb step) (sym is) (answer_lowers w h node s verb k (fated fate w.master (extended (rules_of w.setup) w.master i.term)) _ fate (extend_refused (rules_of w.setup) w.master i.term))
