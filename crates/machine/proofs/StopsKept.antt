-- For isolation_laws too.
-- What an instance keeps of the master record's refusals is Replaced or Spent, in each state that moves lead to.
use Rattle.machine.proofs.Names.{◌≡◌, ℕ, false, Option, refl, sym, subst, slice_get, slice_set, Fate, InstanceEntry}
use Rattle.machine.proofs.Names.{begin_refusal, work_refusal, Event, Client, State, is_reading, Step, with_reading}
use Rattle.machine.proofs.Names.{at_post, at_both, stepped, take_on, renew_on, extend_on, crash_on, ask_begin_on}
use Rattle.machine.proofs.Names.{ask_commit_on, accept_on, decide_on, put_on, answer_on, KeepStops, StopsAreKept}
use Rattle.machine.proofs.Names.{touches_nodes}
use Rattle.machine.specs.declared.event.Event.TheVariants as event
use Rattle.machine.proofs.LookedUp.{of_post, of_both}
use Rattle.machine.proofs.PartsKept.{leaves_parts}
use Rattle.machine.proofs.StopsOfPosts.{AllKeep, Keeps, none_kept, set_keeps}
use Rattle.machine.proofs.StopsOfEvents.{take_keeps, renew_keeps, extend_keeps, crash_keeps, begin_keeps, commit_keeps, accept_keeps, decide_keeps, put_keeps, answer_keeps}

-- ---- the parts put back
post_kept : (w : State) (node : ℕ) (f : Option InstanceEntry → Step) (new : Option InstanceEntry → Option InstanceEntry) → ((post : Option InstanceEntry) → (f post).state.nodes ≡ slice_set w.nodes node (new post)) → ((post : Option InstanceEntry) → Keeps post (new post)) → KeepStops w → KeepStops (at_post w (slice_get w.nodes node) f).state
post_kept w node f new sets keeps keep =
    of_post (λ step. KeepStops step.state) w f (slice_get w.nodes node) keep (λ post was. subst AllKeep (sym (sets post)) (set_keeps w.nodes node post (new post) was (keeps post) keep))

both_kept : (w : State) (node session : ℕ) (f : Option InstanceEntry → Client → Step) (new : Option InstanceEntry → Client → Option InstanceEntry) → ((post : Option InstanceEntry) (d : Client) → (f post d).state.nodes ≡ slice_set w.nodes node (new post d)) → ((post : Option InstanceEntry) (d : Client) → Keeps post (new post d)) → KeepStops w → KeepStops (at_both w (slice_get w.nodes node) (slice_get w.clients session) f).state
both_kept w node session f new sets keeps keep =
    of_both (λ step. KeepStops step.state) w f (slice_get w.nodes node) (slice_get w.clients session) keep (λ post d was there. subst AllKeep (sym (sets post d)) (set_keeps w.nodes node post (new post d) was (keeps post d) keep))

untouched : (w : State) (e : Event) (fate : Fate) → touches_nodes e ≡ false → KeepStops w → KeepStops (stepped w e fate).state
untouched w e fate not keep = subst AllKeep (sym ((leaves_parts w e fate).nodes not)) keep

-- ---- the law
after : (w : State) (e : Event) (fate : Fate) → KeepStops w → KeepStops (stepped w e fate).state
after w (event.Take node reading) fate keep =
    post_kept (with_reading w reading) node _ (λ post. (take_on w.setup node reading fate post w.master).parts.0) (λ post. refl) (λ post. take_keeps w.setup node reading fate post w.master) keep
after w (event.Renew node reading) fate keep =
    post_kept (with_reading w reading) node _ (λ post. (renew_on w.setup node reading fate post w.master).parts.0) (λ post. refl) (λ post. renew_keeps w.setup node reading fate post w.master) keep
after w (event.Extend node) fate keep =
    post_kept w node _ (λ post. (extend_on w.setup node fate post w.master).parts.0) (λ post. refl) (λ post. extend_keeps w.setup node fate post w.master) keep
after w (event.Crash node) fate keep =
    post_kept w node _ (λ post. (crash_on node post w.clients).parts.0) (λ post. refl) (λ post. crash_keeps node post w.clients) keep
after w (event.Put node s) fate keep =
    post_kept w node _ (λ post. (put_on node s fate post w.pairs).parts.0) (λ post. refl) (λ post. put_keeps node s fate post w.pairs) keep
after w (event.AskBegin s node) fate keep =
    both_kept w node s _ (λ post c. (ask_begin_on s node c post).parts.1) (λ post c. refl) (λ post c. begin_keeps s node c post (begin_refusal c.entry.state)) keep
after w (event.AskCommit s node) fate keep =
    both_kept w node s _ (λ post c. (ask_commit_on s node c post).parts.1) (λ post c. refl) (λ post c. commit_keeps s node c post (work_refusal c.entry.state (is_reading c)) c.entry.start) keep
after w (event.Accept node s reading) fate keep =
    both_kept (with_reading w reading) node s _ (λ post c. (accept_on node s reading post c).parts.0) (λ post c. refl) (accept_keeps node s reading) keep
after w (event.Decide node s) fate keep =
    both_kept w node s _ (λ post c. (decide_on node s post c).parts.0) (λ post c. refl) (decide_keeps node s) keep
after w (event.Answer node s) fate keep =
    both_kept w node s _ (λ post c. (answer_on node s post c).parts.0) (λ post c. refl) (answer_keeps node s) keep
after w e fate keep = untouched w e fate refl keep

pub stops_kept : StopsAreKept
stops_kept = record { opening = λ setup. none_kept setup.nodes; after = after }
