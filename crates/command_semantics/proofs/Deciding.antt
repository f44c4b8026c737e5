-- A decision lowers what is left: the request has drawn, has ended, or its node is to extend the range.
use Rattle.command_semantics.proofs.Names.{◌≡◌, ℕ, ◌+◌, ◌<◌, ◌≤◌, ◌==◌, Bool, true, false, cond, List, Option}
use Rattle.command_semantics.proofs.Names.{Some, None, refl, sym, subst, arith, slice_get, slice_set}
use Rattle.command_semantics.proofs.Names.{Fate, Cause, Item, Verdict, Free, Conflict, Hidden, Decided, Held}
use Rattle.command_semantics.proofs.Names.{Request, InstanceEntry, held_of, place_of_progress, Client}
use Rattle.command_semantics.proofs.Names.{State, Effect, after_refusal, Step, with_post, with_client, stepped, Verb}
use Rattle.command_semantics.proofs.Names.{InstanceAt, ClientAt, set_found, of_client, client_completes, client_ends}
use Rattle.command_semantics.proofs.Names.{lacks_stamps, place_left, drive_left, InstanceStep, IsStop, out_of_stamps}
use Rattle.command_semantics.proofs.Names.{drawn_as, decide_drawn, verdict_by, both_verdict}
use Rattle.command_semantics.proofs.Names.{decide_by, StopOf}
use Rattle.history_book.specs.declared.cause.Cause.TheVariants as cause
use Rattle.system_parts.specs.declared.instance.Place.TheVariants as place
use Rattle.system_parts.specs.declared.instance.Progress.TheVariants as progress
use Rattle.machine.specs.declared.event.Event.TheVariants as event
use Rattle.command_semantics.proofs.Clients.{client_now, refused_left}
use Rattle.command_semantics.proofs.Serving.{Lowers, Serving, left_to_drive, node_step, goes_on, ends_so}

-- an effect of the decision that the instance makes
abbrev decide_effect : ℕ → ℕ → Held → Client → InstanceStep Decided → Effect (Option InstanceEntry × Client)
decide_effect node s held c step = decide_by node s held step.left c step.answer

decide_is : (w : State) (node s : ℕ) (fate : Fate) (i : InstanceEntry) (held : Held) (c : Client) → InstanceAt w.nodes node i → ClientAt w.clients s c → held_of i s ≡ Some held → held.progress ≡ progress.Accepted → stepped w (event.Decide node s) fate ≡ node_step w node s (decide_effect node s held c (verdict_by i s held (both_verdict i.buckets c.reads held.request)))
decide_is w node s fate i held c at client_at has accepted = grind arith

-- what a decision takes at least
still : (w : State) (h : List Item) (s : ℕ) (node : ℕ) (k : Serving w h s (node, place.Accepted)) → 3 + client_ends k.c ≤ drive_left w s
still w h s node k = grind (arith, left_to_drive)

-- the request has ended
decide_ends : (w : State) (h : List Item) (node s : ℕ) (k : Serving w h s (node, place.Accepted)) → of_client (slice_get (slice_set w.clients s (after_refusal k.served.held.request k.c)) s) client_completes < drive_left w s
decide_ends w h node s k =
    let now : Client = after_refusal k.served.held.request k.c in
    let less : client_ends k.c < drive_left w s = omega (arith, still w h s node k) in
    ends_so w (with_client w s now) s k.c now k.client_at refl (refused_left k.served.held.request k.c) less

-- how far it has come once it is drawn
drawn_most : (lacks direct : Bool) (request : Request) (stamp : ℕ) → place_left lacks (place_of_progress (drawn_as direct request stamp)) ≤ 2
drawn_most lacks direct request stamp = grind arith

-- it has its stamp
drawn : (w : State) (h : List Item) (node s : ℕ) (verb : Verb) (k : Serving w h s (node, place.Accepted)) (stamp : ℕ) → Lowers w s verb (node_step w node s (decide_effect node s k.served.held k.c (decide_drawn k.served.holder.i s k.served.held stamp)))
drawn w h node s verb k stamp =
    let i : InstanceEntry = k.served.holder.i in
    let now : InstanceEntry = (decide_drawn i s k.served.held stamp).left in
    let left : State = with_client (with_post w node (Some now)) s k.c in
    let request : Request = k.served.held.request in
    let less : place_left (lacks_stamps now) (place_of_progress (drawn_as i.direct request stamp)) + client_ends k.c < drive_left w s = omega (arith, drawn_most (lacks_stamps now) i.direct request stamp, still w h s node k) in
    goes_on w left h s (node, place.Accepted) k i now (record k.served.held { progress = drawn_as i.direct request stamp }) refl (set_found w.clients s k.c k.c k.client_at) refl less

-- no stamp is left, and no refusal is kept
unstamped : (w : State) (h : List Item) (node s : ℕ) (verb : Verb) (k : Serving w h s (node, place.Accepted)) → (k.served.holder.i.last == k.served.holder.i.ceiling) ≡ true → k.served.holder.i.stop ≡ None → Lowers w s verb (node_step w node s (decide_effect node s k.served.held k.c (out_of_stamps k.served.holder.i s k.served.held None)))
unstamped w h node s verb k used none = grind (arith, left_to_drive, client_now)

-- a refusal that is kept ends the request
stopped : (w : State) (h : List Item) (node s : ℕ) (verb : Verb) (k : Serving w h s (node, place.Accepted)) (why : Cause) → IsStop why → Lowers w s verb (node_step w node s (decide_effect node s k.served.held k.c (out_of_stamps k.served.holder.i s k.served.held (Some why))))
stopped w h node s verb k (cause.Replaced found) is = decide_ends w h node s k
stopped w h node s verb k (cause.Spent ceiling) is = decide_ends w h node s k
stopped w h node s verb k _ is = absurd is

out : (w : State) (h : List Item) (node s : ℕ) (verb : Verb) (k : Serving w h s (node, place.Accepted)) → (k.served.holder.i.last == k.served.holder.i.ceiling) ≡ true → (stop : Option Cause) → k.served.holder.i.stop ≡ stop → StopOf stop → Lowers w s verb (node_step w node s (decide_effect node s k.served.held k.c (out_of_stamps k.served.holder.i s k.served.held stop)))
out w h node s verb k used None is kept = unstamped w h node s verb k used is
out w h node s verb k used (Some why) is kept = stopped w h node s verb k why kept

free : (w : State) (h : List Item) (node s : ℕ) (verb : Verb) (k : Serving w h s (node, place.Accepted)) (used : Bool) → (k.served.holder.i.last == k.served.holder.i.ceiling) ≡ used → Lowers w s verb (node_step w node s (decide_effect node s k.served.held k.c (cond used (out_of_stamps k.served.holder.i s k.served.held k.served.holder.i.stop) (decide_drawn k.served.holder.i s k.served.held (k.served.holder.i.last + 1)))))
free w h node s verb k true is = out w h node s verb k is k.served.holder.i.stop refl (k.stands.sound.stops.stop node k.served.holder.i k.served.holder.at)
free w h node s verb k false is = drawn w h node s verb k (k.served.holder.i.last + 1)

decided : (w : State) (h : List Item) (node s : ℕ) (verb : Verb) (k : Serving w h s (node, place.Accepted)) (verdict : Verdict) → Lowers w s verb (node_step w node s (decide_effect node s k.served.held k.c (verdict_by k.served.holder.i s k.served.held verdict)))
decided w h node s verb k Free = free w h node s verb k (k.served.holder.i.last == k.served.holder.i.ceiling) refl
decided w h node s verb k (Conflict key by) = decide_ends w h node s k
decided w h node s verb k (Hidden key water) = decide_ends w h node s k

pub decide_lowers : (w : State) (h : List Item) (node s : ℕ) (fate : Fate) (verb : Verb) (k : Serving w h s (node, place.Accepted)) → k.served.held.progress ≡ progress.Accepted → Lowers w s verb (stepped w (event.Decide node s) fate)
decide_lowers w h node s fate verb k accepted =
    let i : InstanceEntry = k.served.holder.i in
    subst (λ (step : Step). Lowers w s verb step) (sym (decide_is w node s fate i k.served.held k.c k.served.holder.at k.client_at k.served.holder.has accepted)) (decided w h node s verb k (both_verdict i.buckets k.c.reads k.served.held.request))
