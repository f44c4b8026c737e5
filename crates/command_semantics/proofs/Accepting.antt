-- An accept lowers what is left.
use Rattle.command_semantics.proofs.Names.{◌≡◌, ℕ, ◌+◌, ◌<◌, ◌≤◌, nat_lt, Bool, true, false, cond, List, Option, Some}
use Rattle.command_semantics.proofs.Names.{None, ◌⊎◌, inl, inr, refl, sym, subst, arith, slice_get, slice_set}
use Rattle.command_semantics.proofs.Names.{Fate, Cause, Item, Held, Request, Begin, Commit, InstanceEntry}
use Rattle.command_semantics.proofs.Names.{held_of, moved, epoch_refusal, accept_refusal, accept_unless}
use Rattle.command_semantics.proofs.Names.{Client, State, Effect, after_refusal, Step}
use Rattle.command_semantics.proofs.Names.{with_post, with_client, with_reading, stepped, accept_by}
use Rattle.command_semantics.proofs.Names.{Verb, InstanceAt, ClientAt, set_found, of_client}
use Rattle.command_semantics.proofs.Names.{client_completes, client_ends, lacks_stamps, place_left, drive_left}
use Rattle.std.proofs.Common.{nat_le}
use Rattle.history_book.specs.declared.cause.Cause.TheVariants as cause
use Rattle.system_parts.specs.declared.instance.Place.TheVariants as place
use Rattle.system_parts.specs.declared.instance.Progress.TheVariants as progress
use Rattle.machine.specs.declared.event.Event.TheVariants as event
use Rattle.command_semantics.proofs.Clients.{refused_left}
use Rattle.command_semantics.proofs.Serving.{Lowers, Serving, left_to_drive, node_step, goes_on, ends_so}

-- why an accept is refused
abbrev pub AcceptWhy : Option Cause → Type 0
AcceptWhy why = (why ≡ None) ⊎ ((a : ℕ) × (b : ℕ) × (why ≡ Some (cause.Expired a b))) ⊎ ((a : ℕ) × (b : ℕ) × (why ≡ Some (cause.OldEpoch a b)))

epoch_why : (i : InstanceEntry) (request : Request) → AcceptWhy (epoch_refusal i request)
epoch_why i (Begin session) = inl refl
epoch_why i (Commit session start keys) = old_or_not start i.epoch (nat_le start i.epoch) where
  old_or_not : (start epoch : ℕ) (old : Bool) → AcceptWhy (cond old (Some (cause.OldEpoch start epoch)) None)
  old_or_not start epoch true = inr (inr (start, epoch, refl))
  old_or_not start epoch false = inl refl

accept_why : (i : InstanceEntry) (reading : ℕ) (request : Request) → AcceptWhy (accept_refusal i reading request)
accept_why i reading request = in_time_or_not (epoch_refusal i request) (nat_lt reading i.until) (epoch_why i request) where
  in_time_or_not : (why : Option Cause) (in_time : Bool) → AcceptWhy why → AcceptWhy (cond in_time why (Some (cause.Expired reading i.until)))
  in_time_or_not why true is = is
  in_time_or_not why false is = inr (inl (reading, i.until, refl))

abbrev accept_effect : ℕ → ℕ → ℕ → InstanceEntry → Held → Client → Option Cause → Effect (Option InstanceEntry × Client)
accept_effect node s reading i held c why = accept_by node s reading held.request (accept_unless i s held why).left c (accept_unless i s held why).answer

accept_is : (w : State) (node s reading : ℕ) (fate : Fate) (i : InstanceEntry) (held : Held) (c : Client) → InstanceAt w.nodes node i → ClientAt w.clients s c → held_of i s ≡ Some held → held.progress ≡ progress.Asked → stepped w (event.Accept node s reading) fate ≡ node_step (with_reading w reading) node s (accept_effect node s reading i held c (accept_refusal i reading held.request))
accept_is w node s reading fate i held c at client_at has asked = grind arith

-- what an accept can leave to do
accepted_most : (lacks : Bool) → place_left lacks place.Accepted ≤ 5
accepted_most lacks = grind arith

-- the request has ended
accept_ends : (w : State) (h : List Item) (node s reading : ℕ) (k : Serving w h s (node, place.Asked)) → of_client (slice_get (slice_set w.clients s (after_refusal k.served.held.request k.c)) s) client_completes < drive_left w s
accept_ends w h node s reading k =
    let now : Client = after_refusal k.served.held.request k.c in
    let full : drive_left w s ≡ 6 + client_ends k.c = left_to_drive w h s (node, place.Asked) k in
    let less : client_ends k.c < drive_left w s = omega (arith, full) in
    ends_so w (with_client w s now) s k.c now k.client_at refl (refused_left k.served.held.request k.c) less

-- the request goes on, or has ended with the refusal
accepted : (w : State) (h : List Item) (node s reading : ℕ) (verb : Verb) (k : Serving w h s (node, place.Asked)) (why : Option Cause) → AcceptWhy why → Lowers w s verb (node_step (with_reading w reading) node s (accept_effect node s reading k.served.holder.i k.served.held k.c why))
accepted w h node s reading verb k why (inl none) =
    let held : Held = k.served.held in
    let i : InstanceEntry = k.served.holder.i in
    let now : InstanceEntry = moved i s held progress.Accepted in
    let left : State = with_client (with_post (with_reading w reading) node (Some now)) s k.c in
    let full : drive_left w s ≡ 6 + client_ends k.c = left_to_drive w h s (node, place.Asked) k in
    let less : place_left (lacks_stamps now) place.Accepted + client_ends k.c < drive_left w s = omega (arith, full, accepted_most (lacks_stamps now)) in
    subst (λ (x : Option Cause). Lowers w s verb (node_step (with_reading w reading) node s (accept_effect node s reading i held k.c x))) (sym none) (goes_on w left h s (node, place.Asked) k i now (record held { progress = progress.Accepted }) refl (set_found w.clients s k.c k.c k.client_at) refl less)
accepted w h node s reading verb k why (inr (inl (a, b, is))) = subst (λ (x : Option Cause). Lowers w s verb (node_step (with_reading w reading) node s (accept_effect node s reading k.served.holder.i k.served.held k.c x))) (sym is) (accept_ends w h node s reading k)
accepted w h node s reading verb k why (inr (inr (a, b, is))) = subst (λ (x : Option Cause). Lowers w s verb (node_step (with_reading w reading) node s (accept_effect node s reading k.served.holder.i k.served.held k.c x))) (sym is) (accept_ends w h node s reading k)

pub accept_lowers : (w : State) (h : List Item) (node s reading : ℕ) (fate : Fate) (verb : Verb) (k : Serving w h s (node, place.Asked)) → k.served.held.progress ≡ progress.Asked → Lowers w s verb (stepped w (event.Accept node s reading) fate)
accept_lowers w h node s reading fate verb k asked =
    let i : InstanceEntry = k.served.holder.i in
    subst (λ (step : Step). Lowers w s verb step) (sym (accept_is w node s reading fate i k.served.held k.c k.served.holder.at k.client_at k.served.holder.has asked)) (accepted w h node s reading verb k (accept_refusal i reading k.served.held.request) (accept_why i reading k.served.held.request))
