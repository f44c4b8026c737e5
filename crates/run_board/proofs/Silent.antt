-- For this crate's own proofs.
-- A decision that found no stamp shows that none is left.
use Rattle.run_board.proofs.Names.{◌≡◌, ℕ, zero, suc, ◌+◌, ◌==◌, ◌||◌, Bool, true, false, cond, List, [], ◌∷◌, Option}
use Rattle.run_board.proofs.Names.{Some, None, Result, Ok, Err, refl, sym, ◌∙◌, ap, subst, ◌&&◌, slice_get}
use Rattle.run_board.proofs.Names.{slice_index_or, slice_set, list_any, true≢false, eqb-true, none-some, Fate, Cause}
use Rattle.run_board.proofs.Names.{Item, Verdict, Free, Conflict, Hidden, Decided, Held, Progress, InstanceEntry}
use Rattle.run_board.proofs.Names.{held_of, place_of_progress, InstanceStep, no_stamp_told, out_of_stamps, decide_drawn}
use Rattle.run_board.proofs.Names.{verdict_by, Client, State, Step, stepped, both_verdict, both_if_accepted, both_held}
use Rattle.run_board.proofs.Names.{decide_by, decide_request, decide_on, set_found, Interruption, halt_of, Place}
use Rattle.run_board.proofs.Names.{ReachedInvariant, Serving, node_step, on_both, is_accepted_by, session_view}
use Rattle.run_board.proofs.Names.{has_some, waits_told, IsToldUsedUp}
use Rattle.history_book.specs.declared.cause.Cause.TheVariants as cause
use Rattle.system_parts.specs.declared.instance.Place.TheVariants as place
use Rattle.system_parts.specs.declared.instance.Progress.TheVariants as progress
use Rattle.machine.specs.declared.event.Event.TheVariants as event
use Rattle.isolation_laws.specs.Words.{InstanceAt, ClientAt}
use Rattle.machine.specs.Fits.{StopOf}
use Rattle.command_semantics.specs.declared.point.Interruption.TheVariants as halt
use Rattle.command_semantics.proofs.Driving.{serving_at}

pub not_empty : (x : Item) (xs : List Item) → x ∷ xs ≡ [] → ⊥
not_empty x xs e = true≢false (ap has_some e)

-- ---- a decision that finds no stamp
-- what the instance leaves then, and why
pub record FoundNone (i : InstanceEntry) (s : ℕ) (held : Held) (left : InstanceEntry) : Type 0 where
  pub left_is : left ≡ no_stamp_told i s held
  pub used_up : i.last ≡ i.ceiling

abbrev FindsNone : InstanceEntry → ℕ → Held → InstanceStep Decided → Type 0
FindsNone i s held step = (last : ℕ) → step.answer ≡ Err (cause.NoStamp last) → FoundNone i s held step.left

abbrev is_no_stamp : Result Decided Cause → Bool
is_no_stamp (Err (cause.NoStamp last)) = true
is_no_stamp _ = false

finds_by_stop : (i : InstanceEntry) (s : ℕ) (held : Held) (stop : Option Cause) → StopOf stop → i.last ≡ i.ceiling → FindsNone i s held (out_of_stamps i s held stop)
finds_by_stop i s held None stops used last is = record { left_is = refl; used_up = used }
finds_by_stop i s held (Some (cause.Replaced found)) stops used last is = absurd (true≢false (sym (ap is_no_stamp is)))
finds_by_stop i s held (Some (cause.Spent ceiling)) stops used last is = absurd (true≢false (sym (ap is_no_stamp is)))
finds_by_stop i s held (Some _) stops used last is = absurd stops

finds_by_range : (i : InstanceEntry) (s : ℕ) (held : Held) → StopOf i.stop → (used : Bool) → i.last == i.ceiling ≡ used → FindsNone i s held (cond used (out_of_stamps i s held i.stop) (decide_drawn i s held (i.last + 1)))
finds_by_range i s held stops true used = finds_by_stop i s held i.stop stops (eqb-true i.last i.ceiling used)
finds_by_range i s held stops false used = λ last is. absurd (true≢false (sym (ap is_no_stamp is)))

finds_by : (i : InstanceEntry) (s : ℕ) (held : Held) (verdict : Verdict) → StopOf i.stop → FindsNone i s held (verdict_by i s held verdict)
finds_by i s held Free stops = finds_by_range i s held stops (i.last == i.ceiling) refl
finds_by i s held (Conflict key by) stops = λ last is. absurd (true≢false (sym (ap is_no_stamp is)))
finds_by i s held (Hidden key water) stops = λ last is. absurd (true≢false (sym (ap is_no_stamp is)))

-- ---- the decision as a step
abbrev decided : State → ℕ → ℕ → Held → Client → InstanceStep Decided → Step
decided w node s held c step = node_step w node s (decide_by node s held step.left c step.answer)

decided_is : (w : State) (node s : ℕ) (fate : Fate) (i : InstanceEntry) (held : Held) (c : Client) → InstanceAt w.nodes node i → ClientAt w.clients s c → held_of i s ≡ Some held → held.progress ≡ progress.Accepted → stepped w (event.Decide node s) fate ≡ decided w node s held c (verdict_by i s held (both_verdict i.buckets c.reads held.request))
decided_is w node s fate i held c at client_at has accepted =
    on_both w node s i c (decide_on node s) at client_at
    ∙ ap (λ (found : Option Held). node_step w node s (decide_request node s i c found)) has
    ∙ ap (λ (found : Option Held). decided w node s held c (both_held i s c.reads found)) has
    ∙ ap (λ (p : Progress). decided w node s held c (both_if_accepted i s c.reads held p)) accepted

-- ---- one of the requests
any_by : (P : Option Held → Bool) (held : Option Held) (others : List (Option Held)) (here : Bool) → P held ≡ here → list_any P others ≡ true → list_any P (held ∷ others) ≡ true
any_by P held others true here later = ap (λ (b : Bool). b || list_any P others) here
any_by P held others false here later = ap (λ (b : Bool). b || list_any P others) here ∙ later

pub any_held : (P : Option Held → Bool) (all : List (Option Held)) (s : ℕ) (held : Held) → slice_index_or all s None ≡ Some held → P (Some held) ≡ true → list_any P all ≡ true
any_held P [] s held has so = absurd (none-some held has)
any_held P (first ∷ others) zero held has so = ap (λ (b : Bool). b || list_any P others) (ap P has ∙ so)
any_held P (first ∷ others) (suc s) held has so = any_by P first others (P first) refl (any_held P others s held has so)

-- in the place of another
any_set : (P : Option Held → Bool) (all : List (Option Held)) (s : ℕ) (was now : Held) → slice_index_or all s None ≡ Some was → P (Some now) ≡ true → list_any P (slice_set all s (Some now)) ≡ true
any_set P [] s was now has so = absurd (none-some was has)
any_set P (first ∷ others) zero was now has so = ap (λ (b : Bool). b || list_any P others) so
any_set P (first ∷ others) (suc s) was now has so = any_by P first (slice_set others s (Some now)) (P first) refl (any_set P others s was now has so)

-- ---- where no stamp was found, none is left, and the request was told so
abbrev is_lack : Option Interruption → Bool
is_lack (Some halt.NoStamp) = true
is_lack _ = false

lacks_by : (w : State) (node s : ℕ) (held : Held) (i left : InstanceEntry) (c : Client) (answer : Result Decided Cause) → FindsNone i s held (record { left = left; answer = answer }) → held_of i s ≡ Some held → held.progress ≡ progress.Accepted → InstanceAt w.nodes node i → halt_of (decided w node s held c (record { left = left; answer = answer })).stop ≡ Some halt.NoStamp → IsToldUsedUp (slice_get (decided w node s held c (record { left = left; answer = answer })).state.nodes node)
lacks_by w node s held i left c (Ok drawn) finds has accepted at stopped = absurd (true≢false (sym (ap is_lack stopped)))
lacks_by w node s held i left c (Err (cause.NoStamp last)) finds has accepted at stopped =
    let found : FoundNone i s held left = finds last refl in
    let told : Held = record held { told_no_stamp = true } in
    let waits : list_any waits_told (slice_set i.requests s (Some told)) ≡ true = any_set waits_told i.requests s held told has (ap (λ (p : Progress). is_accepted_by p && true) accepted) in
    let used : IsToldUsedUp (Some (Some left)) = subst (λ (x : InstanceEntry). IsToldUsedUp (Some (Some x))) (sym found.left_is) (found.used_up, waits) in
    subst IsToldUsedUp (sym (set_found w.nodes node (Some left) (Some i) at)) used
lacks_by w node s held i left c (Err _) finds has accepted at stopped = absurd (true≢false (sym (ap is_lack stopped)))

pub decide_lacks : (w : State) (h : List Item) (node s : ℕ) (fate : Fate) (k : Serving w h s (node, place.Accepted)) → k.served.held.progress ≡ progress.Accepted → halt_of (stepped w (event.Decide node s) fate).stop ≡ Some halt.NoStamp → IsToldUsedUp (slice_get (stepped w (event.Decide node s) fate).state.nodes node)
decide_lacks w h node s fate k accepted =
    let i : InstanceEntry = k.served.holder.i in
    let held : Held = k.served.held in
    let step : InstanceStep Decided = verdict_by i s held (both_verdict i.buckets k.c.reads held.request) in
    let finds : FindsNone i s held step = finds_by i s held (both_verdict i.buckets k.c.reads held.request) (k.stands.sound.stops.stop node i k.served.holder.at) in
    subst (λ (x : Step). halt_of x.stop ≡ Some halt.NoStamp → IsToldUsedUp (slice_get x.state.nodes node)) (sym (decided_is w node s fate i held k.c k.served.holder.at k.client_at k.served.holder.has accepted)) (lacks_by w node s held i step.left k.c step.answer finds k.served.holder.has accepted k.served.holder.at)

-- ---- where a request stands
accepted_at : (p : Progress) → place_of_progress p ≡ place.Accepted → p ≡ progress.Accepted
accepted_at progress.Accepted is = refl
accepted_at progress.Asked is = absurd (cc)
accepted_at (progress.Drawn stamp) is = absurd (cc)
accepted_at (progress.Settled stamp how) is = absurd (cc)
accepted_at (progress.Handed stamp) is = absurd (cc)

pub serving : (w : State) (h : List Item) (node session : ℕ) (at : Place) → ReachedInvariant w h → (session_view w session).request ≡ Some (node, at) → Serving w h session (node, at)
serving w h node session at stands is = serving_at w h session (node, at) stands is

pub is_accepted : (w : State) (h : List Item) (node session : ℕ) (k : Serving w h session (node, place.Accepted)) → k.served.held.progress ≡ progress.Accepted
is_accepted w h node session k = accepted_at k.served.held.progress k.served.place_is
