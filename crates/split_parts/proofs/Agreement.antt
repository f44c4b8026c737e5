-- Parts that agree may make their event, and the call that it asks of a store is one that was counted.
use Rattle.split_parts.proofs.Names.{◌≡◌, ℕ, zero, suc, ◌≤◌, Bool, List, [], ◌∷◌, Option, Some, None, refl, arith, All}
use Rattle.split_parts.proofs.Names.{slice_index_or, Store, Cause, SessionEntry, begin_refusal, work_refusal}
use Rattle.split_parts.proofs.Names.{InstanceEntry, held_of, Client, is_reading, Waits, WaitsFor, WaitsAt, take_asks}
use Rattle.split_parts.proofs.Names.{renew_asks, extend_asks, put_asks, commit_asks, to_place, open_asks, write_asks}
use Rattle.split_parts.proofs.Names.{write_refused, epoch_asks, fetch_asks, fetch_refused, heal_asks, offer_asks}
use Rattle.split_parts.proofs.Names.{offer_of, asks_at_post, asks_at_client, CanMake, timed_by, asked_of, Agrees}
use Rattle.split_parts.proofs.Names.{CallsFit, HasAsked, HasAskedIf, HasAskedAt, store_by, Parts, filled}
use Rattle.std.proofs.Common.{slice_get}
use Rattle.std.specs.Option.{option_or}
use Rattle.std.proofs.lemmas.List.Elements.{All-head, All-tail}
use Rattle.stamp_base.specs.declared.stores.Store.TheVariants as store
use Rattle.system_parts.specs.declared.session.State as state
use Rattle.system_parts.specs.declared.instance.Held.{Held}
use Rattle.system_parts.specs.declared.instance.Request.{Request}
use Rattle.system_parts.specs.declared.instance.Request.TheVariants.{Begin, Commit}
use Rattle.split_parts.specs.declared.event.Event.{Event}
use Rattle.split_parts.specs.declared.event.Event.TheVariants as event

-- ---- states
begins_free : (s : state.State) → begin_refusal s ≡ None → s ≡ state.TheVariants.Free
begins_free state.TheVariants.Free may = refl
begins_free state.TheVariants.Asking may = absurd (cc)
begins_free state.TheVariants.Open may = absurd (cc)
begins_free state.TheVariants.Committing may = absurd (cc)
begins_free state.TheVariants.Placing may = absurd (cc)
begins_free state.TheVariants.OpenOutcome may = absurd (cc)
begins_free (state.TheVariants.Completing undo) may = absurd (cc)
begins_free state.TheVariants.Gone may = absurd (cc)

works_open : (s : state.State) (reading : Bool) → work_refusal s reading ≡ None → s ≡ state.TheVariants.Open
works_open state.TheVariants.Free reading may = absurd (cc)
works_open state.TheVariants.Asking reading may = absurd (cc)
works_open state.TheVariants.Open reading may = refl
works_open state.TheVariants.Committing reading may = absurd (cc)
works_open state.TheVariants.Placing reading may = absurd (cc)
works_open state.TheVariants.OpenOutcome reading may = absurd (cc)
works_open (state.TheVariants.Completing undo) reading may = absurd (cc)
works_open state.TheVariants.Gone reading may = absurd (cc)

first_none : (a b : Option Cause) → option_or a b ≡ None → a ≡ None
first_none None b none = refl
first_none (Some why) b none = absurd (cc)

-- ---- a session that has asked for just that request waits for it
waits : (r : Request) (e : SessionEntry) → HasAsked r e → Waits r e
waits (Begin session) e asked = asked
waits (Commit session start keys) e asked = λ there. (asked there).0

waits_if : (held : Option Held) (e : SessionEntry) → HasAskedIf held e → WaitsFor held e
waits_if None e asked = tt
waits_if (Some held) e asked = waits held.request e asked

waits_at : (post : Option InstanceEntry) (session : ℕ) (e : SessionEntry) → HasAskedAt post session e → WaitsAt post session e
waits_at None session e asked = tt
waits_at (Some i) session e asked = waits_if (held_of i session) e asked

-- ---- the event may be made
lead_few : (leads : List ℕ) (node : ℕ) → All (λ lead. lead ≤ 1000000) leads → slice_index_or leads node 0 ≤ 1000000
lead_few [] node few = omega arith
lead_few (lead ∷ leads) zero few = All-head (λ lead. lead ≤ 1000000) lead leads few
lead_few (lead ∷ leads) (suc node) few = lead_few leads node (All-tail (λ lead. lead ≤ 1000000) lead leads few)

pub can_make : (l : Parts) (e : Event) → Agrees l e → All (λ lead. lead ≤ 1000000) l.plan.leads → CanMake (filled l) (timed_by l e)
can_make l (event.Take node) agrees few = omega (arith, agrees.clock, lead_few l.plan.leads node few)
can_make l (event.Renew node) agrees few = omega (arith, agrees.clock, lead_few l.plan.leads node few)
can_make l (event.Extend node) agrees few = agrees.parts
can_make l (event.Crash node) agrees few = λ session post c at there. waits_at post session c.entry (agrees.parts session post c at there)
can_make l (event.AskBegin session to) agrees few = λ c post there at may. agrees.parts c post there at (begins_free c.entry.state may)
can_make l (event.AskCommit session to) agrees few = λ c post there at may. agrees.parts c post there at (works_open c.entry.state (is_reading c) may)
can_make l (event.Accept node session) agrees few = λ post c at there. waits_at post session c.entry (agrees.parts post c at there)
can_make l (event.Decide node session) agrees few = λ post c at there. waits_at post session c.entry (agrees.parts post c at there)
can_make l (event.Answer node session) agrees few = λ post c at there. waits_at post session c.entry (agrees.parts post c at there)
can_make l (event.Write session key value) agrees few = λ c there may. agrees.parts c there (works_open c.entry.state (is_reading c) (first_none _ _ may))
can_make l (event.Step session) agrees few = agrees.parts
can_make l (event.Heal session) agrees few = agrees.parts
can_make l event.SweepStep agrees few = agrees.parts
can_make l _ agrees few = tt

-- ---- the store that is asked, where one is
-- none, or this one
abbrev pub IsAtMost : Store → Option Store → Type 0
IsAtMost store None = Unit {0}
IsAtMost store (Some asked) = asked ≡ store

fits_most : (l : Parts) (s : Store) (asked : Option Store) → IsAtMost s asked → CallsFit l (Some s) → CallsFit l asked
fits_most l s None most fit = tt
fits_most l s (Some asked) most fit = rw most fit

post_most : (s : Store) (found : Option (Option InstanceEntry)) (f : Option InstanceEntry → Option Store) → ((post : Option InstanceEntry) → IsAtMost s (f post)) → IsAtMost s (asks_at_post found f)
post_most s None f most = tt
post_most s (Some post) f most = most post

client_most : (s : Store) (found : Option Client) (f : Client → Option Store) → ((c : Client) → IsAtMost s (f c)) → IsAtMost s (asks_at_client found f)
client_most s None f most = tt
client_most s (Some c) f most = most c

take_most : (post : Option InstanceEntry) → IsAtMost store.Master (take_asks post)
take_most None = refl
take_most (Some i) = tt

renew_most : (post : Option InstanceEntry) → IsAtMost store.Master (renew_asks post)
renew_most None = tt
renew_most (Some i) = refl

extend_most : (post : Option InstanceEntry) → IsAtMost store.Master (extend_asks post)
extend_most None = tt
extend_most (Some i) = refl

commit_most : (stamps : Option (ℕ × ℕ)) → IsAtMost store.Table (commit_asks stamps)
commit_most None = tt
commit_most (Some stamps) = refl

put_most : (session : ℕ) (post : Option InstanceEntry) → IsAtMost store.Table (put_asks session post)
put_most session None = tt
put_most session (Some i) = commit_most (to_place (held_of i session))

open_most : (why : Option Cause) (start : Option ℕ) → IsAtMost store.Cells (open_asks why start)
open_most None None = tt
open_most None (Some start) = refl
open_most (Some why) start = tt

epoch_most : (epoch : Option ℕ) (asked : Option Store) → IsAtMost store.Cells asked → IsAtMost store.Cells (epoch_asks epoch asked)
epoch_most None asked most = tt
epoch_most (Some epoch) asked most = most

offer_most : (offer : Option (ℕ × ℕ × ℕ)) → IsAtMost store.Cells (offer_asks offer)
offer_most None = tt
offer_most (Some offer) = refl

pub calls_fit : (l : Parts) (e : Event) → CallsFit l (store_by l e) → CallsFit l (asked_of l (timed_by l e))
calls_fit l (event.Take node) fit = fits_most l store.Master _ (post_most store.Master (slice_get (filled l).nodes node) take_asks take_most) fit
calls_fit l (event.Renew node) fit = fits_most l store.Master _ (post_most store.Master (slice_get (filled l).nodes node) renew_asks renew_most) fit
calls_fit l (event.Extend node) fit = fits_most l store.Master _ (post_most store.Master (slice_get (filled l).nodes node) extend_asks extend_most) fit
calls_fit l (event.Put node session) fit = fits_most l store.Table _ (post_most store.Table (slice_get (filled l).nodes node) (put_asks session) (put_most session)) fit
calls_fit l (event.Write session key value) fit = fits_most l store.Cells _ (client_most store.Cells (slice_get (filled l).clients session) (write_asks key) (λ c. open_most (write_refused c key) c.entry.start)) fit
calls_fit l (event.Fetch session key) fit = fits_most l store.Cells _ (client_most store.Cells (slice_get (filled l).clients session) (fetch_asks (filled l).setup key) (λ c. epoch_most c.entry.epoch _ (open_most (fetch_refused (filled l).setup c key) c.entry.start))) fit
calls_fit l (event.Heal session) fit = fits_most l store.Cells _ (client_most store.Cells (slice_get (filled l).clients session) heal_asks (λ c. offer_most (offer_of c))) fit
calls_fit l _ fit = fit
