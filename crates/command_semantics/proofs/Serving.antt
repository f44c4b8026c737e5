-- For run_board and grant_laws too.
-- An event that serves a request lowers what is left: what all of them have in common.
use Rattle.command_semantics.proofs.Names.{◌≡◌, ℕ, ◌+◌, ◌<◌, ◌≤◌, List, Option, Some, None, inl, inr, refl, sym, ◌∙◌}
use Rattle.command_semantics.proofs.Names.{ap, subst, arith, slice_get, slice_set, same_Some, none-some, Item, Held}
use Rattle.command_semantics.proofs.Names.{Place, InstanceEntry, held_of, with_request, place_of_progress, Client}
use Rattle.command_semantics.proofs.Names.{State, Effect, Step, step_by, with_post, with_client, on_request}
use Rattle.command_semantics.proofs.Names.{place_of, Verb, InstanceAt, ClientAt, ReachedInvariant, held_set, halt_of}
use Rattle.command_semantics.proofs.Names.{after_serving, of_client, client_completes, client_settles, client_ends}
use Rattle.command_semantics.proofs.Names.{lacks_stamps, place_left, drive_left, session_left}
use Rattle.command_semantics.proofs.Holders.{Served, Changed, drives_on, driven}
use Rattle.command_semantics.proofs.Clients.{client_now, settles_most}

-- what is left after a step that serves a request is less than it was to drive
abbrev pub Lowers : State → ℕ → Verb → Step → Type 0
Lowers w s verb step = session_left step.state s verb (after_serving (halt_of step.stop)) < drive_left w s

-- a request that is served: the state is reached, the node holds it, and its client is there
pub record Serving (w : State) (h : List Item) (s : ℕ) (request : ℕ × Place) : Type 0 where
  pub stands : ReachedInvariant w h
  pub at : place_of w s ≡ Some request
  pub served : Served w s request
  pub c : Client
  pub client_at : ClientAt w.clients s c

pub left_to_drive : (w : State) (h : List Item) (s : ℕ) (request : ℕ × Place) (k : Serving w h s request) → drive_left w s ≡ place_left (lacks_stamps k.served.holder.i) request.1 + client_ends k.c
left_to_drive w h s request k = driven w s request k.c k.served.holder.i k.at k.client_at k.served.holder.at

pub serving_changed : (w left : State) (h : List Item) (s : ℕ) (request : ℕ × Place) (k : Serving w h s request) (now : InstanceEntry) → left.nodes ≡ slice_set w.nodes request.0 (Some now) → Changed w left h request.0 s now
serving_changed w left h s request k now nodes = record { stands = k.stands; held = k.served.held; holder = k.served.holder; nodes = nodes }

-- ---- the step as an effect on the node and the client
abbrev pub node_step : State → ℕ → ℕ → Effect (Option InstanceEntry × Client) → Step
node_step u node s effect = step_by effect (λ (p : Option InstanceEntry × Client). with_client (with_post u node p.0) s p.1)

-- an event on a node and a client, both of which are there
pub on_both : (u : State) (node s : ℕ) (i : InstanceEntry) (c : Client) (f : Option InstanceEntry → Client → Effect (Option InstanceEntry × Client)) → InstanceAt u.nodes node i → ClientAt u.clients s c → on_request u node s f ≡ node_step u node s (f (Some i) c)
on_both u node s i c f at client_at = grind arith

-- ---- a request goes on
-- as it is held now by the instance, the client being what it was
pub goes_on : (w left : State) (h : List Item) (s : ℕ) (request : ℕ × Place) (k : Serving w h s request) (i now : InstanceEntry) (held : Held) → left.nodes ≡ slice_set w.nodes request.0 (Some now) → slice_get left.clients s ≡ Some k.c → now.requests ≡ (with_request i s (Some held)).requests → place_left (lacks_stamps now) (place_of_progress held.progress) + client_ends k.c < drive_left w s → drive_left left s < drive_left w s
goes_on w left h s request k i now held nodes client requests less =
    drives_on w left h request.0 s now (drive_left w s) (serving_changed w left h s request k now nodes) (λ (other : Held) has. elim (held_set i s s (Some held) other (ap (λ (held_now : List (Option Held)). held_of (record i { requests = held_now }) s) (sym requests) ∙ has)) [
      | inl here ↦ subst (λ (x : Held). place_left (lacks_stamps now) (place_of_progress x.progress) + of_client (slice_get left.clients s) client_ends < drive_left w s) (same_Some held other here.1) (subst (λ (found : Option Client). place_left (lacks_stamps now) (place_of_progress held.progress) + of_client found client_ends < drive_left w s) (sym client) less)
      | inr there ↦ absurd (there.0 refl)
    ]) (subst (λ (found : Option Client). of_client found client_settles < drive_left w s) (sym client) (omega (arith, settles_most k.c, less)))

-- ---- a request ends
-- a number of a client whose request is over
pub ends_by : (f : Client → ℕ) (w left : State) (s : ℕ) (c now : Client) → ClientAt w.clients s c → left.clients ≡ slice_set w.clients s now → f now ≤ client_ends c → client_ends c < drive_left w s → of_client (slice_get left.clients s) f < drive_left w s
ends_by f w left s c now at clients fewer less = grind (arith, client_now)

-- it completes at most its keys
pub ends_so : (w left : State) (s : ℕ) (c now : Client) → ClientAt w.clients s c → left.clients ≡ slice_set w.clients s now → client_completes now ≤ client_ends c → client_ends c < drive_left w s → of_client (slice_get left.clients s) client_completes < drive_left w s
ends_so w left s c now at clients fewer less = ends_by client_completes w left s c now at clients fewer less

-- with a placing and a completion that may follow
pub is_over : (w left : State) (h : List Item) (s : ℕ) (request : ℕ × Place) (k : Serving w h s request) (i : InstanceEntry) (now : Client) → left.nodes ≡ slice_set w.nodes request.0 (Some (with_request i s None)) → left.clients ≡ slice_set w.clients s now → client_settles now ≤ client_ends k.c → client_ends k.c < drive_left w s → drive_left left s < drive_left w s
is_over w left h s request k i now nodes clients fewer less =
    drives_on w left h request.0 s (with_request i s None) (drive_left w s) (serving_changed w left h s request k (with_request i s None) nodes) (λ (other : Held) has. elim (held_set i s s None other has) [
      | inl here ↦ absurd (none-some other here.1)
      | inr there ↦ absurd (there.0 refl)
    ]) (ends_by client_settles w left s k.c now k.client_at clients fewer less)
