-- Every outcome keeps that a node holds the request of each session that waits for the end of its commit.
use Rattle.std.proofs.Common.{arith}
use Rattle.request_completion.proofs.Names.{◌≡◌, ℕ, ◌<◌, Bool, true, false, List, length, Option, None, Some}
use Rattle.request_completion.proofs.Names.{inl, inr, sym, ◌∙◌, ap, subst, slice_set, cases_eq, cases_lt}
use Rattle.request_completion.proofs.Names.{get_or_past, same_Some, none-some, Item}
use Rattle.request_completion.proofs.Names.{Held, Request, Begin, Commit, Settled, InstanceEntry, held_of}
use Rattle.request_completion.proofs.Names.{with_request, without_request, instance_stopped, held_of-with_request_same}
use Rattle.request_completion.proofs.Names.{held_of-with_request_other, Client, State, client_begun, client_freed}
use Rattle.request_completion.proofs.Names.{client_aborted, client_handed, unless_gone}
use Rattle.request_completion.proofs.Names.{after_refusal, crashed_client, InstanceAt, ClientAt, set_found}
use Rattle.request_completion.proofs.Names.{set_other, client_set, one_instance, StillBy, RestsBy, Stops, TellsOne}
use Rattle.request_completion.proofs.Names.{Granted, granted_nodes, Renewed, renewed_nodes, Extended, extended_nodes}
use Rattle.request_completion.proofs.Names.{Crashed, crashed_state, AtDrawn, settled_nodes, answered_client, Outcome}
use Rattle.request_completion.proofs.Names.{OfStill, OfGranted, OfRenewed, OfExtended, OfCrashed, OfAskedBegin}
use Rattle.request_completion.proofs.Names.{OfAskedCommit, OfAccepted, OfEnded, OfDrew, OfPlaced, OfNotPlaced}
use Rattle.request_completion.proofs.Names.{OfAnsweredBegin, OfAnsweredCommit, OfHanded, left_by, IsHeld}
use Rattle.system_parts.specs.declared.session.State.TheVariants as phase
use Rattle.system_parts.specs.declared.instance.Settled.TheVariants as how
use Rattle.request_completion.proofs.CrashedClients.{crashed_is}

-- ---- one node is set
-- a request of the session is held there, if one was
abbrev HoldsToo : InstanceEntry → InstanceEntry → ℕ → Type 0
HoldsToo i j s = (held : Held) → held_of i s ≡ Some held → (later : Held) × (held_of j s ≡ Some later)

put_held : (nodes : List (Option InstanceEntry)) (m s : ℕ) (i j : InstanceEntry) → InstanceAt nodes m i → HoldsToo i j s → IsHeld nodes s → IsHeld (slice_set nodes m (Some j)) s
put_held nodes m s i j at keeps k = elim (cases_eq k.node m) [
  | inl same ↦
      let here : k.i ≡ i = one_instance nodes m k.i i (subst (λ (q : ℕ). InstanceAt nodes q k.i) same k.at) at in
      let later : (x : Held) × (held_of j s ≡ Some x) = keeps k.held (subst (λ (x : InstanceEntry). held_of x s ≡ Some k.held) here k.has) in
      record { node = m; i = j; held = later.0; at = set_found nodes m (Some j) (Some i) at; has = later.1 }
  | inr other ↦ record { node = k.node; i = k.i; held = k.held; at = set_other nodes m k.node (Some j) other ∙ k.at; has = k.has }
]

other_held : (nodes : List (Option InstanceEntry)) (m s : ℕ) (post : Option InstanceEntry) (k : IsHeld nodes s) → (k.node ≡ m → ⊥) → IsHeld (slice_set nodes m post) s
other_held nodes m s post k other = record { node = k.node; i = k.i; held = k.held; at = set_other nodes m k.node post other ∙ k.at; has = k.has }

-- ---- one request is set
within : (i : InstanceEntry) (s : ℕ) (held : Held) → held_of i s ≡ Some held → s < length i.requests
within i s held has = elim (cases_lt s (length i.requests)) [
  | inl less ↦ less
  | inr past ↦ absurd (none-some held (sym (get_or_past i.requests s None past) ∙ has))
]

holds_with : (i : InstanceEntry) (r s : ℕ) (now : Held) → HoldsToo i (with_request i r (Some now)) s
holds_with i r s now held has = elim (cases_eq s r) [
  | inl same ↦ (now, subst (λ (q : ℕ). held_of (with_request i q (Some now)) s ≡ Some now) same (held_of-with_request_same i s (Some now) (within i s held has)))
  | inr other ↦ (held, held_of-with_request_other i r s (Some now) other ∙ has)
]

holds_without : (i : InstanceEntry) (r s : ℕ) → (s ≡ r → ⊥) → HoldsToo i (without_request i r) s
holds_without i r s other held has = (held, held_of-with_request_other i r s None other ∙ has)

holds_same : (i : InstanceEntry) (s : ℕ) → HoldsToo i i s
holds_same i s held has = (held, has)

-- ---- the record's outcomes
still_held : (w : State) (nodes : List (Option InstanceEntry)) (items : List Item) (s : ℕ) → StillBy w nodes items → IsHeld w.nodes s → IsHeld nodes s
still_held w nodes items s (RestsBy same plain) k = subst (λ (xs : List (Option InstanceEntry)). IsHeld xs s) (sym same) k
still_held w nodes items s (Stops stop leaves tells) k = subst (λ (xs : List (Option InstanceEntry)). IsHeld xs s) (sym leaves) (put_held w.nodes stop.node s stop.i (instance_stopped stop.i stop.why) stop.at (holds_same stop.i s) k)
still_held w nodes items s (TellsOne told leaves tells) k =
    subst (λ (xs : List (Option InstanceEntry)). IsHeld xs s) (sym leaves) (put_held w.nodes told.it.node s told.it.i (with_request told.it.i told.it.session (Some told.told)) told.it.at (holds_with told.it.i told.it.session s told.told) k)

vacant_not : (w : State) (g : Granted w) (s : ℕ) (k : IsHeld w.nodes s) → k.node ≡ g.node → ⊥
vacant_not w g s k same = none-some k.i (same_Some None (Some k.i) (sym g.vacant ∙ subst (λ (q : ℕ). InstanceAt w.nodes q k.i) same k.at))

granted_held : (w : State) (g : Granted w) (s : ℕ) (failed : Bool) → IsHeld w.nodes s → IsHeld (granted_nodes w g failed) s
granted_held w g s true k = k
granted_held w g s false k = other_held w.nodes g.node s _ k (vacant_not w g s k)

renewed_held : (w : State) (g : Renewed w) (s : ℕ) (failed : Bool) → IsHeld w.nodes s → IsHeld (renewed_nodes w g failed) s
renewed_held w g s true k = k
renewed_held w g s false k = put_held w.nodes g.node s g.i _ g.at (holds_same g.i s) k

extended_held : (w : State) (g : Extended w) (s : ℕ) (failed : Bool) → IsHeld w.nodes s → IsHeld (extended_nodes w g failed) s
extended_held w g s true k = k
extended_held w g s false k = put_held w.nodes g.node s g.i _ g.at (holds_same g.i s) k

-- ---- whoever waits on was not answered
heard_not : (old new : Client) → (new.entry.state ≡ phase.Committing → ⊥) → (unless_gone old new).entry.state ≡ phase.Committing → ⊥
heard_not old new not waits = grind arith

pub aborted_not : (c : Client) → (client_aborted c).entry.state ≡ phase.Committing → ⊥
aborted_not c waits = grind arith

refused_not : (request : Request) (c : Client) → (after_refusal request c).entry.state ≡ phase.Committing → ⊥
refused_not (Begin asker) c waits = heard_not c (client_freed c) (λ is. cc) waits
refused_not (Commit asker start keys) c waits = heard_not c (client_aborted c) (aborted_not c) waits

answered_not : (by : Settled) (c : Client) (commit : ℕ) → (answered_client by c commit).entry.state ≡ phase.Committing → ⊥
answered_not how.Placed c commit waits = cc
answered_not how.Invalid c commit waits = aborted_not c waits
answered_not how.Faulted c commit waits = cc

-- a session that waits on is not the one that is set
not_set : (w : State) (r s : ℕ) (new d : Client) → (new.entry.state ≡ phase.Committing → ⊥) → ClientAt (slice_set w.clients r new) s d → d.entry.state ≡ phase.Committing → s ≡ r → ⊥
not_set w r s new d not there waits same = elim (client_set w.clients r s new d there) [
  | inl here ↦ not (ap (λ (x : Client). x.entry.state) (sym here.1) ∙ waits)
  | inr other ↦ other.0 same
]

crash_not_by : (found : Option Held) (c : Client) → (crashed_client found c).entry.state ≡ phase.Committing → (held : Held) → found ≡ Some held → ⊥
crash_not_by found c waits held is = grind (arith, none-some, heard_not)

crash_not : (w : State) (g : Crashed w) (s : ℕ) (c d : Client) (k : IsHeld w.nodes s) → ClientAt w.clients s c → ClientAt (crashed_state w g).clients s d → d.entry.state ≡ phase.Committing → k.node ≡ g.node → ⊥
crash_not w g s c d k at there waits same =
    let here : k.i ≡ g.i = one_instance w.nodes g.node k.i g.i (subst (λ (q : ℕ). InstanceAt w.nodes q k.i) same k.at) g.at in
    let is : d ≡ crashed_client (held_of g.i s) c = crashed_is g.i.requests w.clients s c d at there in
    crash_not_by (held_of g.i s) c (ap (λ (x : Client). x.entry.state) (sym is) ∙ waits) k.held (subst (λ (x : InstanceEntry). held_of x s ≡ Some k.held) here k.has)

-- ---- every outcome
settled_held : (w : State) (it : AtDrawn w) (by : Settled) (s : ℕ) → IsHeld w.nodes s → IsHeld (settled_nodes w it by) s
settled_held w it by s k = put_held w.nodes it.node s it.i _ it.at (holds_with it.i it.session s _) k

pub held_on : (w : State) (o : Outcome w) (s : ℕ) (c d : Client) → ClientAt w.clients s c → ClientAt (left_by w o).clients s d → d.entry.state ≡ phase.Committing → IsHeld w.nodes s → IsHeld (left_by w o).nodes s
held_on w (OfStill g) s c d at there waits k = still_held w g.nodes g.items s g.how k
held_on w (OfGranted g) s c d at there waits k = granted_held w g s g.failed k
held_on w (OfRenewed g) s c d at there waits k = renewed_held w g s g.failed k
held_on w (OfExtended g) s c d at there waits k = extended_held w g s g.failed k
held_on w (OfCrashed g) s c d at there waits k = other_held w.nodes g.node s None k (crash_not w g s c d k at there waits)
held_on w (OfAskedBegin g) s c d at there waits k = put_held w.nodes g.node s g.i _ g.at (holds_with g.i g.session s _) k
held_on w (OfAskedCommit g) s c d at there waits k = put_held w.nodes g.node s g.i _ g.at (holds_with g.i g.session s _) k
held_on w (OfAccepted g) s c d at there waits k = put_held w.nodes g.node s g.i _ g.at (holds_with g.i g.session s _) k
held_on w (OfEnded g) s c d at there waits k = put_held w.nodes g.node s g.i _ g.at (holds_without g.i g.session s (not_set w g.session s _ d (refused_not g.held.request g.c) there waits)) k
held_on w (OfDrew g) s c d at there waits k = put_held w.nodes g.node s g.i _ g.at (holds_with g.i g.session s _) k
held_on w (OfPlaced g) s c d at there waits k = settled_held w g.it g.by s k
held_on w (OfNotPlaced g) s c d at there waits k = settled_held w g.it g.by s k
held_on w (OfAnsweredBegin g) s c d at there waits k =
    put_held w.nodes g.node s g.i _ g.at (holds_without g.i g.session s (not_set w g.session s _ d (heard_not g.c (client_begun g.c g.start g.i.epoch) (λ is. cc)) there waits)) k
held_on w (OfAnsweredCommit g) s c d at there waits k =
    put_held w.nodes g.node s g.i _ g.at (holds_without g.i g.session s (not_set w g.session s _ d (heard_not g.c (answered_client g.by g.c g.commit) (answered_not g.by g.c g.commit)) there waits)) k
held_on w (OfHanded g) s c d at there waits k = put_held w.nodes g.node s g.i _ g.at (holds_without g.i g.session s (not_set w g.session s _ d (heard_not g.c (client_handed g.c g.commit) (λ is. cc)) there waits)) k
held_on w o s c d at there waits k = k
