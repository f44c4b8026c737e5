-- A commit that its session is to place is lost where the placing fails without effect, and where the session vanishes.
use Rattle.isolation_laws.proofs.Names.{◌≡◌, ℕ, true, List, [], ◌∷◌, ◌++◌, Option, None, Some, inl, inr, refl, sym, ◌∙◌}
use Rattle.isolation_laws.proofs.Names.{ap, subst, slice_set, Fate, FailsUnchanged, Cause, Session, Item, in_front}
use Rattle.isolation_laws.proofs.Names.{SessionState, step_refusal, vanish_refusal, handed_by, handed_commit, Client}
use Rattle.isolation_laws.proofs.Names.{State, at_client, stepped, is_reading, client_opened, client_vanished, step_on}
use Rattle.isolation_laws.proofs.Names.{step_by, step_due, InFlight, is_placing, PlacingAt, Live, AllQuiet}
use Rattle.isolation_laws.proofs.Names.{IsolationInvariant, ReachedInvariant, IsLost, one_quiet, two_quiet}
use Rattle.stamp_base.specs.declared.stores.Store.TheVariants.{Table}
use Rattle.history_book.specs.declared.cause.Cause.TheVariants as cause
use Rattle.history_book.specs.declared.item.Item.TheVariants as item
use Rattle.system_parts.specs.declared.session.State.TheVariants as phase
use Rattle.machine.specs.declared.event.Event.TheVariants as event
use Rattle.machine.specs.Machine.{Step}
use Rattle.machine.specs.Events.Vanish.{vanish_by, vanish_on}
use Rattle.isolation_laws.proofs.Pushed.{old_placed}
use Rattle.isolation_laws.proofs.Owners.{open_not_pending, pending_unplaced}
use Rattle.isolation_laws.proofs.Numbers.NumbersKept.{open_begun}
use Rattle.isolation_laws.proofs.Requests.ClientsOpen.{IsAtRest, FewerAtWork, fewer_set, outcome_rests, gone_rests}
use Rattle.isolation_laws.proofs.Requests.OpenAfter.{fewer_is_open}
use Rattle.isolation_laws.proofs.Requests.OtherCommits.{none_of_placed}
use Rattle.machine.proofs.Inversions.InversionOfSessions.{for_client}
use Rattle.machine.proofs.Inversions.InversionOfSteps.{for_stores}

-- ---- a session that is placing its commit comes to rest
rests_dead : (w : State) (h : List Item) (q : InFlight) (new : Client) → IsolationInvariant w h → PlacingAt w.clients q → IsAtRest new.entry.state → FewerAtWork w.clients (slice_set w.clients q.session new) → Live (slice_set w.clients q.session new) w.nodes q.start → ⊥
rests_dead w h q new holds p rests work (inl now) =
    let o = fewer_is_open w.clients (slice_set w.clients q.session new) q.start work.opened now in
    open_not_pending w.nodes w.clients h o.session q.start o.epoch holds.isolated.stamped holds.requests.requests holds.requests.pending
    (open_begun w.clients h o.session q.start o.open_at.client holds.requests.have_begun o.open_at.at o.open_at.state_is o.open_at.start_is) o.open_at (record { coming = q; pending = inr p; start_is = refl })
rests_dead w h q new holds p rests work (inr o) = (none_of_placed w.clients w.nodes h q new holds.isolated.stamped holds.requests.requests holds.requests.pending p rests work.placing o.coming o.pending).1 o.start_is

rests_lost : (w : State) (h items : List Item) (q : InFlight) (new : Client) → AllQuiet items → IsolationInvariant w h → PlacingAt w.clients q → IsAtRest new.entry.state → IsLost (record w { clients = slice_set w.clients q.session new }) (h ++ items) q.start
rests_lost w h items q new quiet holds p rests =
    let work : FewerAtWork w.clients (slice_set w.clients q.session new) = fewer_set w.clients q.session p.client new p.at (inl rests) in
    record {
      session = q.session;
      begun = in_front (item.Begin q.session q.start) h items (holds.requests.pending.begun q (inr p));
      dead = λ live. rests_dead w h q new holds p rests work live;
      unplaced = λ c m. pending_unplaced w.clients w.nodes h q.start c holds.numbers.placed holds.requests.pending (record { coming = q; pending = inr p; start_is = refl }) (old_placed h items q.start c quiet m);
    }

placing_state : (state : SessionState) → is_placing state ≡ true → state ≡ phase.Placing
placing_state phase.Placing is = refl
placing_state _ is = absurd (cc)

-- ---- the placing fails without effect
abbrev IsLostBy : List Item → ℕ → Step → Type 0
IsLostBy h t step = IsLost step.state (h ++ step.items) t

handed_here : (w : State) (q : InFlight) (p : PlacingAt w.clients q) → handed_commit p.client.entry ≡ Some (q.start, p.commit_of)
handed_here w q p =
    ap (λ (state : SessionState). handed_by state p.client.entry.start p.client.entry.commit) (placing_state p.client.entry.state p.state_is)
    ∙ (ap (λ start. handed_by phase.Placing start p.client.entry.commit) p.start_is ∙ ap (λ commit. handed_by phase.Placing (Some q.start) commit) p.commit_is)

fails_lost : (w : State) (h : List Item) (q : InFlight) (p : PlacingAt w.clients q) → IsolationInvariant w h → IsLostBy h q.start (for_stores w q.session (step_due q.session FailsUnchanged p.client w.rows w.pairs (Some (q.start, p.commit_of))))
fails_lost w h q p holds = rests_lost w h (item.Fault (Session q.session) Table ∷ item.Refused (Session q.session) (cause.Open q.start) ∷ []) q (client_opened p.client) (two_quiet (item.Fault (Session q.session) Table) (item.Refused (Session q.session) (cause.Open q.start)) refl refl) holds p outcome_rests

pub faulted_placings_lose : (w : State) (h : List Item) (q : InFlight) → ReachedInvariant w h → PlacingAt w.clients q → IsLost (stepped w (event.Step q.session) FailsUnchanged).state (h ++ (stepped w (event.Step q.session) FailsUnchanged).items) q.start
faulted_placings_lose w h q both p =
    let goes : step_refusal p.client.entry.state (is_reading p.client) ≡ None = ap (λ (state : SessionState). step_refusal state (is_reading p.client)) (placing_state p.client.entry.state p.state_is) in
    subst (λ (found : Option Client). IsLostBy h q.start (at_client w found (λ c. for_stores w q.session (step_on q.session FailsUnchanged c w.rows w.pairs)))) (sym p.at)
    (subst (λ (refusal : Option Cause). IsLostBy h q.start (for_stores w q.session (step_by q.session FailsUnchanged p.client w.rows w.pairs refusal))) (sym goes)
    (subst (λ (stamps : Option (ℕ × ℕ)). IsLostBy h q.start (for_stores w q.session (step_due q.session FailsUnchanged p.client w.rows w.pairs stamps))) (sym (handed_here w q p)) (fails_lost w h q p both.holds)))

-- ---- the session vanishes
gone_lost : (w : State) (h : List Item) (q : InFlight) (p : PlacingAt w.clients q) → IsolationInvariant w h → IsLostBy h q.start (for_client w q.session (vanish_by q.session p.client None))
gone_lost w h q p holds = rests_lost w h (item.Vanish q.session ∷ []) q (client_vanished p.client) (one_quiet (item.Vanish q.session) refl) holds p gone_rests

pub vanishes_lose : (w : State) (h : List Item) (q : InFlight) (fate : Fate) → ReachedInvariant w h → PlacingAt w.clients q → IsLost (stepped w (event.Vanish q.session) fate).state (h ++ (stepped w (event.Vanish q.session) fate).items) q.start
vanishes_lose w h q fate both p =
    subst (λ (found : Option Client). IsLostBy h q.start (at_client w found (λ c. for_client w q.session (vanish_on q.session c)))) (sym p.at)
    (subst (λ (refusal : Option Cause). IsLostBy h q.start (for_client w q.session (vanish_by q.session p.client refusal))) (sym (ap vanish_refusal (placing_state p.client.entry.state p.state_is))) (gone_lost w h q p both.holds))
