-- Each outcome of an event, as a node transition to the nodes.
use Rattle.cause_laws.proofs.Names.{[], ◌≡◌, ℕ, ◌+◌, Bool, true, false, List, ◌∷◌, ◌++◌, Option, None, Some, inl, inr}
use Rattle.cause_laws.proofs.Names.{refl, sym, ◌∙◌, ap, slice_set, Master, Node, Session, Handed, Item, mark_of}
use Rattle.cause_laws.proofs.Names.{renewed_until, SettleTurn, Goes, Decides, settle_ask, settle_turn, Held, Begin}
use Rattle.cause_laws.proofs.Names.{Commit, Settled, InstanceEntry, held_of, without_request, Event, Fate, State}
use Rattle.cause_laws.proofs.Names.{stepped, all_crashed_items, settle_items, rules_of, InstanceAt, Marked}
use Rattle.cause_laws.proofs.Names.{IsolationInvariant, ReachedInvariant, AllSilent, one_silent, two_silent, all_silent}
use Rattle.cause_laws.proofs.Names.{StillBy, Rests, Stops, Tells, RenewedLease, renewed_nodes, Extended, extended_nodes}
use Rattle.cause_laws.proofs.Names.{fault_if, AtDrawn, PlacedOne, settled_nodes, fault_of, found_items, answered_item}
use Rattle.cause_laws.proofs.Names.{OutcomeStepped, Outcome, OfStill, OfGranted, OfRenewed, OfExtended, OfCrashed}
use Rattle.cause_laws.proofs.Names.{OfAskedBegin, OfAskedCommit, OfAccepted, OfEnded, OfDrew, OfPlaced, OfNotPlaced}
use Rattle.cause_laws.proofs.Names.{OfAnsweredBegin, OfAnsweredCommit, OfHanded, OfOwnPlaced, OfOwnNotPlaced, OfOutcome}
use Rattle.cause_laws.proofs.Names.{left_by, told_by_outcome, in_flight_of, drawn_pending, each_outcome}
use Rattle.stamp_base.specs.declared.stores.Mark.{Mark}
use Rattle.history_book.specs.declared.item.Ending.TheVariants.{Dead as DeadEnd}
use Rattle.history_book.specs.declared.item.Item.TheVariants as item
use Rattle.system_parts.specs.declared.resolve.Outcome.TheVariants as outcome
use Rattle.system_parts.specs.declared.instance.Settled.TheVariants as how
use Rattle.machine.specs.StoreSteps.{told_by}
use Rattle.machine.proofs.Inversions.InversionOfAnswers.{not_invalid}
use Rattle.cause_laws.proofs.NodeTransitions.{Serving, EndsFor, OfRested, OfTook, OfRenewed, OfWidened, OfStopped, OfCrashed, OfAsked, OfAccepted, OfDrew, OfSettled, OfTold, OfEnded, OfLearned, NodeTransitionOf}
use Rattle.cause_laws.proofs.NodeTransitionsOfPlacings.{answered_ends, own_told_deed, own_placed_deed}
use Rattle.cause_laws.proofs.SilentOutcomes.{found_silent, silent_items}
use Rattle.isolation_laws.proofs.FoundMarks.{found_marked}
use Rattle.cause_laws.proofs.HeldAsks.{own_requests, all_losses, holds_none}

-- ---- the nodes stay as they were
rests : (w : State) (items : List Item) → AllSilent items → NodeTransitionOf w w.nodes items
rests w items silent = record { deed = OfRested (record { items = items; silent = silent }); leaves = refl; tells = refl }

still_deed : (w : State) (nodes : List (Option InstanceEntry)) (items : List Item) → StillBy w nodes items → NodeTransitionOf w nodes items
still_deed w nodes items (Rests same plain) = record { deed = OfRested (record { items = items; silent = all_silent items plain }); leaves = same; tells = refl }
still_deed w nodes items (Stops k leaves tells) = record { deed = OfStopped k; leaves = leaves; tells = tells }
still_deed w nodes items (Tells k leaves tells) = record { deed = OfTold k; leaves = leaves; tells = tells }

-- ---- the master record: where the call failed all the same, the instance stays as it was
renewed_deed : (w : State) (k : RenewedLease w) (failed : Bool) → NodeTransitionOf w (renewed_nodes w k failed) (item.Renew k.node k.reading k.i.term (renewed_until (rules_of w.setup) w.master k.reading) ∷ fault_if failed k.node)
renewed_deed w k true = rests w _ (two_silent (item.Renew k.node k.reading k.i.term (renewed_until (rules_of w.setup) w.master k.reading)) (item.Fault (Node k.node) Master) refl refl)
renewed_deed w k false = record {
  deed = OfRenewed (record { node = k.node; reading = k.reading; i = k.i; at = k.at; own = k.own });
  leaves = refl;
  tells = refl;
}

extended_deed : (w : State) (k : Extended w) (failed : Bool) → NodeTransitionOf w (extended_nodes w k failed) (item.Extend k.node k.i.term (w.master.ceiling + w.setup.range) ∷ fault_if failed k.node)
extended_deed w k true = rests w _ (two_silent (item.Extend k.node k.i.term (w.master.ceiling + w.setup.range)) (item.Fault (Node k.node) Master) refl refl)
extended_deed w k false = record {
  deed = OfWidened (record { node = k.node; i = k.i; at = k.at; own = k.own; room = k.room });
  leaves = refl;
  tells = refl;
}

-- ---- requests
-- the request at a node that an outcome is of
abbrev serving : (w : State) (node session : ℕ) (i : InstanceEntry) (held : Held) → InstanceAt w.nodes node i → held_of i session ≡ Some held → Serving w
serving w node session i held at has = record { node = node; session = session; i = i; held = held; at = at; has = has }

-- what is there in the place of a commit in flight is a mark
is_marked : (w : State) (h : List Item) (it : AtDrawn w) (mark : Mark) → IsolationInvariant w h → mark_of w.pairs it.start ≡ Some mark → Marked w.pairs it.start
is_marked w h it mark holds is = found_marked w h (in_flight_of w it) it.commit mark holds (inl (drawn_pending w it holds.requests.requests)) refl is

settles : (w : State) (it : AtDrawn w) (by : Settled) (effects items : List Item) → AllSilent effects → (by ≡ how.Invalid → Marked w.pairs it.start) → items ≡ effects ++ fault_of by it.node → NodeTransitionOf w (settled_nodes w it by) items
settles w it by effects items silent found same = record {
  deed = OfSettled (record {
    it = serving w it.node it.session it.i it.held it.at it.has;
    asker = it.asker;
    start = it.start;
    commit = it.commit;
    keys = it.keys;
    request_is = it.request_is;
    drawn = it.drawn;
    by = by;
    effects = effects;
    silent = silent;
    found = found;
  });
  leaves = refl;
  tells = same;
}

placed_found : (w : State) (k : PlacedOne w) → k.by ≡ how.Invalid → Marked w.pairs k.it.start
placed_found w k is = elim k.by_is [
  | inl placed ↦ let clash : how.Placed ≡ how.Invalid = sym placed ∙ is in absurd (cc)
  | inr faulted ↦ absurd (not_invalid (sym faulted ∙ is))
]

ended : (w : State) (it : Serving w) (last : Item) (items : List Item) → EndsFor it.session last → items ≡ last ∷ [] → NodeTransitionOf w (slice_set w.nodes it.node (Some (without_request it.i it.session))) items
ended w it last items ends same = record { deed = OfEnded (record { it = it; last = last; ends = ends }); leaves = refl; tells = same }

-- ---- the resolve of an own commit
settle_decides : (w : State) (k : OutcomeStepped w) (start : Option ℕ) (turn : SettleTurn) → NodeTransitionOf w w.nodes (k.first ∷ settle_items k.it.session start turn)
settle_decides w k (Some start) (Decides (outcome.Committed commit by_table)) = record {
  deed = OfLearned (record {
    session = k.it.session;
    c = k.it.c;
    at = k.it.client_at;
    alone = inl k.it.is_open;
    steps = k.first ∷ [];
    silent = one_silent k.first k.silent;
    last = item.Committed k.it.session start commit;
    ends = refl;
  });
  leaves = refl;
  tells = refl;
}
settle_decides w k (Some start) (Decides outcome.Dead) = rests w _ (two_silent k.first (item.End k.it.session start DeadEnd) k.silent refl)
settle_decides w k (Some start) (Goes point) = rests w _ (one_silent k.first k.silent)
settle_decides w k None turn = rests w _ (one_silent k.first k.silent)

-- the items are these
telling : (w : State) (nodes : List (Option InstanceEntry)) (items these : List Item) → items ≡ these → NodeTransitionOf w nodes these → NodeTransitionOf w nodes items
telling w nodes items these same by = record { deed = by.deed; leaves = by.leaves; tells = same ∙ by.tells }

-- ---- every outcome
pub outcome_deed : (w : State) (h : List Item) (o : Outcome w) → IsolationInvariant w h → NodeTransitionOf w (left_by w o).nodes (told_by_outcome w o)
outcome_deed w h (OfStill k) holds = still_deed w k.nodes k.items k.how
outcome_deed w h (OfGranted k) holds = record { deed = OfTook k; leaves = refl; tells = k.tells }
outcome_deed w h (OfRenewed k) holds = telling w _ k.items _ k.tells (renewed_deed w k k.failed)
outcome_deed w h (OfExtended k) holds = telling w _ k.items _ k.tells (extended_deed w k k.failed)
outcome_deed w h (OfCrashed k) holds = record {
  deed = OfCrashed (record {
    node = k.node;
    i = k.i;
    at = k.at;
    told = all_crashed_items k.node k.i.term k.i.requests w.clients;
    losses = all_losses k.i k.node k.i.requests w.clients (own_requests w k.node k.i k.at holds.requests.requests);
  });
  leaves = refl;
  tells = k.tells;
}
outcome_deed w h (OfAskedBegin k) holds = record {
  deed = OfAsked (record {
    node = k.node;
    i = k.i;
    at = k.at;
    request = Begin k.session;
    none = holds_none w k.session k.node k.c k.i k.at k.client_at (inl k.free) holds.requests.requests (held_of k.i k.session) refl;
    c = k.c;
    client_at = k.client_at;
    idle = inl k.free;
    for_it = tt;
  });
  leaves = refl;
  tells = refl;
}
outcome_deed w h (OfAskedCommit k) holds = record {
  deed = OfAsked (record {
    node = k.node;
    i = k.i;
    at = k.at;
    request = Commit k.session k.start k.c.entry.keys;
    none = holds_none w k.session k.node k.c k.i k.at k.client_at (inr k.is_open) holds.requests.requests (held_of k.i k.session) refl;
    c = k.c;
    client_at = k.client_at;
    idle = inr k.is_open;
    for_it = (k.is_open, k.start_is);
  });
  leaves = refl;
  tells = k.tells;
}
outcome_deed w h (OfAccepted k) holds = record {
  deed = OfAccepted (record { it = serving w k.node k.session k.i k.held k.at k.has; reading = k.reading; asked = k.asked });
  leaves = refl;
  tells = k.tells;
}
outcome_deed w h (OfEnded k) holds = ended w (serving w k.node k.session k.i k.held k.at k.has) (item.Refused (Session k.session) k.why) k.items (refl, k.ends) k.tells
outcome_deed w h (OfDrew k) holds = record {
  deed = OfDrew (record { it = serving w k.node k.session k.i k.held k.at k.has; accepted = k.accepted; room = k.room });
  leaves = refl;
  tells = refl;
}
outcome_deed w h (OfPlaced k) holds = settles w k.it k.by (item.Placed k.it.start k.it.commit ∷ []) _ (one_silent (item.Placed k.it.start k.it.commit) refl) (placed_found w k) (ap (λ items. item.Placed k.it.start k.it.commit ∷ items) k.tells)
outcome_deed w h (OfNotPlaced k) holds = settles w k.it k.by (found_items k.by k.it.node k.it.start) k.items (found_silent k.by k.it.node k.it.start) (λ is. let there = k.found is in is_marked w h k.it there.0 holds there.1) k.tells
outcome_deed w h (OfAnsweredBegin k) holds = ended w (serving w k.node k.session k.i k.held k.at k.has) (item.Begin k.session k.start) _ refl refl
outcome_deed w h (OfAnsweredCommit k) holds = ended w (serving w k.node k.session k.i k.held k.at k.has) (answered_item k.by k.session k.start k.commit) k.items (answered_ends k.by k.session k.start k.commit) k.tells
outcome_deed w h (OfHanded k) holds = ended w (serving w k.node k.session k.i k.held k.at k.has) (item.Step (Session k.session) (Handed k.start k.commit)) k.items refl k.tells
outcome_deed w h (OfOwnPlaced k) holds = telling w w.nodes _ _ (ap (λ items. item.Placed k.it.start k.it.commit ∷ items) k.tells) (own_placed_deed w k.it k.by)
outcome_deed w h (OfOwnNotPlaced k) holds = telling w w.nodes k.items _ k.tells (own_told_deed w k.it k.by)
outcome_deed w h (OfOutcome k) holds = telling w w.nodes k.items _ k.tells (settle_decides w k k.it.c.entry.start (settle_turn k.x (told_by (settle_ask k.x) w.rows w.pairs)))
outcome_deed w h o holds = rests w (told_by_outcome w o) (silent_items w o refl)

-- ---- one event
pub deed_of : (w : State) (h : List Item) (e : Event) (fate : Fate) → ReachedInvariant w h → NodeTransitionOf w (stepped w e fate).state.nodes (stepped w e fate).items
deed_of w h e fate both = each_outcome (λ v items. NodeTransitionOf w v.nodes items) w h e fate both (λ o. outcome_deed w h o both.holds)
