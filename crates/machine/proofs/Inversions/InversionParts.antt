-- What it is for an event to come to an outcome, and what comes to nothing.
use Rattle.machine.proofs.Names.{AreDue, DueToNode, DueToSession, Session, Node, ℕ, ◌≡◌, ◌≤◌, false, List, [], ◌∷◌}
use Rattle.machine.proofs.Names.{Option, None, Some, inl, inr, refl, sym, ◌∙◌, ap, subst, arith, Plain, Mild, AllPlain}
use Rattle.machine.proofs.Names.{slice_get, slice_set, same_Some, Cause, Item, Held, InstanceEntry, held_of}
use Rattle.machine.proofs.Names.{with_request, instance_stopped, Client, State, is_reading, Step, with_post}
use Rattle.machine.proofs.Names.{with_client, InstanceAt, ClientAt, AllQuiet, Alike, AlikeNodes, Stopped, StillBy}
use Rattle.machine.proofs.Names.{Rests, Stops, Tells, AtOpen, ComesAt, OfStill}
use Rattle.machine.proofs.Dues.DueItems.{DueAnyway, none_due, plain_due, refusal_due, no_row_due}
use Rattle.machine.proofs.Dues.OwnRefusals.{IsOwn, own_due}
use Rattle.machine.proofs.Dues.RecordRefusals.{stopped_due}
use Rattle.history_book.specs.declared.cause.Cause.TheVariants as cause
use Rattle.machine.proofs.Outcome.PlainItems.{none_plain, one_plain, node_plain, session_plain, all_quiet}
use Rattle.history_book.specs.declared.item.Item.TheVariants as item
use Rattle.system_parts.specs.declared.session.State.TheVariants as phase
use Rattle.machine.proofs.Lookups.{set_same, instance_changed, held_set}
use Rattle.machine.specs.Outcome.OutcomesOfRecord.{Told}
use Rattle.machine.proofs.Outcome.Readings.{whatever_handed}
use Rattle.machine.proofs.Outcome.QuietItems.{refusal_quiet}

-- no request is accepted
abbrev pub ComesTo : (w : State) → State → List Item → Type 0
ComesTo w left items = ComesAt w None left items

abbrev pub ComesBy : (w : State) → Step → Type 0
ComesBy w step = ComesTo w step.state step.items

pub comes_at : (w : State) (handed : Option ℕ) (left : State) (items : List Item) → ComesTo w left items → ComesAt w handed left items
comes_at w handed left items (o, state, told, none, due) = (o, state, told, whatever_handed handed o none, due)

-- ---- instances that are alike
pub alike_same : (i : InstanceEntry) → Alike i i
alike_same i = record {
  term = refl;
  epoch = refl;
  last = refl;
  ceiling = refl;
  until = refl;
  buckets = refl;
  direct = refl;
  requests = λ s new has. (new, has, refl, refl);
}

pub nodes_same : (nodes : List (Option InstanceEntry)) → AlikeNodes nodes nodes
nodes_same nodes = record { each = λ n j at. (j, at, alike_same j) }

pub nodes_alike : (nodes : List (Option InstanceEntry)) (n : ℕ) (i j : InstanceEntry) → InstanceAt nodes n i → Alike i j → AlikeNodes nodes (slice_set nodes n (Some j))
nodes_alike nodes n i j at alike = record {
  each = λ m k there. elim (instance_changed nodes n m j k there) [
    | inl here ↦ (i, subst (λ m. InstanceAt nodes m i) (sym here.0) at, subst (λ k. Alike i k) (sym here.1) alike)
    | inr other ↦ (k, other.1, alike_same k)
  ];
}

-- a request was told something
pub alike_told : (i : InstanceEntry) (session : ℕ) (held told : Held) → held_of i session ≡ Some held → told.request ≡ held.request → told.progress ≡ held.progress → Alike i (with_request i session (Some told))
alike_told i session held told has request progress = record {
  term = refl;
  epoch = refl;
  last = refl;
  ceiling = refl;
  until = refl;
  buckets = refl;
  direct = refl;
  requests = λ s new there. elim (held_set i session s (Some told) new there) [
    | inl here ↦ let same : new ≡ told = sym (same_Some told new here.1) in
        (held, subst (λ r. held_of i r ≡ Some held) (sym here.0) has, ap (λ (x : Held). x.request) same ∙ request, ap (λ (x : Held). x.progress) same ∙ progress)
    | inr other ↦ (new, other.1, refl, refl)
  ];
}

-- ---- items that are plain and due
abbrev pub PlainDue : State → List Item → Type 0
PlainDue w items = AllPlain items × AreDue w items

pub nothing_told : (w : State) → PlainDue w []
nothing_told w = (none_plain, none_due w)

pub one_told : (w : State) (x : Item) → Plain x → DueAnyway w x → PlainDue w (x ∷ [])
one_told w x plain free = (one_plain x plain.0 plain.1, plain_due w x free)

-- a refusal that is told to a node
pub node_told : (w : State) (node : ℕ) (why : Cause) → DueToNode w node why → PlainDue w (item.Refused (Node node) why ∷ [])
node_told w node why due = (node_plain node why, refusal_due w (Node node) why due)

pub no_request_told : (w : State) (node session : ℕ) → PlainDue w (item.Refused (Node node) (cause.NoRequest session) ∷ [])
no_request_told w node session = (node_plain node (cause.NoRequest session), no_row_due w (Node node) (cause.NoRequest session) (λ setup h. tt))

-- and one that is told to a session, by its own state or by an instance
pub state_told : (w : State) (session : ℕ) (c : Client) (why : Cause) → ClientAt w.clients session c → Mild (Some why) → IsOwn c.entry.state why → PlainDue w (item.Refused (Session session) why ∷ [])
state_told w session c why at mild own = (session_plain session why mild, own_due w session c why at own)

pub session_told : (w : State) (session : ℕ) (why : Cause) → Mild (Some why) → DueToSession w session why → PlainDue w (item.Refused (Session session) why ∷ [])
session_told w session why mild due = (session_plain session why mild, refusal_due w (Session session) why due)

-- ---- what changes nothing
pub still : (w : State) (seen : ℕ) (nodes : List (Option InstanceEntry)) (left : State) (items : List Item) → w.seen ≤ seen → AlikeNodes w.nodes nodes → AllQuiet items → StillBy w nodes items → AreDue w items → left ≡ record w { seen = seen; nodes = nodes } → ComesTo w left items
still w seen nodes left items up alike quiet how due same = (OfStill (record { seen = seen; up = up; nodes = nodes; alike = alike; items = items; quiet = quiet; how = how }), same, refl, tt, due)

-- the nodes stay as they were
pub rests : (w : State) (seen : ℕ) (nodes : List (Option InstanceEntry)) (left : State) (items : List Item) → w.seen ≤ seen → nodes ≡ w.nodes → PlainDue w items → left ≡ record w { seen = seen; nodes = nodes } → ComesTo w left items
rests w seen nodes left items up same plain is = still w seen nodes left items up (subst (λ new. AlikeNodes w.nodes new) (sym same) (nodes_same w.nodes)) (all_quiet items plain.0) (Rests same plain.0) plain.1 is

pub still_all : (w left : State) (items : List Item) → PlainDue w items → left ≡ w → ComesTo w left items
still_all w left items plain same = rests w w.seen w.nodes left items (omega arith) refl plain same

-- an instance keeps a refusal of the master record
pub stops : (w : State) (seen : ℕ) (left : State) (k : Stopped w) → w.seen ≤ seen → Alike k.i (instance_stopped k.i k.why) → left ≡ record w { seen = seen; nodes = slice_set w.nodes k.node (Some (instance_stopped k.i k.why)) } → ComesTo w left (item.Refused (Node k.node) k.why ∷ [])
stops w seen left k up alike same = still w seen (slice_set w.nodes k.node (Some (instance_stopped k.i k.why))) left _ up (nodes_alike w.nodes k.node k.i (instance_stopped k.i k.why) k.at alike) (refusal_quiet (Node k.node) k.why) (Stops k refl refl) (refusal_due w (Node k.node) k.why (stopped_due w k)) same

-- a request was told that it has to wait
pub tells : (w left : State) (k : Told w) → AllQuiet k.items → AreDue w k.items → left ≡ record w { nodes = slice_set w.nodes k.it.node (Some (with_request k.it.i k.it.session (Some k.told))) } → ComesTo w left k.items
tells w left k quiet due same = still w w.seen (slice_set w.nodes k.it.node (Some (with_request k.it.i k.it.session (Some k.told)))) left k.items (omega arith)
    (nodes_alike w.nodes k.it.node k.it.i (with_request k.it.i k.it.session (Some k.told)) k.it.at (alike_told k.it.i k.it.session k.it.held k.told k.it.has k.same_request k.same_progress)) quiet (Tells k refl refl) due same

-- a client was put back
pub still_client : (w : State) (session : ℕ) (c : Client) (items : List Item) → ClientAt w.clients session c → PlainDue w items → ComesTo w (with_client w session c) items
still_client w session c items at plain = still_all w (with_client w session c) items plain (ap (λ (clients : List Client). record w { clients = clients }) (set_same w.clients session c at))

-- a node was put back
pub still_post : (w : State) (node seen : ℕ) (post : Option InstanceEntry) (items : List Item) → slice_get w.nodes node ≡ Some post → w.seen ≤ seen → PlainDue w items → ComesTo w (record (with_post w node post) { seen = seen }) items
still_post w node seen post items at up plain = rests w seen (slice_set w.nodes node post) (record (with_post w node post) { seen = seen }) items up (set_same w.nodes node post at) plain refl

-- a client was put back, beside other nodes
pub client_back : (w : State) (session seen : ℕ) (c : Client) (nodes : List (Option InstanceEntry)) → ClientAt w.clients session c → record w { seen = seen; nodes = nodes; clients = slice_set w.clients session c } ≡ record w { seen = seen; nodes = nodes }
client_back w session seen c nodes at = ap (λ (clients : List Client). record w { seen = seen; nodes = nodes; clients = clients }) (set_same w.clients session c at)

-- both were put back
pub still_both : (w : State) (node session seen : ℕ) (post : Option InstanceEntry) (c : Client) (items : List Item) → slice_get w.nodes node ≡ Some post → ClientAt w.clients session c → w.seen ≤ seen → PlainDue w items → ComesTo w (record (with_client (with_post w node post) session c) { seen = seen }) items
still_both w node session seen post c items at client_at up plain =
    rests w seen (slice_set w.nodes node post) (record (with_client (with_post w node post) session c) { seen = seen }) items up (set_same w.nodes node post at) plain (client_back w session seen c (slice_set w.nodes node post) client_at)

-- an open transaction without a read under way
abbrev pub at_open : (w : State) (session : ℕ) (c : Client) → ClientAt w.clients session c → c.entry.state ≡ phase.Open → is_reading c ≡ false → AtOpen w
at_open w session c at is_open idle = record { session = session; c = c; client_at = at; is_open = is_open; idle = idle }
