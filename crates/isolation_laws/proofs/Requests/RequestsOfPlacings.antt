-- Sessions and requests where a session places its own commit, or finds that it never will be placed.
use Rattle.isolation_laws.proofs.Requests.ClientMoves.{at_work_after}
use Rattle.isolation_laws.proofs.Names.{OfOwnNotPlaced, OfOwnPlaced, ℕ, List, ◌++◌, inl, inr, refl, sym, ◌∙◌, subst}
use Rattle.isolation_laws.proofs.Names.{Item, Commit, Settled, InstanceEntry, Client, State, HeldBy, AreKeys}
use Rattle.isolation_laws.proofs.Names.{RequestFacts, IsolationInvariant, answered_client, AtPlacing, OwnPlaced}
use Rattle.isolation_laws.proofs.Names.{own_placed_state, own_placed_items, OwnNotPlaced, own_not_placed_state}
use Rattle.system_parts.specs.declared.instance.Progress.TheVariants as progress
use Rattle.system_parts.specs.declared.instance.Settled.TheVariants as how
use Rattle.isolation_laws.proofs.OnceEach.{begun_once}
use Rattle.isolation_laws.proofs.Numbers.Placings.{is_placing_now, own_in_flight, own_placing}
use Rattle.isolation_laws.proofs.Requests.ClientsOpen.{answered_rests}
use Rattle.isolation_laws.proofs.Requests.OtherCommits.{placing_holds_none, none_of_placed}
use Rattle.isolation_laws.proofs.Requests.ClientsAfter.{begun_kept, have_on, keys_client, keys_set}
use Rattle.isolation_laws.proofs.Requests.ClientsBecome.{Becomes, placing_becomes}
use Rattle.isolation_laws.proofs.Requests.RequestsAfter.{placing_waits, requests_idle}
use Rattle.isolation_laws.proofs.Requests.Standing.{standing_same}
use Rattle.isolation_laws.proofs.Requests.CommitsInFlight.{IsSettledNow, IsDrawnNow, SettledAt, settled_fewer, starting_fewer, open_fewer}
use Rattle.isolation_laws.proofs.Requests.SettledNow.{Places, places, places_drawn, pending_places}
use Rattle.isolation_laws.proofs.Requests.RequestsKept.{Leaves, form_fewer}
use Rattle.isolation_laws.proofs.Requests.RequestsOfClients.{leaves_idle}

own_becomes : (w : State) (h : List Item) (it : AtPlacing w) (by : Settled) → IsolationInvariant w h → Becomes h it.session it.c (answered_client by it.c it.commit)
own_becomes w h it by holds = placing_becomes h it.session it.commit by it.c (is_placing_now w it) (keys_client w.clients h it.session it.c holds.requests.keys it.client_at)

-- no settled commit is of its transaction
own_not_settled : (w : State) (h : List Item) (it : AtPlacing w) (n s c : ℕ) (by : Settled) (i : InstanceEntry) → IsolationInvariant w h → SettledAt w.nodes n s it.start c by i → ⊥
own_not_settled w h it n s c by i holds (at, (keys, held)) =
    let session = begun_once h s it.session it.start holds.isolated.stamped (holds.requests.settled.begun n s it.start c keys by i at held) (holds.requests.pending.begun (own_in_flight w it) (inr (own_placing w it))) in
    placing_holds_none w.clients w.nodes (own_in_flight w it) holds.requests.requests (own_placing w it) n i (Commit s it.start keys) (progress.Settled c by) at (subst (λ r. HeldBy i r (Commit s it.start keys) (progress.Settled c by)) session held)

own_keys : (w : State) (h g : List Item) (k : OwnPlaced w) → Places h g k.it.start k.it.commit → IsolationInvariant w h → AreKeys (own_placed_state w k).clients g
own_keys w h g k all holds =
    let keys : AreKeys (own_placed_state w k).clients h = keys_set w.clients h k.it.session (answered_client k.by k.it.c k.it.commit) (own_becomes w h k.it k.by holds).keys holds.requests.keys in
    record { written = λ s t c at is start. keys.written s t c at is start ∙ sym (all.keys t); some = keys.some }

pub requests_own_placed : (w : State) (h : List Item) (k : OwnPlaced w) → IsolationInvariant w h → RequestFacts w.setup w.nodes (own_placed_state w k).clients (h ++ own_placed_items w k)
requests_own_placed w h k holds =
    let g : List Item = h ++ own_placed_items w k in
    let new : Client = answered_client k.by k.it.c k.it.commit in
    let clients : List Client = (own_placed_state w k).clients in
    let all : Places h g k.it.start k.it.commit = places h k.items k.it.start k.it.commit k.quiet in
    record {
      have_begun = have_on clients h (own_placed_items w k) (begun_kept w.clients h k.it.session k.it.c new k.it.client_at (own_becomes w h k.it k.by holds).begun holds.requests.have_begun);
      requests = requests_idle w.nodes w.clients k.it.session k.it.c new k.it.c.entry.state k.it.client_at refl (placing_waits k.it.c.entry.state (is_placing_now w k.it)) holds.requests.requests;
      starting = starting_fewer w.nodes w.nodes h g (standing_same IsDrawnNow w.nodes) all.on (λ n s t r i at held begun. all.begun r t begun) holds.requests.starting;
      pending = pending_places w.clients clients w.nodes w.nodes h g k.it.start k.it.commit
          (none_of_placed w.clients w.nodes h (own_in_flight w k.it) new holds.isolated.stamped holds.requests.requests holds.requests.pending (own_placing w k.it) (answered_rests k.by k.it.c k.it.commit) (at_work_after w (OfOwnPlaced k) refl).placing)
          (standing_same IsDrawnNow w.nodes) all holds.requests.pending;
      settled = settled_fewer w.nodes w.nodes h g (standing_same IsSettledNow w.nodes) all.on (λ n s t c d i at placed. elim (all.placed t d placed) [
        | inl old ↦ old
        | inr now ↦ absurd (own_not_settled w h k.it n s c how.Invalid i holds (subst (λ u. SettledAt w.nodes n s u c how.Invalid i) now.0 at))
      ]) holds.requests.settled;
      accepted = holds.requests.accepted;
      opened = open_fewer w.clients clients h g (at_work_after w (OfOwnPlaced k) refl).opened (λ s t e o drew. places_drawn h g k.it.start k.it.commit t all drew) holds.requests.opened;
      keys = own_keys w h g k all holds;
      form = form_fewer w.setup w.clients clients w.nodes w.nodes (standing_same IsDrawnNow w.nodes) (at_work_after w (OfOwnPlaced k) refl).placing holds.requests.form;
    }

pub leaves_own_not_placed : (w : State) (h : List Item) (k : OwnNotPlaced w) → IsolationInvariant w h → Leaves w h w.nodes (own_not_placed_state w k).clients
leaves_own_not_placed w h k holds = leaves_idle w h k.it.session k.it.c (answered_client k.by k.it.c k.it.commit) k.it.c.entry.state k.it.client_at refl (placing_waits k.it.c.entry.state (is_placing_now w k.it)) (own_becomes w h k.it k.by holds) (at_work_after w (OfOwnNotPlaced k) refl) holds
