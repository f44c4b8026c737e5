-- Sessions and requests where a commit is settled: it is in flight no more.
use Rattle.isolation_laws.proofs.Names.{◌≡◌, ℕ, List, ◌++◌, ◌⊎◌, inl, inr, refl, sym, ◌∙◌, subst, Committed, Item}
use Rattle.isolation_laws.proofs.Names.{Settled, State, ArePending, IsSettled, AreSettled, RequestFacts}
use Rattle.isolation_laws.proofs.Names.{IsolationInvariant, AtDrawn, PlacedOne, placed_state, placed_items, NotPlaced}
use Rattle.isolation_laws.proofs.Names.{not_placed_state}
use Rattle.system_parts.specs.declared.instance.Settled.TheVariants as how
use Rattle.isolation_laws.proofs.Owners.{has_drew}
use Rattle.isolation_laws.proofs.Requests.PendingFewer.{stays_pending, pending_settled, fewer_settled}
use Rattle.isolation_laws.proofs.Requests.ClientsAfter.{have_on}
use Rattle.isolation_laws.proofs.Requests.RequestsAfter.{requests_fewer}
use Rattle.isolation_laws.proofs.Requests.Standing.{standing_settled, held_settled}
use Rattle.isolation_laws.proofs.Numbers.NumbersKept.{in_flight_of, drawn_pending}
use Rattle.isolation_laws.proofs.Requests.CommitsInFlight.{IsAcceptedNow, IsDrawnNow, SettledAt, SettledOne, settled_one, settled_on, are_settled, accepted_fewer, starting_fewer, open_fewer}
use Rattle.isolation_laws.proofs.Requests.ClientsOpen.{same_at_work}
use Rattle.isolation_laws.proofs.Requests.Silent.{Silent, silent_quiet}
use Rattle.isolation_laws.proofs.Requests.RequestsKept.{have_silent, keys_silent, pending_silent, starting_silent, open_silent, form_fewer}
use Rattle.isolation_laws.proofs.Requests.SettledNow.{Places, places, places_drawn, pending_places, other_than, settled_other, settled_now, settled_here}

-- ---- placed
is_placed_so : (g : List Item) (t c : ℕ) (by : Settled) → (by ≡ how.Placed) ⊎ (by ≡ how.Faulted) → Committed g t c → IsSettled g t c by
is_placed_so g t c by (inl is) placed = subst (λ (b : Settled). IsSettled g t c b) (sym is) placed
is_placed_so g t c by (inr is) placed = subst (λ (b : Settled). IsSettled g t c b) (sym is) tt

placed_settled : (w : State) (h : List Item) (k : PlacedOne w) → IsolationInvariant w h → AreSettled (placed_state w k).nodes (h ++ placed_items w k)
placed_settled w h k holds =
    let g : List Item = h ++ placed_items w k in
    let all : Places h g k.it.start k.it.commit = places h k.items k.it.start k.it.commit k.quiet in
    are_settled (placed_state w k).nodes g (λ n s t c by j at. elim (settled_now w k.it k.by n s t c by j at) [
      | inl now ↦ settled_here w h g k.it k.by n s t c by j.term all.on holds (is_placed_so g k.it.start k.it.commit k.by k.by_is all.here) now
      | inr was ↦ subst (λ term. SettledOne g n s term t c by) (sym was.2) (settled_on h g n s was.0.term t c by all.on (λ d is placed. elim (all.placed t d placed) [
        | inl old ↦ old
        | inr new ↦ absurd (settled_other w h k.it n s c by was.0 holds (subst (λ u. SettledAt w.nodes n s u c by was.0) new.0 was.1))
      ]) (settled_one w.nodes h n s t c by was.0 holds.requests.settled was.1))
    ])

placed_pending : (w : State) (h : List Item) (k : PlacedOne w) → IsolationInvariant w h → ArePending w.clients (placed_state w k).nodes (h ++ placed_items w k)
placed_pending w h k holds =
    pending_places w.clients w.clients w.nodes (placed_state w k).nodes h (h ++ placed_items w k) k.it.start k.it.commit
    (λ q p. let stays = pending_settled w k.it k.by q p in (stays_pending w.clients w.nodes k.it.node k.it.session q stays, other_than w h k.it q holds stays))
    (standing_settled IsDrawnNow w k.it k.by (λ is. is)) (places h k.items k.it.start k.it.commit k.quiet) holds.requests.pending

pub requests_placed : (w : State) (h : List Item) (k : PlacedOne w) → IsolationInvariant w h → RequestFacts w.setup (placed_state w k).nodes w.clients (h ++ placed_items w k)
requests_placed w h k holds =
    let g : List Item = h ++ placed_items w k in
    let all : Places h g k.it.start k.it.commit = places h k.items k.it.start k.it.commit k.quiet in
    record {
      have_begun = have_on w.clients h (placed_items w k) holds.requests.have_begun;
      requests = requests_fewer w.nodes (placed_state w k).nodes w.clients (held_settled w k.it k.by) holds.requests.requests;
      starting = starting_fewer w.nodes (placed_state w k).nodes h g (standing_settled IsDrawnNow w k.it k.by (λ is. is)) all.on (λ n s t r i at held begun. all.begun r t begun) holds.requests.starting;
      pending = placed_pending w h k holds;
      settled = placed_settled w h k holds;
      accepted = accepted_fewer w.nodes (placed_state w k).nodes (standing_settled IsAcceptedNow w k.it k.by (λ is. is)) holds.requests.accepted;
      opened = open_fewer w.clients w.clients h g (λ s t e o. o) (λ s t e o drew. places_drawn h g k.it.start k.it.commit t all drew) holds.requests.opened;
      keys = record { written = λ s t c at is start. holds.requests.keys.written s t c at is start ∙ sym (all.keys t); some = holds.requests.keys.some };
      form = form_fewer w.setup w.clients w.clients w.nodes (placed_state w k).nodes (standing_settled IsDrawnNow w k.it k.by (λ is. is)) (same_at_work w.clients).placing holds.requests.form;
    }

-- ---- not placed
is_unplaced_so : (w : State) (h g : List Item) (k : AtDrawn w) (by : Settled) → (by ≡ how.Invalid) ⊎ (by ≡ how.Faulted) → Silent h g → IsolationInvariant w h → IsSettled g k.start k.commit by
is_unplaced_so w h g k by (inl is) silent holds = subst (λ (b : Settled). IsSettled g k.start k.commit b) (sym is) (λ d placed. (has_drew w.clients w.nodes h (in_flight_of w k) k.commit holds.requests.pending (inl (drawn_pending w k holds.requests.requests)) refl).1 d (silent.placed k.start d placed))
is_unplaced_so w h g k by (inr is) silent holds = subst (λ (b : Settled). IsSettled g k.start k.commit b) (sym is) tt

pub requests_not_placed : (w : State) (h : List Item) (k : NotPlaced w) → IsolationInvariant w h → RequestFacts w.setup (not_placed_state w k).nodes w.clients (h ++ k.items)
requests_not_placed w h k holds =
    let g : List Item = h ++ k.items in
    let silent : Silent h g = silent_quiet h k.items k.quiet in
    record {
      have_begun = have_silent w.clients h g silent holds.requests.have_begun;
      requests = requests_fewer w.nodes (not_placed_state w k).nodes w.clients (held_settled w k.it k.by) holds.requests.requests;
      starting = starting_silent w.nodes (not_placed_state w k).nodes h g silent (standing_settled IsDrawnNow w k.it k.by (λ is. is)) holds.requests.starting;
      pending = pending_silent w.clients w.clients w.nodes (not_placed_state w k).nodes h g silent (fewer_settled w k.it k.by) (standing_settled IsDrawnNow w k.it k.by (λ is. is)) holds.requests.pending;
      settled = are_settled (not_placed_state w k).nodes g (λ n s t c by j at. elim (settled_now w k.it k.by n s t c by j at) [
        | inl now ↦ settled_here w h g k.it k.by n s t c by j.term silent.on holds (is_unplaced_so w h g k.it k.by k.by_is silent holds) now
        | inr was ↦ subst (λ term. SettledOne g n s term t c by) (sym was.2) (settled_on h g n s was.0.term t c by silent.on (λ d is placed. silent.placed t d placed) (settled_one w.nodes h n s t c by was.0 holds.requests.settled was.1))
      ]);
      accepted = accepted_fewer w.nodes (not_placed_state w k).nodes (standing_settled IsAcceptedNow w k.it k.by (λ is. is)) holds.requests.accepted;
      opened = open_silent w.clients w.clients h g silent (λ s t e o. o) holds.requests.opened;
      keys = keys_silent w.clients h g silent holds.requests.keys;
      form = form_fewer w.setup w.clients w.clients w.nodes (not_placed_state w k).nodes (standing_settled IsDrawnNow w k.it k.by (λ is. is)) (same_at_work w.clients).placing holds.requests.form;
    }
