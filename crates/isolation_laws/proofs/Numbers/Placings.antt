-- For request_completion too.
-- A commit that is pending and has no mark is placed. Who places it does not matter here.
use Rattle.isolation_laws.proofs.Names.{◌≡◌, ℕ, true, List, None, inl, inr, refl, ap, Committed, Item, Placed}
use Rattle.isolation_laws.proofs.Names.{CommittedMark, Pairs, mark_of, put_pair, State, DrewCommit, InFlight, Has}
use Rattle.isolation_laws.proofs.Names.{is_placing, PlacingAt, Pending, Live, IsolationInvariant, PlacedOne, AtPlacing}
use Rattle.isolation_laws.proofs.Names.{OwnPlaced}
use Rattle.isolation_laws.proofs.Owners.{has_drew}
use Rattle.isolation_laws.proofs.Numbers.NumbersKept.{in_flight_of, drawn_pending}

pub record PlacedPending (w : State) : Type 0 where
  pub coming : InFlight
  pub pending : Pending w.clients w.nodes coming
  pub commit : ℕ
  pub has : coming.stage ≡ Has commit
  pub free : mark_of w.pairs coming.start ≡ None

abbrev pub placed_item : (w : State) → PlacedPending w → Item
placed_item w p = Placed p.coming.start p.commit

abbrev pub placed_pairs : (w : State) → PlacedPending w → Pairs
placed_pairs w p = put_pair w.pairs p.coming.start (CommittedMark p.commit)

-- a node places what it has drawn
abbrev pub by_its_node : (w : State) (h : List Item) (k : PlacedOne w) → IsolationInvariant w h → PlacedPending w
by_its_node w h k holds = record {
  coming = in_flight_of w k.it;
  pending = inl (drawn_pending w k.it holds.requests.requests);
  commit = k.it.commit;
  has = refl;
  free = k.free;
}

-- a session that is placing its commit has it in flight
pub is_placing_now : (w : State) (it : AtPlacing w) → is_placing it.c.entry.state ≡ true
is_placing_now w it = ap is_placing it.placing

abbrev pub own_in_flight : (w : State) → AtPlacing w → InFlight
own_in_flight w it = record { session = it.session; start = it.start; keys = it.c.entry.keys; stage = Has it.commit }

abbrev pub own_placing : (w : State) (it : AtPlacing w) → PlacingAt w.clients (own_in_flight w it)
own_placing w it = record {
  client = it.c;
  at = it.client_at;
  state_is = is_placing_now w it;
  start_is = it.start_is;
  keys_are = refl;
  commit_of = it.commit;
  commit_is = it.commit_is;
  stage_is = refl;
}

-- and places it itself
abbrev pub by_its_session : (w : State) → OwnPlaced w → PlacedPending w
by_its_session w k = record {
  coming = own_in_flight w k.it;
  pending = inr (own_placing w k.it);
  commit = k.it.commit;
  has = refl;
  free = k.free;
}

-- it was drawn, and was not placed
pub placed_drew : (w : State) (h : List Item) (p : PlacedPending w) → IsolationInvariant w h → ((n : ℕ) × (term : ℕ) × DrewCommit h p.coming.session n term p.coming.start p.commit) × ((c : ℕ) → Committed h p.coming.start c → ⊥)
placed_drew w h p holds = has_drew w.clients w.nodes h p.coming p.commit holds.requests.pending p.pending p.has

pub placed_live : (w : State) (p : PlacedPending w) → Live w.clients w.nodes p.coming.start
placed_live w p = inr (record { coming = p.coming; pending = p.pending; start_is = refl })
