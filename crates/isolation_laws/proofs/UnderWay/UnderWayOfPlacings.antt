-- What is under way where a session places its own commit, or finds that it never will be placed.
use Rattle.isolation_laws.proofs.Names.{ℕ, List, ◌++◌, inl, inr, refl, sym, ◌∙◌, subst, Committed, Item, Settled, State}
use Rattle.isolation_laws.proofs.Names.{UnderWayFacts, IsolationInvariant, answered_client, AtPlacing, OwnPlaced}
use Rattle.isolation_laws.proofs.Names.{own_placed_state, own_placed_items, OwnNotPlaced, own_not_placed_state}
use Rattle.isolation_laws.proofs.Owners.{pending_unplaced}
use Rattle.isolation_laws.proofs.Numbers.Placings.{is_placing_now, own_in_flight, own_placing, by_its_session}
use Rattle.isolation_laws.proofs.Requests.SettledNow.{Places, places}
use Rattle.isolation_laws.proofs.Stores.Calm.{calm_quiet}
use Rattle.isolation_laws.proofs.UnderWay.Works.{Works, work_set}
use Rattle.isolation_laws.proofs.UnderWay.ClientWorks.{works_opened, works_aborted, works_committed}
use Rattle.isolation_laws.proofs.UnderWay.SessionMoves.{under_way_client}
use Rattle.isolation_laws.proofs.UnderWay.UnderWayOfRequests.{placed_works, under_way_placing}

own_placed_works : (w : State) (h : List Item) (k : OwnPlaced w) → IsolationInvariant w h → Works w.rows (h ++ own_placed_items w k) (answered_client k.by k.it.c k.it.commit)
own_placed_works w h k holds =
    let g : List Item = h ++ own_placed_items w k in
    let all : Places h g k.it.start k.it.commit = places h k.items k.it.start k.it.commit k.quiet in
    elim k.by_is [
      | inl placed ↦ subst (λ (by : Settled). Works w.rows g (answered_client by k.it.c k.it.commit)) (sym placed)
          (works_committed w.rows g k.it.c k.it.start k.it.commit k.it.start_is (holds.requests.keys.written k.it.session k.it.start k.it.c k.it.client_at (inr (inr (inr (is_placing_now w k.it)))) k.it.start_is ∙ sym (all.keys k.it.start)) all.here)
      | inr faulted ↦ subst (λ (by : Settled). Works w.rows g (answered_client by k.it.c k.it.commit)) (sym faulted) (works_opened w.rows g k.it.c)
    ]

pub under_way_own_placed : (w : State) (h : List Item) (k : OwnPlaced w) → IsolationInvariant w h → UnderWayFacts (own_placed_state w k).clients w.sweep w.rows (own_placed_state w k).pairs (h ++ own_placed_items w k)
under_way_own_placed w h k holds =
    under_way_placing w h (by_its_session w k) (own_placed_state w k).clients k.items k.quiet
    (work_set w.clients w.rows (h ++ own_placed_items w k) k.it.session (answered_client k.by k.it.c k.it.commit) (own_placed_works w h k holds) (placed_works w h (by_its_session w k) k.items k.quiet holds)) holds

-- what a session is placing is not placed
pub own_unplaced : (w : State) (h : List Item) (it : AtPlacing w) (c : ℕ) → IsolationInvariant w h → Committed h it.start c → ⊥
own_unplaced w h it c holds placed = pending_unplaced w.clients w.nodes h it.start c holds.numbers.placed holds.requests.pending (record { coming = own_in_flight w it; pending = inr (own_placing w it); start_is = refl }) placed

own_not_placed_works : (w : State) (h : List Item) (k : OwnNotPlaced w) → IsolationInvariant w h → Works w.rows h (answered_client k.by k.it.c k.it.commit)
own_not_placed_works w h k holds = elim k.by_is [
  | inl invalid ↦ subst (λ (by : Settled). Works w.rows h (answered_client by k.it.c k.it.commit)) (sym invalid) (works_aborted w.rows h k.it.c k.it.start k.it.start_is (λ d placed. own_unplaced w h k.it d holds placed))
  | inr faulted ↦ subst (λ (by : Settled). Works w.rows h (answered_client by k.it.c k.it.commit)) (sym faulted) (works_opened w.rows h k.it.c)
]

pub under_way_own_not_placed : (w : State) (h : List Item) (k : OwnNotPlaced w) → IsolationInvariant w h → UnderWayFacts (own_not_placed_state w k).clients w.sweep w.rows w.pairs (h ++ k.items)
under_way_own_not_placed w h k holds = under_way_client w h (h ++ k.items) k.it.session (answered_client k.by k.it.c k.it.commit) holds (calm_quiet h k.items k.quiet) (own_not_placed_works w h k holds)
