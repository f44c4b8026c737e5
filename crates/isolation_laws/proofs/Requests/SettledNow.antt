-- A commit that is settled: what a history has that places it, and which requests are settled now.
use Rattle.isolation_laws.proofs.Names.{[], ◌≡◌, ◌≢◌, ℕ, List, ◌∷◌, ◌++◌, append_assoc, Option, Some, ◌⊎◌, inl, inr}
use Rattle.isolation_laws.proofs.Names.{refl, sym, ◌∙◌, ap, subst, slice_set, same_Some, ◌∈◌, Committed, Item, Begin}
use Rattle.isolation_laws.proofs.Names.{Draw, Placed, in_front, in_last, in_push, in_old, Commit, Settled}
use Rattle.isolation_laws.proofs.Names.{InstanceEntry, held_of, moved, Client, State, InstanceAt, HeldBy, Begun}
use Rattle.isolation_laws.proofs.Names.{HasDrawn, written_keys, InFlight, Pending, AllQuiet, ArePending, IsSettled}
use Rattle.isolation_laws.proofs.Names.{IsolationInvariant, held_by, held_set, one_held, instance_changed, one_instance}
use Rattle.isolation_laws.proofs.Names.{AtDrawn}
use Rattle.system_parts.specs.declared.instance.Progress.TheVariants as progress
use Rattle.isolation_laws.proofs.OnceEach.{begun_once}
use Rattle.isolation_laws.proofs.Requests.OtherCommits.{other_commit, PendingBut}
use Rattle.isolation_laws.proofs.Requests.PendingFewer.{StaysPut}
use Rattle.isolation_laws.proofs.Pushed.{old_begin, old_draw, old_placed, written_keys-quiet}
use Rattle.isolation_laws.proofs.Requests.ClientsAfter.{written_keys-no_write}
use Rattle.isolation_laws.proofs.Numbers.NumbersKept.{in_flight_of, drawn_pending, drew_commit}
use Rattle.isolation_laws.proofs.Requests.CommitsInFlight.{GoesOn, pending_one, pending_on, are_pending, here_fewer, FewerStanding, IsDrawnNow, SettledAt, SettledOne}

-- ---- the item that places it
-- a longer history has that commit placed, and nothing else
pub record Places (h g : List Item) (t c : ℕ) : Type 0 where
  pub on : (x : Item) → x ∈ h → x ∈ g
  pub begun : (s u : ℕ) → Begun g s u → Begun h s u
  pub draws : (s n term u : ℕ) (d : Option ℕ) → Draw s n term u d ∈ g → Draw s n term u d ∈ h
  pub placed : (u d : ℕ) → Committed g u d → Committed h u d ⊎ ((u ≡ t) × (d ≡ c))
  pub here : Committed g t c
  pub keys : (u : ℕ) → written_keys g u ≡ written_keys h u

placed_is : (u d t c : ℕ) → Placed u d ≡ Placed t c → (u ≡ t) × (d ≡ c)
placed_is u d t c same = (cc, cc)

one_places : (h : List Item) (t c : ℕ) → Places h (h ++ Placed t c ∷ []) t c
one_places h t c = record {
  on = λ x m. in_front x h (Placed t c ∷ []) m;
  begun = λ s u m. in_old (Begin s u) (Placed t c) h (λ is. cc) m;
  draws = λ s n term u d m. in_old (Draw s n term u d) (Placed t c) h (λ is. cc) m;
  placed = λ u d m. elim (in_push (Placed u d) (Placed t c) h m) [ inl old ↦ inl old | inr now ↦ inr (placed_is u d t c now) ];
  here = in_last (Placed t c) h;
  keys = λ u. written_keys-no_write h (Placed t c) u (λ s v k value is. cc);
}

pub places : (h items : List Item) (t c : ℕ) → AllQuiet items → Places h (h ++ Placed t c ∷ items) t c
places h items t c quiet =
    let one : Places h (h ++ Placed t c ∷ []) t c = one_places h t c in
    let g : List Item = h ++ Placed t c ∷ [] in
    subst (λ (k : List Item). Places h k t c) (append_assoc h (Placed t c ∷ []) items) (record {
      on = λ x m. in_front x g items (one.on x m);
      begun = λ s u m. one.begun s u (old_begin g items s u quiet m);
      draws = λ s n term u d m. one.draws s n term u d (old_draw g items s n term u d quiet m);
      placed = λ u d m. one.placed u d (old_placed g items u d quiet m);
      here = in_front (Placed t c) g items one.here;
      keys = λ u. written_keys-quiet g items u quiet ∙ one.keys u;
    })

pub places_drawn : (h g : List Item) (t c u : ℕ) → Places h g t c → HasDrawn g u → HasDrawn h u
places_drawn h g t c u places (s, n, term, d, m) = (s, n, term, d, places.draws s n term u (Some d) m)

-- ---- commits in flight that are left
pub pending_places : (clients new_clients : List Client) (nodes new_nodes : List (Option InstanceEntry)) (h g : List Item) (t c : ℕ) → PendingBut clients nodes new_clients new_nodes t → FewerStanding IsDrawnNow nodes new_nodes → Places h g t c → ArePending clients nodes h → ArePending new_clients new_nodes g
pending_places clients new_clients nodes new_nodes h g t c but standing all pending = are_pending new_clients new_nodes g (λ q p.
    let was = but q p in
    pending_on h g q all.on (record {
      alone = record {
        undrawn = λ drew. places_drawn h g t c q.start all drew;
        unplaced = λ d placed. elim (all.placed q.start d placed) [ inl old ↦ old | inr new ↦ absurd (was.1 new.0) ];
      };
      keys = all.keys q.start;
    }) (pending_one clients nodes h q pending was.0))
    (here_fewer nodes new_nodes h g standing all.on pending.here)

-- ---- another commit in flight is of another transaction
pub other_than : (w : State) (h : List Item) (k : AtDrawn w) (q : InFlight) → IsolationInvariant w h → StaysPut w.clients w.nodes k.node k.session q → q.start ≢ k.start
other_than w h k q holds stays = other_commit w.clients w.nodes h q (in_flight_of w k) holds.isolated.stamped holds.requests.requests holds.requests.pending (drawn_pending w k holds.requests.requests) stays

drawn_no_settled : (a c : ℕ) (by : Settled) → progress.Drawn a ≡ progress.Settled c by → ⊥
drawn_no_settled a c by same = cc

-- and so is a settled one
pub settled_other : (w : State) (h : List Item) (k : AtDrawn w) (n s c : ℕ) (by : Settled) (i : InstanceEntry) → IsolationInvariant w h → SettledAt w.nodes n s k.start c by i → ⊥
settled_other w h k n s c by i holds (at, (keys, held)) =
    let mine : Pending w.clients w.nodes (in_flight_of w k) = inl (drawn_pending w k holds.requests.requests) in
    let session : s ≡ k.session = begun_once h s k.session k.start holds.isolated.stamped (holds.requests.settled.begun n s k.start c keys by i at held) (holds.requests.pending.begun (in_flight_of w k) mine) in
    let here : HeldBy i k.session (Commit s k.start keys) (progress.Settled c by) = subst (λ r. HeldBy i r (Commit s k.start keys) (progress.Settled c by)) session held in
    let node : n ≡ k.node = holds.requests.requests.one n k.node k.session i k.i (Commit s k.start keys) k.held.request (progress.Settled c by) k.held.progress at k.at here (held_by k.i k.session k.held k.has) in
    let same : i ≡ k.i = one_instance w.nodes k.node i k.i (subst (λ m. InstanceAt w.nodes m i) node at) k.at in
    let one : here.held ≡ k.held = one_held k.i k.session here.held k.held (ap (λ (x : InstanceEntry). held_of x k.session) (sym same) ∙ here.has) k.has in
    drawn_no_settled k.commit c by (sym k.drawn ∙ (ap (λ x. x.progress) (sym one) ∙ here.stands))

-- ---- what is settled now
-- the commit is settled so
pub record IsNow (w : State) (k : AtDrawn w) (by : Settled) (n s t c : ℕ) (how_ : Settled) (term : ℕ) : Type 0 where
  pub node_is : n ≡ k.node
  pub session_is : s ≡ k.session
  pub start_is : t ≡ k.start
  pub commit_is : c ≡ k.commit
  pub by_is : how_ ≡ by
  pub term_is : term ≡ k.i.term

commit_parts : (r t : ℕ) (keys : List ℕ) (s u : ℕ) (more : List ℕ) → Commit r t keys ≡ Commit s u more → t ≡ u
commit_parts r t keys s u more same = cc

settled_parts : (c d : ℕ) (by how_ : Settled) → progress.Settled c by ≡ progress.Settled d how_ → (d ≡ c) × (how_ ≡ by)
settled_parts c d by how_ same = (cc, cc)

pub settled_now : (w : State) (k : AtDrawn w) (by : Settled) (n s t c : ℕ) (how_ : Settled) (j : InstanceEntry) → SettledAt (slice_set w.nodes k.node (Some (moved k.i k.session k.held (progress.Settled k.commit by)))) n s t c how_ j → IsNow w k by n s t c how_ j.term ⊎ ((i : InstanceEntry) × SettledAt w.nodes n s t c how_ i × (j.term ≡ i.term))
settled_now w k by n s t c how_ j (at, (keys, held)) = elim (instance_changed w.nodes k.node n (moved k.i k.session k.held (progress.Settled k.commit by)) j at) [
  | inl here ↦
      let mine : HeldBy (moved k.i k.session k.held (progress.Settled k.commit by)) s (Commit s t keys) (progress.Settled c how_) = subst (λ (x : InstanceEntry). HeldBy x s (Commit s t keys) (progress.Settled c how_)) here.1 held in
      elim (held_set k.i k.session s (Some (record k.held { progress = progress.Settled k.commit by })) mine.held mine.has) [
        | inl now ↦
            let same : record k.held { progress = progress.Settled k.commit by } ≡ mine.held = same_Some (record k.held { progress = progress.Settled k.commit by }) mine.held now.1 in
            let parts = settled_parts k.commit c by how_ (ap (λ x. x.progress) same ∙ mine.stands) in
            inl (record {
              node_is = here.0;
              session_is = now.0;
              start_is = sym (commit_parts k.asker k.start k.keys s t keys (sym k.request_is ∙ (ap (λ x. x.request) same ∙ mine.asks)));
              commit_is = parts.0;
              by_is = parts.1;
              term_is = ap (λ x. x.term) here.1;
            })
        | inr old ↦ inr (k.i, (subst (λ q. InstanceAt w.nodes q k.i) (sym here.0) k.at, (keys, record { held = mine.held; has = old.1; asks = mine.asks; stands = mine.stands })), ap (λ x. x.term) here.1)
      ]
  | inr there ↦ inr (j, (there.1, (keys, held)), refl)
]

-- it was begun and drawn
pub settled_here : (w : State) (h g : List Item) (k : AtDrawn w) (by : Settled) (n s t c : ℕ) (how_ : Settled) (term : ℕ) → GoesOn h g → IsolationInvariant w h → IsSettled g k.start k.commit by → IsNow w k by n s t c how_ term → SettledOne g n s term t c how_
settled_here w h g k by n s t c how_ term on holds settled now =
    let mine : Pending w.clients w.nodes (in_flight_of w k) = inl (drawn_pending w k holds.requests.requests) in
    let one : SettledOne g k.node k.session k.i.term k.start k.commit by = record {
      begun = on (Begin k.session k.start) (holds.requests.pending.begun (in_flight_of w k) mine);
      drawn = on (Draw k.session k.node k.i.term k.start (Some k.commit)) (drew_commit w h k holds);
      settled = settled;
    } in
    rw (now.node_is, now.session_is, now.start_is, now.commit_is, now.by_is, now.term_is) one
