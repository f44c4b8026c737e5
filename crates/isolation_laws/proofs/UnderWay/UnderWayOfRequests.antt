-- What is under way where a request is asked, is over, or is answered, and where a commit is placed.
use Rattle.isolation_laws.proofs.Names.{◌≡◌, ℕ, true, IsTrue, List, [], ◌∷◌, ◌++◌, append_assoc, Some, ◌⊎◌, inl, inr}
use Rattle.isolation_laws.proofs.Names.{refl, sym, ◌∙◌, ap, subst, same_Some, CommittedMark, InvalidMark, Committed}
use Rattle.isolation_laws.proofs.Names.{last_write, Item, AskBegin, BeginItem, Placed, Row, entry_stays-put_pair}
use Rattle.isolation_laws.proofs.Names.{SessionState, has_transaction, Held, Request, Commit, Settled, InstanceEntry}
use Rattle.isolation_laws.proofs.Names.{held_of, session_of, Client, State, client_begun, client_asked, client_freed}
use Rattle.isolation_laws.proofs.Names.{client_aborted, client_opened, client_handed, unless_gone, after_refusal}
use Rattle.isolation_laws.proofs.Names.{after_loss, InstanceAt, ClientAt, Begun, Waits, Taken, IsPending, WaitsFor}
use Rattle.isolation_laws.proofs.Names.{IsSettled, AllQuiet, UnderWayFacts, IsolationInvariant, held_by, Crashed}
use Rattle.isolation_laws.proofs.Names.{crashed_state, AskedBegin, asked_begin_state, asked_begin_items, AskedCommit}
use Rattle.isolation_laws.proofs.Names.{asked_commit_state, Ended, ended_state, AnsweredBegin, answered_begin_state}
use Rattle.isolation_laws.proofs.Names.{answered_begin_items, answered_client, AnsweredCommit, answered_commit_state}
use Rattle.isolation_laws.proofs.Names.{HandedOver, handed_over_state}
use Rattle.system_parts.specs.declared.session.State.TheVariants as phase
use Rattle.system_parts.specs.declared.instance.Progress.TheVariants as progress
use Rattle.system_parts.specs.declared.instance.Request.TheVariants.{Begin}
use Rattle.system_parts.specs.declared.instance.Settled.TheVariants as how
use Rattle.isolation_laws.proofs.Pushed.{last_write-quiet}
use Rattle.isolation_laws.proofs.Owners.{NoneInFlight, not_in_flight, pending_unplaced}
use Rattle.isolation_laws.proofs.Requests.OpenAfter.{crashed_at}
use Rattle.isolation_laws.proofs.Requests.SettledNow.{Places, places}
use Rattle.isolation_laws.proofs.Stores.Calm.{Calm, calm_same, calm_quiet, calm_push, last_write-other}
use Rattle.isolation_laws.proofs.Stores.CellsMove.{IsPlacing}
use Rattle.isolation_laws.proofs.UnderWay.Works.{Works, AllWork, under_way, KeepsPlaced, works_on, sweeping_on}
use Rattle.isolation_laws.proofs.UnderWay.ClientWorks.{works_freed, works_opened, works_begun, works_asked, works_aborted, works_committed, works_handed, works_unless}
use Rattle.isolation_laws.proofs.Stores.StoreMoves.{keeps_same}
use Rattle.isolation_laws.proofs.UnderWay.SessionMoves.{completing_in_none, work_of, start_of, under_way_calm, under_way_client}
use Rattle.isolation_laws.proofs.Requests.RequestsOfNodes.{waits_for}
use Rattle.isolation_laws.proofs.Numbers.Placings.{PlacedPending, placed_item, placed_pairs}

-- ---- a crash
loss_works : (rows : List Row) (h : List Item) (request : Request) (c : Client) → Works rows h c → Works rows h (after_loss request c)
loss_works rows h (Begin s) c works = works_unless rows h c (client_freed c) works (λ here. works_freed rows h c)
loss_works rows h (Commit s t keys) c works = works_unless rows h c (client_opened c) works (λ here. works_opened rows h c)

crashed_works : (w : State) (h : List Item) (k : Crashed w) → IsolationInvariant w h → AllWork (crashed_state w k).clients w.rows h
crashed_works w h k holds s c at =
    let old = crashed_at k.i.requests w.clients s c at in
    let was : Works w.rows h old.0 = work_of w h s old.0 holds old.1 in
    elim old.2 [
      | inl same ↦ subst (λ (x : Client). Works w.rows h x) (sym same) was
      | inr lost ↦ subst (λ (x : Client). Works w.rows h x) (sym lost.2) (loss_works w.rows h lost.0.request old.0 was)
    ]

pub under_way_crashed : (w : State) (h : List Item) (k : Crashed w) → IsolationInvariant w h → UnderWayFacts (crashed_state w k).clients w.sweep w.rows w.pairs (h ++ k.items)
under_way_crashed w h k holds = under_way_calm w h (h ++ k.items) (crashed_state w k).clients w.rows w.pairs holds (keeps_same w.rows h h (calm_same h)) (λ t marked. marked) (calm_quiet h k.items k.quiet) (crashed_works w h k holds)

-- ---- asks
pub calm_ask : (h : List Item) (s n : ℕ) → Calm h (h ++ AskBegin s n ∷ [])
calm_ask h s n = calm_push h (AskBegin s n) (record { writes = λ u k. refl; placed = λ u c is. cc })

pub under_way_asked_begin : (w : State) (h : List Item) (k : AskedBegin w) → IsolationInvariant w h → UnderWayFacts (asked_begin_state w k).clients w.sweep w.rows w.pairs (h ++ asked_begin_items w k)
under_way_asked_begin w h k holds = under_way_client w h (h ++ asked_begin_items w k) k.session (client_asked k.c) holds (calm_ask h k.session k.node) (works_asked w.rows h k.c)

pub under_way_asked_commit : (w : State) (h : List Item) (k : AskedCommit w) → IsolationInvariant w h → UnderWayFacts (asked_commit_state w k).clients w.sweep w.rows w.pairs (h ++ k.items)
under_way_asked_commit w h k holds = under_way_client w h (h ++ k.items) k.session (client_asked k.c) holds (calm_quiet h k.items k.quiet) (works_asked w.rows h k.c)

-- ---- a request is over
own_request : (w : State) (h : List Item) (n s r t : ℕ) (keys : List ℕ) (i : InstanceEntry) (held : Held) → IsolationInvariant w h → InstanceAt w.nodes n i → held_of i s ≡ Some held → held.request ≡ Commit r t keys → held.request ≡ Commit s t keys
own_request w h n s r t keys i held holds at has is =
    let mine : session_of held.request ≡ s = holds.requests.requests.own n s i held.request held.progress at (held_by i s held has) in
    is ∙ ap (λ q. Commit q t keys) (ap session_of (sym is) ∙ mine)

refusal_works : (rows : List Row) (h : List Item) (request : Request) (c : Client) → Works rows h c → WaitsFor request c → ((s t d : ℕ) (keys : List ℕ) → request ≡ Commit s t keys → Committed h t d → ⊥) → Works rows h (after_refusal request c)
refusal_works rows h (Begin s) c works waits unplaced = works_unless rows h c (client_freed c) works (λ here. works_freed rows h c)
refusal_works rows h (Commit s t keys) c works waits unplaced = works_unless rows h c (client_aborted c) works (λ here. elim waits [
  | inl gone ↦ absurd (here gone)
  | inr asked ↦ works_aborted rows h c t asked.1 (λ d placed. unplaced s t d keys refl placed)
])

-- one that had drawn nothing was in flight
ended_pending : (w : State) (h : List Item) (k : Ended w) (s t : ℕ) (keys : List ℕ) → IsolationInvariant w h → k.held.request ≡ Commit s t keys → IsPending w.clients w.nodes t
ended_pending w h k s t keys holds is =
    let own : k.held.request ≡ Commit k.session t keys = own_request w h k.node k.session s t keys k.i k.held holds k.at k.has is in
    elim k.undrawn [
      | inl asked ↦ record {
        coming = record { session = k.session; start = t; keys = keys; stage = Waits };
        pending = inl (record { node = k.node; instance_of = k.i; progress_of = progress.Asked; at = k.at; held = record { held = k.held; has = k.has; asks = own; stands = asked }; stage_is = refl });
        start_is = refl;
      }
      | inr accepted ↦ record {
        coming = record { session = k.session; start = t; keys = keys; stage = Taken k.i.last };
        pending = inl (record { node = k.node; instance_of = k.i; progress_of = progress.Accepted; at = k.at; held = record { held = k.held; has = k.has; asks = own; stands = accepted }; stage_is = refl });
        start_is = refl;
      }
    ]

pub under_way_ended : (w : State) (h : List Item) (k : Ended w) → IsolationInvariant w h → UnderWayFacts (ended_state w k).clients w.sweep w.rows w.pairs (h ++ k.items)
under_way_ended w h k holds = under_way_client w h (h ++ k.items) k.session (after_refusal k.held.request k.c) holds (calm_quiet h k.items k.quiet)
    (refusal_works w.rows h k.held.request k.c (work_of w h k.session k.c holds k.client_at) (waits_for w h k.node k.session k.i k.held k.c holds k.at k.has k.client_at)
    (λ s t d keys is placed. pending_unplaced w.clients w.nodes h t d holds.numbers.placed holds.requests.pending (ended_pending w h k s t keys holds is) placed))

-- ---- answers
pub calm_begin : (h : List Item) (s t : ℕ) → Calm h (h ++ BeginItem s t ∷ [])
calm_begin h s t = calm_push h (BeginItem s t) (record { writes = λ u k. refl; placed = λ u c is. cc })

pub under_way_answered_begin : (w : State) (h : List Item) (k : AnsweredBegin w) → IsolationInvariant w h → UnderWayFacts (answered_begin_state w k).clients w.sweep w.rows w.pairs (h ++ answered_begin_items w k)
under_way_answered_begin w h k holds = under_way_client w h (h ++ answered_begin_items w k) k.session (unless_gone k.c (client_begun k.c k.start k.i.epoch)) holds (calm_begin h k.session k.start)
    (works_unless w.rows h k.c (client_begun k.c k.start k.i.epoch) (work_of w h k.session k.c holds k.client_at) (λ here. works_begun w.rows h k.c k.start k.i.epoch))

-- the session waits for the answer, or has vanished
answered_works : (w : State) (h : List Item) (s t commit : ℕ) (by : Settled) (c : Client) → IsolationInvariant w h → ClientAt w.clients s c → c.entry.state ≡ phase.Committing → c.entry.start ≡ Some t → IsSettled h t commit by → Works w.rows h (answered_client by c commit)
answered_works w h s t commit how.Placed c holds at is start settled = works_committed w.rows h c t commit start (holds.requests.keys.written s t c at (inr (inl is)) start) settled
answered_works w h s t commit how.Invalid c holds at is start settled = works_aborted w.rows h c t start settled
answered_works w h s t commit how.Faulted c holds at is start settled = works_opened w.rows h c

waits_commit : (request : Request) (s t : ℕ) (keys : List ℕ) (c : Client) → request ≡ Commit s t keys → WaitsFor request c → (c.entry.state ≡ phase.Gone) ⊎ ((c.entry.state ≡ phase.Committing) × (c.entry.start ≡ Some t))
waits_commit request s t keys c is waits = subst (λ (r : Request). WaitsFor r c) is waits

answered_commit_works : (w : State) (h : List Item) (k : AnsweredCommit w) → IsolationInvariant w h → Works w.rows h (unless_gone k.c (answered_client k.by k.c k.commit))
answered_commit_works w h k holds =
    let own : k.held.request ≡ Commit k.session k.start k.keys = own_request w h k.node k.session k.asker k.start k.keys k.i k.held holds k.at k.has k.request_is in
    let settled : IsSettled h k.start k.commit k.by = holds.requests.settled.settled k.node k.session k.start k.commit k.keys k.by k.i k.at (record { held = k.held; has = k.has; asks = own; stands = k.settled }) in
    works_unless w.rows h k.c (answered_client k.by k.c k.commit) (work_of w h k.session k.c holds k.client_at) (λ here. elim (waits_commit k.held.request k.session k.start k.keys k.c own (waits_for w h k.node k.session k.i k.held k.c holds k.at k.has k.client_at)) [
      | inl gone ↦ absurd (here gone)
      | inr asked ↦ answered_works w h k.session k.start k.commit k.by k.c holds k.client_at asked.0 asked.1 settled
    ])

pub under_way_answered_commit : (w : State) (h : List Item) (k : AnsweredCommit w) → IsolationInvariant w h → UnderWayFacts (answered_commit_state w k).clients w.sweep w.rows w.pairs (h ++ k.items)
under_way_answered_commit w h k holds = under_way_client w h (h ++ k.items) k.session (unless_gone k.c (answered_client k.by k.c k.commit)) holds (calm_quiet h k.items k.quiet) (answered_commit_works w h k holds)

pub under_way_handed : (w : State) (h : List Item) (k : HandedOver w) → IsolationInvariant w h → UnderWayFacts (handed_over_state w k).clients w.sweep w.rows w.pairs (h ++ k.items)
under_way_handed w h k holds = under_way_client w h (h ++ k.items) k.session (unless_gone k.c (client_handed k.c k.commit)) holds (calm_quiet h k.items k.quiet)
    (works_unless w.rows h k.c (client_handed k.c k.commit) (work_of w h k.session k.c holds k.client_at) (λ here. works_handed w.rows h k.c k.commit))

-- ---- a commit is placed
pub is_placing : (h items : List Item) (t c : ℕ) → AllQuiet items → IsPlacing h (h ++ Placed t c ∷ items) t c
is_placing h items t c quiet =
    let brings : Places h (h ++ Placed t c ∷ items) t c = places h items t c quiet in
    record {
      on = brings.on;
      placed = brings.placed;
      here = brings.here;
      writes = λ u k. subst (λ (g : List Item). last_write g u k ≡ last_write h u k) (append_assoc h (Placed t c ∷ []) items)
          (last_write-quiet (h ++ Placed t c ∷ []) items u k quiet ∙ last_write-other h (Placed t c) u k refl);
    }

outcome_in_none : NoneInFlight phase.OpenOutcome
outcome_in_none = record { gone = λ is. cc; committing = λ is. cc; placing = λ is. cc }

-- the transaction in flight is no session's that completes, or whose outcome is open
placed_elsewhere : (w : State) (h : List Item) (p : PlacedPending w) (s u : ℕ) (c : Client) (state : SessionState) → IsolationInvariant w h → ClientAt w.clients s c → c.entry.state ≡ state → IsTrue (has_transaction state) → NoneInFlight state → c.entry.start ≡ Some u → u ≡ p.coming.start → ⊥
placed_elsewhere w h p s u c state holds at is has none start same =
    let begun = start_of w h s c state holds at is has in
    let own : begun.0 ≡ p.coming.start = same_Some begun.0 u (sym begun.1 ∙ start) ∙ same in
    not_in_flight w.nodes w.clients h state s p.coming.start c holds.isolated.stamped holds.requests.requests holds.requests.pending at is none (subst (λ q. Begun h s q) own begun.2)
    (record { coming = p.coming; pending = p.pending; start_is = refl })

-- all clients' work stays right, and so does the sweep
pub placed_keeps : (w : State) (h : List Item) (p : PlacedPending w) (items : List Item) → AllQuiet items → KeepsPlaced w.rows w.rows h (h ++ placed_item w p ∷ items)
placed_keeps w h p items quiet =
    let places_it : IsPlacing h (h ++ placed_item w p ∷ items) p.coming.start p.commit = is_placing h items p.coming.start p.commit quiet in
    record { on = places_it.on; writes = λ t c j is. places_it.writes t j; shadows = λ t c j is has. has }

pub placed_works : (w : State) (h : List Item) (p : PlacedPending w) (items : List Item) → AllQuiet items → IsolationInvariant w h → AllWork w.clients w.rows (h ++ placed_item w p ∷ items)
placed_works w h p items quiet holds s c at =
    works_on w.rows w.rows h (h ++ placed_item w p ∷ items) c (placed_keeps w h p items quiet) (λ t d start is placed. elim ((is_placing h items p.coming.start p.commit quiet).placed t d placed) [
      | inl old ↦ old
      | inr now ↦ elim is [
        | inl undoes ↦ absurd (placed_elsewhere w h p s t c (phase.Completing true) holds at undoes refl (completing_in_none true) start now.0)
        | inr resolves ↦ absurd (placed_elsewhere w h p s t c phase.OpenOutcome holds at resolves refl outcome_in_none start now.0)
      ]
    ]) (work_of w h s c holds at)

pub under_way_placing : (w : State) (h : List Item) (p : PlacedPending w) (clients : List Client) (items : List Item) → AllQuiet items → AllWork clients w.rows (h ++ placed_item w p ∷ items) → IsolationInvariant w h → UnderWayFacts clients w.sweep w.rows (placed_pairs w p) (h ++ placed_item w p ∷ items)
under_way_placing w h p clients items quiet work holds =
    under_way clients w.sweep w.rows (placed_pairs w p) (h ++ placed_item w p ∷ items) work
    (sweeping_on w.sweep w.rows w.rows w.pairs (placed_pairs w p) h (h ++ placed_item w p ∷ items) (placed_keeps w h p items quiet) (λ t marked. entry_stays-put_pair w.pairs p.coming.start t (CommittedMark p.commit) InvalidMark marked) holds.under_way.sweeping)

pub under_way_placed : (w : State) (h : List Item) (p : PlacedPending w) (items : List Item) → AllQuiet items → IsolationInvariant w h → UnderWayFacts w.clients w.sweep w.rows (placed_pairs w p) (h ++ placed_item w p ∷ items)
under_way_placed w h p items quiet holds = under_way_placing w h p w.clients items quiet (placed_works w h p items quiet holds) holds
