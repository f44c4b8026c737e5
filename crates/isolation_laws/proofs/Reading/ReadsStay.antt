-- Reads under way, past reads and their answers after the outcomes that answer no read.
use Rattle.isolation_laws.proofs.Names.{◌≡◌, ◌≢◌, ℕ, ◌==◌, ◌&&◌, ◌<◌, if◌then◌else◌, List, [], ◌∷◌, ◌++◌, append_assoc}
use Rattle.isolation_laws.proofs.Names.{Option, Some, None, inl, inr, refl, sym, ◌∙◌, ap, subst, arith, slice_get}
use Rattle.isolation_laws.proofs.Names.{option_or, ne_eqb, none-some, append-nil, CommittedMark, InvalidMark}
use Rattle.isolation_laws.proofs.Names.{SetupNumbers, ◌∈◌, AtEach, Committed, last_write, written_by, RightRead, Found}
use Rattle.isolation_laws.proofs.Names.{Item, Draw, Write, Read, Placed, last_write-push, AtEach-push, Row, Pairs}
use Rattle.isolation_laws.proofs.Names.{mark_of, Request, BeginRequest, Commit, InstanceEntry, Client, State, draw_item}
use Rattle.isolation_laws.proofs.Names.{epoch_or_none, OpenAt, Begun, IsStageBelow, ComesBelow, IsPending, AllQuiet}
use Rattle.isolation_laws.proofs.Names.{AreReading, AreLastingReads, IsolationInvariant, one_client, Accepted}
use Rattle.isolation_laws.proofs.Names.{AcceptedSteadily, accepted_state, AtOpen, WroteOne, wrote_state, wrote_items}
use Rattle.isolation_laws.proofs.Names.{WriteFailed}
use Rattle.isolation_laws.proofs.OnceEach.{begun_once}
use Rattle.isolation_laws.proofs.Owners.{open_unplaced, accepts_now, begun_below_last}
use Rattle.isolation_laws.proofs.Pushed.{not_true, in_append, quiet_in, last_write-quiet}
use Rattle.isolation_laws.proofs.Requests.PendingAfter.{FewerPending, fewer_pending}
use Rattle.isolation_laws.proofs.Requests.OpenAfter.{at_work_wrote}
use Rattle.isolation_laws.proofs.Requests.PendingFewer.{same_served, fewer_comes}
use Rattle.isolation_laws.proofs.Requests.PendingMoved.{comes_accepted}
use Rattle.isolation_laws.proofs.Requests.CommitsInFlight.{goes_on}
use Rattle.isolation_laws.proofs.Requests.SettledNow.{Places, places}
use Rattle.isolation_laws.proofs.Requests.RequestsOfWrites.{wrote_open, wrote_not_pending}
use Rattle.isolation_laws.proofs.Stores.StoresStay.{ShadowsStay, marks_put, shadows_same, shadows_put}
use Rattle.isolation_laws.proofs.Reading.ReadersRely.{WasComing, IsReader, IsWritten, RelyOn, open_now_begun, reading_kept, lasts_on, right_kept}
use Rattle.isolation_laws.proofs.Reading.ClientsReading.{FewerReading, reading_fewer, idle_reads}
use Rattle.isolation_laws.proofs.Stores.Calm.{write_places_none}
use Rattle.isolation_laws.proofs.Numbers.Placings.{PlacedPending, placed_item, placed_pairs, placed_drew}

-- ---- items that answer no read
abbrev pub NoReads : List Item → Type 0
NoReads items = (s b k : ℕ) (answer : Option Found) → Read s b k answer ∈ items → ⊥

pub quiet_no_reads : (items : List Item) → AllQuiet items → NoReads items
quiet_no_reads items quiet s b k answer m = not_true (quiet_in (Read s b k answer) items quiet m)

pub then_no_reads : (x : Item) (items : List Item) → ((s b k : ℕ) (answer : Option Found) → Read s b k answer ≡ x → ⊥) → NoReads items → NoReads (x ∷ items)
unfolding ◌∈◌
then_no_reads x items other none s b k answer (inl here) = other s b k answer here
then_no_reads x items other none s b k answer (inr deeper) = none s b k answer deeper

pub none_no_reads : NoReads []
unfolding ◌∈◌
none_no_reads s b k answer m = m

pub one_no_reads : (x : Item) → ((s b k : ℕ) (answer : Option Found) → Read s b k answer ≡ x → ⊥) → NoReads (x ∷ [])
one_no_reads x other = then_no_reads x [] other none_no_reads

draw_reads_none : (node term : ℕ) (request : Request) (stamp s b k : ℕ) (answer : Option Found) → Read s b k answer ≡ draw_item node term request stamp → ⊥
draw_reads_none node term (BeginRequest session) stamp s b k answer is = cc
draw_reads_none node term (Commit session start keys) stamp s b k answer is = cc

pub draw_no_reads : (node term : ℕ) (request : Request) (stamp : ℕ) → NoReads (draw_item node term request stamp ∷ [])
draw_no_reads node term request stamp = one_no_reads (draw_item node term request stamp) (draw_reads_none node term request stamp)

-- no answer is wrong where none is given
right_none : (g before : List Item) (x : Item) → ((s b k : ℕ) (answer : Option Found) → Read s b k answer ≡ x → ⊥) → RightRead g before x
right_none g before (Read s b k answer) none = absurd (none s b k answer refl)
right_none g before _ none = tt

pub rights_more : (g h items : List Item) → NoReads items → AtEach (RightRead g) h → AtEach (RightRead g) (h ++ items)
unfolding ◌∈◌
rights_more g h [] none rights = subst (AtEach (RightRead g)) (sym (append-nil h)) rights
rights_more g h (x ∷ items) none rights = subst (AtEach (RightRead g)) (append_assoc h (x ∷ []) items)
    (rights_more g (h ++ x ∷ []) items (λ s b k answer m. none s b k answer (inr m)) (AtEach-push (RightRead g) h x rights (right_none g h x (λ s b k answer is. none s b k answer (inl is)))))

-- ---- what an outcome leaves of reads
pub record ReadsRight (setup : SetupNumbers) (clients : List Client) (nodes : List (Option InstanceEntry)) (rows : List Row) (pairs : Pairs) (g : List Item) : Type 0 where
  pub reading : AreReading setup clients nodes rows pairs g
  pub lasting : AreLastingReads clients nodes pairs g
  pub rights : AtEach (RightRead g) g

pub reads_stay : (w : State) (h items : List Item) (nodes : List (Option InstanceEntry)) (rows : List Row) (pairs : Pairs) (clients : List Client) → NoReads items → RelyOn w h clients nodes rows pairs (h ++ items) → FewerReading w.clients clients → IsolationInvariant w h → ReadsRight w.setup clients nodes rows pairs (h ++ items)
reads_stay w h items nodes rows pairs clients none rely fewer holds = record {
  reading = reading_fewer w.setup w.clients clients nodes rows pairs (h ++ items) fewer (reading_kept w h clients nodes rows pairs (h ++ items) rely holds);
  lasting = record {
    lasts = λ s b k u answer value m comes wrote. elim (in_append (Read s b k answer) h items m) [
      | inl old ↦ lasts_on w h clients nodes rows pairs (h ++ items) s b k u answer value rely holds old comes wrote
      | inr new ↦ absurd (none s b k answer new)
    ];
  };
  rights = rights_more (h ++ items) h items none (right_kept w h clients nodes rows pairs (h ++ items) rely holds);
}

-- ---- what comes below a start
abbrev pub NoneComes : State → List Item → List Client → List (Option InstanceEntry) → Type 0
NoneComes w h clients nodes = (r b u : ℕ) → Begun h r b → ComesBelow clients nodes b u → ComesBelow w.clients w.nodes b u

pub none_comes : (w : State) (h : List Item) (clients : List Client) (nodes : List (Option InstanceEntry)) → FewerPending w.clients w.nodes clients nodes → NoneComes w h clients nodes
none_comes w h clients nodes fewer r b u begun c = fewer_comes w.clients clients w.nodes nodes b u fewer c

pub same_comes : (w : State) (h : List Item) → NoneComes w h w.clients w.nodes
same_comes w h r b u begun c = c

-- what is accepted comes below no start that was begun
pub none_comes_accepted : (w : State) (h : List Item) (k : Accepted w) → AcceptedSteadily w k → IsolationInvariant w h → NoneComes w h w.clients (accepted_state w k).nodes
none_comes_accepted w h k steady holds r b u begun c = elim (comes_accepted w k b u c) [
  | inl old ↦ old
  | inr (q, taken, start, below) ↦
      let now : k.i.term ≡ w.master.term = accepts_now w.setup w.seen k.reading k.node w.nodes w.master k.i holds.numbers.ranges holds.numbers.leases k.at steady k.in_time in
      absurd (omega (arith, below, begun_below_last w.nodes w.master h k.node k.i r b holds.numbers.ranges holds.numbers.drawn holds.numbers.begun k.at now begun))
]

-- ---- a commit is placed
placed_writes : (h items : List Item) (t c u k : ℕ) → AllQuiet items → last_write (h ++ Placed t c ∷ items) u k ≡ last_write h u k
placed_writes h items t c u k quiet =
    let one : last_write (h ++ Placed t c ∷ []) u k ≡ last_write h u k = last_write-push h (Placed t c) u k in
    ap (λ xs. last_write xs u k) (sym (append_assoc h (Placed t c ∷ []) items)) ∙ (last_write-quiet (h ++ Placed t c ∷ []) items u k quiet ∙ one)

placed_comes : (w : State) (h : List Item) (p : PlacedPending w) (b u d : ℕ) → IsolationInvariant w h → u ≡ p.coming.start → d ≡ p.commit → d < b → WasComing w h b u d
placed_comes w h p b u d holds start commit below =
    let q = p.coming in
    let drew = (placed_drew w h p holds).0 in
    record {
      comes = record {
        coming = q;
        pending = p.pending;
        start_is = sym start;
        below = subst (IsStageBelow b) (sym p.has) (subst (λ x. x < b) commit below);
      };
      unmarked = λ marked. none-some InvalidMark (sym p.free ∙ (ap (mark_of w.pairs) (sym start) ∙ marked));
      drew = (q.session, drew.0, drew.1, subst (λ x. Draw q.session drew.0 drew.1 x (Some d) ∈ h) (sym start) (subst (λ y. Draw q.session drew.0 drew.1 q.start (Some y) ∈ h) (sym commit) drew.2));
    }

pub rely_placed : (w : State) (h : List Item) (p : PlacedPending w) (clients : List Client) (nodes : List (Option InstanceEntry)) (items : List Item) → AllQuiet items → FewerPending w.clients w.nodes clients nodes → IsolationInvariant w h → RelyOn w h clients nodes w.rows (placed_pairs w p) (h ++ placed_item w p ∷ items)
rely_placed w h p clients nodes items quiet fewer holds =
    let t = p.coming.start in
    let now : Places h (h ++ placed_item w p ∷ items) t p.commit = places h items t p.commit quiet in
    record {
      on = now.on;
      placed = λ b u d placed less. elim (now.placed u d placed) [
        | inl old ↦ inl old
        | inr new ↦ inr (placed_comes w h p b u d holds new.0 new.1 less)
      ];
      comes = none_comes w h clients nodes fewer;
      marks = marks_put w.pairs t (CommittedMark p.commit);
      writes = λ u key written. placed_writes h items t p.commit u key quiet;
      shadows = shadows_same h w.rows;
    }

-- ---- a value is written: by a transaction that is not placed, does not come and does not read
other_write : (t u k j : ℕ) (value : List ℕ) (s : ℕ) → t ≢ u → written_by u j (Write s t k value) ≡ None
other_write t u k j value s other = ap (λ b. if b && (k == j) then Some value else None) (ne_eqb t u other)

open_epoch : (w : State) (it : AtOpen w) (start : ℕ) → it.c.entry.start ≡ Some start → OpenAt w.clients it.session start (epoch_or_none it.c.entry.epoch)
open_epoch w it start is = record { client = it.c; at = it.client_at; state_is = it.is_open; start_is = is; epoch_is = refl }

pub open_not_placed : (w : State) (h : List Item) (it : AtOpen w) (start c : ℕ) → IsolationInvariant w h → it.c.entry.start ≡ Some start → Committed h start c → ⊥
open_not_placed w h it start c holds is placed = open_unplaced w.clients h start c holds.numbers.placed holds.requests.opened (record { session = it.session; epoch = epoch_or_none it.c.entry.epoch; open_at = open_epoch w it start is }) placed

-- its session does nothing else
idle_no_reader : (w : State) (h : List Item) (k : WroteOne w) → IsolationInvariant w h → IsReader w.clients k.start → ⊥
idle_no_reader w h k holds reader =
    let mine : Begun h k.it.session k.start = open_now_begun w h k.it.session k.start (epoch_or_none k.it.c.entry.epoch) holds (wrote_open w k) in
    let theirs : Begun h reader.session k.start = open_now_begun w h reader.session k.start reader.epoch holds reader.is_open in
    let session : reader.session ≡ k.it.session = begun_once h reader.session k.it.session k.start holds.isolated.stamped theirs mine in
    let same : reader.client ≡ k.it.c = one_client w.clients k.it.session reader.client k.it.c (subst (λ s. slice_get w.clients s ≡ Some reader.client) session reader.at) k.it.client_at in
    idle_reads k.it.c k.it.idle reader.reading (sym (ap (λ (c : Client). c.under_way) same) ∙ reader.reads)

written_other : (w : State) (h : List Item) (k : WroteOne w) (u : ℕ) → IsolationInvariant w h → IsWritten w h u → k.start ≢ u
written_other w h k u holds (inl (c, placed)) same = open_not_placed w h k.it k.start c holds k.start_is (subst (λ t. Committed h t c) (sym same) placed)
written_other w h k u holds (inr (inl pending)) same = wrote_not_pending w h k holds (subst (IsPending w.clients w.nodes) (sym same) pending)
written_other w h k u holds (inr (inr reader)) same = idle_no_reader w h k holds (subst (IsReader w.clients) (sym same) reader)

pub rely_wrote : (w : State) (h : List Item) (k : WroteOne w) → IsolationInvariant w h → RelyOn w h (wrote_state w k).clients w.nodes (wrote_state w k).rows w.pairs (h ++ wrote_items w k)
rely_wrote w h k holds = record {
  on = goes_on h (wrote_items w k);
  placed = λ b u d placed less. inl (write_places_none h k.it.session k.start k.key k.value u d placed);
  comes = none_comes w h (wrote_state w k).clients w.nodes (fewer_pending w.clients (wrote_state w k).clients w.nodes w.nodes (at_work_wrote w k).placing (same_served w.nodes));
  marks = λ u marked. marked;
  writes = λ u key written. last_write-push h (Write k.it.session k.start k.key k.value) u key ∙ ap (λ o. option_or o (last_write h u key)) (other_write k.start u k.key key k.value k.it.session (written_other w h k u holds written));
  shadows = shadows_put h w.rows k.key k.start k.value (λ c placed. open_not_placed w h k.it k.start c holds k.start_is placed);
}

-- a write that failed may have put its cell
pub shadows_failed : (w : State) (h : List Item) (k : WriteFailed w) → IsolationInvariant w h → ShadowsStay h w.rows k.rows
shadows_failed w h k holds = elim k.rows_are [
  | inl same ↦ subst (λ (rows : List Row). ShadowsStay h w.rows rows) (sym same) (shadows_same h w.rows)
  | inr put ↦ subst (λ (rows : List Row). ShadowsStay h w.rows rows) (sym put) (shadows_put h w.rows k.key k.start k.value (λ c placed. open_not_placed w h k.it k.start c holds k.start_is placed))
]
