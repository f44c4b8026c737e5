-- Every outcome keeps it so that what clients remember is true, and that the cells of their reads were written.
use Rattle.isolation_laws.proofs.Names.{Outcome, OfVanished, OfFetched, OfReadDropped, OfReadStepped, left_by}
use Rattle.isolation_laws.proofs.Names.{told_by_outcome, ◌≡◌, ℕ, All, List, ◌∷◌, ◌++◌, inl, inr, refl, sym, ◌∙◌, ap}
use Rattle.isolation_laws.proofs.Names.{subst, slice_set, All-weaker, Item, Placed, in_front, Cell, fetched, front_of}
use Rattle.isolation_laws.proofs.Names.{Pairs, Known, Told, Cache, put_fresh, cache_learnt, learnt_by, Reading}
use Rattle.isolation_laws.proofs.Names.{ReadTurn, Asks, Answers, read_ask, Reads, Client, State, pairs_after, told_by}
use Rattle.isolation_laws.proofs.Names.{marks_every, client_read, ClientAt, IsTrueOf, IsTrueCache, AreKnown}
use Rattle.isolation_laws.proofs.Names.{IsWrittenCell, AreWrittenCells, KnownFacts, IsolationInvariant, client_set}
use Rattle.isolation_laws.proofs.Names.{fetched_recall, fetched_turn, fetched_client, fetched_items, read_recall}
use Rattle.isolation_laws.proofs.Names.{read_turn, read_client, read_stepped_items}
use Rattle.system_parts.specs.declared.known.Known.TheVariants as known
use Rattle.isolation_laws.proofs.Reading.ClientsReading.{FewerReading, nothing_reads}
use Rattle.isolation_laws.proofs.Reading.FirstReads.{wrote_on}
use Rattle.isolation_laws.proofs.Reading.KeptReads.{SameCaches, read_remembers, caches_keep}
use Rattle.isolation_laws.proofs.Reading.ReadsLonger.{reads_same}
use Rattle.isolation_laws.proofs.Reading.ReadsOfReads.{stepped_right, fetched_good}
use Rattle.isolation_laws.proofs.Reading.ReadSetsOfTurns.{IsTurnOf, fetched_recall_of, told_recall_of}
use Rattle.isolation_laws.proofs.Stores.Calm.{calm_turn}
use Rattle.isolation_laws.proofs.Holding.LeftAlone.{alone}
use Rattle.isolation_laws.proofs.Holding.NeverPlaced.{marked_outcome, lost_outcome}
use Rattle.isolation_laws.proofs.Known.TrueCaches.{true_new, true_put, true_on, true_longer}
use Rattle.isolation_laws.proofs.Known.WrittenCells.{AsksAmong, fetched_among, told_among, front_written}

-- ---- what was true of a transaction is, after each outcome
stays_true : (w : State) (h : List Item) (o : Outcome w) (t : ℕ) (it : Known) → IsolationInvariant w h → IsTrueOf w.pairs h t it → IsTrueOf (left_by w o).pairs (h ++ told_by_outcome w o) t it
stays_true w h o t (known.Committed c) holds is = in_front (Placed t c) h (told_by_outcome w o) is
stays_true w h o t known.Dead holds is = marked_outcome w h o t holds is

cache_stays : (w : State) (h : List Item) (o : Outcome w) (cache : Cache) → IsolationInvariant w h → IsTrueCache w.pairs h cache → IsTrueCache (left_by w o).pairs (h ++ told_by_outcome w o) cache
cache_stays w h o cache holds is = true_on w.pairs (left_by w o).pairs h (h ++ told_by_outcome w o) cache (λ pair true_of. stays_true w h o pair.0 pair.1 holds true_of) is

-- ---- what clients remember
known_by : (w : State) (h : List Item) (o : Outcome w) → SameCaches w.clients (left_by w o).clients → IsolationInvariant w h → AreKnown (left_by w o).clients (left_by w o).pairs (h ++ told_by_outcome w o)
known_by w h o same holds = record {
  each = λ s c at.
      let was = same s c at in
      subst (IsTrueCache (left_by w o).pairs (h ++ told_by_outcome w o)) (sym was.2) (cache_stays w h o was.0.cache holds (holds.known.known.each s was.0 was.1));
}

-- one client may remember something else
known_set : (w : State) (h : List Item) (o : Outcome w) (s : ℕ) (new : Client) → IsolationInvariant w h → (left_by w o).clients ≡ slice_set w.clients s new → IsTrueCache (left_by w o).pairs (h ++ told_by_outcome w o) new.cache → AreKnown (left_by w o).clients (left_by w o).pairs (h ++ told_by_outcome w o)
known_set w h o s new holds is now = record {
  each = λ r c at. elim (client_set w.clients s r new c (subst (λ (clients : List Client). ClientAt clients r c) is at)) [
    | inl here ↦ subst (λ (d : Client). IsTrueCache (left_by w o).pairs (h ++ told_by_outcome w o) d.cache) (sym here.1) now
    | inr other ↦ cache_stays w h o c.cache holds (holds.known.known.each r c other.1)
  ];
}

-- a turn of a read leaves what is true
after_turn : (pairs : Pairs) (g : List Item) (c : Client) (turn : ReadTurn) → IsTrueCache pairs g c.cache → IsTrueCache pairs g (client_read c turn).cache
after_turn pairs g c turn is = subst (IsTrueCache pairs g) (sym (read_remembers c turn)) is

known_after : (w : State) (h : List Item) (o : Outcome w) → IsolationInvariant w h → AreKnown (left_by w o).clients (left_by w o).pairs (h ++ told_by_outcome w o)
known_after w h (OfVanished k) holds = known_set w h (OfVanished k) k.session _ holds refl (true_new w.pairs (h ++ k.items) k.c.cache.room)
known_after w h (OfReadDropped k) holds = known_set w h (OfReadDropped k) k.session _ holds refl (cache_stays w h (OfReadDropped k) (put_fresh k.c.cache) holds (true_put w.pairs h k.c.cache (holds.known.known.each k.session k.c k.client_at)))
known_after w h (OfFetched k) holds =
    known_set w h (OfFetched k) k.it.session _ holds refl
    (after_turn w.pairs (h ++ fetched_items w k) (fetched_client w k) (fetched_turn w k)
    (true_longer w.pairs h (h ++ fetched_items w k) (fetched_recall w k).1 (calm_turn h k.first k.it.session k.start k.key (fetched_turn w k) k.quiet) (fetched_good w h k holds).1))
known_after w h (OfReadStepped k) holds =
    known_set w h (OfReadStepped k) k.session _ holds refl
    (after_turn (pairs_after (read_ask k.r) w.pairs) (h ++ read_stepped_items w k) (read_client w k) (read_turn w k)
    (true_longer (pairs_after (read_ask k.r) w.pairs) h (h ++ read_stepped_items w k) (read_recall w k).1 (calm_turn h k.first k.session k.r.start k.r.key (read_turn w k) k.quiet) (stepped_right w h k holds).1))
known_after w h o holds = known_by w h o (caches_keep w o refl) holds

-- ---- the cells of reads
cell_stays : (w : State) (h : List Item) (o : Outcome w) (k : ℕ) (c : Cell) → IsolationInvariant w h → IsWrittenCell w.clients w.nodes h k c → IsWrittenCell (left_by w o).clients (left_by w o).nodes (h ++ told_by_outcome w o) k c
cell_stays w h o k c holds (inl (value, wrote)) = inl (wrote_on h (told_by_outcome w o) c.version k value wrote)
cell_stays w h o k c holds (inr over) = inr (lost_outcome w h o c.version holds over)

cells_stay : (w : State) (h : List Item) (o : Outcome w) (k : ℕ) (cells : List Cell) → IsolationInvariant w h → All (IsWrittenCell w.clients w.nodes h k) cells → All (IsWrittenCell (left_by w o).clients (left_by w o).nodes (h ++ told_by_outcome w o) k) cells
cells_stay w h o k cells holds all = All-weaker (IsWrittenCell w.clients w.nodes h k) (IsWrittenCell (left_by w o).clients (left_by w o).nodes (h ++ told_by_outcome w o) k) (λ c written. cell_stays w h o k c holds written) cells all

written_fewer : (w : State) (h : List Item) (o : Outcome w) → FewerReading w.clients (left_by w o).clients → IsolationInvariant w h → AreWrittenCells (left_by w o).clients (left_by w o).nodes (h ++ told_by_outcome w o)
written_fewer w h o fewer holds = record {
  written = λ s c r at reads. cells_stay w h o r.key (r.cell ∷ r.older) holds (holds.known.written.written s c r (fewer s c r at reads) reads);
}

-- a read that goes on at the key, over written cells
turn_written : (w : State) (h : List Item) (b j : ℕ) (c : Client) (turn : ReadTurn) (r : Reading) → IsTurnOf b j turn → AsksAmong (IsWrittenCell w.clients w.nodes h j) turn → (client_read c turn).under_way ≡ Reads r → All (IsWrittenCell w.clients w.nodes h r.key) (r.cell ∷ r.older)
turn_written w h b j c (Answers a) r of among reads = absurd (nothing_reads r reads)
turn_written w h b j c (Asks x) r of among reads =
    let is : Asks x ≡ Asks r = ap Asks (reads_same x r reads) in
    subst (λ q. All (IsWrittenCell w.clients w.nodes h q) (r.cell ∷ r.older)) (sym (of r is).1) (among r is)

written_turn : (w : State) (h : List Item) (o : Outcome w) (s b j : ℕ) (c : Client) (turn : ReadTurn) → IsolationInvariant w h → (left_by w o).clients ≡ slice_set w.clients s (client_read c turn) → IsTurnOf b j turn → AsksAmong (IsWrittenCell w.clients w.nodes h j) turn → AreWrittenCells (left_by w o).clients (left_by w o).nodes (h ++ told_by_outcome w o)
written_turn w h o s b j c turn holds is of among = record {
  written = λ q d r at reads. cells_stay w h o r.key (r.cell ∷ r.older) holds (elim (client_set w.clients s q (client_read c turn) d (subst (λ (clients : List Client). ClientAt clients q d) is at)) [
    | inl here ↦ turn_written w h b j c turn r of among (sym (ap (λ (x : Client). x.under_way) here.1) ∙ reads)
    | inr other ↦ holds.known.written.written q d r other.1 reads
  ]);
}

written_after : (w : State) (h : List Item) (o : Outcome w) → IsolationInvariant w h → AreWrittenCells (left_by w o).clients (left_by w o).nodes (h ++ told_by_outcome w o)
written_after w h (OfFetched k) holds =
    let cells : List Cell = front_of k.start (fetched w.rows k.key k.start) in
    written_turn w h (OfFetched k) k.it.session k.start k.key (fetched_client w k) (fetched_turn w k) holds refl
    (fetched_recall_of (marks_every w.setup) k.key k.start k.epoch cells (put_fresh k.it.c.cache))
    (fetched_among (IsWrittenCell w.clients w.nodes h k.key) (marks_every w.setup) k.key k.start k.epoch cells (put_fresh k.it.c.cache) (front_written w h k.key k.start holds))
written_after w h (OfReadStepped k) holds =
    let told : Told = told_by (read_ask k.r) w.rows w.pairs in
    let cache : Cache = cache_learnt (put_fresh k.c.cache) (learnt_by k.r told) in
    written_turn w h (OfReadStepped k) k.session k.r.start k.r.key (read_client w k) (read_turn w k) holds refl
    (told_recall_of cache k.r told)
    (told_among (IsWrittenCell w.clients w.nodes h k.r.key) cache k.r told (holds.known.written.written k.session k.c k.r k.client_at k.under_way))
written_after w h o holds = written_fewer w h o ((alone w h o holds).clients.reading refl) holds

-- ---- both
pub known_kept : (w : State) (h : List Item) (o : Outcome w) → IsolationInvariant w h → KnownFacts (left_by w o).clients (left_by w o).nodes (left_by w o).pairs (h ++ told_by_outcome w o)
known_kept w h o holds = record { known = known_after w h o holds; written = written_after w h o holds }
