-- Every outcome keeps the facts on reads, and all answers right.
use Rattle.isolation_laws.proofs.Names.{OfAskedCommit, OfAccepted, OfOwnPlaced, Outcome, OfDrew, OfPlaced, OfWrote}
use Rattle.isolation_laws.proofs.Names.{OfFetched, OfReadStepped, IsTimely, left_by, told_by_outcome, ◌≡◌, false, List}
use Rattle.isolation_laws.proofs.Names.{◌++◌, refl, AtEach, RightRead, Item, State, ReadFacts, IsolationInvariant}
use Rattle.isolation_laws.proofs.Reading.ReadsStay.{NoneComes, none_comes, none_comes_accepted, ReadsRight, reads_stay, rely_placed, rely_wrote}
use Rattle.isolation_laws.proofs.Requests.PendingMoved.{comes_asked_commit, comes_drew}
use Rattle.isolation_laws.proofs.Reading.ReadsOfReads.{reads_stepped, reads_fetched}
use Rattle.isolation_laws.proofs.Reading.ReadsLonger.{rely_calm}
use Rattle.isolation_laws.proofs.Reading.ReadSetsKept.{read_sets_kept}
use Rattle.isolation_laws.proofs.Numbers.Placings.{by_its_node, by_its_session}
use Rattle.isolation_laws.proofs.Holding.NeverPlaced.{marks_kept}
use Rattle.isolation_laws.proofs.Holding.Alone.{changes, Alone}
use Rattle.isolation_laws.proofs.Holding.LeftAlone.{alone}
use Rattle.isolation_laws.proofs.Reading.ReadersRely.{RelyOn}

-- ---- no commit comes below a start that was begun
comes_kept : (w : State) (h : List Item) (o : Outcome w) → IsTimely w o → IsolationInvariant w h → NoneComes w h (left_by w o).clients (left_by w o).nodes
comes_kept w h (OfAskedCommit k) timely holds = λ r b u begun c. comes_asked_commit w k b u c
comes_kept w h (OfAccepted k) timely holds = none_comes_accepted w h k timely holds
comes_kept w h (OfDrew k) timely holds = λ r b u begun c. comes_drew w k b u c
comes_kept w h o timely holds = none_comes w h (left_by w o).clients (left_by w o).nodes ((alone w h o holds).pending refl)

-- ---- reads and answers, where none is begun, goes on or is answered
stays : (w : State) (h : List Item) (o : Outcome w) → (changes o).reading ≡ false → RelyOn w h (left_by w o).clients (left_by w o).nodes (left_by w o).rows (left_by w o).pairs (h ++ told_by_outcome w o) → IsolationInvariant w h → ReadsRight w.setup (left_by w o).clients (left_by w o).nodes (left_by w o).rows (left_by w o).pairs (h ++ told_by_outcome w o)
stays w h o is rely holds =
    let a : Alone w h o = alone w h o holds in
    reads_stay w h (told_by_outcome w o) (left_by w o).nodes (left_by w o).rows (left_by w o).pairs (left_by w o).clients (a.items.reads is) rely (a.clients.reading is) holds

-- nothing is written or placed either
still : (w : State) (h : List Item) (o : Outcome w) → (changes o).reading ≡ false → (changes o).stores ≡ false → IsTimely w o → IsolationInvariant w h → ReadsRight w.setup (left_by w o).clients (left_by w o).nodes (left_by w o).rows (left_by w o).pairs (h ++ told_by_outcome w o)
still w h o reading stores timely holds =
    let a : Alone w h o = alone w h o holds in
    stays w h o reading (rely_calm w h (h ++ told_by_outcome w o) (left_by w o).clients (left_by w o).nodes (left_by w o).rows (left_by w o).pairs (a.stores.calm stores) (comes_kept w h o timely holds) (a.stores.shadows stores) (marks_kept w o)) holds

-- ---- every outcome
pub all_reads_kept : (w : State) (h : List Item) (o : Outcome w) → IsTimely w o → IsolationInvariant w h → ReadsRight (left_by w o).setup (left_by w o).clients (left_by w o).nodes (left_by w o).rows (left_by w o).pairs (h ++ told_by_outcome w o)
all_reads_kept w h (OfPlaced k) timely holds = stays w h (OfPlaced k) refl (rely_placed w h (by_its_node w h k holds) w.clients _ k.items k.quiet ((alone w h (OfPlaced k) holds).pending refl) holds) holds
all_reads_kept w h (OfOwnPlaced k) timely holds = stays w h (OfOwnPlaced k) refl (rely_placed w h (by_its_session w k) _ w.nodes k.items k.quiet ((alone w h (OfOwnPlaced k) holds).pending refl) holds) holds
all_reads_kept w h (OfWrote k) timely holds = stays w h (OfWrote k) refl (rely_wrote w h k holds) holds
all_reads_kept w h (OfFetched k) timely holds = reads_fetched w h k holds
all_reads_kept w h (OfReadStepped k) timely holds = reads_stepped w h k holds
all_reads_kept w h o timely holds = still w h o refl refl timely holds

pub reads_kept : (w : State) (h : List Item) (o : Outcome w) → IsTimely w o → IsolationInvariant w h → ReadFacts (left_by w o).setup (left_by w o).clients (left_by w o).nodes (left_by w o).rows (left_by w o).pairs (h ++ told_by_outcome w o)
reads_kept w h o timely holds =
    let reads = all_reads_kept w h o timely holds in
    record { reading = reads.reading; lasting = reads.lasting; read_sets = read_sets_kept w h o holds }

pub right_reads_kept : (w : State) (h : List Item) (o : Outcome w) → IsTimely w o → IsolationInvariant w h → AtEach (RightRead (h ++ told_by_outcome w o)) (h ++ told_by_outcome w o)
right_reads_kept w h o timely holds = (all_reads_kept w h o timely holds).rights
