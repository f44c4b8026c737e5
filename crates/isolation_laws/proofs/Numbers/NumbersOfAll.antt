-- Every outcome keeps the facts on stamps, terms and leases.
use Rattle.isolation_laws.proofs.Names.{◌∷◌, Option, [], List, ◌++◌, refl, sym, subst, All-nil, Item, Begin, Write}
use Rattle.isolation_laws.proofs.Names.{InstanceEntry, State, Begun, AllQuiet, Quiet, NumberFacts, IsolationInvariant}
use Rattle.isolation_laws.proofs.Names.{AnsweredBegin, answered_begin_items, answered_begin_state, WroteOne}
use Rattle.isolation_laws.proofs.Names.{wrote_items, Fetched, ReadStepped, fetched_turn, read_turn, fetched_items}
use Rattle.isolation_laws.proofs.Names.{read_stepped_items, Outcome, OfGranted, OfRenewed, OfExtended, OfDrew, OfPlaced}
use Rattle.isolation_laws.proofs.Names.{OfOwnPlaced, OfAnsweredBegin, OfWrote, OfFetched, OfReadStepped, left_by}
use Rattle.isolation_laws.proofs.Names.{told_by_outcome}
use Rattle.isolation_laws.proofs.Holding.LeftAlone.{alone}
use Rattle.isolation_laws.proofs.Numbers.NumbersStay.{SameNumbers, numbered_same, numbered}
use Rattle.isolation_laws.proofs.Numbers.NumbersOfTakes.{numbers_granted}
use Rattle.isolation_laws.proofs.Numbers.NumbersOfRenewals.{numbers_renewed}
use Rattle.isolation_laws.proofs.Numbers.NumbersOfRanges.{numbers_extended}
use Rattle.isolation_laws.proofs.Numbers.NewDraws.{numbers_drew}
use Rattle.isolation_laws.proofs.Numbers.NumbersOfItems.{begin_is_no_draw, write_is_no_draw, placed_is_no_draw, fits_begin, fits_write, fits_placed, placed_fits}
use Rattle.isolation_laws.proofs.Numbers.NumbersKept.{loud_numbers, open_begun, drew_start, first_then, at_node}
use Rattle.isolation_laws.proofs.Numbers.Placings.{PlacedPending, placed_item, placed_drew, by_its_node, by_its_session}

-- ---- every outcome
numbers_placed : (w : State) (h : List Item) (p : PlacedPending w) (nodes : List (Option InstanceEntry)) (items : List Item) → AllQuiet items → SameNumbers w.nodes nodes → IsolationInvariant w h → NumberFacts w.setup w.seen nodes w.master (h ++ placed_item w p ∷ items)
numbers_placed w h p nodes items quiet same holds =
    let q = p.coming in
    let drew = (placed_drew w h p holds).0 in
    loud_numbers w.setup w.seen w.nodes nodes w.master h (placed_item w p) items same (placed_is_no_draw q.start p.commit) (fits_placed h q.start p.commit)
    (λ t c is. placed_fits h q.start p.commit t c q.session drew.0 drew.1 drew.2 is) quiet holds.numbers

numbers_answered_begin : (w : State) (h : List Item) (k : AnsweredBegin w) → IsolationInvariant w h → NumberFacts w.setup w.seen (answered_begin_state w k).nodes w.master (h ++ answered_begin_items w k)
numbers_answered_begin w h k holds =
    loud_numbers w.setup w.seen w.nodes (answered_begin_state w k).nodes w.master h (Begin k.session k.start) [] (at_node w k.node k.i _ k.at (numbered k.i _ refl refl refl refl refl)) (begin_is_no_draw k.session k.start) (fits_begin h k.session k.start k.node k.i.term (drew_start w h k holds)) (λ t c is. absurd (cc)) (All-nil Quiet) holds.numbers

numbers_wrote : (w : State) (h : List Item) (k : WroteOne w) → IsolationInvariant w h → NumberFacts w.setup w.seen w.nodes w.master (h ++ wrote_items w k)
numbers_wrote w h k holds =
    loud_numbers w.setup w.seen w.nodes w.nodes w.master h (Write k.it.session k.start k.key k.value) [] (numbered_same w.nodes) (write_is_no_draw k.it.session k.start k.key k.value)
    (fits_write h k.it.session k.start k.key k.it.session k.value (open_begun w.clients h k.it.session k.start k.it.c holds.requests.have_begun k.it.client_at k.it.is_open k.start_is)) (λ t c is. absurd (cc)) (All-nil Quiet) holds.numbers

numbers_fetched : (w : State) (h : List Item) (k : Fetched w) → IsolationInvariant w h → NumberFacts w.setup w.seen w.nodes w.master (h ++ fetched_items w k)
numbers_fetched w h k holds =
    first_then w.setup w.seen w.nodes w.master h k.first k.it.session k.start k.key k.it.session (fetched_turn w k) k.quiet
    (open_begun w.clients h k.it.session k.start k.it.c holds.requests.have_begun k.it.client_at k.it.is_open k.start_is) holds.numbers

-- a read under way is that of a session that has begun
pub read_begun : (w : State) (h : List Item) (k : ReadStepped w) → IsolationInvariant w h → Begun h k.session k.r.start
read_begun w h k holds =
    let reads = holds.reads.reading.reads k.session k.c k.r k.client_at k.under_way in
    subst (Begun h k.session) (sym reads.3.start_is) (open_begun w.clients h k.session reads.0 reads.2.client holds.requests.have_begun reads.2.at reads.2.state_is reads.2.start_is)

numbers_read : (w : State) (h : List Item) (k : ReadStepped w) → IsolationInvariant w h → NumberFacts w.setup w.seen w.nodes w.master (h ++ read_stepped_items w k)
numbers_read w h k holds = first_then w.setup w.seen w.nodes w.master h k.first k.session k.r.start k.r.key k.session (read_turn w k) k.quiet (read_begun w h k holds) holds.numbers

pub numbers_kept : (w : State) (h : List Item) (o : Outcome w) → IsolationInvariant w h → NumberFacts (left_by w o).setup (left_by w o).seen (left_by w o).nodes (left_by w o).master (h ++ told_by_outcome w o)
numbers_kept w h (OfGranted k) holds = numbers_granted w h k holds
numbers_kept w h (OfRenewed k) holds = numbers_renewed w h k holds
numbers_kept w h (OfExtended k) holds = numbers_extended w h k holds
numbers_kept w h (OfDrew k) holds = numbers_drew w h k holds
numbers_kept w h (OfPlaced k) holds = numbers_placed w h (by_its_node w h k holds) _ k.items k.quiet (at_node w k.it.node k.it.i _ k.it.at (numbered k.it.i _ refl refl refl refl refl)) holds
numbers_kept w h (OfOwnPlaced k) holds = numbers_placed w h (by_its_session w k) w.nodes k.items k.quiet (numbered_same w.nodes) holds
numbers_kept w h (OfAnsweredBegin k) holds = numbers_answered_begin w h k holds
numbers_kept w h (OfWrote k) holds = numbers_wrote w h k holds
numbers_kept w h (OfFetched k) holds = numbers_fetched w h k holds
numbers_kept w h (OfReadStepped k) holds = numbers_read w h k holds
numbers_kept w h o holds = (alone w h o holds).numbers refl
