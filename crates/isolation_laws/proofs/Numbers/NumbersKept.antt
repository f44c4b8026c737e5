-- For cause_laws and request_completion too.
-- What keeps the facts on stamps, terms and leases: one item that is not quiet, requests as they stand, reads, quiet items.
use Rattle.isolation_laws.proofs.Names.{[], ◌≡◌, ℕ, ◌≤◌, Bool, true, false, IsTrue, List, ◌∷◌, ◌++◌, append_assoc}
use Rattle.isolation_laws.proofs.Names.{Option, Some, refl, sym, ◌∙◌, ap, subst, arith, slice_set, append-nil, All-nil}
use Rattle.isolation_laws.proofs.Names.{same_Some, Item, Begin, Draw, Read, Write, Placed, in_front, SetupNumbers}
use Rattle.isolation_laws.proofs.Names.{MasterRecord, SessionState, has_transaction, ReadTurn, Asks, Answers}
use Rattle.isolation_laws.proofs.Names.{InstanceEntry, Client, State, read_items, found_of, InstanceAt, ClientAt, Begun}
use Rattle.isolation_laws.proofs.Names.{DrewStart, DrewCommit, InFlight, Has, HeldPending, Quiet, AllQuiet, NumberFacts}
use Rattle.isolation_laws.proofs.Names.{HaveBegun, AreRequests, IsolationInvariant, held_by, commit_own, begin_own}
use Rattle.isolation_laws.proofs.Names.{AtDrawn, AnsweredBegin, one_quiet}
use Rattle.system_parts.specs.declared.session.State.TheVariants as phase
use Rattle.system_parts.specs.declared.instance.Progress.TheVariants as progress
use Rattle.isolation_laws.proofs.Owners.{held_drew}
use Rattle.isolation_laws.proofs.Numbers.NumbersStay.{SameNumbers, IsNumberedAs, numbered_same, numbered_set, numbers_quiet}
use Rattle.isolation_laws.proofs.Numbers.NumbersOfItems.{NoDraw, read_is_no_draw, drawn_push, new_push, FitsBegun, begun_push, fits_read, placed_push}

-- ---- one item that is not quiet, and quiet ones behind it
abbrev pub FitsPlaced : List Item → Item → Type 0
FitsPlaced h x = (t c : ℕ) → Placed t c ≡ x → (s : ℕ) × (n : ℕ) × (term : ℕ) × DrewCommit h s n term t c

pub loud_numbers : (setup : SetupNumbers) (seen : ℕ) (old new : List (Option InstanceEntry)) (master : MasterRecord) (h : List Item) (x : Item) (items : List Item) → SameNumbers old new → NoDraw x → FitsBegun h x → FitsPlaced h x → AllQuiet items → NumberFacts setup seen old master h → NumberFacts setup seen new master (h ++ x ∷ items)
loud_numbers setup seen old new master h x items same other begins places quiet facts =
    let one : NumberFacts setup seen old master (h ++ x ∷ []) = record {
      ranges = facts.ranges;
      leases = facts.leases;
      drawn = drawn_push old master h x other facts.drawn;
      new = new_push h x other facts.new;
      begun = begun_push h x other begins facts.begun;
      placed = placed_push h x places facts.placed;
    } in
    subst (λ all. NumberFacts setup seen new master all) (append_assoc h (x ∷ []) items) (numbers_quiet setup seen seen old new master (h ++ x ∷ []) items same (omega arith) quiet one)

-- ---- begun starts of sessions
open_has : (state : SessionState) → state ≡ phase.Open → IsTrue (has_transaction state)
open_has state is = subst (λ s. IsTrue (has_transaction s)) (sym is) refl

pub open_begun : (clients : List Client) (h : List Item) (s t : ℕ) (c : Client) → HaveBegun clients h → ClientAt clients s c → c.entry.state ≡ phase.Open → c.entry.start ≡ Some t → Begun h s t
open_begun clients h s t c have at is start =
    let begun = have.begun s c at (open_has c.entry.state is) in
    subst (Begun h s) (same_Some begun.0 t (sym begun.1 ∙ start)) begun.2

-- ---- requests as they stand
pub drew_start : (w : State) (h : List Item) (k : AnsweredBegin w) → IsolationInvariant w h → DrewStart h k.session k.node k.i.term k.start
drew_start w h k holds =
    holds.requests.starting.drawn k.node k.session k.start k.i k.at (record {
      held = k.held;
      has = k.has;
      asks = begin_own k.held.request k.asker k.session k.request_is (holds.requests.requests.own k.node k.session k.i k.held.request k.held.progress k.at (held_by k.i k.session k.held k.has));
      stands = k.drawn;
    })

-- a commit that was drawn is in flight
abbrev pub in_flight_of : (w : State) → AtDrawn w → InFlight
in_flight_of w k = record { session = k.session; start = k.start; keys = k.keys; stage = Has k.commit }

abbrev pub drawn_pending : (w : State) (k : AtDrawn w) → AreRequests w.nodes w.clients → HeldPending w.nodes (in_flight_of w k)
drawn_pending w k requests = record {
  node = k.node;
  instance_of = k.i;
  progress_of = progress.Drawn k.commit;
  at = k.at;
  held = record { held = k.held; has = k.has; asks = commit_own k.held.request k.session k.asker k.start k.keys k.request_is (requests.own k.node k.session k.i k.held.request k.held.progress k.at (held_by k.i k.session k.held k.has)); stands = k.drawn };
  stage_is = refl;
}

pub drew_commit : (w : State) (h : List Item) (k : AtDrawn w) → IsolationInvariant w h → DrewCommit h k.session k.node k.i.term k.start k.commit
drew_commit w h k holds = held_drew w.clients w.nodes h (in_flight_of w k) k.commit (drawn_pending w k holds.requests.requests) holds.requests.pending refl

-- ---- reads
read_item_numbers : (setup : SetupNumbers) (seen : ℕ) (nodes : List (Option InstanceEntry)) (master : MasterRecord) (h : List Item) (s b k r : ℕ) (turn : ReadTurn) → Begun h r b → NumberFacts setup seen nodes master h → NumberFacts setup seen nodes master (h ++ read_items s b k turn)
read_item_numbers setup seen nodes master h s b k r (Asks x) begun facts = subst (λ all. NumberFacts setup seen nodes master all) (sym (append-nil h)) facts
read_item_numbers setup seen nodes master h s b k r (Answers a) begun facts =
    loud_numbers setup seen nodes nodes master h (Read s b k (found_of a.found)) [] (numbered_same nodes) (read_is_no_draw s b k (found_of a.found)) (fits_read h s b k r (found_of a.found) begun) (λ t c is. absurd (cc)) (All-nil Quiet) facts

-- a quiet item, and then what a read has come to
pub first_then : (setup : SetupNumbers) (seen : ℕ) (nodes : List (Option InstanceEntry)) (master : MasterRecord) (h : List Item) (x : Item) (s b k r : ℕ) (turn : ReadTurn) → Quiet x → Begun h r b → NumberFacts setup seen nodes master h → NumberFacts setup seen nodes master (h ++ x ∷ read_items s b k turn)
first_then setup seen nodes master h x s b k r turn quiet begun facts =
    let one : NumberFacts setup seen nodes master (h ++ x ∷ []) = numbers_quiet setup seen seen nodes nodes master h (x ∷ []) (numbered_same nodes) (omega arith) (one_quiet x quiet) facts in
    subst (λ all. NumberFacts setup seen nodes master all) (append_assoc h (x ∷ []) (read_items s b k turn))
    (read_item_numbers setup seen nodes master (h ++ x ∷ []) s b k r turn (in_front (Begin r b) h (x ∷ []) begun) one)

-- ---- outcomes with quiet items
pub quiet_one : (w : State) (h : List Item) (nodes : List (Option InstanceEntry)) (seen : ℕ) (items : List Item) → SameNumbers w.nodes nodes → w.seen ≤ seen → AllQuiet items → IsolationInvariant w h → NumberFacts w.setup seen nodes w.master (h ++ items)
quiet_one w h nodes seen items same up quiet holds = numbers_quiet w.setup w.seen seen w.nodes nodes w.master h items same up quiet holds.numbers

pub here : (w : State) (h items : List Item) → AllQuiet items → IsolationInvariant w h → NumberFacts w.setup w.seen w.nodes w.master (h ++ items)
here w h items quiet holds = quiet_one w h w.nodes w.seen items (numbered_same w.nodes) (omega arith) quiet holds

-- an item that no number is read from
abbrev is_numberless : Item → Bool
is_numberless (Draw session node term start commit) = false
is_numberless (Begin session start) = false
is_numberless (Write session start key value) = false
is_numberless (Read session start key answer) = false
is_numberless (Placed start commit) = false
is_numberless _ = true

numberless_other : (x y : Item) → is_numberless x ≡ true → is_numberless y ≡ false → y ≡ x → ⊥
numberless_other x y plain other same =
    let no : false ≡ true = sym other ∙ (ap (λ z. is_numberless z) same ∙ plain) in
    absurd (cc)

pub plain_one : (w : State) (h : List Item) (nodes : List (Option InstanceEntry)) (x : Item) → is_numberless x ≡ true → SameNumbers w.nodes nodes → IsolationInvariant w h → NumberFacts w.setup w.seen nodes w.master (h ++ x ∷ [])
plain_one w h nodes x plain same holds =
    loud_numbers w.setup w.seen w.nodes nodes w.master h x [] same (λ s m term t commit is. numberless_other x (Draw s m term t commit) plain refl is) (record {
      drawn = λ s t is. absurd (numberless_other x (Begin s t) plain refl is);
      writes = λ s t key value is. absurd (numberless_other x (Write s t key value) plain refl is);
      reads = λ s t key answer is. absurd (numberless_other x (Read s t key answer) plain refl is);
    }) (λ t c is. absurd (numberless_other x (Placed t c) plain refl is)) (All-nil Quiet) holds.numbers

pub at_node : (w : State) (n : ℕ) (i j : InstanceEntry) → InstanceAt w.nodes n i → IsNumberedAs i j → SameNumbers w.nodes (slice_set w.nodes n (Some j))
at_node w n i j at same = numbered_set w.nodes n i j at same
