-- For cause_laws too.
-- What stands in the commit table in the place of a commit in flight is a mark.
use Rattle.isolation_laws.proofs.Names.{◌≡◌, ℕ, List, Some, Mark, CommittedMark, InvalidMark, Item, mark_of, State}
use Rattle.isolation_laws.proofs.Names.{Marked, InFlight, Pending, Has, IsolationInvariant}
use Rattle.isolation_laws.proofs.Owners.{has_drew}

pub found_marked : (w : State) (h : List Item) (q : InFlight) (drawn : ℕ) (mark : Mark) → IsolationInvariant w h → Pending w.clients w.nodes q → q.stage ≡ Has drawn → mark_of w.pairs q.start ≡ Some mark → Marked w.pairs q.start
found_marked w h q drawn InvalidMark holds pending stage is = is
found_marked w h q drawn (CommittedMark commit) holds pending stage is = absurd ((has_drew w.clients w.nodes h q drawn holds.requests.pending pending stage).1 commit (holds.cells.pairs_are.placed q.start commit is))
