-- Every outcome keeps the facts on begins in flight and open transactions.
use Rattle.isolation_laws.proofs.Names.{◌≡◌, false, List, ◌++◌, refl, Item, State, Outcome, OfGranted, OfExtended}
use Rattle.isolation_laws.proofs.Names.{OfAskedBegin, OfAskedCommit, OfAccepted, OfDrew, OfAnsweredBegin, IsTimely}
use Rattle.isolation_laws.proofs.Names.{left_by, told_by_outcome, AreFreshBegins, AreSettledBelow, BeginFacts}
use Rattle.isolation_laws.proofs.Names.{IsolationInvariant}
use Rattle.isolation_laws.proofs.Holding.Alone.{fresh_alone, below_alone}
use Rattle.isolation_laws.proofs.Holding.LeftAlone.{alone}
use Rattle.isolation_laws.proofs.Requests.FreshBegins.{fresh_asked_begin, fresh_asked_commit, fresh_accepted, fresh_drew}
use Rattle.isolation_laws.proofs.Requests.SettledBelow.{below_granted, below_extended, below_drew, below_answered_begin}

fresh_kept : (w : State) (h : List Item) (o : Outcome w) → IsTimely w o → IsolationInvariant w h → AreFreshBegins (left_by w o).nodes (h ++ told_by_outcome w o)
fresh_kept w h (OfAskedBegin k) timely holds = fresh_asked_begin w h k holds
fresh_kept w h (OfAskedCommit k) timely holds = fresh_asked_commit w h k holds
fresh_kept w h (OfAccepted k) timely holds = fresh_accepted w h k timely holds
fresh_kept w h (OfDrew k) timely holds = fresh_drew w h k holds
fresh_kept w h o timely holds = fresh_alone w h o (alone w h o holds) refl refl refl holds.begins.fresh

below_kept : (w : State) (h : List Item) (o : Outcome w) → IsolationInvariant w h → (left_by w o).setup.direct ≡ false → AreSettledBelow (left_by w o).clients (left_by w o).nodes
below_kept w h (OfGranted k) holds flag = below_granted w h k holds (holds.begins.below flag)
below_kept w h (OfExtended k) holds flag = below_extended w h k holds (holds.begins.below flag)
below_kept w h (OfDrew k) holds flag = below_drew w k (holds.begins.below flag)
below_kept w h (OfAnsweredBegin k) holds flag = below_answered_begin w h k holds (holds.begins.below flag)
below_kept w h o holds flag = below_alone w h o (alone w h o holds) refl refl refl (holds.begins.below flag)

pub begins_kept : (w : State) (h : List Item) (o : Outcome w) → IsTimely w o → IsolationInvariant w h → BeginFacts (left_by w o).setup (left_by w o).clients (left_by w o).nodes (h ++ told_by_outcome w o)
begins_kept w h o timely holds = record { fresh = fresh_kept w h o timely holds; below = below_kept w h o holds }
