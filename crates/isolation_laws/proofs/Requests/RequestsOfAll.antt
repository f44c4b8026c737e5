-- Every outcome keeps the facts on sessions and requests.
use Rattle.isolation_laws.proofs.Names.{List, ◌++◌, refl, Item, State, RequestFacts, IsolationInvariant, Outcome}
use Rattle.isolation_laws.proofs.Names.{OfAskedCommit, OfAccepted, OfDrew, OfPlaced, OfOwnPlaced, OfAnsweredBegin}
use Rattle.isolation_laws.proofs.Names.{OfWrote, IsTimely, left_by, told_by_outcome}
use Rattle.isolation_laws.proofs.Holding.LeftAlone.{alone}
use Rattle.isolation_laws.proofs.Requests.RequestsOfMoves.{requests_asked_commit, requests_accepted}
use Rattle.isolation_laws.proofs.Requests.RequestsOfDraws.{requests_drew}
use Rattle.isolation_laws.proofs.Requests.RequestsOfSettled.{requests_placed}
use Rattle.isolation_laws.proofs.Requests.RequestsOfPlacings.{requests_own_placed}
use Rattle.isolation_laws.proofs.Requests.RequestsOfBegins.{requests_answered_begin}
use Rattle.isolation_laws.proofs.Requests.RequestsOfWrites.{requests_wrote}

pub requests_kept : (w : State) (h : List Item) (o : Outcome w) → IsTimely w o → IsolationInvariant w h → RequestFacts (left_by w o).setup (left_by w o).nodes (left_by w o).clients (h ++ told_by_outcome w o)
requests_kept w h (OfAskedCommit k) timely holds = requests_asked_commit w h k holds
requests_kept w h (OfAccepted k) timely holds = requests_accepted w h k timely holds
requests_kept w h (OfDrew k) timely holds = requests_drew w h k holds
requests_kept w h (OfPlaced k) timely holds = requests_placed w h k holds
requests_kept w h (OfOwnPlaced k) timely holds = requests_own_placed w h k holds
requests_kept w h (OfAnsweredBegin k) timely holds = requests_answered_begin w h k holds
requests_kept w h (OfWrote k) timely holds = requests_wrote w h k holds
requests_kept w h o timely holds = (alone w h o holds).requests refl
