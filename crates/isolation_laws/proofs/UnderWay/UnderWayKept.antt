-- Every outcome keeps the facts on what sessions and the janitor have under way.
use Rattle.isolation_laws.proofs.Names.{List, ◌++◌, refl, Item, State, UnderWayFacts, IsolationInvariant, Outcome}
use Rattle.isolation_laws.proofs.Names.{OfAskedBegin, OfAskedCommit, OfPlaced, OfOwnPlaced, OfAnsweredBegin, OfWrote}
use Rattle.isolation_laws.proofs.Names.{OfFetched, OfReadStepped, OfSweepListed, left_by, told_by_outcome}
use Rattle.isolation_laws.proofs.Holding.LeftAlone.{alone}
use Rattle.isolation_laws.proofs.UnderWay.UnderWayOfRequests.{under_way_asked_begin, under_way_asked_commit, under_way_placed, under_way_answered_begin}
use Rattle.isolation_laws.proofs.UnderWay.UnderWayOfPlacings.{under_way_own_placed}
use Rattle.isolation_laws.proofs.UnderWay.UnderWayOfSessions.{under_way_fetched, under_way_read}
use Rattle.isolation_laws.proofs.UnderWay.UnderWayOfSweeps.{under_way_sweep_listed}
use Rattle.isolation_laws.proofs.UnderWay.WritesKept.{under_way_wrote}
use Rattle.isolation_laws.proofs.Numbers.Placings.{by_its_node}

pub under_way_kept : (w : State) (h : List Item) (o : Outcome w) → IsolationInvariant w h → UnderWayFacts (left_by w o).clients (left_by w o).sweep (left_by w o).rows (left_by w o).pairs (h ++ told_by_outcome w o)
under_way_kept w h (OfAskedBegin k) holds = under_way_asked_begin w h k holds
under_way_kept w h (OfAskedCommit k) holds = under_way_asked_commit w h k holds
under_way_kept w h (OfPlaced k) holds = under_way_placed w h (by_its_node w h k holds) k.items k.quiet holds
under_way_kept w h (OfOwnPlaced k) holds = under_way_own_placed w h k holds
under_way_kept w h (OfAnsweredBegin k) holds = under_way_answered_begin w h k holds
under_way_kept w h (OfWrote k) holds = under_way_wrote w h k holds
under_way_kept w h (OfFetched k) holds = under_way_fetched w h k holds
under_way_kept w h (OfReadStepped k) holds = under_way_read w h k holds
under_way_kept w h (OfSweepListed k) holds = under_way_sweep_listed w h k holds
under_way_kept w h o holds = (alone w h o holds).under_way refl
