-- For cluster_core too.
-- What takes, renewals, extensions and draws need follows from the bounds and the ranges of instances.
use Rattle.cause_laws.proofs.Names.{◌≢◌, ℕ, ◌+◌, ◌<◌, ◌≤◌, max, List, Option, Some, None, arith, ◌^◌, Item}
use Rattle.cause_laws.proofs.Names.{InstanceEntry, State, rules_of, ExplainedInvariant, PostAt, Bounded}
use Rattle.cause_laws.proofs.Names.{PartsAreCounted, TakeMayBeMade, RenewalMayBeMade, CanExtend, ExtensionMayBeMade}
use Rattle.cause_laws.proofs.Names.{DrawMayBeMade}
use Rattle.cause_laws.proofs.RecordBounds.{take_room, extension_room}

pub counted : (w : State) (h : List Item) → ExplainedInvariant w h → Bounded w → PartsAreCounted w
counted w h tells bounded = record { clients = tells.shows.sixteen; posts = bounded.posts; few = tells.stands.holds.in_range.nodes.1 }

-- ---- the master record
-- what ends a lease after the greatest reading that there may be
far_enough : (reading lease until : ℕ) → reading ≤ 2 ^ 61 → lease ≤ 1000000 → until ≤ reading + lease → until < 2 ^ 64
far_enough reading lease until far few within = omega (arith, far, few, within)

pub takes_fit : (w : State) (h : List Item) → ExplainedInvariant w h → Bounded w → TakeMayBeMade w
takes_fit w h tells bounded reading far free =
    let room : w.master.ceiling + w.setup.range ≤ 2 ^ 62 = take_room (rules_of w.setup) w.master reading free in
    record {
      term = (omega arith, omega (arith, bounded.numbers.term, tells.stands.holds.in_range.range.0, room));
      range = (omega arith, room);
      until = far_enough reading w.setup.lease (reading + w.setup.lease) far tells.stands.holds.in_range.lease.1 (omega arith);
    }

renewed_far : (seen reading lease until : ℕ) → seen ≤ 2 ^ 61 → reading ≤ 2 ^ 61 → lease ≤ 1000000 → until ≤ seen + lease → max until (reading + lease) < 2 ^ 64
renewed_far seen reading lease until seen_far far few within = omega (arith, seen_far, far, few, within)

pub renewals_fit : (w : State) (h : List Item) → ExplainedInvariant w h → Bounded w → RenewalMayBeMade w
renewals_fit w h tells bounded reading far = renewed_far w.seen reading w.setup.lease w.master.until bounded.numbers.reading far tells.stands.holds.in_range.lease.1 bounded.numbers.lease

extends_by : (w : State) (h : List Item) (node : ℕ) (post : Option InstanceEntry) → ExplainedInvariant w h → PostAt w node post → CanExtend w post
extends_by w h node None tells at = record { covered = tt; widened = tt }
extends_by w h node (Some i) tells at =
    let covered : i.ceiling ≤ w.master.ceiling = tells.stands.holds.numbers.ranges.covered node i at in
    record { covered = covered; widened = λ free. (omega (arith, covered), extension_room w i.term free) }

pub extensions_fit : (w : State) (h : List Item) → ExplainedInvariant w h → ExtensionMayBeMade w
extensions_fit w h tells node post at = extends_by w h node post tells at

-- ---- draws
next_stamp : (last ceiling : ℕ) → last ≤ ceiling → ceiling ≤ 2 ^ 62 → last ≢ ceiling → last + 1 ≤ 2 ^ 62
next_stamp last ceiling within far left = omega (arith, within, far, left)

pub draws_fit : (w : State) (h : List Item) → ExplainedInvariant w h → Bounded w → DrawMayBeMade w
draws_fit w h tells bounded node i at =
    let ranges = tells.stands.holds.numbers.ranges in
    let far : i.ceiling ≤ 2 ^ 62 = omega (arith, ranges.covered node i at, bounded.numbers.ceiling) in
    record {
      range = (omega (arith, ranges.above node i at, ranges.within node i at), far);
      above = ranges.above node i at;
      within = ranges.within node i at;
      next = λ left. (omega arith, next_stamp i.last i.ceiling (ranges.within node i at) far left);
    }
