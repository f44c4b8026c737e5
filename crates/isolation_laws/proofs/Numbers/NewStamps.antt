-- A stamp that is drawn now is new: it differs from all before, and is above those of its term.
use Rattle.isolation_laws.proofs.Names.{◌≡◌, ℕ, ◌+◌, ◌<◌, ◌≤◌, List, Option, Some, ◌⊎◌, inl, inr, refl, arith}
use Rattle.isolation_laws.proofs.Names.{same_Some, none-some, ◌∈◌, Item, Draw, MasterRecord, Request, BeginRequest}
use Rattle.isolation_laws.proofs.Names.{Commit, State, draw_item, HasDrawn, drawn_stamp, Taken, HeldPending, AreRanges}
use Rattle.isolation_laws.proofs.Names.{AreDrawn, IsNewDraw, AreRequests, AreAccepted, IsolationInvariant, held_by}
use Rattle.isolation_laws.proofs.Names.{commit_own, Drew, three_ways}
use Rattle.system_parts.specs.declared.instance.Progress.TheVariants as progress
use Rattle.isolation_laws.proofs.Numbers.NumbersOfDraws.{start_drawn, commit_drawn, asker_of, drew_room, stamp_drawn}

-- the draw, as an item
abbrev pub new_draw : (w : State) → Drew w → Item
new_draw w k = draw_item k.node k.i.term k.held.request (k.i.last + 1)

-- ---- the commit that draws was taken by its instance
abbrev pub drew_taken : (w : State) (k : Drew w) (r t : ℕ) (keys : List ℕ) → AreRequests w.nodes w.clients → k.held.request ≡ Commit r t keys → HeldPending w.nodes (record { session = k.session; start = t; keys = keys; stage = Taken k.i.last })
drew_taken w k r t keys requests is = record {
  node = k.node;
  instance_of = k.i;
  progress_of = progress.Accepted;
  at = k.at;
  held = record { held = k.held; has = k.has; asks = commit_own k.held.request k.session r t keys is (requests.own k.node k.session k.i k.held.request k.held.progress k.at (held_by k.i k.session k.held k.has)); stands = k.accepted };
  stage_is = refl;
}

pub drew_within : (w : State) (k : Drew w) (r t : ℕ) (keys : List ℕ) → AreRequests w.nodes w.clients → AreAccepted w.nodes → k.held.request ≡ Commit r t keys → (k.i.epoch < t) × (t ≤ k.i.last)
drew_within w k r t keys requests accepted is = let p = drew_taken w k r t keys requests is in accepted.within k.node k.session t keys k.i k.at p.held

-- the start that is drawn for lies above the epoch
pub start_above : (w : State) (k : Drew w) (request : Request) → k.held.request ≡ request → AreRanges w.nodes w.master → AreRequests w.nodes w.clients → AreAccepted w.nodes → k.i.epoch < start_drawn request (k.i.last + 1)
start_above w k (BeginRequest r) is ranges requests accepted = omega (arith, ranges.above k.node k.i k.at)
start_above w k (Commit r t keys) is ranges requests accepted = (drew_within w k r t keys requests accepted is).0

-- ---- the stamp differs from all before, and is above those of its term
pub older_stamp : (w : State) (k : Drew w) (h : List Item) (s m term u : ℕ) (d : Option ℕ) → AreRanges w.nodes w.master → AreDrawn w.nodes w.master h → Draw s m term u d ∈ h → (drawn_stamp u d ≤ k.i.last) ⊎ ((k.i.ceiling < drawn_stamp u d) × (k.i.term < term))
older_stamp w k h s m term u d ranges drawn drew = elim (three_ways term k.i.term) [
  | inl less ↦ inl (omega (arith, drawn.earlier s m term u k.node d k.i drew k.at less, ranges.above k.node k.i k.at))
  | inr (inl same) ↦ inl (drawn.same s m term u k.node d k.i drew k.at same).1
  | inr (inr more) ↦ inr ((drawn.later s m term u k.node d k.i drew k.at more).0, more)
]

commit_new : (w : State) (k : Drew w) (h : List Item) (request : Request) → k.held.request ≡ request → IsolationInvariant w h → (c : ℕ) → commit_drawn request (k.i.last + 1) ≡ Some c → (start_drawn request (k.i.last + 1) < c) × (HasDrawn h (start_drawn request (k.i.last + 1)) → ⊥)
commit_new w k h (BeginRequest r) is holds c drawn = absurd (none-some c drawn)
commit_new w k h (Commit r t keys) is holds c drawn = (
  omega (arith, (drew_within w k r t keys holds.requests.requests holds.requests.accepted is).1, same_Some (k.i.last + 1) c drawn),
  holds.requests.pending.so_far (record { session = k.session; start = t; keys = keys; stage = Taken k.i.last }) (inl (drew_taken w k r t keys holds.requests.requests is)),
)

pub new_now : (w : State) (k : Drew w) (h : List Item) (request : Request) → k.held.request ≡ request → IsolationInvariant w h → IsNewDraw h (Draw (asker_of request) k.node k.i.term (start_drawn request (k.i.last + 1)) (commit_drawn request (k.i.last + 1)))
new_now w k h request is holds = (
  (λ r m other u d drew same. elim (older_stamp w k h r m other u d holds.numbers.ranges holds.numbers.drawn drew) [
    | inl low ↦ omega (arith, low, same, stamp_drawn request (k.i.last + 1))
    | inr high ↦ omega (arith, high.0, same, stamp_drawn request (k.i.last + 1), drew_room w k holds.numbers.ranges)
  ]),
  (λ r m u d drew. elim (older_stamp w k h r m k.i.term u d holds.numbers.ranges holds.numbers.drawn drew) [
    | inl low ↦ omega (arith, low, stamp_drawn request (k.i.last + 1))
    | inr high ↦ absurd (omega (arith, high.1))
  ]),
  commit_new w k h request is holds,
)

-- the parts of equal draws
pub parts_of : (s m term u : ℕ) (d : Option ℕ) (r n other v : ℕ) (e : Option ℕ) → Draw s m term u d ≡ Draw r n other v e → (term ≡ other) × (u ≡ v) × (d ≡ e)
parts_of s m term u d r n other v e same = (cc, cc, cc)

-- bounds of the stamp, told of the draw's own parts
pub stamp_up_to : (bound stamp t : ℕ) (commit : Option ℕ) (u : ℕ) (d : Option ℕ) → t ≡ u → commit ≡ d → drawn_stamp u d ≡ stamp → stamp ≤ bound → drawn_stamp t commit ≤ bound
stamp_up_to bound stamp t commit u d start same is low = rw (start, same, is) low

pub stamp_low : (master : MasterRecord) (ceiling stamp t : ℕ) (commit : Option ℕ) (u : ℕ) (d : Option ℕ) → t ≡ u → commit ≡ d → drawn_stamp u d ≡ stamp → stamp ≤ ceiling → ceiling ≤ master.ceiling → drawn_stamp t commit ≤ master.ceiling
stamp_low master ceiling stamp t commit u d start same is low covered = stamp_up_to master.ceiling stamp t commit u d start same is (omega (arith, low, covered))

pub stamp_over : (bound stamp t : ℕ) (commit : Option ℕ) (u : ℕ) (d : Option ℕ) → t ≡ u → commit ≡ d → drawn_stamp u d ≡ stamp → bound < stamp → bound < drawn_stamp t commit
stamp_over bound stamp t commit u d start same is high = rw (start, same, is) high

pub stamp_between : (low high stamp t : ℕ) (commit : Option ℕ) (u : ℕ) (d : Option ℕ) → t ≡ u → commit ≡ d → drawn_stamp u d ≡ stamp → low < stamp → stamp ≤ high → (low < drawn_stamp t commit) × (drawn_stamp t commit ≤ high)
stamp_between low high stamp t commit u d start same is above below = (stamp_over low stamp t commit u d start same is above, stamp_up_to high stamp t commit u d start same is below)
