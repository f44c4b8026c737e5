-- Each refusal is shown by what stands before it. Six causes have no row: what the state of a session alone refuses (Busy, Idle,
-- NoTransaction, TooManyKeys), that a node holds no such request (NoRequest), and that a sweep cannot tell (Undecided).
use Rattle.std.specs.Prelude.{◌≡◌, ℕ, List}
use Rattle.stamp_base.specs.SetupNumbers.{SetupNumbers}
use Rattle.history_book.specs.Members.{AtEach}
use Rattle.history_book.specs.declared.cause.Cause.{Cause}
use Rattle.history_book.specs.declared.cause.Cause.TheVariants as cause
use Rattle.history_book.specs.declared.item.Actor.{Actor}
use Rattle.history_book.specs.declared.item.Actor.TheVariants.{Session, Node, Janitor, Clock}
use Rattle.history_book.specs.declared.item.Item.{Item}
use Rattle.history_book.specs.declared.item.Item.TheVariants.{Refused}
use Rattle.cause_rules.specs.Asks.{HasAsked}
use Rattle.cause_rules.specs.Posts.{HasNone}
use Rattle.cause_rules.specs.Commits.{ShownConflict, ShownHidden, ShownOldEpoch, ShownExpired, ShownReplaced, ShownNoStamp, ShownInvalid, ShownOpen, ShownCrashed, ShownNotYet}
use Rattle.cause_rules.specs.Refusals.{ShownFull, ShownGone, ShownEarly, ShownSpent, ShownHolding, ShownOvertaken}

-- ---- what is told to a session: neither Early, Holding, NoRequest nor Undecided
abbrev pub ShownToSession : SetupNumbers → List Item → ℕ → Cause → Type 0
ShownToSession setup h s (cause.Conflict key by) = ShownConflict setup h s key by
ShownToSession setup h s (cause.Hidden key water) = ShownHidden setup h s key water
ShownToSession setup h s (cause.OldEpoch start epoch) = ShownOldEpoch h s start epoch
ShownToSession setup h s (cause.Expired reading until) = ShownExpired h s reading until
ShownToSession setup h s (cause.Replaced found) = ShownReplaced h s found
ShownToSession setup h s (cause.Spent ceiling) = HasAsked h s × ShownSpent setup h ceiling
ShownToSession setup h s (cause.NoStamp last) = ShownNoStamp h s last
ShownToSession setup h s (cause.Invalid start) = ShownInvalid h s start
ShownToSession setup h s (cause.Open start) = ShownOpen setup h s start
ShownToSession setup h s (cause.Crashed node term) = ShownCrashed h s node term
ShownToSession setup h s (cause.NotYet commit) = ShownNotYet setup h s commit
ShownToSession setup h s (cause.Full in_flight) = ShownFull setup h in_flight
ShownToSession setup h s (cause.NoOracle node) = HasNone h node
ShownToSession setup h s cause.Gone = ShownGone h s
ShownToSession setup h s cause.Busy = Unit {0}
ShownToSession setup h s cause.Idle = Unit {0}
ShownToSession setup h s cause.NoTransaction = Unit {0}
ShownToSession setup h s cause.TooManyKeys = Unit {0}
ShownToSession setup h s _ = ⊥

-- ---- what is told to a node; that there is no oracle, of itself alone
abbrev pub ShownToNode : SetupNumbers → List Item → ℕ → Cause → Type 0
ShownToNode setup h n (cause.Early reading until) = ShownEarly setup h reading until
ShownToNode setup h n (cause.Spent ceiling) = ShownSpent setup h ceiling
ShownToNode setup h n (cause.Replaced found) = ShownOvertaken h n found
ShownToNode setup h n (cause.Holding term) = ShownHolding h n term
ShownToNode setup h n (cause.NoOracle node) = (node ≡ n) × HasNone h node
ShownToNode setup h n (cause.NoRequest session) = Unit {0}
ShownToNode setup h n _ = ⊥

-- ---- what is told to the janitor, whose sweeps read by the epoch of a node
abbrev pub ShownToJanitor : List Item → Cause → Type 0
ShownToJanitor h (cause.NoOracle node) = HasNone h node
ShownToJanitor h cause.Busy = Unit {0}
ShownToJanitor h cause.Idle = Unit {0}
ShownToJanitor h (cause.Undecided start epoch) = Unit {0}
ShownToJanitor h _ = ⊥

-- ---- what is told to anybody; the clock is never refused
abbrev pub ShownCause : SetupNumbers → List Item → Actor → Cause → Type 0
ShownCause setup h (Session s) why = ShownToSession setup h s why
ShownCause setup h (Node n) why = ShownToNode setup h n why
ShownCause setup h Janitor why = ShownToJanitor h why
ShownCause setup h Clock why = ⊥

abbrev pub Shown : SetupNumbers → List Item → Item → Type 0
Shown setup before (Refused actor why) = ShownCause setup before actor why
Shown setup before _ = Unit {0}

-- each refusal of the history is shown by what stands before it
abbrev pub Explained : SetupNumbers → List Item → Type 0
Explained setup h = AtEach (Shown setup) h
