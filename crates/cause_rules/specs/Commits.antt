-- What shows the refusals of a request: by its ask, its node, its term and its start. Where the session asked of no node, none
-- of them is shown.
use Rattle.std.specs.Prelude.{◌≡◌, ℕ, ◌<◌, ◌≤◌, Bool, true, false, List, ◌⊎◌, None, Some, Contains}
use Rattle.stamp_base.specs.SetupNumbers.{SetupNumbers}
use Rattle.stamp_base.specs.declared.stores.Store.TheVariants.{Table}
use Rattle.history_book.specs.Members.{◌∈◌}
use Rattle.history_book.specs.Isolation.{Committed}
use Rattle.history_book.specs.declared.item.Actor.{Actor}
use Rattle.history_book.specs.declared.item.Actor.TheVariants.{Node, Session}
use Rattle.history_book.specs.declared.item.Item.{Item}
use Rattle.history_book.specs.declared.item.Item.TheVariants.{Draw, Mark, Fault, Crash}
use Rattle.system_parts.specs.Buckets.{place_of, bucket_of, contents, kept_commit}
use Rattle.cause_rules.specs.Asks.{its_node, its_term, its_draw, its_start, since_ask, since_draw}
use Rattle.cause_rules.specs.Posts.{TookLast, LeasedUntil, TermTaken, CeilingGiven}
use Rattle.cause_rules.specs.Written.{written_keys, recorded}
use Rattle.cause_rules.specs.OwnKeys.{WroteOrRead}

-- the transaction's commit was drawn in the term
abbrev pub CommitDrawn : List Item → ℕ → ℕ → ℕ → Type 0
CommitDrawn h term writer commit = (s : ℕ) × (n : ℕ) × (Draw s n term writer (Some commit) ∈ h)

-- a stamp was drawn in the term, as a start or as a commit
abbrev pub StampDrawn : List Item → ℕ → ℕ → Type 0
StampDrawn h term stamp = ((s : ℕ) × (n : ℕ) × (Draw s n term stamp None ∈ h)) ⊎ ((writer : ℕ) × CommitDrawn h term writer stamp)

-- a key that the transaction wrote, or with strict reads has read, was committed above its start, in its term
pub record ShownConflict (setup : SetupNumbers) (h : List Item) (s key by : ℕ) : Type 0 where
  pub node : ℕ
  pub node_is : its_node h s ≡ Some node
  pub start : ℕ
  pub start_is : its_start h s ≡ Some start
  pub own : WroteOrRead setup h s start key
  pub term : ℕ
  pub term_is : its_term h s ≡ Some term
  pub above : start < by
  pub writer : ℕ
  pub drawn : CommitDrawn h term writer by
  pub wrote : Contains (written_keys h writer) key

-- the bucket of a key that the transaction wrote, or with strict reads has read, does not keep the key, and its water is above
-- the start: a commit that was drawn in the term for a key of that bucket
pub record ShownHidden (setup : SetupNumbers) (h : List Item) (s key water : ℕ) : Type 0 where
  pub node : ℕ
  pub node_is : its_node h s ≡ Some node
  pub start : ℕ
  pub start_is : its_start h s ≡ Some start
  pub own : WroteOrRead setup h s start key
  pub term : ℕ
  pub term_is : its_term h s ≡ Some term
  pub forgotten : kept_commit (bucket_of (contents setup.buckets setup.width (recorded h term)) key).kept key ≡ None
  pub forgot : (bucket_of (contents setup.buckets setup.width (recorded h term)) key).water ≡ water
  pub above : start < water
  pub writer : ℕ
  pub drawn : CommitDrawn h term writer water
  pub other : ℕ
  pub wrote : Contains (written_keys h writer) other
  pub same_bucket : place_of setup.buckets other ≡ place_of setup.buckets key

-- the transaction began in an earlier term than the one that its node took last
pub record ShownOldEpoch (h : List Item) (s start epoch : ℕ) : Type 0 where
  pub start_is : its_start h s ≡ Some start
  pub node : ℕ
  pub node_is : its_node h s ≡ Some node
  pub term : ℕ
  pub took : TookLast h node term epoch
  pub old : start ≤ epoch

-- the lease of its node was over
pub record ShownExpired (h : List Item) (s reading until : ℕ) : Type 0 where
  pub node : ℕ
  pub node_is : its_node h s ≡ Some node
  pub leased : LeasedUntil h node until
  pub over : until ≤ reading

-- a later term than its own was taken
pub record ShownReplaced (h : List Item) (s found : ℕ) : Type 0 where
  pub node : ℕ
  pub node_is : its_node h s ≡ Some node
  pub term : ℕ
  pub term_is : its_term h s ≡ Some term
  pub later : term < found
  pub taken : TermTaken h found

-- the range of its term is drawn to its end
pub record ShownNoStamp (h : List Item) (s last : ℕ) : Type 0 where
  pub node : ℕ
  pub node_is : its_node h s ≡ Some node
  pub term : ℕ
  pub term_is : its_term h s ≡ Some term
  pub end : CeilingGiven h term last
  pub drawn : StampDrawn h term last

-- the transaction was marked
pub record ShownInvalid (h : List Item) (s start : ℕ) : Type 0 where
  pub node : ℕ
  pub node_is : its_node h s ≡ Some node
  pub start_is : its_start h s ≡ Some start
  pub actor : Actor
  pub marked : Mark actor start ∈ h

-- who places a commit: its session, where commits are direct, and otherwise its node
abbrev pub placer : Bool → ℕ → ℕ → Actor
placer true node s = Session s
placer false node s = Node node

-- a call on the commit table of who places the commit failed after its draw, or its node crashed after the ask
abbrev pub IsLost : SetupNumbers → List Item → ℕ → ℕ → ℕ → Type 0
IsLost setup h s start node = ((commit : ℕ) × (its_draw h s ≡ Some (start, Some commit)) × (Fault (placer setup.direct node s) Table ∈ since_draw h s)) ⊎ ((term : ℕ) × (Crash node term ∈ since_ask h s))

-- whether the session's commit was placed is not known: what would have told it got lost
pub record ShownOpen (setup : SetupNumbers) (h : List Item) (s start : ℕ) : Type 0 where
  pub start_is : its_start h s ≡ Some start
  pub node : ℕ
  pub node_is : its_node h s ≡ Some node
  pub lost : IsLost setup h s start node

-- its node crashed after the ask
pub record ShownCrashed (h : List Item) (s node term : ℕ) : Type 0 where
  pub node_is : its_node h s ≡ Some node
  pub crashed : Crash node term ∈ since_ask h s

-- a commit was drawn below its start in its term, and is not placed; where sessions place their commits, none is waited for
pub record ShownNotYet (setup : SetupNumbers) (h : List Item) (s commit : ℕ) : Type 0 where
  pub waits : setup.direct ≡ false
  pub node : ℕ
  pub node_is : its_node h s ≡ Some node
  pub start : ℕ
  pub start_is : its_start h s ≡ Some start
  pub term : ℕ
  pub term_is : its_term h s ≡ Some term
  pub writer : ℕ
  pub drawn : CommitDrawn h term writer commit
  pub below : commit < start
  pub unplaced : (t : ℕ) → Committed h t commit → ⊥
