-- What shows the refusals of a session that asks, of a node and of a sweep.
use Rattle.std.specs.Prelude.{◌≡◌, ℕ, ◌+◌, ◌<◌, ◌^◌, List}
use Rattle.stamp_base.specs.SetupNumbers.{SetupNumbers}
use Rattle.history_book.specs.Members.{◌∈◌}
use Rattle.history_book.specs.declared.item.Item.{Item}
use Rattle.history_book.specs.declared.item.Item.TheVariants.{Vanish}
use Rattle.cause_rules.specs.OpenAsks.{open_asks}
use Rattle.cause_rules.specs.Posts.{TookLast, StandsSince, TermTaken, LeaseGiven, CeilingGiven}

-- at some node as many asks are open as it has slots
pub record ShownFull (setup : SetupNumbers) (h : List Item) (in_flight : ℕ) : Type 0 where
  pub all : in_flight ≡ setup.slots
  pub node : ℕ
  pub open_there : open_asks h node ≡ in_flight

-- the session has vanished
abbrev pub ShownGone : List Item → ℕ → Type 0
ShownGone h s = Vanish s ∈ h

-- a lease may stand by a clock that is behind
pub record ShownEarly (setup : SetupNumbers) (h : List Item) (reading until : ℕ) : Type 0 where
  pub given : LeaseGiven h until
  pub before : reading < until + setup.skew

-- a further range goes past the last stamp
pub record ShownSpent (setup : SetupNumbers) (h : List Item) (ceiling : ℕ) : Type 0 where
  pub term : ℕ
  pub given : CeilingGiven h term ceiling
  pub past : 2 ^ 62 < ceiling + setup.range

-- the node took the term last and has not crashed since; a take that failed makes no difference here, since a fault of the
-- node right after a take may as well be that of a later call
pub record ShownHolding (h : List Item) (node term : ℕ) : Type 0 where
  pub epoch : ℕ
  pub took : TookLast h node term epoch
  pub stands : StandsSince h node

-- a later term was taken than the node's last one
pub record ShownOvertaken (h : List Item) (node found : ℕ) : Type 0 where
  pub term : ℕ
  pub epoch : ℕ
  pub took : TookLast h node term epoch
  pub later : term < found
  pub taken : TermTaken h found
