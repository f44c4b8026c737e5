-- What is named is what cause_rules asks for: a refusal is shown by its definition exactly where its items are found, and the
-- setup, which no history tells, agrees.
use Rattle.std.specs.Prelude.{◌≡◌, ℕ, ◌+◌, ◌<◌, ◌≤◌, ◌^◌, true, false, List, None, Some, IfSome, take, slice_get, is_some, Contains}
use Rattle.stamp_base.specs.SetupNumbers.{SetupNumbers}
use Rattle.history_book.specs.declared.cause.Cause.{Cause}
use Rattle.history_book.specs.declared.cause.Cause.TheVariants as cause
use Rattle.history_book.specs.declared.item.Actor.{Actor}
use Rattle.history_book.specs.declared.item.Actor.TheVariants.{Session, Node}
use Rattle.history_book.specs.declared.item.Item.{Item}
use Rattle.history_book.specs.declared.item.Item.TheVariants.{Refused}
use Rattle.system_parts.specs.Buckets.{place_of, bucket_of, contents, kept_commit}
use Rattle.cause_rules.specs.Asks.{its_node, its_start, its_term}
use Rattle.cause_rules.specs.Commits.{CommitDrawn, IsLost}
use Rattle.cause_rules.specs.Explained.{Explained, ShownCause}
use Rattle.cause_rules.specs.Refusals.{ShownFull}
use Rattle.cause_rules.specs.Written.{written_keys, recorded}
use Rattle.refusal_reasons.specs.declared.clue.Clue.{Clue}
use Rattle.refusal_reasons.specs.Clues.{fits}
use Rattle.refusal_reasons.specs.Showing.{shown_by}
use Rattle.refusal_reasons.specs.Sought.{seek}

-- unless reads are strict, the transaction wrote the key
abbrev pub WrittenBySetup : SetupNumbers → List Item → ℕ → ℕ → Type 0
WrittenBySetup setup h s key = setup.strict ≡ false → IfSome (its_start h s) (λ start. Contains (written_keys h start) key)

-- by the buckets and their width: the key's bucket does not keep the key, and forgot the commit, which was drawn for one of its keys
pub record ForgottenBySetup (setup : SetupNumbers) (h : List Item) (s key water : ℕ) : Type 0 where
  pub term : ℕ
  pub term_is : its_term h s ≡ Some term
  pub forgotten : kept_commit (bucket_of (contents setup.buckets setup.width (recorded h term)) key).kept key ≡ None
  pub forgot : (bucket_of (contents setup.buckets setup.width (recorded h term)) key).water ≡ water
  pub writer : ℕ
  pub drawn : CommitDrawn h term writer water
  pub other : ℕ
  pub wrote : Contains (written_keys h writer) other
  pub same_bucket : place_of setup.buckets other ≡ place_of setup.buckets key

-- by who places commits: the call that failed is one of the node, or of the session
abbrev pub LostBySetup : SetupNumbers → List Item → ℕ → ℕ → Type 0
LostBySetup setup h s start = IfSome (its_node h s) (λ node. IsLost setup h s start node)

-- what the setup has to say: the buckets, the range, the slots, the skew, whether reads are strict, and whether commits are direct
abbrev pub FromSetup : SetupNumbers → List Item → Actor → Cause → Type 0
FromSetup setup h (Session s) (cause.Conflict key by) = WrittenBySetup setup h s key
FromSetup setup h (Session s) (cause.Hidden key water) = WrittenBySetup setup h s key × ForgottenBySetup setup h s key water
FromSetup setup h (Session s) (cause.Spent ceiling) = 2 ^ 62 < ceiling + setup.range
FromSetup setup h (Session s) (cause.Open start) = LostBySetup setup h s start
FromSetup setup h (Session s) (cause.NotYet commit) = setup.direct ≡ false
FromSetup setup h (Session s) (cause.Full in_flight) = ShownFull setup h in_flight
FromSetup setup h (Node n) (cause.Spent ceiling) = 2 ^ 62 < ceiling + setup.range
FromSetup setup h (Node n) (cause.Early reading until) = reading < until + setup.skew
FromSetup setup h _ _ = Unit {0}

abbrev pub IsFound : List Item → Actor → Cause → Type 0
IsFound h actor why = is_some (shown_by h actor why) ≡ true

-- the definition holds exactly where the items are found and the setup agrees
pub record IsDecided (setup : SetupNumbers) (h : List Item) (actor : Actor) (why : Cause) : Type 0 where
  pub whole : ShownCause setup h actor why → IsFound h actor why × FromSetup setup h actor why
  pub sound : IsFound h actor why → FromSetup setup h actor why → ShownCause setup h actor why

abbrev pub AllDecided : Type 0
AllDecided = (setup : SetupNumbers) (h : List Item) (actor : Actor) (why : Cause) → IsDecided setup h actor why

-- in a history that is explained, as all that omid prints are, the items are found for every refusal
abbrev pub ExplainedAreFound : Type 0
ExplainedAreFound = (setup : SetupNumbers) (items : List Item) (place : ℕ) (actor : Actor) (why : Cause) → Explained setup items
    → slice_get items place ≡ Some (Refused actor why) → IsFound (take place items) actor why

-- the place that is sought has the last item, from one place on, that is what the clue asks for
pub record IsSought (h : List Item) (from : ℕ) (clue : Clue) (place : ℕ) : Type 0 where
  pub from_on : from ≤ place
  pub item : Item
  pub stands : slice_get h place ≡ Some item
  pub fits : fits clue item ≡ true

abbrev pub SoughtFit : Type 0
SoughtFit = (h : List Item) (from place : ℕ) (clue : Clue) → seek h from clue ≡ Some place → IsSought h from clue place
