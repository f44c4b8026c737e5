-- What is kept for the requests that were accepted: room in the history for all that may still be appended for them, and places in
-- the commit table.
use Rattle.std.specs.Prelude.{◌≡◌, ◌≤◌, ℕ, ◌+◌, ◌-◌, ◌==◌, ◌&&◌, ◌||◌, Bool, true, false, List, [], ◌∷◌, Option, None, Some, IsTrue}
use Rattle.std.specs.List.{sum_by}
use Rattle.std.specs.FinSet as set
use Rattle.history_book.specs.declared.item.Item.{Item}
use Rattle.history_book.specs.declared.item.Item.TheVariants.{Placed}
use Rattle.system_parts.specs.Pairs.{Places}
use Rattle.system_parts.specs.declared.instance.Held.{Held}
use Rattle.system_parts.specs.declared.instance.Progress.{Progress}
use Rattle.system_parts.specs.declared.instance.Progress.TheVariants.{Asked, Accepted, Drawn, Settled, Handed}
use Rattle.system_parts.specs.declared.instance.Request.{Request}
use Rattle.system_parts.specs.declared.instance.Request.TheVariants.{Begin, Commit}
use Rattle.system_parts.specs.declared.instance.Settled.{Settled as How}
use Rattle.system_parts.specs.declared.instance.Settled.TheVariants as how
use Rattle.system_parts.specs.Instance.{InstanceEntry, held_of}
use Rattle.isolation_laws.specs.Words.{InstanceAt}

-- ---- room in the history
abbrev pub once : Bool → ℕ
once true = 1
once false = 0

abbrev pub is_record_of : ℕ → ℕ → Item → Bool
is_record_of txn commit (Placed start stamp) = (start == txn) && (stamp == commit)
is_record_of txn commit _ = false

-- the commit of the transaction stands in the history
unfoldable pub was_placed : List Item → ℕ → ℕ → Bool
was_placed [] txn commit = false
was_placed (item ∷ items) txn commit = is_record_of txn commit item || was_placed items txn commit

-- a put that failed told the commit besides its fault, where it was placed all the same
abbrev pub told_besides : List Item → ℕ → ℕ → How → ℕ
told_besides h start commit how.Faulted = once (was_placed h start commit)
told_besides h start commit _ = 0

-- how many items were appended for a request since its accept; NoStamp and NotYet are told once
abbrev pub spent : List Item → Held → Request → Progress → ℕ
spent h held (Begin session) (Drawn start) = once held.told_no_stamp + 1 + once held.told_not_yet
spent h held (Commit session start keys) (Drawn commit) = once held.told_no_stamp + 1
spent h held (Commit session start keys) (Settled commit how) = once held.told_no_stamp + 2 + told_besides h start commit how
spent h held (Commit session start keys) (Handed commit) = once held.told_no_stamp + 1
spent h held _ _ = once held.told_no_stamp

-- how many may still be appended for it: of five, those that were not
abbrev pub need_by : List Item → Held → Progress → ℕ
need_by h held Asked = 0
need_by h held progress = 5 - spent h held held.request progress

abbrev pub need : List Item → Option Held → ℕ
need h None = 0
need h (Some held) = need_by h held held.progress

-- the same for all requests of a node
abbrev pub needs_of : List Item → Option InstanceEntry → ℕ
needs_of h None = 0
needs_of h (Some i) = sum_by (need h) i.requests

-- there is room for all that may still be appended for requests that were accepted
abbrev pub AreRoomy : List (Option InstanceEntry) → List Item → ℕ → Type 0
AreRoomy nodes h spare = sum_by (needs_of h) nodes ≤ spare

-- ---- places in the commit table
-- the start of a commit that is accepted or drawn, and that the oracle is to place; where commits are direct none is drawn so
abbrev pub unless_direct : Bool → ℕ → Option ℕ
unless_direct true start = None
unless_direct false start = Some start

abbrev pub start_by : Bool → Request → Progress → Option ℕ
start_by direct (Commit session start keys) Accepted = unless_direct direct start
start_by direct (Commit session start keys) (Drawn commit) = Some start
start_by _ _ _ = None

abbrev pub start_to_place : Bool → Option Held → Option ℕ
start_to_place direct None = None
start_to_place direct (Some held) = start_by direct held.request held.progress

-- each such commit has a place
abbrev pub ArePlacesKept : List (Option InstanceEntry) → Places → Type 0
ArePlacesKept nodes places =
    (node session start : ℕ) (i : InstanceEntry) → InstanceAt nodes node i → start_to_place i.direct (held_of i session) ≡ Some start → IsTrue (set.contains places start)
