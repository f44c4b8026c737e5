-- An oracle's instance, and the requests that it holds.
use Rattle.std.specs.Prelude.{ℕ, Bool, false, nat_lt, min, List, [], ◌∷◌, replicate, count_by, slice_index_or, slice_set, Option, None, Some, is_some, if◌then◌else◌}
use Rattle.history_book.specs.declared.cause.Cause.{Cause}
use Rattle.system_parts.specs.declared.record.Grant.{Grant}
use Rattle.system_parts.specs.declared.instance.Request.{Request}
use Rattle.system_parts.specs.declared.instance.Request.TheVariants.{Begin, Commit}
use Rattle.system_parts.specs.declared.instance.Place.{Place}
use Rattle.system_parts.specs.declared.instance.Place.TheVariants as place
use Rattle.system_parts.specs.declared.instance.Progress.{Progress}
use Rattle.system_parts.specs.declared.instance.Progress.TheVariants.{Asked, Accepted, Drawn, Settled, Handed}
use Rattle.system_parts.specs.declared.instance.Held.{Held}
use Rattle.system_parts.specs.Buckets.{Bucket, contents}

-- an instance: what its grant gave it, the last stamp that it drew, the first refusal of the master record that it keeps,
-- whether commits are handed to their sessions to be placed, and for each of the 16 sessions the request that it holds
pub record InstanceEntry : Type 0 where
  pub node : ℕ
  pub term : ℕ
  pub epoch : ℕ
  pub last : ℕ
  pub ceiling : ℕ
  pub until : ℕ
  pub buckets : List Bucket
  pub stop : Option Cause
  pub slots : ℕ
  pub direct : Bool
  pub requests : List (Option Held)

-- an instance as it is granted, with so many buckets of a width
abbrev pub instance_new : Grant → ℕ → ℕ → ℕ → ℕ → Bool → InstanceEntry
instance_new grant node count width slots direct = record {
  node = node;
  term = grant.term;
  epoch = grant.epoch;
  last = grant.epoch;
  ceiling = grant.ceiling;
  until = grant.until;
  buckets = contents count width [];
  stop = None;
  slots = slots;
  direct = direct;
  requests = replicate 16 None;
}

abbrev pub session_of : Request → ℕ
session_of (Begin session) = session
session_of (Commit session start keys) = session

-- the request of a session
abbrev pub held_of : InstanceEntry → ℕ → Option Held
held_of i session = slice_index_or i.requests session None

-- how many requests are held
abbrev pub in_flight : InstanceEntry → ℕ
in_flight i = count_by (λ (held : Option Held). is_some held) i.requests

-- the session has this request from now on, or none
abbrev pub with_request : InstanceEntry → ℕ → Option Held → InstanceEntry
with_request i session now = record i { requests = slice_set i.requests session now }

abbrev pub place_of_progress : Progress → Place
place_of_progress Asked = place.Asked
place_of_progress Accepted = place.Accepted
place_of_progress (Drawn stamp) = place.Drawn
place_of_progress (Settled commit how) = place.Settled
place_of_progress (Handed commit) = place.Settled

abbrev pub place_of_held : Option Held → Option Place
place_of_held None = None
place_of_held (Some held) = Some (place_of_progress held.progress)

-- where the request of a session stands
abbrev pub place_at : InstanceEntry → ℕ → Option Place
place_at i session = place_of_held (held_of i session)

abbrev pub request_of_held : Option Held → Option (Request × Place)
request_of_held None = None
request_of_held (Some held) = Some (held.request, place_of_progress held.progress)

-- the request of a session, and where it stands
abbrev pub request_at : InstanceEntry → ℕ → Option (Request × Place)
request_at i session = request_of_held (held_of i session)

abbrev pub no_stamp_of_held : Option Held → Bool
no_stamp_of_held None = false
no_stamp_of_held (Some held) = held.told_no_stamp

-- whether the session has a request of which it was told that no stamp is left
abbrev pub was_told_no_stamp : InstanceEntry → ℕ → Bool
was_told_no_stamp i session = no_stamp_of_held (held_of i session)

abbrev pub not_yet_of_held : Option Held → Bool
not_yet_of_held None = false
not_yet_of_held (Some held) = held.told_not_yet

-- whether the session has a request that it was told to wait with
abbrev pub was_told_not_yet : InstanceEntry → ℕ → Bool
was_told_not_yet i session = not_yet_of_held (held_of i session)

-- the start of a request, and of a commit the commit, once it was drawn
abbrev pub stamps_by : Request → Progress → Option (ℕ × Option ℕ)
stamps_by (Begin session) (Drawn stamp) = Some (stamp, None)
stamps_by (Commit session start keys) (Drawn stamp) = Some (start, Some stamp)
stamps_by (Commit session start keys) (Settled commit how) = Some (start, Some commit)
stamps_by (Commit session start keys) (Handed commit) = Some (start, Some commit)
stamps_by request progress = None

abbrev pub stamps_of_held : Option Held → Option (ℕ × Option ℕ)
stamps_of_held None = None
stamps_of_held (Some held) = stamps_by held.request held.progress

abbrev pub stamps_at : InstanceEntry → ℕ → Option (ℕ × Option ℕ)
stamps_at i session = stamps_of_held (held_of i session)

-- a commit that was drawn and that the oracle is to place
abbrev pub unsettled_by : Request → Progress → Option ℕ
unsettled_by (Commit session start keys) (Drawn stamp) = Some stamp
unsettled_by request progress = None

abbrev pub unsettled_commit : Option Held → Option ℕ
unsettled_commit None = None
unsettled_commit (Some held) = unsettled_by held.request held.progress

abbrev pub only_below : ℕ → Option ℕ → Option ℕ
only_below start None = None
only_below start (Some commit) = if nat_lt commit start then Some commit else None

abbrev pub lesser : Option ℕ → Option ℕ → Option ℕ
lesser None other = other
lesser (Some a) None = Some a
lesser (Some a) (Some b) = Some (min a b)

-- the least commit below a start that was drawn and that the oracle is to place
unfoldable pub least_unsettled : List (Option Held) → ℕ → Option ℕ
least_unsettled [] start = None
least_unsettled (held ∷ others) start = lesser (only_below start (unsettled_commit held)) (least_unsettled others start)
