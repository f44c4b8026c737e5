-- What each call of an oracle's instance answers and leaves, in the order of its checks.
use Rattle.std.specs.Prelude.{◌≡◌, ℕ, ◌+◌, ◌==◌, nat_lt, nat_le, max, Bool, true, false, List, [], Option, None, Some, Result, Ok, Err, if◌then◌else◌}
use Rattle.std.specs.Option.{option_or}
use Rattle.history_book.specs.declared.cause.Cause.{Cause}
use Rattle.history_book.specs.declared.cause.Cause.TheVariants as cause
use Rattle.system_parts.specs.declared.buckets.Recorded.{Recorded}
use Rattle.system_parts.specs.declared.buckets.Verdict.{Verdict}
use Rattle.system_parts.specs.declared.buckets.Verdict.TheVariants.{Free, Conflict, Hidden}
use Rattle.system_parts.specs.declared.instance.Request.{Request}
use Rattle.system_parts.specs.declared.instance.Request.TheVariants.{Begin, Commit}
use Rattle.system_parts.specs.declared.instance.Progress.{Progress}
use Rattle.system_parts.specs.declared.instance.Progress.TheVariants.{Asked, Accepted, Drawn, Settled, Handed}
use Rattle.system_parts.specs.declared.instance.Held.{Held}
use Rattle.system_parts.specs.declared.instance.Settled.{Settled as How}
use Rattle.system_parts.specs.declared.instance.Settled.TheVariants as how
use Rattle.system_parts.specs.declared.instance.Decided.{Decided}
use Rattle.system_parts.specs.declared.instance.Decided.TheVariants as decided
use Rattle.system_parts.specs.declared.instance.Reply.{Reply}
use Rattle.system_parts.specs.declared.instance.Reply.TheVariants as reply
use Rattle.system_parts.specs.Buckets.{Bucket, verdict, record_pairs, pairs_of}
use Rattle.system_parts.specs.Instance.{InstanceEntry, held_of, in_flight, with_request, session_of, unsettled_by, least_unsettled}

-- what a call leaves, and what it answers
pub record InstanceStep (A : Type 0) : Type 0 where
  pub left : InstanceEntry
  pub answer : Result A Cause

-- the call changes nothing
abbrev pub stays : {A : Type 0} → InstanceEntry → Cause → InstanceStep A
stays i why = record { left = i; answer = Err why }

-- the request of the session is over
abbrev pub without_request : InstanceEntry → ℕ → InstanceEntry
without_request i session = with_request i session None

-- the refusal ends the request
abbrev pub ends : {A : Type 0} → InstanceEntry → ℕ → Cause → InstanceStep A
ends i session why = record { left = without_request i session; answer = Err why }

abbrev pub no_request : {A : Type 0} → InstanceEntry → ℕ → InstanceStep A
no_request i session = stays i (cause.NoRequest session)

-- the request that is held has come this far
abbrev pub moved : InstanceEntry → ℕ → Held → Progress → InstanceEntry
moved i session held progress = with_request i session (Some (record held { progress = progress }))

-- the session was told that no stamp is left
abbrev pub no_stamp_told : InstanceEntry → ℕ → Held → InstanceEntry
no_stamp_told i session held = with_request i session (Some (record held { told_no_stamp = true }))

-- the session was told to wait
abbrev pub not_yet_told : InstanceEntry → ℕ → Held → InstanceEntry
not_yet_told i session held = with_request i session (Some (record held { told_not_yet = true }))

-- ---- ask: every slot may be taken
abbrev pub CanAskOf : InstanceEntry → Request → Type 0
CanAskOf i request = held_of i (session_of request) ≡ None

-- a request of which nothing was told yet
abbrev pub just_asked : Request → Held
just_asked request = record { request = request; progress = Asked; told_no_stamp = false; told_not_yet = false }

abbrev pub instance_ask : InstanceEntry → Request → InstanceStep (Unit {0})
instance_ask i request =
    if in_flight i == i.slots then stays i (cause.Full (in_flight i))
    else record { left = with_request i (session_of request) (Some (just_asked request)); answer = Ok tt }

-- ---- accept: the lease comes before the epoch
abbrev pub epoch_refusal : InstanceEntry → Request → Option Cause
epoch_refusal i (Begin session) = None
epoch_refusal i (Commit session start keys) = if nat_le start i.epoch then Some (cause.OldEpoch start i.epoch) else None

abbrev pub accept_refusal : InstanceEntry → ℕ → Request → Option Cause
accept_refusal i reading request = if nat_lt reading i.until then epoch_refusal i request else Some (cause.Expired reading i.until)

abbrev pub accept_unless : InstanceEntry → ℕ → Held → Option Cause → InstanceStep (Unit {0})
accept_unless i session held None = record { left = moved i session held Accepted; answer = Ok tt }
accept_unless i session held (Some why) = ends i session why

abbrev pub accept_if_asked : InstanceEntry → ℕ → ℕ → Held → Progress → InstanceStep (Unit {0})
accept_if_asked i session reading held Asked = accept_unless i session held (accept_refusal i reading held.request)
accept_if_asked i session reading held _ = no_request i session

abbrev pub accept_held : InstanceEntry → ℕ → ℕ → Option Held → InstanceStep (Unit {0})
accept_held i session reading None = no_request i session
accept_held i session reading (Some held) = accept_if_asked i session reading held held.progress

abbrev pub instance_accept : InstanceEntry → ℕ → ℕ → InstanceStep (Unit {0})
instance_accept i session reading = accept_held i session reading (held_of i session)

-- ---- decide: the buckets come before the stamp
-- the range is used up: a refusal of the master record that is kept ends the request, else it stays
abbrev pub out_of_stamps : InstanceEntry → ℕ → Held → Option Cause → InstanceStep Decided
out_of_stamps i session held None = record { left = no_stamp_told i session held; answer = Err (cause.NoStamp i.last) }
out_of_stamps i session held (Some why) = ends i session why

-- what a stamp is to a request
abbrev pub decided_by : Request → ℕ → Decided
decided_by (Begin session) stamp = decided.Started stamp
decided_by (Commit session start keys) stamp = decided.Drawn stamp

-- the pairs that a request records with its stamp; a begin writes nothing
abbrev pub pairs_by : Request → ℕ → List Recorded
pairs_by (Begin session) stamp = []
pairs_by (Commit session start keys) stamp = pairs_of keys stamp

-- a commit that its session is to place is to be handed over
abbrev pub drawn_as : Bool → Request → ℕ → Progress
drawn_as true (Commit session start keys) stamp = Handed stamp
drawn_as direct request stamp = Drawn stamp

abbrev pub decide_drawn : InstanceEntry → ℕ → Held → ℕ → InstanceStep Decided
decide_drawn i session held stamp = record {
  left = record (moved i session held (drawn_as i.direct held.request stamp)) { last = stamp; buckets = record_pairs i.buckets (pairs_by held.request stamp) };
  answer = Ok (decided_by held.request stamp);
}

abbrev pub decide_free : InstanceEntry → ℕ → Held → InstanceStep Decided
decide_free i session held =
    if i.last == i.ceiling then out_of_stamps i session held i.stop else decide_drawn i session held (i.last + 1)

abbrev pub decide_by : InstanceEntry → ℕ → Held → Verdict → InstanceStep Decided
decide_by i session held Free = decide_free i session held
decide_by i session held (Conflict key by) = ends i session (cause.Conflict key by)
decide_by i session held (Hidden key water) = ends i session (cause.Hidden key water)

abbrev pub request_verdict : List Bucket → Request → Verdict
request_verdict buckets (Begin session) = Free
request_verdict buckets (Commit session start keys) = verdict buckets start keys

abbrev pub decide_if_accepted : InstanceEntry → ℕ → Held → Progress → InstanceStep Decided
decide_if_accepted i session held Accepted = decide_by i session held (request_verdict i.buckets held.request)
decide_if_accepted i session held _ = no_request i session

abbrev pub decide_held : InstanceEntry → ℕ → Option Held → InstanceStep Decided
decide_held i session None = no_request i session
decide_held i session (Some held) = decide_if_accepted i session held held.progress

abbrev pub instance_decide : InstanceEntry → ℕ → InstanceStep Decided
instance_decide i session = decide_held i session (held_of i session)

-- ---- refuse: a commit that was accepted ends before its stamp, by what its caller found against it
abbrev pub refuse_if_accepted : InstanceEntry → ℕ → Request → Progress → InstanceStep (Unit {0})
refuse_if_accepted i session (Commit s start keys) Accepted = record { left = without_request i session; answer = Ok tt }
refuse_if_accepted i session request progress = no_request i session

abbrev pub refuse_held : InstanceEntry → ℕ → Option Held → InstanceStep (Unit {0})
refuse_held i session None = no_request i session
refuse_held i session (Some held) = refuse_if_accepted i session held.request held.progress

abbrev pub instance_refuse : InstanceEntry → ℕ → InstanceStep (Unit {0})
instance_refuse i session = refuse_held i session (held_of i session)

-- ---- settle: the put of a commit that was drawn has ended
abbrev pub settle_if_drawn : InstanceEntry → ℕ → How → Held → Option ℕ → InstanceStep (Unit {0})
settle_if_drawn i session how held (Some commit) = record { left = moved i session held (Settled commit how); answer = Ok tt }
settle_if_drawn i session how held None = no_request i session

abbrev pub settle_held : InstanceEntry → ℕ → How → Option Held → InstanceStep (Unit {0})
settle_held i session how None = no_request i session
settle_held i session how (Some held) = settle_if_drawn i session how held (unsettled_by held.request held.progress)

abbrev pub instance_settle : InstanceEntry → ℕ → How → InstanceStep (Unit {0})
instance_settle i session how = settle_held i session how (held_of i session)

-- ---- answer: a begin waits for the commits drawn below it that the oracle is to place
abbrev pub reply_of : ℕ → How → Reply
reply_of commit how.Placed = reply.Committed commit
reply_of commit how.Invalid = reply.Invalid
reply_of commit how.Faulted = reply.Open

abbrev pub answer_begin : InstanceEntry → ℕ → Held → ℕ → Option ℕ → InstanceStep Reply
answer_begin i session held start None = record { left = without_request i session; answer = Ok (reply.Begun start i.epoch) }
answer_begin i session held start (Some commit) = record { left = not_yet_told i session held; answer = Err (cause.NotYet commit) }

abbrev pub answer_if_ready : InstanceEntry → ℕ → Held → Request → Progress → InstanceStep Reply
answer_if_ready i session held (Begin s) (Drawn start) = answer_begin i session held start (least_unsettled i.requests start)
answer_if_ready i session held (Commit s start keys) (Settled commit how) = record { left = without_request i session; answer = Ok (reply_of commit how) }
answer_if_ready i session held (Commit s start keys) (Handed commit) = record { left = without_request i session; answer = Ok (reply.Handed commit) }
answer_if_ready i session held request progress = no_request i session

abbrev pub answer_held : InstanceEntry → ℕ → Option Held → InstanceStep Reply
answer_held i session None = no_request i session
answer_held i session (Some held) = answer_if_ready i session held held.request held.progress

abbrev pub instance_answer : InstanceEntry → ℕ → InstanceStep Reply
instance_answer i session = answer_held i session (held_of i session)

-- ---- what the master record answered
abbrev pub instance_widened : InstanceEntry → ℕ → InstanceEntry
instance_widened i ceiling = record i { ceiling = ceiling }

abbrev pub instance_renewed : InstanceEntry → ℕ → InstanceEntry
instance_renewed i until = record i { until = max i.until until }

-- a refusal that stops an instance once its range is used up
abbrev pub IsStop : Cause → Type 0
IsStop (cause.Replaced found) = Unit {0}
IsStop (cause.Spent ceiling) = Unit {0}
IsStop _ = ⊥

-- the first refusal is kept
abbrev pub instance_stopped : InstanceEntry → Cause → InstanceEntry
instance_stopped i why = record i { stop = option_or i.stop (Some why) }
