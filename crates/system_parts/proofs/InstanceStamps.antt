-- For this crate's own proofs.
-- Laws for the crates above: the stamps of the requests that are held stay between the epoch and the last stamp.
use Rattle.std.proofs.Common.{ℕ, zero, suc, ◌+◌, ◌<◌, ◌≤◌, ◌==◌, Bool, true, false, List, [], ◌∷◌, slice_set, Option, Some, None, Ok, arith, All, IfSome, if◌then◌else◌}
use Rattle.std.specs.Prelude.{slice_index_or}
use Rattle.std.proofs.lemmas.List.Elements.{All-set, All-replicate, All-head, All-tail}
use Rattle.history_book.specs.declared.cause.Cause.{Cause}
use Rattle.history_book.specs.declared.cause.Cause.TheVariants as cause
use Rattle.system_parts.specs.declared.buckets.Verdict.{Verdict}
use Rattle.system_parts.specs.declared.buckets.Verdict.TheVariants.{Free, Conflict, Hidden}
use Rattle.system_parts.specs.declared.record.Grant.{Grant}
use Rattle.system_parts.specs.declared.instance.Request.{Request}
use Rattle.system_parts.specs.declared.instance.Request.TheVariants.{Begin, Commit}
use Rattle.system_parts.specs.declared.instance.Progress.{Progress}
use Rattle.system_parts.specs.declared.instance.Progress.TheVariants.{Asked, Accepted, Drawn, Settled, Handed}
use Rattle.system_parts.specs.declared.instance.Held.{Held}
use Rattle.system_parts.specs.declared.instance.Settled.{Settled as How}
use Rattle.system_parts.specs.Instance.{InstanceEntry, instance_new, held_of, in_flight, with_request, session_of, unsettled_by, least_unsettled}
use Rattle.system_parts.specs.InstanceSteps.{stays, just_asked, accept_refusal, accept_unless, accept_if_asked, accept_held, out_of_stamps, drawn_as, decide_drawn, decide_by, request_verdict, decide_if_accepted, decide_held, refuse_if_accepted, refuse_held, settle_if_drawn, settle_held, answer_begin, answer_if_ready, answer_held}
use Rattle.system_parts.specs.InstanceLaws.{InstanceCall, Asks, Accepts, Decides, Refuses, Settles, Answers, Widens, Renews, Stops, after_call, progress_stamp, IsDrawnWithin, AreDrawnWithin}

abbrev Between : ℕ → ℕ → ℕ → Type 0
Between epoch last stamp = (epoch < stamp) × (stamp ≤ last)

-- the request of a session changes to one that is in order
set_within : (i : InstanceEntry) (session : ℕ) (now : Option Held) → IsDrawnWithin i.epoch i.last now → AreDrawnWithin i → All (IsDrawnWithin i.epoch i.last) (slice_set i.requests session now)
set_within i session now here all = All-set (IsDrawnWithin i.epoch i.last) i.requests session now here all

at_within : (epoch last : ℕ) (requests : List (Option Held)) (session : ℕ) → All (IsDrawnWithin epoch last) requests → IsDrawnWithin epoch last (slice_index_or requests session None)
at_within epoch last [] zero all = tt
at_within epoch last [] (suc session) all = tt
at_within epoch last (held ∷ others) zero all = All-head (IsDrawnWithin epoch last) held others all
at_within epoch last (held ∷ others) (suc session) all = at_within epoch last others session (All-tail (IsDrawnWithin epoch last) held others all)

-- ---- ask and accept
ask_within : (i : InstanceEntry) (request : Request) (full : Bool) → AreDrawnWithin i → AreDrawnWithin (if full then stays {A = Unit {0}} i (cause.Full (in_flight i)) else record { left = with_request i (session_of request) (Some (just_asked request)); answer = Ok tt }).left
ask_within i request true all = all
ask_within i request false all = set_within i (session_of request) (Some (just_asked request)) tt all

accept_unless_within : (i : InstanceEntry) (session : ℕ) (held : Held) (why : Option Cause) → AreDrawnWithin i → AreDrawnWithin (accept_unless i session held why).left
accept_unless_within i session held None all = set_within i session (Some (record held { progress = Accepted })) tt all
accept_unless_within i session held (Some why) all = set_within i session None tt all

accept_if_asked_within : (i : InstanceEntry) (session reading : ℕ) (held : Held) (progress : Progress) → AreDrawnWithin i → AreDrawnWithin (accept_if_asked i session reading held progress).left
accept_if_asked_within i session reading held Asked all = accept_unless_within i session held (accept_refusal i reading held.request) all
accept_if_asked_within i session reading held _ all = all

accept_held_within : (i : InstanceEntry) (session reading : ℕ) (held : Option Held) → AreDrawnWithin i → AreDrawnWithin (accept_held i session reading held).left
accept_held_within i session reading None all = all
accept_held_within i session reading (Some held) all = accept_if_asked_within i session reading held held.progress all

-- ---- decide
later_stamp : (epoch last : ℕ) (stamp : Option ℕ) → IfSome stamp (Between epoch last) → IfSome stamp (Between epoch (last + 1))
later_stamp epoch last None h = tt
later_stamp epoch last (Some stamp) h = (h.0, omega (arith, h.1))

later_within : (epoch last : ℕ) (held : Option Held) → IsDrawnWithin epoch last held → IsDrawnWithin epoch (last + 1) held
later_within epoch last None h = tt
later_within epoch last (Some held) h = later_stamp epoch last (progress_stamp held.progress) h

drawn_within : (epoch last : ℕ) (direct : Bool) (request : Request) → epoch ≤ last → IfSome (progress_stamp (drawn_as direct request (last + 1))) (Between epoch (last + 1))
drawn_within epoch last true (Begin session) above = (omega arith, omega arith)
drawn_within epoch last true (Commit session start keys) above = (omega arith, omega arith)
drawn_within epoch last false request above = (omega arith, omega arith)

decide_drawn_within : (i : InstanceEntry) (session : ℕ) (held : Held) → i.epoch ≤ i.last → AreDrawnWithin i → AreDrawnWithin (decide_drawn i session held (i.last + 1)).left
decide_drawn_within i session held above all =
    All-set (IsDrawnWithin i.epoch (i.last + 1)) i.requests session (Some (record held { progress = drawn_as i.direct held.request (i.last + 1) })) (drawn_within i.epoch i.last i.direct held.request above)
    (λ k d within. later_within i.epoch i.last (slice_index_or i.requests k d) (all k d within))

out_of_stamps_within : (i : InstanceEntry) (session : ℕ) (held : Held) (stop : Option Cause) → IsDrawnWithin i.epoch i.last (Some held) → AreDrawnWithin i → AreDrawnWithin (out_of_stamps i session held stop).left
out_of_stamps_within i session held None here all = set_within i session (Some (record held { told_no_stamp = true })) here all
out_of_stamps_within i session held (Some why) here all = set_within i session None tt all

decide_free_within : (i : InstanceEntry) (session : ℕ) (held : Held) (out : Bool) → i.epoch ≤ i.last → IsDrawnWithin i.epoch i.last (Some held) → AreDrawnWithin i → AreDrawnWithin (if out then out_of_stamps i session held i.stop else decide_drawn i session held (i.last + 1)).left
decide_free_within i session held true above here all = out_of_stamps_within i session held i.stop here all
decide_free_within i session held false above here all = decide_drawn_within i session held above all

decide_by_within : (i : InstanceEntry) (session : ℕ) (held : Held) (v : Verdict) → i.epoch ≤ i.last → IsDrawnWithin i.epoch i.last (Some held) → AreDrawnWithin i → AreDrawnWithin (decide_by i session held v).left
decide_by_within i session held Free above here all = decide_free_within i session held (i.last == i.ceiling) above here all
decide_by_within i session held (Conflict key by) above here all = set_within i session None tt all
decide_by_within i session held (Hidden key water) above here all = set_within i session None tt all

decide_if_accepted_within : (i : InstanceEntry) (session : ℕ) (held : Held) (progress : Progress) → i.epoch ≤ i.last → IsDrawnWithin i.epoch i.last (Some held) → AreDrawnWithin i → AreDrawnWithin (decide_if_accepted i session held progress).left
decide_if_accepted_within i session held Accepted above here all = decide_by_within i session held (request_verdict i.buckets held.request) above here all
decide_if_accepted_within i session held _ above here all = all

decide_held_within : (i : InstanceEntry) (session : ℕ) (held : Option Held) → i.epoch ≤ i.last → IsDrawnWithin i.epoch i.last held → AreDrawnWithin i → AreDrawnWithin (decide_held i session held).left
decide_held_within i session None above here all = all
decide_held_within i session (Some held) above here all = decide_if_accepted_within i session held held.progress above here all

-- ---- refuse
refuse_if_accepted_within : (i : InstanceEntry) (session : ℕ) (request : Request) (progress : Progress) → AreDrawnWithin i → AreDrawnWithin (refuse_if_accepted i session request progress).left
refuse_if_accepted_within i session (Commit s start keys) Accepted all = set_within i session None tt all
refuse_if_accepted_within i session request progress all = all

refuse_held_within : (i : InstanceEntry) (session : ℕ) (held : Option Held) → AreDrawnWithin i → AreDrawnWithin (refuse_held i session held).left
refuse_held_within i session None all = all
refuse_held_within i session (Some held) all = refuse_if_accepted_within i session held.request held.progress all

-- ---- settle and answer
unsettled_within : (epoch last : ℕ) (request : Request) (progress : Progress) → IfSome (progress_stamp progress) (Between epoch last) → IfSome (unsettled_by request progress) (Between epoch last)
unsettled_within epoch last (Commit s start keys) (Drawn stamp) h = h
unsettled_within epoch last request progress h = tt

settle_if_drawn_within : (i : InstanceEntry) (session : ℕ) (how : How) (held : Held) (commit : Option ℕ) → IfSome commit (Between i.epoch i.last) → AreDrawnWithin i → AreDrawnWithin (settle_if_drawn i session how held commit).left
settle_if_drawn_within i session how held None h all = all
settle_if_drawn_within i session how held (Some commit) h all = set_within i session (Some (record held { progress = Settled commit how })) h all

settle_held_within : (i : InstanceEntry) (session : ℕ) (how : How) (held : Option Held) → IsDrawnWithin i.epoch i.last held → AreDrawnWithin i → AreDrawnWithin (settle_held i session how held).left
settle_held_within i session how None h all = all
settle_held_within i session how (Some held) h all = settle_if_drawn_within i session how held (unsettled_by held.request held.progress) (unsettled_within i.epoch i.last held.request held.progress h) all

answer_begin_within : (i : InstanceEntry) (session : ℕ) (held : Held) (start : ℕ) (wait : Option ℕ) → IsDrawnWithin i.epoch i.last (Some held) → AreDrawnWithin i → AreDrawnWithin (answer_begin i session held start wait).left
answer_begin_within i session held start None here all = set_within i session None tt all
answer_begin_within i session held start (Some commit) here all = set_within i session (Some (record held { told_not_yet = true })) here all

answer_if_ready_within : (i : InstanceEntry) (session : ℕ) (held : Held) (request : Request) (progress : Progress) → IsDrawnWithin i.epoch i.last (Some held) → AreDrawnWithin i → AreDrawnWithin (answer_if_ready i session held request progress).left
answer_if_ready_within i session held (Begin s) (Drawn start) here all = answer_begin_within i session held start (least_unsettled i.requests start) here all
answer_if_ready_within i session held (Commit s start keys) (Settled commit how) here all = set_within i session None tt all
answer_if_ready_within i session held (Commit s start keys) (Handed commit) here all = set_within i session None tt all
answer_if_ready_within i session held request progress here all = all

answer_held_within : (i : InstanceEntry) (session : ℕ) (held : Option Held) → IsDrawnWithin i.epoch i.last held → AreDrawnWithin i → AreDrawnWithin (answer_held i session held).left
answer_held_within i session None here all = all
answer_held_within i session (Some held) here all = answer_if_ready_within i session held held.request held.progress here all

-- ---- all calls
pub call_within : (i : InstanceEntry) (call : InstanceCall) → i.epoch ≤ i.last → AreDrawnWithin i → AreDrawnWithin (after_call i call)
call_within i (Asks request) above all = ask_within i request (in_flight i == i.slots) all
call_within i (Accepts session reading) above all = accept_held_within i session reading (held_of i session) all
call_within i (Decides session) above all = decide_held_within i session (held_of i session) above (at_within i.epoch i.last i.requests session all) all
call_within i (Refuses session) above all = refuse_held_within i session (held_of i session) all
call_within i (Settles session how) above all = settle_held_within i session how (held_of i session) (at_within i.epoch i.last i.requests session all) all
call_within i (Answers session) above all = answer_held_within i session (held_of i session) (at_within i.epoch i.last i.requests session all) all
call_within i (Widens ceiling) above all = all
call_within i (Renews until) above all = all
call_within i (Stops why) above all = all

pub new_within : (grant : Grant) (node count width slots : ℕ) (direct : Bool) → AreDrawnWithin (instance_new grant node count width slots direct)
new_within grant node count width slots direct = All-replicate (IsDrawnWithin grant.epoch grant.epoch) 16 None tt
