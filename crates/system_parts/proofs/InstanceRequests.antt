-- For cause_laws, request_completion, grant_laws and run_board too.
-- Laws for the crates above: whose request a call changes, and that no more requests are held than there are slots.
use Rattle.std.proofs.Common.{◌≡◌, ◌≢◌, ℕ, ◌+◌, ◌<◌, ◌≤◌, ◌==◌, Bool, true, false, cond, is_some, count_by, List, length, slice_set, Option, Some, None, Ok, inl, inr, refl, sym, ap, ◌∙◌, arith, if◌then◌else◌}
use Rattle.std.specs.Prelude.{slice_index_or}
use Rattle.std.proofs.lemmas.Bool.{cases_lt, eqb-false}
use Rattle.std.proofs.lemmas.List.{get_or-set_same, get_or-set_other, get_or-replicate, get_or_past, set_past, length-set}
use Rattle.std.proofs.lemmas.List.Sums.{sum_by-set}
use Rattle.std.proofs.lemmas.Option.{none-some}
use Rattle.history_book.specs.declared.cause.Cause.{Cause}
use Rattle.history_book.specs.declared.cause.Cause.TheVariants as cause
use Rattle.system_parts.specs.declared.buckets.Verdict.{Verdict}
use Rattle.system_parts.specs.declared.buckets.Verdict.TheVariants.{Free, Conflict, Hidden}
use Rattle.system_parts.specs.declared.record.Grant.{Grant}
use Rattle.system_parts.specs.declared.instance.Request.{Request}
use Rattle.system_parts.specs.declared.instance.Request.TheVariants.{Begin, Commit}
use Rattle.system_parts.specs.declared.instance.Progress.{Progress}
use Rattle.system_parts.specs.declared.instance.Progress.TheVariants.{Asked, Accepted, Drawn, Settled, Handed}
use Rattle.system_parts.specs.declared.instance.Held.{Held}
use Rattle.system_parts.specs.declared.instance.Settled.{Settled as How}
use Rattle.system_parts.specs.Instance.{InstanceEntry, instance_new, held_of, in_flight, with_request, session_of, unsettled_by, least_unsettled}
use Rattle.system_parts.specs.InstanceSteps.{stays, just_asked, accept_refusal, accept_unless, accept_if_asked, accept_held, out_of_stamps, drawn_as, decide_drawn, decide_by, request_verdict, decide_if_accepted, decide_held, refuse_if_accepted, refuse_held, settle_if_drawn, settle_held, answer_begin, answer_if_ready, answer_held}
use Rattle.system_parts.specs.InstanceLaws.{InstanceCall, Asks, Accepts, Decides, Refuses, Settles, Answers, Widens, Renews, Stops, after_call, call_session, FitsItsSlots}
use Rattle.system_parts.proofs.InstanceNumbers.{goes_up}

-- ---- one request
pub held_of-with_request_same : (i : InstanceEntry) (session : ℕ) (now : Option Held) → session < length i.requests → held_of (with_request i session now) session ≡ now
held_of-with_request_same i session now within = get_or-set_same i.requests session now None within

pub held_of-with_request_other : (i : InstanceEntry) (session other : ℕ) (now : Option Held) → other ≢ session → held_of (with_request i session now) other ≡ held_of i other
held_of-with_request_other i session other now ne = get_or-set_other i.requests session other now None ne

pub held_of-instance_new : (grant : Grant) (node count width slots session : ℕ) (direct : Bool) → held_of (instance_new grant node count width slots direct) session ≡ None
held_of-instance_new grant node count width slots session direct = elim (cases_lt session 16) [
  | inl within ↦ get_or-replicate 16 session None None within
  | inr past ↦ get_or_past (instance_new grant node count width slots direct).requests session None past
]

-- ---- what a call on a session makes of the requests
data Changes (i : InstanceEntry) (session : ℕ) (left : InstanceEntry) : Type 0 where
  Leaves : left.requests ≡ i.requests → Changes i session left
  Adds : (held : Held) → in_flight i ≢ i.slots → left.requests ≡ slice_set i.requests session (Some held) → Changes i session left
  Moves : (held later : Held) → held_of i session ≡ Some held → left.requests ≡ slice_set i.requests session (Some later) → Changes i session left
  Ends : left.requests ≡ slice_set i.requests session None → Changes i session left

ask_changes : (i : InstanceEntry) (request : Request) (full : Bool) → (in_flight i == i.slots) ≡ full → Changes i (session_of request) (if full then stays {A = Unit {0}} i (cause.Full (in_flight i)) else record { left = with_request i (session_of request) (Some (just_asked request)); answer = Ok tt }).left
ask_changes i request true e = Leaves refl
ask_changes i request false e = Adds (just_asked request) (eqb-false (in_flight i) i.slots e) refl

accept_unless_changes : (i : InstanceEntry) (session : ℕ) (held : Held) (why : Option Cause) → held_of i session ≡ Some held → Changes i session (accept_unless i session held why).left
accept_unless_changes i session held None there = Moves held (record held { progress = Accepted }) there refl
accept_unless_changes i session held (Some why) there = Ends refl

accept_if_asked_changes : (i : InstanceEntry) (session reading : ℕ) (held : Held) (progress : Progress) → held_of i session ≡ Some held → Changes i session (accept_if_asked i session reading held progress).left
accept_if_asked_changes i session reading held Asked there = accept_unless_changes i session held (accept_refusal i reading held.request) there
accept_if_asked_changes i session reading held _ there = Leaves refl

accept_changes : (i : InstanceEntry) (session reading : ℕ) (held : Option Held) → held_of i session ≡ held → Changes i session (accept_held i session reading held).left
accept_changes i session reading None there = Leaves refl
accept_changes i session reading (Some held) there = accept_if_asked_changes i session reading held held.progress there

out_of_stamps_changes : (i : InstanceEntry) (session : ℕ) (held : Held) (stop : Option Cause) → held_of i session ≡ Some held → Changes i session (out_of_stamps i session held stop).left
out_of_stamps_changes i session held None there = Moves held (record held { told_no_stamp = true }) there refl
out_of_stamps_changes i session held (Some why) there = Ends refl

decide_free_changes : (i : InstanceEntry) (session : ℕ) (held : Held) (out : Bool) → held_of i session ≡ Some held → Changes i session (if out then out_of_stamps i session held i.stop else decide_drawn i session held (i.last + 1)).left
decide_free_changes i session held true there = out_of_stamps_changes i session held i.stop there
decide_free_changes i session held false there = Moves held (record held { progress = drawn_as i.direct held.request (i.last + 1) }) there refl

decide_by_changes : (i : InstanceEntry) (session : ℕ) (held : Held) (v : Verdict) → held_of i session ≡ Some held → Changes i session (decide_by i session held v).left
decide_by_changes i session held Free there = decide_free_changes i session held (i.last == i.ceiling) there
decide_by_changes i session held (Conflict key by) there = Ends refl
decide_by_changes i session held (Hidden key water) there = Ends refl

decide_if_accepted_changes : (i : InstanceEntry) (session : ℕ) (held : Held) (progress : Progress) → held_of i session ≡ Some held → Changes i session (decide_if_accepted i session held progress).left
decide_if_accepted_changes i session held Accepted there = decide_by_changes i session held (request_verdict i.buckets held.request) there
decide_if_accepted_changes i session held _ there = Leaves refl

decide_changes : (i : InstanceEntry) (session : ℕ) (held : Option Held) → held_of i session ≡ held → Changes i session (decide_held i session held).left
decide_changes i session None there = Leaves refl
decide_changes i session (Some held) there = decide_if_accepted_changes i session held held.progress there

refuse_if_accepted_changes : (i : InstanceEntry) (session : ℕ) (request : Request) (progress : Progress) → Changes i session (refuse_if_accepted i session request progress).left
refuse_if_accepted_changes i session (Commit s start keys) Accepted = Ends refl
refuse_if_accepted_changes i session request progress = Leaves refl

refuse_changes : (i : InstanceEntry) (session : ℕ) (held : Option Held) → Changes i session (refuse_held i session held).left
refuse_changes i session None = Leaves refl
refuse_changes i session (Some held) = refuse_if_accepted_changes i session held.request held.progress

settle_if_drawn_changes : (i : InstanceEntry) (session : ℕ) (how : How) (held : Held) (commit : Option ℕ) → held_of i session ≡ Some held → Changes i session (settle_if_drawn i session how held commit).left
settle_if_drawn_changes i session how held None there = Leaves refl
settle_if_drawn_changes i session how held (Some commit) there = Moves held (record held { progress = Settled commit how }) there refl

settle_changes : (i : InstanceEntry) (session : ℕ) (how : How) (held : Option Held) → held_of i session ≡ held → Changes i session (settle_held i session how held).left
settle_changes i session how None there = Leaves refl
settle_changes i session how (Some held) there = settle_if_drawn_changes i session how held (unsettled_by held.request held.progress) there

answer_begin_changes : (i : InstanceEntry) (session : ℕ) (held : Held) (start : ℕ) (wait : Option ℕ) → held_of i session ≡ Some held → Changes i session (answer_begin i session held start wait).left
answer_begin_changes i session held start None there = Ends refl
answer_begin_changes i session held start (Some commit) there = Moves held (record held { told_not_yet = true }) there refl

answer_if_ready_changes : (i : InstanceEntry) (session : ℕ) (held : Held) (request : Request) (progress : Progress) → held_of i session ≡ Some held → Changes i session (answer_if_ready i session held request progress).left
answer_if_ready_changes i session held (Begin s) (Drawn start) there = answer_begin_changes i session held start (least_unsettled i.requests start) there
answer_if_ready_changes i session held (Commit s start keys) (Settled commit how) there = Ends refl
answer_if_ready_changes i session held (Commit s start keys) (Handed commit) there = Ends refl
answer_if_ready_changes i session held request progress there = Leaves refl

answer_changes : (i : InstanceEntry) (session : ℕ) (held : Option Held) → held_of i session ≡ held → Changes i session (answer_held i session held).left
answer_changes i session None there = Leaves refl
answer_changes i session (Some held) there = answer_if_ready_changes i session held held.request held.progress there

-- ---- all calls
abbrev ChangesOwn : InstanceEntry → Option ℕ → InstanceEntry → Type 0
ChangesOwn i None left = left.requests ≡ i.requests
ChangesOwn i (Some session) left = Changes i session left

call_changes : (i : InstanceEntry) (call : InstanceCall) → ChangesOwn i (call_session call) (after_call i call)
call_changes i (Asks request) = ask_changes i request (in_flight i == i.slots) refl
call_changes i (Accepts session reading) = accept_changes i session reading (held_of i session) refl
call_changes i (Decides session) = decide_changes i session (held_of i session) refl
call_changes i (Refuses session) = refuse_changes i session (held_of i session)
call_changes i (Settles session how) = settle_changes i session how (held_of i session) refl
call_changes i (Answers session) = answer_changes i session (held_of i session) refl
call_changes i (Widens ceiling) = refl
call_changes i (Renews until) = refl
call_changes i (Stops why) = refl

set_changes_other : (i left : InstanceEntry) (session other : ℕ) (now : Option Held) → other ≢ session → left.requests ≡ slice_set i.requests session now → held_of left other ≡ held_of i other
set_changes_other i left session other now ne e = ap (λ (rs : List (Option Held)). slice_index_or rs other None) e ∙ held_of-with_request_other i session other now ne

changes_other : (i left : InstanceEntry) (session other : ℕ) → other ≢ session → Changes i session left → held_of left other ≡ held_of i other
changes_other i left session other ne (Leaves e) = ap (λ (rs : List (Option Held)). slice_index_or rs other None) e
changes_other i left session other ne (Adds held room e) = set_changes_other i left session other (Some held) ne e
changes_other i left session other ne (Moves held later there e) = set_changes_other i left session other (Some later) ne e
changes_other i left session other ne (Ends e) = set_changes_other i left session other None ne e

own_changes_other : (i left : InstanceEntry) (own : Option ℕ) (other : ℕ) → own ≢ Some other → ChangesOwn i own left → held_of left other ≡ held_of i other
own_changes_other i left None other ne e = ap (λ (rs : List (Option Held)). slice_index_or rs other None) e
own_changes_other i left (Some session) other ne e = changes_other i left session other (λ same. ne (ap (λ n. Some n) (sym same))) e

-- a call on one session leaves the requests of the others
pub held_of-after_call_other : (i : InstanceEntry) (call : InstanceCall) (other : ℕ) → call_session call ≢ Some other → held_of (after_call i call) other ≡ held_of i other
held_of-after_call_other i call other ne = own_changes_other i (after_call i call) (call_session call) other ne (call_changes i call)

changes_length : (i left : InstanceEntry) (session : ℕ) → Changes i session left → length left.requests ≡ length i.requests
changes_length i left session (Leaves e) = ap length e
changes_length i left session (Adds held room e) = ap length e ∙ length-set i.requests session (Some held)
changes_length i left session (Moves held later there e) = ap length e ∙ length-set i.requests session (Some later)
changes_length i left session (Ends e) = ap length e ∙ length-set i.requests session None

own_changes_length : (i left : InstanceEntry) (own : Option ℕ) → ChangesOwn i own left → length left.requests ≡ length i.requests
own_changes_length i left None e = ap length e
own_changes_length i left (Some session) e = changes_length i left session e

pub length-after_call : (i : InstanceEntry) (call : InstanceCall) → length (after_call i call).requests ≡ length i.requests
length-after_call i call = own_changes_length i (after_call i call) (call_session call) (call_changes i call)

-- ---- the slots
abbrev one_if_held : Option Held → ℕ
one_if_held held = cond (is_some held) 1 0

abbrev held_in : List (Option Held) → ℕ
held_in requests = count_by (λ (held : Option Held). is_some held) requests

-- one more request at most, and none where one is replaced
set_adds : (requests : List (Option Held)) (session : ℕ) (now : Option Held) → held_in (slice_set requests session now) ≤ held_in requests + one_if_held now
set_adds requests session now = elim (cases_lt session (length requests)) [
  | inl within ↦ let e = sum_by-set one_if_held requests session now None within in omega arith
  | inr past ↦ rw (set_past requests session now past) (omega arith)
]

set_replaces : (requests : List (Option Held)) (session : ℕ) (held later : Held) → slice_index_or requests session None ≡ Some held → held_in (slice_set requests session (Some later)) ≤ held_in requests
set_replaces requests session held later there = elim (cases_lt session (length requests)) [
  | inl within ↦ let e = sum_by-set one_if_held requests session (Some later) None within in let one : one_if_held (slice_index_or requests session None) ≡ 1 = ap one_if_held there in omega arith
  | inr past ↦ absurd (none-some held (sym (get_or_past requests session None past) ∙ there))
]

room_for_one : (held slots : ℕ) → held ≤ slots → held ≢ slots → held + 1 ≤ slots
room_for_one held slots fits room = grind arith

changes_fit : (i left : InstanceEntry) (session : ℕ) → FitsItsSlots i → Changes i session left → in_flight left ≤ i.slots
changes_fit i left session fits (Leaves e) = rw e fits
changes_fit i left session fits (Adds held room e) = rw e (let more = set_adds i.requests session (Some held) in let one = room_for_one (in_flight i) i.slots fits room in omega arith)
changes_fit i left session fits (Moves held later there e) = rw e (let same = set_replaces i.requests session held later there in omega arith)
changes_fit i left session fits (Ends e) = rw e (let fewer = set_adds i.requests session None in omega arith)

own_changes_fit : (i left : InstanceEntry) (own : Option ℕ) → FitsItsSlots i → ChangesOwn i own left → in_flight left ≤ i.slots
own_changes_fit i left None fits e = rw e fits
own_changes_fit i left (Some session) fits e = changes_fit i left session fits e

slots_stay : (i : InstanceEntry) (call : InstanceCall) → (after_call i call).slots ≡ i.slots
slots_stay i (Widens ceiling) = refl
slots_stay i (Asks request) = (goes_up i (Asks request) tt).slots
slots_stay i (Accepts session reading) = (goes_up i (Accepts session reading) tt).slots
slots_stay i (Decides session) = (goes_up i (Decides session) tt).slots
slots_stay i (Refuses session) = (goes_up i (Refuses session) tt).slots
slots_stay i (Settles session how) = (goes_up i (Settles session how) tt).slots
slots_stay i (Answers session) = (goes_up i (Answers session) tt).slots
slots_stay i (Renews until) = refl
slots_stay i (Stops why) = refl

pub fits-after_call : (i : InstanceEntry) (call : InstanceCall) → FitsItsSlots i → FitsItsSlots (after_call i call)
fits-after_call i call fits = rw (slots_stay i call) (own_changes_fit i (after_call i call) (call_session call) fits (call_changes i call))

pub fits-instance_new : (grant : Grant) (node count width slots : ℕ) (direct : Bool) → FitsItsSlots (instance_new grant node count width slots direct)
fits-instance_new grant node count width slots direct = omega arith
