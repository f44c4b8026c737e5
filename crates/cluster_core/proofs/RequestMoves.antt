-- What each event makes of the requests that a node holds, by what it appends: what may still be appended for them, and which
-- commits are to be placed.
use Rattle.cluster_core.proofs.Names.{◌≡◌, ◌≢◌, ℕ, zero, suc, ◌+◌, ◌-◌, ◌≤◌, ◌==◌, Bool, true, false, List, [], ◌∷◌}
use Rattle.cluster_core.proofs.Names.{◌++◌, length, Option, Some, None, Result, Ok, Err, inl, inr, ◌⊎◌, refl, sym, ap}
use Rattle.cluster_core.proofs.Names.{subst, ◌∙◌, arith, slice_set, slice_index_or, is_some, replicate, IsTrue}
use Rattle.cluster_core.proofs.Names.{if◌then◌else◌, sum_by, same_Some, none-some, SetupNumbers, Table, Fate, Cause}
use Rattle.cluster_core.proofs.Names.{Item, Pairs, Places, mark_of, MasterRecord, Held, Progress, Asked, Accepted}
use Rattle.cluster_core.proofs.Names.{Drawn, Settled, Handed, Request, Begin, Commit, How, InstanceEntry, held_of}
use Rattle.cluster_core.proofs.Names.{in_flight, with_request, session_of, unsettled_by, stamps_by, stamps_of_held}
use Rattle.cluster_core.proofs.Names.{least_unsettled, Client, Effect, Stop, take_by, renew_by, extend_by, asked_by}
use Rattle.cluster_core.proofs.Names.{ask_begin_by, commit_of, ask_commit_by, accept_by, accept_request, both_verdict}
use Rattle.cluster_core.proofs.Names.{both_if_accepted, decide_by, decide_request, to_place, to_place_by, put_by}
use Rattle.cluster_core.proofs.Names.{put_commit, answer_by, answer_request, decides_at, is_to_decide, is_to_put}
use Rattle.cluster_core.proofs.Names.{answers_at, is_to_answer, is_direct, HasPlaceUnless, HasPlace, HeldHasPlace, once}
use Rattle.cluster_core.proofs.Names.{told_besides, spent, need_by, need, unless_direct, start_by, start_to_place}
use Rattle.std.specs.FinSet as set
use Rattle.stamp_base.specs.declared.stores.Mark.{Mark}
use Rattle.port_io.specs.declared.weather.Fate.TheVariants.{Works, FailsUnchanged, FailsApplied}
use Rattle.history_book.specs.declared.cause.Cause.TheVariants as cause
use Rattle.history_book.specs.declared.item.Actor.TheVariants.{Node, Session}
use Rattle.history_book.specs.declared.item.Item.TheVariants as item
use Rattle.system_parts.specs.declared.record.Grant.{Grant}
use Rattle.system_parts.specs.declared.record.TakeRefused.{TakeRefused}
use Rattle.system_parts.specs.declared.record.TakeRefused.TheVariants as not_taken
use Rattle.system_parts.specs.declared.record.RenewRefused.{RenewRefused}
use Rattle.system_parts.specs.declared.record.RenewRefused.TheVariants as not_renewed
use Rattle.system_parts.specs.declared.record.ExtendRefused.{ExtendRefused}
use Rattle.system_parts.specs.declared.record.ExtendRefused.TheVariants as not_extended
use Rattle.system_parts.specs.declared.buckets.Verdict.{Verdict}
use Rattle.system_parts.specs.declared.buckets.Verdict.TheVariants as verdict
use Rattle.system_parts.specs.declared.instance.Decided.{Decided}
use Rattle.system_parts.specs.declared.instance.Reply.{Reply}
use Rattle.system_parts.specs.declared.instance.Reply.TheVariants as reply
use Rattle.system_parts.specs.declared.instance.Settled.TheVariants as how
use Rattle.system_parts.specs.InstanceSteps.{InstanceStep, stays, just_asked, instance_ask, without_request, no_stamp_told, accept_refusal, accept_unless, accept_if_asked, out_of_stamps, drawn_as, decide_drawn, decide_by as decided, reply_of, answer_begin, answer_if_ready, answer_held, instance_answer, moved as moved_on, settle_if_drawn, settle_held, instance_settle}
use Rattle.cluster_core.proofs.Needs.{once_at_most, besides_at_most, placed_now, none_needs, moved_sum}

-- ---- the requests of a node
abbrev pub requests_of : Option InstanceEntry → List (Option Held)
requests_of None = []
requests_of (Some i) = i.requests

-- the start of a commit of the session that the node is to place
abbrev pub start_of : Option InstanceEntry → ℕ → Option ℕ
start_of post s = start_to_place (is_direct post) (slice_index_or (requests_of post) s None)

-- they became others: what may be appended for them, and so many items, is at most what was, and so many more; and a commit that
-- is to be placed, as the form before and the form now have it, was so before, or has a place
pub record Became (h : List Item) (given : Places) (a b : ℕ) (was_direct direct : Bool) (old new : List (Option Held)) : Type 0 where
  pub sum : sum_by (need h) new + a ≤ sum_by (need h) old + b
  pub starts : (s t : ℕ) → start_to_place direct (slice_index_or new s None) ≡ Some t → (start_to_place was_direct (slice_index_or old s None) ≡ Some t) ⊎ IsTrue (set.contains given t)

-- those of a node
abbrev pub PostBecame : List Item → Places → ℕ → ℕ → Option InstanceEntry → Option InstanceEntry → Type 0
PostBecame h given a b old new = Became h given a b (is_direct old) (is_direct new) (requests_of old) (requests_of new)

pub stayed : (h : List Item) (given : Places) (b : ℕ) (direct : Bool) (old : List (Option Held)) → Became h given 0 b direct direct old old
stayed h given b direct old = record { sum = omega arith; starts = λ s t is. inl is }

-- none is held
none_held : (direct : Bool) (n s : ℕ) → start_to_place direct (slice_index_or (replicate n None) s None) ≡ None
none_held direct zero s = refl
none_held direct (suc n) zero = refl
none_held direct (suc n) (suc s) = none_held direct n s

pub ended : (h : List Item) (given : Places) (was_direct direct : Bool) (old : List (Option Held)) (n : ℕ) → Became h given 0 0 was_direct direct old (replicate n None)
ended h given was_direct direct old n = record {
  sum = omega (arith, none_needs (need h) refl n);
  starts = λ s t is. absurd (none-some t (sym (none_held direct n s) ∙ is));
}

-- one of them moved on
index_after : (xs : List (Option Held)) (s r : ℕ) (now : Option Held) → (slice_index_or (slice_set xs s now) r None ≡ slice_index_or xs r None) ⊎ ((r ≡ s) × (slice_index_or (slice_set xs s now) r None ≡ now))
index_after [] s r now = inl refl
index_after (x ∷ xs) zero zero now = inr (refl, refl)
index_after (x ∷ xs) zero (suc r) now = inl refl
index_after (x ∷ xs) (suc s) zero now = inl refl
index_after (x ∷ xs) (suc s) (suc r) now = elim (index_after xs s r now) [
  | inl same ↦ inl same
  | inr here ↦ inr (ap suc here.0, here.1)
]

pub moved : (h : List Item) (given : Places) (a b : ℕ) (direct : Bool) (old : List (Option Held)) (s : ℕ) (was now : Option Held) → slice_index_or old s None ≡ was → need h now + a ≤ need h was + b → ((t : ℕ) → start_to_place direct now ≡ Some t → (start_to_place direct was ≡ Some t) ⊎ IsTrue (set.contains given t)) → Became h given a b direct direct old (slice_set old s now)
moved h given a b direct old s was now at falls place = record {
  sum = moved_sum (need h) refl old s was now a b at falls;
  starts = λ r t is. elim (index_after old s r now) [
    | inl same ↦ inl (ap (start_to_place direct) (sym same) ∙ is)
    | inr here ↦ elim (place t (ap (start_to_place direct) (sym here.1) ∙ is)) [
      | inl before ↦ inl (ap (λ n. start_to_place direct (slice_index_or old n None)) here.0 ∙ ap (start_to_place direct) at ∙ before)
      | inr has ↦ inr has
    ]
  ];
}

-- one of them is over
over : (h : List Item) (given : Places) (a b : ℕ) (direct : Bool) (old : List (Option Held)) (s : ℕ) (was : Option Held) → slice_index_or old s None ≡ was → a ≤ need h was + b → Became h given a b direct direct old (slice_set old s None)
over h given a b direct old s was at falls = moved h given a b direct old s was None at (omega (arith, falls)) (λ t is. absurd (none-some t is))

-- ---- how many items were appended in room that was reserved
abbrev pub spends : Bool → List Item → ℕ
spends true items = length items
spends false items = 0

-- ---- the master record's events
pub renew_leaves : (h : List Item) (given : Places) (n reading : ℕ) (i : InstanceEntry) (r : MasterRecord) (kept : List Item) (answer : Result ℕ RenewRefused) → PostBecame h given 0 0 (Some i) (renew_by n reading i r kept answer).parts.0
renew_leaves h given n reading i r kept (Ok until) = stayed h given 0 i.direct i.requests
renew_leaves h given n reading i r kept (Err not_renewed.StoreFault) = stayed h given 0 i.direct i.requests
renew_leaves h given n reading i r kept (Err (not_renewed.Replaced found)) = stayed h given 0 i.direct i.requests

pub extend_leaves : (h : List Item) (given : Places) (n : ℕ) (i : InstanceEntry) (r : MasterRecord) (kept : List Item) (answer : Result ℕ ExtendRefused) → PostBecame h given 0 0 (Some i) (extend_by n i r kept answer).parts.0
extend_leaves h given n i r kept (Ok ceiling) = stayed h given 0 i.direct i.requests
extend_leaves h given n i r kept (Err not_extended.StoreFault) = stayed h given 0 i.direct i.requests
extend_leaves h given n i r kept (Err (not_extended.Replaced found)) = stayed h given 0 i.direct i.requests
extend_leaves h given n i r kept (Err (not_extended.Spent ceiling)) = stayed h given 0 i.direct i.requests

pub take_leaves : (h : List Item) (given : Places) (setup : SetupNumbers) (n reading : ℕ) (r : MasterRecord) (kept : List Item) (answer : Result Grant TakeRefused) → PostBecame h given 0 0 None (take_by setup n reading r kept answer).parts.0
take_leaves h given setup n reading r kept (Ok grant) = ended h given false _ [] 16
take_leaves h given setup n reading r kept (Err not_taken.StoreFault) = stayed h given 0 false []
take_leaves h given setup n reading r kept (Err (not_taken.Early at until)) = stayed h given 0 false []
take_leaves h given setup n reading r kept (Err (not_taken.Spent ceiling)) = stayed h given 0 false []

-- ---- asks
just_asked_start : (direct : Bool) (request : Request) (t : ℕ) → start_by direct request Asked ≡ Some t → None ≡ Some t
just_asked_start direct (Begin s) t is = is
just_asked_start direct (Commit s u keys) t is = is

abbrev asked_by_room : InstanceEntry → Request → Bool → InstanceStep (Unit {0})
asked_by_room i request full = if full then stays i (cause.Full (in_flight i)) else record { left = with_request i (session_of request) (Some (just_asked request)); answer = Ok tt }

asked_leaves : (h : List Item) (given : Places) (i : InstanceEntry) (request : Request) (full : Bool) → PostBecame h given 0 0 (Some i) (Some (asked_by_room i request full).left)
asked_leaves h given i request true = stayed h given 0 i.direct i.requests
asked_leaves h given i request false = moved h given 0 0 i.direct i.requests (session_of request) (held_of i (session_of request)) (Some (just_asked request)) refl (omega arith) (λ t there. absurd (none-some t (just_asked_start i.direct request t there)))

ask_leaves : (h : List Item) (given : Places) (s : ℕ) (c : Client) (x : Item) (i : InstanceEntry) (request : Request) (answer : Result (Unit {0}) Cause) → PostBecame h given 0 0 (Some i) (asked_by s c x (instance_ask i request) answer).parts.1
ask_leaves h given s c x i request (Ok done) = asked_leaves h given i request (in_flight i == i.slots)
ask_leaves h given s c x i request (Err why) = asked_leaves h given i request (in_flight i == i.slots)

pub begin_leaves : (h : List Item) (given : Places) (s n : ℕ) (c : Client) (post : Option InstanceEntry) (why : Option Cause) → PostBecame h given 0 0 post (ask_begin_by s n c post why).parts.1
begin_leaves h given s n c post (Some why) = stayed h given 0 (is_direct post) (requests_of post)
begin_leaves h given s n c None None = stayed h given 0 false []
begin_leaves h given s n c (Some i) None = ask_leaves h given s c (item.AskBegin s n) i (Begin s) (instance_ask i (Begin s)).answer

commit_leaves : (h : List Item) (given : Places) (s n start : ℕ) (c : Client) (keys : List ℕ) (post : Option InstanceEntry) → PostBecame h given 0 0 post (commit_of s n c start keys post).parts.1
commit_leaves h given s n start c [] post = stayed h given 0 (is_direct post) (requests_of post)
commit_leaves h given s n start c (key ∷ keys) None = stayed h given 0 false []
commit_leaves h given s n start c (key ∷ keys) (Some i) = ask_leaves h given s c (item.AskCommit s n start) i (Commit s start c.entry.keys) (instance_ask i (Commit s start c.entry.keys)).answer

pub commits_leave : (h : List Item) (given : Places) (s n : ℕ) (c : Client) (post : Option InstanceEntry) (why : Option Cause) (start : Option ℕ) → PostBecame h given 0 0 post (ask_commit_by s n c post why start).parts.1
commits_leave h given s n c post (Some why) start = stayed h given 0 (is_direct post) (requests_of post)
commits_leave h given s n c post None None = stayed h given 0 (is_direct post) (requests_of post)
commits_leave h given s n c post None (Some start) = commit_leaves h given s n start c c.entry.keys post

-- ---- accept
-- five items are reserved where the request is accepted
abbrev pub reserved_by : Option Stop → ℕ
reserved_by None = 5
reserved_by (Some why) = 0

-- and none where nothing is held
abbrev pub gains : Option Held → Option Stop → ℕ
gains None stop = 0
gains (Some held) stop = reserved_by stop

abbrev AcceptLeaves : List Item → Places → InstanceEntry → Effect (Option InstanceEntry × Client) → Type 0
AcceptLeaves h given i effect = PostBecame h given 0 (reserved_by effect.stop) (Some i) effect.parts.0

accept_over : (h : List Item) (given : Places) (node s reading : ℕ) (request : Request) (i : InstanceEntry) (c : Client) (why : Cause) → AcceptLeaves h given i (accept_by node s reading request (without_request i s) c (Err why))
accept_over h given node s reading request i c (cause.NoRequest r) = over h given 0 0 i.direct i.requests s (held_of i s) refl (omega arith)
accept_over h given node s reading request i c _ = over h given 0 0 i.direct i.requests s (held_of i s) refl (omega arith)

placed_unless : (direct : Bool) (given : Places) (start t : ℕ) → HasPlaceUnless direct given start → unless_direct direct start ≡ Some t → IsTrue (set.contains given t)
placed_unless true given start t has is = absurd (none-some t is)
placed_unless false given start t has is = subst (λ n. IsTrue (set.contains given n)) (same_Some start t is) has

accepted_place : (direct : Bool) (given : Places) (request : Request) (t : ℕ) → HasPlace direct given request → start_by direct request Accepted ≡ Some t → IsTrue (set.contains given t)
accepted_place direct given (Begin session) t has is = absurd (none-some t is)
accepted_place direct given (Commit session start keys) t has is = placed_unless direct given start t has is

accept_as : (h : List Item) (given : Places) (node s reading : ℕ) (i : InstanceEntry) (c : Client) (held : Held) (why : Option Cause) → held_of i s ≡ Some held → ((accept_by node s reading held.request (accept_unless i s held why).left c (accept_unless i s held why).answer).stop ≡ None → HasPlace i.direct given held.request) → AcceptLeaves h given i (accept_by node s reading held.request (accept_unless i s held why).left c (accept_unless i s held why).answer)
accept_as h given node s reading i c held (Some why) at has = accept_over h given node s reading held.request i c why
accept_as h given node s reading i c held None at has =
    moved h given 0 5 i.direct i.requests s (Some held) (Some (record held { progress = Accepted })) at (omega arith) (λ t is. inr (accepted_place i.direct given held.request t (has refl) is))

abbrev pub accept_step : ℕ → ℕ → ℕ → Held → InstanceStep (Unit {0}) → Client → Effect (Option InstanceEntry × Client)
accept_step node s reading held step c = accept_by node s reading held.request step.left c step.answer

accept_at : (h : List Item) (given : Places) (node s reading : ℕ) (i : InstanceEntry) (c : Client) (held : Held) (p : Progress) → held_of i s ≡ Some held → ((accept_step node s reading held (accept_if_asked i s reading held p) c).stop ≡ None → HasPlace i.direct given held.request) → AcceptLeaves h given i (accept_step node s reading held (accept_if_asked i s reading held p) c)
accept_at h given node s reading i c held Asked at has = accept_as h given node s reading i c held (accept_refusal i reading held.request) at has
accept_at h given node s reading i c held Accepted at has = stayed h given 0 i.direct i.requests
accept_at h given node s reading i c held (Drawn stamp) at has = stayed h given 0 i.direct i.requests
accept_at h given node s reading i c held (Settled commit by) at has = stayed h given 0 i.direct i.requests
accept_at h given node s reading i c held (Handed commit) at has = stayed h given 0 i.direct i.requests

pub accept_leaves : (h : List Item) (given : Places) (node s reading : ℕ) (i : InstanceEntry) (c : Client) (found : Option Held) → held_of i s ≡ found → ((accept_request node s reading i c found).stop ≡ None → HeldHasPlace i.direct given found) → PostBecame h given 0 (gains found (accept_request node s reading i c found).stop) (Some i) (accept_request node s reading i c found).parts.0
accept_leaves h given node s reading i c None at has = stayed h given 0 i.direct i.requests
accept_leaves h given node s reading i c (Some held) at has =
    rw at (accept_at h given node s reading i c held held.progress at (rw at at has))

-- ---- decide
abbrev pub DecideLeaves : List Item → Places → Bool → InstanceEntry → Effect (Option InstanceEntry × Client) → Type 0
DecideLeaves h given served i effect = PostBecame h given (spends served effect.items) 0 (Some i) effect.parts.0

abbrev decide_step : ℕ → ℕ → Held → InstanceStep Decided → Client → Effect (Option InstanceEntry × Client)
decide_step node s held step c = decide_by node s held step.left c step.answer

-- a request that was accepted may append four or five items
accepted_need : (h : List Item) (held : Held) → held.progress ≡ Accepted → need h (Some held) ≡ 5 - once held.told_no_stamp
accepted_need h held is = rw is (by_request held.request)
  where
    by_request : (request : Request) → 5 - spent h held request Accepted ≡ 5 - once held.told_no_stamp
    by_request (Begin s) = refl
    by_request (Commit s t keys) = refl

at_most_one : (told : Bool) (x : Item) → length (if told then [] else x ∷ []) ≤ 1
at_most_one true x = omega arith
at_most_one false x = omega arith

decide_over : (h : List Item) (given : Places) (node s : ℕ) (i : InstanceEntry) (c : Client) (held : Held) (why : Cause) → held_of i s ≡ Some held → held.progress ≡ Accepted → DecideLeaves h given true i (decide_by node s held (without_request i s) c (Err why))
decide_over h given node s i c held (cause.NoRequest r) at is = over h given 1 0 i.direct i.requests s (Some held) at (omega (arith, accepted_need h held is, once_at_most held.told_no_stamp))
decide_over h given node s i c held (cause.NoStamp last) at is = over h given _ 0 i.direct i.requests s (Some held) at (omega (arith, accepted_need h held is, once_at_most held.told_no_stamp, at_most_one held.told_no_stamp (item.Refused (Session s) (cause.NoStamp last))))
decide_over h given node s i c held _ at is = over h given 1 0 i.direct i.requests s (Some held) at (omega (arith, accepted_need h held is, once_at_most held.told_no_stamp))

-- it is told that no stamp is left, once
told_falls : (told : Bool) (x : Item) (was now : ℕ) → was ≡ 5 - once told → now ≡ 5 - 1 → now + length (if told then [] else x ∷ []) ≤ was + 0
told_falls true x was now is so = omega (arith, is, so)
told_falls false x was now is so = omega (arith, is, so)

decide_waits : (h : List Item) (given : Places) (node s : ℕ) (i : InstanceEntry) (c : Client) (held : Held) → held_of i s ≡ Some held → held.progress ≡ Accepted → DecideLeaves h given true i (decide_by node s held (no_stamp_told i s held) c (Err (cause.NoStamp i.last)))
decide_waits h given node s i c held at is =
    let told : Held = record held { told_no_stamp = true } in
    moved h given _ 0 i.direct i.requests s (Some held) (Some told) at
    (told_falls held.told_no_stamp _ (need h (Some held)) (need h (Some told)) (accepted_need h held is) (accepted_need h told is))
    (λ t there. inl there)

-- or gets its stamp
drawn_need : (h : List Item) (held : Held) (stamp : ℕ) (direct : Bool) (request : Request) → held.request ≡ request → need_by h held (drawn_as direct request stamp) + 1 ≤ (5 - once held.told_no_stamp) + 0
drawn_need h held stamp true (Begin s) asks = rw asks (omega (arith, once_at_most held.told_no_stamp, once_at_most held.told_not_yet))
drawn_need h held stamp false (Begin s) asks = rw asks (omega (arith, once_at_most held.told_no_stamp, once_at_most held.told_not_yet))
drawn_need h held stamp true (Commit s t keys) asks = rw asks (omega (arith, once_at_most held.told_no_stamp))
drawn_need h held stamp false (Commit s t keys) asks = rw asks (omega (arith, once_at_most held.told_no_stamp))

drawn_start : (direct : Bool) (request : Request) (stamp t : ℕ) → start_by direct request (drawn_as direct request stamp) ≡ Some t → start_by direct request Accepted ≡ Some t
drawn_start true (Begin s) stamp t is = is
drawn_start false (Begin s) stamp t is = is
drawn_start true (Commit s start keys) stamp t is = is
drawn_start false (Commit s start keys) stamp t is = is

decide_draws : (h : List Item) (given : Places) (node s : ℕ) (i : InstanceEntry) (c : Client) (held : Held) (stamp : ℕ) → held_of i s ≡ Some held → held.progress ≡ Accepted → DecideLeaves h given true i (decide_step node s held (decide_drawn i s held stamp) c)
decide_draws h given node s i c held stamp at is =
    let drawn : Held = record held { progress = drawn_as i.direct held.request stamp } in
    moved h given 1 0 i.direct i.requests s (Some held) (Some drawn) at
    (omega (arith, accepted_need h held is, drawn_need h drawn stamp i.direct held.request refl))
    (λ t there. inl (ap (start_by i.direct held.request) is ∙ drawn_start i.direct held.request stamp t there))

decide_stops : (h : List Item) (given : Places) (node s : ℕ) (i : InstanceEntry) (c : Client) (held : Held) (stop : Option Cause) → held_of i s ≡ Some held → held.progress ≡ Accepted → DecideLeaves h given true i (decide_step node s held (out_of_stamps i s held stop) c)
decide_stops h given node s i c held None at is = decide_waits h given node s i c held at is
decide_stops h given node s i c held (Some why) at is = decide_over h given node s i c held why at is

decide_goes : (h : List Item) (given : Places) (node s : ℕ) (i : InstanceEntry) (c : Client) (held : Held) (used : Bool) → held_of i s ≡ Some held → held.progress ≡ Accepted → DecideLeaves h given true i (decide_step node s held (if used then out_of_stamps i s held i.stop else decide_drawn i s held (i.last + 1)) c)
decide_goes h given node s i c held true at is = decide_stops h given node s i c held i.stop at is
decide_goes h given node s i c held false at is = decide_draws h given node s i c held (i.last + 1) at is

decide_judged : (h : List Item) (given : Places) (node s : ℕ) (i : InstanceEntry) (c : Client) (held : Held) (said : Verdict) → held_of i s ≡ Some held → held.progress ≡ Accepted → DecideLeaves h given true i (decide_step node s held (decided i s held said) c)
decide_judged h given node s i c held verdict.Free at is = decide_goes h given node s i c held (i.last == i.ceiling) at is
decide_judged h given node s i c held (verdict.Conflict key by) at is = decide_over h given node s i c held (cause.Conflict key by) at is
decide_judged h given node s i c held (verdict.Hidden key water) at is = decide_over h given node s i c held (cause.Hidden key water) at is

decide_at : (h : List Item) (given : Places) (node s : ℕ) (i : InstanceEntry) (c : Client) (held : Held) (p : Progress) → held_of i s ≡ Some held → held.progress ≡ p → DecideLeaves h given (decides_at p) i (decide_step node s held (both_if_accepted i s c.reads held p) c)
decide_at h given node s i c held Accepted at is = decide_judged h given node s i c held (both_verdict i.buckets c.reads held.request) at is
decide_at h given node s i c held Asked at is = stayed h given 0 i.direct i.requests
decide_at h given node s i c held (Drawn stamp) at is = stayed h given 0 i.direct i.requests
decide_at h given node s i c held (Settled commit by) at is = stayed h given 0 i.direct i.requests
decide_at h given node s i c held (Handed commit) at is = stayed h given 0 i.direct i.requests

pub decide_leaves : (h : List Item) (given : Places) (node s : ℕ) (i : InstanceEntry) (c : Client) (found : Option Held) → held_of i s ≡ found → DecideLeaves h given (is_to_decide found) i (decide_request node s i c found)
decide_leaves h given node s i c None at = stayed h given 0 i.direct i.requests
decide_leaves h given node s i c (Some held) at = rw at (decide_at h given node s i c held held.progress at refl)

-- ---- answer
answer_over : (h : List Item) (given : Places) (node s start : ℕ) (i : InstanceEntry) (c : Client) (held : Held) (said : Reply) → held_of i s ≡ Some held → 1 ≤ need h (Some held) → DecideLeaves h given true i (answer_by node s start c i (without_request i s) (Ok said))
answer_over h given node s start i c held (reply.Begun begun epoch) at some = over h given 1 0 i.direct i.requests s (Some held) at (omega (arith, some))
answer_over h given node s start i c held (reply.Committed commit) at some = over h given 1 0 i.direct i.requests s (Some held) at (omega (arith, some))
answer_over h given node s start i c held (reply.Handed commit) at some = over h given 1 0 i.direct i.requests s (Some held) at (omega (arith, some))
answer_over h given node s start i c held reply.Invalid at some = over h given 1 0 i.direct i.requests s (Some held) at (omega (arith, some))
answer_over h given node s start i c held reply.Open at some = over h given 1 0 i.direct i.requests s (Some held) at (omega (arith, some))

begin_need : (h : List Item) (held : Held) (b start : ℕ) → held.request ≡ Begin b → held.progress ≡ Drawn start → need h (Some held) ≡ 5 - (once held.told_no_stamp + 1 + once held.told_not_yet)
begin_need h held b start asks stands = rw (stands, asks) refl

settled_need : (h : List Item) (held : Held) (b start commit : ℕ) (keys : List ℕ) (by : How) → held.request ≡ Commit b start keys → held.progress ≡ Settled commit by → need h (Some held) ≡ 5 - (once held.told_no_stamp + 2 + told_besides h start commit by)
settled_need h held b start commit keys by asks stands = rw (stands, asks) refl

handed_need : (h : List Item) (held : Held) (b start commit : ℕ) (keys : List ℕ) → held.request ≡ Commit b start keys → held.progress ≡ Handed commit → need h (Some held) ≡ 5 - (once held.told_no_stamp + 1)
handed_need h held b start commit keys asks stands = rw (stands, asks) refl

not_yet_falls : (told : Bool) (x : Item) (base was now : ℕ) → base ≤ 1 → was ≡ 5 - (base + 1 + once told) → now ≡ 5 - (base + 1 + 1) → now + length (if told then [] else x ∷ []) ≤ was + 0
not_yet_falls true x base was now few is so = omega (arith, few, is, so)
not_yet_falls false x base was now few is so = omega (arith, few, is, so)

answer_drawn : (h : List Item) (given : Places) (node s b start : ℕ) (i : InstanceEntry) (c : Client) (held : Held) (least : Option ℕ) → held_of i s ≡ Some held → held.request ≡ Begin b → held.progress ≡ Drawn start → DecideLeaves h given true i (answer_by node s start c i (answer_begin i s held start least).left (answer_begin i s held start least).answer)
answer_drawn h given node s b start i c held None at asks stands =
    answer_over h given node s start i c held (reply.Begun start i.epoch) at (omega (arith, begin_need h held b start asks stands, once_at_most held.told_no_stamp, once_at_most held.told_not_yet))
answer_drawn h given node s b start i c held (Some commit) at asks stands =
    let told : Held = record held { told_not_yet = true } in
    rw at (moved h given _ 0 i.direct i.requests s (Some held) (Some told) at
    (not_yet_falls held.told_not_yet _ (once held.told_no_stamp) (need h (Some held)) (need h (Some told)) (once_at_most held.told_no_stamp) (begin_need h held b start asks stands) (begin_need h told b start asks stands))
    (λ t there. inl there))

-- the instance's answer, by how far the request has come
answered_so : (i : InstanceEntry) (s : ℕ) (held : Held) (request : Request) (p : Progress) → held_of i s ≡ Some held → held.request ≡ request → held.progress ≡ p → instance_answer i s ≡ answer_if_ready i s held request p
answered_so i s held request p at asks stands =
    ap (answer_held i s) at ∙ (ap (λ r. answer_if_ready i s held r held.progress) asks ∙ ap (answer_if_ready i s held request) stands)

answer_as : (h : List Item) (given : Places) (node s start : ℕ) (i : InstanceEntry) (c : Client) (step : InstanceStep Reply) → instance_answer i s ≡ step → DecideLeaves h given true i (answer_by node s start c i step.left step.answer) → DecideLeaves h given true i (answer_by node s start c i (instance_answer i s).left (instance_answer i s).answer)
answer_as h given node s start i c step is leaves = subst (λ (made : InstanceStep Reply). DecideLeaves h given true i (answer_by node s start c i made.left made.answer)) (sym is) leaves

answer_at : (h : List Item) (given : Places) (node s : ℕ) (i : InstanceEntry) (c : Client) (held : Held) (request : Request) (p : Progress) → held_of i s ≡ Some held → held.request ≡ request → held.progress ≡ p → DecideLeaves h given (answers_at request p) i (answer_request node s i c (stamps_by request p))
answer_at h given node s i c held (Begin b) Asked at asks stands = stayed h given 0 i.direct i.requests
answer_at h given node s i c held (Begin b) Accepted at asks stands = stayed h given 0 i.direct i.requests
answer_at h given node s i c held (Begin b) (Drawn start) at asks stands =
    answer_as h given node s start i c (answer_begin i s held start (least_unsettled i.requests start)) (answered_so i s held (Begin b) (Drawn start) at asks stands) (answer_drawn h given node s b start i c held (least_unsettled i.requests start) at asks stands)
answer_at h given node s i c held (Begin b) (Settled commit by) at asks stands = stayed h given 0 i.direct i.requests
answer_at h given node s i c held (Begin b) (Handed commit) at asks stands = stayed h given 0 i.direct i.requests
answer_at h given node s i c held (Commit b start keys) Asked at asks stands = stayed h given 0 i.direct i.requests
answer_at h given node s i c held (Commit b start keys) Accepted at asks stands = stayed h given 0 i.direct i.requests
answer_at h given node s i c held (Commit b start keys) (Drawn commit) at asks stands = rw (at, asks, stands) (stayed h given 0 i.direct i.requests)
answer_at h given node s i c held (Commit b start keys) (Settled commit by) at asks stands =
    answer_as h given node s start i c (answer_if_ready i s held (Commit b start keys) (Settled commit by)) (answered_so i s held (Commit b start keys) (Settled commit by) at asks stands) (answer_over h given node s start i c held (reply_of commit by) at (omega (arith, settled_need h held b start commit keys by asks stands, once_at_most held.told_no_stamp, besides_at_most h start commit by)))
answer_at h given node s i c held (Commit b start keys) (Handed commit) at asks stands =
    answer_as h given node s start i c (answer_if_ready i s held (Commit b start keys) (Handed commit)) (answered_so i s held (Commit b start keys) (Handed commit) at asks stands) (answer_over h given node s start i c held (reply.Handed commit) at (omega (arith, handed_need h held b start commit keys asks stands, once_at_most held.told_no_stamp)))

pub answer_leaves : (h : List Item) (given : Places) (node s : ℕ) (i : InstanceEntry) (c : Client) (found : Option Held) → held_of i s ≡ found → DecideLeaves h given (is_to_answer found) i (answer_request node s i c (stamps_of_held found))
answer_leaves h given node s i c None at = stayed h given 0 i.direct i.requests
answer_leaves h given node s i c (Some held) at = answer_at h given node s i c held held.request held.progress at refl refl

-- ---- put
abbrev pub PutLeaves : List Item → Places → Bool → InstanceEntry → Effect (Option InstanceEntry × Pairs) → Type 0
PutLeaves h given served i effect = PostBecame h given (spends served effect.items) 0 (Some i) effect.parts.0

-- the request of a commit that is to be placed
pub record Placing (held : Held) (start commit : ℕ) : Type 0 where
  pub asker : ℕ
  pub keys : List ℕ
  pub asks : held.request ≡ Commit asker start keys
  pub stands : held.progress ≡ Drawn commit

placing_by : (held : Held) (request : Request) (p : Progress) (start commit : ℕ) → held.request ≡ request → held.progress ≡ p → to_place_by request p ≡ Some (start, commit) → Placing held start commit
placing_by held (Begin s) p start commit asks stands is = absurd (none-some _ is)
placing_by held (Commit s t keys) (Drawn c) start commit asks stands is =
    let same = same_Some (t, c) (start, commit) is in
    record { asker = s; keys = keys; asks = asks ∙ ap (λ n. Commit s n keys) (ap (λ q. q.0) same); stands = stands ∙ ap (λ q. Drawn q.1) same }
placing_by held (Commit s t keys) Asked start commit asks stands is = absurd (none-some _ is)
placing_by held (Commit s t keys) Accepted start commit asks stands is = absurd (none-some _ is)
placing_by held (Commit s t keys) (Settled c by) start commit asks stands is = absurd (none-some _ is)
placing_by held (Commit s t keys) (Handed c) start commit asks stands is = absurd (none-some _ is)

pub placing : (held : Held) (start commit : ℕ) → to_place (Some held) ≡ Some (start, commit) → Placing held start commit
placing held start commit is = placing_by held held.request held.progress start commit refl refl is

pub placing_need : (h : List Item) (held : Held) (start commit : ℕ) → Placing held start commit → need h (Some held) ≡ 5 - (once held.told_no_stamp + 1)
placing_need h held start commit k = rw (k.stands, k.asks) refl

-- the commit is settled, which is told with one item, or two where it was placed all the same
settled_falls : (h : List Item) (given : Places) (s start commit a : ℕ) (i : InstanceEntry) (held : Held) (by : How) → held_of i s ≡ Some held → Placing held start commit → a ≤ told_besides h start commit by + 1 → Became h given a 0 i.direct i.direct i.requests (slice_set i.requests s (Some (record held { progress = Settled commit by })))
settled_falls h given s start commit a i held by at k few =
    moved h given a 0 i.direct i.requests s (Some held) (Some (record held { progress = Settled commit by })) at
    (omega (arith, placing_need h held start commit k, settled_need h (record held { progress = Settled commit by }) k.asker start commit k.keys by k.asks refl, once_at_most held.told_no_stamp, besides_at_most h start commit by, few))
    (λ t there. absurd (none-some t (settled_start held.request t there)))
  where
    settled_start : (request : Request) (t : ℕ) → start_by i.direct request (Settled commit by) ≡ Some t → None ≡ Some t
    settled_start (Begin r) t is = is
    settled_start (Commit r u keys) t is = is

settle_as : (i : InstanceEntry) (s start commit : ℕ) (held : Held) (by : How) → held_of i s ≡ Some held → Placing held start commit → (instance_settle i s by).left ≡ moved_on i s held (Settled commit by)
settle_as i s start commit held by at k =
    ap (λ (step : InstanceStep (Unit {0})). step.left) (ap (settle_held i s by) at ∙ ap (settle_if_drawn i s by held) (ap (λ r. unsettled_by r held.progress) k.asks ∙ ap (unsettled_by (Commit k.asker start k.keys)) k.stands))

put_as : (h : List Item) (given : Places) (s start commit a : ℕ) (i : InstanceEntry) (held : Held) (by : How) → held_of i s ≡ Some held → Placing held start commit → a ≤ told_besides h start commit by + 1 → PostBecame h given a 0 (Some i) (Some (instance_settle i s by).left)
put_as h given s start commit a i held by at k few =
    subst (λ (left : InstanceEntry). PostBecame h given a 0 (Some i) (Some left)) (sym (settle_as i s start commit held by at k)) (settled_falls h given s start commit a i held by at k few)

-- by the fate, in a history that has the event's items
put_fated : (before : List Item) (given : Places) (node s start commit : ℕ) (fate : Fate) (i : InstanceEntry) (pairs : Pairs) (held : Held) (found : Option Mark) → held_of i s ≡ Some held → Placing held start commit → PutLeaves (before ++ (put_by node s start commit fate found i pairs).items) given true i (put_by node s start commit fate found i pairs)
put_fated before given node s start commit Works i pairs held None at k = put_as _ given s start commit 1 i held how.Placed at k (omega arith)
put_fated before given node s start commit Works i pairs held (Some mark) at k = put_as _ given s start commit 1 i held how.Invalid at k (omega arith)
put_fated before given node s start commit FailsUnchanged i pairs held None at k = put_as _ given s start commit 1 i held how.Faulted at k (omega arith)
put_fated before given node s start commit FailsUnchanged i pairs held (Some mark) at k = put_as _ given s start commit 1 i held how.Faulted at k (omega arith)
put_fated before given node s start commit FailsApplied i pairs held None at k =
    put_as _ given s start commit 2 i held how.Faulted at k (omega (arith, ap once (placed_now before (item.Fault (Node node) Table ∷ []) start commit)))
put_fated before given node s start commit FailsApplied i pairs held (Some mark) at k = put_as _ given s start commit 1 i held how.Faulted at k (omega arith)

put_at : (before : List Item) (given : Places) (node s : ℕ) (fate : Fate) (i : InstanceEntry) (pairs : Pairs) (held : Held) (stamps : Option (ℕ × ℕ)) → held_of i s ≡ Some held → to_place (Some held) ≡ stamps → PutLeaves (before ++ (put_commit node s fate i pairs stamps).items) given (is_some stamps) i (put_commit node s fate i pairs stamps)
put_at before given node s fate i pairs held None at is = stayed _ given 0 i.direct i.requests
put_at before given node s fate i pairs held (Some stamps) at is = put_fated before given node s stamps.0 stamps.1 fate i _ held (mark_of pairs stamps.0) at (placing held stamps.0 stamps.1 is)

pub put_leaves : (before : List Item) (given : Places) (node s : ℕ) (fate : Fate) (i : InstanceEntry) (pairs : Pairs) (found : Option Held) → held_of i s ≡ found → PutLeaves (before ++ (put_commit node s fate i pairs (to_place found)).items) given (is_to_put found) i (put_commit node s fate i pairs (to_place found))
put_leaves before given node s fate i pairs None at = stayed _ given 0 i.direct i.requests
put_leaves before given node s fate i pairs (Some held) at = put_at before given node s fate i pairs held (to_place (Some held)) at refl

-- the commit that was to be placed is so no longer, and so are those of other sessions as before
pub put_starts : (node s : ℕ) (fate : Fate) (i : InstanceEntry) (pairs : Pairs) (held : Held) (stamps : ℕ × ℕ) (r t : ℕ) → held_of i s ≡ Some held → to_place (Some held) ≡ Some stamps → start_of (put_commit node s fate i pairs (Some stamps)).parts.0 r ≡ Some t → (r ≢ s) × (start_to_place i.direct (held_of i r) ≡ Some t)
put_starts node s fate i pairs held stamps r t at is there =
    let k = placing held stamps.0 stamps.1 is in
    let left = put_left node s stamps.0 stamps.1 fate i _ (mark_of pairs stamps.0) in
    let settled = ap (λ (new : InstanceEntry). start_of (Some new) r) (sym (settle_as i s stamps.0 stamps.1 held left.0 at k)) in
    let found = ap (λ (post : Option InstanceEntry). start_of post r) (sym left.1) in
    settled_starts i.direct s r t held stamps.1 left.0 k.asker stamps.0 k.keys i.requests k.asks (settled ∙ (found ∙ there))
  where
    -- the instance that a put leaves
    put_left : (node s start commit : ℕ) (fate : Fate) (i : InstanceEntry) (pairs : Pairs) (found : Option Mark) → (by : How) × ((put_by node s start commit fate found i pairs).parts.0 ≡ Some (instance_settle i s by).left)
    put_left node s start commit Works i pairs None = (how.Placed, refl)
    put_left node s start commit Works i pairs (Some mark) = (how.Invalid, refl)
    put_left node s start commit FailsUnchanged i pairs None = (how.Faulted, refl)
    put_left node s start commit FailsUnchanged i pairs (Some mark) = (how.Faulted, refl)
    put_left node s start commit FailsApplied i pairs None = (how.Faulted, refl)
    put_left node s start commit FailsApplied i pairs (Some mark) = (how.Faulted, refl)

    settled_starts : (direct : Bool) (s r t : ℕ) (held : Held) (commit : ℕ) (by : How) (asker start : ℕ) (keys : List ℕ) (xs : List (Option Held)) → held.request ≡ Commit asker start keys → start_to_place direct (slice_index_or (slice_set xs s (Some (record held { progress = Settled commit by }))) r None) ≡ Some t → (r ≢ s) × (start_to_place direct (slice_index_or xs r None) ≡ Some t)
    settled_starts direct s r t held commit by asker start keys [] asks there = absurd (none-some t there)
    settled_starts direct zero zero t held commit by asker start keys (x ∷ xs) asks there = absurd (none-some t (ap (λ q. start_by direct q (Settled commit by)) (sym asks) ∙ there))
    settled_starts direct zero (suc r) t held commit by asker start keys (x ∷ xs) asks there = (λ same. cc, there)
    settled_starts direct (suc s) zero t held commit by asker start keys (x ∷ xs) asks there = (λ same. cc, there)
    settled_starts direct (suc s) (suc r) t held commit by asker start keys (x ∷ xs) asks there =
        let deeper = settled_starts direct s r t held commit by asker start keys xs asks there in
        (λ same. deeper.0 (omega (arith, same)), deeper.1)
