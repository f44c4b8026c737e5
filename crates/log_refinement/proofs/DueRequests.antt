-- How far the request that a node holds has come, and that the event which is due takes it on: none that is due is refused since there
-- is no request.
use Rattle.log_refinement.proofs.Names.{◌≡◌, ℕ, ◌+◌, ◌==◌, ◌<◌, ◌&&◌, Bool, true, false, if◌then◌else◌, List, [], ◌∷◌}
use Rattle.log_refinement.proofs.Names.{Option, None, Some, Ok, inl, inr, refl, sym, ◌∙◌, ap, subst, length, nat_lt}
use Rattle.log_refinement.proofs.Names.{nat_le, slice_get, slice_set, cases_lt, cases_Bool, and_parts, eqb-true}
use Rattle.log_refinement.proofs.Names.{get_or_past, none-some, Mark, Fate, Works, FailsUnchanged, FailsApplied, Cause}
use Rattle.log_refinement.proofs.Names.{Node, Session, Item, Held, Request, InstanceEntry, held_of, with_request}
use Rattle.log_refinement.proofs.Names.{unsettled_by, least_unsettled, stamps_by, stamps_of_held, stamps_at}
use Rattle.log_refinement.proofs.Names.{was_told_not_yet, InstanceStep, moved, epoch_refusal, accept_unless}
use Rattle.log_refinement.proofs.Names.{accept_if_asked, accept_held, out_of_stamps, decide_drawn, drawn_as, verdict_by}
use Rattle.log_refinement.proofs.Names.{settle_if_drawn, settle_held, instance_settle, answer_begin, answer_if_ready}
use Rattle.log_refinement.proofs.Names.{answer_held, reply_of, held_of-with_request_same, Pairs, mark_of, Client, State}
use Rattle.log_refinement.proofs.Names.{Step, with_reading, stepped, of_post, of_both, set_found, Effect, refused}
use Rattle.log_refinement.proofs.Names.{Event, Due, Owed, Nothing, Read, Answer, Denied, Removal, Erasure, Quiet}
use Rattle.log_refinement.proofs.Names.{ends_read, leaves_cells, leaves_nothing, is_lost, fails_record}
use Rattle.log_refinement.proofs.Names.{after_own_refusal, after_asking, ends_completion, removes, is_idle, owed_after}
use Rattle.log_refinement.proofs.Names.{after_due, is_due, is_step, opener, timed_at, touches, same_actor}
use Rattle.std.specs.Prelude.{◌⊎◌}
use Rattle.history_book.specs.declared.cause.Cause.TheVariants as cause
use Rattle.history_book.specs.declared.item.Item.TheVariants as item
use Rattle.system_parts.specs.declared.buckets.Verdict.{Verdict}
use Rattle.system_parts.specs.declared.buckets.Verdict.TheVariants.{Free, Conflict, Hidden}
use Rattle.system_parts.specs.declared.instance.Progress.{Progress}
use Rattle.system_parts.specs.declared.instance.Progress.TheVariants.{Asked, Accepted, Drawn, Settled, Handed}
use Rattle.system_parts.specs.declared.instance.Reply.{Reply}
use Rattle.system_parts.specs.declared.instance.Request.TheVariants as request
use Rattle.system_parts.specs.declared.instance.Settled.{Settled as How}
use Rattle.system_parts.specs.declared.instance.Settled.TheVariants as how
use Rattle.machine.specs.declared.event.Event as timed
use Rattle.machine.specs.declared.event.Event.TheVariants as made
use Rattle.machine.specs.Fits.{StopOf}
use Rattle.machine.specs.Events.Accept.{accept_by, accept_request, accept_on}
use Rattle.machine.specs.Events.Decide.{both_verdict, both_held, both_if_accepted, draw_item, decide_by, decide_request, decide_on}
use Rattle.machine.specs.Events.Put.{to_place, to_place_by, put_by, put_commit, put_on}
use Rattle.machine.specs.Events.Answer.{answer_by, answer_request, answer_on}
use Rattle.split_parts.specs.declared.event.Event.TheVariants as event
use Rattle.log_refinement.specs.declared.owed.Due.TheVariants as due
use Rattle.grant_laws.proofs.CalledRequests.{Has, the_post}
use Rattle.grant_laws.proofs.KeptRequests.{keeps}
use Rattle.log_refinement.proofs.AskFacts.{same_self}

-- ---- what a request waits for
abbrev pub due_by : Request → Progress → Due
due_by r Asked = due.Accept
due_by r Accepted = due.Decide
due_by (request.Begin session) (Drawn stamp) = due.Answer
due_by (request.Commit session start keys) (Drawn stamp) = due.Put
due_by r (Settled commit by) = due.Answer
due_by r (Handed commit) = due.Answer

-- a request comes so far where commits are not handed to their sessions: a begin is not settled
abbrev pub ComesSoFar : Request → Progress → Type 0
ComesSoFar r (Handed commit) = ⊥
ComesSoFar r Asked = Unit {0}
ComesSoFar r Accepted = Unit {0}
ComesSoFar r (Drawn stamp) = Unit {0}
ComesSoFar (request.Begin session) (Settled commit by) = ⊥
ComesSoFar (request.Commit session start keys) (Settled commit by) = Unit {0}

-- an instance holds a request of the session that waits for this event
pub record HeldDue (post : Option InstanceEntry) (s : ℕ) (d : Due) : Type 0 where
  pub i : InstanceEntry
  pub is : post ≡ Some i
  pub held : Held
  pub has : held_of i s ≡ Some held
  pub waits : due_by held.request held.progress ≡ d
  pub so_far : ComesSoFar held.request held.progress

-- it is as what is owed says, of a line that waits for its answer
abbrev pub PostShows : Option InstanceEntry → ℕ → Owed → Type 0
PostShows post s (Answer node d) = HeldDue post s d
PostShows post s Denied = ⊥
PostShows post s owed = Unit {0}

-- ---- what is owed behind the items of one event
unfoldable pub owed_over : ℕ → Bool → Owed → List Item → Owed
owed_over s steps owed [] = owed
owed_over s steps owed (x ∷ xs) = owed_over s steps (owed_after (Session s) steps owed x) xs

-- behind an event that serves a request, at the node that was asked
abbrev pub then_owed : ℕ → ℕ → Due → Event → List Item → Owed
then_owed s n d e items = after_due (Session s) e items (owed_over s false (Answer n d) items)

abbrev pub Shows : ℕ → ℕ → Due → Event → Option InstanceEntry → List Item → Type 0
Shows s n d e post items = PostShows post s (then_owed s n d e items)

-- ---- requests that are held
pub held_within : (i : InstanceEntry) (s : ℕ) (held : Held) → held_of i s ≡ Some held → s < length i.requests
held_within i s held has = elim (cases_lt s (length i.requests)) [
  | inl within ↦ within
  | inr past ↦ absurd (none-some held (sym (get_or_past i.requests s None past) ∙ has))
]

held_set : (i : InstanceEntry) (s : ℕ) (held now : Held) → held_of i s ≡ Some held → held_of (with_request i s (Some now)) s ≡ Some now
held_set i s held now has = held_of-with_request_same i s (Some now) (held_within i s held has)

-- the request stays as it is
still : (i : InstanceEntry) (s : ℕ) (held : Held) (p : Progress) (d : Due) → held_of i s ≡ Some held → held.progress ≡ p → ComesSoFar held.request p → due_by held.request p ≡ d → HeldDue (Some i) s d
still i s held p d has is so_far waits = record { i = i; is = refl; held = held; has = has; waits = ap (due_by held.request) is ∙ waits; so_far = subst (ComesSoFar held.request) (sym is) so_far }

-- it comes further
further : (i : InstanceEntry) (s : ℕ) (held : Held) (p : Progress) → held_of i s ≡ Some held → ComesSoFar held.request p → HeldDue (Some (moved i s held p)) s (due_by held.request p)
further i s held p has so_far = record { i = moved i s held p; is = refl; held = record held { progress = p }; has = held_set i s held (record held { progress = p }) has; waits = refl; so_far = so_far }

-- an event that is not due is refused, and changes nothing
undue : (s n : ℕ) (i : InstanceEntry) (held : Held) (p : Progress) (d : Due) (e : Event) → held_of i s ≡ Some held → held.progress ≡ p → ComesSoFar held.request p → due_by held.request p ≡ d → is_due (Session s) n d e ≡ false → Shows s n d e (Some i) (item.Refused (Node n) (cause.NoRequest s) ∷ [])
unfolding owed_over
undue s n i held p d e has is so_far waits not = rw not (still i s held p d has is so_far waits)

-- ---- accept
accept_none : (s n : ℕ) (r : Request) (c : ℕ) → is_due (Session s) n (due_by r (Drawn c)) (event.Accept n s) ≡ false
accept_none s n (request.Begin session) c = refl
accept_none s n (request.Commit session start keys) c = refl

-- what refuses an acceptance ends the request
ended_epoch : (s n reading : ℕ) (i : InstanceEntry) (c : Client) (held : Held) (r : Request) (late : Bool) (start epoch : ℕ) →
    let step : InstanceStep (Unit {0}) = accept_unless i s held (if late then Some (cause.OldEpoch start epoch) else None) in
    held_of i s ≡ Some held → held.progress ≡ Asked → Shows s n due.Accept (event.Accept n s) (accept_by n s reading r step.left c step.answer).parts.0 (accept_by n s reading r step.left c step.answer).items
unfolding owed_over
ended_epoch s n reading i c held r true start epoch has is = rw (same_self s) tt
ended_epoch s n reading i c held r false start epoch has is = rw (same_self s, same_self n) (further i s held Accepted has tt)

accept_by_epoch : (s n reading : ℕ) (i : InstanceEntry) (c : Client) (held : Held) (r q : Request) →
    let step : InstanceStep (Unit {0}) = accept_unless i s held (epoch_refusal i q) in
    held_of i s ≡ Some held → held.progress ≡ Asked → Shows s n due.Accept (event.Accept n s) (accept_by n s reading r step.left c step.answer).parts.0 (accept_by n s reading r step.left c step.answer).items
unfolding owed_over
accept_by_epoch s n reading i c held r (request.Begin session) has is = rw (same_self s, same_self n) (further i s held Accepted has tt)
accept_by_epoch s n reading i c held r (request.Commit session start keys) has is = ended_epoch s n reading i c held r (nat_le start i.epoch) start i.epoch has is

accept_by_lease : (s n reading : ℕ) (i : InstanceEntry) (c : Client) (held : Held) (r : Request) (holds : Bool) →
    let step : InstanceStep (Unit {0}) = accept_unless i s held (if holds then epoch_refusal i held.request else Some (cause.Expired reading i.until)) in
    held_of i s ≡ Some held → held.progress ≡ Asked → Shows s n due.Accept (event.Accept n s) (accept_by n s reading r step.left c step.answer).parts.0 (accept_by n s reading r step.left c step.answer).items
unfolding owed_over
accept_by_lease s n reading i c held r true has is = accept_by_epoch s n reading i c held r held.request has is
accept_by_lease s n reading i c held r false has is = rw (same_self s) tt

accept_at : (s n reading : ℕ) (i : InstanceEntry) (c : Client) (held : Held) (p : Progress) →
    let step : InstanceStep (Unit {0}) = accept_if_asked i s reading held p in
    held_of i s ≡ Some held → held.progress ≡ p → ComesSoFar held.request p → Shows s n (due_by held.request p) (event.Accept n s) (accept_by n s reading held.request step.left c step.answer).parts.0 (accept_by n s reading held.request step.left c step.answer).items
accept_at s n reading i c held Asked has is so_far = accept_by_lease s n reading i c held held.request (nat_lt reading i.until) has is
accept_at s n reading i c held Accepted has is so_far = undue s n i held Accepted due.Decide (event.Accept n s) has is so_far refl refl
accept_at s n reading i c held (Drawn x) has is so_far = undue s n i held (Drawn x) (due_by held.request (Drawn x)) (event.Accept n s) has is so_far refl (accept_none s n held.request x)
accept_at s n reading i c held (Settled x by) has is so_far = undue s n i held (Settled x by) due.Answer (event.Accept n s) has is so_far refl refl
accept_at s n reading i c held (Handed x) has is so_far = undue s n i held (Handed x) due.Answer (event.Accept n s) has is so_far refl refl

pub accept_shows : (s n reading : ℕ) (i : InstanceEntry) (c : Client) (held : Held) → held_of i s ≡ Some held → ComesSoFar held.request held.progress → Shows s n (due_by held.request held.progress) (event.Accept n s) (accept_on n s reading (Some i) c).parts.0 (accept_on n s reading (Some i) c).items
accept_shows s n reading i c held has so_far =
    let made : accept_on n s reading (Some i) c ≡ accept_by n s reading held.request (accept_if_asked i s reading held held.progress).left c (accept_if_asked i s reading held held.progress).answer =
    ap (λ (found : Option Held). accept_request n s reading i c found) has
    ∙ ap (λ (found : Option Held). accept_by n s reading held.request (accept_held i s reading found).left c (accept_held i s reading found).answer) has in
    subst (λ (k : Effect (Option InstanceEntry × Client)). Shows s n (due_by held.request held.progress) (event.Accept n s) k.parts.0 k.items) (sym made) (accept_at s n reading i c held held.progress has refl so_far)

-- ---- decide
decide_none : (s n : ℕ) (r : Request) (c : ℕ) → is_due (Session s) n (due_by r (Drawn c)) (event.Decide n s) ≡ false
decide_none s n (request.Begin session) c = refl
decide_none s n (request.Commit session start keys) c = refl

abbrev DecidedSo : ℕ → ℕ → InstanceEntry → Client → Held → Type 0
DecidedSo s n i c held =
    (v : Verdict) → Shows s n due.Decide (event.Decide n s) (decide_by n s held (verdict_by i s held v).left c (verdict_by i s held v).answer).parts.0 (decide_by n s held (verdict_by i s held v).left c (verdict_by i s held v).answer).items

alike : (post : Option InstanceEntry) (s : ℕ) (owed : Owed) (b : Bool) → PostShows post s owed → PostShows post s (if b then owed else owed)
alike post s owed true shows = shows
alike post s owed false shows = shows

-- no stamp is left, which is told once, or the record has refused more of them
told_no_stamp : (s n : ℕ) (i : InstanceEntry) (c : Client) (held : Held) (told : Bool) → held_of i s ≡ Some held → held.progress ≡ Accepted → Shows s n due.Decide (event.Decide n s) (Some (with_request i s (Some (record held { told_no_stamp = true })))) (if told then [] else item.Refused (Session s) (cause.NoStamp i.last) ∷ [])
unfolding owed_over
told_no_stamp s n i c held true has is =
    alike (Some (with_request i s (Some (record held { told_no_stamp = true })))) s (Answer n due.Decide) ((s == s) && (n == n)) (record { i = with_request i s (Some (record held { told_no_stamp = true })); is = refl; held = record held { told_no_stamp = true }; has = held_set i s held (record held { told_no_stamp = true }) has; waits = ap (due_by held.request) is; so_far = subst (ComesSoFar held.request) (sym is) tt })
told_no_stamp s n i c held false has is =
    rw (same_self s, same_self s, same_self n) (record { i = with_request i s (Some (record held { told_no_stamp = true })); is = refl; held = record held { told_no_stamp = true }; has = held_set i s held (record held { told_no_stamp = true }) has; waits = ap (due_by held.request) is; so_far = subst (ComesSoFar held.request) (sym is) tt })

out_so : (s n : ℕ) (i : InstanceEntry) (c : Client) (held : Held) (stop : Option Cause) → StopOf stop → held_of i s ≡ Some held → held.progress ≡ Accepted →
    Shows s n due.Decide (event.Decide n s) (decide_by n s held (out_of_stamps i s held stop).left c (out_of_stamps i s held stop).answer).parts.0 (decide_by n s held (out_of_stamps i s held stop).left c (out_of_stamps i s held stop).answer).items
unfolding owed_over
out_so s n i c held None stops has is = told_no_stamp s n i c held held.told_no_stamp has is
out_so s n i c held (Some (cause.Replaced found)) stops has is = rw (same_self s) tt
out_so s n i c held (Some (cause.Spent ceiling)) stops has is = rw (same_self s) tt
out_so s n i c held (Some _) stops has is = absurd stops

drawn_item_shows : (s n term at stamp : ℕ) (post : Option InstanceEntry) (r : Request) → HeldDue post s (due_by r (Drawn stamp)) → Shows s n due.Decide (event.Decide n s) post (draw_item n term r at ∷ [])
unfolding owed_over
drawn_item_shows s n term at stamp post (request.Begin asker) k = rw (same_self s, same_self n) k
drawn_item_shows s n term at stamp post (request.Commit asker start keys) k = rw (same_self s, same_self n) k

drawn_plain : (r : Request) (stamp : ℕ) → drawn_as false r stamp ≡ Drawn stamp
drawn_plain (request.Begin asker) stamp = refl
drawn_plain (request.Commit asker start keys) stamp = refl

drawn_so : (s n stamp : ℕ) (i : InstanceEntry) (c : Client) (held : Held) → held_of i s ≡ Some held → i.direct ≡ false →
    Shows s n due.Decide (event.Decide n s) (decide_by n s held (decide_drawn i s held stamp).left c (decide_drawn i s held stamp).answer).parts.0 (decide_by n s held (decide_drawn i s held stamp).left c (decide_drawn i s held stamp).answer).items
drawn_so s n stamp i c held has plain =
    let now : Held = record held { progress = drawn_as i.direct held.request stamp } in
    let drawn : drawn_as i.direct held.request stamp ≡ Drawn stamp = ap (λ (b : Bool). drawn_as b held.request stamp) plain ∙ drawn_plain held.request stamp in
    drawn_item_shows s n _ _ stamp (Some (decide_drawn i s held stamp).left) held.request
    (record { i = (decide_drawn i s held stamp).left; is = refl; held = now; has = held_set i s held now has; waits = ap (due_by held.request) drawn; so_far = subst (ComesSoFar held.request) (sym drawn) tt })

free_so : (s n : ℕ) (i : InstanceEntry) (c : Client) (held : Held) (out : Bool) → StopOf i.stop → i.direct ≡ false → held_of i s ≡ Some held → held.progress ≡ Accepted →
    let step = if out then out_of_stamps i s held i.stop else decide_drawn i s held (i.last + 1) in Shows s n due.Decide (event.Decide n s) (decide_by n s held step.left c step.answer).parts.0 (decide_by n s held step.left c step.answer).items
free_so s n i c held true stops plain has is = out_so s n i c held i.stop stops has is
free_so s n i c held false stops plain has is = drawn_so s n (i.last + 1) i c held has plain

verdict_so : (s n : ℕ) (i : InstanceEntry) (c : Client) (held : Held) → StopOf i.stop → i.direct ≡ false → held_of i s ≡ Some held → held.progress ≡ Accepted → DecidedSo s n i c held
unfolding owed_over
verdict_so s n i c held stops plain has is Free = free_so s n i c held (i.last == i.ceiling) stops plain has is
verdict_so s n i c held stops plain has is (Conflict key by) = rw (same_self s) tt
verdict_so s n i c held stops plain has is (Hidden key water) = rw (same_self s) tt

decide_at : (s n : ℕ) (i : InstanceEntry) (c : Client) (held : Held) (p : Progress) → StopOf i.stop → i.direct ≡ false →
    let step = both_if_accepted i s c.reads held p in
    held_of i s ≡ Some held → held.progress ≡ p → ComesSoFar held.request p → Shows s n (due_by held.request p) (event.Decide n s) (decide_by n s held step.left c step.answer).parts.0 (decide_by n s held step.left c step.answer).items
decide_at s n i c held Asked stops plain has is so_far = undue s n i held Asked due.Accept (event.Decide n s) has is so_far refl refl
decide_at s n i c held Accepted stops plain has is so_far = verdict_so s n i c held stops plain has is (both_verdict i.buckets c.reads held.request)
decide_at s n i c held (Drawn x) stops plain has is so_far = undue s n i held (Drawn x) (due_by held.request (Drawn x)) (event.Decide n s) has is so_far refl (decide_none s n held.request x)
decide_at s n i c held (Settled x by) stops plain has is so_far = undue s n i held (Settled x by) due.Answer (event.Decide n s) has is so_far refl refl
decide_at s n i c held (Handed x) stops plain has is so_far = undue s n i held (Handed x) due.Answer (event.Decide n s) has is so_far refl refl

pub decide_shows : (s n : ℕ) (i : InstanceEntry) (c : Client) (held : Held) → StopOf i.stop → i.direct ≡ false → held_of i s ≡ Some held → ComesSoFar held.request held.progress → Shows s n (due_by held.request held.progress) (event.Decide n s) (decide_on n s (Some i) c).parts.0 (decide_on n s (Some i) c).items
decide_shows s n i c held stops plain has so_far =
    let made : decide_on n s (Some i) c ≡ decide_by n s held (both_if_accepted i s c.reads held held.progress).left c (both_if_accepted i s c.reads held held.progress).answer =
    ap (λ (found : Option Held). decide_request n s i c found) has
    ∙ ap (λ (found : Option Held). decide_by n s held (both_held i s c.reads found).left c (both_held i s c.reads found).answer) has in
    subst (λ (k : Effect (Option InstanceEntry × Client)). Shows s n (due_by held.request held.progress) (event.Decide n s) k.parts.0 k.items) (sym made) (decide_at s n i c held held.progress stops plain has refl so_far)

-- ---- put
settled_so : (s : ℕ) (i : InstanceEntry) (held : Held) (asker start commit : ℕ) (keys : List ℕ) (by : How) → held_of i s ≡ Some held → held.request ≡ request.Commit asker start keys → held.progress ≡ Drawn commit → HeldDue (Some (instance_settle i s by).left) s due.Answer
settled_so s i held asker start commit keys by has asks is =
    let left : (instance_settle i s by).left ≡ moved i s held (Settled commit by) =
    ap (λ (found : Option Held). (settle_held i s by found).left) has
    ∙ ap (λ (r : Request). (settle_if_drawn i s by held (unsettled_by r held.progress)).left) asks
    ∙ ap (λ (p : Progress). (settle_if_drawn i s by held (unsettled_by (request.Commit asker start keys) p)).left) is in
    subst (λ (j : InstanceEntry). HeldDue (Some j) s due.Answer) (sym left) (further i s held (Settled commit by) has (subst (λ (r : Request). ComesSoFar r (Settled commit by)) (sym asks) tt))

put_made : (s n start commit : ℕ) (fate : Fate) (found : Option Mark) (i : InstanceEntry) (pairs : Pairs) → ((by : How) → HeldDue (Some (instance_settle i s by).left) s due.Answer) → Shows s n due.Put (event.Put n s) (put_by n s start commit fate found i pairs).parts.0 (put_by n s start commit fate found i pairs).items
unfolding owed_over
put_made s n start commit Works None i pairs settles = rw (same_self s, same_self n) (settles how.Placed)
put_made s n start commit Works (Some mark) i pairs settles = rw (same_self s, same_self n) (settles how.Invalid)
put_made s n start commit FailsUnchanged None i pairs settles = rw (same_self s, same_self n) (settles how.Faulted)
put_made s n start commit FailsUnchanged (Some mark) i pairs settles = rw (same_self s, same_self n) (settles how.Faulted)
put_made s n start commit FailsApplied None i pairs settles = rw (same_self s, same_self n) (settles how.Faulted)
put_made s n start commit FailsApplied (Some mark) i pairs settles = rw (same_self s, same_self n) (settles how.Faulted)

put_at : (s n : ℕ) (fate : Fate) (i : InstanceEntry) (pairs : Pairs) (held : Held) (r : Request) (p : Progress) → held_of i s ≡ Some held → held.request ≡ r → held.progress ≡ p → ComesSoFar r p →
    Shows s n (due_by r p) (event.Put n s) (put_commit n s fate i pairs (to_place_by r p)).parts.0 (put_commit n s fate i pairs (to_place_by r p)).items
put_at s n fate i pairs held (request.Commit asker start keys) (Drawn commit) has asks is so_far = put_made s n start commit fate (mark_of pairs start) i _ (λ by. settled_so s i held asker start commit keys by has asks is)
put_at s n fate i pairs held (request.Begin asker) (Drawn x) has asks is so_far =
    undue s n i held (Drawn x) due.Answer (event.Put n s) has is (subst (λ (q : Request). ComesSoFar q (Drawn x)) (sym asks) so_far) (ap (λ (q : Request). due_by q (Drawn x)) asks) refl
put_at s n fate i pairs held (request.Begin asker) Asked has asks is so_far =
    undue s n i held Asked due.Accept (event.Put n s) has is (subst (λ (q : Request). ComesSoFar q Asked) (sym asks) so_far) (ap (λ (q : Request). due_by q Asked) asks) refl
put_at s n fate i pairs held (request.Begin asker) Accepted has asks is so_far =
    undue s n i held Accepted due.Decide (event.Put n s) has is (subst (λ (q : Request). ComesSoFar q Accepted) (sym asks) so_far) (ap (λ (q : Request). due_by q Accepted) asks) refl
put_at s n fate i pairs held (request.Begin asker) (Settled x by) has asks is so_far =
    undue s n i held (Settled x by) due.Answer (event.Put n s) has is (subst (λ (q : Request). ComesSoFar q (Settled x by)) (sym asks) so_far) (ap (λ (q : Request). due_by q (Settled x by)) asks) refl
put_at s n fate i pairs held (request.Begin asker) (Handed x) has asks is so_far =
    undue s n i held (Handed x) due.Answer (event.Put n s) has is (subst (λ (q : Request). ComesSoFar q (Handed x)) (sym asks) so_far) (ap (λ (q : Request). due_by q (Handed x)) asks) refl
put_at s n fate i pairs held (request.Commit asker start keys) Asked has asks is so_far =
    undue s n i held Asked due.Accept (event.Put n s) has is (subst (λ (q : Request). ComesSoFar q Asked) (sym asks) so_far) (ap (λ (q : Request). due_by q Asked) asks) refl
put_at s n fate i pairs held (request.Commit asker start keys) Accepted has asks is so_far =
    undue s n i held Accepted due.Decide (event.Put n s) has is (subst (λ (q : Request). ComesSoFar q Accepted) (sym asks) so_far) (ap (λ (q : Request). due_by q Accepted) asks) refl
put_at s n fate i pairs held (request.Commit asker start keys) (Settled x by) has asks is so_far =
    undue s n i held (Settled x by) due.Answer (event.Put n s) has is (subst (λ (q : Request). ComesSoFar q (Settled x by)) (sym asks) so_far) (ap (λ (q : Request). due_by q (Settled x by)) asks) refl
put_at s n fate i pairs held (request.Commit asker start keys) (Handed x) has asks is so_far =
    undue s n i held (Handed x) due.Answer (event.Put n s) has is (subst (λ (q : Request). ComesSoFar q (Handed x)) (sym asks) so_far) (ap (λ (q : Request). due_by q (Handed x)) asks) refl

pub put_shows : (s n : ℕ) (fate : Fate) (i : InstanceEntry) (pairs : Pairs) (held : Held) → held_of i s ≡ Some held → ComesSoFar held.request held.progress → Shows s n (due_by held.request held.progress) (event.Put n s) (put_on n s fate (Some i) pairs).parts.0 (put_on n s fate (Some i) pairs).items
put_shows s n fate i pairs held has so_far =
    let made : put_on n s fate (Some i) pairs ≡ put_commit n s fate i pairs (to_place_by held.request held.progress) = ap (λ (found : Option Held). put_commit n s fate i pairs (to_place found)) has in
    subst (λ (k : Effect (Option InstanceEntry × Pairs)). Shows s n (due_by held.request held.progress) (event.Put n s) k.parts.0 k.items) (sym made) (put_at s n fate i pairs held held.request held.progress has refl refl so_far)

-- ---- answer
-- a begin waits, which is told once, or is answered
told_not_yet : (s n commit : ℕ) (i : InstanceEntry) (held : Held) (start : ℕ) (r : ℕ) (told : Bool) → held_of i s ≡ Some held → held.request ≡ request.Begin r → held.progress ≡ Drawn start → Shows s n due.Answer (event.Answer n s) (Some (with_request i s (Some (record held { told_not_yet = true })))) (if told then [] else item.Refused (Session s) (cause.NotYet commit) ∷ [])
unfolding owed_over
told_not_yet s n commit i held start r true has asks is = rw (same_self s, same_self n) (record {
  i = with_request i s (Some (record held { told_not_yet = true }));
  is = refl;
  held = record held { told_not_yet = true };
  has = held_set i s held (record held { told_not_yet = true }) has;
  waits = ap (λ (q : Request). due_by q held.progress) asks ∙ ap (λ (p : Progress). due_by (request.Begin r) p) is;
  so_far = subst (ComesSoFar held.request) (sym is) tt;
})
told_not_yet s n commit i held start r false has asks is = rw (same_self s) tt

begin_so : (s n start r : ℕ) (i : InstanceEntry) (c : Client) (held : Held) (least : Option ℕ) → held_of i s ≡ Some held → held.request ≡ request.Begin r → held.progress ≡ Drawn start →
    let step : InstanceStep Reply = answer_begin i s held start least in Shows s n due.Answer (event.Answer n s) (answer_by n s start c i step.left step.answer).parts.0 (answer_by n s start c i step.left step.answer).items
unfolding owed_over
begin_so s n start r i c held None has asks is = rw (same_self s) tt
begin_so s n start r i c held (Some commit) has asks is = told_not_yet s n commit i held start r (was_told_not_yet i s) has asks is

commit_so : (s n start commit : ℕ) (i left : InstanceEntry) (c : Client) (by : How) → Shows s n due.Answer (event.Answer n s) (answer_by n s start c i left (Ok (reply_of commit by))).parts.0 (answer_by n s start c i left (Ok (reply_of commit by))).items
unfolding owed_over
commit_so s n start commit i left c how.Placed = rw (same_self s) tt
commit_so s n start commit i left c how.Invalid = rw (same_self s) tt
commit_so s n start commit i left c how.Faulted = rw (same_self s) tt

-- by what the instance answers, from what is held
answered : ℕ → ℕ → InstanceEntry → Client → Held → Request → Progress → Option (ℕ × Option ℕ) → Effect (Option InstanceEntry × Client)
answered s n i c held r p None = refused (Some i, c) (Node n) (cause.NoRequest s)
answered s n i c held r p (Some stamps) = answer_by n s stamps.0 c i (answer_if_ready i s held r p).left (answer_if_ready i s held r p).answer

answer_at : (s n : ℕ) (i : InstanceEntry) (c : Client) (held : Held) (r : Request) (p : Progress) → held_of i s ≡ Some held → held.request ≡ r → held.progress ≡ p → ComesSoFar r p →
    Shows s n (due_by r p) (event.Answer n s) (answered s n i c held r p (stamps_by r p)).parts.0 (answered s n i c held r p (stamps_by r p)).items
unfolding answered
answer_at s n i c held (request.Begin asker) (Drawn start) has asks is so_far = begin_so s n start asker i c held (least_unsettled i.requests start) has asks is
answer_at s n i c held (request.Commit asker start keys) (Settled commit by) has asks is so_far = commit_so s n start commit i _ c by
answer_at s n i c held (request.Begin asker) Asked has asks is so_far = undue s n i held Asked due.Accept (event.Answer n s) has is tt refl refl
answer_at s n i c held (request.Begin asker) Accepted has asks is so_far = undue s n i held Accepted due.Decide (event.Answer n s) has is tt refl refl
answer_at s n i c held (request.Begin asker) (Settled commit by) has asks is so_far = absurd so_far
answer_at s n i c held (request.Commit asker start keys) Asked has asks is so_far = undue s n i held Asked due.Accept (event.Answer n s) has is tt refl refl
answer_at s n i c held (request.Commit asker start keys) Accepted has asks is so_far = undue s n i held Accepted due.Decide (event.Answer n s) has is tt refl refl
answer_at s n i c held (request.Commit asker start keys) (Drawn commit) has asks is so_far = undue s n i held (Drawn commit) due.Put (event.Answer n s) has is tt (ap (λ (q : Request). due_by q (Drawn commit)) asks) refl
answer_at s n i c held r (Handed commit) has asks is so_far = absurd so_far

answer_is : (s n : ℕ) (i : InstanceEntry) (c : Client) (held : Held) → held_of i s ≡ Some held → (stamps : Option (ℕ × Option ℕ)) → answer_request n s i c stamps ≡ answered s n i c held held.request held.progress stamps
unfolding answered
answer_is s n i c held has None = refl
answer_is s n i c held has (Some stamps) = ap (λ (found : Option Held). answer_by n s stamps.0 c i (answer_held i s found).left (answer_held i s found).answer) has

pub answer_shows : (s n : ℕ) (i : InstanceEntry) (c : Client) (held : Held) → held_of i s ≡ Some held → ComesSoFar held.request held.progress → Shows s n (due_by held.request held.progress) (event.Answer n s) (answer_on n s (Some i) c).parts.0 (answer_on n s (Some i) c).items
unfolding answered
answer_shows s n i c held has so_far =
    let by : (stamps : Option (ℕ × Option ℕ)) → answer_request n s i c stamps ≡ answered s n i c held held.request held.progress stamps = λ stamps. answer_is s n i c held has stamps in
    let made : answer_on n s (Some i) c ≡ answered s n i c held held.request held.progress (stamps_by held.request held.progress) =
    by (stamps_at i s) ∙ ap (λ (found : Option Held). answered s n i c held held.request held.progress (stamps_of_held found)) has in
    subst (λ (k : Effect (Option InstanceEntry × Client)). Shows s n (due_by held.request held.progress) (event.Answer n s) k.parts.0 k.items) (sym made) (answer_at s n i c held held.request held.progress has refl refl so_far)

-- ---- at the node
pub record HeldAt (nodes : List (Option InstanceEntry)) (n s : ℕ) (d : Due) : Type 0 where
  pub held : Held
  pub there : Has nodes n s held
  pub waits : due_by held.request held.progress ≡ d
  pub so_far : ComesSoFar held.request held.progress

-- the node holds the request as far as it is owed
abbrev pub NodeShows : List (Option InstanceEntry) → ℕ → ℕ → Owed → Type 0
NodeShows nodes n s (Answer node d) = HeldAt nodes n s d
NodeShows nodes n s Denied = ⊥
NodeShows nodes n s owed = Unit {0}

node_set : (nodes : List (Option InstanceEntry)) (n s : ℕ) (old now : Option InstanceEntry) (owed : Owed) → slice_get nodes n ≡ Some old → PostShows now s owed → NodeShows (slice_set nodes n now) n s owed
node_set nodes n s old now (Answer node d) at k = record {
  held = k.held;
  there = record { i = k.i; at = set_found nodes n now old at ∙ ap (λ (x : Option InstanceEntry). Some x) k.is; has = k.has };
  waits = k.waits;
  so_far = k.so_far;
}
node_set nodes n s old now Denied at k = absurd k
node_set nodes n s old now Nothing at k = tt
node_set nodes n s old now (Read key) at k = tt
node_set nodes n s old now (Removal start) at k = tt
node_set nodes n s old now Erasure at k = tt
node_set nodes n s old now Quiet at k = tt

-- an event that does not touch it
pub shows_past : (w : State) (e : timed.Event) (fate : Fate) (n s : ℕ) (owed : Owed) → touches n s e ≡ false → NodeShows w.nodes n s owed → NodeShows (stepped w e fate).state.nodes n s owed
shows_past w e fate n s (Answer node d) none k = record { held = k.held; there = keeps w e fate n s k.held none k.there; waits = k.waits; so_far = k.so_far }
shows_past w e fate n s Denied none k = absurd k
shows_past w e fate n s Nothing none k = tt
shows_past w e fate n s (Read key) none k = tt
shows_past w e fate n s (Removal start) none k = tt
shows_past w e fate n s Erasure none k = tt
shows_past w e fate n s Quiet none k = tt

-- ---- an event that serves it
abbrev StepShows : ℕ → ℕ → Due → Event → Step → Type 0
StepShows s n d e step = NodeShows step.state.nodes n s (then_owed s n d e step.items)

nothing_made : (w : State) (s n : ℕ) (d : Due) (e : Event) → HeldAt w.nodes n s d → NodeShows w.nodes n s (then_owed s n d e [])
unfolding owed_over
nothing_made w s n d e k = alike_at w.nodes n s (Answer n d) (is_due (Session s) n d e) k
  where
    alike_at : (nodes : List (Option InstanceEntry)) (n s : ℕ) (owed : Owed) (b : Bool) → NodeShows nodes n s owed → NodeShows nodes n s (if b then owed else owed)
    alike_at nodes n s owed true k = k
    alike_at nodes n s owed false k = k

-- by what the event makes of the node's instance
made_at : {P : Type 0} → (w : State) (s n : ℕ) (d : Due) (e : Event) (k : HeldAt w.nodes n s d) (post : Option InstanceEntry) (f : Option InstanceEntry → Effect (Option InstanceEntry × P)) → slice_get w.nodes n ≡ Some post →
    Shows s n (due_by k.held.request k.held.progress) e (f (Some k.there.i)).parts.0 (f (Some k.there.i)).items → NodeShows (slice_set w.nodes n (f post).parts.0) n s (then_owed s n d e (f post).items)
made_at w s n d e k post f at shows =
    let same : Some k.there.i ≡ post = sym (the_post w.nodes n n s k.held post k.there at refl) in
    subst (λ (p : Option InstanceEntry). NodeShows (slice_set w.nodes n (f p).parts.0) n s (then_owed s n d e (f p).items)) same
    (node_set w.nodes n s post (f (Some k.there.i)).parts.0 (then_owed s n d e (f (Some k.there.i)).items) at
    (subst (λ (x : Due). Shows s n x e (f (Some k.there.i)).parts.0 (f (Some k.there.i)).items) k.waits shows))

-- what the decision requires of the instance
pub record CanDecide (w : State) (n : ℕ) : Type 0 where
  pub stops : (i : InstanceEntry) → slice_get w.nodes n ≡ Some (Some i) → StopOf i.stop
  pub plain : (i : InstanceEntry) → slice_get w.nodes n ≡ Some (Some i) → i.direct ≡ false

accepts_so : (w : State) (s n reading : ℕ) (fate : Fate) (d : Due) → HeldAt w.nodes n s d → StepShows s n d (event.Accept n s) (stepped w (made.Accept n s reading) fate)
accepts_so w s n reading fate d k =
    of_both (StepShows s n d (event.Accept n s)) (with_reading w reading) _ (slice_get w.nodes n) (slice_get w.clients s) (nothing_made w s n d (event.Accept n s) k) (λ post c at there. made_at w s n d (event.Accept n s) k post (λ p. accept_on n s reading p c) at (accept_shows s n reading k.there.i c k.held k.there.has k.so_far))

decides_so : (w : State) (s n : ℕ) (fate : Fate) (d : Due) → CanDecide w n → HeldAt w.nodes n s d → StepShows s n d (event.Decide n s) (stepped w (made.Decide n s) fate)
decides_so w s n fate d can k =
    of_both (StepShows s n d (event.Decide n s)) w _ (slice_get w.nodes n) (slice_get w.clients s) (nothing_made w s n d (event.Decide n s) k) (λ post c at there. made_at w s n d (event.Decide n s) k post (λ p. decide_on n s p c) at (decide_shows s n k.there.i c k.held (can.stops k.there.i k.there.at) (can.plain k.there.i k.there.at) k.there.has k.so_far))

puts_so : (w : State) (s n : ℕ) (fate : Fate) (d : Due) → HeldAt w.nodes n s d → StepShows s n d (event.Put n s) (stepped w (made.Put n s) fate)
puts_so w s n fate d k =
    of_post (StepShows s n d (event.Put n s)) w _ (slice_get w.nodes n) (nothing_made w s n d (event.Put n s) k) (λ post at. made_at w s n d (event.Put n s) k post (λ p. put_on n s fate p w.pairs) at (put_shows s n fate k.there.i w.pairs k.held k.there.has k.so_far))

answers_so : (w : State) (s n : ℕ) (fate : Fate) (d : Due) → HeldAt w.nodes n s d → StepShows s n d (event.Answer n s) (stepped w (made.Answer n s) fate)
answers_so w s n fate d k =
    of_both (StepShows s n d (event.Answer n s)) w _ (slice_get w.nodes n) (slice_get w.clients s) (nothing_made w s n d (event.Answer n s) k) (λ post c at there. made_at w s n d (event.Answer n s) k post (λ p. answer_on n s p c) at (answer_shows s n k.there.i c k.held k.there.has k.so_far))

-- ---- an event of the session's own log
-- what is owed when an answer is, by an event that is not due: the same, or something of what it ended by
abbrev pub IsRest : Owed → Type 0
IsRest (Answer node d) = ⊥
IsRest Denied = ⊥
IsRest owed = Unit {0}

StaysOrEnds : ℕ → Due → Owed → Type 0
StaysOrEnds n d owed = (owed ≡ Answer n d) ⊎ IsRest owed

either_so : (n : ℕ) (d : Due) (b : Bool) (x y : Owed) → StaysOrEnds n d x → StaysOrEnds n d y → StaysOrEnds n d (if b then x else y)
either_so n d true x y one other = one
either_so n d false x y one other = other

asking_so : (s n : ℕ) (d : Due) (x : Item) → StaysOrEnds n d (after_asking (Session s) n d x)
unfolding StaysOrEnds
asking_so s n d (item.Begin session start) = either_so n d (session == s) Nothing (Answer n d) (inr tt) (inl refl)
asking_so s n d (item.Committed session start commit) = either_so n d (session == s) (Removal start) (Answer n d) (inr tt) (inl refl)
asking_so s n d (item.Refused who why) =
    either_so n d (is_lost n why) Quiet (if same_actor who (Session s) then after_own_refusal n d why else Answer n d) (inr tt)
    (either_so n d (same_actor who (Session s)) (after_own_refusal n d why) (Answer n d)
    (either_so n d (leaves_cells why) Erasure (if leaves_nothing why then Nothing else Answer n d) (inr tt) (either_so n d (leaves_nothing why) Nothing (Answer n d) (inr tt) (inl refl)))
    (inl refl))
asking_so s n d (item.Fault who store) = either_so n d (fails_record n who store) Nothing (Answer n d) (inr tt) (inl refl)
asking_so s n d _ = inl refl

rest_by : (b : Bool) (owed : Owed) → IsRest owed → IsRest (if b then Nothing else owed)
rest_by true owed rest = tt
rest_by false owed rest = rest

rest_after : (s : ℕ) (steps : Bool) (owed : Owed) (x : Item) → IsRest owed → IsRest (owed_after (Session s) steps owed x)
rest_after s steps Nothing x rest = tt
rest_after s steps (Read key) x rest = rest_by (ends_read (Session s) key x) (Read key) tt
rest_after s steps (Answer node d) x rest = absurd rest
rest_after s steps Denied x rest = absurd rest
rest_after s steps (Removal start) x rest = rest_by (steps && removes (Session s) start x) (Removal start) tt
rest_after s steps Erasure x rest = rest_by (steps && ends_completion (Session s) x) Erasure tt
rest_after s steps Quiet x rest = rest_by (steps && is_idle (Session s) x) Quiet tt

pub rest_over : (s : ℕ) (steps : Bool) (owed : Owed) (xs : List Item) → IsRest owed → IsRest (owed_over s steps owed xs)
unfolding owed_over
rest_over s steps owed [] rest = rest
rest_over s steps owed (x ∷ xs) rest = rest_over s steps (owed_after (Session s) steps owed x) xs (rest_after s steps owed x rest)

mutual_so : (s n : ℕ) (steps : Bool) (d : Due) (owed : Owed) (xs : List Item) → StaysOrEnds n d owed → StaysOrEnds n d (owed_over s steps owed xs)
unfolding owed_over StaysOrEnds
mutual_so s n steps d owed [] so = so
mutual_so s n steps d owed (x ∷ xs) (inl same) = mutual_so s n steps d (owed_after (Session s) steps owed x) xs (subst (λ (o : Owed). StaysOrEnds n d (owed_after (Session s) steps o x)) (sym same) (asking_so s n d x))
mutual_so s n steps d owed (x ∷ xs) (inr rest) = inr (rest_over s steps owed (x ∷ xs) rest)

pub shows_rest : (nodes : List (Option InstanceEntry)) (n s : ℕ) (owed : Owed) → IsRest owed → NodeShows nodes n s owed
shows_rest nodes n s (Answer node d) rest = absurd rest
shows_rest nodes n s Denied rest = absurd rest
shows_rest nodes n s Nothing rest = tt
shows_rest nodes n s (Read key) rest = tt
shows_rest nodes n s (Removal start) rest = tt
shows_rest nodes n s Erasure rest = tt
shows_rest nodes n s Quiet rest = tt

pub due_rest : (s : ℕ) (e : Event) (items : List Item) (owed : Owed) → IsRest owed → after_due (Session s) e items owed ≡ owed
due_rest s e items (Answer node d) rest = absurd rest
due_rest s e items Denied rest = absurd rest
due_rest s e items Nothing rest = refl
due_rest s e items (Read key) rest = refl
due_rest s e items (Removal start) rest = refl
due_rest s e items Erasure rest = refl
due_rest s e items Quiet rest = refl

-- one that is not due, and leaves the request
pub undue_shows : (nodes : List (Option InstanceEntry)) (s n : ℕ) (steps : Bool) (d : Due) (e : Event) (items : List Item) → is_due (Session s) n d e ≡ false → HeldAt nodes n s d → NodeShows nodes n s (after_due (Session s) e items (owed_over s steps (Answer n d) items))
unfolding StaysOrEnds
undue_shows nodes s n steps d e items not k = elim (mutual_so s n steps d (Answer n d) items (inl refl)) [
  | inl same ↦ subst (λ (o : Owed). NodeShows nodes n s (after_due (Session s) e items o)) (sym same) (rw not k)
  | inr rest ↦ subst (NodeShows nodes n s) (sym (due_rest s e items (owed_over s steps (Answer n d) items) rest)) (shows_rest nodes n s (owed_over s steps (Answer n d) items) rest)
]

no_both : (a b : Bool) → a && b ≡ false → b && a ≡ false
no_both true true none = none
no_both true false none = refl
no_both false true none = refl
no_both false false none = refl

-- an event that does not touch the request is not due
not_due : (s n base : ℕ) (leads : List ℕ) (master : ℕ) (d : Due) (e : Event) → touches n s (timed_at base leads master e) ≡ false → is_due (Session s) n d e ≡ false
not_due s n base leads master due.Accept (event.Accept m r) none = no_both (m == n) (r == s) none
not_due s n base leads master due.Decide (event.Decide m r) none = no_both (m == n) (r == s) none
not_due s n base leads master due.Put (event.Put m r) none = no_both (m == n) (r == s) none
not_due s n base leads master due.Answer (event.Answer m r) none = no_both (m == n) (r == s) none
not_due s n base leads master due.Accept e none = refl
not_due s n base leads master due.Decide e none = refl
not_due s n base leads master due.Put e none = refl
not_due s n base leads master due.Answer e none = refl

abbrev OwnShows : State → ℕ → List ℕ → ℕ → Event → Fate → ℕ → ℕ → Due → Type 0
OwnShows w base leads master e fate s n d =
    let step : Step = stepped w (timed_at base leads master e) fate in
    NodeShows step.state.nodes n s (after_due (Session s) e step.items (owed_over s (is_step e) (Answer n d) step.items))

touching : (w : State) (base : ℕ) (leads : List ℕ) (master : ℕ) (e : Event) (fate : Fate) (s n : ℕ) (d : Due) → CanDecide w n → opener e ≡ None → touches n s (timed_at base leads master e) ≡ true → HeldAt w.nodes n s d → OwnShows w base leads master e fate s n d
touching w base leads master (event.Accept m r) fate s n d can opens is k =
    let both = and_parts (m == n) (r == s) is in
    subst (λ (q : ℕ). OwnShows w base leads master (event.Accept q r) fate s n d) (sym (eqb-true m n both.0)) (subst (λ (q : ℕ). OwnShows w base leads master (event.Accept n q) fate s n d) (sym (eqb-true r s both.1)) (accepts_so w s n _ fate d k))
touching w base leads master (event.Decide m r) fate s n d can opens is k =
    let both = and_parts (m == n) (r == s) is in
    subst (λ (q : ℕ). OwnShows w base leads master (event.Decide q r) fate s n d) (sym (eqb-true m n both.0)) (subst (λ (q : ℕ). OwnShows w base leads master (event.Decide n q) fate s n d) (sym (eqb-true r s both.1)) (decides_so w s n fate d can k))
touching w base leads master (event.Put m r) fate s n d can opens is k =
    let both = and_parts (m == n) (r == s) is in
    subst (λ (q : ℕ). OwnShows w base leads master (event.Put q r) fate s n d) (sym (eqb-true m n both.0)) (subst (λ (q : ℕ). OwnShows w base leads master (event.Put n q) fate s n d) (sym (eqb-true r s both.1)) (puts_so w s n fate d k))
touching w base leads master (event.Answer m r) fate s n d can opens is k =
    let both = and_parts (m == n) (r == s) is in
    subst (λ (q : ℕ). OwnShows w base leads master (event.Answer q r) fate s n d) (sym (eqb-true m n both.0)) (subst (λ (q : ℕ). OwnShows w base leads master (event.Answer n q) fate s n d) (sym (eqb-true r s both.1)) (answers_so w s n fate d k))
touching w base leads master e fate s n d can opens is k = absurd (cc)

pub own_answer : (w : State) (base : ℕ) (leads : List ℕ) (master : ℕ) (e : Event) (fate : Fate) (s n : ℕ) (d : Due) → CanDecide w n → opener e ≡ None → HeldAt w.nodes n s d → OwnShows w base leads master e fate s n d
own_answer w base leads master e fate s n d can opens k = elim (cases_Bool (touches n s (timed_at base leads master e))) [
  | inl is ↦ touching w base leads master e fate s n d can opens is k
  | inr none ↦ undue_shows (stepped w (timed_at base leads master e) fate).state.nodes s n (is_step e) d e (stepped w (timed_at base leads master e) fate).items (not_due s n base leads master d e none) (shows_past w (timed_at base leads master e) fate n s (Answer n d) none k)
]
