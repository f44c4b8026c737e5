-- A request is told NoStamp and NotYet once: the flag of the request that it holds is set where it is told, and silences it
-- from then on.
use Rattle.machine.proofs.Names.{◌≡◌, ℕ, zero, suc, ◌+◌, ◌==◌, Bool, true, false, if◌then◌else◌, List, [], ◌∷◌, Option}
use Rattle.machine.proofs.Names.{Some, None, Result, Ok, Err, refl, sym, ◌∙◌, ap, subst, slice_get, slice_set}
use Rattle.machine.proofs.Names.{slice_index_or, IfSome, same_Some, Cause, Session, Item, Refused, Verdict, Free}
use Rattle.machine.proofs.Names.{Conflict, Hidden, Held, Decided, Reply, Progress, Accepted, Drawn, Request, Begin}
use Rattle.machine.proofs.Names.{Commit, InstanceEntry, held_of, no_stamp_of_held, was_told_no_stamp, not_yet_of_held}
use Rattle.machine.proofs.Names.{was_told_not_yet, stamps_at, least_unsettled, IsStop, out_of_stamps, decide_drawn}
use Rattle.machine.proofs.Names.{verdict_by, answer_begin, answer_if_ready, answer_held, instance_answer, Client, State}
use Rattle.machine.proofs.Names.{Refuses, Effect, Step, step_by, with_post, with_client, at_both, on_request}
use Rattle.machine.proofs.Names.{both_verdict, both_if_accepted, both_held, decide_both, decide_by, decide_request}
use Rattle.machine.proofs.Names.{decide_on, answer_by, answer_request, answer_on, KeepsStop, RequestsAreToldOnce}
use Rattle.history_book.specs.declared.cause.Cause.TheVariants as cause
use Rattle.system_parts.specs.declared.instance.Reply.TheVariants as reply
use Rattle.system_parts.specs.declared.instance.Progress.TheVariants.{Settled}
use Rattle.machine.specs.Laws.{InstanceAt}

-- ---- what is found where it was put
found_here : (xs : List (Option Held)) (session : ℕ) (held : Held) (now : Option Held) → slice_index_or xs session None ≡ Some held → slice_index_or (slice_set xs session now) session None ≡ now
found_here [] session held now is = absurd (cc)
found_here (x ∷ xs) zero held now is = refl
found_here (x ∷ xs) (suc session) held now is = found_here xs session held now is

post_here : (posts : List (Option InstanceEntry)) (node : ℕ) (old : Option InstanceEntry) (new : Option InstanceEntry) → slice_get posts node ≡ Some old → slice_get (slice_set posts node new) node ≡ Some new
post_here [] node old new is = absurd (cc)
post_here (x ∷ xs) zero old new is = refl
post_here (x ∷ xs) (suc node) old new is = post_here xs node old new is

-- ---- a decision that is told NoStamp sets the flag
abbrev Flags : ℕ → Result Decided Cause → InstanceEntry → Type 0
Flags session answer left = (last : ℕ) → answer ≡ Err (cause.NoStamp last) → was_told_no_stamp left session ≡ true

-- it is flagged only where no refusal is kept, since one that is kept is no NoStamp
flags_out : (i : InstanceEntry) (session : ℕ) (held : Held) (stop : Option Cause) → held_of i session ≡ Some held → IfSome stop IsStop → Flags session (out_of_stamps i session held stop).answer (out_of_stamps i session held stop).left
flags_out i session held None is keeps last told = ap no_stamp_of_held (found_here i.requests session held (Some (record held { told_no_stamp = true })) is)
flags_out i session held (Some why) is keeps last told = let same : why ≡ cause.NoStamp last = cc in absurd (subst IsStop same keeps)

flags_free : (i : InstanceEntry) (session : ℕ) (held : Held) (out : Bool) → held_of i session ≡ Some held → KeepsStop i → let step = (if out then out_of_stamps i session held i.stop else decide_drawn i session held (i.last + 1)) in Flags session step.answer step.left
flags_free i session held true is keeps = flags_out i session held i.stop is keeps
flags_free i session held false is keeps = λ last told. absurd (cc)

flags_verdict : (i : InstanceEntry) (session : ℕ) (held : Held) (verdict : Verdict) → held_of i session ≡ Some held → KeepsStop i → Flags session (verdict_by i session held verdict).answer (verdict_by i session held verdict).left
flags_verdict i session held Free is keeps = flags_free i session held (i.last == i.ceiling) is keeps
flags_verdict i session held (Conflict key by) is keeps = λ last told. absurd (cc)
flags_verdict i session held (Hidden key water) is keeps = λ last told. absurd (cc)

flags_accepted : (i : InstanceEntry) (session : ℕ) (reads : List ℕ) (held : Held) (progress : Progress) → held_of i session ≡ Some held → KeepsStop i → Flags session (both_if_accepted i session reads held progress).answer (both_if_accepted i session reads held progress).left
flags_accepted i session reads held Accepted is keeps = flags_verdict i session held (both_verdict i.buckets reads held.request) is keeps
flags_accepted i session reads held _ is keeps = λ last told. absurd (cc)

flags_held : (i : InstanceEntry) (session : ℕ) (reads : List ℕ) (held : Option Held) → held_of i session ≡ held → KeepsStop i → Flags session (both_held i session reads held).answer (both_held i session reads held).left
flags_held i session reads None is keeps = λ last told. absurd (cc)
flags_held i session reads (Some held) is keeps = flags_accepted i session reads held held.progress is keeps

flags : (i : InstanceEntry) (session : ℕ) (reads : List ℕ) → KeepsStop i → Flags session (decide_both i session reads).answer (decide_both i session reads).left
flags i session reads keeps = flags_held i session reads (held_of i session) refl keeps

-- ---- an answer that is told NotYet sets the flag
abbrev Waits : ℕ → Result Reply Cause → InstanceEntry → Type 0
Waits session answer left = (commit : ℕ) → answer ≡ Err (cause.NotYet commit) → was_told_not_yet left session ≡ true

waits_begin : (i : InstanceEntry) (session : ℕ) (held : Held) (start : ℕ) (wait : Option ℕ) → held_of i session ≡ Some held → Waits session (answer_begin i session held start wait).answer (answer_begin i session held start wait).left
waits_begin i session held start None is = λ commit told. absurd (cc)
waits_begin i session held start (Some below) is =
    λ commit told. ap not_yet_of_held (found_here i.requests session held (Some (record held { told_not_yet = true })) is)

waits_ready : (i : InstanceEntry) (session : ℕ) (held : Held) (request : Request) (progress : Progress) → held_of i session ≡ Some held → Waits session (answer_if_ready i session held request progress).answer (answer_if_ready i session held request progress).left
waits_ready i session held (Begin s) (Drawn start) is = waits_begin i session held start (least_unsettled i.requests start) is
waits_ready i session held (Commit s start keys) (Settled commit how) is = λ commit told. absurd (cc)
waits_ready i session held _ _ is = λ commit told. absurd (cc)

waits_held : (i : InstanceEntry) (session : ℕ) (held : Option Held) → held_of i session ≡ held → Waits session (answer_held i session held).answer (answer_held i session held).left
waits_held i session None is = λ commit told. absurd (cc)
waits_held i session (Some held) is = waits_ready i session held held.request held.progress is

waits : (i : InstanceEntry) (session : ℕ) → Waits session (instance_answer i session).answer (instance_answer i session).left
waits i session = waits_held i session (held_of i session) refl

-- ---- what the events make of it
-- a stop by this cause: it is told only where its flag was not set, and sets it
record Tells (can : Type 0) (why : Cause) (was : Bool) (flag : InstanceEntry → Bool) (e : Effect (Option InstanceEntry × Client)) : Type 0 where
  pub once : was ≡ true → e.stop ≡ Some (Refuses why) → e.items ≡ []
  pub kept : can → (left : InstanceEntry) → e.stop ≡ Some (Refuses why) → e.parts.0 ≡ Some left → flag left ≡ true

silent : (was : Bool) (items : List Item) → was ≡ true → (if was then [] else items) ≡ []
silent true items told = refl
silent false items told = absurd (cc)

decide_tells_by : (node session last : ℕ) (held : Held) (made : InstanceEntry) (c : Client) (answer : Result Decided Cause) (can : Type 0) → (can → Flags session answer made) → Tells can (cause.NoStamp last) held.told_no_stamp (λ i. was_told_no_stamp i session) (decide_by node session held made c answer)
decide_tells_by node session last held made c (Ok drawn) can flagged = record { once = λ told stop. absurd (cc); kept = λ can left stop is. absurd (cc) }
decide_tells_by node session last held made c (Err (cause.NoRequest s)) can flagged = record { once = λ told stop. absurd (cc); kept = λ can left stop is. absurd (cc) }
decide_tells_by node session last held made c (Err (cause.NoStamp n)) can flagged = record {
  once = λ told stop. silent held.told_no_stamp (Refused (Session session) (cause.NoStamp n) ∷ []) told;
  kept = λ can left stop is. subst (λ (i : InstanceEntry). was_told_no_stamp i session ≡ true) (same_Some made left is) (flagged can n refl);
}
decide_tells_by node session last held made c (Err _) can flagged = record { once = λ told stop. absurd (cc); kept = λ can left stop is. absurd (cc) }

decide_tells_held : (node session last : ℕ) (i : InstanceEntry) (c : Client) (held : Option Held) → Tells (KeepsStop i) (cause.NoStamp last) (no_stamp_of_held held) (λ i. was_told_no_stamp i session) (decide_request node session i c held)
decide_tells_held node session last i c None = record { once = λ told stop. absurd (cc); kept = λ can left stop is. absurd (cc) }
decide_tells_held node session last i c (Some held) =
    decide_tells_by node session last held (decide_both i session c.reads).left c (decide_both i session c.reads).answer (KeepsStop i) (flags i session c.reads)

answer_tells_by : (node session start commit : ℕ) (c : Client) (i made : InstanceEntry) (answer : Result Reply Cause) → Waits session answer made → Tells (Unit {0}) (cause.NotYet commit) (was_told_not_yet i session) (λ j. was_told_not_yet j session) (answer_by node session start c i made answer)
answer_tells_by node session start commit c i made (Ok (reply.Begun begun epoch)) waited = record { once = λ told stop. absurd (cc); kept = λ can left stop is. absurd (cc) }
answer_tells_by node session start commit c i made (Ok (reply.Committed n)) waited = record { once = λ told stop. absurd (cc); kept = λ can left stop is. absurd (cc) }
answer_tells_by node session start commit c i made (Ok (reply.Handed n)) waited = record { once = λ told stop. absurd (cc); kept = λ can left stop is. absurd (cc) }
answer_tells_by node session start commit c i made (Ok reply.Invalid) waited = record { once = λ told stop. absurd (cc); kept = λ can left stop is. absurd (cc) }
answer_tells_by node session start commit c i made (Ok reply.Open) waited = record { once = λ told stop. absurd (cc); kept = λ can left stop is. absurd (cc) }
answer_tells_by node session start commit c i made (Err (cause.NotYet n)) waited = record {
  once = λ told stop. silent (was_told_not_yet i session) (Refused (Session session) (cause.NotYet n) ∷ []) told;
  kept = λ can left stop is. subst (λ (j : InstanceEntry). was_told_not_yet j session ≡ true) (same_Some made left is) (waited n refl);
}
answer_tells_by node session start commit c i made (Err _) waited = record { once = λ told stop. absurd (cc); kept = λ can left stop is. absurd (cc) }

answer_tells_at : (node session commit : ℕ) (i : InstanceEntry) (c : Client) (stamps : Option (ℕ × Option ℕ)) → Tells (Unit {0}) (cause.NotYet commit) (was_told_not_yet i session) (λ j. was_told_not_yet j session) (answer_request node session i c stamps)
answer_tells_at node session commit i c None = record { once = λ told stop. absurd (cc); kept = λ can left stop is. absurd (cc) }
answer_tells_at node session commit i c (Some stamps) =
    answer_tells_by node session stamps.0 commit c i (instance_answer i session).left (instance_answer i session).answer (waits i session)

-- ---- the parts put back
-- the same of a step of the whole
record TellsAt (can : Type 0) (why : Cause) (was : Bool) (flag : InstanceEntry → Bool) (node : ℕ) (s : Step) : Type 0 where
  pub once : was ≡ true → s.stop ≡ Some (Refuses why) → s.items ≡ []
  pub kept : can → (left : InstanceEntry) → s.stop ≡ Some (Refuses why) → InstanceAt s.state node left → flag left ≡ true

put_back : (w : State) (node session : ℕ) (can : Type 0) (why : Cause) (was : Bool) (flag : InstanceEntry → Bool) (f : Option InstanceEntry → Client → Effect (Option InstanceEntry × Client)) (i : InstanceEntry) (c : Option Client) → InstanceAt w node i → ((d : Client) → Tells can why was flag (f (Some i) d)) → TellsAt can why was flag node (at_both w (Some (Some i)) c (λ post c. step_by (f post c) (λ p. with_client (with_post w node p.0) session p.1)))
put_back w node session can why was flag f i None is tells = record { once = λ told stop. absurd (cc); kept = λ can left stop is. absurd (cc) }
put_back w node session can why was flag f i (Some c) is tells = record {
  once = (tells c).once;
  kept = λ can left stop found. (tells c).kept can left stop (same_Some (f (Some i) c).parts.0 (Some left) (sym (post_here w.nodes node (Some i) (f (Some i) c).parts.0 is) ∙ found));
}

looked_up : (w : State) (node session : ℕ) (can : Type 0) (why : Cause) (was : Bool) (flag : InstanceEntry → Bool) (f : Option InstanceEntry → Client → Effect (Option InstanceEntry × Client)) (i : InstanceEntry) → InstanceAt w node i → ((d : Client) → Tells can why was flag (f (Some i) d)) → TellsAt can why was flag node (at_both w (slice_get w.nodes node) (slice_get w.clients session) (λ post c. step_by (f post c) (λ p. with_client (with_post w node p.0) session p.1)))
looked_up w node session can why was flag f i is tells =
    subst (λ (post : Option (Option InstanceEntry)). TellsAt can why was flag node (at_both w post (slice_get w.clients session) (λ post c. step_by (f post c) (λ p. with_client (with_post w node p.0) session p.1)))) (sym is) (put_back w node session can why was flag f i (slice_get w.clients session) is tells)

-- ---- the law
no_stamp_told_at : (w : State) (node session last : ℕ) (i : InstanceEntry) → InstanceAt w node i → TellsAt (KeepsStop i) (cause.NoStamp last) (was_told_no_stamp i session) (λ j. was_told_no_stamp j session) node (on_request w node session (decide_on node session))
no_stamp_told_at w node session last i is =
    looked_up w node session (KeepsStop i) (cause.NoStamp last) (was_told_no_stamp i session) (λ j. was_told_no_stamp j session) (decide_on node session) i is (λ c. decide_tells_held node session last i c (held_of i session))

not_yet_told_at : (w : State) (node session commit : ℕ) (i : InstanceEntry) → InstanceAt w node i → TellsAt (Unit {0}) (cause.NotYet commit) (was_told_not_yet i session) (λ j. was_told_not_yet j session) node (on_request w node session (answer_on node session))
not_yet_told_at w node session commit i is =
    looked_up w node session (Unit {0}) (cause.NotYet commit) (was_told_not_yet i session) (λ j. was_told_not_yet j session) (answer_on node session) i is (λ c. answer_tells_at node session commit i c (stamps_at i session))

pub told_once : RequestsAreToldOnce
told_once w node session i is = (
  record {
    once = λ fate last. (no_stamp_told_at w node session last i is).once;
    kept = λ keeps fate last left. (no_stamp_told_at w node session last i is).kept keeps left;
  },
  record {
    once = λ fate commit. (not_yet_told_at w node session commit i is).once;
    kept = λ fate commit left. (not_yet_told_at w node session commit i is).kept tt left;
  },
)
