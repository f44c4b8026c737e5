-- An event that serves no request leaves a session no more turns that serve it.
use Rattle.std.proofs.Common.{◌≡◌, ℕ, ◌+◌, ◌≤◌, ◌==◌, Bool, true, false, List, [], ◌∷◌, Option, Some, None, Result, Ok, Err, refl, ap, arith}
use Rattle.std.specs.Prelude.{slice_get, slice_set, if◌then◌else◌}
use Rattle.port_io.specs.declared.weather.Fate.{Fate}
use Rattle.history_book.specs.declared.cause.Cause.{Cause}
use Rattle.history_book.specs.declared.cause.Cause.TheVariants as cause
use Rattle.history_book.specs.declared.item.Item.{Item}
use Rattle.system_parts.specs.declared.record.Grant.{Grant}
use Rattle.system_parts.specs.declared.record.TakeRefused.{TakeRefused}
use Rattle.system_parts.specs.declared.record.TakeRefused.TheVariants as not_taken
use Rattle.system_parts.specs.declared.record.RenewRefused.{RenewRefused}
use Rattle.system_parts.specs.declared.record.RenewRefused.TheVariants as not_renewed
use Rattle.system_parts.specs.declared.record.ExtendRefused.{ExtendRefused}
use Rattle.system_parts.specs.declared.record.ExtendRefused.TheVariants as not_extended
use Rattle.system_parts.specs.Record.{MasterRecord}
use Rattle.system_parts.specs.SessionSteps.{begin_refusal, work_refusal}
use Rattle.system_parts.specs.declared.instance.Request.{Request}
use Rattle.system_parts.specs.declared.instance.Request.TheVariants.{Begin, Commit}
use Rattle.system_parts.specs.Instance.{InstanceEntry, in_flight, session_of}
use Rattle.system_parts.specs.InstanceSteps.{stays, just_asked, instance_ask}
use Rattle.system_parts.specs.Instance.{held_of, with_request}
use Rattle.system_parts.proofs.InstanceRequests.{held_of-instance_new}
use Rattle.stamp_base.specs.SetupNumbers.{SetupNumbers}
use Rattle.machine.specs.State.{Client, State}
use Rattle.machine.specs.Clients.{is_reading}
use Rattle.machine.specs.declared.event.Event.{Event}
use Rattle.machine.specs.declared.event.Event.TheVariants as event
use Rattle.machine.specs.Machine.{Step, with_reading, stepped}
use Rattle.machine.specs.Events.Take.{take_by, take_on}
use Rattle.machine.specs.Events.Renew.{renew_by, renew_on}
use Rattle.machine.specs.Events.Extend.{extend_by, extend_on}
use Rattle.machine.specs.Events.Crash.{crash_on}
use Rattle.machine.specs.Events.AskBegin.{asked_by, ask_begin_by}
use Rattle.machine.specs.Events.AskCommit.{commit_of, ask_commit_by}
use Rattle.machine.proofs.LookedUp.{of_post, of_both}
use Rattle.machine.proofs.PartsKept.{leaves_parts}
use Rattle.request_latency.proofs.Measure.{held_left, post_left, nodes_left, for_own, request_set, nodes_set}

-- no request is served
abbrev pub ServesNone : Event → Type 0
ServesNone (event.Accept node session reading) = ⊥
ServesNone (event.Decide node session) = ⊥
ServesNone (event.Put node session) = ⊥
ServesNone (event.Answer node session) = ⊥
ServesNone _ = Unit {0}

-- ---- the node's own events
-- a new instance holds no request
take_left : (s : ℕ) (setup : SetupNumbers) (node reading : ℕ) (r : MasterRecord) (kept : List Item) (answer : Result Grant TakeRefused) → post_left s (take_by setup node reading r kept answer).parts.0 ≡ 0
take_left s setup node reading r kept (Ok grant) = ap (λ found. held_left found) (held_of-instance_new grant node setup.buckets setup.width setup.slots s setup.direct)
take_left s setup node reading r kept (Err not_taken.StoreFault) = refl
take_left s setup node reading r kept (Err (not_taken.Early at until)) = refl
take_left s setup node reading r kept (Err (not_taken.Spent ceiling)) = refl

taken_left : (s : ℕ) (setup : SetupNumbers) (node reading : ℕ) (fate : Fate) (post : Option InstanceEntry) (r : MasterRecord) → post_left s (take_on setup node reading fate post r).parts.0 ≡ post_left s post
taken_left s setup node reading fate None r = take_left s setup node reading _ _ _
taken_left s setup node reading fate (Some i) r = refl

renew_left : (s node reading : ℕ) (i : InstanceEntry) (r : MasterRecord) (kept : List Item) (answer : Result ℕ RenewRefused) → post_left s (renew_by node reading i r kept answer).parts.0 ≡ post_left s (Some i)
renew_left s node reading i r kept (Ok until) = refl
renew_left s node reading i r kept (Err not_renewed.StoreFault) = refl
renew_left s node reading i r kept (Err (not_renewed.Replaced found)) = refl

renewed_left : (s : ℕ) (setup : SetupNumbers) (node reading : ℕ) (fate : Fate) (post : Option InstanceEntry) (r : MasterRecord) → post_left s (renew_on setup node reading fate post r).parts.0 ≡ post_left s post
renewed_left s setup node reading fate None r = refl
renewed_left s setup node reading fate (Some i) r = renew_left s node reading i _ _ _

extend_left : (s node : ℕ) (i : InstanceEntry) (r : MasterRecord) (kept : List Item) (answer : Result ℕ ExtendRefused) → post_left s (extend_by node i r kept answer).parts.0 ≡ post_left s (Some i)
extend_left s node i r kept (Ok ceiling) = refl
extend_left s node i r kept (Err not_extended.StoreFault) = refl
extend_left s node i r kept (Err (not_extended.Replaced found)) = refl
extend_left s node i r kept (Err (not_extended.Spent ceiling)) = refl

extended_left : (s : ℕ) (setup : SetupNumbers) (node : ℕ) (fate : Fate) (post : Option InstanceEntry) (r : MasterRecord) → post_left s (extend_on setup node fate post r).parts.0 ≡ post_left s post
extended_left s setup node fate None r = refl
extended_left s setup node fate (Some i) r = extend_left s node i _ _ _

crashed_left : (s node : ℕ) (post : Option InstanceEntry) (clients : List Client) → post_left s (crash_on node post clients).parts.0 ≤ post_left s post
crashed_left s node None clients = omega arith
crashed_left s node (Some i) clients = omega arith

-- ---- asks: nothing is left to serve of a request before it is accepted
new_left : (s : ℕ) (i : InstanceEntry) (request : Request) (full : Bool) → post_left s (Some (if full then stays {A = Unit {0}} i (cause.Full (in_flight i)) else record { left = with_request i (session_of request) (Some (just_asked request)); answer = Ok tt }).left) ≤ post_left s (Some i)
new_left s i request true = omega arith
new_left s i request false =
    let set : held_left (held_of (with_request i (session_of request) (Some (just_asked request))) s) + for_own s (session_of request) 0 ≤ held_left (held_of i s) + for_own s (session_of request) 0 = request_set i (session_of request) s 0 0 (Some (just_asked request)) (omega arith) in
    omega (arith, set)

asked_left : (s r : ℕ) (c : Client) (x : Item) (i : InstanceEntry) (request : Request) (answer : Result (Unit {0}) Cause) → post_left s (asked_by r c x (instance_ask i request) answer).parts.1 ≤ post_left s (Some i)
asked_left s r c x i request (Ok tt) = new_left s i request (in_flight i == i.slots)
asked_left s r c x i request (Err why) = new_left s i request (in_flight i == i.slots)

begins_left : (s r n : ℕ) (c : Client) (post : Option InstanceEntry) (why : Option Cause) → post_left s (ask_begin_by r n c post why).parts.1 ≤ post_left s post
begins_left s r n c post (Some why) = omega arith
begins_left s r n c None None = omega arith
begins_left s r n c (Some i) None = asked_left s r c _ i (Begin r) (instance_ask i (Begin r)).answer

commit_left : (s r n : ℕ) (c : Client) (start : ℕ) (keys : List ℕ) (post : Option InstanceEntry) → post_left s (commit_of r n c start keys post).parts.1 ≤ post_left s post
commit_left s r n c start [] post = omega arith
commit_left s r n c start (key ∷ keys) None = omega arith
commit_left s r n c start (key ∷ keys) (Some i) = asked_left s r c _ i (Commit r start c.entry.keys) (instance_ask i (Commit r start c.entry.keys)).answer

commits_left : (s r n : ℕ) (c : Client) (post : Option InstanceEntry) (why : Option Cause) (start : Option ℕ) → post_left s (ask_commit_by r n c post why start).parts.1 ≤ post_left s post
commits_left s r n c post (Some why) start = omega arith
commits_left s r n c post None None = omega arith
commits_left s r n c post None (Some start) = commit_left s r n c start c.entry.keys post

-- ---- each event
abbrev LeavesNoMore : ℕ → State → Step → Type 0
LeavesNoMore s w step = nodes_left s step.state.nodes ≤ nodes_left s w.nodes

-- one node is set
no_more : (s : ℕ) (nodes : List (Option InstanceEntry)) (n : ℕ) (post now : Option InstanceEntry) → slice_get nodes n ≡ Some post → post_left s now ≤ post_left s post → nodes_left s (slice_set nodes n now) ≤ nodes_left s nodes
no_more s nodes n post now at less =
    let set : nodes_left s (slice_set nodes n now) + 0 ≤ nodes_left s nodes + 0 = nodes_set s nodes n 0 0 post now at (omega (arith, less)) in
    omega (arith, set)

same_less : (a b : ℕ) → a ≡ b → a ≤ b
same_less a b same = omega (arith, same)

pub leaves_no_more : (s : ℕ) (w : State) (e : Event) (fate : Fate) → ServesNone e → LeavesNoMore s w (stepped w e fate)
leaves_no_more s w (event.Take n reading) fate none = of_post (LeavesNoMore s w) (with_reading w reading) _ (slice_get w.nodes n) (omega arith) (λ post at. no_more s w.nodes n post _ at (same_less _ _ (taken_left s w.setup n reading fate post w.master)))
leaves_no_more s w (event.Renew n reading) fate none = of_post (LeavesNoMore s w) (with_reading w reading) _ (slice_get w.nodes n) (omega arith) (λ post at. no_more s w.nodes n post _ at (same_less _ _ (renewed_left s w.setup n reading fate post w.master)))
leaves_no_more s w (event.Extend n) fate none = of_post (LeavesNoMore s w) w _ (slice_get w.nodes n) (omega arith) (λ post at. no_more s w.nodes n post _ at (same_less _ _ (extended_left s w.setup n fate post w.master)))
leaves_no_more s w (event.Crash n) fate none = of_post (LeavesNoMore s w) w _ (slice_get w.nodes n) (omega arith) (λ post at. no_more s w.nodes n post _ at (crashed_left s n post w.clients))
leaves_no_more s w (event.AskBegin r n) fate none = of_both (LeavesNoMore s w) w _ (slice_get w.nodes n) (slice_get w.clients r) (omega arith) (λ post c at there. no_more s w.nodes n post _ at (begins_left s r n c post (begin_refusal c.entry.state)))
leaves_no_more s w (event.AskCommit r n) fate none = of_both (LeavesNoMore s w) w _ (slice_get w.nodes n) (slice_get w.clients r) (omega arith) (λ post c at there. no_more s w.nodes n post _ at (commits_left s r n c post (work_refusal c.entry.state (is_reading c)) c.entry.start))
leaves_no_more s w (event.Accept n r reading) fate none = absurd none
leaves_no_more s w (event.Decide n r) fate none = absurd none
leaves_no_more s w (event.Put n r) fate none = absurd none
leaves_no_more s w (event.Answer n r) fate none = absurd none
leaves_no_more s w e fate none = same_less _ _ (ap (nodes_left s) ((leaves_parts w e fate).nodes refl))
