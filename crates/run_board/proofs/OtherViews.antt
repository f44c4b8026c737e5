-- For this crate's own proofs.
-- An event of a session leaves what the lines of other actors look at.
use Rattle.run_board.proofs.Names.{◌≡◌, ◌≢◌, ℕ, zero, suc, ◌+◌, ◌==◌, Bool, true, false, cond, List, [], ◌∷◌, Option}
use Rattle.run_board.proofs.Names.{Some, None, Result, Ok, Err, refl, sym, ◌∙◌, ap, subst, slice_get, slice_set}
use Rattle.run_board.proofs.Names.{same_Some, Fate, Cause, Actor, Clock, Node, Session, Janitor, Item, Verdict, Free}
use Rattle.run_board.proofs.Names.{Conflict, Hidden, Decided, Held, Progress, InstanceEntry, held_of, with_request}
use Rattle.run_board.proofs.Names.{stamps_at, InstanceStep, instance_ask, instance_accept, instance_settle}
use Rattle.run_board.proofs.Names.{instance_answer, out_of_stamps, decide_drawn, decided, Event, Client, State}
use Rattle.run_board.proofs.Names.{both_verdict, both_if_accepted, both_held, decide_both, decide_by, decide_request}
use Rattle.run_board.proofs.Names.{decide_on, to_place, put_by, put_commit, put_on, Step, with_reading, stepped}
use Rattle.run_board.proofs.Names.{held_at, first_holder, holder_from, holder_of, doing_at, place_held, commit_held}
use Rattle.run_board.proofs.Names.{set_other, view_of}
use Rattle.std.proofs.Common.{is_some}
use Rattle.stamp_base.specs.declared.stores.Mark.{Mark}
use Rattle.port_io.specs.declared.weather.Fate.TheVariants.{Works, FailsUnchanged, FailsApplied}
use Rattle.history_book.specs.declared.cause.Cause.TheVariants as cause
use Rattle.system_parts.specs.Pairs.{Pairs}
use Rattle.system_parts.specs.declared.instance.Progress.TheVariants as progress
use Rattle.system_parts.specs.declared.instance.Reply.{Reply}
use Rattle.system_parts.specs.declared.instance.Reply.TheVariants as reply
use Rattle.system_parts.specs.declared.instance.Request.{Request}
use Rattle.system_parts.specs.declared.instance.Request.TheVariants as request
use Rattle.system_parts.specs.declared.instance.Settled.{Settled as How}
use Rattle.system_parts.specs.InstanceLaws.{InstanceCall, Asks, Accepts, Settles, Answers, after_call, call_session}
use Rattle.system_parts.proofs.InstanceRequests.{held_of-with_request_other, held_of-after_call_other}
use Rattle.machine.specs.declared.event.Event.TheVariants as event
use Rattle.machine.specs.Events.AskBegin.{asked_by, begin_asked, ask_begin_by}
use Rattle.machine.specs.Events.AskCommit.{commit_asked, commit_of, ask_commit_by}
use Rattle.machine.specs.Events.Accept.{accept_by, accept_request, accept_on}
use Rattle.machine.specs.Events.Answer.{answer_by, answer_request, answer_on}
use Rattle.system_parts.specs.SessionSteps.{begin_refusal, work_refusal}
use Rattle.machine.specs.Clients.{is_reading}
use Rattle.machine.proofs.LookedUp.{of_post, of_client, of_both}
use Rattle.machine.proofs.PartsKept.{leaves_parts}
use Rattle.run_board.proofs.SessionEvents.{IsEventOf}

-- what a session's lines look at
pub record Unseen (t : ℕ) (w left : State) : Type 0 where
  pub client : slice_get left.clients t ≡ slice_get w.clients t
  pub holder : holder_of left t ≡ holder_of w t

-- ---- the node that holds a request
same_holder : (k : ℕ) (posts : List (Option InstanceEntry)) (n t : ℕ) (post now : Option InstanceEntry) → slice_get posts n ≡ Some post → held_at now t ≡ held_at post t → holder_from k (slice_set posts n now) t ≡ holder_from k posts t
unfolding holder_from
same_holder k [] n t post now there same = refl
same_holder k (x ∷ posts) zero t post now there same =
    ap (λ (found : Option Held). first_holder k found (holder_from (k + 1) posts t)) (same ∙ ap (λ (p : Option InstanceEntry). held_at p t) (sym (same_Some x post there)))
same_holder k (x ∷ posts) (suc n) t post now there same =
    ap (λ (found : Option (ℕ × Held)). first_holder k (held_at x t) found) (same_holder (k + 1) posts n t post now there same)

-- ---- what an event of the session s leaves of a node holds for t what it held
module _ (s t : ℕ) (other : t ≢ s) where
  abbrev Holds : Option InstanceEntry → Option InstanceEntry → Type 0
  Holds post now = held_at now t ≡ held_at post t

  called : (i : InstanceEntry) (call : InstanceCall) → call_session call ≡ Some s → held_of (after_call i call) t ≡ held_of i t
  called i call of = held_of-after_call_other i call t (λ same. other (sym (same_Some s t (sym of ∙ same))))

  -- asks
  asked_post : (c : Client) (item : Item) (i : InstanceEntry) (step : InstanceStep (Unit {0})) (answer : Result (Unit {0}) Cause) → held_of step.left t ≡ held_of i t → Holds (Some i) (asked_by s c item step answer).parts.1
  asked_post c item i step (Ok _) is = is
  asked_post c item i step (Err why) is = is

  begin_post : (node : ℕ) (c : Client) (post : Option InstanceEntry) → Holds post (begin_asked s node c post).parts.1
  begin_post node c None = refl
  begin_post node c (Some i) = asked_post c _ i (instance_ask i (request.Begin s)) (instance_ask i (request.Begin s)).answer (called i (Asks (request.Begin s)) refl)

  ask_begin_post_by : (node : ℕ) (c : Client) (post : Option InstanceEntry) (why : Option Cause) → Holds post (ask_begin_by s node c post why).parts.1
  ask_begin_post_by node c post None = begin_post node c post
  ask_begin_post_by node c post (Some why) = refl

  commit_post : (node : ℕ) (c : Client) (start : ℕ) (post : Option InstanceEntry) → Holds post (commit_asked s node c start post).parts.1
  commit_post node c start None = refl
  commit_post node c start (Some i) = asked_post c _ i (instance_ask i (request.Commit s start c.entry.keys)) (instance_ask i (request.Commit s start c.entry.keys)).answer (called i (Asks (request.Commit s start c.entry.keys)) refl)

  commit_of_post : (node : ℕ) (c : Client) (start : ℕ) (keys : List ℕ) (post : Option InstanceEntry) → Holds post (commit_of s node c start keys post).parts.1
  commit_of_post node c start [] post = refl
  commit_of_post node c start (key ∷ keys) post = commit_post node c start post

  ask_commit_post_by : (node : ℕ) (c : Client) (post : Option InstanceEntry) (why : Option Cause) (start : Option ℕ) → Holds post (ask_commit_by s node c post why start).parts.1
  ask_commit_post_by node c post (Some why) start = refl
  ask_commit_post_by node c post None None = refl
  ask_commit_post_by node c post None (Some start) = commit_of_post node c start c.entry.keys post

  -- accept
  accept_post_by : (node reading : ℕ) (request : Request) (left i : InstanceEntry) (c : Client) (answer : Result (Unit {0}) Cause) → held_of left t ≡ held_of i t → Holds (Some i) (accept_by node s reading request left c answer).parts.0
  accept_post_by node reading request left i c (Ok _) is = is
  accept_post_by node reading request left i c (Err (cause.NoRequest r)) is = is
  accept_post_by node reading request left i c (Err _) is = is

  accept_request_post : (node reading : ℕ) (i : InstanceEntry) (c : Client) (held : Option Held) → Holds (Some i) (accept_request node s reading i c held).parts.0
  accept_request_post node reading i c None = refl
  accept_request_post node reading i c (Some held) = accept_post_by node reading held.request (instance_accept i s reading).left i c (instance_accept i s reading).answer (called i (Accepts s reading) refl)

  accept_post : (node reading : ℕ) (post : Option InstanceEntry) (c : Client) → Holds post (accept_on node s reading post c).parts.0
  accept_post node reading None c = refl
  accept_post node reading (Some i) c = accept_request_post node reading i c (held_of i s)

  -- decide
  with_post : (i : InstanceEntry) (now : Option Held) → held_of (with_request i s now) t ≡ held_of i t
  with_post i now = held_of-with_request_other i s t now other

  out_post : (i : InstanceEntry) (held : Held) (stop : Option Cause) → held_of (out_of_stamps i s held stop).left t ≡ held_of i t
  out_post i held None = with_post i _
  out_post i held (Some why) = with_post i _

  free_post : (i : InstanceEntry) (held : Held) (out : Bool) → held_of (cond out (out_of_stamps i s held i.stop) (decide_drawn i s held (i.last + 1))).left t ≡ held_of i t
  free_post i held true = out_post i held i.stop
  free_post i held false = with_post i _

  verdict_post : (i : InstanceEntry) (held : Held) (verdict : Verdict) → held_of (decided i s held verdict).left t ≡ held_of i t
  verdict_post i held Free = free_post i held (i.last == i.ceiling)
  verdict_post i held (Conflict key by) = with_post i _
  verdict_post i held (Hidden key water) = with_post i _

  accepted_post : (i : InstanceEntry) (reads : List ℕ) (held : Held) (p : Progress) → held_of (both_if_accepted i s reads held p).left t ≡ held_of i t
  accepted_post i reads held progress.Accepted = verdict_post i held (both_verdict i.buckets reads held.request)
  accepted_post i reads held _ = refl

  both_post : (i : InstanceEntry) (reads : List ℕ) (held : Option Held) → held_of (both_held i s reads held).left t ≡ held_of i t
  both_post i reads None = refl
  both_post i reads (Some held) = accepted_post i reads held held.progress

  decide_post_by : (node : ℕ) (held : Held) (left i : InstanceEntry) (c : Client) (answer : Result Decided Cause) → held_of left t ≡ held_of i t → Holds (Some i) (decide_by node s held left c answer).parts.0
  decide_post_by node held left i c (Ok drawn) is = is
  decide_post_by node held left i c (Err (cause.NoRequest r)) is = is
  decide_post_by node held left i c (Err (cause.NoStamp last)) is = is
  decide_post_by node held left i c (Err _) is = is

  decide_request_post : (node : ℕ) (i : InstanceEntry) (c : Client) (held : Option Held) → Holds (Some i) (decide_request node s i c held).parts.0
  decide_request_post node i c None = refl
  decide_request_post node i c (Some held) = decide_post_by node held (decide_both i s c.reads).left i c (decide_both i s c.reads).answer (both_post i c.reads (held_of i s))

  decide_post : (node : ℕ) (post : Option InstanceEntry) (c : Client) → Holds post (decide_on node s post c).parts.0
  decide_post node None c = refl
  decide_post node (Some i) c = decide_request_post node i c (held_of i s)

  -- put
  settled : (i : InstanceEntry) (how : How) → held_of (instance_settle i s how).left t ≡ held_of i t
  settled i how = called i (Settles s how) refl

  put_post_by : (node start commit : ℕ) (fate : Fate) (found : Option Mark) (i : InstanceEntry) (pairs : Pairs) → Holds (Some i) (put_by node s start commit fate found i pairs).parts.0
  put_post_by node start commit Works None i pairs = settled i _
  put_post_by node start commit Works (Some mark) i pairs = settled i _
  put_post_by node start commit FailsUnchanged found i pairs = settled i _
  put_post_by node start commit FailsApplied found i pairs = settled i _

  put_commit_post : (node : ℕ) (fate : Fate) (i : InstanceEntry) (pairs : Pairs) (stamps : Option (ℕ × ℕ)) → Holds (Some i) (put_commit node s fate i pairs stamps).parts.0
  put_commit_post node fate i pairs None = refl
  put_commit_post node fate i pairs (Some stamps) = put_post_by node stamps.0 stamps.1 fate _ i _

  put_post : (node : ℕ) (fate : Fate) (post : Option InstanceEntry) (pairs : Pairs) → Holds post (put_on node s fate post pairs).parts.0
  put_post node fate None pairs = refl
  put_post node fate (Some i) pairs = put_commit_post node fate i pairs (to_place (held_of i s))

  -- answer
  answer_post_by : (node start : ℕ) (c : Client) (i left : InstanceEntry) (answer : Result Reply Cause) → held_of left t ≡ held_of i t → Holds (Some i) (answer_by node s start c i left answer).parts.0
  answer_post_by node start c i left (Ok (reply.Begun begun epoch)) is = is
  answer_post_by node start c i left (Ok (reply.Committed commit)) is = is
  answer_post_by node start c i left (Ok (reply.Handed commit)) is = is
  answer_post_by node start c i left (Ok reply.Invalid) is = is
  answer_post_by node start c i left (Ok reply.Open) is = is
  answer_post_by node start c i left (Err (cause.NotYet commit)) is = is
  answer_post_by node start c i left (Err _) is = is

  answer_request_post : (node : ℕ) (i : InstanceEntry) (c : Client) (stamps : Option (ℕ × Option ℕ)) → Holds (Some i) (answer_request node s i c stamps).parts.0
  answer_request_post node i c None = refl
  answer_request_post node i c (Some stamps) = answer_post_by node stamps.0 c i (instance_answer i s).left (instance_answer i s).answer (called i (Answers s) refl)

  answer_post : (node : ℕ) (post : Option InstanceEntry) (c : Client) → Holds post (answer_on node s post c).parts.0
  answer_post node None c = refl
  answer_post node (Some i) c = answer_request_post node i c (stamps_at i s)

  -- ---- the state after it
  -- a step that sets a client of the session
  sets_client : (w left : State) (c : Client) → left.clients ≡ slice_set w.clients s c → left.nodes ≡ w.nodes → Unseen t w left
  sets_client w left c clients nodes = record {
    client = ap (λ (cs : List Client). slice_get cs t) clients ∙ set_other w.clients s t c other;
    holder = ap (λ (posts : List (Option InstanceEntry)). holder_from 0 posts t) nodes;
  }

  sets_both : (w left : State) (node : ℕ) (post now : Option InstanceEntry) (c : Client) → slice_get w.nodes node ≡ Some post → Holds post now → left.clients ≡ slice_set w.clients s c → left.nodes ≡ slice_set w.nodes node now → Unseen t w left
  sets_both w left node post now c there same clients nodes = record {
    client = ap (λ (cs : List Client). slice_get cs t) clients ∙ set_other w.clients s t c other;
    holder = ap (λ (posts : List (Option InstanceEntry)). holder_from 0 posts t) nodes ∙ same_holder 0 w.nodes node t post now there same;
  }

  sets_post : (w left : State) (node : ℕ) (post now : Option InstanceEntry) → slice_get w.nodes node ≡ Some post → Holds post now → left.clients ≡ w.clients → left.nodes ≡ slice_set w.nodes node now → Unseen t w left
  sets_post w left node post now there same clients nodes = record {
    client = ap (λ (cs : List Client). slice_get cs t) clients;
    holder = ap (λ (posts : List (Option InstanceEntry)). holder_from 0 posts t) nodes ∙ same_holder 0 w.nodes node t post now there same;
  }

  nothing_seen : (w : State) → Unseen t w w
  nothing_seen w = record { client = refl; holder = refl }

  abbrev Leaves : State → Step → Type 0
  Leaves w step = Unseen t w step.state

  unseen_as : (w : State) (e : Event) (fate : Fate) → IsEventOf s e → Leaves w (stepped w e fate)
  unseen_as w (event.Note actor said) fate is = nothing_seen w
  unseen_as w (event.AskBegin r node) fate is = subst (λ (q : ℕ). Leaves w (stepped w (event.AskBegin q node) fate)) (sym is) (of_both (Leaves w) w _ (slice_get w.nodes node) (slice_get w.clients s) (nothing_seen w) (λ post c there at. sets_both w _ node post _ _ there (ask_begin_post_by node c post (begin_refusal c.entry.state)) refl refl))
  unseen_as w (event.AskCommit r node) fate is = subst (λ (q : ℕ). Leaves w (stepped w (event.AskCommit q node) fate)) (sym is) (of_both (Leaves w) w _ (slice_get w.nodes node) (slice_get w.clients s) (nothing_seen w) (λ post c there at. sets_both w _ node post _ _ there (ask_commit_post_by node c post (work_refusal c.entry.state (is_reading c)) c.entry.start) refl refl))
  unseen_as w (event.Accept node r reading) fate is = subst (λ (q : ℕ). Leaves w (stepped w (event.Accept node q reading) fate)) (sym is) (of_both (Leaves w) (with_reading w reading) _ (slice_get w.nodes node) (slice_get w.clients s) (record { client = refl; holder = refl }) (λ post c there at. sets_both w _ node post _ _ there (accept_post node reading post c) refl refl))
  unseen_as w (event.Decide node r) fate is = subst (λ (q : ℕ). Leaves w (stepped w (event.Decide node q) fate)) (sym is) (of_both (Leaves w) w _ (slice_get w.nodes node) (slice_get w.clients s) (nothing_seen w) (λ post c there at. sets_both w _ node post _ _ there (decide_post node post c) refl refl))
  unseen_as w (event.Put node r) fate is = subst (λ (q : ℕ). Leaves w (stepped w (event.Put node q) fate)) (sym is) (of_post (Leaves w) w _ (slice_get w.nodes node) (nothing_seen w) (λ post there. sets_post w _ node post _ there (put_post node fate post w.pairs) refl refl))
  unseen_as w (event.Answer node r) fate is = subst (λ (q : ℕ). Leaves w (stepped w (event.Answer node q) fate)) (sym is) (of_both (Leaves w) w _ (slice_get w.nodes node) (slice_get w.clients s) (nothing_seen w) (λ post c there at. sets_both w _ node post _ _ there (answer_post node post c) refl refl))
  unseen_as w (event.Write r key value) fate is = subst (λ (q : ℕ). Leaves w (stepped w (event.Write q key value) fate)) (sym is) (of_client (Leaves w) w _ (slice_get w.clients s) (nothing_seen w) (λ c at. sets_client w _ _ refl refl))
  unseen_as w (event.Fetch r key) fate is = subst (λ (q : ℕ). Leaves w (stepped w (event.Fetch q key) fate)) (sym is) (of_client (Leaves w) w _ (slice_get w.clients s) (nothing_seen w) (λ c at. sets_client w _ _ refl refl))
  unseen_as w (event.Step r) fate is = subst (λ (q : ℕ). Leaves w (stepped w (event.Step q) fate)) (sym is) (of_client (Leaves w) w _ (slice_get w.clients s) (nothing_seen w) (λ c at. sets_client w _ _ refl refl))
  unseen_as w (event.Heal r) fate is = subst (λ (q : ℕ). Leaves w (stepped w (event.Heal q) fate)) (sym is) (of_client (Leaves w) w _ (slice_get w.clients s) (nothing_seen w) (λ c at. sets_client w _ _ refl refl))
  unseen_as w (event.Abort r) fate is = subst (λ (q : ℕ). Leaves w (stepped w (event.Abort q) fate)) (sym is) (of_client (Leaves w) w _ (slice_get w.clients s) (nothing_seen w) (λ c at. sets_client w _ _ refl refl))
  unseen_as w (event.Vanish r) fate is = subst (λ (q : ℕ). Leaves w (stepped w (event.Vanish q) fate)) (sym is) (of_client (Leaves w) w _ (slice_get w.clients s) (nothing_seen w) (λ c at. sets_client w _ _ refl refl))
  unseen_as w _ fate is = absurd is

-- ---- the views
same_sweep : (w : State) (s : ℕ) (e : Event) (fate : Fate) → IsEventOf s e → (stepped w e fate).state.sweep ≡ w.sweep
same_sweep w s (event.Note actor said) fate is = (leaves_parts w (event.Note actor said) fate).sweep refl
same_sweep w s (event.AskBegin r node) fate is = (leaves_parts w (event.AskBegin r node) fate).sweep refl
same_sweep w s (event.AskCommit r node) fate is = (leaves_parts w (event.AskCommit r node) fate).sweep refl
same_sweep w s (event.Accept node r reading) fate is = (leaves_parts w (event.Accept node r reading) fate).sweep refl
same_sweep w s (event.Decide node r) fate is = (leaves_parts w (event.Decide node r) fate).sweep refl
same_sweep w s (event.Put node r) fate is = (leaves_parts w (event.Put node r) fate).sweep refl
same_sweep w s (event.Answer node r) fate is = (leaves_parts w (event.Answer node r) fate).sweep refl
same_sweep w s (event.Write r key value) fate is = (leaves_parts w (event.Write r key value) fate).sweep refl
same_sweep w s (event.Fetch r key) fate is = (leaves_parts w (event.Fetch r key) fate).sweep refl
same_sweep w s (event.Step r) fate is = (leaves_parts w (event.Step r) fate).sweep refl
same_sweep w s (event.Heal r) fate is = (leaves_parts w (event.Heal r) fate).sweep refl
same_sweep w s (event.Abort r) fate is = (leaves_parts w (event.Abort r) fate).sweep refl
same_sweep w s (event.Vanish r) fate is = (leaves_parts w (event.Vanish r) fate).sweep refl
same_sweep w s _ fate is = absurd is

seen_of : (w left : State) (t : ℕ) → left.sweep ≡ w.sweep → Unseen t w left → view_of left (Session t) ≡ view_of w (Session t)
seen_of w left t sweep u = λ k. record {
  doing = doing_at (u.client k);
  request = place_held (u.holder k);
  commit = commit_held (u.holder k);
  sweeping = is_some (sweep k);
}

pub others_see : (w : State) (s : ℕ) (e : Event) (fate : Fate) (actor : Actor) → IsEventOf s e → (actor ≡ Session s → ⊥) → view_of (stepped w e fate).state actor ≡ view_of w actor
others_see w s e fate (Session t) is not = seen_of w (stepped w e fate).state t (same_sweep w s e fate is) (unseen_as s t (λ same. not (ap (λ (q : ℕ). Session q) same)) w e fate is)
others_see w s e fate Clock is not = λ k. record (view_of w Clock) { sweeping = is_some (same_sweep w s e fate is k) }
others_see w s e fate (Node n) is not = λ k. record (view_of w (Node n)) { sweeping = is_some (same_sweep w s e fate is k) }
others_see w s e fate Janitor is not = λ k. record (view_of w Janitor) { sweeping = is_some (same_sweep w s e fate is k) }
