-- Each event of a node keeps that what its instance has of the master record's refusals is Replaced or Spent.
use Rattle.machine.proofs.Names.{[], ℕ, ◌+◌, List, ◌∷◌, Option, Some, None, Result, Ok, Err, SetupNumbers, Mark, Fate}
use Rattle.machine.proofs.Names.{Works, FailsUnchanged, FailsApplied, Cause, Item, Grant, TakeRefused, RenewRefused}
use Rattle.machine.proofs.Names.{ExtendRefused, MasterRecord, take_refused, renew_refused, renewed_until}
use Rattle.machine.proofs.Names.{extend_refused, granted, answered, Pairs, mark_of, Held, Decided, Reply, Request}
use Rattle.machine.proofs.Names.{Begin, Commit, InstanceEntry, held_of, stamps_at, instance_ask, instance_accept}
use Rattle.machine.proofs.Names.{instance_settle, instance_answer, Client, take_by, rules_of, take_on, renew_by}
use Rattle.machine.proofs.Names.{renew_on, extend_by, extend_on, crash_on, asked_by, begin_asked, ask_begin_by}
use Rattle.machine.proofs.Names.{commit_asked, commit_of, ask_commit_by, accept_by, accept_request, accept_on}
use Rattle.machine.proofs.Names.{decide_both, decide_by, decide_request, decide_on, to_place, put_by, put_commit}
use Rattle.machine.proofs.Names.{put_on, answer_by, answer_request, answer_on, KeepsStop}
use Rattle.history_book.specs.declared.cause.Cause.TheVariants as cause
use Rattle.system_parts.specs.declared.record.TakeRefused.TheVariants as take
use Rattle.system_parts.specs.declared.record.RenewRefused.TheVariants as renew
use Rattle.system_parts.specs.declared.record.ExtendRefused.TheVariants as extend
use Rattle.system_parts.specs.declared.instance.Reply.TheVariants as reply
use Rattle.system_parts.specs.declared.instance.Settled as how
use Rattle.system_parts.proofs.InstanceMoves.{quiet_ask, quiet_accept, quiet_settle, quiet_answer}
use Rattle.machine.proofs.StopsOfPosts.{PostKeeps, Keeps, quiet_keeps, stopped_keeps, decided_keeps}

-- ---- the record's events
take_keeps_by : (setup : SetupNumbers) (node reading : ℕ) (master : MasterRecord) (kept : List Item) (answer : Result Grant TakeRefused) → PostKeeps (take_by setup node reading master kept answer).parts.0
take_keeps_by setup node reading master kept (Ok grant) = tt
take_keeps_by setup node reading master kept (Err take.StoreFault) = tt
take_keeps_by setup node reading master kept (Err (take.Early at until)) = tt
take_keeps_by setup node reading master kept (Err (take.Spent ceiling)) = tt

pub take_keeps : (setup : SetupNumbers) (node reading : ℕ) (fate : Fate) (post : Option InstanceEntry) (master : MasterRecord) → Keeps post (take_on setup node reading fate post master).parts.0
take_keeps setup node reading fate (Some i) master keeps = keeps
take_keeps setup node reading fate None master keeps = take_keeps_by setup node reading _ _ (answered fate take.StoreFault (take_refused (rules_of setup) master reading) (granted (rules_of setup) master reading))

renew_keeps_by : (node reading : ℕ) (i : InstanceEntry) (master : MasterRecord) (kept : List Item) (answer : Result ℕ RenewRefused) → Keeps (Some i) (renew_by node reading i master kept answer).parts.0
renew_keeps_by node reading i master kept (Ok until) keeps = keeps
renew_keeps_by node reading i master kept (Err renew.StoreFault) keeps = keeps
renew_keeps_by node reading i master kept (Err (renew.Replaced found)) keeps = stopped_keeps i.stop (cause.Replaced found) tt keeps

pub renew_keeps : (setup : SetupNumbers) (node reading : ℕ) (fate : Fate) (post : Option InstanceEntry) (master : MasterRecord) → Keeps post (renew_on setup node reading fate post master).parts.0
renew_keeps setup node reading fate None master keeps = tt
renew_keeps setup node reading fate (Some i) master keeps =
    renew_keeps_by node reading i _ _ (answered fate renew.StoreFault (renew_refused master i.term) (renewed_until (rules_of setup) master reading)) keeps

extend_keeps_by : (node : ℕ) (i : InstanceEntry) (master : MasterRecord) (kept : List Item) (answer : Result ℕ ExtendRefused) → Keeps (Some i) (extend_by node i master kept answer).parts.0
extend_keeps_by node i master kept (Ok ceiling) keeps = keeps
extend_keeps_by node i master kept (Err extend.StoreFault) keeps = keeps
extend_keeps_by node i master kept (Err (extend.Replaced found)) keeps = stopped_keeps i.stop (cause.Replaced found) tt keeps
extend_keeps_by node i master kept (Err (extend.Spent ceiling)) keeps = stopped_keeps i.stop (cause.Spent ceiling) tt keeps

pub extend_keeps : (setup : SetupNumbers) (node : ℕ) (fate : Fate) (post : Option InstanceEntry) (master : MasterRecord) → Keeps post (extend_on setup node fate post master).parts.0
extend_keeps setup node fate None master keeps = tt
extend_keeps setup node fate (Some i) master keeps =
    extend_keeps_by node i _ _ (answered fate extend.StoreFault (extend_refused (rules_of setup) master i.term) (master.ceiling + setup.range)) keeps

pub crash_keeps : (node : ℕ) (post : Option InstanceEntry) (clients : List Client) → Keeps post (crash_on node post clients).parts.0
crash_keeps node None clients keeps = tt
crash_keeps node (Some i) clients keeps = tt

-- ---- asks
asked_keeps : (session : ℕ) (c : Client) (asks : Item) (i : InstanceEntry) (request : Request) (answer : Result (Unit {0}) Cause) → Keeps (Some i) (asked_by session c asks (instance_ask i request) answer).parts.1
asked_keeps session c asks i request (Ok u) keeps = quiet_keeps i (instance_ask i request).left (quiet_ask i request) keeps
asked_keeps session c asks i request (Err why) keeps = quiet_keeps i (instance_ask i request).left (quiet_ask i request) keeps

begin_asked_keeps : (session node : ℕ) (c : Client) (post : Option InstanceEntry) → Keeps post (begin_asked session node c post).parts.1
begin_asked_keeps session node c None keeps = tt
begin_asked_keeps session node c (Some i) keeps = asked_keeps session c _ i (Begin session) (instance_ask i (Begin session)).answer keeps

pub begin_keeps : (session node : ℕ) (c : Client) (post : Option InstanceEntry) (why : Option Cause) → Keeps post (ask_begin_by session node c post why).parts.1
begin_keeps session node c post (Some why) keeps = keeps
begin_keeps session node c post None keeps = begin_asked_keeps session node c post keeps

commit_asked_keeps : (session node start : ℕ) (c : Client) (post : Option InstanceEntry) → Keeps post (commit_asked session node c start post).parts.1
commit_asked_keeps session node start c None keeps = tt
commit_asked_keeps session node start c (Some i) keeps =
    asked_keeps session c _ i (Commit session start c.entry.keys) (instance_ask i (Commit session start c.entry.keys)).answer keeps

commit_of_keeps : (session node start : ℕ) (c : Client) (keys : List ℕ) (post : Option InstanceEntry) → Keeps post (commit_of session node c start keys post).parts.1
commit_of_keeps session node start c [] post keeps = keeps
commit_of_keeps session node start c (key ∷ keys) post keeps = commit_asked_keeps session node start c post keeps

pub commit_keeps : (session node : ℕ) (c : Client) (post : Option InstanceEntry) (why : Option Cause) (start : Option ℕ) → Keeps post (ask_commit_by session node c post why start).parts.1
commit_keeps session node c post (Some why) start keeps = keeps
commit_keeps session node c post None None keeps = keeps
commit_keeps session node c post None (Some start) keeps = commit_of_keeps session node start c c.entry.keys post keeps

-- ---- what a node does to its requests
accept_keeps_by : (node session reading : ℕ) (request : Request) (left : InstanceEntry) (c : Client) (answer : Result (Unit {0}) Cause) → KeepsStop left → PostKeeps (accept_by node session reading request left c answer).parts.0
accept_keeps_by node session reading request left c (Ok u) keeps = keeps
accept_keeps_by node session reading request left c (Err (cause.NoRequest s)) keeps = keeps
accept_keeps_by node session reading request left c (Err why) keeps = keeps

accept_keeps_at : (node session reading : ℕ) (i : InstanceEntry) (c : Client) (held : Option Held) → Keeps (Some i) (accept_request node session reading i c held).parts.0
accept_keeps_at node session reading i c None keeps = keeps
accept_keeps_at node session reading i c (Some held) keeps =
    accept_keeps_by node session reading held.request (instance_accept i session reading).left c (instance_accept i session reading).answer (quiet_keeps i (instance_accept i session reading).left (quiet_accept i session reading) keeps)

pub accept_keeps : (node session reading : ℕ) (post : Option InstanceEntry) (c : Client) → Keeps post (accept_on node session reading post c).parts.0
accept_keeps node session reading None c keeps = tt
accept_keeps node session reading (Some i) c keeps = accept_keeps_at node session reading i c (held_of i session) keeps

decide_keeps_by : (node session : ℕ) (held : Held) (left : InstanceEntry) (c : Client) (answer : Result Decided Cause) → KeepsStop left → PostKeeps (decide_by node session held left c answer).parts.0
decide_keeps_by node session held left c (Ok drawn) keeps = keeps
decide_keeps_by node session held left c (Err (cause.NoRequest s)) keeps = keeps
decide_keeps_by node session held left c (Err (cause.NoStamp last)) keeps = keeps
decide_keeps_by node session held left c (Err why) keeps = keeps

decide_keeps_at : (node session : ℕ) (i : InstanceEntry) (c : Client) (held : Option Held) → Keeps (Some i) (decide_request node session i c held).parts.0
decide_keeps_at node session i c None keeps = keeps
decide_keeps_at node session i c (Some held) keeps =
    decide_keeps_by node session held (decide_both i session c.reads).left c (decide_both i session c.reads).answer (decided_keeps i session c.reads (held_of i session) keeps)

pub decide_keeps : (node session : ℕ) (post : Option InstanceEntry) (c : Client) → Keeps post (decide_on node session post c).parts.0
decide_keeps node session None c keeps = tt
decide_keeps node session (Some i) c keeps = decide_keeps_at node session i c (held_of i session) keeps

settled_keeps : (i : InstanceEntry) (session : ℕ) (ways : how.Settled) → KeepsStop i → KeepsStop (instance_settle i session ways).left
settled_keeps i session ways keeps = quiet_keeps i (instance_settle i session ways).left (quiet_settle i session ways) keeps

put_keeps_by : (node session start commit : ℕ) (fate : Fate) (found : Option Mark) (i : InstanceEntry) (pairs : Pairs) → Keeps (Some i) (put_by node session start commit fate found i pairs).parts.0
put_keeps_by node session start commit Works None i pairs keeps = settled_keeps i session how.TheVariants.Placed keeps
put_keeps_by node session start commit Works (Some mark) i pairs keeps = settled_keeps i session how.TheVariants.Invalid keeps
put_keeps_by node session start commit FailsUnchanged found i pairs keeps = settled_keeps i session how.TheVariants.Faulted keeps
put_keeps_by node session start commit FailsApplied found i pairs keeps = settled_keeps i session how.TheVariants.Faulted keeps

put_keeps_at : (node session : ℕ) (fate : Fate) (i : InstanceEntry) (pairs : Pairs) (stamps : Option (ℕ × ℕ)) → Keeps (Some i) (put_commit node session fate i pairs stamps).parts.0
put_keeps_at node session fate i pairs None keeps = keeps
put_keeps_at node session fate i pairs (Some stamps) keeps = put_keeps_by node session stamps.0 stamps.1 fate (mark_of pairs stamps.0) i _ keeps

pub put_keeps : (node session : ℕ) (fate : Fate) (post : Option InstanceEntry) (pairs : Pairs) → Keeps post (put_on node session fate post pairs).parts.0
put_keeps node session fate None pairs keeps = tt
put_keeps node session fate (Some i) pairs keeps = put_keeps_at node session fate i pairs (to_place (held_of i session)) keeps

answer_keeps_by : (node session start : ℕ) (c : Client) (i left : InstanceEntry) (answer : Result Reply Cause) → KeepsStop left → PostKeeps (answer_by node session start c i left answer).parts.0
answer_keeps_by node session start c i left (Ok (reply.Begun begun epoch)) keeps = keeps
answer_keeps_by node session start c i left (Ok (reply.Committed commit)) keeps = keeps
answer_keeps_by node session start c i left (Ok (reply.Handed commit)) keeps = keeps
answer_keeps_by node session start c i left (Ok reply.Invalid) keeps = keeps
answer_keeps_by node session start c i left (Ok reply.Open) keeps = keeps
answer_keeps_by node session start c i left (Err (cause.NotYet commit)) keeps = keeps
answer_keeps_by node session start c i left (Err why) keeps = keeps

answer_keeps_at : (node session : ℕ) (i : InstanceEntry) (c : Client) (stamps : Option (ℕ × Option ℕ)) → Keeps (Some i) (answer_request node session i c stamps).parts.0
answer_keeps_at node session i c None keeps = keeps
answer_keeps_at node session i c (Some stamps) keeps =
    answer_keeps_by node session stamps.0 c i (instance_answer i session).left (instance_answer i session).answer (quiet_keeps i (instance_answer i session).left (quiet_answer i session) keeps)

pub answer_keeps : (node session : ℕ) (post : Option InstanceEntry) (c : Client) → Keeps post (answer_on node session post c).parts.0
answer_keeps node session None c keeps = tt
answer_keeps node session (Some i) c keeps = answer_keeps_at node session i c (stamps_at i session) keeps
