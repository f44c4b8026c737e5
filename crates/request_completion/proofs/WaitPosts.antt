-- Every event: whoever is marked as told to wait was so before, or is told now.
use Rattle.std.proofs.Common.{arith}
use Rattle.request_completion.proofs.Names.{◌≡◌, ℕ, true, List, Option, None, Some, Ok, Err}
use Rattle.request_completion.proofs.Names.{Result, SetupNumbers, Fate}
use Rattle.request_completion.proofs.Names.{Cause, Item, MasterRecord}
use Rattle.request_completion.proofs.Names.{Pairs, Request, Begin}
use Rattle.request_completion.proofs.Names.{Commit, InstanceEntry, instance_ask}
use Rattle.request_completion.proofs.Names.{held_of-instance_new, Client, take_on}
use Rattle.request_completion.proofs.Names.{crash_on, asked_by, begin_asked, ask_begin_by, commit_asked}
use Rattle.request_completion.proofs.Names.{ask_commit_by, accept_on}
use Rattle.request_completion.proofs.Names.{decide_on}
use Rattle.machine.specs.Events.Renew.{renew_on}
use Rattle.machine.specs.Events.Extend.{extend_on}
use Rattle.machine.specs.Events.Put.{put_on}
use Rattle.request_completion.proofs.WaitFlags.{ask_none, accept_none, settle_none, decide_none}
use Rattle.request_completion.proofs.WaitAnswers.{told_in}

-- no session is marked that was not marked before
abbrev pub Marked : Option InstanceEntry → Option InstanceEntry → Type 0
Marked old new = (s : ℕ) → told_in new s ≡ true → told_in old s ≡ true

post_same : (post : Option InstanceEntry) → Marked post post
post_same post s told = told

-- ---- the record's events
pub take_marks : (setup : SetupNumbers) (node reading : ℕ) (fate : Fate) (post : Option InstanceEntry) (master : MasterRecord) → Marked post (take_on setup node reading fate post master).parts.0
take_marks setup node reading fate post master = grind (arith, post_same, held_of-instance_new)

pub renew_marks : (setup : SetupNumbers) (node reading : ℕ) (fate : Fate) (post : Option InstanceEntry) (master : MasterRecord) → Marked post (renew_on setup node reading fate post master).parts.0
renew_marks setup node reading fate post master = grind (arith, post_same)

pub extend_marks : (setup : SetupNumbers) (node : ℕ) (fate : Fate) (post : Option InstanceEntry) (master : MasterRecord) → Marked post (extend_on setup node fate post master).parts.0
extend_marks setup node fate post master = grind (arith, post_same)

pub crash_marks : (node : ℕ) (post : Option InstanceEntry) (clients : List Client) → Marked post (crash_on node post clients).parts.0
crash_marks node post clients = grind (arith, post_same)

-- ---- asks
asked_marks : (session : ℕ) (c : Client) (asks : Item) (i : InstanceEntry) (request : Request) (answer : Result (Unit {0}) Cause) → Marked (Some i) (asked_by session c asks (instance_ask i request) answer).parts.1
asked_marks session c asks i request (Ok u) s told = ask_none i request s told
asked_marks session c asks i request (Err why) s told = ask_none i request s told

begin_asked_marks : (session node : ℕ) (c : Client) (post : Option InstanceEntry) → Marked post (begin_asked session node c post).parts.1
begin_asked_marks session node c None = post_same None
begin_asked_marks session node c (Some i) = asked_marks session c _ i (Begin session) (instance_ask i (Begin session)).answer

pub begin_marks : (session node : ℕ) (c : Client) (post : Option InstanceEntry) (why : Option Cause) → Marked post (ask_begin_by session node c post why).parts.1
begin_marks session node c post (Some why) = post_same post
begin_marks session node c post None = begin_asked_marks session node c post

commit_asked_marks : (session node start : ℕ) (c : Client) (post : Option InstanceEntry) → Marked post (commit_asked session node c start post).parts.1
commit_asked_marks session node start c None = post_same None
commit_asked_marks session node start c (Some i) = asked_marks session c _ i (Commit session start c.entry.keys) (instance_ask i (Commit session start c.entry.keys)).answer

pub commit_marks : (session node : ℕ) (c : Client) (post : Option InstanceEntry) (why : Option Cause) (start : Option ℕ) → Marked post (ask_commit_by session node c post why start).parts.1
commit_marks session node c post why start = grind (arith, post_same, commit_asked_marks)

-- ---- what a node does to its requests
pub accept_marks : (node session reading : ℕ) (post : Option InstanceEntry) (c : Client) → Marked post (accept_on node session reading post c).parts.0
accept_marks node session reading post c = grind (arith, post_same, accept_none)

pub decide_marks : (node session : ℕ) (post : Option InstanceEntry) (c : Client) → Marked post (decide_on node session post c).parts.0
decide_marks node session post c = grind (arith, post_same, decide_none)

pub put_marks : (node session : ℕ) (fate : Fate) (post : Option InstanceEntry) (pairs : Pairs) → Marked post (put_on node session fate post pairs).parts.0
put_marks node session fate post pairs = grind (arith, post_same, settle_none)
