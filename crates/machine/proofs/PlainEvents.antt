-- The events that ask no store: which refusals leave all, and that no store fails.
use Rattle.machine.proofs.Names.{[], ◌≡◌, ℕ, ◌==◌, Bool, true, false, IsTrue, if◌then◌else◌, List, ◌∷◌, Option, Some}
use Rattle.machine.proofs.Names.{None, Result, Ok, Err, refl, sym, subst, IfSome, Store, Cause, Node, Session, Janitor}
use Rattle.machine.proofs.Names.{Item, Aborted, ReadOnly, Handed, begin_refusal, work_refusal, vanish_refusal, Sweeping}
use Rattle.machine.proofs.Names.{sweep_open, Held, Decided, Reply, Request, Begin, Commit, InstanceEntry, held_of}
use Rattle.machine.proofs.Names.{in_flight, with_request, session_of, stamps_at, InstanceStep, stays, just_asked}
use Rattle.machine.proofs.Names.{instance_ask, instance_accept, instance_answer, Client, Faults, is_reading}
use Rattle.machine.proofs.Names.{client_aborted, client_asked, client_freed, client_vanished, unless_gone, client_begun}
use Rattle.machine.proofs.Names.{client_handed, client_committed, crashed_clients, all_crashed_items, crash_on}
use Rattle.machine.proofs.Names.{asked_by, begin_asked, ask_begin_by, ask_begin_on, commit_asked, commit_of}
use Rattle.machine.proofs.Names.{ask_commit_by, ask_commit_on, accept_by, accept_request, accept_on, decide_both}
use Rattle.machine.proofs.Names.{decide_by, decide_request, decide_on, answer_by, answer_request, answer_on, abort_by}
use Rattle.machine.proofs.Names.{abort_on, vanish_by, vanish_on, sweep_open_at, sweep_open_on, leaves_all, KeepsStop}
use Rattle.history_book.specs.declared.cause.Cause.TheVariants as cause
use Rattle.history_book.specs.declared.item.Item.TheVariants as item
use Rattle.system_parts.specs.declared.instance.Reply.TheVariants as reply
use Rattle.machine.proofs.Refusals.{Plain, plain_done, plain_refused, plain_ending}
use Rattle.machine.proofs.StandingAnswers.{IsNoRequest, Stands, stands_accept, stands_decide, stands_answer}

-- ---- sessions alone
plain_abort_by : (session : ℕ) (c : Client) (why : Option Cause) (start : Option ℕ) → Plain c (abort_by session c why start)
plain_abort_by session c (Some why) start = plain_refused c (Session session) why
plain_abort_by session c None None = plain_done c c []
plain_abort_by session c None (Some start) = plain_done c (client_aborted c) (item.End session start Aborted ∷ [])

pub plain_abort : (session : ℕ) (c : Client) → Plain c (abort_on session c)
plain_abort session c = plain_abort_by session c (work_refusal c.entry.state (is_reading c)) c.entry.start

plain_vanish_by : (session : ℕ) (c : Client) (why : Option Cause) → Plain c (vanish_by session c why)
plain_vanish_by session c (Some why) = plain_refused c (Session session) why
plain_vanish_by session c None = plain_done c (client_vanished c) (item.Vanish session ∷ [])

pub plain_vanish : (session : ℕ) (c : Client) → Plain c (vanish_on session c)
plain_vanish session c = plain_vanish_by session c (vanish_refusal c.entry.state)

-- ---- the sweep's opening, and a crash
plain_open_at : (node txn : ℕ) (post : Option InstanceEntry) → Plain {P = Option Sweeping} None (sweep_open_at node txn post)
plain_open_at node txn None = plain_refused None Janitor (cause.NoOracle node)
plain_open_at node txn (Some i) = plain_done None (Some (sweep_open txn i.epoch)) []

pub plain_sweep_open : (node txn : ℕ) (post : Option InstanceEntry) (sweep : Option Sweeping) → Plain sweep (sweep_open_on node txn post sweep)
plain_sweep_open node txn post (Some s) = plain_refused (Some s) Janitor cause.Busy
plain_sweep_open node txn post None = plain_open_at node txn post

pub plain_crash : (node : ℕ) (post : Option InstanceEntry) (clients : List Client) → Plain (post, clients) (crash_on node post clients)
plain_crash node None clients = plain_refused (None, clients) (Node node) (cause.NoOracle node)
plain_crash node (Some i) clients =
    plain_done (Some i, clients) (None, crashed_clients i.requests clients) (item.Crash node i.term ∷ all_crashed_items node i.term i.requests clients)

-- ---- asks: the instance takes the request, or is full
plain_asked_by : (session : ℕ) (c : Client) (asks : Item) (i : InstanceEntry) (request : Request) (full : Bool) → let step : InstanceStep (Unit {0}) = (if full then stays i (cause.Full (in_flight i)) else record { left = with_request i (session_of request) (Some (just_asked request)); answer = Ok tt }) in Plain (c, Some i) (asked_by session c asks step step.answer)
plain_asked_by session c asks i request true = plain_refused (c, Some i) (Session session) (cause.Full (in_flight i))
plain_asked_by session c asks i request false = plain_done (c, Some i) (client_asked c, Some (with_request i (session_of request) (Some (just_asked request)))) (asks ∷ [])

plain_asked : (session : ℕ) (c : Client) (asks : Item) (i : InstanceEntry) (request : Request) → Plain (c, Some i) (asked_by session c asks (instance_ask i request) (instance_ask i request).answer)
plain_asked session c asks i request = plain_asked_by session c asks i request (in_flight i == i.slots)

plain_begin_asked : (session node : ℕ) (c : Client) (post : Option InstanceEntry) → Plain (c, post) (begin_asked session node c post)
plain_begin_asked session node c None = plain_refused (c, None) (Session session) (cause.NoOracle node)
plain_begin_asked session node c (Some i) = plain_asked session c (item.AskBegin session node) i (Begin session)

plain_begin_by : (session node : ℕ) (c : Client) (post : Option InstanceEntry) (why : Option Cause) → Plain (c, post) (ask_begin_by session node c post why)
plain_begin_by session node c post (Some why) = plain_refused (c, post) (Session session) why
plain_begin_by session node c post None = plain_begin_asked session node c post

pub plain_ask_begin : (session node : ℕ) (c : Client) (post : Option InstanceEntry) → Plain (c, post) (ask_begin_on session node c post)
plain_ask_begin session node c post = plain_begin_by session node c post (begin_refusal c.entry.state)

plain_commit_asked : (session node start : ℕ) (c : Client) (post : Option InstanceEntry) → Plain (c, post) (commit_asked session node c start post)
plain_commit_asked session node start c None = plain_refused (c, None) (Session session) (cause.NoOracle node)
plain_commit_asked session node start c (Some i) = plain_asked session c (item.AskCommit session node start) i (Commit session start c.entry.keys)

plain_commit_of : (session node start : ℕ) (c : Client) (keys : List ℕ) (post : Option InstanceEntry) → Plain (c, post) (commit_of session node c start keys post)
plain_commit_of session node start c [] post = plain_done (c, post) (client_freed c, post) (item.End session start ReadOnly ∷ [])
plain_commit_of session node start c (key ∷ keys) post = plain_commit_asked session node start c post

plain_commit_by : (session node : ℕ) (c : Client) (post : Option InstanceEntry) (why : Option Cause) (start : Option ℕ) → Plain (c, post) (ask_commit_by session node c post why start)
plain_commit_by session node c post (Some why) start = plain_refused (c, post) (Session session) why
plain_commit_by session node c post None None = plain_done (c, post) (c, post) []
plain_commit_by session node c post None (Some start) = plain_commit_of session node start c c.entry.keys post

pub plain_ask_commit : (session node : ℕ) (c : Client) (post : Option InstanceEntry) → Plain (c, post) (ask_commit_on session node c post)
plain_ask_commit session node c post = plain_commit_by session node c post (work_refusal c.entry.state (is_reading c)) c.entry.start

-- ---- requests
-- a refusal that ends the request is none that leaves all
ends_by : (i left : InstanceEntry) (why : Cause) → (IsNoRequest why → ⊥) → (IsTrue (leaves_all why) → (left ≡ i) × IsNoRequest why) → IsTrue (leaves_all why) → ⊥
ends_by i left why other stands is = other (stands is).1

plain_accept_by : (node session reading : ℕ) (request : Request) (i left : InstanceEntry) (c : Client) (answer : Result (Unit {0}) Cause) → Stands i left answer → Plain (Some i, c) (accept_by node session reading request left c answer)
plain_accept_by node session reading request i left c (Ok u) stands = plain_done (Some i, c) (Some left, c) (item.Accept session node left.term reading ∷ [])
plain_accept_by node session reading request i left c (Err (cause.NoRequest s)) stands =
    subst (λ (l : InstanceEntry). Plain (Some i, c) (accept_by node session reading request l c (Err (cause.NoRequest s)))) (sym (stands refl).0) (plain_refused (Some i, c) (Node node) (cause.NoRequest s))
plain_accept_by node session reading request i left c (Err why) stands =
    plain_ending (Some i, c) (accept_by node session reading request left c (Err why)) why refl (ends_by i left why (λ none. none) stands)

plain_accept_request : (node session reading : ℕ) (i : InstanceEntry) (c : Client) (held : Option Held) → Plain (Some i, c) (accept_request node session reading i c held)
plain_accept_request node session reading i c None = plain_refused (Some i, c) (Node node) (cause.NoRequest session)
plain_accept_request node session reading i c (Some held) =
    plain_accept_by node session reading held.request i (instance_accept i session reading).left c (instance_accept i session reading).answer (stands_accept i session reading (held_of i session))

pub plain_accept : (node session reading : ℕ) (post : Option InstanceEntry) (c : Client) → Plain (post, c) (accept_on node session reading post c)
plain_accept node session reading None c = plain_refused (None, c) (Node node) (cause.NoOracle node)
plain_accept node session reading (Some i) c = plain_accept_request node session reading i c (held_of i session)

plain_decide_by : (node session : ℕ) (held : Held) (i left : InstanceEntry) (c : Client) (answer : Result Decided Cause) → Stands i left answer → Plain (Some i, c) (decide_by node session held left c answer)
plain_decide_by node session held i left c (Ok drawn) stands = record { leaves = λ why stop is. absurd (cc); works = λ store stop. absurd (cc) }
plain_decide_by node session held i left c (Err (cause.NoRequest s)) stands =
    subst (λ (l : InstanceEntry). Plain (Some i, c) (decide_by node session held l c (Err (cause.NoRequest s)))) (sym (stands refl).0) (plain_refused (Some i, c) (Node node) (cause.NoRequest s))
plain_decide_by node session held i left c (Err (cause.NoStamp last)) stands =
    plain_ending (Some i, c) (decide_by node session held left c (Err (cause.NoStamp last))) (cause.NoStamp last) refl (λ is. cc)
plain_decide_by node session held i left c (Err why) stands =
    plain_ending (Some i, c) (decide_by node session held left c (Err why)) why refl (ends_by i left why (λ none. none) stands)

plain_decide_request : (node session : ℕ) (i : InstanceEntry) (c : Client) (held : Option Held) → KeepsStop i → Plain (Some i, c) (decide_request node session i c held)
plain_decide_request node session i c None keeps = plain_refused (Some i, c) (Node node) (cause.NoRequest session)
plain_decide_request node session i c (Some held) keeps =
    plain_decide_by node session held i (decide_both i session c.reads).left c (decide_both i session c.reads).answer (stands_decide i session c.reads (held_of i session) keeps)

pub plain_decide : (node session : ℕ) (post : Option InstanceEntry) (c : Client) → IfSome post KeepsStop → Plain (post, c) (decide_on node session post c)
plain_decide node session None c keeps = plain_refused (None, c) (Node node) (cause.NoOracle node)
plain_decide node session (Some i) c keeps = plain_decide_request node session i c (held_of i session) keeps

-- ---- a decision asks no store, whatever the instance keeps
decide_works_by : (node session : ℕ) (held : Held) (left : InstanceEntry) (c : Client) (answer : Result Decided Cause) (store : Store) → (decide_by node session held left c answer).stop ≡ Some (Faults store) → ⊥
decide_works_by node session held left c (Ok drawn) store stop = cc
decide_works_by node session held left c (Err (cause.NoRequest s)) store stop = cc
decide_works_by node session held left c (Err (cause.NoStamp last)) store stop = cc
decide_works_by node session held left c (Err why) store stop = cc

decide_works_at : (node session : ℕ) (i : InstanceEntry) (c : Client) (held : Option Held) (store : Store) → (decide_request node session i c held).stop ≡ Some (Faults store) → ⊥
decide_works_at node session i c None store stop = cc
decide_works_at node session i c (Some held) store stop = decide_works_by node session held (decide_both i session c.reads).left c (decide_both i session c.reads).answer store stop

pub decide_works : (node session : ℕ) (post : Option InstanceEntry) (c : Client) (store : Store) → (decide_on node session post c).stop ≡ Some (Faults store) → ⊥
decide_works node session None c store stop = cc
decide_works node session (Some i) c store stop = decide_works_at node session i c (held_of i session) store stop

plain_answer_by : (node session start : ℕ) (c : Client) (i left : InstanceEntry) (answer : Result Reply Cause) → Stands i left answer → Plain (Some i, c) (answer_by node session start c i left answer)
plain_answer_by node session start c i left (Ok (reply.Begun begun epoch)) stands =
    plain_done (Some i, c) (Some left, unless_gone c (client_begun c begun epoch)) (item.Begin session begun ∷ [])
plain_answer_by node session start c i left (Ok (reply.Committed commit)) stands =
    plain_done (Some i, c) (Some left, unless_gone c (client_committed c commit)) (item.Committed session start commit ∷ [])
plain_answer_by node session start c i left (Ok (reply.Handed commit)) stands =
    plain_done (Some i, c) (Some left, unless_gone c (client_handed c commit)) (item.Step (Session session) (Handed start commit) ∷ [])
plain_answer_by node session start c i left (Ok reply.Invalid) stands =
    plain_ending (Some i, c) (answer_by node session start c i left (Ok reply.Invalid)) (cause.Invalid start) refl (λ is. cc)
plain_answer_by node session start c i left (Ok reply.Open) stands =
    plain_ending (Some i, c) (answer_by node session start c i left (Ok reply.Open)) (cause.Open start) refl (λ is. cc)
plain_answer_by node session start c i left (Err (cause.NotYet commit)) stands =
    plain_ending (Some i, c) (answer_by node session start c i left (Err (cause.NotYet commit))) (cause.NotYet commit) refl (λ is. cc)
plain_answer_by node session start c i left (Err (cause.NoRequest s)) stands =
    subst (λ (l : InstanceEntry). Plain (Some i, c) (answer_by node session start c i l (Err (cause.NoRequest s)))) (sym (stands refl).0) (plain_refused (Some i, c) (Node node) (cause.NoRequest s))
plain_answer_by node session start c i left (Err why) stands =
    plain_ending (Some i, c) (answer_by node session start c i left (Err why)) why refl (ends_by i left why (λ none. none) stands)

plain_answer_at : (node session : ℕ) (i : InstanceEntry) (c : Client) (stamps : Option (ℕ × Option ℕ)) → Plain (Some i, c) (answer_request node session i c stamps)
plain_answer_at node session i c None = plain_refused (Some i, c) (Node node) (cause.NoRequest session)
plain_answer_at node session i c (Some stamps) =
    plain_answer_by node session stamps.0 c i (instance_answer i session).left (instance_answer i session).answer (stands_answer i session (held_of i session))

pub plain_answer : (node session : ℕ) (post : Option InstanceEntry) (c : Client) → Plain (post, c) (answer_on node session post c)
plain_answer node session None c = plain_refused (None, c) (Node node) (cause.NoOracle node)
plain_answer node session (Some i) c = plain_answer_at node session i c (stamps_at i session)
