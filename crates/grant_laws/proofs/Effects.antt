-- What the events that serve a request make of the node's instance and of the client, where nothing stands against them.
use Rattle.grant_laws.proofs.Names.{◌≡◌, ◌≢◌, ℕ, ◌+◌, ◌<◌, ◌≤◌, ◌^◌, Bool, false, List, [], ◌∷◌}
use Rattle.grant_laws.proofs.Names.{Option, Some, None, arith, le-ltb, eq-eqb, ne_eqb}
use Rattle.grant_laws.proofs.Names.{SetupNumbers, CommittedMark, Fate, Works, Session, Item, Handed}
use Rattle.grant_laws.proofs.Names.{Pairs, mark_of, put_pair, MasterRecord}
use Rattle.grant_laws.proofs.Names.{extended}
use Rattle.grant_laws.proofs.Names.{Free, Held, Request, Begin, Commit, InstanceEntry, held_of}
use Rattle.grant_laws.proofs.Names.{in_flight, with_request, session_of, least_unsettled}
use Rattle.grant_laws.proofs.Names.{just_asked, moved}
use Rattle.grant_laws.proofs.Names.{no_stamp_told, accept_refusal, drawn_as}
use Rattle.grant_laws.proofs.Names.{decided_by, decide_drawn, without_request}
use Rattle.grant_laws.proofs.Names.{instance_widened, stamp_of, Client, Refuses, done}
use Rattle.grant_laws.proofs.Names.{is_reading, client_asked, client_handed}
use Rattle.grant_laws.proofs.Names.{ask_begin_on, ask_commit_on}
use Rattle.grant_laws.proofs.Names.{accept_on, both_verdict, draw_item}
use Rattle.grant_laws.proofs.Names.{decide_on, put_on}
use Rattle.grant_laws.proofs.Names.{answer_on, rules_of, extend_on}
use Rattle.history_book.specs.declared.cause.Cause.TheVariants as cause
use Rattle.history_book.specs.declared.item.Item.TheVariants as item
use Rattle.system_parts.specs.declared.session.State.TheVariants as phase
use Rattle.system_parts.specs.declared.instance.Progress.TheVariants as progress
use Rattle.system_parts.specs.declared.instance.Settled.TheVariants as how

-- ---- asks
-- the instance with the request just asked
abbrev pub asked_of : InstanceEntry → Request → InstanceEntry
asked_of i request = with_request i (session_of request) (Some (just_asked request))

pub begin_taken : (s node : ℕ) (c : Client) (i : InstanceEntry) → c.entry.state ≡ phase.Free → in_flight i < i.slots → ask_begin_on s node c (Some i) ≡ done (client_asked c, Some (asked_of i (Begin s))) (item.AskBegin s node ∷ [])
begin_taken s node c i is_free slot = grind (arith, ne_eqb)

pub commit_taken : (s node start : ℕ) (c : Client) (i : InstanceEntry) → c.entry.state ≡ phase.Open → is_reading c ≡ false → c.entry.start ≡ Some start → c.entry.keys ≢ [] → in_flight i < i.slots → ask_commit_on s node c (Some i) ≡ done (client_asked c, Some (asked_of i (Commit s start c.entry.keys))) (item.AskCommit s node start ∷ [])
commit_taken s node start c i in_work at_rest begun wrote slot = grind (arith, ne_eqb)

-- ---- the acceptance
pub accepted : (node s reading : ℕ) (i : InstanceEntry) (c : Client) (request : Request) → held_of i s ≡ Some (just_asked request) → accept_refusal i reading request ≡ None → accept_on node s reading (Some i) c ≡ done (Some (moved i s (just_asked request) progress.Accepted), c) (item.Accept s node i.term reading ∷ [])
accepted node s reading i c request has is_free = grind arith

-- ---- the decision
-- a request that was accepted, of which nothing was told yet but that no stamp is left
abbrev pub waiting : Request → Bool → Held
waiting request told = record { request = request; progress = progress.Accepted; told_no_stamp = told; told_not_yet = false }

-- the instance once it has drawn the next stamp for it
abbrev pub drawn : InstanceEntry → ℕ → Held → InstanceEntry
drawn i s held = (decide_drawn i s held (i.last + 1)).left

pub draws : (node s : ℕ) (i : InstanceEntry) (c : Client) (request : Request) (told : Bool) → held_of i s ≡ Some (waiting request told) → both_verdict i.buckets c.reads request ≡ Free → i.last ≢ i.ceiling → decide_on node s (Some i) c ≡ done (Some (drawn i s (waiting request told)), c) (draw_item node i.term request (stamp_of (decided_by request (i.last + 1))) ∷ [])
draws node s i c request told has no_conflict more = grind (arith, ne_eqb)

pub lacks : (node s : ℕ) (i : InstanceEntry) (c : Client) (request : Request) → held_of i s ≡ Some (waiting request false) → both_verdict i.buckets c.reads request ≡ Free → i.last ≡ i.ceiling → i.stop ≡ None → decide_on node s (Some i) c ≡ record { parts = (Some (no_stamp_told i s (waiting request false)), c); items = item.Refused (Session s) (cause.NoStamp i.last) ∷ []; stop = Some (Refuses (cause.NoStamp i.last)) }
lacks node s i c request has no_conflict spent goes_on = grind (arith, eq-eqb)

-- ---- the extension
pub widens : (setup : SetupNumbers) (node : ℕ) (fate : Fate) (i : InstanceEntry) (r : MasterRecord) → i.term ≡ r.term → r.ceiling + setup.range ≤ 2 ^ 62 → fate ≡ Works → extend_on setup node fate (Some i) r ≡ done (Some (instance_widened i (r.ceiling + setup.range)), extended (rules_of setup) r i.term) (item.Extend node i.term (r.ceiling + setup.range) ∷ [])
widens setup node fate i r in_term stamps works = grind (arith, eq-eqb, le-ltb)

-- ---- the put
-- a request that has its stamp, by whether sessions place their commits
abbrev pub with_stamp : Bool → Request → Bool → ℕ → Held
with_stamp direct request told stamp = record { request = request; progress = drawn_as direct request stamp; told_no_stamp = told; told_not_yet = false }

-- a begin is not handed over
pub begin_drawn : (direct : Bool) (s stamp : ℕ) → drawn_as direct (Begin s) stamp ≡ progress.Drawn stamp
begin_drawn direct s stamp = grind arith

abbrev pub with_record : Request → Bool → ℕ → Held
with_record request told stamp = record { request = request; progress = progress.Settled stamp how.Placed; told_no_stamp = told; told_not_yet = false }

pub places : (node s start commit : ℕ) (keys : List ℕ) (told : Bool) (fate : Fate) (i : InstanceEntry) (pairs : Pairs) → held_of i s ≡ Some (with_stamp false (Commit s start keys) told commit) → mark_of pairs start ≡ None → fate ≡ Works → put_on node s fate (Some i) pairs ≡ done (Some (with_request i s (Some (with_record (Commit s start keys) told commit))), put_pair pairs start (CommittedMark commit)) (item.Placed start commit ∷ [])
places node s start commit keys told fate i pairs has absent works = grind arith

-- ---- the answers
pub commit_answered : (node s start commit : ℕ) (keys : List ℕ) (told : Bool) (i : InstanceEntry) (c : Client) → held_of i s ≡ Some (with_record (Commit s start keys) told commit) → (answer_on node s (Some i) c).items ≡ item.Committed s start commit ∷ []
commit_answered node s start commit keys told i c has = grind arith

-- a commit that its session is to place is handed to it
pub commit_handed : (node s start commit : ℕ) (keys : List ℕ) (i : InstanceEntry) (c : Client) (held : Held) → held_of i s ≡ Some held → held.request ≡ Commit s start keys → held.progress ≡ progress.Handed commit → c.entry.state ≡ phase.Committing → answer_on node s (Some i) c ≡ done (Some (without_request i s), client_handed c commit) (item.Step (Session s) (Handed start commit) ∷ [])
commit_handed node s start commit keys i c held has asks stands waits = grind arith

-- a begin whose stamp was drawn is told by whether a commit below it is not settled
abbrev pub begin_items : ℕ → ℕ → Option ℕ → List Item
begin_items s start None = item.Begin s start ∷ []
begin_items s start (Some commit) = item.Refused (Session s) (cause.NotYet commit) ∷ []

pub begin_answered : (node s start : ℕ) (told : Bool) (i : InstanceEntry) (c : Client) → held_of i s ≡ Some (with_stamp false (Begin s) told start) → (answer_on node s (Some i) c).items ≡ begin_items s start (least_unsettled i.requests start)
begin_answered node s start told i c has = grind arith
