-- For cause_laws and request_completion too.
-- One frame for how an outcome moves clients: each was there, it opens, places and reads nothing that it did not before, keeps what its
-- transaction read and what it remembers, and is gone only where it was. Outcomes that move one otherwise have lemmas of their own.
use Rattle.isolation_laws.proofs.Names.{[], ◌≡◌, ℕ, Bool, true, false, List, ◌∷◌, ◌⊎◌, inl, inr, refl, sym, ◌∙◌, ap}
use Rattle.isolation_laws.proofs.Names.{subst, Option, Some, None, slice_set, slice_index_or, Ask, SessionState}
use Rattle.isolation_laws.proofs.Names.{SessionEntry, aborted_by, asked_state, Settling, SettleTurn, Goes, Decides}
use Rattle.isolation_laws.proofs.Names.{settle_ask, settle_turn, Reading, Request, Commit, Settled, Client, State}
use Rattle.isolation_laws.proofs.Names.{Reads, client_freed, client_aborted, client_opened, unless_gone, after_refusal}
use Rattle.isolation_laws.proofs.Names.{client_committed, client_asked, after_loss, crashed_clients, client_settled}
use Rattle.isolation_laws.proofs.Names.{after_asks, ClientAt, epoch_or_none, OpenAt, is_placing, client_set}
use Rattle.isolation_laws.proofs.Names.{answered_client, Held, told_by, client_wrote, CompletedOne, Outcome, OfCrashed}
use Rattle.isolation_laws.proofs.Names.{OfAskedBegin, OfAskedCommit, OfEnded, OfAnsweredBegin, OfAnsweredCommit}
use Rattle.isolation_laws.proofs.Names.{OfHanded, OfOwnPlaced, OfOwnNotPlaced, OfEndedReadOnly, OfWrote, OfWriteFailed}
use Rattle.isolation_laws.proofs.Names.{OfAborted, OfVanished, OfHealed, OfFetched, OfReadDropped, OfReadStepped}
use Rattle.isolation_laws.proofs.Names.{OfOutcome, OfOutcomeFailed, OfCompleted, left_by}
use Rattle.system_parts.specs.declared.resolve.Outcome.TheVariants as outcome
use Rattle.system_parts.specs.declared.session.State.TheVariants as phase
use Rattle.system_parts.specs.declared.instance.Request.TheVariants.{Begin}
use Rattle.system_parts.specs.declared.instance.Settled.TheVariants as how
use Rattle.isolation_laws.proofs.Requests.ClientsOpen.{FewerAtWork, WorksNoMore, rests_as, free_rests, asking_rests, committing_rests, aborted_rests, gone_cases, outcome_rests, completing_rests, IsAtRest}
use Rattle.isolation_laws.proofs.Requests.ClientsIdle.{FewerReading, ReadsNothing, nothing_reads, settles_nothing, completes_nothing, aborted_reads, committed_reads, idle_reads}
use Rattle.isolation_laws.proofs.Requests.OpenAfter.{crashed_at}

-- ---- one client
pub record ClientChange (old new : Client) : Type 0 where
  pub works : WorksNoMore old new
  pub reads : (new ≡ old) ⊎ ReadsNothing new
  pub read : new.reads ≡ old.reads
  pub cache : new.cache ≡ old.cache
  pub gone : new.entry.state ≡ phase.Gone → old.entry.state ≡ phase.Gone

same_change : (c : Client) → ClientChange c c
same_change c = record { works = inr refl; reads = inl refl; read = refl; cache = refl; gone = λ gone. gone }

-- an answer is heard by a session that is there
unless_change : (old new : Client) → ClientChange old new → ClientChange old (unless_gone old new)
unless_change old new change = elim (gone_cases old new) [
  | inl stays ↦ subst (ClientChange old) (sym stays.0) (same_change old)
  | inr moves ↦ subst (ClientChange old) (sym moves) change
]

freed_change : (c : Client) → ClientChange c (client_freed c)
freed_change c = record { works = inl free_rests; reads = inr nothing_reads; read = refl; cache = refl; gone = λ is. absurd (cc) }

opened_change : (c : Client) → ClientChange c (client_opened c)
opened_change c = record { works = inl outcome_rests; reads = inr nothing_reads; read = refl; cache = refl; gone = λ is. absurd (cc) }

aborted_alive : (e : SessionEntry) (keys : List ℕ) → (aborted_by e keys).state ≡ phase.Gone → ⊥
aborted_alive e [] gone = cc
aborted_alive e (key ∷ keys) gone = cc

-- also of a client with another key written
aborted_change : (old c : Client) → c.reads ≡ old.reads → c.cache ≡ old.cache → ClientChange old (client_aborted c)
aborted_change old c read cache = record { works = inl (aborted_rests c); reads = inr (aborted_reads c); read = read; cache = cache; gone = λ is. absurd (aborted_alive c.entry c.entry.keys is) }

committed_change : (c : Client) (commit : ℕ) → ClientChange c (client_committed c commit)
committed_change c commit = record { works = inl (completing_rests false); reads = inr (committed_reads c commit); read = refl; cache = refl; gone = λ is. absurd (cc) }

asked_alive : (state : SessionState) → asked_state state ≡ phase.Gone → ⊥
asked_alive phase.Free gone = cc
asked_alive _ gone = cc

asked_change : (c : Client) → IsAtRest (client_asked c).entry.state → ClientChange c (client_asked c)
asked_change c rests = record { works = inl rests; reads = inr nothing_reads; read = refl; cache = refl; gone = λ is. absurd (asked_alive c.entry.state is) }

refusal_change : (request : Request) (c : Client) → ClientChange c (after_refusal request c)
refusal_change (Begin s) c = unless_change c (client_freed c) (freed_change c)
refusal_change (Commit s t keys) c = unless_change c (client_aborted c) (aborted_change c c refl refl)

loss_change : (request : Request) (c : Client) → ClientChange c (after_loss request c)
loss_change (Begin s) c = unless_change c (client_freed c) (freed_change c)
loss_change (Commit s t keys) c = unless_change c (client_opened c) (opened_change c)

answered_change : (by : Settled) (c : Client) (commit : ℕ) → ClientChange c (answered_client by c commit)
answered_change how.Placed c commit = committed_change c commit
answered_change how.Invalid c commit = aborted_change c c refl refl
answered_change how.Faulted c commit = opened_change c

settled_change : (c : Client) (x : Settling) (turn : SettleTurn) → ClientChange c (client_settled c x turn)
settled_change c x (Goes point) = record { works = inr refl; reads = inr (settles_nothing _); read = refl; cache = refl; gone = λ gone. gone }
settled_change c x (Decides (outcome.Committed commit by_table)) = committed_change c commit
settled_change c x (Decides outcome.Dead) = aborted_change c c refl refl

asks_change : (c : Client) (asks : List Ask) → ClientChange c (after_asks c asks)
asks_change c [] = freed_change c
asks_change c (asked ∷ asks) = record { works = inr refl; reads = inr (completes_nothing (asked ∷ asks)); read = refl; cache = refl; gone = λ gone. gone }

completed_change : (w : State) (k : CompletedOne w) → ClientChange k.c k.left
completed_change w k = elim k.left_is [
  | inl goes ↦ subst (ClientChange k.c) (sym goes.0) (asks_change k.c k.asks)
  | inr freed ↦ subst (ClientChange k.c) (sym freed.0) (freed_change k.c)
]

-- ---- all clients
abbrev pub ClientsMove : List Client → List Client → Type 0
ClientsMove old new = (s : ℕ) (c : Client) → ClientAt new s c → (d : Client) × ClientAt old s d × ClientChange d c

stay_put : (clients : List Client) → ClientsMove clients clients
stay_put clients s c at = (c, at, same_change c)

one_moves : (clients : List Client) (s : ℕ) (old new : Client) → ClientAt clients s old → ClientChange old new → ClientsMove clients (slice_set clients s new)
one_moves clients s old new at change r c there = elim (client_set clients s r new c there) [
  | inl here ↦ (old, subst (λ (q : ℕ). ClientAt clients q old) (sym here.0) at, subst (ClientChange old) (sym here.1) change)
  | inr other ↦ (c, other.1, same_change c)
]

heard_change : (old c : Client) (requests : List (Option Held)) (s : ℕ) → (c ≡ old) ⊎ ((held : Held) × (slice_index_or requests s None ≡ Some held) × (c ≡ after_loss held.request old)) → ClientChange old c
heard_change old c requests s (inl same) = subst (ClientChange old) (sym same) (same_change old)
heard_change old c requests s (inr (held, there, is)) = subst (ClientChange old) (sym is) (loss_change held.request old)

crash_moves : (requests : List (Option Held)) (clients : List Client) → ClientsMove clients (crashed_clients requests clients)
crash_moves requests clients s c at = let was = crashed_at requests clients s c at in (was.0, was.1, heard_change was.0 c requests s was.2)

-- ---- which outcomes move clients so
abbrev pub moves_plainly : {w : State} → Outcome w → Bool
moves_plainly (OfAnsweredBegin k) = false
moves_plainly (OfHanded k) = false
moves_plainly (OfWrote k) = false
moves_plainly (OfVanished k) = false
moves_plainly (OfFetched k) = false
moves_plainly (OfReadDropped k) = false
moves_plainly (OfReadStepped k) = false
moves_plainly _ = true

pub clients_move : (w : State) (o : Outcome w) → moves_plainly o ≡ true → ClientsMove w.clients (left_by w o).clients
clients_move w (OfCrashed k) is = crash_moves k.i.requests w.clients
clients_move w (OfAskedBegin k) is = one_moves w.clients k.session k.c _ k.client_at (asked_change k.c (rests_as _ phase.Asking (ap asked_state k.free) asking_rests))
clients_move w (OfAskedCommit k) is = one_moves w.clients k.session k.c _ k.client_at (asked_change k.c (rests_as _ phase.Committing (ap asked_state k.is_open) committing_rests))
clients_move w (OfEnded k) is = one_moves w.clients k.session k.c _ k.client_at (refusal_change k.held.request k.c)
clients_move w (OfAnsweredCommit k) is = one_moves w.clients k.session k.c _ k.client_at (unless_change k.c (answered_client k.by k.c k.commit) (answered_change k.by k.c k.commit))
clients_move w (OfOwnPlaced k) is = one_moves w.clients k.it.session k.it.c _ k.it.client_at (answered_change k.by k.it.c k.it.commit)
clients_move w (OfOwnNotPlaced k) is = one_moves w.clients k.it.session k.it.c _ k.it.client_at (answered_change k.by k.it.c k.it.commit)
clients_move w (OfEndedReadOnly k) is = one_moves w.clients k.it.session k.it.c _ k.it.client_at (freed_change k.it.c)
clients_move w (OfWriteFailed k) is = one_moves w.clients k.it.session k.it.c _ k.it.client_at (aborted_change k.it.c (client_wrote k.it.c k.key) refl refl)
clients_move w (OfAborted k) is = one_moves w.clients k.it.session k.it.c _ k.it.client_at (aborted_change k.it.c k.it.c refl refl)
clients_move w (OfHealed k) is = one_moves w.clients k.it.session k.it.c _ k.it.client_at (record { works = inr refl; reads = inr (λ r same. idle_reads k.it.c k.it.idle r same); read = refl; cache = refl; gone = λ gone. gone })
clients_move w (OfOutcome k) is = one_moves w.clients k.it.session k.it.c _ k.it.client_at (settled_change k.it.c k.x (settle_turn k.x (told_by (settle_ask k.x) w.rows w.pairs)))
clients_move w (OfOutcomeFailed k) is = one_moves w.clients k.it.session k.it.c _ k.it.client_at (record { works = inr refl; reads = inr nothing_reads; read = refl; cache = refl; gone = λ gone. gone })
clients_move w (OfCompleted k) is = one_moves w.clients k.session k.c k.left k.client_at (completed_change w k)
clients_move w (OfAnsweredBegin k) is = absurd (cc)
clients_move w (OfHanded k) is = absurd (cc)
clients_move w (OfWrote k) is = absurd (cc)
clients_move w (OfVanished k) is = absurd (cc)
clients_move w (OfFetched k) is = absurd (cc)
clients_move w (OfReadDropped k) is = absurd (cc)
clients_move w (OfReadStepped k) is = absurd (cc)
clients_move w _ is = stay_put w.clients

-- ---- what the frame keeps
was_open : (clients : List Client) (s t e : ℕ) (old c : Client) → ClientAt clients s old → WorksNoMore old c → c.entry.state ≡ phase.Open → c.entry.start ≡ Some t → epoch_or_none c.entry.epoch ≡ e → OpenAt clients s t e
was_open clients s t e old c at (inl rests) state start epoch = absurd (rests.not_open state)
was_open clients s t e old c at (inr same) state start epoch = record { client = old; at = at; state_is = ap (λ x. x.state) same ∙ state; start_is = ap (λ x. x.start) same ∙ start; epoch_is = ap (λ x. epoch_or_none x.epoch) same ∙ epoch }

was_placing : (clients : List Client) (s : ℕ) (old c : Client) → ClientAt clients s old → WorksNoMore old c → is_placing c.entry.state ≡ true → (d : Client) × ClientAt clients s d × (d.entry ≡ c.entry)
was_placing clients s old c at (inl rests) placing = absurd (rests.not_placing placing)
was_placing clients s old c at (inr same) placing = (old, at, same)

pub at_work_moved : (old new : List Client) → ClientsMove old new → FewerAtWork old new
at_work_moved old new move = record {
  opened = λ s t e o. let was = move s o.client o.at in was_open old s t e was.0 o.client was.1 was.2.works o.state_is o.start_is o.epoch_is;
  placing = λ s c at placing. let was = move s c at in was_placing old s was.0 c was.1 was.2.works placing;
}

was_reading : (clients : List Client) (s : ℕ) (old c : Client) (r : Reading) → ClientAt clients s old → (c ≡ old) ⊎ ReadsNothing c → c.under_way ≡ Reads r → ClientAt clients s c
was_reading clients s old c r at (inl same) reads = subst (λ (x : Client). ClientAt clients s x) (sym same) at
was_reading clients s old c r at (inr none) reads = absurd (none r reads)

reading_moved : (old new : List Client) → ClientsMove old new → FewerReading old new
reading_moved old new move s c r at reads = let was = move s c at in was_reading old s was.0 c r was.1 was.2.reads reads

pub at_work_after : (w : State) (o : Outcome w) → moves_plainly o ≡ true → FewerAtWork w.clients (left_by w o).clients
at_work_after w o is = at_work_moved w.clients (left_by w o).clients (clients_move w o is)

pub reading_after : (w : State) (o : Outcome w) → moves_plainly o ≡ true → FewerReading w.clients (left_by w o).clients
reading_after w o is = reading_moved w.clients (left_by w o).clients (clients_move w o is)
