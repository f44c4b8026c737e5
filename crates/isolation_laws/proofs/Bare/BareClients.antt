-- What a client may have left of cells stays, whatever becomes of it: only a completion takes some away.
use Rattle.isolation_laws.proofs.Names.{[], ◌≡◌, ℕ, zero, suc, true, List, ◌∷◌, Option, Some, None, ◌⊎◌, inl, inr, refl}
use Rattle.isolation_laws.proofs.Names.{sym, ◌∙◌, ap, subst, slice_index_or, slice_set, cases_eq, same_Some, ◌∈◌}
use Rattle.isolation_laws.proofs.Names.{SessionState, SessionEntry, key_added, aborted_by, asked_state, Settling}
use Rattle.isolation_laws.proofs.Names.{SettleTurn, Goes, Decides, ReadTurn, Asks, Answers, Held, Request, Commit}
use Rattle.isolation_laws.proofs.Names.{Settled, UnderWay, Nothing, Client, undo_of, client_asked, client_begun}
use Rattle.isolation_laws.proofs.Names.{client_freed, client_aborted, client_opened, client_handed, unless_gone}
use Rattle.isolation_laws.proofs.Names.{unless_gone_by, after_refusal, after_loss, crashed_clients, client_read}
use Rattle.isolation_laws.proofs.Names.{client_settled, client_wrote, ClientAt, WaitsFor, is_placing, MayHave, IsOf}
use Rattle.isolation_laws.proofs.Names.{IsOwned, set_found, set_other, one_client, answered_client}
use Rattle.system_parts.specs.declared.session.State.TheVariants as phase
use Rattle.system_parts.specs.declared.resolve.Outcome.TheVariants as outcome
use Rattle.system_parts.specs.declared.instance.Request.TheVariants.{Begin}
use Rattle.system_parts.specs.declared.instance.Settled.TheVariants as how
use Rattle.isolation_laws.proofs.Requests.ClientsOpen.{gone_cases}
use Rattle.isolation_laws.proofs.Requests.WrittenKeys.{added_stays, added_in}
use Rattle.isolation_laws.proofs.Stores.CompletionSteps.{in_none}

-- ---- one client
abbrev pub Has : Client → ℕ → ℕ → Type 0
Has c k t = IsOf c.entry c.under_way k t

-- all that the one may have, the other may have
abbrev pub HasOn : Client → Client → Type 0
HasOn old new = (k t : ℕ) → Has old k t → Has new k t

pub has_in : (c : Client) (k t : ℕ) (state : SessionState) → c.entry.state ≡ state → Has c k t → MayHave state c.entry.keys c.under_way t k
has_in c k t state is of = subst (λ (s : SessionState). MayHave s c.entry.keys c.under_way t k) is of.1

-- a session without a transaction has none
pub free_none : (c : Client) (k t : ℕ) → c.entry.state ≡ phase.Free → Has c k t → ⊥
free_none c k t is of = has_in c k t phase.Free is of

pub asking_none : (c : Client) (k t : ℕ) → c.entry.state ≡ phase.Asking → Has c k t → ⊥
asking_none c k t is of = has_in c k t phase.Asking is of

-- what is under way counts only where it is undone
may_have : (state : SessionState) (keys : List ℕ) (u v : UnderWay) (t k : ℕ) → (state ≡ phase.Completing true → ⊥) → MayHave state keys u t k → MayHave state keys v t k
may_have (phase.Completing true) keys u v t k other has = absurd (other refl)
may_have _ keys u v t k other has = has

pub of_work : (e : SessionEntry) (u v : UnderWay) (k t : ℕ) → (e.state ≡ phase.Completing true → ⊥) → IsOf e u k t → IsOf e v k t
of_work e u v k t other of = (of.0, may_have e.state e.keys u v t k other of.1)

pub read_has : (c : Client) (turn : ReadTurn) → (c.entry.state ≡ phase.Completing true → ⊥) → HasOn c (client_read c turn)
read_has c (Asks r) other k t of = of_work c.entry c.under_way _ k t other of
read_has c (Answers a) other k t of = of_work c.entry c.under_way _ k t other of

-- ---- a transaction that ends without a commit is undone where it wrote
aborted_of : (e : SessionEntry) (keys : List ℕ) (k t : ℕ) → e.start ≡ Some t → k ∈ keys → IsOf (aborted_by e keys) (undo_of (Some t) keys) k t
aborted_of e [] k t start m = absurd (in_none k [] refl m)
aborted_of e (key ∷ keys) k t start m = (start, (key ∷ keys, refl, m))

pub of_aborted : (c : Client) (k t : ℕ) → c.entry.start ≡ Some t → k ∈ c.entry.keys → Has (client_aborted c) k t
of_aborted c k t start m = subst (λ (from : Option ℕ). IsOf (aborted_by c.entry c.entry.keys) (undo_of from c.entry.keys) k t) (sym start) (aborted_of c.entry c.entry.keys k t start m)

pub aborted_has : (c : Client) → c.entry.state ≡ phase.Open → HasOn c (client_aborted c)
aborted_has c is k t of = of_aborted c k t of.0 (has_in c k t phase.Open is of)

-- ---- writes
pub wrote_has : (c : Client) (key : ℕ) → c.entry.state ≡ phase.Open → HasOn c (client_wrote c key)
wrote_has c key is k t of = (of.0, subst (λ (state : SessionState). MayHave state (key_added c.entry.keys key) c.under_way t k) (sym is) (added_stays c.entry.keys k key (has_in c k t phase.Open is of)))

pub has_written : (c : Client) (key t : ℕ) → c.entry.state ≡ phase.Open → c.entry.start ≡ Some t → Has (client_wrote c key) key t
has_written c key t is start = (start, subst (λ (state : SessionState). MayHave state (key_added c.entry.keys key) c.under_way t key) (sym is) (added_in c.entry.keys key))

-- ---- requests
pub asked_has : (c : Client) → c.entry.state ≡ phase.Open → HasOn c (client_asked c)
asked_has c is k t of = (of.0, subst (λ (state : SessionState). MayHave state c.entry.keys Nothing t k) (sym (ap asked_state is)) (has_in c k t phase.Open is of))

pub of_unless : (old new : Client) (k t : ℕ) → Has old k t → (old.entry.state ≡ phase.Gone) ⊎ Has new k t → Has (unless_gone old new) k t
of_unless old new k t of (inl gone) = subst (λ (c : Client). Has c k t) (sym (ap (λ (state : SessionState). unless_gone_by state old new) gone)) of
of_unless old new k t of (inr now) = elim (gone_cases old new) [
  | inl stays ↦ subst (λ (c : Client). Has c k t) (sym stays.0) of
  | inr moves ↦ subst (λ (c : Client). Has c k t) (sym moves) now
]

-- one that waits for a begin has none
of_begin : (c new : Client) (s k t : ℕ) → WaitsFor (Begin s) c → Has c k t → (c.entry.state ≡ phase.Gone) ⊎ Has new k t
of_begin c new s k t (inl gone) of = inl gone
of_begin c new s k t (inr asking) of = absurd (asking_none c k t asking of)

-- one that waits for a commit has those that it wrote
of_commit : (c new : Client) (s u k t : ℕ) (keys : List ℕ) → WaitsFor (Commit s u keys) c → Has c k t → (k ∈ c.entry.keys → Has new k t) → (c.entry.state ≡ phase.Gone) ⊎ Has new k t
of_commit c new s u k t keys (inl gone) of now = inl gone
of_commit c new s u k t keys (inr asked) of now = inr (now (has_in c k t phase.Committing asked.0 of))

pub begun_has : (c : Client) (s start epoch : ℕ) → WaitsFor (Begin s) c → HasOn c (unless_gone c (client_begun c start epoch))
begun_has c s start epoch waits k t of = of_unless c (client_begun c start epoch) k t of (of_begin c (client_begun c start epoch) s k t waits of)

pub loss_has : (request : Request) (c : Client) → WaitsFor request c → HasOn c (after_loss request c)
loss_has (Begin s) c waits k t of = of_unless c (client_freed c) k t of (of_begin c (client_freed c) s k t waits of)
loss_has (Commit s u keys) c waits k t of = of_unless c (client_opened c) k t of (of_commit c (client_opened c) s u k t keys waits of (λ m. (of.0, m)))

pub handed_has : (c : Client) (commit s u : ℕ) (keys : List ℕ) → WaitsFor (Commit s u keys) c → HasOn c (unless_gone c (client_handed c commit))
handed_has c commit s u keys waits k t of = of_unless c (client_handed c commit) k t of (of_commit c (client_handed c commit) s u k t keys waits of (λ m. (of.0, m)))

pub refusal_has : (request : Request) (c : Client) → WaitsFor request c → HasOn c (after_refusal request c)
refusal_has (Begin s) c waits k t of = of_unless c (client_freed c) k t of (of_begin c (client_freed c) s k t waits of)
refusal_has (Commit s u keys) c waits k t of = of_unless c (client_aborted c) k t of (of_commit c (client_aborted c) s u k t keys waits of (λ m. of_aborted c k t of.0 m))

answer_of : (by : Settled) (c : Client) (commit k t : ℕ) → c.entry.start ≡ Some t → k ∈ c.entry.keys → Has (answered_client by c commit) k t
answer_of how.Placed c commit k t start m = (start, tt)
answer_of how.Invalid c commit k t start m = of_aborted c k t start m
answer_of how.Faulted c commit k t start m = (start, m)

pub answer_has : (by : Settled) (c : Client) (commit s u : ℕ) (keys : List ℕ) → WaitsFor (Commit s u keys) c → HasOn c (unless_gone c (answered_client by c commit))
answer_has by c commit s u keys waits k t of = of_unless c (answered_client by c commit) k t of (of_commit c (answered_client by c commit) s u k t keys waits of (λ m. answer_of by c commit k t of.0 m))

-- a session that is placing its commit has those that it wrote
placing_in : (state : SessionState) (keys : List ℕ) (work : UnderWay) (t k : ℕ) → is_placing state ≡ true → MayHave state keys work t k → k ∈ keys
placing_in phase.Placing keys work t k is has = has
placing_in _ keys work t k is has = absurd (cc)

pub placing_answered : (by : Settled) (c : Client) (commit : ℕ) → is_placing c.entry.state ≡ true → HasOn c (answered_client by c commit)
placing_answered by c commit is k t of = answer_of by c commit k t of.0 (placing_in c.entry.state c.entry.keys c.under_way t k is of.1)

-- ---- an outcome that is open
outcome_other : phase.OpenOutcome ≡ phase.Completing true → ⊥
outcome_other same = cc

pub settled_has : (c : Client) (x : Settling) (turn : SettleTurn) → c.entry.state ≡ phase.OpenOutcome → HasOn c (client_settled c x turn)
settled_has c x (Goes point) is k t of = of_work c.entry c.under_way _ k t (λ other. outcome_other (sym is ∙ other)) of
settled_has c x (Decides (outcome.Committed commit by_table)) is k t of = (of.0, tt)
settled_has c x (Decides outcome.Dead) is k t of = of_aborted c k t of.0 (has_in c k t phase.OpenOutcome is of)

-- ---- all clients
abbrev pub OwnedOn : List Client → List Client → Type 0
OwnedOn old new = (k t : ℕ) → IsOwned old k t → IsOwned new k t

pub owned_same : (clients : List Client) → OwnedOn clients clients
owned_same clients k t o = o

-- one client changed
pub owned_at : (clients : List Client) (s : ℕ) (old new : Client) (k t : ℕ) → ClientAt clients s old → (Has old k t → Has new k t) → IsOwned clients k t → IsOwned (slice_set clients s new) k t
owned_at clients s old new k t at keeps o = elim (cases_eq o.session s) [
  | inl same ↦
      let mine : o.client ≡ old = one_client clients s o.client old (subst (λ (r : ℕ). ClientAt clients r o.client) same o.at) at in
      record { session = s; client = new; at = set_found clients s new old at; its = keeps (subst (λ (c : Client). Has c k t) mine o.its) }
  | inr other ↦ record { session = o.session; client = o.client; at = set_other clients s o.session new other ∙ o.at; its = o.its }
]

pub owned_set : (clients : List Client) (s : ℕ) (old new : Client) → ClientAt clients s old → HasOn old new → OwnedOn clients (slice_set clients s new)
owned_set clients s old new at keeps k t o = owned_at clients s old new k t at (keeps k t) o

-- a crash
lost_at : (requests : List (Option Held)) (clients : List Client) (s : ℕ) (c : Client) → ClientAt clients s c → (new : Client) × ClientAt (crashed_clients requests clients) s new × ((new ≡ c) ⊎ ((held : Held) × (slice_index_or requests s None ≡ Some held) × (new ≡ after_loss held.request c)))
unfolding crashed_clients
lost_at [] clients s c at = (c, at, inl refl)
lost_at (held ∷ others) [] s c at = absurd (cc)
lost_at (None ∷ others) (d ∷ clients) zero c at = (d, refl, inl (same_Some d c at))
lost_at (Some held ∷ others) (d ∷ clients) zero c at = (after_loss held.request d, refl, inr (held, refl, ap (λ (x : Client). after_loss held.request x) (same_Some d c at)))
lost_at (held ∷ others) (d ∷ clients) (suc s) c at = lost_at others clients s c at

pub owned_crashed : (requests : List (Option Held)) (clients : List Client) → ((s : ℕ) (c : Client) (held : Held) → ClientAt clients s c → slice_index_or requests s None ≡ Some held → WaitsFor held.request c) → OwnedOn clients (crashed_clients requests clients)
owned_crashed requests clients waits k t o =
    let now = lost_at requests clients o.session o.client o.at in
    record {
      session = o.session;
      client = now.0;
      at = now.1;
      its = elim now.2 [
        | inl same ↦ subst (λ (c : Client). Has c k t) (sym same) o.its
        | inr lost ↦ subst (λ (c : Client). Has c k t) (sym lost.2) (loss_has lost.0.request o.client (waits o.session o.client lost.0 o.at lost.1) k t o.its)
      ];
    }
