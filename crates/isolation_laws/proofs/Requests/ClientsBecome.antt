-- What becomes of the client of a request that is lost, refused or answered.
use Rattle.isolation_laws.proofs.Names.{◌≡◌, ℕ, true, IsTrue, List, ◌⊎◌, inl, inr, refl, sym, ap, subst, Item}
use Rattle.isolation_laws.proofs.Names.{SessionState, has_transaction, Request, Commit, Settled, Client, client_freed}
use Rattle.isolation_laws.proofs.Names.{client_aborted, client_committed, client_opened, client_handed, unless_gone}
use Rattle.isolation_laws.proofs.Names.{unless_gone_by, after_refusal, after_loss, is_placing, WaitsFor}
use Rattle.isolation_laws.proofs.Names.{answered_client}
use Rattle.system_parts.specs.declared.session.State.TheVariants as phase
use Rattle.system_parts.specs.declared.instance.Request.TheVariants.{Begin}
use Rattle.system_parts.specs.declared.instance.Settled.TheVariants as how
use Rattle.isolation_laws.proofs.Requests.ClientsOpen.{gone_cases}
use Rattle.isolation_laws.proofs.Requests.ClientsAfter.{KeepsStart, has_by, placing_has, aborted_keeps, committed_keeps, opened_keeps, freed_keeps, KeysClient, keys_aborted, keys_freed, keys_committed, keys_opened, keys_handed}

-- ---- the client of a request that is lost, refused or answered
-- what a client becomes keeps its start, and its list stands for it
pub record Becomes (h : List Item) (s : ℕ) (old new : Client) : Type 0 where
  pub begun : KeepsStart old new
  pub keys : KeysClient h new

committing_has : (c : Client) → c.entry.state ≡ phase.Committing → IsTrue (has_transaction c.entry.state)
committing_has c is = has_by c.entry.state phase.Committing is refl

pub becomes_same : (h : List Item) (s : ℕ) (old new : Client) → new ≡ old → KeysClient h old → Becomes h s old new
becomes_same h s old new same keys = record {
  begun = λ has. (subst (λ (x : Client). IsTrue (has_transaction x.entry.state)) same has, ap (λ x. x.entry.start) same);
  keys = subst (λ (x : Client). KeysClient h x) (sym same) keys;
}

is_gone : (state : SessionState) → (state ≡ phase.Gone) ⊎ (state ≡ phase.Gone → ⊥)
is_gone phase.Gone = inl refl
is_gone _ = inr (λ is. cc)

pub stays_gone : (old new : Client) → old.entry.state ≡ phase.Gone → unless_gone old new ≡ old
stays_gone old new gone = ap (λ state. unless_gone_by state old new) gone

unless_becomes : (h : List Item) (s : ℕ) (old new : Client) → KeysClient h old → (((old.entry.state ≡ phase.Gone) → ⊥) → Becomes h s old new) → Becomes h s old (unless_gone old new)
unless_becomes h s old new keys becomes = elim (gone_cases old new) [
  | inl stays ↦ becomes_same h s old (unless_gone old new) stays.0 keys
  | inr moves ↦ elim (is_gone old.entry.state) [
    | inl gone ↦ becomes_same h s old (unless_gone old new) (stays_gone old new gone) keys
    | inr here ↦ subst (λ (x : Client). Becomes h s old x) (sym moves) (becomes here)
  ]
]

pub loss_becomes : (h : List Item) (s : ℕ) (request : Request) (c : Client) → KeysClient h c → WaitsFor request c → Becomes h s c (after_loss request c)
loss_becomes h s (Begin r) c keys waits = unless_becomes h s c (client_freed c) keys (λ here. record { begun = freed_keeps c; keys = keys_freed h c })
loss_becomes h s (Commit r t ks) c keys waits = unless_becomes h s c (client_opened c) keys (λ here. elim waits [
  | inl gone ↦ absurd (here gone)
  | inr asked ↦ record { begun = opened_keeps c (committing_has c asked.0); keys = keys_opened h c (inl asked.0) keys }
])

pub refusal_becomes : (h : List Item) (s : ℕ) (request : Request) (c : Client) → KeysClient h c → WaitsFor request c → Becomes h s c (after_refusal request c)
refusal_becomes h s (Begin r) c keys waits = unless_becomes h s c (client_freed c) keys (λ here. record { begun = freed_keeps c; keys = keys_freed h c })
refusal_becomes h s (Commit r t ks) c keys waits = unless_becomes h s c (client_aborted c) keys (λ here. elim waits [
  | inl gone ↦ absurd (here gone)
  | inr asked ↦ record { begun = aborted_keeps c (committing_has c asked.0); keys = keys_aborted h c }
])

pub answer_becomes : (h : List Item) (s r t commit : ℕ) (ks : List ℕ) (by : Settled) (c : Client) → KeysClient h c → WaitsFor (Commit r t ks) c → Becomes h s c (unless_gone c (answered_client by c commit))
answer_becomes h s r t commit ks how.Placed c keys waits = unless_becomes h s c (client_committed c commit) keys (λ here. elim waits [
  | inl gone ↦ absurd (here gone)
  | inr asked ↦ record { begun = committed_keeps c commit (committing_has c asked.0); keys = keys_committed h c commit }
])
answer_becomes h s r t commit ks how.Invalid c keys waits = unless_becomes h s c (client_aborted c) keys (λ here. elim waits [
  | inl gone ↦ absurd (here gone)
  | inr asked ↦ record { begun = aborted_keeps c (committing_has c asked.0); keys = keys_aborted h c }
])
answer_becomes h s r t commit ks how.Faulted c keys waits = unless_becomes h s c (client_opened c) keys (λ here. elim waits [
  | inl gone ↦ absurd (here gone)
  | inr asked ↦ record { begun = opened_keeps c (committing_has c asked.0); keys = keys_opened h c (inl asked.0) keys }
])

pub handed_becomes : (h : List Item) (s r t commit : ℕ) (ks : List ℕ) (c : Client) → KeysClient h c → WaitsFor (Commit r t ks) c → Becomes h s c (unless_gone c (client_handed c commit))
handed_becomes h s r t commit ks c keys waits = unless_becomes h s c (client_handed c commit) keys (λ here. elim waits [
  | inl gone ↦ absurd (here gone)
  | inr asked ↦ record { begun = λ has. (committing_has c asked.0, refl); keys = keys_handed h c commit (inl asked.0) keys }
])

-- and of a session that was placing its commit
pub placing_becomes : (h : List Item) (s commit : ℕ) (by : Settled) (c : Client) → is_placing c.entry.state ≡ true → KeysClient h c → Becomes h s c (answered_client by c commit)
placing_becomes h s commit how.Placed c placing keys = record { begun = committed_keeps c commit (placing_has c.entry.state placing); keys = keys_committed h c commit }
placing_becomes h s commit how.Invalid c placing keys = record { begun = aborted_keeps c (placing_has c.entry.state placing); keys = keys_aborted h c }
placing_becomes h s commit how.Faulted c placing keys = record { begun = opened_keeps c (placing_has c.entry.state placing); keys = keys_opened h c (inr (inr placing)) keys }
