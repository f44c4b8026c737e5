-- For cause_laws and request_completion too.
-- What clients become when they have no transaction open and none to place, or as before.
use Rattle.isolation_laws.proofs.Names.{[], ◌≡◌, ℕ, Bool, true, false, List, ◌∷◌, ◌⊎◌, inl, inr, refl, sym, ◌∙◌, ap}
use Rattle.isolation_laws.proofs.Names.{subst, slice_set, SessionState, SessionEntry, aborted_by, ReadTurn, Asks}
use Rattle.isolation_laws.proofs.Names.{Answers, Settled, Client, client_aborted, unless_gone, unless_gone_by}
use Rattle.isolation_laws.proofs.Names.{client_read, ClientAt, epoch_or_none, OpenAt, InFlight, is_placing, PlacingAt}
use Rattle.isolation_laws.proofs.Names.{client_set, answered_client}
use Rattle.system_parts.specs.declared.session.State.TheVariants as phase
use Rattle.system_parts.specs.declared.instance.Settled.TheVariants as how

abbrev pub FewerOpen : List Client → List Client → Type 0
FewerOpen old new = (s t e : ℕ) → OpenAt new s t e → OpenAt old s t e

-- each client that is placing a commit had the same entry
abbrev pub FewerPlacing : List Client → List Client → Type 0
FewerPlacing old new = (s : ℕ) (c : Client) → ClientAt new s c → is_placing c.entry.state ≡ true → (d : Client) × ClientAt old s d × (d.entry ≡ c.entry)

pub placing_was : (old new : List Client) (q : InFlight) → FewerPlacing old new → PlacingAt new q → PlacingAt old q
placing_was old new q fewer p =
    let was = fewer q.session p.client p.at p.state_is in
    record {
      client = was.0;
      at = was.1;
      state_is = ap (λ e. is_placing e.state) was.2 ∙ p.state_is;
      start_is = ap (λ e. e.start) was.2 ∙ p.start_is;
      keys_are = ap (λ e. e.keys) was.2 ∙ p.keys_are;
      commit_of = p.commit_of;
      commit_is = ap (λ e. e.commit) was.2 ∙ p.commit_is;
      stage_is = p.stage_is;
    }

-- both
pub record FewerAtWork (old new : List Client) : Type 0 where
  pub opened : FewerOpen old new
  pub placing : FewerPlacing old new

-- ---- one client changes
-- the client is not open, or was open with the same transaction
abbrev pub OpensNothing : Client → Client → Type 0
OpensNothing old new = (new.entry.state ≡ phase.Open → ⊥) ⊎ ((new.entry.state ≡ old.entry.state) × (new.entry.start ≡ old.entry.start) × (new.entry.epoch ≡ old.entry.epoch))

pub fewer_open_set : (clients : List Client) (s : ℕ) (old new : Client) → ClientAt clients s old → OpensNothing old new → FewerOpen clients (slice_set clients s new)
fewer_open_set clients s old new at (inl closed) r t e o = elim (client_set clients s r new o.client o.at) [
  | inl here ↦ absurd (closed (ap (λ c. c.entry.state) (sym here.1) ∙ o.state_is))
  | inr there ↦ record { client = o.client; at = there.1; state_is = o.state_is; start_is = o.start_is; epoch_is = o.epoch_is }
]
fewer_open_set clients s old new at (inr same) r t e o = elim (client_set clients s r new o.client o.at) [
  | inl here ↦ record {
    client = old;
    at = subst (λ q. ClientAt clients q old) (sym here.0) at;
    state_is = sym same.0 ∙ (ap (λ c. c.entry.state) (sym here.1) ∙ o.state_is);
    start_is = sym same.1 ∙ (ap (λ c. c.entry.start) (sym here.1) ∙ o.start_is);
    epoch_is = ap epoch_or_none (sym same.2 ∙ ap (λ c. c.entry.epoch) (sym here.1)) ∙ o.epoch_is;
  }
  | inr there ↦ record { client = o.client; at = there.1; state_is = o.state_is; start_is = o.start_is; epoch_is = o.epoch_is }
]

-- the client is not placing, or has the entry that it had
abbrev pub PlacesNothing : Client → Client → Type 0
PlacesNothing old new = (is_placing new.entry.state ≡ true → ⊥) ⊎ (old.entry ≡ new.entry)

pub fewer_placing_set : (clients : List Client) (s : ℕ) (old new : Client) → ClientAt clients s old → PlacesNothing old new → FewerPlacing clients (slice_set clients s new)
fewer_placing_set clients s old new at (inl idle) r c there placing = elim (client_set clients s r new c there) [
  | inl here ↦ absurd (idle (ap (λ x. is_placing x.entry.state) (sym here.1) ∙ placing))
  | inr other ↦ (c, other.1, refl)
]
fewer_placing_set clients s old new at (inr same) r c there placing = elim (client_set clients s r new c there) [
  | inl here ↦ (old, subst (λ q. ClientAt clients q old) (sym here.0) at, same ∙ ap (λ x. x.entry) (sym here.1))
  | inr other ↦ (c, other.1, refl)
]

-- a state with no transaction open and none to place
pub record IsAtRest (state : SessionState) : Type 0 where
  pub not_open : state ≡ phase.Open → ⊥
  pub not_placing : is_placing state ≡ true → ⊥

-- the client is in such a state, or has the entry that it had
abbrev pub WorksNoMore : Client → Client → Type 0
WorksNoMore old new = IsAtRest new.entry.state ⊎ (old.entry ≡ new.entry)

pub fewer_set : (clients : List Client) (s : ℕ) (old new : Client) → ClientAt clients s old → WorksNoMore old new → FewerAtWork clients (slice_set clients s new)
fewer_set clients s old new at (inl rests) = record {
  opened = fewer_open_set clients s old new at (inl rests.not_open);
  placing = fewer_placing_set clients s old new at (inl rests.not_placing);
}
fewer_set clients s old new at (inr same) = record {
  opened = fewer_open_set clients s old new at (inr (ap (λ e. e.state) (sym same), ap (λ e. e.start) (sym same), ap (λ e. e.epoch) (sym same)));
  placing = fewer_placing_set clients s old new at (inr same);
}

pub same_at_work : (clients : List Client) → FewerAtWork clients clients
same_at_work clients = record { opened = λ s t e o. o; placing = λ s c at placing. (c, at, refl) }

-- ---- what clients become
pub rests_as : (old state : SessionState) → old ≡ state → IsAtRest state → IsAtRest old
rests_as old state is rests = subst IsAtRest (sym is) rests

pub free_rests : IsAtRest phase.Free
free_rests = record { not_open = λ is. cc; not_placing = λ is. cc }

pub asking_rests : IsAtRest phase.Asking
asking_rests = record { not_open = λ is. cc; not_placing = λ is. cc }

pub committing_rests : IsAtRest phase.Committing
committing_rests = record { not_open = λ is. cc; not_placing = λ is. cc }

pub outcome_rests : IsAtRest phase.OpenOutcome
outcome_rests = record { not_open = λ is. cc; not_placing = λ is. cc }

pub completing_rests : (undo : Bool) → IsAtRest (phase.Completing undo)
completing_rests undo = record { not_open = λ is. cc; not_placing = λ is. cc }

pub gone_rests : IsAtRest phase.Gone
gone_rests = record { not_open = λ is. cc; not_placing = λ is. cc }

pub open_not_placing : is_placing phase.Open ≡ true → ⊥
open_not_placing is = cc

aborted_rests_by : (e : SessionEntry) (keys : List ℕ) → IsAtRest (aborted_by e keys).state
aborted_rests_by e [] = free_rests
aborted_rests_by e (key ∷ keys) = completing_rests true

pub aborted_rests : (c : Client) → IsAtRest (client_aborted c).entry.state
aborted_rests c = aborted_rests_by c.entry c.entry.keys

-- a client that has vanished stays as it is, and any other is what it becomes
pub unless_gone_cases : (old new : Client) (state : SessionState) → ((unless_gone_by state old new ≡ old) × (state ≡ phase.Gone)) ⊎ (unless_gone_by state old new ≡ new)
unless_gone_cases old new phase.Gone = inl (refl, refl)
unless_gone_cases old new _ = inr refl

pub gone_cases : (old new : Client) → ((unless_gone old new ≡ old) × (old.entry.state ≡ phase.Gone)) ⊎ (unless_gone old new ≡ new)
gone_cases old new = unless_gone_cases old new old.entry.state

pub answered_rests : (by : Settled) (c : Client) (commit : ℕ) → IsAtRest (answered_client by c commit).entry.state
answered_rests how.Placed c commit = completing_rests false
answered_rests how.Invalid c commit = aborted_rests c
answered_rests how.Faulted c commit = outcome_rests

pub read_keeps_entry : (c : Client) (turn : ReadTurn) → (client_read c turn).entry ≡ c.entry
read_keeps_entry c (Asks r) = refl
read_keeps_entry c (Answers a) = refl

pub read_rests : (c : Client) (turn : ReadTurn) → WorksNoMore c (client_read c turn)
read_rests c turn = inr (sym (read_keeps_entry c turn))
