-- No client is gone, or places a commit, that did not so before, but by its vanishing and by a commit that is handed to it.
use Rattle.cause_laws.proofs.Names.{◌≡◌, ℕ, refl, Phase, SessionEntry, ReadTurn, Asks, Answers, Client, client_begun}
use Rattle.cause_laws.proofs.Names.{unless_gone, unless_gone_by, client_read}
use Rattle.system_parts.specs.declared.session.State.TheVariants as phase

abbrev pub IsGone : Client → Type 0
IsGone c = c.entry.state ≡ phase.Gone

abbrev pub IsPlacing : Client → Type 0
IsPlacing c = c.entry.state ≡ phase.Placing

-- a session is gone only where it was before, and places a commit only where it has the entry that it had
pub record AsBefore (old new : SessionEntry) : Type 0 where
  pub gone : new.state ≡ phase.Gone → old.state ≡ phase.Gone
  pub placing : new.state ≡ phase.Placing → old ≡ new

pub same_before : (e : SessionEntry) → AsBefore e e
same_before e = record { gone = λ gone. gone; placing = λ placing. refl }

-- it is neither
pub neither : (old new : SessionEntry) → (new.state ≡ phase.Gone → ⊥) → (new.state ≡ phase.Placing → ⊥) → AsBefore old new
neither old new not_gone not_placing = record { gone = λ gone. absurd (not_gone gone); placing = λ placing. absurd (not_placing placing) }

-- ---- what is made of a client
pub begun_before : (old : SessionEntry) (c : Client) (start epoch : ℕ) → AsBefore old (client_begun c start epoch).entry
begun_before old c start epoch = neither old (client_begun c start epoch).entry (λ is. cc) (λ is. cc)

-- an answer that nobody hears, or somebody who is there
heard_by : (state : Phase) (old new : Client) → AsBefore old.entry new.entry → AsBefore old.entry (unless_gone_by state old new).entry
heard_by phase.Gone old new before = same_before old.entry
heard_by _ old new before = before

pub heard : (old new : Client) → AsBefore old.entry new.entry → AsBefore old.entry (unless_gone old new).entry
heard old new before = heard_by old.entry.state old new before

pub read_before : (c : Client) (turn : ReadTurn) → AsBefore c.entry (client_read c turn).entry
read_before c (Asks r) = same_before c.entry
read_before c (Answers a) = same_before c.entry
