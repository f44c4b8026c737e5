-- For request_completion too.
-- Sessions with their transactions, and their write lists, where one client changes or more items stand.
use Rattle.isolation_laws.proofs.Names.{◌≡◌, ◌≢◌, ℕ, Bool, true, false, IsTrue, List, [], ◌∷◌, ◌++◌, Some, ◌⊎◌, inl}
use Rattle.isolation_laws.proofs.Names.{inr, refl, sym, ◌∙◌, ap, subst, slice_set, eq-eqb, ne_eqb, ◌∈◌, Item, Begin}
use Rattle.isolation_laws.proofs.Names.{Write, in_front, Ask, SessionState, SessionEntry, key_added, has_transaction}
use Rattle.isolation_laws.proofs.Names.{aborted_by, Settling, SettleTurn, Goes, Decides, Client, client_freed}
use Rattle.isolation_laws.proofs.Names.{client_aborted, client_committed, client_opened, client_handed, client_settled}
use Rattle.isolation_laws.proofs.Names.{after_asks, ClientAt, Begun, keys_with, keys_from, written_keys, is_placing}
use Rattle.isolation_laws.proofs.Names.{HaveBegun, HasAsked, AreKeys, client_set}
use Rattle.system_parts.specs.declared.resolve.Outcome.TheVariants as outcome
use Rattle.system_parts.specs.declared.session.State.TheVariants as phase
use Rattle.isolation_laws.proofs.Pushed.{written_keys-push}

-- ---- transactions of sessions
abbrev pub BegunClient : List Item → ℕ → Client → Type 0
BegunClient h s c = IsTrue (has_transaction c.entry.state) → (t : ℕ) × (c.entry.start ≡ Some t) × Begun h s t

pub begun_set : (clients : List Client) (h : List Item) (s : ℕ) (c : Client) → BegunClient h s c → HaveBegun clients h → HaveBegun (slice_set clients s c) h
begun_set clients h s c new have = record {
  begun = λ r d at has. elim (client_set clients s r c d at) [
    | inl here ↦ subst (λ (q : ℕ). (t : ℕ) × (d.entry.start ≡ Some t) × Begun h q t) (sym here.0) (subst (λ (x : Client). BegunClient h s x) (sym here.1) new has)
    | inr there ↦ have.begun r d there.1 has
  ];
}

pub have_on : (clients : List Client) (h items : List Item) → HaveBegun clients h → HaveBegun clients (h ++ items)
have_on clients h items have = record {
  begun = λ s c at has. let was = have.begun s c at has in (was.0, was.1, in_front (Begin s was.0) h items was.2);
}

-- the client has a transaction only where it had the same
abbrev pub KeepsStart : Client → Client → Type 0
KeepsStart old new = IsTrue (has_transaction new.entry.state) → IsTrue (has_transaction old.entry.state) × (new.entry.start ≡ old.entry.start)

pub begun_kept : (clients : List Client) (h : List Item) (s : ℕ) (old new : Client) → ClientAt clients s old → KeepsStart old new → HaveBegun clients h → HaveBegun (slice_set clients s new) h
begun_kept clients h s old new at keeps have = begun_set clients h s new (λ has.
    let was = keeps has in
    let begun = have.begun s old at was.0 in
    (begun.0, was.1 ∙ begun.1, begun.2)) have

pub has_none : (state : SessionState) → state ≡ phase.Free ⊎ ((state ≡ phase.Asking) ⊎ (state ≡ phase.Gone)) → IsTrue (has_transaction state) → ⊥
has_none state (inl is) has = let none : IsTrue false = subst (λ s. IsTrue (has_transaction s)) is has in cc
has_none state (inr (inl is)) has = let none : IsTrue false = subst (λ s. IsTrue (has_transaction s)) is has in cc
has_none state (inr (inr is)) has = let none : IsTrue false = subst (λ s. IsTrue (has_transaction s)) is has in cc

pub has_by : (old state : SessionState) → old ≡ state → IsTrue (has_transaction state) → IsTrue (has_transaction old)
has_by old state is has = subst (λ s. IsTrue (has_transaction s)) (sym is) has

-- a session that places its commit has one
pub placing_has : (state : SessionState) → is_placing state ≡ true → IsTrue (has_transaction state)
placing_has phase.Placing is = refl
placing_has _ is = absurd (cc)

aborted_keeps_by : (e : SessionEntry) (keys : List ℕ) → IsTrue (has_transaction e.state) → IsTrue (has_transaction (aborted_by e keys).state) → IsTrue (has_transaction e.state) × ((aborted_by e keys).start ≡ e.start)
aborted_keeps_by e [] had has = absurd (has_none phase.Free (inl refl) has)
aborted_keeps_by e (key ∷ keys) had has = (had, refl)

-- where it had a transaction: it ends, its commit is known, its outcome is open
pub aborted_keeps : (c : Client) → IsTrue (has_transaction c.entry.state) → KeepsStart c (client_aborted c)
aborted_keeps c had has = aborted_keeps_by c.entry c.entry.keys had has

pub committed_keeps : (c : Client) (commit : ℕ) → IsTrue (has_transaction c.entry.state) → KeepsStart c (client_committed c commit)
committed_keeps c commit had has = (had, refl)

pub opened_keeps : (c : Client) → IsTrue (has_transaction c.entry.state) → KeepsStart c (client_opened c)
opened_keeps c had has = (had, refl)

pub freed_keeps : (c : Client) → KeepsStart c (client_freed c)
freed_keeps c has = absurd (has_none phase.Free (inl refl) has)

pub settled_keeps : (c : Client) (x : Settling) (turn : SettleTurn) → IsTrue (has_transaction c.entry.state) → KeepsStart c (client_settled c x turn)
settled_keeps c x (Goes point) had has = (had, refl)
settled_keeps c x (Decides (outcome.Committed commit by_table)) had has = committed_keeps c commit had has
settled_keeps c x (Decides outcome.Dead) had has = aborted_keeps c had has

pub asks_keep : (c : Client) (asks : List Ask) → KeepsStart c (after_asks c asks)
asks_keep c [] has = freed_keeps c has
asks_keep c (asked ∷ asks) has = (has, refl)

-- ---- write lists
-- the client's write list, where it stands for its transaction
pub record KeysClient (h : List Item) (c : Client) : Type 0 where
  pub written : (t : ℕ) → (c.entry.state ≡ phase.Open) ⊎ HasAsked c.entry.state → c.entry.start ≡ Some t → c.entry.keys ≡ written_keys h t
  pub some : HasAsked c.entry.state → c.entry.keys ≢ []

pub keys_client : (clients : List Client) (h : List Item) (s : ℕ) (c : Client) → AreKeys clients h → ClientAt clients s c → KeysClient h c
keys_client clients h s c keys at = record { written = λ t is start. keys.written s t c at is start; some = λ asked. keys.some s c at asked }

pub keys_set : (clients : List Client) (h : List Item) (s : ℕ) (c : Client) → KeysClient h c → AreKeys clients h → AreKeys (slice_set clients s c) h
keys_set clients h s c new keys = record {
  written = λ r t d at is start. elim (client_set clients s r c d at) [
    | inl here ↦ (subst (λ (x : Client). KeysClient h x) (sym here.1) new).written t is start
    | inr there ↦ keys.written r t d there.1 is start
  ];
  some = λ r d at asked. elim (client_set clients s r c d at) [
    | inl here ↦ (subst (λ (x : Client). KeysClient h x) (sym here.1) new).some asked
    | inr there ↦ keys.some r d there.1 asked
  ];
}

-- a state in which the list stands for nothing
abbrev pub IsClosed : SessionState → Type 0
IsClosed state = ((state ≡ phase.Open) ⊎ HasAsked state) → ⊥

pub keys_closed : (h : List Item) (c : Client) → IsClosed c.entry.state → KeysClient h c
keys_closed h c closed = record { written = λ t is start. absurd (closed is); some = λ asked. absurd (closed (inr asked)) }

pub free_closed : IsClosed phase.Free
free_closed (inl is) = cc
free_closed (inr (inl is)) = cc
free_closed (inr (inr (inl is))) = cc
free_closed (inr (inr (inr is))) = cc

pub asking_closed : IsClosed phase.Asking
asking_closed (inl is) = cc
asking_closed (inr (inl is)) = cc
asking_closed (inr (inr (inl is))) = cc
asking_closed (inr (inr (inr is))) = cc

pub gone_closed : IsClosed phase.Gone
gone_closed (inl is) = cc
gone_closed (inr (inl is)) = cc
gone_closed (inr (inr (inl is))) = cc
gone_closed (inr (inr (inr is))) = cc

pub completing_closed : (undo : Bool) → IsClosed (phase.Completing undo)
completing_closed undo (inl is) = cc
completing_closed undo (inr (inl is)) = cc
completing_closed undo (inr (inr (inl is))) = cc
completing_closed undo (inr (inr (inr is))) = cc

aborted_closed_by : (e : SessionEntry) (keys : List ℕ) → IsClosed (aborted_by e keys).state
aborted_closed_by e [] is = free_closed is
aborted_closed_by e (key ∷ keys) is = completing_closed true is

pub keys_aborted : (h : List Item) (c : Client) → KeysClient h (client_aborted c)
keys_aborted h c = keys_closed h (client_aborted c) (aborted_closed_by c.entry c.entry.keys)

pub keys_freed : (h : List Item) (c : Client) → KeysClient h (client_freed c)
keys_freed h c = keys_closed h (client_freed c) free_closed

pub keys_committed : (h : List Item) (c : Client) (commit : ℕ) → KeysClient h (client_committed c commit)
keys_committed h c commit = keys_closed h (client_committed c commit) (completing_closed false)

-- a session that has asked keeps its list where its outcome is open
pub keys_opened : (h : List Item) (c : Client) → HasAsked c.entry.state → KeysClient h c → KeysClient h (client_opened c)
keys_opened h c asked keys = record {
  written = λ t is start. keys.written t (inr asked) start;
  some = λ is. keys.some asked;
}

-- and where it is to place its commit
pub keys_handed : (h : List Item) (c : Client) (commit : ℕ) → HasAsked c.entry.state → KeysClient h c → KeysClient h (client_handed c commit)
keys_handed h c commit asked keys = record {
  written = λ t is start. keys.written t (inr asked) start;
  some = λ is. keys.some asked;
}

pub keys_settled : (h : List Item) (c : Client) (x : Settling) (turn : SettleTurn) → KeysClient h c → KeysClient h (client_settled c x turn)
keys_settled h c x (Goes point) keys = record { written = keys.written; some = keys.some }
keys_settled h c x (Decides (outcome.Committed commit by_table)) keys = keys_committed h c commit
keys_settled h c x (Decides outcome.Dead) keys = keys_aborted h c

pub keys_asks : (h : List Item) (c : Client) (asks : List Ask) → KeysClient h c → KeysClient h (after_asks c asks)
keys_asks h c [] keys = keys_freed h c
keys_asks h c (asked ∷ asks) keys = record { written = keys.written; some = keys.some }

-- ---- a write: the list of its own transaction gets the key, and no other list changes
pub keys_with_own : (keys : List ℕ) (s t k : ℕ) (value : List ℕ) → keys_with keys t (Write s t k value) ≡ key_added keys k
keys_with_own keys s t k value = rw (eq-eqb t t refl) refl

pub keys_with_other : (keys : List ℕ) (s t u k : ℕ) (value : List ℕ) → t ≢ u → keys_with keys u (Write s t k value) ≡ keys
keys_with_other keys s t u k value other = rw (ne_eqb t u other) refl

pub written_keys-own : (h : List Item) (s t k : ℕ) (value : List ℕ) → written_keys (h ++ Write s t k value ∷ []) t ≡ key_added (written_keys h t) k
written_keys-own h s t k value = written_keys-push h (Write s t k value) t ∙ keys_with_own (written_keys h t) s t k value

pub written_keys-other : (h : List Item) (s t u k : ℕ) (value : List ℕ) → t ≢ u → written_keys (h ++ Write s t k value ∷ []) u ≡ written_keys h u
written_keys-other h s t u k value other = written_keys-push h (Write s t k value) u ∙ keys_with_other (written_keys h u) s t u k value other

-- an item that is no write changes no list
pub written_keys-no_write : (h : List Item) (x : Item) (t : ℕ) → ((s u k : ℕ) (value : List ℕ) → x ≡ Write s u k value → ⊥) → written_keys (h ++ x ∷ []) t ≡ written_keys h t
written_keys-no_write h (Write s u k value) t other = absurd (other s u k value refl)
written_keys-no_write h x t other = written_keys-push h x t

adds_none : (t : ℕ) (keys : List ℕ) (x : Item) → ((s k : ℕ) (value : List ℕ) → x ≡ Write s t k value → ⊥) → keys_with keys t x ≡ keys
adds_none t keys (Write s u k value) other = keys_with_other keys s u t k value (λ same. other s k value (ap (λ q. Write s q k value) same))
adds_none t keys _ other = refl

keys_from-none : (t : ℕ) (keys : List ℕ) (h : List Item) → ((s k : ℕ) (value : List ℕ) → Write s t k value ∈ h → ⊥) → keys_from keys t h ≡ keys
unfolding keys_from ◌∈◌
keys_from-none t keys [] none = refl
keys_from-none t keys (x ∷ xs) none = ap (λ ks. keys_from ks t xs) (adds_none t keys x (λ s k value is. none s k value (inl (sym is)))) ∙ keys_from-none t keys xs (λ s k value m. none s k value (inr m))

-- what has no write has no keys
pub written_keys-none : (t : ℕ) (h : List Item) → ((s k : ℕ) (value : List ℕ) → Write s t k value ∈ h → ⊥) → written_keys h t ≡ []
written_keys-none t h none = keys_from-none t [] h none
