-- Every outcome keeps that a transaction whose commit was asked for is open nowhere, and writes no further key.
use Rattle.request_completion.proofs.Names.{◌≡◌, ℕ, List, [], ◌∷◌, ◌++◌, Some, inl, inr, refl, sym, ◌∙◌, ap, subst}
use Rattle.request_completion.proofs.Names.{append-nil, ◌∈◌, Item, in_front, asked_state, Client, State, client_asked}
use Rattle.request_completion.proofs.Names.{written_keys, IsolationInvariant, IsOpen, ClientAt, epoch_or_none, OpenAt}
use Rattle.request_completion.proofs.Names.{Begun, client_set, begun_once, AskedCommit, asked_commit_state, Outcome}
use Rattle.request_completion.proofs.Names.{OfAskedBegin, OfAskedCommit, OfAnsweredBegin, OfWrote, left_by}
use Rattle.request_completion.proofs.Names.{told_by_outcome, in_append, written_keys-push, written_keys-other}
use Rattle.request_completion.proofs.Names.{open_answered_begin, fewer_is_open, AreClosed}
use Rattle.history_book.specs.declared.item.Item.TheVariants as item
use Rattle.system_parts.specs.declared.session.State.TheVariants as phase
use Rattle.isolation_laws.proofs.Holding.LeftAlone as left
use Rattle.isolation_laws.proofs.Numbers.NumbersKept.{open_begun}
use Rattle.isolation_laws.proofs.Requests.ClientMoves.{at_work_after}
use Rattle.isolation_laws.proofs.Requests.RequestsOfBegins.{start_unbegun}
use Rattle.isolation_laws.proofs.Requests.RequestsOfWrites.{wrote_open}
use Rattle.request_completion.proofs.OwingItems.{only_is}
use Rattle.request_completion.proofs.OwingOutcomes.{among}
use Rattle.request_completion.proofs.AskItems.{Asking, Nobody, ForBegin, ForCommit, asking, plain_asks}
use Rattle.request_completion.proofs.AskTurns.{commit_not, commit_same, begin_commits_not}
use Rattle.request_completion.proofs.Splits.{Stood, Before, Among, stood, stands_in, alone}

-- ---- a transaction that was begun is open only where it was
open_kept : (w : State) (h : List Item) (o : Outcome w) (s t : ℕ) → IsolationInvariant w h → Begun h s t → IsOpen (left_by w o).clients t → IsOpen w.clients t
open_kept w h (OfAnsweredBegin k) s t holds begun now = elim (open_answered_begin w k now.session t now.epoch now.open_at) [
  | inl old ↦ record { session = now.session; epoch = now.epoch; open_at = old }
  | inr here ↦ absurd (start_unbegun w h k s holds (subst (Begun h s) here.1 begun))
]
open_kept w h o s t holds begun now = fewer_is_open w.clients _ t ((left.alone w h o holds).clients.opened refl) now

-- ---- one that is not open writes nothing
pub written_stays : (w : State) (h : List Item) (o : Outcome w) (t : ℕ) → IsolationInvariant w h → (IsOpen w.clients t → ⊥) → written_keys (h ++ told_by_outcome w o) t ≡ written_keys h t
written_stays w h (OfWrote k) t holds none = written_keys-other h k.it.session k.start t k.key k.value (λ same. none (record {
  session = k.it.session;
  epoch = epoch_or_none k.it.c.entry.epoch;
  open_at = subst (λ (u : ℕ). OpenAt w.clients k.it.session u (epoch_or_none k.it.c.entry.epoch)) same (wrote_open w k);
}))
written_stays w h o t holds none = (left.alone w h o holds).items.writes refl t

-- ---- a commit is asked for
-- the session's transaction was open, and the ask is told alone
pub record AsksNow (w : State) (s t : ℕ) (x : Item) (items : List Item) : Type 0 where
  pub client : Client
  pub at : ClientAt w.clients s client
  pub is_open : client.entry.state ≡ phase.Open
  pub start_is : client.entry.start ≡ Some t
  pub told : items ≡ x ∷ []

asks_by : (w : State) (s n t : ℕ) (items : List Item) → Asking w s items → item.AskCommit s n t ∈ items → AsksNow w s t (item.AskCommit s n t) items
asks_by w s n t items (Nobody none) m = absurd (commit_not s n t items none m)
asks_by w s n t items (ForBegin c node at free is) m = absurd (begin_commits_not s n t s node (only_is _ _ (among _ items (item.AskBegin s node ∷ []) is m)))
asks_by w s n t items (ForCommit c node start at is_open start_is is) m =
    let same : (s ≡ s) × (node ≡ n) × (start ≡ t) = commit_same s n t s node start (only_is _ _ (among _ items (item.AskCommit s node start ∷ []) is m)) in
    record {
      client = c;
      at = at;
      is_open = is_open;
      start_is = start_is ∙ ap Some same.2;
      told = is ∙ (ap (λ (q : ℕ). item.AskCommit s q start ∷ []) same.1 ∙ ap (λ (q : ℕ). item.AskCommit s n q ∷ []) same.2);
    }

asked_begun : (w : State) (h : List Item) (o : Outcome w) (s n t : ℕ) → IsolationInvariant w h → item.AskCommit s n t ∈ told_by_outcome w o → Begun h s t
asked_begun w h o s n t holds m =
    let k = asks_by w s n t (told_by_outcome w o) (asking w o s) m in
    open_begun w.clients h s t k.client holds.requests.have_begun k.at k.is_open k.start_is

-- the client that asked is not open any more
asked_not_open : (w : State) (k : AskedCommit w) (s : ℕ) (d : Client) → s ≡ k.session → ClientAt (asked_commit_state w k).clients s d → d.entry.state ≡ phase.Open → ⊥
asked_not_open w k s d same there is_open = elim (client_set w.clients k.session s (client_asked k.c) d there) [
  | inl here ↦ let clash : phase.Committing ≡ phase.Open = sym (ap (λ (x : Client). x.entry.state) here.1 ∙ ap asked_state k.is_open) ∙ is_open in cc
  | inr other ↦ other.0 same
]

commit_closed : (w : State) (h : List Item) (k : AskedCommit w) (s n t : ℕ) → IsolationInvariant w h → item.AskCommit s n t ∈ k.items → IsOpen (asked_commit_state w k).clients t → ⊥
commit_closed w h k s n t holds m now =
    let same : (k.session ≡ s) × (k.node ≡ n) × (k.start ≡ t) = commit_same s n t k.session k.node k.start (only_is _ _ (among _ k.items (item.AskCommit k.session k.node k.start ∷ []) k.tells m)) in
    let mine : Begun h k.session t = subst (Begun h k.session) same.2 (open_begun w.clients h k.session k.start k.c holds.requests.have_begun k.client_at k.is_open k.start_is) in
    let was : OpenAt w.clients now.session t now.epoch = (at_work_after w (OfAskedCommit k) refl).opened now.session t now.epoch now.open_at in
    let other : Begun h now.session t = open_begun w.clients h now.session t was.client holds.requests.have_begun was.at was.state_is was.start_is in
    asked_not_open w k now.session now.open_at.client (begun_once h now.session k.session t holds.isolated.stamped other mine) now.open_at.at now.open_at.state_is

asked_closed : (w : State) (h : List Item) (o : Outcome w) (s n t : ℕ) → IsolationInvariant w h → item.AskCommit s n t ∈ told_by_outcome w o → IsOpen (left_by w o).clients t → ⊥
asked_closed w h (OfAskedCommit k) s n t holds m now = commit_closed w h k s n t holds m now
asked_closed w h (OfAskedBegin k) s n t holds m now = begin_commits_not s n t k.session k.node (only_is _ _ m)
asked_closed w h o s n t holds m now = commit_not s n t (told_by_outcome w o) (plain_asks w o s refl) m

-- ---- one outcome
keys_by : (w : State) (h : List Item) (o : Outcome w) (before behind : List Item) (s n t : ℕ) → IsolationInvariant w h → AreClosed w.clients h → Stood h (told_by_outcome w o) before behind (item.AskCommit s n t) → written_keys (h ++ told_by_outcome w o) t ≡ written_keys before t
keys_by w h o before behind s n t holds are (Before rest old new) = written_stays w h o t holds (are.closed s n t (stands_in (item.AskCommit s n t) before rest h old)) ∙ are.keys before rest s n t old
keys_by w h o before behind s n t holds are (Among front old new) =
    let x : Item = item.AskCommit s n t in
    let k = asks_by w s n t (told_by_outcome w o) (asking w o s) (stands_in x front behind (told_by_outcome w o) new) in
    let first : front ≡ [] = (alone x x front behind (sym k.told ∙ new)).0 in
    let here : before ≡ h = old ∙ (ap (λ (xs : List Item). h ++ xs) first ∙ append-nil h) in
    ap (λ (xs : List Item). written_keys (h ++ xs) t) k.told ∙ (written_keys-push h x t ∙ ap (λ (xs : List Item). written_keys xs t) (sym here))

pub closed_on : (w : State) (h : List Item) (o : Outcome w) → IsolationInvariant w h → AreClosed w.clients h → AreClosed (left_by w o).clients (h ++ told_by_outcome w o)
closed_on w h o holds are = record {
  begun = λ s n t m. elim (in_append (item.AskCommit s n t) h (told_by_outcome w o) m) [
    | inl old ↦ in_front (item.Begin s t) h (told_by_outcome w o) (are.begun s n t old)
    | inr now ↦ in_front (item.Begin s t) h (told_by_outcome w o) (asked_begun w h o s n t holds now)
  ];
  closed = λ s n t m now. elim (in_append (item.AskCommit s n t) h (told_by_outcome w o) m) [
    | inl old ↦ are.closed s n t old (open_kept w h o s t holds (are.begun s n t old) now)
    | inr here ↦ asked_closed w h o s n t holds here now
  ];
  keys = λ before behind s n t is. keys_by w h o before behind s n t holds are (stood h (told_by_outcome w o) before behind (item.AskCommit s n t) is);
}
