-- For request_completion too.
-- Sessions and requests where a value is written.
use Rattle.isolation_laws.proofs.Names.{[], ◌≡◌, ℕ, IsTrue, List, ◌∷◌, ◌++◌, Some, ◌⊎◌, inl, inr, refl, sym, ◌∙◌, ap}
use Rattle.isolation_laws.proofs.Names.{subst, cases_eq, same_Some, Item, Begin, Draw, Write, in_old, SessionState}
use Rattle.isolation_laws.proofs.Names.{has_transaction, key_added, Client, State, client_wrote, ClientAt}
use Rattle.isolation_laws.proofs.Names.{epoch_or_none, OpenAt, Begun, HasDrawn, written_keys, IsPending, AreKeys}
use Rattle.isolation_laws.proofs.Names.{HasAsked, RequestFacts, IsolationInvariant, client_set, WroteOne, wrote_state}
use Rattle.isolation_laws.proofs.Names.{wrote_items}
use Rattle.system_parts.specs.declared.session.State.TheVariants as phase
use Rattle.isolation_laws.proofs.OnceEach.{begun_once}
use Rattle.isolation_laws.proofs.Owners.{open_not_pending}
use Rattle.isolation_laws.proofs.Requests.OpenAfter.{at_work_wrote}
use Rattle.isolation_laws.proofs.Requests.PendingAfter.{fewer_pending}
use Rattle.isolation_laws.proofs.Requests.PendingFewer.{same_served}
use Rattle.isolation_laws.proofs.Requests.RequestsKept.{form_fewer}
use Rattle.isolation_laws.proofs.Numbers.NumbersKept.{open_begun}
use Rattle.isolation_laws.proofs.Requests.ClientsAfter.{begun_kept, placing_has, have_on, written_keys-own, written_keys-other}
use Rattle.isolation_laws.proofs.Requests.RequestsAfter.{requests_idle, open_waits}
use Rattle.isolation_laws.proofs.Requests.Standing.{standing_same}
use Rattle.isolation_laws.proofs.Requests.CommitsInFlight.{GoesOn, goes_on, pending_fewer, IsSettledNow, IsDrawnNow, settled_fewer, starting_fewer, open_fewer}
use Rattle.isolation_laws.proofs.Requests.RequestsOfBegins.{open_not_asked}
use Rattle.isolation_laws.proofs.Stores.Calm.{write_places_none}

-- ---- a value that is written
wrote_begun : (w : State) (h : List Item) (k : WroteOne w) → IsolationInvariant w h → Begun h k.it.session k.start
wrote_begun w h k holds = open_begun w.clients h k.it.session k.start k.it.c holds.requests.have_begun k.it.client_at k.it.is_open k.start_is

pub wrote_open : (w : State) (k : WroteOne w) → OpenAt w.clients k.it.session k.start (epoch_or_none k.it.c.entry.epoch)
wrote_open w k = record { client = k.it.c; at = k.it.client_at; state_is = k.it.is_open; start_is = k.start_is; epoch_is = refl }

-- no commit in flight is of the transaction that writes
pub wrote_not_pending : (w : State) (h : List Item) (k : WroteOne w) → IsolationInvariant w h → IsPending w.clients w.nodes k.start → ⊥
wrote_not_pending w h k holds p = open_not_pending w.nodes w.clients h k.it.session k.start (epoch_or_none k.it.c.entry.epoch) holds.isolated.stamped holds.requests.requests holds.requests.pending (wrote_begun w h k holds) (wrote_open w k) p

write_no_begin : (h : List Item) (s t k : ℕ) (value : List ℕ) (r u : ℕ) → Begun (h ++ Write s t k value ∷ []) r u → Begun h r u
write_no_begin h s t k value r u m = in_old (Begin r u) (Write s t k value) h (λ is. cc) m

write_no_drawn : (h : List Item) (s t k : ℕ) (value : List ℕ) (u : ℕ) → HasDrawn (h ++ Write s t k value ∷ []) u → HasDrawn h u
write_no_drawn h s t k value u (r, n, term, c, m) = (r, n, term, c, in_old (Draw r n term u (Some c)) (Write s t k value) h (λ is. cc) m)

has_in : (state : SessionState) → (state ≡ phase.Open) ⊎ HasAsked state → IsTrue (has_transaction state)
has_in state (inl is) = subst (λ s. IsTrue (has_transaction s)) (sym is) refl
has_in state (inr (inl is)) = subst (λ s. IsTrue (has_transaction s)) (sym is) refl
has_in state (inr (inr (inl is))) = subst (λ s. IsTrue (has_transaction s)) (sym is) refl
has_in state (inr (inr (inr is))) = placing_has state is

has_begun_so : (w : State) (h : List Item) (s t : ℕ) (c : Client) → IsolationInvariant w h → ClientAt w.clients s c → (c.entry.state ≡ phase.Open) ⊎ HasAsked c.entry.state → c.entry.start ≡ Some t → Begun h s t
has_begun_so w h s t c holds at is start =
    let begun = holds.requests.have_begun.begun s c at (has_in c.entry.state is) in
    subst (Begun h s) (same_Some begun.0 t (sym begun.1 ∙ start)) begun.2

open_not_asked_so : (state : SessionState) → state ≡ phase.Open → HasAsked state → ⊥
open_not_asked_so state is asked = open_not_asked (subst HasAsked is asked)

wrote_keys : (w : State) (h : List Item) (k : WroteOne w) → IsolationInvariant w h → AreKeys (wrote_state w k).clients (h ++ wrote_items w k)
wrote_keys w h k holds =
    let g : List Item = h ++ wrote_items w k in
    record {
      written = λ s t c at is start. elim (client_set w.clients k.it.session s (client_wrote k.it.c k.key) c at) [
        | inl here ↦
            let same : t ≡ k.start = same_Some t k.start (sym start ∙ (ap (λ x. x.entry.start) here.1 ∙ k.start_is)) in
            ap (λ x. x.entry.keys) here.1 ∙ (ap (λ ks. key_added ks k.key) (holds.requests.keys.written k.it.session k.start k.it.c k.it.client_at (inl k.it.is_open) k.start_is)
            ∙ (sym (written_keys-own h k.it.session k.start k.key k.value) ∙ ap (written_keys g) (sym same)))
        | inr there ↦ elim (cases_eq k.start t) [
          | inl mine ↦ absurd (there.0 (begun_once h s k.it.session t holds.isolated.stamped (has_begun_so w h s t c holds there.1 is start) (subst (Begun h k.it.session) mine (wrote_begun w h k holds))))
          | inr other ↦ holds.requests.keys.written s t c there.1 is start ∙ sym (written_keys-other h k.it.session k.start t k.key k.value other)
        ]
      ];
      some = λ s c at asked. elim (client_set w.clients k.it.session s (client_wrote k.it.c k.key) c at) [
        | inl here ↦ absurd (open_not_asked_so k.it.c.entry.state k.it.is_open (subst (λ (x : Client). HasAsked x.entry.state) here.1 asked))
        | inr there ↦ holds.requests.keys.some s c there.1 asked
      ];
    }

pub requests_wrote : (w : State) (h : List Item) (k : WroteOne w) → IsolationInvariant w h → RequestFacts w.setup w.nodes (wrote_state w k).clients (h ++ wrote_items w k)
requests_wrote w h k holds =
    let g : List Item = h ++ wrote_items w k in
    let on : GoesOn h g = goes_on h (wrote_items w k) in
    record {
      have_begun = have_on (wrote_state w k).clients h (wrote_items w k) (begun_kept w.clients h k.it.session k.it.c (client_wrote k.it.c k.key) k.it.client_at (λ has. (has, refl)) holds.requests.have_begun);
      requests = requests_idle w.nodes w.clients k.it.session k.it.c (client_wrote k.it.c k.key) phase.Open k.it.client_at k.it.is_open open_waits holds.requests.requests;
      starting = starting_fewer w.nodes w.nodes h g (standing_same IsDrawnNow w.nodes) on (λ n s t r i at held begun. write_no_begin h k.it.session k.start k.key k.value r t begun) holds.requests.starting;
      pending = pending_fewer w.clients (wrote_state w k).clients w.nodes w.nodes h g (fewer_pending w.clients (wrote_state w k).clients w.nodes w.nodes (at_work_wrote w k).placing (same_served w.nodes)) (standing_same IsDrawnNow w.nodes) on (λ q p. record {
        alone = record { undrawn = write_no_drawn h k.it.session k.start k.key k.value q.start; unplaced = λ c placed. write_places_none h k.it.session k.start k.key k.value q.start c placed };
        keys = written_keys-other h k.it.session k.start q.start k.key k.value (λ same. wrote_not_pending w h k holds (record { coming = q; pending = p; start_is = sym same }));
      }) holds.requests.pending;
      settled = settled_fewer w.nodes w.nodes h g (standing_same IsSettledNow w.nodes) on (λ n s t c d i at placed. write_places_none h k.it.session k.start k.key k.value t d placed) holds.requests.settled;
      accepted = holds.requests.accepted;
      opened = open_fewer w.clients (wrote_state w k).clients h g (at_work_wrote w k).opened (λ s t e o drew. write_no_drawn h k.it.session k.start k.key k.value t drew) holds.requests.opened;
      keys = wrote_keys w h k holds;
      form = form_fewer w.setup w.clients (wrote_state w k).clients w.nodes w.nodes (standing_same IsDrawnNow w.nodes) (at_work_wrote w k).placing holds.requests.form;
    }
