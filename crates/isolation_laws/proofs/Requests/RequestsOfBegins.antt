-- For request_completion too.
-- Sessions and requests where a begin is answered.
use Rattle.isolation_laws.proofs.Names.{[], ◌≡◌, ℕ, IsTrue, List, ◌∷◌, ◌++◌, Some, None, ◌⊎◌, inl, inr, refl, sym, ◌∙◌}
use Rattle.isolation_laws.proofs.Names.{ap, subst, arith, same_Some, Item, Begin, Draw, Placed, in_front, in_last}
use Rattle.isolation_laws.proofs.Names.{in_push, in_old, has_transaction, BeginRequest, InstanceEntry, without_request}
use Rattle.isolation_laws.proofs.Names.{Client, State, client_begun, unless_gone, InstanceAt, HeldBy, Begun, DrewStart}
use Rattle.isolation_laws.proofs.Names.{HasDrawn, written_keys, HasAsked, RequestFacts, IsolationInvariant, held_by}
use Rattle.isolation_laws.proofs.Names.{instance_changed, heldby_ended, begin_own, AnsweredBegin, answered_begin_state}
use Rattle.isolation_laws.proofs.Names.{answered_begin_items}
use Rattle.system_parts.specs.declared.session.State.TheVariants as phase
use Rattle.system_parts.specs.declared.instance.Progress.TheVariants as progress
use Rattle.isolation_laws.proofs.OnceEach.{drawn_once}
use Rattle.isolation_laws.proofs.Requests.PendingFewer.{pending_answered_begin}
use Rattle.isolation_laws.proofs.Requests.ClientsOpen.{open_not_placing, gone_cases}
use Rattle.isolation_laws.proofs.Requests.OpenAfter.{open_answered_begin, placing_answered_begin}
use Rattle.isolation_laws.proofs.Requests.RequestsKept.{form_fewer}
use Rattle.isolation_laws.proofs.Numbers.NumbersKept.{drew_start}
use Rattle.isolation_laws.proofs.Requests.ClientsAfter.{BegunClient, begun_set, have_on, KeysClient, keys_client, keys_set, written_keys-no_write, written_keys-none}
use Rattle.isolation_laws.proofs.Requests.RequestsAfter.{requests_over}
use Rattle.isolation_laws.proofs.Requests.Standing.{standing_over}
use Rattle.isolation_laws.proofs.Requests.CommitsInFlight.{GoesOn, goes_on, pending_fewer, IsSettledNow, IsAcceptedNow, IsDrawnNow, settled_fewer, accepted_fewer}

-- ---- a begin that is answered
begin_is : (r u s t : ℕ) → Begin r u ≡ Begin s t → (r ≡ s) × (u ≡ t)
begin_is r u s t same = (cc, cc)

-- nothing but the begin is new
begun_or : (h : List Item) (s t r u : ℕ) → Begun (h ++ Begin s t ∷ []) r u → Begun h r u ⊎ ((r ≡ s) × (u ≡ t))
begun_or h s t r u m = elim (in_push (Begin r u) (Begin s t) h m) [ inl old ↦ inl old | inr now ↦ inr (begin_is r u s t now) ]

no_drawn_begin : (h : List Item) (s t u : ℕ) → HasDrawn (h ++ Begin s t ∷ []) u → HasDrawn h u
no_drawn_begin h s t u (r, n, term, c, m) = (r, n, term, c, in_old (Draw r n term u (Some c)) (Begin s t) h (λ is. cc) m)

begin_writes_none : (h : List Item) (s t u : ℕ) → written_keys (h ++ Begin s t ∷ []) u ≡ written_keys h u
begin_writes_none h s t u = written_keys-no_write h (Begin s t) u (λ r v k value is. cc)

pub begin_held : (w : State) (h : List Item) (k : AnsweredBegin w) → IsolationInvariant w h → HeldBy k.i k.session (BeginRequest k.session) (progress.Drawn k.start)
begin_held w h k holds = record {
  held = k.held;
  has = k.has;
  asks = begin_own k.held.request k.asker k.session k.request_is (holds.requests.requests.own k.node k.session k.i k.held.request k.held.progress k.at (held_by k.i k.session k.held k.has));
  stands = k.drawn;
}

-- the start was begun by nobody
pub start_unbegun : (w : State) (h : List Item) (k : AnsweredBegin w) (r : ℕ) → IsolationInvariant w h → Begun h r k.start → ⊥
start_unbegun w h k r holds begun = holds.requests.starting.unbegun k.node k.session k.start r k.i k.at (begin_held w h k holds) begun

pub open_not_asked : HasAsked phase.Open → ⊥
open_not_asked (inl is) = cc
open_not_asked (inr (inl is)) = cc
open_not_asked (inr (inr is)) = open_not_placing is

keys_longer : (w : State) (h : List Item) (k : AnsweredBegin w) (c : Client) → KeysClient h c → KeysClient (h ++ answered_begin_items w k) c
keys_longer w h k c keys = record { written = λ t is start. keys.written t is start ∙ sym (begin_writes_none h k.session k.start t); some = keys.some }

-- its client has the new transaction, or has vanished
begun_client : (w : State) (h : List Item) (k : AnsweredBegin w) → IsolationInvariant w h → BegunClient (h ++ answered_begin_items w k) k.session (unless_gone k.c (client_begun k.c k.start k.i.epoch))
begun_client w h k holds has = elim (gone_cases k.c (client_begun k.c k.start k.i.epoch)) [
  | inl stays ↦
      let before = holds.requests.have_begun.begun k.session k.c k.client_at (subst (λ (c : Client). IsTrue (has_transaction c.entry.state)) stays.0 has) in
      (before.0, ap (λ c. c.entry.start) stays.0 ∙ before.1, in_front (Begin k.session before.0) h (answered_begin_items w k) before.2)
  | inr moves ↦ (k.start, ap (λ c. c.entry.start) moves, in_last (Begin k.session k.start) h)
]

no_write_yet : (w : State) (h : List Item) (k : AnsweredBegin w) → IsolationInvariant w h → written_keys (h ++ answered_begin_items w k) k.start ≡ []
no_write_yet w h k holds = begin_writes_none h k.session k.start k.start ∙ written_keys-none k.start h (λ s key value m.
    let begun = holds.numbers.begun.writes s k.start key value m in start_unbegun w h k begun.0 holds begun.1)

new_keys : (w : State) (h : List Item) (k : AnsweredBegin w) → IsolationInvariant w h → KeysClient (h ++ answered_begin_items w k) (client_begun k.c k.start k.i.epoch)
new_keys w h k holds = record {
  written = λ t is start. sym (ap (written_keys (h ++ answered_begin_items w k)) (sym (same_Some k.start t start)) ∙ no_write_yet w h k holds);
  some = λ asked. absurd (open_not_asked asked);
}

begun_keys : (w : State) (h : List Item) (k : AnsweredBegin w) → IsolationInvariant w h → KeysClient (h ++ answered_begin_items w k) (unless_gone k.c (client_begun k.c k.start k.i.epoch))
begun_keys w h k holds = elim (gone_cases k.c (client_begun k.c k.start k.i.epoch)) [
  | inl stays ↦ subst (λ (c : Client). KeysClient (h ++ answered_begin_items w k) c) (sym stays.0) (keys_longer w h k k.c (keys_client w.clients h k.session k.c holds.requests.keys k.client_at))
  | inr moves ↦ subst (λ (c : Client). KeysClient (h ++ answered_begin_items w k) c) (sym moves) (new_keys w h k holds)
]

draw_session : (s n term t r m other u : ℕ) → Draw s n term t None ≡ Draw r m other u None → (s ≡ r) × (n ≡ m)
draw_session s n term t r m other u same = (cc, cc)

-- another begin in flight has another start
other_begin : (w : State) (h : List Item) (k : AnsweredBegin w) (n s t r : ℕ) (i : InstanceEntry) → IsolationInvariant w h → InstanceAt (answered_begin_state w k).nodes n i → HeldBy i s (BeginRequest s) (progress.Drawn t) → Begun (h ++ answered_begin_items w k) r t → ⊥
other_begin w h k n s t r i holds at held begun = elim (instance_changed w.nodes k.node n (without_request k.i k.session) i at) [
  | inl here ↦
      let left = heldby_ended k.i k.session s (BeginRequest s) (progress.Drawn t) (subst (λ (x : InstanceEntry). HeldBy x s (BeginRequest s) (progress.Drawn t)) here.1 held) in
      elim (begun_or h k.session k.start r t begun) [
        | inl old ↦ holds.requests.starting.unbegun k.node s t r k.i k.at left.1 old
        | inr now ↦ left.0 (draw_session s k.node k.i.term t k.session k.node k.i.term k.start (drawn_once h s k.session k.node k.node k.i.term k.i.term t k.start None None holds.numbers.new (holds.requests.starting.drawn k.node s t k.i k.at left.1) (drew_start w h k holds) now.1)).0
      ]
  | inr there ↦ elim (begun_or h k.session k.start r t begun) [
    | inl old ↦ holds.requests.starting.unbegun n s t r i there.1 held old
    | inr now ↦
        let drew : DrewStart h s n i.term t = holds.requests.starting.drawn n s t i there.1 held in
        there.0 (draw_session s n i.term t k.session k.node k.i.term k.start (drawn_once h s k.session n k.node i.term k.i.term t k.start None None holds.numbers.new drew (drew_start w h k holds) now.1)).1
  ]
]

pub requests_answered_begin : (w : State) (h : List Item) (k : AnsweredBegin w) → IsolationInvariant w h → RequestFacts w.setup (answered_begin_state w k).nodes (answered_begin_state w k).clients (h ++ answered_begin_items w k)
requests_answered_begin w h k holds =
    let g : List Item = h ++ answered_begin_items w k in
    let on : GoesOn h g = goes_on h (answered_begin_items w k) in
    let held : HeldBy k.i k.session (BeginRequest k.session) (progress.Drawn k.start) = begin_held w h k holds in
    record {
      have_begun = begun_set w.clients g k.session (unless_gone k.c (client_begun k.c k.start k.i.epoch)) (begun_client w h k holds) (have_on w.clients h (answered_begin_items w k) holds.requests.have_begun);
      requests = requests_over w.nodes (answered_begin_state w k).nodes w.clients k.node k.session k.i (BeginRequest k.session) (progress.Drawn k.start) k.c (unless_gone k.c (client_begun k.c k.start k.i.epoch)) refl k.at held k.client_at holds.requests.requests;
      starting = record {
        drawn = λ n s t j at is.
            let was = (standing_over IsDrawnNow w.nodes k.node k.session k.i k.at).each n s j (BeginRequest s) (progress.Drawn t) tt at is in
            subst (λ term. DrewStart g s n term t) (sym was.3) (on _ (holds.requests.starting.drawn n s t was.0 was.1 was.2));
        unbegun = λ n s t r j at is begun. other_begin w h k n s t r j holds at is begun;
      };
      pending = pending_fewer w.clients (answered_begin_state w k).clients w.nodes (answered_begin_state w k).nodes h g (pending_answered_begin w k) (standing_over IsDrawnNow w.nodes k.node k.session k.i k.at) on (λ q p. record {
        alone = record { undrawn = no_drawn_begin h k.session k.start q.start; unplaced = λ c placed. in_old (Placed q.start c) (Begin k.session k.start) h (λ is. cc) placed };
        keys = begin_writes_none h k.session k.start q.start;
      }) holds.requests.pending;
      settled = settled_fewer w.nodes (answered_begin_state w k).nodes h g (standing_over IsSettledNow w.nodes k.node k.session k.i k.at) on (λ n s t c d i at placed. in_old (Placed t d) (Begin k.session k.start) h (λ is. cc) placed) holds.requests.settled;
      accepted = accepted_fewer w.nodes (answered_begin_state w k).nodes (standing_over IsAcceptedNow w.nodes k.node k.session k.i k.at) holds.requests.accepted;
      opened = record {
        undrawn = λ s t e o drew. elim (open_answered_begin w k s t e o) [
          | inl old ↦ holds.requests.opened.undrawn s t e old (no_drawn_begin h k.session k.start t drew)
          | inr new ↦
              let was : HasDrawn h k.start = subst (HasDrawn h) new.1 (no_drawn_begin h k.session k.start t drew) in
              let begun = holds.numbers.begun.commits was.0 was.1 was.2 k.start was.3 was.4 in
              start_unbegun w h k begun.0 holds begun.1
        ];
        above = λ s t e o. elim (open_answered_begin w k s t e o) [
          | inl old ↦ holds.requests.opened.above s t e old
          | inr new ↦ omega (arith, (holds.numbers.drawn.same k.session k.node k.i.term k.start k.node None k.i (drew_start w h k holds) k.at refl).0, new.1, new.2)
        ];
      };
      keys = keys_set w.clients g k.session (unless_gone k.c (client_begun k.c k.start k.i.epoch)) (begun_keys w h k holds) (record {
        written = λ s t c at is start. holds.requests.keys.written s t c at is start ∙ sym (begin_writes_none h k.session k.start t);
        some = holds.requests.keys.some;
      });
      form = form_fewer w.setup w.clients (answered_begin_state w k).clients w.nodes (answered_begin_state w k).nodes (standing_over IsDrawnNow w.nodes k.node k.session k.i k.at) (placing_answered_begin w k) holds.requests.form;
    }
