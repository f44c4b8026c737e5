-- For request_completion too.
-- What the outcomes that no frame has make of the transactions that are open or are placed: one more is open where a begin is
-- answered, and else there are fewer.
use Rattle.isolation_laws.proofs.Names.{[], ◌≡◌, ℕ, zero, suc, List, ◌∷◌, Option, Some, None, ◌⊎◌, inl, inr, refl, sym}
use Rattle.isolation_laws.proofs.Names.{◌∙◌, ap, slice_index_or, same_Some, Held, Client, State, client_begun}
use Rattle.isolation_laws.proofs.Names.{unless_gone, after_loss, crashed_clients, client_wrote, ClientAt, epoch_or_none}
use Rattle.isolation_laws.proofs.Names.{OpenAt, is_placing, IsOpen, client_set, AnsweredBegin, answered_begin_state}
use Rattle.isolation_laws.proofs.Names.{WroteOne, wrote_state, Vanished, vanished_state, Fetched, fetched_turn}
use Rattle.isolation_laws.proofs.Names.{fetched_client, fetched_state, ReadDropped, read_dropped_state, read_turn}
use Rattle.isolation_laws.proofs.Names.{read_client, ReadStepped, read_stepped_state}
use Rattle.isolation_laws.proofs.Requests.ClientsOpen.{FewerOpen, FewerPlacing, FewerAtWork, fewer_open_set, fewer_placing_set, fewer_set, gone_rests, open_not_placing, gone_cases, read_rests}

-- ---- a crash: each client is as it was, or heard of the loss of its request
pub crashed_at : (requests : List (Option Held)) (clients : List Client) (s : ℕ) (c : Client) → ClientAt (crashed_clients requests clients) s c → (old : Client) × ClientAt clients s old × ((c ≡ old) ⊎ ((held : Held) × (slice_index_or requests s None ≡ Some held) × (c ≡ after_loss held.request old)))
unfolding crashed_clients
crashed_at [] clients s c at = (c, at, inl refl)
crashed_at (held ∷ others) [] s c at = absurd (cc)
crashed_at (None ∷ others) (d ∷ clients) zero c at = (d, refl, inl (sym (same_Some d c at)))
crashed_at (Some held ∷ others) (d ∷ clients) zero c at = (d, refl, inr (held, refl, sym (same_Some (after_loss held.request d) c at)))
crashed_at (held ∷ others) (d ∷ clients) (suc s) c at = crashed_at others clients s c at

-- ---- the other outcomes
pub at_work_wrote : (w : State) (k : WroteOne w) → FewerAtWork w.clients (wrote_state w k).clients
at_work_wrote w k = record {
  opened = fewer_open_set w.clients k.it.session k.it.c (client_wrote k.it.c k.key) k.it.client_at (inr (refl, refl, refl));
  placing = fewer_placing_set w.clients k.it.session k.it.c (client_wrote k.it.c k.key) k.it.client_at (inl (λ placing. open_not_placing (ap is_placing (sym k.it.is_open) ∙ placing)));
}

pub at_work_vanished : (w : State) (k : Vanished w) → FewerAtWork w.clients (vanished_state w k).clients
at_work_vanished w k = fewer_set w.clients k.session k.c _ k.client_at (inl gone_rests)

pub at_work_fetched : (w : State) (k : Fetched w) → FewerAtWork w.clients (fetched_state w k).clients
at_work_fetched w k = fewer_set w.clients k.it.session k.it.c _ k.it.client_at (read_rests (fetched_client w k) (fetched_turn w k))

pub at_work_dropped : (w : State) (k : ReadDropped w) → FewerAtWork w.clients (read_dropped_state w k).clients
at_work_dropped w k = fewer_set w.clients k.session k.c _ k.client_at (inr refl)

pub at_work_read : (w : State) (k : ReadStepped w) → FewerAtWork w.clients (read_stepped_state w k).clients
at_work_read w k = fewer_set w.clients k.session k.c _ k.client_at (read_rests (read_client w k) (read_turn w k))

-- a begin that was answered opens its transaction, where its session has not vanished
pub open_answered_begin : (w : State) (k : AnsweredBegin w) (s t e : ℕ) → OpenAt (answered_begin_state w k).clients s t e → OpenAt w.clients s t e ⊎ ((s ≡ k.session) × (t ≡ k.start) × (e ≡ k.i.epoch))
open_answered_begin w k s t e o = elim (client_set w.clients k.session s (unless_gone k.c (client_begun k.c k.start k.i.epoch)) o.client o.at) [
  | inl here ↦ elim (gone_cases k.c (client_begun k.c k.start k.i.epoch)) [
    | inl stays ↦ absurd (gone_rests.not_open (sym stays.1 ∙ (ap (λ c. c.entry.state) (sym stays.0) ∙ (ap (λ c. c.entry.state) (sym here.1) ∙ o.state_is))))
    | inr moves ↦
        let is : client_begun k.c k.start k.i.epoch ≡ o.client = sym moves ∙ sym here.1 in
        inr (here.0, same_Some t k.start (sym o.start_is ∙ ap (λ c. c.entry.start) (sym is)), sym o.epoch_is ∙ ap (λ c. epoch_or_none c.entry.epoch) (sym is))
  ]
  | inr there ↦ inl (record { client = o.client; at = there.1; state_is = o.state_is; start_is = o.start_is; epoch_is = o.epoch_is })
]

-- and places nothing
pub placing_answered_begin : (w : State) (k : AnsweredBegin w) → FewerPlacing w.clients (answered_begin_state w k).clients
placing_answered_begin w k = fewer_placing_set w.clients k.session k.c _ k.client_at (elim (gone_cases k.c (client_begun k.c k.start k.i.epoch)) [
  | inl stays ↦ inr (ap (λ c. c.entry) (sym stays.0))
  | inr moves ↦ inl (λ placing. open_not_placing (ap (λ c. is_placing c.entry.state) (sym moves) ∙ placing))
])

-- ---- what is live
pub fewer_is_open : (old new : List Client) (t : ℕ) → FewerOpen old new → IsOpen new t → IsOpen old t
fewer_is_open old new t fewer o = record { session = o.session; epoch = o.epoch; open_at = fewer o.session t o.epoch o.open_at }
