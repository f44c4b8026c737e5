-- Who reads after the outcomes that move a client by a begin, a hand-over, a write, a vanish or a read that is dropped; after the
-- others the frame of clients says it.
pub use Rattle.isolation_laws.proofs.Requests.ClientsIdle.{FewerReading, same_reading, ReadsNothing, fewer_reading_set, nothing_reads, idle_reads, gone_reads}
use Rattle.isolation_laws.proofs.Names.{◌≡◌, ℕ, List, Option, inl, inr, sym, ◌∙◌, subst, SetupNumbers, Item, Row, Pairs}
use Rattle.isolation_laws.proofs.Names.{Reading, InstanceEntry, Reads, Client, State, client_begun, client_handed}
use Rattle.isolation_laws.proofs.Names.{ClientAt, OpenAt, AreReading, one_client, AnsweredBegin, answered_begin_state}
use Rattle.isolation_laws.proofs.Names.{HandedOver, handed_over_state, WroteOne, wrote_state, Vanished, vanished_state}
use Rattle.isolation_laws.proofs.Names.{ReadDropped, read_dropped_state}
use Rattle.isolation_laws.proofs.Reading.ReadersRely.{ReadingBy}

still_open : (old new : List Client) (s b e : ℕ) (c : Client) → ClientAt old s c → ClientAt new s c → OpenAt old s b e → OpenAt new s b e
still_open old new s b e c at now o =
    let same : o.client ≡ c = one_client old s o.client c o.at at in
    record { client = o.client; at = subst (λ (d : Client). ClientAt new s d) (sym same) now; state_is = o.state_is; start_is = o.start_is; epoch_is = o.epoch_is }

pub reading_fewer : (setup : SetupNumbers) (old new : List Client) (nodes : List (Option InstanceEntry)) (rows : List Row) (pairs : Pairs) (h : List Item) → FewerReading old new → ReadingBy setup old new nodes rows pairs h → AreReading setup new nodes rows pairs h
reading_fewer setup old new nodes rows pairs h fewer reading = record {
  reads = λ s c r at reads.
      let was : ClientAt old s c = fewer s c r at reads in
      let is = reading s c r was reads in
      (is.0, is.1, still_open old new s is.0 is.1 c was at is.2, is.3);
}

-- ---- the other outcomes
pub reading_answered_begin : (w : State) (k : AnsweredBegin w) → FewerReading w.clients (answered_begin_state w k).clients
reading_answered_begin w k = fewer_reading_set w.clients k.session k.c _ k.client_at (gone_reads k.c (client_begun k.c k.start k.i.epoch) nothing_reads)

pub reading_handed : (w : State) (k : HandedOver w) → FewerReading w.clients (handed_over_state w k).clients
reading_handed w k = fewer_reading_set w.clients k.session k.c _ k.client_at (gone_reads k.c (client_handed k.c k.commit) nothing_reads)

pub reading_wrote : (w : State) (k : WroteOne w) → FewerReading w.clients (wrote_state w k).clients
reading_wrote w k = fewer_reading_set w.clients k.it.session k.it.c _ k.it.client_at (inr (λ r same. idle_reads k.it.c k.it.idle r same))

pub reading_vanished : (w : State) (k : Vanished w) → FewerReading w.clients (vanished_state w k).clients
reading_vanished w k = fewer_reading_set w.clients k.session k.c _ k.client_at (inr nothing_reads)

dropped_reads : (w : State) (k : ReadDropped w) (r : Reading) → k.under_way ≡ Reads r → ⊥
dropped_reads w k r same = elim k.under_way_is [
  | inl stays ↦ idle_reads k.c stays.1 r (sym stays.0 ∙ same)
  | inr over ↦ nothing_reads r (sym over.1 ∙ same)
]

pub reading_dropped : (w : State) (k : ReadDropped w) → FewerReading w.clients (read_dropped_state w k).clients
reading_dropped w k = fewer_reading_set w.clients k.session k.c _ k.client_at (inr (dropped_reads w k))
