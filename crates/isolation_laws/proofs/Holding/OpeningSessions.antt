-- In the opening state no instance is there and no client works: numbers, sessions, requests, the conflict memory, begins.
use Rattle.isolation_laws.proofs.Names.{[], ◌≡◌, ℕ, true, IsTrue, List, ◌⊎◌, inl, inr, refl, sym, ◌∙◌, ap, SetupNumbers}
use Rattle.isolation_laws.proofs.Names.{◌∈◌, AtEach, SessionState, has_transaction, UnderWay, Nothing, Client}
use Rattle.isolation_laws.proofs.Names.{client_new, opening, ClientAt, OpenAt, InFlight, is_placing, Pending, IsNewDraw}
use Rattle.isolation_laws.proofs.Names.{NumberFacts, HasAsked, RequestFacts, MemoryFacts, BeginFacts}
use Rattle.system_parts.specs.declared.session.State.TheVariants as phase
use Rattle.isolation_laws.proofs.Inversions.InversionSound.{found_copy, none_at}
use Rattle.isolation_laws.proofs.Requests.ClientsOpen.{free_rests}

-- ---- nothing is there
pub in_none : {X : Type 0} (x : X) → x ∈ [] → ⊥
unfolding ◌∈◌
in_none x m = m

pub each_none : {X : Type 0} (P : List X → X → Type 0) → AtEach P []
each_none P = record { at = λ p x found. absurd (cc) }

-- each client is new
pub is_new : (setup : SetupNumbers) (s : ℕ) (c : Client) → ClientAt (opening setup).clients s c → c ≡ client_new setup.cache
is_new setup s c at = found_copy 16 s (client_new setup.cache) c at

pub not_in : (setup : SetupNumbers) (s : ℕ) (c : Client) (state : SessionState) → ClientAt (opening setup).clients s c → c.entry.state ≡ state → phase.Free ≡ state
not_in setup s c state at is = ap (λ (x : Client). x.entry.state) (sym (is_new setup s c at)) ∙ is

pub not_under_way : (setup : SetupNumbers) (s : ℕ) (c : Client) (work : UnderWay) → ClientAt (opening setup).clients s c → c.under_way ≡ work → Nothing ≡ work
not_under_way setup s c work at is = ap (λ (x : Client). x.under_way) (sym (is_new setup s c at)) ∙ is

pub not_open : (setup : SetupNumbers) (s t e : ℕ) → OpenAt (opening setup).clients s t e → ⊥
not_open setup s t e o = let clash : phase.Free ≡ phase.Open = not_in setup s o.client phase.Open o.at o.state_is in cc

not_placing : (setup : SetupNumbers) (s : ℕ) (c : Client) → ClientAt (opening setup).clients s c → is_placing c.entry.state ≡ true → ⊥
not_placing setup s c at placing = free_rests.not_placing (ap is_placing (not_in setup s c c.entry.state at refl) ∙ placing)

pub not_pending : (setup : SetupNumbers) (q : InFlight) → Pending (opening setup).clients (opening setup).nodes q → ⊥
not_pending setup q (inl p) = none_at setup.nodes p.node p.instance_of p.at
not_pending setup q (inr p) = not_placing setup q.session p.client p.at p.state_is

-- ---- numbers
pub opening_numbers : (setup : SetupNumbers) → NumberFacts setup 0 (opening setup).nodes (opening setup).master []
opening_numbers setup = record {
  ranges = record {
    above = λ n i at. absurd (none_at setup.nodes n i at);
    within = λ n i at. absurd (none_at setup.nodes n i at);
    covered = λ n i at. absurd (none_at setup.nodes n i at);
    counted = λ n i at. absurd (none_at setup.nodes n i at);
    differ = λ n m i j other at. absurd (none_at setup.nodes n i at);
    apart = λ n m i j at. absurd (none_at setup.nodes n i at);
  };
  leases = record {
    holder = λ n i at. absurd (none_at setup.nodes n i at);
    present = λ n i at. absurd (none_at setup.nodes n i at);
    replaced = λ n i at. absurd (none_at setup.nodes n i at);
  };
  drawn = record {
    counted = λ s n term t commit m. absurd (in_none _ m);
    earlier = λ s m term t n commit i drew. absurd (in_none _ drew);
    same = λ s m term t n commit i drew. absurd (in_none _ drew);
    later = λ s m term t n commit i drew. absurd (in_none _ drew);
  };
  new = record { each = each_none IsNewDraw };
  begun = record {
    drawn = λ s t m. absurd (in_none _ m);
    writes = λ s t k value m. absurd (in_none _ m);
    reads = λ s t k answer m. absurd (in_none _ m);
    commits = λ s n term t c m. absurd (in_none _ m);
  };
  placed = record { drawn = λ t c m. absurd (in_none _ m) };
}

-- ---- sessions and requests
free_has : (state : SessionState) → phase.Free ≡ state → IsTrue (has_transaction state) → ⊥
free_has state is has = let clash : has_transaction phase.Free ≡ true = ap has_transaction is ∙ has in cc

not_asked : (setup : SetupNumbers) (s : ℕ) (c : Client) → ClientAt (opening setup).clients s c → HasAsked c.entry.state → ⊥
not_asked setup s c at (inl is) = let clash : phase.Free ≡ phase.Committing = not_in setup s c phase.Committing at is in cc
not_asked setup s c at (inr (inl is)) = let clash : phase.Free ≡ phase.OpenOutcome = not_in setup s c phase.OpenOutcome at is in cc
not_asked setup s c at (inr (inr is)) = not_placing setup s c at is

not_working : (setup : SetupNumbers) (s : ℕ) (c : Client) → ClientAt (opening setup).clients s c → (c.entry.state ≡ phase.Open) ⊎ HasAsked c.entry.state → ⊥
not_working setup s c at (inl is) = let clash : phase.Free ≡ phase.Open = not_in setup s c phase.Open at is in cc
not_working setup s c at (inr asked) = not_asked setup s c at asked

pub opening_requests : (setup : SetupNumbers) → RequestFacts setup (opening setup).nodes (opening setup).clients []
opening_requests setup = record {
  have_begun = record { begun = λ s c at has. absurd (free_has c.entry.state (not_in setup s c c.entry.state at refl) has) };
  requests = record {
    own = λ n s i request p at. absurd (none_at setup.nodes n i at);
    waits = λ n s i request p at. absurd (none_at setup.nodes n i at);
    one = λ n m s i j request other p q at. absurd (none_at setup.nodes n i at);
  };
  starting = record {
    drawn = λ n s t i at. absurd (none_at setup.nodes n i at);
    unbegun = λ n s t r i at. absurd (none_at setup.nodes n i at);
  };
  pending = record {
    begun = λ q p. absurd (not_pending setup q p);
    keys = λ q p. absurd (not_pending setup q p);
    so_far = λ q p. absurd (not_pending setup q p);
    here = λ n s t c keys p i at. absurd (none_at setup.nodes n i at);
  };
  settled = record {
    begun = λ n s t c keys by i at. absurd (none_at setup.nodes n i at);
    drawn = λ n s t c keys by i at. absurd (none_at setup.nodes n i at);
    settled = λ n s t c keys by i at. absurd (none_at setup.nodes n i at);
  };
  accepted = record { within = λ n s t keys i at. absurd (none_at setup.nodes n i at) };
  opened = record {
    undrawn = λ s t e o. absurd (not_open setup s t e o);
    above = λ s t e o. absurd (not_open setup s t e o);
  };
  keys = record {
    written = λ s t c at working. absurd (not_working setup s c at working);
    some = λ s c at asked. absurd (not_asked setup s c at asked);
  };
  form = record { handed = λ n s c i request at. absurd (none_at setup.nodes n i at); plain = λ flag s c at placing. not_placing setup s c at placing };
}

-- ---- the conflict memory, begins and reads
pub opening_memory : (setup : SetupNumbers) → MemoryFacts setup (opening setup).nodes []
opening_memory setup = record {
  recorded = record { hold = λ n i at. absurd (none_at setup.nodes n i at) };
  form = record { direct = λ n i at. absurd (none_at setup.nodes n i at) };
  apart = record { apart = λ r s n m term other t c u d k v w one. absurd (in_none _ one) };
  serial = λ strict. record { stood = λ r s n m term other t d u c k value one. absurd (in_none _ one) };
}

pub opening_begins : (setup : SetupNumbers) → BeginFacts setup (opening setup).clients (opening setup).nodes []
opening_begins setup = record {
  fresh = record {
    asked = λ n s i p at. absurd (none_at setup.nodes n i at);
    accepted = λ n s t c i at. absurd (none_at setup.nodes n i at);
    drawn = λ n s b t c i at. absurd (none_at setup.nodes n i at);
  };
  below = λ flag. record { below = λ s b e n i o. absurd (not_open setup s b e o) };
}
