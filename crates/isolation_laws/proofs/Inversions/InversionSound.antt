-- For cause_laws and grant_laws too.
-- Every outcome keeps what the inversion needs: kept refusals are the master record's, and an open sweep asks something.
use Rattle.isolation_laws.proofs.Names.{slice_get, replicate, Fate, Cause, IsStop, Event, stepped, ◌≡◌, ℕ, ◌<◌, Option}
use Rattle.isolation_laws.proofs.Names.{Some, None, refl, sym, ◌∙◌, ap, subst, same_Some, none-some, slice_get_within}
use Rattle.isolation_laws.proofs.Names.{get_or_from_slice_get, get_or-replicate, length-replicate, SetupNumbers, Ask}
use Rattle.isolation_laws.proofs.Names.{Sweeping, sweep_open, sweep_ask, InstanceEntry, State, opening, still_open}
use Rattle.isolation_laws.proofs.Names.{sweep_left, InstanceAt, StopOf, AreStops, SweepAsks, Sound, Outcome}
use Rattle.isolation_laws.proofs.Names.{OfSweepOpened, OfSwept, OfSweepListed, OfSweepFailed, left_by}
use Rattle.std.specs.Prelude.{IfSome}
use Rattle.machine.proofs.StopsKept.{stops_kept}

-- ---- kept refusals: those of an instance, as the machine's laws have them
kept_stop : (stop : Option Cause) → StopOf stop → IfSome stop IsStop
kept_stop None is = tt
kept_stop (Some why) is = is

stop_of : (stop : Option Cause) → IfSome stop IsStop → StopOf stop
stop_of None is = tt
stop_of (Some why) is = is

stops_stay : (w : State) (e : Event) (fate : Fate) → AreStops w.nodes → AreStops (stepped w e fate).state.nodes
stops_stay w e fate stops = record {
  stop = λ n i at. stop_of i.stop (stops_kept.after w e fate (λ m j there. kept_stop j.stop (stops.stop m j there)) n i at);
}

-- ---- sweeps
left_asks : (s : Sweeping) (asked : Option Ask) → sweep_ask s ≡ asked → (left : Sweeping) → still_open s asked ≡ Some left → sweep_ask left ≡ None → ⊥
left_asks s None is left same none = absurd (cc)
left_asks s (Some asked) is left same none =
    let clash : Some asked ≡ None = sym is ∙ (ap (λ (x : Sweeping). sweep_ask x) (same_Some s left same) ∙ none) in
    absurd (cc)

sweeps_left : (s : Sweeping) → SweepAsks (sweep_left s)
sweeps_left s = record { asks = λ left same none. left_asks s (sweep_ask s) refl left same none }

sweeps_none : SweepAsks None
sweeps_none = record { asks = λ s same none. absurd (cc) }

opened_asks : (txn epoch : ℕ) (s : Sweeping) → Some (sweep_open txn epoch) ≡ Some s → sweep_ask s ≡ None → ⊥
opened_asks txn epoch s same none =
    let clash : sweep_ask (sweep_open txn epoch) ≡ None = ap (λ (x : Sweeping). sweep_ask x) (same_Some (sweep_open txn epoch) s same) ∙ none in
    absurd (cc)

sweeps_kept : (w : State) (o : Outcome w) → SweepAsks w.sweep → SweepAsks (left_by w o).sweep
sweeps_kept w (OfSweepOpened k) sweeps = record { asks = opened_asks k.txn k.epoch }
sweeps_kept w (OfSwept k) sweeps = sweeps_left _
sweeps_kept w (OfSweepListed k) sweeps = sweeps_left _
sweeps_kept w (OfSweepFailed k) sweeps = sweeps_none
sweeps_kept w _ sweeps = sweeps

pub sound_kept : (w : State) (e : Event) (fate : Fate) (o : Outcome w) → (stepped w e fate).state ≡ left_by w o → Sound w → Sound (stepped w e fate).state
sound_kept w e fate o comes sound = record {
  stops = stops_stay w e fate sound.stops;
  sweeps = subst (λ (v : State). SweepAsks v.sweep) (sym comes) (sweeps_kept w o sound.sweeps);
}

-- ---- the opening
-- what is found in copies of one is that one
pub found_copy : {X : Type 0} (count p : ℕ) (x y : X) → slice_get (replicate count x) p ≡ Some y → y ≡ x
found_copy count p x y found =
    let within : p < count = subst (λ (l : ℕ). p < l) (length-replicate count x) (slice_get_within (replicate count x) p y found) in
    sym (get_or_from_slice_get (replicate count x) p y x found) ∙ get_or-replicate count p x x within

-- no node has an instance
pub none_at : (count n : ℕ) (i : InstanceEntry) → InstanceAt (replicate count None) n i → ⊥
none_at count n i at = none-some i (sym (found_copy count n None (Some i) at))

pub opening_sound : (setup : SetupNumbers) → Sound (opening setup)
opening_sound setup = record { stops = record { stop = λ n i at. absurd (none_at setup.nodes n i at) }; sweeps = sweeps_none }
