-- What is played with one entry after the other is reached, where each kept what its step appends and the ticks are few.
use Rattle.log_refinement.proofs.Names.{◌≡◌, ℕ, suc, ◌+◌, ◌≤◌, ◌^◌, List, [], ◌∷◌, Option, Some, None, refl, arith}
use Rattle.log_refinement.proofs.Names.{slice_index_or, unwrap_or, sum, Fate, AtEach, ScriptData, Clocks, with_tick}
use Rattle.log_refinement.proofs.Names.{Played, fate_of, clocks_of, clock_after, Fit, fit_stays, TakesFit, takes_stay}
use Rattle.log_refinement.proofs.Names.{EventsStayTold, IsTold, Event, Entry, timed_at, timed_in, played_with}
use Rattle.log_refinement.proofs.Names.{entries_played, IsReplayed, rise_by, rises_in}
use Rattle.std.proofs.lemmas.List.Sums.{sum_by-cons}
use Rattle.machine.specs.declared.event.Event as machine
use Rattle.command_semantics.specs.SoFar.{ReadsClocks}
use Rattle.split_parts.specs.declared.event.Event.TheVariants as event

-- ---- what was played is reached, and stays so
pub record IsGood (script : ScriptData) (p : Played) : Type 0 where
  pub told : IsTold script p
  pub fit : Fit p.state
  pub takes : TakesFit p.state.setup.nodes p.items

-- each entry finds what is reached, and kept what its step appends; and so is what they all come to
unfoldable pub AllMade : ScriptData → List Entry → Played → Type 0
AllMade script [] p = IsGood script p
AllMade script (e ∷ es) p = IsGood script p × IsReplayed script p e × AllMade script es (played_with script p e.event)

pub made_good : (script : ScriptData) (es : List Entry) (p : Played) → AllMade script es p → IsGood script p
unfolding AllMade
made_good script [] p made = made
made_good script (e ∷ es) p made = made.0

reads : (clocks : Clocks) (e : Event) → ReadsClocks clocks (rise_by e) (timed_at clocks.base clocks.leads clocks.master e)
reads clocks (event.Tick by) = refl
reads clocks (event.Take node) = (refl, refl)
reads clocks (event.Renew node) = (refl, refl)
reads clocks (event.Accept node session) = (refl, refl)
reads clocks _ = refl

clock_rises : (base : ℕ) (leads : List ℕ) (master : ℕ) (e : Event) → clock_after base (timed_at base leads master e) ≡ base + unwrap_or (rise_by e) 0
clock_rises base leads master (event.Tick by) = refl
clock_rises base leads master _ = omega arith

pub first_rise : (tick : Option ℕ) (ticks : List ℕ) → sum (with_tick tick ticks) ≡ unwrap_or tick 0 + sum ticks
first_rise None ticks = omega arith
first_rise (Some by) ticks = sum_by-cons (λ (x : ℕ). x) by ticks

good_next : EventsStayTold → (script : ScriptData) (p : Played) (e : Event) → ((node : ℕ) → slice_index_or script.leads node 0 ≤ script.setup.skew) → p.clock + unwrap_or (rise_by e) 0 + script.setup.skew ≤ 2 ^ 61 → IsGood script p → IsGood script (played_with script p e)
good_next law script p e leads room good =
    let made : machine.Event = timed_in script p e in
    let fate : Fate = fate_of script p made in
    record {
      told = law script (rise_by e) p made leads room good.told (reads (clocks_of script p) e);
      fit = fit_stays p.state made fate good.fit;
      takes = takes_stay p.state p.items made fate good.told.reached.stands good.fit good.takes;
    }

pub all_made : EventsStayTold → (script : ScriptData) (es : List Entry) (p : Played) → ((node : ℕ) → slice_index_or script.leads node 0 ≤ script.setup.skew) → p.clock + sum (rises_in es) + script.setup.skew ≤ 2 ^ 61 → IsGood script p → AtEach (λ before e. IsReplayed script (entries_played script before p) e) es → AllMade script es p
unfolding AllMade rises_in entries_played
all_made law script [] p leads room good replayed = good
all_made law script (e ∷ es) p leads room good replayed =
    let total : sum (with_tick (rise_by e.event) (rises_in es)) ≡ unwrap_or (rise_by e.event) 0 + sum (rises_in es) = first_rise (rise_by e.event) (rises_in es) in
    let up : (played_with script p e.event).clock ≡ p.clock + unwrap_or (rise_by e.event) 0 = clock_rises p.clock script.leads (clocks_of script p).master e.event in
    let next : IsGood script (played_with script p e.event) = good_next law script p e.event leads (omega (arith, room, total)) good in
    (good, replayed.at 0 e refl, all_made law script es (played_with script p e.event) leads (omega (arith, up, room, total)) next (record { at = λ place x found. replayed.at (suc place) x found }))
