-- One event that comes at its time: what was played after it is reached.
use Rattle.turn_rules.proofs.Names.{◌≡◌, ℕ, ◌+◌, ◌≤◌, ◌^◌, sym, ◌∙◌, subst, arith, slice_index_or, SetupNumbers, Fate}
use Rattle.turn_rules.proofs.Names.{Event, stepped, reading_of, seen_after, IsSteadyAt, seen_up, leaves_parts}
use Rattle.turn_rules.proofs.Names.{ScriptData, IsReached, Played, fate_of, clocks_of, played, Fit, fit_stays, TakesFit}
use Rattle.turn_rules.proofs.Names.{takes_stay, Timed, InTime, in_time}
use Rattle.isolation_laws.proofs.AlwaysHolds.{facts_stay}

-- what was played after it
pub record Made (script : ScriptData) (p : Played) (tick : ℕ) (e : Event) : Type 0 where
  pub reached : IsReached script (played script p e)
  pub fit : Fit (played script p e).state
  pub takes : TakesFit (played script p e).state.setup.nodes (played script p e).items
  pub at_most : (played script p e).clock ≤ p.clock + tick

pub event_made : (script : ScriptData) (p : Played) (tick : ℕ) (e : Event) → ((node : ℕ) → slice_index_or script.leads node 0 ≤ script.setup.skew) → p.clock + tick + script.setup.skew ≤ 2 ^ 61 → IsReached script p → Fit p.state → TakesFit p.state.setup.nodes p.items → Timed (clocks_of script p) tick e → Made script p tick e
event_made script p tick e leads room reached fit takes timed =
    let skew : ℕ = script.setup.skew in
    let fate : Fate = fate_of script p e in
    let it : InTime (clocks_of script p) tick skew p.state.seen e = in_time (clocks_of script p) tick skew p.state.seen e timed (record { leads = leads; room = omega (arith, room); before = reached.seen }) in
    let steady : IsSteadyAt p.state.setup.skew p.state.seen (reading_of e) = subst (λ (setup : SetupNumbers). IsSteadyAt setup.skew p.state.seen (reading_of e)) (sym reached.setup) it.steady in
    let seen : (stepped p.state e fate).state.seen ≡ seen_after p.state.seen (reading_of e) = seen_up p.state e fate in
    record {
      reached = record {
        stands = facts_stay p.state p.items e fate reached.stands steady;
        setup = (leaves_parts p.state e fate).setup ∙ reached.setup;
        seen = omega (arith, seen, it.seen_most, it.at_least);
      };
      fit = fit_stays p.state e fate fit;
      takes = takes_stay p.state p.items e fate reached.stands fit takes;
      at_most = it.at_most;
    }
