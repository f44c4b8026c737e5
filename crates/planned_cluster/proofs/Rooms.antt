-- For replay_driver and run_board too.
-- What the clocks come to fits.
use Rattle.std.proofs.Common.{ℕ, ◌+◌, ◌<◌, ◌≤◌, ◌^◌, length, get_or, arith}
use Rattle.std.proofs.lemmas.Grind.{get_or_default_zero}
use Rattle.std.specs.List.{slice_index_or}
use Rattle.command_semantics.specs.Clocks.{TicksWithin, HaveRoom}
use Rattle.script_data.specs.Ticks.{tick_of}
use Rattle.script_data.specs.declared.line.Verb.{Verb}
use Rattle.script_data.specs.declared.line.Verb.TheVariants as verbs
use Rattle.script_data.specs.Data.{ScriptData}

tick_fits : (verb : Verb) → tick_of verb ≤ 2 ^ 61 → TicksWithin (2 ^ 62) verb
tick_fits (verbs.Tick by) low = omega (arith, low)
tick_fits verb low = tt

lead_fits : (script : ScriptData) → ((node : ℕ) → slice_index_or script.leads node 0 ≤ script.setup.skew) → script.setup.skew ≤ 2 ^ 61 → (node lead : ℕ) → node < length script.leads → get_or script.leads node lead ≤ 2 ^ 62
lead_fits script leads room node lead within = omega (arith, get_or_default_zero script.leads node lead within, leads node, room)

pub have_room : (script : ScriptData) (clock : ℕ) (verb : Verb) → ((node : ℕ) → slice_index_or script.leads node 0 ≤ script.setup.skew) → clock + script.setup.skew ≤ 2 ^ 61 → tick_of verb ≤ 2 ^ 61 → HaveRoom clock script.leads verb
have_room script clock verb leads room low = record {
  base_fits = omega (arith, room);
  leads_fit = lead_fits script leads (omega (arith, room));
  tick_fits = tick_fits verb low;
}
