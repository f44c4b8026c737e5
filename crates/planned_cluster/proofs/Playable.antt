-- For replay_driver, split_stores, run_board and split_driver too.
-- A script that was read can be played: no clock is ahead by more than the skew, and its ticks are few.
use Rattle.std.proofs.Common.{ℕ, zero, suc, ◌*◌, ◌≤◌, List, [], ◌∷◌, length, All, arith}
use Rattle.std.proofs.lemmas.List.Elements.{All-head, All-tail}
use Rattle.std.specs.List.{slice_index_or}
use Rattle.script_data.specs.declared.line.Line.{Line}
use Rattle.script_data.specs.Data.{ScriptData, IsSound}
use Rattle.script_data.specs.Sound.{LineIsSound}
use Rattle.script_data.specs.Ticks.{ticks_of}
use Rattle.command_semantics.specs.Laws.{IsPlayable}

ticks_are_few : (nodes : ℕ) (lines : List Line) → All (LineIsSound nodes) lines → ticks_of lines ≤ length lines * 1000000
unfolding ticks_of
ticks_are_few nodes [] sound = omega arith
ticks_are_few nodes (line ∷ lines) sound =
    let first : LineIsSound nodes line = All-head (LineIsSound nodes) line lines sound in
    omega (arith, ticks_are_few nodes lines (All-tail (LineIsSound nodes) line lines sound), first.verb.rise)

leads_by_node : (leads : List ℕ) (skew node : ℕ) → All (λ lead. lead ≤ skew) leads → slice_index_or leads node 0 ≤ skew
leads_by_node [] skew node within = omega arith
leads_by_node (lead ∷ leads) skew zero within = All-head (λ (n : ℕ). n ≤ skew) lead leads within
leads_by_node (lead ∷ leads) skew (suc node) within = leads_by_node leads skew node (All-tail (λ (n : ℕ). n ≤ skew) lead leads within)

pub playable_at_first : (script : ScriptData) → IsSound script → length script.lines ≤ 131072 → IsPlayable script 0 script.lines
playable_at_first script sound few = record {
  leads = λ node. leads_by_node script.leads script.setup.skew node sound.leads_within_skew;
  ticks = omega (arith, ticks_are_few script.setup.nodes script.lines sound.lines, sound.setup.skew, few);
}
