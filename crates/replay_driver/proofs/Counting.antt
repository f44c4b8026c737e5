-- The lines of a script, one more carried out.
use Rattle.std.proofs.Common.{◌≡◌, ℕ, ◌+◌, ◌<◌, ◌≤◌, List, [], ◌∷◌, ◌++◌, take, drop, length, get_or, refl, sym, ap, ◌∙◌, arith, subst}
use Rattle.std.proofs.lemmas.List.{take_more, drop_more, take_all}
use Rattle.stamp_base.specs.declared.stores.Store.{Store}
use Rattle.port_io.specs.declared.weather.Fate.{Fate}
use Rattle.isolation_laws.proofs.AlwaysHolds.{stands_at_first}
use Rattle.script_data.specs.declared.line.Line.{Line}
use Rattle.script_data.specs.Data.{IsSound, ScriptData}
use Rattle.script_data.specs.Ticks.{tick_of, ticks_of}
use Rattle.command_semantics.specs.Runs.{Played, line_run, lines_played, opening_played, script_played, replayed}
use Rattle.cluster_core.specs.ClusterModel.{ClusterModel}
use Rattle.planned_cluster.specs.Standing.{StandsAt}
use Rattle.replay_driver.specs.Playing.{IsPlayedTo, played_to}
use Rattle.planned_cluster.proofs.Playable.{playable_at_first}
use Rattle.replay_driver.proofs.Running.{HasEnded}

lines_append : (script : ScriptData) (lines : List Line) (line : Line) (p : Played) → lines_played script (lines ++ line ∷ []) p ≡ (line_run script line (lines_played script lines p)).played
unfolding lines_played
lines_append script [] line p = refl
lines_append script (first ∷ lines) line p = lines_append script lines line (line_run script first p).played

-- one more line was played
pub played_more : (script : ScriptData) (count : ℕ) (line : Line) → count < length script.lines → line ≡ get_or script.lines count line → played_to script (count + 1) ≡ (line_run script line (played_to script count)).played
played_more script count line within is =
    let front : take (count + 1) script.lines ≡ take count script.lines ++ line ∷ [] = take_more script.lines count line within ∙ ap (λ (x : Line). take count script.lines ++ x ∷ []) (sym is) in
    ap (λ (lines : List Line). lines_played script lines (opening_played script)) front ∙ lines_append script (take count script.lines) line (opening_played script)

-- the ticks that are left begin with those of the line
pub ticks_from : (lines : List Line) (count : ℕ) (line : Line) → count < length lines → line ≡ get_or lines count line → ticks_of (drop count lines) ≡ tick_of line.verb + ticks_of (drop (count + 1) lines)
unfolding ticks_of
ticks_from lines count line within is =
    let parts : drop count lines ≡ line ∷ drop (count + 1) lines = drop_more lines count line within ∙ ap (λ (x : Line). x ∷ drop (count + 1) lines) (sym is) in
    ap ticks_of parts

-- what was played to the line's end is what one more line comes to
pub ended_more : (script : ScriptData) (count : ℕ) (line : Line) (old new : ClusterModel) (before clock : ℕ) (ahead now : Store → ℕ → Fate) → count < length script.lines → line ≡ get_or script.lines count line → IsPlayedTo script count old before ahead → HasEnded script (line_run script line (played_to script count)).played ((played_to script count).clock + tick_of line.verb) new clock now → IsPlayedTo script (count + 1) new clock now
ended_more script count line old new before clock ahead now within is at ended =
    let p : Played = played_to script count in
    let latest : ℕ = p.clock + tick_of line.verb in
    let more : (line_run script line p).played ≡ played_to script (count + 1) = sym (played_more script count line within is) in
    let there : HasEnded script (played_to script (count + 1)) latest new clock now = subst (λ (q : Played). HasEnded script q latest new clock now) more ended in
    record {
      stands = there.stands;
      reached = there.reached;
      playable = record { leads = at.playable.leads; ticks = omega (arith, there.within, ticks_from script.lines count line within is, at.playable.ticks) };
    }

-- ---- before the first line
-- ahead of all lines none was carried out, and all can be
pub none_played : (script : ScriptData) (whole : ClusterModel) (clock : ℕ) (ahead : Store → ℕ → Fate) → IsSound script → length script.lines ≤ 131072 → StandsAt script (opening_played script) whole clock ahead → IsPlayedTo script 0 whole clock ahead
unfolding lines_played
none_played script whole clock ahead sound few at = record {
  stands = at;
  reached = record { stands = stands_at_first script.setup sound.setup; setup = refl; seen = omega arith };
  playable = playable_at_first script sound few;
}

-- ---- behind the last line
pub all_played : (script : ScriptData) (count : ℕ) (whole : ClusterModel) (clock : ℕ) (ahead : Store → ℕ → Fate) → length script.lines ≤ count → IsPlayedTo script count whole clock ahead → whole.history ≡ replayed script
all_played script count whole clock ahead past at =
    at.stands.history ∙ ap (λ (lines : List Line). (lines_played script lines (opening_played script)).items) (take_all count script.lines past)

pub all_reached : (script : ScriptData) (count : ℕ) (whole : ClusterModel) (clock : ℕ) (ahead : Store → ℕ → Fate) → length script.lines ≤ count → IsPlayedTo script count whole clock ahead → whole.state ≡ (script_played script).state
all_reached script count whole clock ahead past at =
    at.stands.state ∙ ap (λ (lines : List Line). (lines_played script lines (opening_played script)).state) (take_all count script.lines past)
