-- What lies under the lock is kept at first, by a step of the run, and by a cursor that comes up to its seat.
use Rattle.run_board.proofs.Names.{◌≡◌, ℕ, ◌<◌, ◌≤◌, ◌^◌, List, All, length, sym, subst, arith, map, Actor, Line}
use Rattle.run_board.proofs.Names.{ScriptData, IsSound, AreLinesOf, SessionIsThere, lines_fit, Cursor, first_cursor}
use Rattle.run_board.proofs.Names.{caught_up, actors_of, AreBehind, CoverLines, behind_at_first, behind_further}
use Rattle.run_board.proofs.Names.{behind_up, covered_up, Ran, place_of, IsFurther, IsKept}
use Rattle.thread_scripts.proofs.Places.{place_is_within}
use Rattle.thread_scripts.proofs.Covered.{covered_at_first}

-- ---- at first
are_lines_of : (script : ScriptData) → IsSound script → All (λ (line : Line). SessionIsThere line.actor) script.lines → AreLinesOf script.setup script.lines
are_lines_of script sound there = lines_fit script.setup script.lines sound.lines (λ k d within here. there k d here)

pub kept_at_first : (r : Ran) (script : ScriptData) (cursors : List Cursor) → IsSound script → length script.lines ≤ 131072 → All (λ (line : Line). SessionIsThere line.actor) script.lines → r.script ≡ script → cursors ≡ map first_cursor (actors_of script) → IsKept r cursors
kept_at_first r script cursors sound few there same are =
    let sessions : AreLinesOf script.setup script.lines = are_lines_of script sound there in
    record {
      sound = subst IsSound (sym same) sound;
      few = subst (λ (s : ScriptData). length s.lines ≤ 131072) (sym same) few;
      sessions = subst (λ (s : ScriptData). AreLinesOf s.setup s.lines) (sym same) sessions;
      behind = subst (λ (cs : List Cursor). AreBehind (place_of r) cs) (sym are) (behind_at_first (place_of r) (actors_of script));
      covered = subst (λ (s : ScriptData). CoverLines s.lines cursors) (sym same) (subst (λ (cs : List Cursor). CoverLines script.lines cs) (sym are) (covered_at_first script sessions));
    }

-- ---- the run goes further
pub kept_further : (old new : Ran) (cursors : List Cursor) → IsFurther old new → IsKept old cursors → IsKept new cursors
kept_further old new cursors further k = record {
  sound = subst IsSound (sym further.script) k.sound;
  few = subst (λ (s : ScriptData). length s.lines ≤ 131072) (sym further.script) k.few;
  sessions = subst (λ (s : ScriptData). AreLinesOf s.setup s.lines) (sym further.script) k.sessions;
  behind = behind_further (place_of old) (place_of new) cursors further.places k.behind;
  covered = subst (λ (s : ScriptData). CoverLines s.lines cursors) (sym further.script) k.covered;
}

-- ---- a cursor comes up
pub place_is_small : (r : Ran) (cursors : List Cursor) (actor : Actor) (place : ℕ) → place ≡ place_of r actor → IsKept r cursors → place < 2 ^ 32
place_is_small r cursors actor place at k = omega (arith, at, place_is_within r.script r.turns actor, k.few)

pub kept_up : (r : Ran) (cursors : List Cursor) (actor : Actor) (place : ℕ) → place ≡ place_of r actor → IsKept r cursors → IsKept r (caught_up actor place cursors)
kept_up r cursors actor place at k = record {
  sound = k.sound;
  few = k.few;
  sessions = k.sessions;
  behind = behind_up (place_of r) cursors actor place at k.behind;
  covered = covered_up r.script.lines cursors actor place k.covered;
}
