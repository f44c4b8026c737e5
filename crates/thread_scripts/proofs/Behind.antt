-- For run_board too.
-- Cursors stay behind the places of their actors, and cover the lines: at first, where places rise, and where a cursor comes up.
use Rattle.std.proofs.Common.{◌≡◌, ℕ, ◌≤◌, List, All, ap, arith}
use Rattle.std.specs.Prelude.{map}
use Rattle.std.proofs.lemmas.List.Elements.{All-map, All-weaker}
use Rattle.history_book.specs.declared.item.Actor.{Actor}
use Rattle.script_data.specs.declared.line.Line.{Line}
use Rattle.thread_steps.specs.declared.cursor.Cursor.{Cursor}
use Rattle.thread_steps.specs.Done.{first_cursor, caught_up}
use Rattle.thread_steps.proofs.CaughtUp.{each_keeps, same_actors}
use Rattle.thread_scripts.specs.Actors.{AreBehind, HasCursor, CoverLines}

pub behind_at_first : (place : Actor → ℕ) (actors : List Actor) → AreBehind place (map first_cursor actors)
behind_at_first place actors = All-map (λ (cursor : Cursor). cursor.done ≤ place cursor.actor) first_cursor actors (λ k d within. omega arith)

pub behind_further : (old new : Actor → ℕ) (cursors : List Cursor) → ((actor : Actor) → old actor ≤ new actor) → AreBehind old cursors → AreBehind new cursors
behind_further old new cursors rise behind = All-weaker (λ (cursor : Cursor). cursor.done ≤ old cursor.actor) (λ (cursor : Cursor). cursor.done ≤ new cursor.actor) (λ cursor is. omega (arith, is, rise cursor.actor)) cursors behind

-- ---- the actor's cursor comes up to its place
pub can_come_up : (place : Actor → ℕ) (cursors : List Cursor) (actor : Actor) (up : ℕ) → up ≡ place actor → AreBehind place cursors → All (λ (cursor : Cursor). cursor.actor ≡ actor → cursor.done ≤ up) cursors
can_come_up place cursors actor up at behind = All-weaker (λ (cursor : Cursor). cursor.done ≤ place cursor.actor) (λ (cursor : Cursor). cursor.actor ≡ actor → cursor.done ≤ up) (λ cursor is same. let there : place cursor.actor ≡ place actor = ap place same in omega (arith, is, there, at)) cursors behind

pub behind_up : (place : Actor → ℕ) (cursors : List Cursor) (actor : Actor) (up : ℕ) → up ≡ place actor → AreBehind place cursors → AreBehind place (caught_up actor up cursors)
behind_up place cursors actor up at behind = each_keeps (λ (cursor : Cursor). cursor.done ≤ place cursor.actor) actor up cursors (λ x same was. let there : place x.actor ≡ place actor = ap place same in omega (arith, there, at)) behind

pub covered_up : (lines : List Line) (cursors : List Cursor) (actor : Actor) (up : ℕ) → CoverLines lines cursors → CoverLines lines (caught_up actor up cursors)
covered_up lines cursors actor up covered = All-weaker (λ (line : Line). HasCursor cursors line.actor) (λ (line : Line). HasCursor (caught_up actor up cursors) line.actor) (λ line has. rw (same_actors actor up cursors) has) lines covered
