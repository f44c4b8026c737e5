-- Few cursors stay few, and what they count in all is below 2 ^ 64.
use Rattle.std.proofs.Common.{◌≡◌, ℕ, ◌<◌, ◌≤◌, ◌^◌, List, [], ◌∷◌, All, length, refl, sym, ap, ◌∙◌, arith}
use Rattle.std.specs.Prelude.{map}
use Rattle.std.proofs.lemmas.List.{length-map}
use Rattle.std.proofs.lemmas.List.Elements.{All-weaker, All-map}
use Rattle.std.proofs.lemmas.List.Sums.{sum_by-le}
use Rattle.history_book.specs.declared.item.Actor.{Actor}
use Rattle.thread_steps.specs.declared.cursor.Cursor.{Cursor}
use Rattle.thread_steps.specs.Done.{first_cursor, all_done, caught_up, AreFew}
use Rattle.thread_steps.proofs.CaughtUp.{each_keeps, same_actors}

pub few_done : (cursors : List Cursor) → AreFew cursors → all_done cursors < 2 ^ 64
few_done cursors few =
    let each : All (λ (cursor : Cursor). cursor.done ≤ 2 ^ 32) cursors = All-weaker (λ (cursor : Cursor). cursor.done < 2 ^ 32) (λ (cursor : Cursor). cursor.done ≤ 2 ^ 32) (λ cursor small. omega (arith, small)) cursors few.each in
    omega (arith, few.count, sum_by-le (λ (cursor : Cursor). cursor.done) (2 ^ 32) cursors each)

-- ---- before the first line
pub few_at_first : (actors : List Actor) → length actors < 2 ^ 32 → AreFew (map first_cursor actors)
few_at_first actors few = record {
  count = rw length-map few;
  each = All-map (λ (cursor : Cursor). cursor.done < 2 ^ 32) first_cursor actors (λ k d within. omega arith);
}

pub none_done : (actors : List Actor) → all_done (map first_cursor actors) ≡ 0
none_done [] = refl
none_done (actor ∷ actors) = none_done actors

-- ---- once a cursor has come up
count_of : (cursors : List Cursor) → length (map (λ (cursor : Cursor). cursor.actor) cursors) ≡ length cursors
count_of cursors = rw length-map refl

pub same_count : (actor : Actor) (place : ℕ) (cursors : List Cursor) → length (caught_up actor place cursors) ≡ length cursors
same_count actor place cursors = sym (count_of (caught_up actor place cursors)) ∙ ap (λ (actors : List Actor). length actors) (same_actors actor place cursors) ∙ count_of cursors

pub still_few : (actor : Actor) (place : ℕ) (cursors : List Cursor) → place < 2 ^ 32 → AreFew cursors → AreFew (caught_up actor place cursors)
still_few actor place cursors small few = record {
  count = rw (same_count actor place cursors) few.count;
  each = each_keeps (λ (cursor : Cursor). cursor.done < 2 ^ 32) actor place cursors (λ x same was. small) few.each;
}
