use Rattle.std.proofs.Common.{◌≡◌, ℕ, suc, ◌<◌, true, cond, List, ◌∷◌, ◌++◌, drop, take, length, get_or, set, sym, ap, ◌∙◌, rules, drop-cons}
use Rattle.std.proofs.lemmas.List.{set_split}
use Rattle.history_book.specs.declared.item.Actor.{Actor}
use Rattle.thread_steps.specs.declared.cursor.Cursor.{Cursor}
use Rattle.thread_steps.specs.Done.{is_same, caught_up}
use Rattle.thread_steps.proofs.cursor.move_up.Goals as goal

first_up : (actor : Actor) (place : ℕ) (cursor : Cursor) (cursors : List Cursor) → is_same cursor.actor actor ≡ true → caught_up actor place (cursor ∷ cursors) ≡ record cursor { done = place } ∷ cursors
unfolding caught_up
first_up actor place cursor cursors same = ap (λ here. cond here (record cursor { done = place } ∷ cursors) (cursor ∷ caught_up actor place cursors)) same

-- where no cursor before this one is the actor's, this one comes up
came_up : (actor : Actor) (place : ℕ) (cursors : List Cursor) (i : ℕ) (cursor : Cursor) → i < length cursors → cursor ≡ get_or cursors i cursor → is_same cursor.actor actor ≡ true
    → take i cursors ++ caught_up actor place (drop i cursors) ≡ caught_up actor place cursors
    → set cursors i (record cursor { done = place }) ≡ caught_up actor place cursors
came_up actor place cursors i cursor within is same others =
    let rest : drop i cursors ≡ cursor ∷ drop (suc i) cursors = drop-cons cursors i cursor within ∙ ap (λ (x : Cursor). x ∷ drop (suc i) cursors) (sym is) in
    set_split cursors i (record cursor { done = place }) within
    ∙ ap (λ xs. take i cursors ++ xs) (sym (ap (caught_up actor place) rest ∙ first_up actor place cursor (drop (suc i) cursors) same))
    ∙ others

same_read : (cursors : List Cursor) (i : ℕ) (seen here : Cursor) → i < length cursors → seen ≡ get_or cursors i seen → here ≡ get_or cursors i here → here ≡ seen
same_read cursors i seen here within s h =
    let first : drop i cursors ≡ seen ∷ drop (suc i) cursors = drop-cons cursors i seen within ∙ ap (λ (x : Cursor). x ∷ drop (suc i) cursors) (sym s) in
    let second : drop i cursors ≡ here ∷ drop (suc i) cursors = drop-cons cursors i here within ∙ ap (λ (x : Cursor). x ∷ drop (suc i) cursors) (sym h) in
    let both : here ∷ drop (suc i) cursors ≡ seen ∷ drop (suc i) cursors = sym second ∙ first in cc

pub returns-then-eq-clause-cursors : goal.returns-then-eq-clause-cursors
returns-then-eq-clause-cursors c =
    let within : c.loop-number.number < length c.loop-number.cursors.items = search rules in
    let seen : is_same c.index.result.now.actor c.args.actor.now ≡ true = search rules in
    let same = same_read c.loop-number.cursors.items c.loop-number.number c.index.result.now c.index_mut.result.now within c.index.ensures c.index_mut.ensures.value in
    came_up c.args.actor.now c.args.place c.loop-number.cursors.items c.loop-number.number c.index_mut.result.now within c.index_mut.ensures.value (ap (λ (x : Cursor). is_same x.actor c.args.actor.now) same ∙ seen) c.loop-number.invariant.others
    ∙ ap (caught_up c.args.actor.now c.args.place) c.loop-number.invariant.same
