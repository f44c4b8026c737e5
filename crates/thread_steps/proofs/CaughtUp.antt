-- For thread_scripts and run_board too.
-- For crates that keep facts of cursors: what holds of each cursor still does once one has come up.
use Rattle.std.proofs.Common.{◌≡◌, ℕ, Bool, true, false, cond, List, [], ◌∷◌, All, inl, inr, refl, sym, ap, ◌∙◌}
use Rattle.std.specs.Prelude.{map}
use Rattle.std.proofs.lemmas.Bool.Decides.{eqb_tells}
use Rattle.std.proofs.lemmas.List.Elements.{All-nil, All-cons, All-head, All-tail}
use Rattle.history_book.specs.declared.item.Actor.{Actor}
use Rattle.history_book.specs.declared.item.Actor.TheVariants.{Clock, Node, Session, Janitor}
use Rattle.thread_steps.specs.declared.cursor.Cursor.{Cursor}
use Rattle.thread_steps.specs.Done.{is_same, caught_up}

pub actor_is : (a b : Actor) → is_same a b ≡ true → a ≡ b
actor_is Clock Clock is = refl
actor_is (Node n) (Node m) is = elim (eqb_tells n m) [
  | inl same ↦ ap (λ (k : ℕ). Node k) same.1
  | inr other ↦ let clash : true ≡ false = sym is ∙ other.0 in absurd (cc)
]
actor_is (Session n) (Session m) is = elim (eqb_tells n m) [
  | inl same ↦ ap (λ (k : ℕ). Session k) same.1
  | inr other ↦ let clash : true ≡ false = sym is ∙ other.0 in absurd (cc)
]
actor_is Janitor Janitor is = refl
actor_is _ _ is = absurd (cc)

each_by : (P : Cursor → Type 0) (actor : Actor) (place : ℕ) (cursor : Cursor) (cursors : List Cursor) (here : Bool) → ((x : Cursor) → x.actor ≡ actor → P x → P (record x { done = place })) → (here ≡ true → cursor.actor ≡ actor) → All P (cursor ∷ cursors) → All P (caught_up actor place cursors) → All P (cond here (record cursor { done = place } ∷ cursors) (cursor ∷ caught_up actor place cursors))
each_by P actor place cursor cursors true moved same each others = All-cons P (record cursor { done = place }) cursors (moved cursor (same refl) (All-head P cursor cursors each)) (All-tail P cursor cursors each)
each_by P actor place cursor cursors false moved same each others = All-cons P cursor (caught_up actor place cursors) (All-head P cursor cursors each) others

-- where the cursor that comes up keeps a fact, every cursor does
pub each_keeps : (P : Cursor → Type 0) (actor : Actor) (place : ℕ) (cursors : List Cursor) → ((x : Cursor) → x.actor ≡ actor → P x → P (record x { done = place })) → All P cursors → All P (caught_up actor place cursors)
unfolding caught_up
each_keeps P actor place [] moved each = All-nil P
each_keeps P actor place (cursor ∷ cursors) moved each = each_by P actor place cursor cursors (is_same cursor.actor actor) moved (actor_is cursor.actor actor) each (each_keeps P actor place cursors moved (All-tail P cursor cursors each))

actors_by : (actor : Actor) (place : ℕ) (cursor : Cursor) (cursors : List Cursor) (here : Bool) → map (λ (x : Cursor). x.actor) (caught_up actor place cursors) ≡ map (λ (x : Cursor). x.actor) cursors → map (λ (x : Cursor). x.actor) (cond here (record cursor { done = place } ∷ cursors) (cursor ∷ caught_up actor place cursors)) ≡ map (λ (x : Cursor). x.actor) (cursor ∷ cursors)
actors_by actor place cursor cursors true others = refl
actors_by actor place cursor cursors false others = ap (λ actors. cursor.actor ∷ actors) others

-- the cursors are of the same actors
pub same_actors : (actor : Actor) (place : ℕ) (cursors : List Cursor) → map (λ (x : Cursor). x.actor) (caught_up actor place cursors) ≡ map (λ (x : Cursor). x.actor) cursors
unfolding caught_up
same_actors actor place [] = refl
same_actors actor place (cursor ∷ cursors) = actors_by actor place cursor cursors (is_same cursor.actor actor) (same_actors actor place cursors)
