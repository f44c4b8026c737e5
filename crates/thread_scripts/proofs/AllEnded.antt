-- For run_board too.
-- Where every cursor is at its end, no actor has a line left.
use Rattle.std.proofs.Common.{◌≡◌, ℕ, ◌≤◌, Bool, true, false, ◌||◌, cond, List, [], ◌∷◌, None, refl, sym, ap, ◌∙◌, subst, arith}
use Rattle.std.specs.Prelude.{map, filter, slice_get}
use Rattle.std.specs.List.{list_any}
use Rattle.std.proofs.lemmas.List.Elements.{All-head, All-tail}
use Rattle.std.proofs.lemmas.Option.{slice_get_past}
use Rattle.history_book.specs.declared.item.Actor.{Actor}
use Rattle.script_data.specs.declared.line.Line.{Line}
use Rattle.script_data.specs.Data.{ScriptData}
use Rattle.command_semantics.specs.Answers.{same_actor}
use Rattle.command_semantics.proofs.ScriptWalks.{actor_same}
use Rattle.turn_rules.specs.Seats.{lines_of}
use Rattle.thread_steps.specs.declared.cursor.Cursor.{Cursor}
use Rattle.thread_scripts.proofs.ListEnd.{ends_by}
use Rattle.thread_scripts.specs.Actors.{AreBehind, HasCursor, CoverLines, AreAtTheirEnds}

further_none : (lines : List Line) (i j : ℕ) → slice_get lines i ≡ None → i ≤ j → slice_get lines j ≡ None
further_none lines i j none less = slice_get_past lines j (omega (arith, ends_by lines i none, less))

-- no line of the actor is left from its place on
abbrev HasEnded : ScriptData → (Actor → ℕ) → Actor → Type 0
HasEnded script place actor = slice_get (lines_of script actor) (place actor) ≡ None

-- ---- an actor with a cursor
ended_at : (script : ScriptData) (place : Actor → ℕ) (cursor : Cursor) (actor : Actor) → cursor.done ≤ place cursor.actor → slice_get (lines_of script cursor.actor) cursor.done ≡ None → cursor.actor ≡ actor → HasEnded script place actor
ended_at script place cursor actor behind none same = subst (λ (a : Actor). slice_get (lines_of script a) (place a) ≡ None) same (further_none (lines_of script cursor.actor) cursor.done (place cursor.actor) none behind)

ended_by : (script : ScriptData) (place : Actor → ℕ) (cursor : Cursor) (cursors : List Cursor) (actor : Actor) → cursor.done ≤ place cursor.actor → slice_get (lines_of script cursor.actor) cursor.done ≡ None → (HasCursor cursors actor → HasEnded script place actor) → (here : Bool) → same_actor cursor.actor actor ≡ here → (here || list_any (λ (a : Actor). same_actor a actor) (map (λ (c : Cursor). c.actor) cursors)) ≡ true → HasEnded script place actor
ended_by script place cursor cursors actor behind none later true is has = ended_at script place cursor actor behind none (actor_same cursor.actor actor is)
ended_by script place cursor cursors actor behind none later false is has = later has

ended_with : (script : ScriptData) (place : Actor → ℕ) (cursors : List Cursor) (actor : Actor) → AreBehind place cursors → AreAtTheirEnds script cursors → HasCursor cursors actor → HasEnded script place actor
ended_with script place [] actor behind ends has = let clash : false ≡ true = has in absurd (cc)
ended_with script place (cursor ∷ cursors) actor behind ends has =
    let P : Cursor → Type 0 = λ c. c.done ≤ place c.actor in
    let E : Cursor → Type 0 = λ c. slice_get (lines_of script c.actor) c.done ≡ None in
    ended_by script place cursor cursors actor (All-head P cursor cursors behind) (All-head E cursor cursors ends) (ended_with script place cursors actor (All-tail P cursor cursors behind) (All-tail E cursor cursors ends)) (same_actor cursor.actor actor) refl has

-- ---- an actor with none
none_by : (actor : Actor) (line : Line) (rest : List Line) → (line.actor ≡ actor → ⊥) → rest ≡ [] → (same : Bool) → same_actor line.actor actor ≡ same → cond same (line ∷ rest) rest ≡ []
none_by actor line rest other none true is = absurd (other (actor_same line.actor actor is))
none_by actor line rest other none false is = none

no_lines : (cursors : List Cursor) (actor : Actor) (lines : List Line) → CoverLines lines cursors → list_any (λ (a : Actor). same_actor a actor) (map (λ (c : Cursor). c.actor) cursors) ≡ false → filter (λ (line : Line). same_actor line.actor actor) lines ≡ []
no_lines cursors actor [] covered none = refl
no_lines cursors actor (line ∷ lines) covered none =
    let P : Line → Type 0 = λ l. HasCursor cursors l.actor in
    none_by actor line (filter (λ (l : Line). same_actor l.actor actor) lines)
    (λ same. let clash : true ≡ false = sym (subst (λ (a : Actor). HasCursor cursors a) same (All-head P line lines covered)) ∙ none in cc)
    (no_lines cursors actor lines (All-tail P line lines covered) none)
    (same_actor line.actor actor) refl

none_of : (n : ℕ) → slice_get {X = Line} [] n ≡ None
none_of n = slice_get_past [] n (omega arith)

ended_if : (script : ScriptData) (place : Actor → ℕ) (cursors : List Cursor) (actor : Actor) → AreBehind place cursors → CoverLines script.lines cursors → AreAtTheirEnds script cursors → (has : Bool) → list_any (λ (a : Actor). same_actor a actor) (map (λ (c : Cursor). c.actor) cursors) ≡ has → HasEnded script place actor
ended_if script place cursors actor behind covered ends true is = ended_with script place cursors actor behind ends is
ended_if script place cursors actor behind covered ends false is = ap (λ (lines : List Line). slice_get lines (place actor)) (no_lines cursors actor script.lines covered is) ∙ none_of (place actor)

-- where every cursor is at its end, no actor has a line left
pub all_ended : (script : ScriptData) (place : Actor → ℕ) (cursors : List Cursor) → AreBehind place cursors → CoverLines script.lines cursors → AreAtTheirEnds script cursors → (actor : Actor) → slice_get (lines_of script actor) (place actor) ≡ None
all_ended script place cursors behind covered ends actor = ended_if script place cursors actor behind covered ends (list_any (λ (a : Actor). same_actor a actor) (map (λ (c : Cursor). c.actor) cursors)) refl
