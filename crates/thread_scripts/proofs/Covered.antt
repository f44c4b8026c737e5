-- For run_board too.
-- Each line's actor has a cursor at first.
use Rattle.std.proofs.Common.{◌≡◌, ℕ, zero, suc, ◌<◌, Bool, true, false, ◌||◌, cond, List, [], ◌∷◌, ◌++◌, append_assoc, ◌⊎◌, ⊎_elim, refl, sym, ap, ◌∙◌, arith}
use Rattle.std.specs.Prelude.{map, filter}
use Rattle.std.specs.List.{list_any}
use Rattle.std.proofs.lemmas.List.Elements.{All-nil, All-cons}
use Rattle.std.proofs.lemmas.List.Folds.{list_any-append}
use Rattle.stamp_base.specs.SetupNumbers.{SetupNumbers}
use Rattle.history_book.specs.declared.item.Actor.{Actor}
use Rattle.history_book.specs.declared.item.Actor.TheVariants.{Clock, Node, Session, Janitor}
use Rattle.script_data.specs.declared.line.Line.{Line}
use Rattle.script_data.specs.Data.{ScriptData}
use Rattle.command_semantics.specs.Answers.{same_actor}
use Rattle.command_semantics.specs.Laws.{ActorFits, AreLinesOf}
use Rattle.command_semantics.proofs.ScriptWalks.{actor_same, same_itself}
use Rattle.turn_rules.specs.declared.seat.Seat.{Seat}
use Rattle.turn_rules.specs.Seats.{first_seat, first_seats, seats_of}
use Rattle.thread_steps.specs.declared.cursor.Cursor.{Cursor}
use Rattle.thread_steps.specs.Done.{first_cursor}
use Rattle.thread_scripts.specs.Actors.{has_lines, actors_of, HasCursor, CoverLines}

-- ---- tests of lists
first_is : (p q : Bool) → p ≡ true → (p || q) ≡ true
first_is p q is = ap (λ (b : Bool). b || q) is

rest_is : (p q : Bool) → q ≡ true → (p || q) ≡ true
rest_is true q is = refl
rest_is false q is = is

any_map : {X Y : Type 0} (p : Y → Bool) (f : X → Y) (xs : List X) → list_any p (map f xs) ≡ list_any (λ x. p (f x)) xs
any_map p f [] = refl
any_map p f (x ∷ xs) = ap (λ (b : Bool). p (f x) || b) (any_map p f xs)

any_before : {X : Type 0} (p : X → Bool) (xs ys : List X) → list_any p xs ≡ true → list_any p (xs ++ ys) ≡ true
any_before p xs ys is = list_any-append p xs ys ∙ first_is (list_any p xs) (list_any p ys) is

any_behind : {X : Type 0} (p : X → Bool) (xs ys : List X) → list_any p ys ≡ true → list_any p (xs ++ ys) ≡ true
any_behind p xs ys is = list_any-append p xs ys ∙ rest_is (list_any p xs) (list_any p ys) is

-- ---- an actor that fits has a first seat

among_kind : (kind : ℕ → Actor) (n count : ℕ) → n < count → list_any (λ (seat : Seat). same_actor seat.actor (kind n)) (seats_of kind count) ≡ true
unfolding seats_of
among_kind kind n zero less = absurd (omega (arith, less))
among_kind kind n (suc count) less =
    let cases : (n < count) ⊎ (n ≡ count) = grind (arith, less) in
    ⊎_elim
    (λ (before : n < count). any_before (λ (seat : Seat). same_actor seat.actor (kind n)) (seats_of kind count) (first_seat (kind count) ∷ []) (among_kind kind n count before))
    (λ (last : n ≡ count). any_behind (λ (seat : Seat). same_actor seat.actor (kind n)) (seats_of kind count) (first_seat (kind count) ∷ []) (first_is (same_actor (kind count) (kind n)) false (ap (λ (m : ℕ). same_actor (kind m) (kind n)) (sym last) ∙ same_itself (kind n))))
    cases

has_first_seat : (setup : SetupNumbers) (actor : Actor) → ActorFits setup actor → list_any (λ (seat : Seat). same_actor seat.actor actor) (first_seats setup) ≡ true
has_first_seat setup Clock fits = refl
has_first_seat setup Janitor fits = refl
has_first_seat setup (Node n) fits = any_before (λ (seat : Seat). same_actor seat.actor (Node n)) (seats_of (λ n. Node n) setup.nodes) (seats_of (λ s. Session s) 16) (among_kind (λ n. Node n) n setup.nodes fits)
has_first_seat setup (Session s) fits = any_behind (λ (seat : Seat). same_actor seat.actor (Session s)) (seats_of (λ n. Node n) setup.nodes) (seats_of (λ s. Session s) 16) (among_kind (λ s. Session s) s 16 fits)

-- ---- and a cursor, where it has a line
still_there : (passes : Actor → Bool) (actor x : Actor) (xs : List Actor) → passes actor ≡ true → (list_any (λ (a : Actor). same_actor a actor) xs ≡ true → list_any (λ (a : Actor). same_actor a actor) (filter passes xs) ≡ true) → (here : Bool) → same_actor x actor ≡ here → (kept : Bool) → passes x ≡ kept → (here || list_any (λ (a : Actor). same_actor a actor) xs) ≡ true → list_any (λ (a : Actor). same_actor a actor) (cond kept (x ∷ filter passes xs) (filter passes xs)) ≡ true
still_there passes actor x xs mine later true is true kept there = first_is (same_actor x actor) (list_any (λ (a : Actor). same_actor a actor) (filter passes xs)) is
still_there passes actor x xs mine later true is false kept there =
    let clash : true ≡ false = sym mine ∙ ap passes (sym (actor_same x actor is)) ∙ kept in absurd (cc)
still_there passes actor x xs mine later false is true kept there = rest_is (same_actor x actor) (list_any (λ (a : Actor). same_actor a actor) (filter passes xs)) (later there)
still_there passes actor x xs mine later false is false kept there = later there

among_kept : (passes : Actor → Bool) (actor : Actor) (xs : List Actor) → passes actor ≡ true → list_any (λ (a : Actor). same_actor a actor) xs ≡ true → list_any (λ (a : Actor). same_actor a actor) (filter passes xs) ≡ true
among_kept passes actor [] mine there = there
among_kept passes actor (x ∷ xs) mine there = still_there passes actor x xs mine (among_kept passes actor xs mine) (same_actor x actor) refl (passes x) refl there

of_first_cursors : (actors : List Actor) → map (λ (cursor : Cursor). cursor.actor) (map first_cursor actors) ≡ actors
of_first_cursors [] = refl
of_first_cursors (actor ∷ actors) = ap (λ rest. actor ∷ rest) (of_first_cursors actors)

has_first_cursor : (script : ScriptData) (actor : Actor) → ActorFits script.setup actor → has_lines script actor ≡ true → HasCursor (map first_cursor (actors_of script)) actor
has_first_cursor script actor fits some =
    ap (λ (actors : List Actor). list_any (λ (a : Actor). same_actor a actor) actors) (of_first_cursors (actors_of script))
    ∙ among_kept (has_lines script) actor (map (λ (seat : Seat). seat.actor) (first_seats script.setup)) some (any_map (λ (a : Actor). same_actor a actor) (λ (seat : Seat). seat.actor) (first_seats script.setup) ∙ has_first_seat script.setup actor fits)

-- the lines before these, and these, are the script's
covered_from : (script : ScriptData) (before lines : List Line) → before ++ lines ≡ script.lines → AreLinesOf script.setup lines → CoverLines lines (map first_cursor (actors_of script))
unfolding AreLinesOf
covered_from script before [] is fit = All-nil (λ (line : Line). HasCursor (map first_cursor (actors_of script)) line.actor)
covered_from script before (line ∷ lines) is fit =
    let some : has_lines script line.actor ≡ true = ap (λ (ls : List Line). list_any (λ (l : Line). same_actor l.actor line.actor) ls) (sym is) ∙ any_behind (λ (l : Line). same_actor l.actor line.actor) before (line ∷ lines) (first_is (same_actor line.actor line.actor) (list_any (λ (l : Line). same_actor l.actor line.actor) lines) (same_itself line.actor)) in
    All-cons (λ (l : Line). HasCursor (map first_cursor (actors_of script)) l.actor) line lines (has_first_cursor script line.actor fit.0 some) (covered_from script (before ++ line ∷ []) lines (append_assoc before (line ∷ []) lines ∙ is) fit.2)

pub covered_at_first : (script : ScriptData) → AreLinesOf script.setup script.lines → CoverLines script.lines (map first_cursor (actors_of script))
covered_at_first script fit = covered_from script [] script.lines refl fit
