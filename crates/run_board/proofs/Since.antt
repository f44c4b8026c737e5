-- The items that a turn has appended are those of the history from the old length on.
use Rattle.run_board.proofs.Names.{◌≡◌, ℕ, ◌+◌, ◌≤◌, List, [], ◌++◌, Some, Result, Ok, Err, inl, inr, drop, length, sym}
use Rattle.run_board.proofs.Names.{◌∙◌, ap, arith, length-append, Item, Event, Stopped, Refused, StoreFault, NoMemory}
use Rattle.run_board.proofs.Names.{Turn, event_of, carried_items, step_in, TurnsBy, Makes, Ran, reached_by, with_turn}
use Rattle.std.proofs.Math.Seq.{drop-append_seam, drop-length}
use Rattle.command_semantics.specs.Runs.{Played}
use Rattle.run_board.proofs.TurnMade.{played_on}

abbrev pub items_of : Ran → List Item
items_of r = carried_items r.script r.turns

-- the history goes on from this length by these items
pub record HasGrown (before : ℕ) (items now : List Item) : Type 0 where
  pub least : before ≤ length now
  pub since : drop before now ≡ items

pub by_append : (before : ℕ) (old items now : List Item) → before ≡ length old → now ≡ old ++ items → HasGrown before items now
by_append before old items now is grown =
    let longer : length now ≡ length old + length items = ap (λ (xs : List Item). length xs) grown ∙ length-append old items in
    record {
      least = omega (arith, longer, is);
      since = ap (λ (n : ℕ). drop n now) is ∙ ap (λ (xs : List Item). drop (length old) xs) grown ∙ drop-append_seam old items;
    }

by_none : (before : ℕ) (old items now : List Item) → before ≡ length old → items ≡ [] → now ≡ old → HasGrown before items now
by_none before old items now is none same =
    let alike : length now ≡ length old = ap (λ (xs : List Item). length xs) same in
    record {
      least = omega (arith, alike, is);
      since = ap (λ (n : ℕ). drop n now) is ∙ ap (λ (xs : List Item). drop (length old) xs) same ∙ drop-length old ∙ sym none;
    }

turn_items : (old : Ran) (t : Turn) (e : Event) → event_of old.script (reached_by old) t ≡ Some e → items_of (with_turn old t) ≡ items_of old ++ (step_in old e).items
turn_items old t e is = ap (λ (p : Played). p.items) (played_on old.script old.turns t e is)

pub has_grown : (old new : Ran) (t : Turn) (e : Event) (before : ℕ) → event_of old.script (reached_by old) t ≡ Some e → before ≡ length (items_of old) → TurnsBy old t e new → HasGrown before (step_in old e).items (items_of new)
has_grown old new t e before is length_is (inl made) = by_append before (items_of old) (step_in old e).items (items_of new) length_is (ap items_of made.1 ∙ turn_items old t e is)
has_grown old new t e before is length_is (inr quiet) = by_none before (items_of old) (step_in old e).items (items_of new) length_is quiet.none (ap items_of quiet.same)

-- also where memory was refused the history is no shorter
pub grown_least : (old new : Ran) (t : Turn) (e : Event) (answer : Result Unit Stopped) (before : ℕ) → event_of old.script (reached_by old) t ≡ Some e → before ≡ length (items_of old) → Makes old t e answer new → before ≤ length (items_of new)
grown_least old new t e (Ok done) before is length_is made = (has_grown old new t e before is length_is made.made).least
grown_least old new t e (Err (Refused why)) before is length_is made = (has_grown old new t e before is length_is made.made).least
grown_least old new t e (Err (StoreFault store)) before is length_is made = (has_grown old new t e before is length_is made.made).least
grown_least old new t e (Err NoMemory) before is length_is made =
    let same : length (items_of new) ≡ length (items_of old) = ap (λ (r : Ran). length (items_of r)) made in
    omega (arith, same, length_is)
