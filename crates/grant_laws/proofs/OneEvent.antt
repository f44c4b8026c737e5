-- Lines of one event: a write and a take.
use Rattle.grant_laws.proofs.Names.{◌≡◌, ℕ, ◌≤◌, List, [], ◌∷◌, ◌++◌, Some}
use Rattle.grant_laws.proofs.Names.{refl, ap, arith, and_left, and_right, le-ltb}
use Rattle.grant_laws.proofs.Names.{Node, Session, Item}
use Rattle.grant_laws.proofs.Names.{granted_at}
use Rattle.grant_laws.proofs.Names.{Event}
use Rattle.grant_laws.proofs.Names.{take_item}
use Rattle.grant_laws.proofs.Names.{rules_of}
use Rattle.grant_laws.proofs.Names.{Line, ScriptData, EventsLowerWhatIsLeft, Played, step_of, played}
use Rattle.grant_laws.proofs.Names.{next_in, run_after, left_in, opened, line_of, reading_of, Appends, CanWrite}
use Rattle.grant_laws.proofs.Names.{CanTake, WritesAreGranted, TakesAreGranted}
use Rattle.history_book.specs.declared.item.Item.TheVariants as item
use Rattle.machine.specs.declared.event.Event.TheVariants as event
use Rattle.script_data.specs.declared.line.Verb.TheVariants as verb
use Rattle.grant_laws.proofs.LongerRuns.{in_one, leads_one, line_appends}
use Rattle.grant_laws.proofs.Before.{Known, known_before, granted}

-- a line whose first event appends the item alone
pub first_appends : (script : ScriptData) (line : Line) (p : Played) (e : Event) (x : Item) → 1 ≤ left_in line (opened p) → next_in script line (opened p) ≡ Some e → (step_of script p e).items ≡ x ∷ [] → Appends p.items (played script p e).items x
first_appends script line p e x enough is tells = record { added = x ∷ []; is = ap (λ (xs : List Item). p.items ++ xs) tells; has = in_one x }

-- ---- a write
-- the event that the line makes
pub write_tells : (script : ScriptData) (p : Played) (s key : ℕ) (value : List ℕ) (can : CanWrite script p s key) → (step_of script p (event.Write s key value)).items ≡ item.Write s can.work.start key value ∷ []
write_tells script p s key value can = grind arith

pub writes_are_granted : WritesAreGranted
writes_are_granted script p number s key value before can =
    let line : Line = line_of number (Session s) (verb.Write key value) in
    let e : Event = event.Write s key value in
    let x : Item = item.Write s can.work.start key value in
    granted script line p x before (line_appends script line p 1 (run_after script line (opened p) e) x (omega arith) (leads_one script line (opened p) e refl) (first_appends script line p e x (omega arith) refl (write_tells script p s key value can)))

-- ---- a take
-- the take of the next term
abbrev pub next_take : ScriptData → Played → ℕ → Item
next_take script p node = take_item node (reading_of script p node) (granted_at (rules_of script.setup) p.state.master (reading_of script p node))

pub take_tells : (script : ScriptData) (p : Played) (node : ℕ) → p.state.setup ≡ script.setup → CanTake script p node → (step_of script p (event.Take node (reading_of script p node))).items ≡ next_take script p node ∷ []
take_tells script p node setup_is can = grind (arith, le-ltb, and_left, and_right)

pub takes_are_granted : EventsLowerWhatIsLeft → TakesAreGranted
takes_are_granted lowers script p number node before can =
    let line : Line = line_of number (Node node) verb.Take in
    let e : Event = event.Take node (reading_of script p node) in
    let x : Item = next_take script p node in
    let known : Known script p = known_before lowers script line p before in
    granted script line p x before (line_appends script line p 1 (run_after script line (opened p) e) x (omega arith) (leads_one script line (opened p) e refl) (first_appends script line p e x (omega arith) refl (take_tells script p node known.reached.setup can)))
