-- A step of a sweep lowers what is left of it; a failed one ends it.
use Rattle.command_semantics.proofs.Names.{◌≡◌, ℕ, ◌+◌, ◌<◌, ◌≤◌, List, [], ◌∷◌}
use Rattle.command_semantics.proofs.Names.{Option, Some, None, refl, sym, ap, subst, arith, length}
use Rattle.command_semantics.proofs.Names.{same_Some, Fate, Works, FailsUnchanged, FailsApplied, Janitor, Item, Mark}
use Rattle.command_semantics.proofs.Names.{Row, keys_of_version, Ask, Told, finish_asks}
use Rattle.command_semantics.proofs.Names.{undo_asks, first_ask, SweepPoint, Marking, Listing, Left, Undecided}
use Rattle.command_semantics.proofs.Names.{Sweeping, sweep_ask, sweep_after_table, sweep_after_marking, sweep_told}
use Rattle.command_semantics.proofs.Names.{State, met, told_by, rows_after}
use Rattle.command_semantics.proofs.Names.{Step, stepped, on_swept, still_open}
use Rattle.command_semantics.proofs.Names.{sweep_met, sweep_lists, sweep_at, sweep_step_on, Verb, ReachedInvariant}
use Rattle.command_semantics.proofs.Names.{Interruption, Steps, halt_of, unless_halted, sweep_left_at, sweep_left}
use Rattle.command_semantics.proofs.Names.{janitor_left}
use Rattle.system_parts.specs.declared.asks.Ask.TheVariants as ask
use Rattle.system_parts.specs.Sweep.{Table}
use Rattle.machine.specs.declared.event.Event.TheVariants as event
use Rattle.isolation_laws.specs.UnderWay.{IsSweptAt}
use Rattle.command_semantics.proofs.Clients.{undo_long, finish_long}

abbrev pub SweepLowers : ℕ → Verb → Step → Type 0
SweepLowers bound verb step = janitor_left step.state verb (unless_halted Steps (halt_of step.stop)) < bound

-- ---- a sweep is opened
pub sweep_open_lowers : (w : State) (node txn : ℕ) (verb : Verb) (fate : Fate) → SweepLowers (length (keys_of_version w.rows txn) + 5 + sweep_left w.rows w.sweep) verb (stepped w (event.SweepOpen node txn) fate)
sweep_open_lowers w node txn verb fate = grind arith

-- ---- a step
-- a sweep that has ended has nothing left
open_most : (rows : List Row) (s : Sweeping) (next : Option Ask) → sweep_left rows (still_open s next) ≤ sweep_left_at (length (keys_of_version rows s.txn)) s.point
open_most rows s next = grind arith

halted_sweep : (w : State) (verb : Verb) (halt : Option Interruption) (bound : ℕ) → sweep_left w.rows w.sweep < bound → janitor_left w verb (unless_halted Steps halt) < bound
halted_sweep w verb halt bound less = grind arith

-- a step that worked leads on to the point after its answer
worked : (w : State) (s : Sweeping) (asked : Ask) (verb : Verb) (bound : ℕ) → (let after : Sweeping = sweep_told s (told_by asked w.rows w.pairs) in sweep_left_at (length (keys_of_version (rows_after asked w.rows) after.txn)) after.point < bound) → SweepLowers bound verb (on_swept w (sweep_met s asked (met Janitor asked Works w.rows w.pairs)))
worked w s asked verb bound less = grind (arith, halted_sweep, open_most)

-- or has failed
met_lowers : (w : State) (s : Sweeping) (asked : Ask) (verb : Verb) (bound : ℕ) (fate : Fate) → 1 ≤ bound → (let after : Sweeping = sweep_told s (told_by asked w.rows w.pairs) in sweep_left_at (length (keys_of_version (rows_after asked w.rows) after.txn)) after.point < bound) → SweepLowers bound verb (on_swept w (sweep_met s asked (met Janitor asked fate w.rows w.pairs)))
met_lowers w s asked verb bound Works some less = worked w s asked verb bound less
met_lowers w s asked verb bound FailsUnchanged some less = omega (arith, some)
met_lowers w s asked verb bound FailsApplied some less = omega (arith, some)

-- the points after the table and the mark
table_less : (keys txn epoch : ℕ) (answer : Told) → sweep_left_at keys (sweep_after_table txn epoch answer) < keys + 4
table_less keys txn epoch answer = grind arith

marking_less : (keys : ℕ) (answer : Told) → sweep_left_at keys (sweep_after_marking answer) < keys + 3
marking_less keys answer = grind arith

-- the asks that a list of keys leaves
listed : (w : State) (txn epoch : ℕ) (found : Mark) (verb : Verb) (fate : Fate) → let s : Sweeping = record { txn = txn; epoch = epoch; point = Listing found } in SweepLowers (length (keys_of_version w.rows txn) + 2) verb (on_swept w (sweep_lists s txn fate w.rows w.pairs))
listed w txn epoch found verb fate = grind (arith, finish_long, undo_long)

-- ---- the asks that are left list no keys
abbrev NoKeys : Ask → Type 0
NoKeys (ask.Keys txn) = ⊥
NoKeys _ = Unit {0}

finish_no_keys : (t c : ℕ) (keys : List ℕ) (asked : Ask) (asks : List Ask) → asked ∷ asks ≡ finish_asks t c keys → NoKeys asked
finish_no_keys t c [] asked asks is = subst (λ (x : Ask). NoKeys x) (sym (same_Some asked (ask.Remove t) (ap first_ask is))) tt
finish_no_keys t c (k ∷ ks) asked asks is = subst (λ (x : Ask). NoKeys x) (sym (same_Some asked (ask.Shadow k t c) (ap first_ask is))) tt

undo_no_keys : (t : ℕ) (keys : List ℕ) (asked : Ask) (asks : List Ask) → asked ∷ asks ≡ undo_asks t keys → NoKeys asked
undo_no_keys t [] asked asks is = absurd (cc)
undo_no_keys t (k ∷ ks) asked asks is = subst (λ (x : Ask). NoKeys x) (sym (same_Some asked (ask.Erase k t) (ap first_ask is))) tt

left_no_keys : (w : State) (h : List Item) (t : ℕ) (asked : Ask) (asks : List Ask) → IsSweptAt w.rows w.pairs h t (Left (asked ∷ asks)) → NoKeys asked
left_no_keys w h t asked asks h1 = grind (arith, finish_no_keys, undo_no_keys)

left_by : (w : State) (txn epoch : ℕ) (asked : Ask) (asks : List Ask) (verb : Verb) (fate : Fate) → NoKeys asked → let s : Sweeping = record { txn = txn; epoch = epoch; point = Left (asked ∷ asks) } in SweepLowers (length (asked ∷ asks)) verb (on_swept w (sweep_at s fate w.rows w.pairs (Some asked)))
left_by w txn epoch asked asks verb fate none = grind arith

-- ---- at each point
sweep_lowers_at : (w : State) (h : List Item) (verb : Verb) (fate : Fate) (txn epoch : ℕ) (point : SweepPoint) → let s : Sweeping = record { txn = txn; epoch = epoch; point = point } in IsSweptAt w.rows w.pairs h txn point → (sweep_ask s ≡ None → ⊥) → SweepLowers (sweep_left_at (length (keys_of_version w.rows txn)) point) verb (on_swept w (sweep_at s fate w.rows w.pairs (sweep_ask s)))
sweep_lowers_at w h verb fate txn epoch Table knows asks = met_lowers w (record { txn = txn; epoch = epoch; point = Table }) (ask.Get txn) verb (length (keys_of_version w.rows txn) + 4) fate (omega arith) (table_less (length (keys_of_version w.rows txn)) txn epoch (told_by (ask.Get txn) w.rows w.pairs))
sweep_lowers_at w h verb fate txn epoch Marking knows asks = met_lowers w (record { txn = txn; epoch = epoch; point = Marking }) (ask.Mark txn) verb (length (keys_of_version w.rows txn) + 3) fate (omega arith) (marking_less (length (keys_of_version w.rows txn)) (told_by (ask.Mark txn) w.rows w.pairs))
sweep_lowers_at w h verb fate txn epoch (Listing found) knows asks = listed w txn epoch found verb fate
sweep_lowers_at w h verb fate txn epoch (Left []) knows asks = absurd (asks refl)
sweep_lowers_at w h verb fate txn epoch (Left (asked ∷ rest)) knows asks = left_by w txn epoch asked rest verb fate (left_no_keys w h txn asked rest knows)
sweep_lowers_at w h verb fate txn epoch Undecided knows asks = absurd (asks refl)

sweep_lowers_by : (w : State) (h : List Item) (verb : Verb) (fate : Fate) (sweep : Option Sweeping) → ReachedInvariant w h → w.sweep ≡ sweep → SweepLowers (1 + sweep_left w.rows sweep) verb (on_swept w (sweep_step_on fate sweep w.rows w.pairs))
sweep_lowers_by w h verb fate sweep stands is = grind (arith, sweep_lowers_at)

-- the first step of a line, also where no sweep is open
pub sweep_first : (w : State) (h : List Item) (verb : Verb) (fate : Fate) → ReachedInvariant w h → SweepLowers (1 + sweep_left w.rows w.sweep) verb (stepped w event.SweepStep fate)
sweep_first w h verb fate stands = sweep_lowers_by w h verb fate w.sweep stands refl

-- a step of an open sweep
sweep_open_by : (w : State) (h : List Item) (verb : Verb) (fate : Fate) (s : Sweeping) (sweep : Option Sweeping) → ReachedInvariant w h → w.sweep ≡ sweep → sweep ≡ Some s → SweepLowers (sweep_left w.rows sweep) verb (on_swept w (sweep_step_on fate sweep w.rows w.pairs))
sweep_open_by w h verb fate s sweep stands is there = grind (arith, sweep_lowers_at)

pub sweep_lowers : (w : State) (h : List Item) (verb : Verb) (fate : Fate) (s : Sweeping) → ReachedInvariant w h → w.sweep ≡ Some s → SweepLowers (sweep_left w.rows w.sweep) verb (stepped w event.SweepStep fate)
sweep_lowers w h verb fate s stands is = sweep_open_by w h verb fate s w.sweep stands refl is
