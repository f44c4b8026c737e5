-- The items of the steps on the stores: those of a session, a heal among them, and those of a sweep.
use Rattle.std.proofs.Common.{arith}
use Rattle.command_semantics.proofs.Names.{◌≢◌, ℕ, Bool, List, [], ◌∷◌, ◌++◌, Option, Some}
use Rattle.command_semantics.proofs.Names.{None, All, inl, All-cons, Mark, Cells, Table, Fate}
use Rattle.command_semantics.proofs.Names.{Works, FailsUnchanged, FailsApplied, Cause, Actor, Session, Janitor}
use Rattle.command_semantics.proofs.Names.{PutFound, Item, Row, Pairs, Ask, Told, SessionState, Reading}
use Rattle.command_semantics.proofs.Names.{read_ask, Settling, settle_ask, SettleTurn}
use Rattle.command_semantics.proofs.Names.{step_refusal, Sweeping}
use Rattle.command_semantics.proofs.Names.{InstanceEntry, UnderWay, Nothing, Settles, Completes, Client, is_reading}
use Rattle.command_semantics.proofs.Names.{met, store_of, told_by, step_item}
use Rattle.command_semantics.proofs.Names.{effect_items, no_offer_cause, offer_of, heal_at, heal_on, offer_asks}
use Rattle.command_semantics.proofs.Names.{heal_asks, place_by, read_step, settle_items}
use Rattle.command_semantics.proofs.Names.{settle_step, complete_step, next_of, step_at, step_due, step_on}
use Rattle.command_semantics.proofs.Names.{store_asked, asked_next, step_asks_by, step_asks, sweep_open_on}
use Rattle.command_semantics.proofs.Names.{undecided_items, sweep_met, sweep_lists, sweep_at, sweep_step_on}
use Rattle.command_semantics.proofs.Names.{sweep_step_asks, Clocks}
use Rattle.history_book.specs.declared.cause.Cause.TheVariants as cause
use Rattle.history_book.specs.declared.item.Item.TheVariants as item
use Rattle.system_parts.specs.declared.asks.Ask.TheVariants as ask
use Rattle.machine.specs.State.{Reads}
use Rattle.machine.specs.Events.Step.{step_by}
use Rattle.command_semantics.proofs.ReadItems.{IsRead, Made, none_read, one_read, made_none, made_one, made_fault, unchanged_fails, applied_fails, Untimed, IfUntimed, made_refused}
use Rattle.command_semantics.proofs.MadeOfSessions.{read_turn_read}

-- ---- one step on the stores
worked_read : (clocks : Clocks) (actor : Actor) (asked : Ask) (answer : Told) → All (IsRead clocks) (step_item actor asked answer ∷ [])
worked_read clocks actor asked answer = grind (arith, one_read)

failed_made : (clocks : Clocks) (actor : Actor) (asked : Ask) (answer : Told) (fate : Fate) → fate ≢ Works → Made clocks (Some (store_of asked)) fate (effect_items actor asked answer fate ++ item.Fault actor (store_of asked) ∷ [])
failed_made clocks actor asked answer fate fails = grind (arith, made_fault, none_read, one_read)

-- ---- a heal
no_offer_untimed : (state : SessionState) → Untimed (no_offer_cause state)
no_offer_untimed state = grind arith

heal_made : (clocks : Clocks) (session : ℕ) (fate : Fate) (c : Client) (rows : List Row) (pairs : Pairs) (offer : Option (ℕ × ℕ × ℕ)) → Made clocks (offer_asks offer) fate (heal_at session fate c rows pairs offer).items
heal_made clocks session fate c rows pairs None = made_refused clocks None fate (Session session) (no_offer_cause c.entry.state) (no_offer_untimed c.entry.state)
heal_made clocks session Works c rows pairs (Some offer) = made_one clocks (Some Cells) Works _ tt
heal_made clocks session FailsUnchanged c rows pairs (Some offer) = made_fault clocks Cells FailsUnchanged [] (Session session) unchanged_fails (none_read clocks)
heal_made clocks session FailsApplied c rows pairs (Some offer) = made_fault clocks Cells FailsApplied [] (Session session) applied_fails (none_read clocks)

pub heal_on_made : (clocks : Clocks) (session : ℕ) (fate : Fate) (c : Client) (rows : List Row) (pairs : Pairs) → Made clocks (heal_asks c) fate (heal_on session fate c rows pairs).items
heal_on_made clocks session fate c rows pairs = heal_made clocks session fate c rows pairs (offer_of c)

-- ---- the next step of a session
read_made : (clocks : Clocks) (session : ℕ) (fate : Fate) (c : Client) (r : Reading) (rows : List Row) (pairs : Pairs) → Made clocks (Some (store_of (read_ask r))) fate (read_step session c r (met (Session session) (read_ask r) fate rows pairs)).items
read_made clocks session Works c r rows pairs = grind (arith, worked_read, read_turn_read)
read_made clocks session FailsUnchanged c r rows pairs = failed_made clocks (Session session) (read_ask r) (told_by (read_ask r) rows pairs) FailsUnchanged unchanged_fails
read_made clocks session FailsApplied c r rows pairs = failed_made clocks (Session session) (read_ask r) (told_by (read_ask r) rows pairs) FailsApplied applied_fails

settle_read : (clocks : Clocks) (session : ℕ) (start : Option ℕ) (turn : SettleTurn) → All (IsRead clocks) (settle_items session start turn)
settle_read clocks session start turn = grind (arith, one_read, none_read)

settle_made : (clocks : Clocks) (session : ℕ) (fate : Fate) (c : Client) (x : Settling) (rows : List Row) (pairs : Pairs) → Made clocks (Some (store_of (settle_ask x))) fate (settle_step session c x (met (Session session) (settle_ask x) fate rows pairs)).items
settle_made clocks session Works c x rows pairs = grind (arith, worked_read, settle_read)
settle_made clocks session FailsUnchanged c x rows pairs = failed_made clocks (Session session) (settle_ask x) (told_by (settle_ask x) rows pairs) FailsUnchanged unchanged_fails
settle_made clocks session FailsApplied c x rows pairs = failed_made clocks (Session session) (settle_ask x) (told_by (settle_ask x) rows pairs) FailsApplied applied_fails

complete_made : (clocks : Clocks) (session : ℕ) (fate : Fate) (c : Client) (asked : Ask) (asks : List Ask) (rows : List Row) (pairs : Pairs) → Made clocks (Some (store_of asked)) fate (complete_step c asked asks (met (Session session) asked fate rows pairs)).items
complete_made clocks session Works c asked asks rows pairs = inl (worked_read clocks (Session session) asked (told_by asked rows pairs))
complete_made clocks session FailsUnchanged c asked asks rows pairs = failed_made clocks (Session session) asked (told_by asked rows pairs) FailsUnchanged unchanged_fails
complete_made clocks session FailsApplied c asked asks rows pairs = failed_made clocks (Session session) asked (told_by asked rows pairs) FailsApplied applied_fails

work_made : (clocks : Clocks) (session : ℕ) (fate : Fate) (c : Client) (rows : List Row) (pairs : Pairs) (work : UnderWay) → Made clocks (store_asked (next_of work)) fate (step_at session fate c rows pairs work).items
work_made clocks session fate c rows pairs Nothing = made_none clocks None fate
work_made clocks session fate c rows pairs (Reads r) = read_made clocks session fate c r rows pairs
work_made clocks session fate c rows pairs (Settles x) = settle_made clocks session fate c x rows pairs
work_made clocks session fate c rows pairs (Completes []) = made_none clocks None fate
work_made clocks session fate c rows pairs (Completes (asked ∷ asks)) = complete_made clocks session fate c asked asks rows pairs

-- the placing of a commit that was handed over: how its outcome is refused stands behind what the call did
placed_read : (clocks : Clocks) (x y : Item) → IsRead clocks x → IsRead clocks y → All (IsRead clocks) (x ∷ y ∷ [])
placed_read clocks x y first second = All-cons (IsRead clocks) x (y ∷ []) first (one_read clocks y second)

place_failed : (clocks : Clocks) (session start : ℕ) (fate : Fate) (before : List Item) → fate ≢ Works → All (IsRead clocks) before → Made clocks (Some Table) fate (before ++ item.Fault (Session session) Table ∷ item.Refused (Session session) (cause.Open start) ∷ [])
place_failed clocks session start fate before fails read = grind (arith, one_read)

place_made : (clocks : Clocks) (session start commit : ℕ) (fate : Fate) (found : Option Mark) (c : Client) (pairs : Pairs) → Made clocks (Some Table) fate (place_by session start commit fate found c pairs).items
place_made clocks session start commit Works None c pairs = inl (placed_read clocks (item.Placed start commit) (item.Committed session start commit) tt tt)
place_made clocks session start commit Works (Some mark) c pairs = inl (placed_read clocks (item.Step (Session session) (PutFound start)) (item.Refused (Session session) (cause.Invalid start)) tt tt)
place_made clocks session start commit FailsUnchanged found c pairs = place_failed clocks session start FailsUnchanged [] unchanged_fails (none_read clocks)
place_made clocks session start commit FailsApplied None c pairs = place_failed clocks session start FailsApplied (item.Placed start commit ∷ []) applied_fails (one_read clocks (item.Placed start commit) tt)
place_made clocks session start commit FailsApplied (Some mark) c pairs = place_failed clocks session start FailsApplied [] applied_fails (none_read clocks)

due_made : (clocks : Clocks) (session : ℕ) (fate : Fate) (c : Client) (rows : List Row) (pairs : Pairs) (due : Option (ℕ × ℕ)) → Made clocks (asked_next c due) fate (step_due session fate c rows pairs due).items
due_made clocks session fate c rows pairs due = grind (arith, work_made, place_made)

step_untimed : (state : SessionState) (reading : Bool) → IfUntimed (step_refusal state reading)
step_untimed state reading = grind arith

step_made : (clocks : Clocks) (session : ℕ) (fate : Fate) (c : Client) (rows : List Row) (pairs : Pairs) (why : Option Cause) → IfUntimed why → Made clocks (step_asks_by c why) fate (step_by session fate c rows pairs why).items
step_made clocks session fate c rows pairs why untimed = grind (arith, made_refused, due_made)

pub step_on_made : (clocks : Clocks) (session : ℕ) (fate : Fate) (c : Client) (rows : List Row) (pairs : Pairs) → Made clocks (step_asks c) fate (step_on session fate c rows pairs).items
step_on_made clocks session fate c rows pairs = step_made clocks session fate c rows pairs (step_refusal c.entry.state (is_reading c)) (step_untimed c.entry.state (is_reading c))

-- ---- a sweep
pub sweep_open_on_made : (clocks : Clocks) (fate : Fate) (node txn : ℕ) (post : Option InstanceEntry) (sweep : Option Sweeping) → Made clocks None fate (sweep_open_on node txn post sweep).items
sweep_open_on_made clocks fate node txn post sweep = grind (arith, made_refused, made_none)

undecided_read : (clocks : Clocks) (s : Sweeping) (undecided : Bool) → All (IsRead clocks) (undecided_items s undecided)
undecided_read clocks s undecided = grind (arith, one_read, none_read)

swept_made : (clocks : Clocks) (s : Sweeping) (asked : Ask) (fate : Fate) (rows : List Row) (pairs : Pairs) → Made clocks (Some (store_of asked)) fate (sweep_met s asked (met Janitor asked fate rows pairs)).items
swept_made clocks s asked Works rows pairs = grind (arith, worked_read, undecided_read)
swept_made clocks s asked FailsUnchanged rows pairs = failed_made clocks Janitor asked (told_by asked rows pairs) FailsUnchanged unchanged_fails
swept_made clocks s asked FailsApplied rows pairs = failed_made clocks Janitor asked (told_by asked rows pairs) FailsApplied applied_fails

lists_made : (clocks : Clocks) (s : Sweeping) (txn : ℕ) (fate : Fate) (rows : List Row) (pairs : Pairs) → Made clocks (Some Cells) fate (sweep_lists s txn fate rows pairs).items
lists_made clocks s txn Works rows pairs = made_one clocks (Some Cells) Works _ tt
lists_made clocks s txn FailsUnchanged rows pairs = made_fault clocks Cells FailsUnchanged [] Janitor unchanged_fails (none_read clocks)
lists_made clocks s txn FailsApplied rows pairs = made_fault clocks Cells FailsApplied [] Janitor applied_fails (none_read clocks)

sweep_made : (clocks : Clocks) (s : Sweeping) (fate : Fate) (rows : List Row) (pairs : Pairs) (asked : Option Ask) → Made clocks (store_asked asked) fate (sweep_at s fate rows pairs asked).items
sweep_made clocks s fate rows pairs None = made_none clocks None fate
sweep_made clocks s fate rows pairs (Some (ask.Keys txn)) = lists_made clocks s txn fate rows pairs
sweep_made clocks s fate rows pairs (Some (ask.Get txn)) = swept_made clocks s (ask.Get txn) fate rows pairs
sweep_made clocks s fate rows pairs (Some (ask.Mark txn)) = swept_made clocks s (ask.Mark txn) fate rows pairs
sweep_made clocks s fate rows pairs (Some (ask.Look key txn)) = swept_made clocks s (ask.Look key txn) fate rows pairs
sweep_made clocks s fate rows pairs (Some (ask.Shadow key txn commit)) = swept_made clocks s (ask.Shadow key txn commit) fate rows pairs
sweep_made clocks s fate rows pairs (Some (ask.Remove txn)) = swept_made clocks s (ask.Remove txn) fate rows pairs
sweep_made clocks s fate rows pairs (Some (ask.Erase key txn)) = swept_made clocks s (ask.Erase key txn) fate rows pairs

pub sweep_step_on_made : (clocks : Clocks) (fate : Fate) (sweep : Option Sweeping) (rows : List Row) (pairs : Pairs) → Made clocks (sweep_step_asks sweep) fate (sweep_step_on fate sweep rows pairs).items
sweep_step_on_made clocks fate sweep rows pairs = grind (arith, made_refused, sweep_made)
