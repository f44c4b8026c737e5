-- What the steps on the stores tell is due: they refuse nothing, but that a sweep ends undecided.
use Rattle.machine.proofs.Names.{ℕ, Bool, true, false, [], ◌∷◌, ◌++◌, Option, Some, None, All-append, Mark, Store, Fate}
use Rattle.machine.proofs.Names.{Works, FailsUnchanged, FailsApplied, Actor, Janitor, Ask, Told, ReadTurn, Asks}
use Rattle.machine.proofs.Names.{Answers, SettleTurn, Goes, Decides, Sweeping, State, entry_of, mark_item, step_item}
use Rattle.machine.proofs.Names.{mark_kept, effect_items, read_items, settle_items, undecided_items, AreDue}
use Rattle.history_book.specs.declared.cause.Cause.TheVariants as cause
use Rattle.history_book.specs.declared.item.Item.TheVariants as item
use Rattle.system_parts.specs.declared.asks.Ask.TheVariants as ask
use Rattle.system_parts.specs.declared.asks.Told.TheVariants as told
use Rattle.system_parts.specs.declared.resolve.Outcome.TheVariants as outcome
use Rattle.machine.proofs.Dues.DueItems.{DueAnyway, AllDue, none_free, one_free, no_row_free, all_due}

pub mark_free : (w : State) (actor : Actor) (txn : ℕ) (found : Option Mark) → DueAnyway w (mark_item actor txn found)
mark_free w actor txn None before = tt
mark_free w actor txn (Some mark) before = tt

pub step_free : (w : State) (actor : Actor) (asked : Ask) (answer : Told) → DueAnyway w (step_item actor asked answer)
step_free w actor (ask.Mark txn) answer before = mark_free w actor txn (entry_of answer) before
step_free w actor _ answer before = tt

pub worked_free : (w : State) (actor : Actor) (asked : Ask) (answer : Told) → AllDue w (step_item actor asked answer ∷ [])
worked_free w actor asked answer = one_free w (step_item actor asked answer) (step_free w actor asked answer)

pub kept_free : (w : State) (actor : Actor) (asked : Ask) (answer : Told) → AllDue w (mark_kept actor asked answer)
kept_free w actor (ask.Mark txn) told.Marked = one_free w (item.Mark actor txn) (λ before. tt)
kept_free w actor _ _ = none_free w

pub effect_free : (w : State) (actor : Actor) (asked : Ask) (answer : Told) (fate : Fate) → AllDue w (effect_items actor asked answer fate)
effect_free w actor asked answer FailsApplied = kept_free w actor asked answer
effect_free w actor asked answer Works = none_free w
effect_free w actor asked answer FailsUnchanged = none_free w

pub failed_due : (w : State) (actor : Actor) (asked : Ask) (answer : Told) (fate : Fate) (store : Store) → AreDue w (effect_items actor asked answer fate ++ item.Fault actor store ∷ [])
failed_due w actor asked answer fate store = all_due w _ (All-append (DueAnyway w) (effect_items actor asked answer fate) (item.Fault actor store ∷ []) (effect_free w actor asked answer fate) (one_free w (item.Fault actor store) (λ before. tt)))

pub settle_free : (w : State) (session : ℕ) (start : Option ℕ) (turn : SettleTurn) → AllDue w (settle_items session start turn)
settle_free w session (Some start) (Decides (outcome.Committed commit by_table)) = one_free w _ (λ before. tt)
settle_free w session (Some start) (Decides outcome.Dead) = one_free w _ (λ before. tt)
settle_free w session (Some start) (Goes point) = none_free w
settle_free w session None turn = none_free w

pub undecided_free : (w : State) (s : Sweeping) (undecided : Bool) → AllDue w (undecided_items s undecided)
undecided_free w s true = no_row_free w Janitor (cause.Undecided s.txn s.epoch) (λ setup h. tt)
undecided_free w s false = none_free w

pub read_free : (w : State) (session start key : ℕ) (turn : ReadTurn) → AllDue w (read_items session start key turn)
read_free w session start key (Asks r) = none_free w
read_free w session start key (Answers a) = one_free w _ (λ told. tt)
