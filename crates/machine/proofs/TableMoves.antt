-- Moves that look at the commit table, one at a time: the step as a function of what the table has for the transaction, so
-- that a lemma on the table may say what that is.
use Rattle.machine.proofs.Names.{◌≡◌, ℕ, List, [], ◌∷◌, ◌++◌, append_assoc, Option, Some, None, refl, sym, ap, ◌∙◌}
use Rattle.machine.proofs.Names.{Mark, Committed, Invalid, Fate, Works, fated, Actor, Session, Janitor, Item, Row}
use Rattle.machine.proofs.Names.{Pairs, mark_of, put_pair, Ask, settle_ask, read_ask, Sweeping, sweep_ask}
use Rattle.machine.proofs.Names.{InstanceEntry, held_of, UnderWay, Reads, Settles, Client, State, Effect, done, Met}
use Rattle.machine.proofs.Names.{met, told_entry, told_mark, step_item, Step, Move, after_move, items_after}
use Rattle.machine.proofs.Names.{state_after, on_table, on_stores, on_swept, to_place, put_by, StepParts, read_step}
use Rattle.machine.proofs.Names.{settle_step, work_of, sweep_met, sweep_at, sweep_step_on}
use Rattle.system_parts.specs.declared.asks.Ask.TheVariants as ask
use Rattle.machine.specs.declared.event.Event.TheVariants.{SweepStep}

-- ---- a step that works, by what the table has
abbrev met_with : Actor → Ask → Option Mark → List Row → Pairs → Met
met_with actor (ask.Get txn) found rows pairs =
    record { rows = rows; pairs = pairs; items = step_item actor (ask.Get txn) (told_entry found) ∷ []; told = Some (told_entry found) }
met_with actor (ask.Mark txn) found rows pairs =
    record { rows = rows; pairs = put_pair pairs txn Invalid; items = step_item actor (ask.Mark txn) (told_mark found) ∷ []; told = Some (told_mark found) }
met_with actor asked found rows pairs = met actor asked Works rows pairs

abbrev step_with : ℕ → Client → Option Mark → List Row → Pairs → UnderWay → Effect StepParts
step_with session c found rows pairs (Reads r) = read_step session c r (met_with (Session session) (read_ask r) found rows pairs)
step_with session c found rows pairs (Settles x) = settle_step session c x (met_with (Session session) (settle_ask x) found rows pairs)
step_with session c found rows pairs _ = done (c, rows, pairs) []

abbrev pub session_step : State → ℕ → Option Mark → Step
session_step w session found = on_stores w session (λ c. step_with session c found w.rows w.pairs (work_of c))

-- the janitor's get and mark, for a sweep that asks for it
abbrev pub janitor_step : State → Sweeping → Ask → Option Mark → Step
janitor_step w s asked found = on_swept w (sweep_met s asked (met_with Janitor asked found w.rows w.pairs))

-- the checker cannot compute the janitor's get over a long history, so that it is said of any state
pub janitor_gets : (w : State) (s : Sweeping) (txn : ℕ) → w.sweep ≡ Some s → sweep_ask s ≡ Some (ask.Get txn) → after_move w (record { event = SweepStep; fate = Works }) ≡ janitor_step w s (ask.Get txn) (mark_of w.pairs txn)
janitor_gets w s txn is asks =
    ap (λ (sweep : Option Sweeping). on_swept w (sweep_step_on Works sweep w.rows w.pairs)) is ∙ ap (λ (asked : Option Ask). on_swept w (sweep_at s Works w.rows w.pairs asked)) asks

-- ---- a put under a fate, by what the table has
abbrev put_with : ℕ → ℕ → Fate → Option Mark → InstanceEntry → Pairs → Option (ℕ × ℕ) → Effect (Option InstanceEntry × Pairs)
put_with node session fate found i pairs None = done (Some i, pairs) []
put_with node session fate found i pairs (Some stamps) =
    put_by node session stamps.0 stamps.1 fate found i (fated fate pairs (put_pair pairs stamps.0 (Committed stamps.1)))

abbrev post_with : ℕ → ℕ → Fate → Option Mark → Pairs → Option InstanceEntry → Effect (Option InstanceEntry × Pairs)
post_with node session fate found pairs None = done (None, pairs) []
post_with node session fate found pairs (Some i) = put_with node session fate found i pairs (to_place (held_of i session))

abbrev pub put_step : State → ℕ → ℕ → Fate → Option Mark → Step
put_step w node session fate found = on_table w node (post_with node session fate found w.pairs)

-- ---- the history of moves, cut at some of them
-- moves up to a cut, the move there, and its step by what the table has for a transaction
pub record Cut : Type 0 where
  pub first : List Move
  pub move : Move
  pub txn : ℕ
  pub found : Option Mark
  pub step : State → Option Mark → Step

-- the step, once it is known what the table has
abbrev pub cut_step_of : State → Cut → Step
cut_step_of w c = c.step (state_after w c.first) c.found

abbrev pub all_moves : List Cut → List Move → List Move
all_moves [] last = last
all_moves (c ∷ cuts) last = c.first ++ c.move ∷ all_moves cuts last

abbrev pub all_items : State → List Cut → List Move → List Item
all_items w [] last = items_after w last
all_items w (c ∷ cuts) last = let s : Step = cut_step_of w c in items_after w c.first ++ (s.items ++ all_items s.state cuts last)

-- at each cut the table has what is said, and the move is the step by what it has
abbrev pub AreSteps : State → List Cut → Type 0
AreSteps w [] = Unit {0}
AreSteps w (c ∷ cuts) =
    let at : State = state_after w c.first in
    (mark_of at.pairs c.txn ≡ c.found) × (after_move at c.move ≡ c.step at (mark_of at.pairs c.txn)) × AreSteps (cut_step_of w c).state cuts

cut : (w : State) (first : List Move) (move : Move) (later : List Move) (s : Step) → after_move (state_after w first) move ≡ s → items_after w (first ++ move ∷ later) ≡ items_after w first ++ (s.items ++ items_after s.state later)
unfolding items_after state_after
cut w [] move later s is = ap (λ (x : Step). x.items ++ items_after x.state later) is
cut w (m ∷ first) move later s is =
    ap (λ (items : List Item). (after_move w m).items ++ items) (cut (after_move w m).state first move later s is) ∙ sym (append_assoc (after_move w m).items (items_after (after_move w m).state first) (s.items ++ items_after s.state later))

pub cut_all : (w : State) (cuts : List Cut) (last : List Move) → AreSteps w cuts → items_after w (all_moves cuts last) ≡ all_items w cuts last
cut_all w [] last are = refl
cut_all w (c ∷ cuts) last are =
    let at : State = state_after w c.first in
    let s : Step = cut_step_of w c in
    cut w c.first c.move (all_moves cuts last) s (are.1 ∙ ap (c.step at) are.0) ∙ ap (λ (items : List Item). items_after w c.first ++ (s.items ++ items)) (cut_all s.state cuts last are.2)
