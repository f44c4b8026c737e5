-- A step that asks one store passes the other one through.
use Rattle.std.proofs.Common.{arith, ◌≡◌, ◌≢◌, ℕ, List, Option, Some, ap, ◌∙◌}
use Rattle.stamp_base.specs.declared.stores.Store.TheVariants as store
use Rattle.port_io.specs.declared.weather.Fate.{Fate}
use Rattle.history_book.specs.declared.cause.Cause.{Cause}
use Rattle.system_parts.specs.Rows.{Row}
use Rattle.system_parts.specs.Pairs.{Pairs}
use Rattle.system_parts.specs.SessionSteps.{step_refusal}
use Rattle.system_parts.specs.Sweep.{Sweeping}
use Rattle.machine.specs.State.{Client, State}
use Rattle.machine.specs.Clients.{is_reading}
use Rattle.machine.specs.Effect.{Effect}
use Rattle.machine.specs.Events.Step.{step_due, step_by, step_on, step_asks, step_asks_by, asked_next}
use Rattle.machine.specs.Events.SweepStep.{sweep_step_on, sweep_step_asks}
use Rattle.machine.specs.Events.Heal.{heal_on}
use Rattle.split_parts.specs.Parts.{Parts, lent_rows, given_rows, lent_pairs, given_pairs, filled}
use Rattle.part_laws.proofs.FoundInParts.{Kept, FoundRows, FoundPairs}
use Rattle.part_laws.proofs.Shapes.{SameStores}

-- ---- an effect with another store that passes through
abbrev pub with_rows : {P : Type 0} → Effect (P × List Row × Pairs) → List Row → Effect (P × List Row × Pairs)
with_rows effect rows = record { parts = (effect.parts.0, rows, effect.parts.2); items = effect.items; stop = effect.stop }

abbrev pub with_pairs : {P : Type 0} → Effect (P × List Row × Pairs) → Pairs → Effect (P × List Row × Pairs)
with_pairs effect pairs = record { parts = (effect.parts.0, effect.parts.1, pairs); items = effect.items; stop = effect.stop }

-- ---- a step on both stores, by the one that it asks
abbrev pub IgnoresPairs : {P : Type 0} → (List Row → Pairs → Effect (P × List Row × Pairs)) → Type 0
IgnoresPairs S = (rows : List Row) (pairs others : Pairs) → S rows others ≡ with_pairs (S rows pairs) others

abbrev pub IgnoresRows : {P : Type 0} → (List Row → Pairs → Effect (P × List Row × Pairs)) → Type 0
IgnoresRows S = (rows others : List Row) (pairs : Pairs) → S others pairs ≡ with_rows (S rows pairs) others

-- ---- a session's step
step_pairs_due : (session : ℕ) (fate : Fate) (c : Client) (due : Option (ℕ × ℕ)) → asked_next c due ≢ Some store.Table → IgnoresPairs (λ rows pairs. step_due session fate c rows pairs due)
step_pairs_due session fate c due other = grind arith

step_rows_due : (session : ℕ) (fate : Fate) (c : Client) (due : Option (ℕ × ℕ)) → asked_next c due ≢ Some store.Cells → IgnoresRows (λ rows pairs. step_due session fate c rows pairs due)
step_rows_due session fate c due other = grind arith

step_pairs_by : (session : ℕ) (fate : Fate) (c : Client) (why : Option Cause) → step_asks_by c why ≢ Some store.Table → IgnoresPairs (λ rows pairs. step_by session fate c rows pairs why)
step_pairs_by session fate c why other = grind (arith, step_pairs_due)

step_rows_by : (session : ℕ) (fate : Fate) (c : Client) (why : Option Cause) → step_asks_by c why ≢ Some store.Cells → IgnoresRows (λ rows pairs. step_by session fate c rows pairs why)
step_rows_by session fate c why other = grind (arith, step_rows_due)

-- unless it asks the table, it leaves the pairs and does not hang on them
pub step_ignores_pairs : (session : ℕ) (fate : Fate) (c : Client) → step_asks c ≢ Some store.Table → IgnoresPairs (step_on session fate c)
step_ignores_pairs session fate c other = step_pairs_by session fate c (step_refusal c.entry.state (is_reading c)) other

-- unless it asks the cells, the rows
pub step_ignores_rows : (session : ℕ) (fate : Fate) (c : Client) → step_asks c ≢ Some store.Cells → IgnoresRows (step_on session fate c)
step_ignores_rows session fate c other = step_rows_by session fate c (step_refusal c.entry.state (is_reading c)) other

-- the same of a sweep
pub sweep_ignores_pairs : (fate : Fate) (sweep : Option Sweeping) → sweep_step_asks sweep ≢ Some store.Table → IgnoresPairs (sweep_step_on fate sweep)
sweep_ignores_pairs fate sweep other = grind arith

-- and of the rows
pub sweep_ignores_rows : (fate : Fate) (sweep : Option Sweeping) → sweep_step_asks sweep ≢ Some store.Cells → IgnoresRows (sweep_step_on fate sweep)
sweep_ignores_rows fate sweep other = grind arith

-- what a heal makes does not hang on the pairs
pub heal_ignores_pairs : (session : ℕ) (fate : Fate) (c : Client) (rows : List Row) (pairs others : Pairs) → heal_on session fate c rows others ≡ heal_on session fate c rows pairs
heal_ignores_pairs session fate c rows pairs others = grind arith

-- ---- so it is the same in the whole and in the parts
same_effect : {P : Type 0} {w : State} {l : Parts} {whole parts : Effect (P × List Row × Pairs)} (rows : List Row) (pairs : Pairs) → whole ≡ with_rows (with_pairs parts pairs) rows → lent_rows w.rows (given_rows parts.parts.1 l.cells) ≡ rows → lent_pairs w.pairs (given_pairs parts.parts.2 l.table) ≡ pairs → SameStores w l whole parts
same_effect rows pairs is to_rows to_pairs = grind arith

-- neither is asked
pub same_neither : {P : Type 0} (w : State) (l : Parts) (S : List Row → Pairs → Effect (P × List Row × Pairs)) → Kept w l → IgnoresPairs S → IgnoresRows S → SameStores w l (S w.rows w.pairs) (S (filled l).rows (filled l).pairs)
same_neither w l S kept no_pairs no_rows =
    let v : State = filled l in
    let rows : (S v.rows v.pairs).parts.1 ≡ v.rows = ap (λ e. e.parts.1) (no_rows v.rows v.rows v.pairs) in
    let pairs : (S v.rows v.pairs).parts.2 ≡ v.pairs = ap (λ e. e.parts.2) (no_pairs v.rows v.pairs v.pairs) in
    same_effect w.rows w.pairs (no_pairs w.rows v.pairs w.pairs ∙ ap (λ e. with_pairs e w.pairs) (no_rows v.rows w.rows v.pairs))
    (ap (λ (x : List Row). lent_rows w.rows (given_rows x l.cells)) rows ∙ kept.rows) (ap (λ (x : Pairs). lent_pairs w.pairs (given_pairs x l.table)) pairs ∙ kept.pairs)

-- the cells
pub same_cells : {P : Type 0} (w : State) (l : Parts) (S : List Row → Pairs → Effect (P × List Row × Pairs)) → Kept w l → FoundRows w l → IgnoresPairs S → SameStores w l (S w.rows w.pairs) (S (filled l).rows (filled l).pairs)
same_cells w l S kept found no_pairs = grind arith

-- the table
pub same_table : {P : Type 0} (w : State) (l : Parts) (S : List Row → Pairs → Effect (P × List Row × Pairs)) → Kept w l → FoundPairs w l → IgnoresRows S → SameStores w l (S w.rows w.pairs) (S (filled l).rows (filled l).pairs)
same_table w l S kept found no_rows = grind arith
