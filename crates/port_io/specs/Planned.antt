-- Faults that were planned: a store, the number of the call on it, counted from 1, and that call's fate.
use Rattle.std.specs.Prelude.{◌≡◌, ◌≢◌, ℕ, ◌==◌, Bool, true, false, ◌&&◌, if◌then◌else◌, List, [], ◌∷◌, AllPairs}
use Rattle.port_io.specs.Fates.{Store, Cells, Table, Master, Fate, Works}
use Rattle.port_io.specs.Memory.{one_more}
use Rattle.port_io.specs.declared.planned.Made.{Made}

-- a planned fault: the store, the number of the call and the fate
abbrev pub PlannedFault : Type 0
PlannedFault = Store × ℕ × Fate

abbrev pub same_store : Store → Store → Bool
same_store Cells Cells = true
same_store Table Table = true
same_store Master Master = true
same_store _ _ = false

-- the fault is that of the call of this number on this store
abbrev pub is_of : Store → ℕ → PlannedFault → Bool
is_of store number fault = same_store fault.0 store && (fault.1 == number)

-- the fate of the call of this number on this store
unfoldable pub planned_fate : List PlannedFault → Store → ℕ → Fate
planned_fate [] store number = Works
planned_fate (fault ∷ faults) store number = if is_of store number fault then fault.2 else planned_fate faults store number

-- no two faults are of one call
abbrev pub OneEach : List PlannedFault → Type 0
OneEach faults = AllPairs (λ a b. a.0 ≡ b.0 → a.1 ≢ b.1) faults

-- how many calls were made on the store, of what was counted for the three
abbrev pub made_on : Made → Store → ℕ
made_on made Cells = made.cells
made_on made Table = made.table
made_on made Master = made.master

-- one more call on the store is counted, as far as a count of 64 bits goes
abbrev pub one_counted : Made → Store → Made
one_counted made Cells = record made { cells = one_more made.cells }
one_counted made Table = record made { table = one_more made.table }
one_counted made Master = record made { master = one_more made.master }
