-- For grant_laws too.
-- How many faults of a store are told, and how many are planned for the calls that were made on it.
use Rattle.command_semantics.proofs.Names.{◌≡◌, ◌≢◌, ℕ, ◌+◌, ◌≤◌, ◌==◌, Bool, true, false, ◌&&◌, cond, if◌then◌else◌}
use Rattle.command_semantics.proofs.Names.{List, [], ◌∷◌, ◌++◌, All, Option, Some, None, inl, inr, refl, sym, ◌∙◌, ap}
use Rattle.command_semantics.proofs.Names.{arith, count_by, nat_le, nat_tests, same_Some, none-some, All-head, All-tail}
use Rattle.command_semantics.proofs.Names.{sum_by-append, sum_by-cons, Store, Cells, Table, Master, Fate, Works, Item}
use Rattle.command_semantics.proofs.Names.{ScriptData, Clocks, is_fault_of, plans, Calls, calls_on, one_more}
use Rattle.command_semantics.proofs.Names.{calls_after, fate_by, is_due}
use Rattle.port_io.specs.Planned.{PlannedFault, same_store, is_of, planned_fate}
use Rattle.history_book.specs.declared.item.Item.TheVariants as item
use Rattle.command_semantics.proofs.ReadItems.{IsRead, Failed, Made}

-- one where it is so
abbrev one_if : Bool → ℕ
one_if b = cond b 1 0

-- ---- the faults among the items of an event
read_no_fault : (clocks : Clocks) (store : Store) (x : Item) → IsRead clocks x → is_fault_of store x ≡ false
read_no_fault clocks store x read = grind arith

read_faults : (clocks : Clocks) (store : Store) (items : List Item) → All (IsRead clocks) items → count_by (is_fault_of store) items ≡ 0
read_faults clocks store [] read = refl
read_faults clocks store (x ∷ items) read =
    let none : one_if (is_fault_of store x) ≡ 0 = ap one_if (read_no_fault clocks store x (All-head (IsRead clocks) x items read)) in
    omega (arith, sum_by-cons (λ (y : Item). one_if (is_fault_of store y)) x items, none, read_faults clocks store items (All-tail (IsRead clocks) x items read))

pub faults_append : (store : Store) (h items : List Item) → count_by (is_fault_of store) (h ++ items) ≡ count_by (is_fault_of store) h + count_by (is_fault_of store) items
faults_append store h items = sum_by-append (λ (y : Item). one_if (is_fault_of store y)) h items

-- a failed call tells one fault, of its own store
failed_faults : (clocks : Clocks) (asked : Option Store) (fate : Fate) (items : List Item) (store : Store) → (k : Failed clocks asked fate items) → count_by (is_fault_of store) items ≡ one_if (same_store k.store store)
failed_faults clocks asked fate items store k =
    let parts : count_by (is_fault_of store) (k.before ++ item.Fault k.actor k.store ∷ k.after) ≡ count_by (is_fault_of store) k.before + count_by (is_fault_of store) (item.Fault k.actor k.store ∷ k.after) = faults_append store k.before (item.Fault k.actor k.store ∷ k.after) in
    let fault : count_by (is_fault_of store) (item.Fault k.actor k.store ∷ k.after) ≡ one_if (same_store k.store store) + count_by (is_fault_of store) k.after = sum_by-cons (λ (y : Item). one_if (is_fault_of store y)) (item.Fault k.actor k.store) k.after in
    let before : count_by (is_fault_of store) k.before ≡ 0 = read_faults clocks store k.before k.before_read in
    let after : count_by (is_fault_of store) k.after ≡ 0 = read_faults clocks store k.after k.after_read in
    ap (λ (xs : List Item). count_by (is_fault_of store) xs) k.is ∙ omega (arith, parts, fault, before, after)

-- ---- the faults that are planned for the first calls
-- those for one call more
abbrev Due : Store → ℕ → List PlannedFault → ℕ
Due store calls faults = count_by (is_due store calls) faults

due_first : (store : Store) (calls : ℕ) (fault : PlannedFault) (faults : List PlannedFault) → Due store calls (fault ∷ faults) ≡ one_if (same_store fault.0 store && nat_le fault.1 calls) + Due store calls faults
due_first store calls fault faults = sum_by-cons (λ (x : PlannedFault). one_if (is_due store calls x)) fault faults

-- how many of one fault are due after one call more: no fewer, and one more where it is the fault of that call
one_due : (of_store : Bool) (number calls : ℕ) → one_if (of_store && nat_le number calls) + one_if (of_store && (number == calls + 1)) ≡ one_if (of_store && nat_le number (calls + 1))
one_due of_store number calls = grind (arith, nat_tests)

pub due_later : (store : Store) (calls : ℕ) (faults : List PlannedFault) → Due store calls faults ≤ Due store (calls + 1) faults
due_later store calls [] = omega arith
due_later store calls (fault ∷ faults) =
    omega (arith, due_first store calls fault faults, due_first store (calls + 1) fault faults, one_due (same_store fault.0 store) fault.1 calls, due_later store calls faults)

-- a call that fails is planned to
named_due : (store : Store) (calls : ℕ) (fault : PlannedFault) (faults : List PlannedFault) (named : Bool) → is_of store (calls + 1) fault ≡ named → (planned_fate faults store (calls + 1) ≢ Works → Due store calls faults + 1 ≤ Due store (calls + 1) faults) → (if named then fault.2 else planned_fate faults store (calls + 1)) ≢ Works → Due store calls (fault ∷ faults) + 1 ≤ Due store (calls + 1) (fault ∷ faults)
named_due store calls fault faults true is rest fails =
    let one : one_if (same_store fault.0 store && nat_le fault.1 calls) + one_if (is_of store (calls + 1) fault) ≡ one_if (same_store fault.0 store && nat_le fault.1 (calls + 1)) = one_due (same_store fault.0 store) fault.1 calls in
    let more : one_if (is_of store (calls + 1) fault) ≡ 1 = ap (λ (b : Bool). one_if b) is in
    omega (arith, due_first store calls fault faults, due_first store (calls + 1) fault faults, one, more, due_later store calls faults)
named_due store calls fault faults false is rest fails =
    omega (arith, due_first store calls fault faults, due_first store (calls + 1) fault faults, one_due (same_store fault.0 store) fault.1 calls, rest fails)

pub due_now : (store : Store) (calls : ℕ) (faults : List PlannedFault) → planned_fate faults store (calls + 1) ≢ Works → Due store calls faults + 1 ≤ Due store (calls + 1) faults
unfolding planned_fate
due_now store calls [] fails = absurd (fails refl)
due_now store calls (fault ∷ faults) fails = named_due store calls fault faults (is_of store (calls + 1) fault) refl (due_now store calls faults) fails

-- all of them are planned
one_planned : (store : Store) (calls : ℕ) (fault : PlannedFault) (of_store early : Bool) → one_if (of_store && early) ≤ one_if of_store
one_planned store calls fault of_store early = grind arith

pub due_planned : (store : Store) (calls : ℕ) (faults : List PlannedFault) → Due store calls faults ≤ count_by (plans store) faults
due_planned store calls [] = omega arith
due_planned store calls (fault ∷ faults) =
    let all : count_by (plans store) (fault ∷ faults) ≡ one_if (same_store fault.0 store) + count_by (plans store) faults = sum_by-cons (λ (x : PlannedFault). one_if (plans store x)) fault faults in
    omega (arith, due_first store calls fault faults, all, one_planned store calls fault (same_store fault.0 store) (nat_le fault.1 calls), due_planned store calls faults)

-- ---- after one event
-- a call on a store leaves no fewer faults due
no_fewer : (faults : List PlannedFault) (calls : Calls) (asked store : Store) → Due store (calls_on calls store) faults ≤ Due store (calls_on (one_more calls asked) store) faults
no_fewer faults calls Cells Cells = due_later Cells calls.cells faults
no_fewer faults calls Table Table = due_later Table calls.table faults
no_fewer faults calls Master Master = due_later Master calls.master faults
no_fewer faults calls Cells Table = omega arith
no_fewer faults calls Cells Master = omega arith
no_fewer faults calls Table Cells = omega arith
no_fewer faults calls Table Master = omega arith
no_fewer faults calls Master Cells = omega arith
no_fewer faults calls Master Table = omega arith

-- one that fails was due itself
one_due_now : (faults : List PlannedFault) (calls : Calls) (asked store : Store) → planned_fate faults asked (calls_on calls asked + 1) ≢ Works → Due store (calls_on calls store) faults + one_if (same_store asked store) ≤ Due store (calls_on (one_more calls asked) store) faults
one_due_now faults calls asked store fails = grind (arith, due_now)

-- so the faults that an event tells are due after it, if it tells any
abbrev pub ToldAreDue : ScriptData → Calls → Option Store → List Item → Type 0
ToldAreDue script calls asked items = (store : Store) → Due store (calls_on calls store) script.faults + count_by (is_fault_of store) items ≤ Due store (calls_on (calls_after calls asked) store) script.faults

pub none_due : (script : ScriptData) (calls : Calls) (asked : Option Store) (items : List Item) → ((store : Store) → count_by (is_fault_of store) items ≡ 0) → ToldAreDue script calls asked items
none_due script calls None items none = λ store. omega (arith, none store)
none_due script calls (Some asked) items none = λ store. omega (arith, none store, no_fewer script.faults calls asked store)

failed_due : (clocks : Clocks) (script : ScriptData) (calls : Calls) (asked : Option Store) (items : List Item) → Failed clocks asked (fate_by script calls asked) items → ToldAreDue script calls asked items
failed_due clocks script calls None items k = absurd (none-some k.store k.asked_is)
failed_due clocks script calls (Some asked) items k = λ store.
    let same : asked ≡ k.store = same_Some asked k.store k.asked_is in
    let one : one_if (same_store k.store store) ≡ one_if (same_store asked store) = ap (λ (s : Store). one_if (same_store s store)) (sym same) in
    omega (arith, failed_faults clocks (Some asked) (fate_by script calls (Some asked)) items store k, one, one_due_now script.faults calls asked store k.fails)

pub told_due : (clocks : Clocks) (script : ScriptData) (calls : Calls) (asked : Option Store) (items : List Item) → Made clocks asked (fate_by script calls asked) items → ToldAreDue script calls asked items
told_due clocks script calls asked items (inl read) = none_due script calls asked items (λ store. read_faults clocks store items read)
told_due clocks script calls asked items (inr k) = failed_due clocks script calls asked items k
