-- The events of the master record ask it once.
use Rattle.machine.proofs.Names.{[], ◌≡◌, ℕ, ◌+◌, ◌==◌, Bool, true, false, if◌then◌else◌, List, ◌∷◌, Option, Some, None}
use Rattle.machine.proofs.Names.{Ok, Err, refl, SetupNumbers, Store, Master, Works, Node, Item, Grant, TakeRefused}
use Rattle.machine.proofs.Names.{RenewRefused, ExtendRefused, Leasing, MasterRecord, is_early, is_spent, take_refused}
use Rattle.machine.proofs.Names.{granted, held_by, renew_refused, renewed_until, extend_refused, unless_refused}
use Rattle.machine.proofs.Names.{answered, InstanceEntry, Faults, kept_items, rules_of, take_by, take_item, take_on}
use Rattle.machine.proofs.Names.{take_asks, renew_by, renew_on, renew_asks, extend_by, extend_on, extend_asks}
use Rattle.history_book.specs.declared.cause.Cause.TheVariants as cause
use Rattle.system_parts.specs.declared.record.TakeRefused.TheVariants as take
use Rattle.system_parts.specs.declared.record.RenewRefused.TheVariants as renew
use Rattle.system_parts.specs.declared.record.ExtendRefused.TheVariants as extend
use Rattle.machine.proofs.Refusals.{LeavesAll, refusal_leaves, ending_leaves, fault_leaves, going_leaves}
use Rattle.machine.proofs.StoreAsked.{AskedOnce, asked, refuses}

-- ---- the master record
-- a refusal of the record is never the fault itself
take_sound_spent : (rules : Leasing) (r : MasterRecord) (spent : Bool) → (if spent then Some (take.Spent r.ceiling) else None) ≡ Some take.StoreFault → ⊥
take_sound_spent rules r true is = cc
take_sound_spent rules r false is = cc

take_sound_by : (rules : Leasing) (r : MasterRecord) (reading : ℕ) (early : Bool) → (if early then Some (take.Early reading r.until) else if is_spent rules r then Some (take.Spent r.ceiling) else None) ≡ Some take.StoreFault → ⊥
take_sound_by rules r reading true is = cc
take_sound_by rules r reading false is = take_sound_spent rules r (is_spent rules r) is

take_sound : (rules : Leasing) (r : MasterRecord) (reading : ℕ) → take_refused rules r reading ≡ Some take.StoreFault → ⊥
take_sound rules r reading is = take_sound_by rules r reading (is_early rules r reading) is

take_worked : (setup : SetupNumbers) (node reading : ℕ) (master new : MasterRecord) (kept : List Item) (why : Option TakeRefused) (grant : Grant) → LeavesAll (None, master) (take_by setup node reading (unless_refused why master new) kept (answered Works take.StoreFault why grant))
take_worked setup node reading master new kept None grant = going_leaves (None, master) (take_by setup node reading new kept (Ok grant)) refl
take_worked setup node reading master new kept (Some take.StoreFault) grant = fault_leaves (None, master) (take_by setup node reading master kept (Err take.StoreFault)) Master refl
take_worked setup node reading master new kept (Some (take.Early at until)) grant = refusal_leaves (None, master) (Node node) (cause.Early at until)
take_worked setup node reading master new kept (Some (take.Spent ceiling)) grant =
    ending_leaves (None, master) (take_by setup node reading master kept (Err (take.Spent ceiling))) (cause.Spent ceiling) refl (λ is. cc)

take_works : (setup : SetupNumbers) (node reading : ℕ) (master : MasterRecord) (kept : List Item) (why : Option TakeRefused) (grant : Grant) (store : Store) → (why ≡ Some take.StoreFault → ⊥) → (take_by setup node reading master kept (answered Works take.StoreFault why grant)).stop ≡ Some (Faults store) → ⊥
take_works setup node reading master kept None grant store sound stop = cc
take_works setup node reading master kept (Some take.StoreFault) grant store sound stop = sound refl
take_works setup node reading master kept (Some (take.Early at until)) grant store sound stop = cc
take_works setup node reading master kept (Some (take.Spent ceiling)) grant store sound stop = cc

pub asked_take : (setup : SetupNumbers) (node reading : ℕ) (post : Option InstanceEntry) (master : MasterRecord) → AskedOnce (post, master) (take_asks post) (λ fate. take_on setup node reading fate post master)
asked_take setup node reading (Some i) master = refuses (Some i, master) (Node node) (cause.Holding i.term)
asked_take setup node reading None master =
    let rules : Leasing = rules_of setup in
    let grant : Grant = granted rules master reading in
    let why : Option TakeRefused = take_refused rules master reading in
    let kept : List Item = kept_items Works why (take_item node reading grant ∷ []) in
    asked (None, master) Master (λ fate. take_on setup node reading fate None master) (take_worked setup node reading master (held_by node grant) kept why grant) refl refl (λ store stop. take_works setup node reading (unless_refused why master (held_by node grant)) kept why grant store (take_sound rules master reading) stop)

renew_sound_by : (r : MasterRecord) (same : Bool) → (if same then None else Some (renew.Replaced r.term)) ≡ Some renew.StoreFault → ⊥
renew_sound_by r true is = cc
renew_sound_by r false is = cc

renew_worked : (node reading : ℕ) (i : InstanceEntry) (master new : MasterRecord) (kept : List Item) (why : Option RenewRefused) (until : ℕ) → LeavesAll (Some i, master) (renew_by node reading i (unless_refused why master new) kept (answered Works renew.StoreFault why until))
renew_worked node reading i master new kept None until = going_leaves (Some i, master) (renew_by node reading i new kept (Ok until)) refl
renew_worked node reading i master new kept (Some renew.StoreFault) until = fault_leaves (Some i, master) (renew_by node reading i master kept (Err renew.StoreFault)) Master refl
renew_worked node reading i master new kept (Some (renew.Replaced found)) until =
    ending_leaves (Some i, master) (renew_by node reading i master kept (Err (renew.Replaced found))) (cause.Replaced found) refl (λ is. cc)

renew_works : (node reading : ℕ) (i : InstanceEntry) (master : MasterRecord) (kept : List Item) (why : Option RenewRefused) (until : ℕ) (store : Store) → (why ≡ Some renew.StoreFault → ⊥) → (renew_by node reading i master kept (answered Works renew.StoreFault why until)).stop ≡ Some (Faults store) → ⊥
renew_works node reading i master kept None until store sound stop = cc
renew_works node reading i master kept (Some renew.StoreFault) until store sound stop = sound refl
renew_works node reading i master kept (Some (renew.Replaced found)) until store sound stop = cc

pub asked_renew : (setup : SetupNumbers) (node reading : ℕ) (post : Option InstanceEntry) (master : MasterRecord) → AskedOnce (post, master) (renew_asks post) (λ fate. renew_on setup node reading fate post master)
asked_renew setup node reading None master = refuses (None, master) (Node node) (cause.NoOracle node)
asked_renew setup node reading (Some i) master =
    let until : ℕ = renewed_until (rules_of setup) master reading in
    let why : Option RenewRefused = renew_refused master i.term in
    let new : MasterRecord = record master { until = until } in
    asked (Some i, master) Master (λ fate. renew_on setup node reading fate (Some i) master) (renew_worked node reading i master new [] why until) refl refl (λ store stop. renew_works node reading i (unless_refused why master new) [] why until store (renew_sound_by master (master.term == i.term)) stop)

extend_sound_spent : (r : MasterRecord) (spent : Bool) → (if spent then Some (extend.Spent r.ceiling) else None) ≡ Some extend.StoreFault → ⊥
extend_sound_spent r true is = cc
extend_sound_spent r false is = cc

extend_sound_by : (rules : Leasing) (r : MasterRecord) (same : Bool) → (if same then (if is_spent rules r then Some (extend.Spent r.ceiling) else None) else Some (extend.Replaced r.term)) ≡ Some extend.StoreFault → ⊥
extend_sound_by rules r true is = extend_sound_spent r (is_spent rules r) is
extend_sound_by rules r false is = cc

extend_worked : (node : ℕ) (i : InstanceEntry) (master new : MasterRecord) (kept : List Item) (why : Option ExtendRefused) (ceiling : ℕ) → LeavesAll (Some i, master) (extend_by node i (unless_refused why master new) kept (answered Works extend.StoreFault why ceiling))
extend_worked node i master new kept None ceiling = going_leaves (Some i, master) (extend_by node i new kept (Ok ceiling)) refl
extend_worked node i master new kept (Some extend.StoreFault) ceiling = fault_leaves (Some i, master) (extend_by node i master kept (Err extend.StoreFault)) Master refl
extend_worked node i master new kept (Some (extend.Replaced found)) ceiling =
    ending_leaves (Some i, master) (extend_by node i master kept (Err (extend.Replaced found))) (cause.Replaced found) refl (λ is. cc)
extend_worked node i master new kept (Some (extend.Spent last)) ceiling =
    ending_leaves (Some i, master) (extend_by node i master kept (Err (extend.Spent last))) (cause.Spent last) refl (λ is. cc)

extend_works : (node : ℕ) (i : InstanceEntry) (master : MasterRecord) (kept : List Item) (why : Option ExtendRefused) (ceiling : ℕ) (store : Store) → (why ≡ Some extend.StoreFault → ⊥) → (extend_by node i master kept (answered Works extend.StoreFault why ceiling)).stop ≡ Some (Faults store) → ⊥
extend_works node i master kept None ceiling store sound stop = cc
extend_works node i master kept (Some extend.StoreFault) ceiling store sound stop = sound refl
extend_works node i master kept (Some (extend.Replaced found)) ceiling store sound stop = cc
extend_works node i master kept (Some (extend.Spent last)) ceiling store sound stop = cc

pub asked_extend : (setup : SetupNumbers) (node : ℕ) (post : Option InstanceEntry) (master : MasterRecord) → AskedOnce (post, master) (extend_asks post) (λ fate. extend_on setup node fate post master)
asked_extend setup node None master = refuses (None, master) (Node node) (cause.NoOracle node)
asked_extend setup node (Some i) master =
    let rules : Leasing = rules_of setup in
    let ceiling : ℕ = master.ceiling + rules.range in
    let why : Option ExtendRefused = extend_refused rules master i.term in
    let new : MasterRecord = record master { ceiling = ceiling } in
    asked (Some i, master) Master (λ fate. extend_on setup node fate (Some i) master) (extend_worked node i master new [] why ceiling) refl refl (λ store stop. extend_works node i (unless_refused why master new) [] why ceiling store (extend_sound_by rules master (master.term == i.term)) stop)
