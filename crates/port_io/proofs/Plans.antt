-- For this crate's own proofs.
-- What a plan has ahead after one call, and what it has for a fault that it names.
use Rattle.std.proofs.Common.{◌≡◌, ◌≢◌, ℕ, zero, suc, ◌+◌, ◌-◌, ◌^◌, ◌<◌, ◌≤◌, true, false, List, [], ◌∷◌, length, get_or, All, inl, inr, refl, sym, ap, ◌∙◌, arith}
use Rattle.std.proofs.lemmas.Bool.Decides.{nat_tests}
use Rattle.std.proofs.lemmas.Bool.{cases_Bool, cases_lt}
use Rattle.port_io.specs.Fates.{Store, Cells, Table, Master, Works}
use Rattle.port_io.specs.Memory.{one_more}
use Rattle.port_io.specs.Planned.{PlannedFault, OneEach, same_store, is_of, planned_fate, made_on, one_counted}
use Rattle.port_io.specs.declared.planned.Made.{Made}

same_store-is : (a b : Store) → same_store a b ≡ true → a ≡ b
same_store-is Cells Cells e = refl
same_store-is Table Table e = refl
same_store-is Master Master e = refl
same_store-is Cells Table e = cc
same_store-is Cells Master e = cc
same_store-is Table Cells e = cc
same_store-is Table Master e = cc
same_store-is Master Cells e = cc
same_store-is Master Table e = cc

abbrev pub none_made : Made
none_made = record { cells = 0; table = 0; master = 0 }

at_first : (store : Store) → made_on none_made store ≡ 0
at_first Cells = refl
at_first Table = refl
at_first Master = refl

own_counted : (made : Made) (store : Store) → made_on (one_counted made store) store ≡ one_more (made_on made store)
own_counted made Cells = refl
own_counted made Table = refl
own_counted made Master = refl

other_counted : (made : Made) (store other : Store) → other ≢ store → made_on (one_counted made store) other ≡ made_on made other
other_counted made Cells Cells apart = absurd (apart refl)
other_counted made Table Table apart = absurd (apart refl)
other_counted made Master Master apart = absurd (apart refl)
other_counted made Cells Table apart = refl
other_counted made Cells Master apart = refl
other_counted made Table Cells apart = refl
other_counted made Table Master apart = refl
other_counted made Master Cells apart = refl
other_counted made Master Table apart = refl

-- before any call a plan's numbers are those of the fates ahead
pub first_fate : (plan : List PlannedFault) (store : Store) (n : ℕ) → planned_fate plan store (made_on none_made store + n + 1) ≡ planned_fate plan store (n + 1)
first_fate plan store n = ap (planned_fate plan store) (omega (arith, at_first store))

-- where the count is full, no number past the last one is planned
abbrev pub IsPast : List PlannedFault → Store → ℕ → Type 0
IsPast plan store made = 2 ^ 64 ≤ made + 1 → (number : ℕ) → 2 ^ 64 ≤ number → planned_fate plan store number ≡ Works

same_ahead : (plan : List PlannedFault) (store : Store) (made n : ℕ) → IsPast plan store made → planned_fate plan store (one_more made + n + 1) ≡ planned_fate plan store (made + (n + 1) + 1)
same_ahead plan store made n past = elim (cases_lt made (2 ^ 64 - 1)) [
  | inl free ↦ ap (planned_fate plan store) (omega (arith, free))
  | inr full ↦ past (omega (arith, full)) _ (omega (arith, full)) ∙ sym (past (omega (arith, full)) _ (omega (arith, full)))
]

-- once a call on the store was counted, its fates ahead are one call further on
pub moved_fate : (plan : List PlannedFault) (made : Made) (store : Store) (n : ℕ) → IsPast plan store (made_on made store) → planned_fate plan store (made_on (one_counted made store) store + n + 1) ≡ planned_fate plan store (made_on made store + (n + 1) + 1)
moved_fate plan made store n past = rw (own_counted made store) (same_ahead plan store (made_on made store) n past)

-- and those of another store are as before
pub kept_fate : (plan : List PlannedFault) (made : Made) (store other : Store) (n : ℕ) → other ≢ store → planned_fate plan other (made_on (one_counted made store) other + n + 1) ≡ planned_fate plan other (made_on made other + n + 1)
kept_fate plan made store other n apart = rw (other_counted made store other apart) refl

same_store-self : (store : Store) → same_store store store ≡ true
same_store-self Cells = refl
same_store-self Table = refl
same_store-self Master = refl

-- a fault of another call is not of this one
is_of-other : (other : PlannedFault) (store : Store) (number : ℕ) → (other.0 ≡ store → other.1 ≢ number) → is_of store number other ≡ false
is_of-other other store number apart = elim (cases_Bool (same_store other.0 store)) [
  | inl same ↦
      let ne : other.1 ≢ number = apart (same_store-is other.0 store same) in
      rw same (grind (arith, nat_tests))
  | inr not ↦ rw not refl
]

-- a planned fault comes at its call, where no other is of that call
pub named_fate : (plan : List PlannedFault) (fault : PlannedFault) (k number : ℕ) → k < length plan → get_or plan k fault ≡ fault → fault.1 ≡ number → OneEach plan → planned_fate plan fault.0 number ≡ fault.2
unfolding planned_fate
named_fate [] fault k number within here is each = absurd (omega arith)
named_fate (first ∷ plan) fault zero number within here is each =
    let itself : is_of fault.0 number fault ≡ true = rw (same_store-self fault.0) (grind (arith, nat_tests)) in
    rw (here, itself) refl
named_fate (first ∷ plan) fault (suc k) number within here is each =
    let apart : first.0 ≡ fault.0 → first.1 ≢ fault.1 = rw here at (each 0 (suc k) fault (omega arith) within) in
    rw (is_of-other first fault.0 number (λ same e. apart same (e ∙ sym is)))
    (named_fate plan fault k number (omega arith) here is (λ i j d before inside. each (suc i) (suc j) d (omega arith) (omega arith)))

-- a call that no planned fault is of works
pub unnamed_fate : (plan : List PlannedFault) (store : Store) (number : ℕ) → All (λ (fault : PlannedFault). fault.0 ≡ store → fault.1 ≢ number) plan → planned_fate plan store number ≡ Works
unfolding planned_fate
unnamed_fate [] store number none = refl
unnamed_fate (first ∷ plan) store number none =
    rw (is_of-other first store number (none 0 first (omega arith)))
    (unnamed_fate plan store number (λ k d within. none (suc k) d (omega arith)))
