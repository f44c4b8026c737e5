-- How a store call stands to its weather, and which of its answers want memory.
use Rattle.std.specs.Prelude.{◌≡◌, ◌≢◌, ℕ, ◌+◌, ◌↔◌, Result, Ok, Err, IsOk}
use Rattle.stamp_base.specs.declared.stores.Store.{Store}
use Rattle.port_io.specs.declared.weather.Fate.{Fate}
use Rattle.port_io.specs.declared.weather.Fate.TheVariants.{Works}
use Rattle.port_io.specs.Fates.{Counts}
use Rattle.system_parts.specs.declared.store_errors.StoreError.{StoreError}
use Rattle.system_parts.specs.declared.store_errors.StoreError.TheVariants.{StoreFault, NoMemory}

-- the call asked the weather for one fate on the store: what is ahead for the store moved up by one, and stays for the
-- others, and a failure counts
pub record AsksOnce (store : Store) (before now : Store → ℕ → Fate) (faults_before faults_now : ℕ) : Type 0 where
  pub moved : (n : ℕ) → now store n ≡ before store (n + 1)
  pub kept : (other : Store) (n : ℕ) → other ≢ store → now other n ≡ before other n
  pub counted : Counts (before store 0) faults_before faults_now

-- the call was one call on the store, and was answered exactly where its fate was Works
pub record IsOneCall {T E : Type 0} (store : Store) (before now : Store → ℕ → Fate) (faults_before faults_now : ℕ) (result : Result T E) : Type 0 where
  pub answer : IsOk result ↔ (before store 0 ≡ Works)
  pub asked : AsksOnce store before now faults_before faults_now

-- what holds where the call had its memory, so that it came to its fate
abbrev pub UnlessNoMemory : {T : Type 0} → Result T StoreError → Type 0 → Type 0
UnlessNoMemory (Ok x) P = P
UnlessNoMemory (Err StoreFault) P = P
UnlessNoMemory (Err NoMemory) P = Unit {0}

-- what holds where the call was refused memory
abbrev pub OnNoMemory : {T : Type 0} → Result T StoreError → Type 0 → Type 0
OnNoMemory (Ok x) P = Unit {0}
OnNoMemory (Err StoreFault) P = Unit {0}
OnNoMemory (Err NoMemory) P = P
