-- What a history tells of a node: the term that it took last, its lease, its range, and whether it has an instance.
use Rattle.std.specs.Prelude.{◌≡◌, ℕ, ◌==◌, Bool, false, if◌then◌else◌, List, ◌∷◌, ◌⊎◌, Option, None, Some}
use Rattle.stamp_base.specs.declared.stores.Store.{Store}
use Rattle.history_book.specs.Members.{◌∈◌}
use Rattle.history_book.specs.declared.item.Actor.TheVariants.{Node}
use Rattle.history_book.specs.declared.item.Item.{Item}
use Rattle.history_book.specs.declared.item.Item.TheVariants.{Take, Renew, Extend, Crash, Fault}
use Rattle.cause_rules.specs.Since.{last_told, since}

-- what a take gave
pub record Taken : Type 0 where
  pub term : ℕ
  pub epoch : ℕ
  pub until : ℕ

abbrev pub take_by : ℕ → Item → Option Taken
take_by n (Take node reading term epoch until ceiling) = if node == n then Some (record { term = term; epoch = epoch; until = until }) else None
take_by n _ = None

abbrev pub takes_for : ℕ → Item → Bool
takes_for n (Take node reading term epoch until ceiling) = node == n
takes_for n _ = false

abbrev pub crashes_for : ℕ → Item → Bool
crashes_for n (Crash node term) = node == n
crashes_for n _ = false

-- the node's last take
abbrev pub last_take : List Item → ℕ → Option Taken
last_take h n = last_told (take_by n) h

abbrev pub since_take : List Item → ℕ → List Item
since_take h n = since (takes_for n) h

-- ---- the node's instance
-- its last take gave this term and this epoch
pub record TookLast (h : List Item) (n term epoch : ℕ) : Type 0 where
  pub take : Taken
  pub last : last_take h n ≡ Some take
  pub term_is : take.term ≡ term
  pub epoch_is : take.epoch ≡ epoch

-- its lease ends there by its last take, or by a renewal after it
pub record LeasedUntil (h : List Item) (n until : ℕ) : Type 0 where
  pub take : Taken
  pub last : last_take h n ≡ Some take
  pub by : (take.until ≡ until) ⊎ ((reading : ℕ) × (term : ℕ) × (Renew n reading term until ∈ since_take h n))

-- it has not crashed since its last take
abbrev pub StandsSince : List Item → ℕ → Type 0
StandsSince h n = (term : ℕ) → Crash n term ∈ since_take h n → ⊥

-- it has not taken a term since its last crash, or its last take failed at once
abbrev pub HasNone : List Item → ℕ → Type 0
HasNone h n = (last_take (since (crashes_for n) h) n ≡ None) ⊎ ((store : Store) × (later : List Item) × (since_take h n ≡ Fault (Node n) store ∷ later))

-- ---- what the master record was seen to have
abbrev pub TermTaken : List Item → ℕ → Type 0
TermTaken h term = (n : ℕ) × (reading : ℕ) × (epoch : ℕ) × (until : ℕ) × (ceiling : ℕ) × (Take n reading term epoch until ceiling ∈ h)

-- a take or a renewal had this end of the lease
abbrev pub LeaseGiven : List Item → ℕ → Type 0
LeaseGiven h until =
    ((n : ℕ) × (reading : ℕ) × (term : ℕ) × (epoch : ℕ) × (ceiling : ℕ) × (Take n reading term epoch until ceiling ∈ h))
    ⊎ ((n : ℕ) × (reading : ℕ) × (term : ℕ) × (Renew n reading term until ∈ h))

-- a take or an extension in the term had this ceiling
abbrev pub CeilingGiven : List Item → ℕ → ℕ → Type 0
CeilingGiven h term ceiling =
    ((n : ℕ) × (reading : ℕ) × (epoch : ℕ) × (until : ℕ) × (Take n reading term epoch until ceiling ∈ h))
    ⊎ ((n : ℕ) × (Extend n term ceiling ∈ h))
