-- The short histories of commits that their sessions place.
use Rattle.std.proofs.Common.{◌≡◌, ◌==◌, not, Bool, true, List, [], Some, inl, inr, refl}
use Rattle.std.specs.List.{list_all}
use Rattle.stamp_base.specs.SetupNumbers.{SetupNumbers, default_numbers}
use Rattle.stamp_base.specs.declared.stores.Store.TheVariants.{Table}
use Rattle.history_book.specs.Members.{◌∈◌}
use Rattle.history_book.specs.declared.cause.Cause.TheVariants as cause
use Rattle.history_book.specs.declared.item.Actor.TheVariants.{Session}
use Rattle.history_book.specs.declared.item.Item.{Item}
use Rattle.history_book.specs.declared.item.Item.TheVariants.{Fault}
use Rattle.cause_rules.specs.Asks.{its_node, since_ask, since_draw}
use Rattle.cause_rules.specs.Explained.{Explained}
use Rattle.cause_rules.specs.WorkedHistories.{crash_of, table_fault, session_fault}
use Rattle.cause_rules.specs.WorkedCommits.{directly, before_open, open_told}
use Rattle.cause_rules.proofs.WorkedRefusals.{shown_explains}
use Rattle.cause_rules.proofs.WorkedLosses.{no_crash, not_lost}

abbrev direct : SetupNumbers
direct = directly default_numbers

pub faulted : Explained direct (open_told [] [] (session_fault 0) 1)
unfolding ◌∈◌
faulted = shown_explains direct (before_open [] [] (session_fault 0)) (Session 0) (cause.Open 1) refl (record {
  start_is = refl;
  node = 0;
  node_is = refl;
  lost = inl (2, refl, inl refl);
})

pub crashed_before_the_draw : Explained direct (open_told [] (crash_of 0) [] 1)
unfolding ◌∈◌
crashed_before_the_draw = shown_explains direct (before_open [] (crash_of 0) []) (Session 0) (cause.Open 1) refl (record {
  start_is = refl;
  node = 0;
  node_is = refl;
  lost = inr (1, inl refl);
})

abbrev no_own_fault : Item → Bool
no_own_fault (Fault (Session session) Table) = not (session == 0)
no_own_fault _ = true

no_placing_lost : (first between last : List Item) → its_node (before_open first between last) 0 ≡ Some 0 → list_all no_own_fault (since_draw (before_open first between last) 0) ≡ true → list_all no_crash (since_ask (before_open first between last) 0) ≡ true → Explained (directly default_numbers) (open_told first between last 1) → ⊥
no_placing_lost first between last = not_lost direct no_own_fault first between last refl

pub fault_of_the_node : Explained direct (open_told [] [] (table_fault 0) 1) → ⊥
fault_of_the_node = no_placing_lost [] [] (table_fault 0) refl refl refl

pub fault_of_another : Explained direct (open_told [] [] (session_fault 1) 1) → ⊥
fault_of_another = no_placing_lost [] [] (session_fault 1) refl refl refl

pub faulted_before_the_draw : Explained direct (open_told [] (session_fault 0) [] 1) → ⊥
faulted_before_the_draw = no_placing_lost [] (session_fault 0) [] refl refl refl
