-- The short histories of refusals of a request that was not asked for.
use Rattle.std.proofs.Common.{◌≡◌, ℕ, ◌+◌, List, None, Some, refl, sym, ◌∙◌}
use Rattle.std.proofs.lemmas.Option.{none-some}
use Rattle.stamp_base.specs.SetupNumbers.{default_numbers}
use Rattle.history_book.specs.declared.cause.Cause.TheVariants as cause
use Rattle.history_book.specs.declared.item.Actor.TheVariants.{Session}
use Rattle.history_book.specs.declared.item.Item.{Item}
use Rattle.cause_rules.specs.Asks.{its_node, HasAsked}
use Rattle.cause_rules.specs.Commits.{ShownConflict, ShownHidden, ShownReplaced, ShownNoStamp, ShownInvalid, ShownNotYet}
use Rattle.cause_rules.specs.Explained.{Explained}
use Rattle.cause_rules.specs.WorkedCommits.{buckets_of, before_conflict_unasked, conflict_told_unasked, before_hidden_unasked, hidden_told_unasked, before_invalid_unasked, invalid_told_unasked}
use Rattle.cause_rules.specs.WorkedTerms.{before_replaced_unasked, replaced_told_unasked, before_no_stamp_unasked, no_stamp_told_unasked, last_room, before_spent_unasked, spent_told_unasked}
use Rattle.cause_rules.specs.WorkedRequests.{before_not_yet_unasked, not_yet_told_unasked}
use Rattle.cause_rules.proofs.WorkedRefusals.{explained_shows}

-- a session that has asked nothing has no node
no_node : (h : List Item) (s node : ℕ) → its_node h s ≡ None → its_node h s ≡ Some node → ⊥
no_node h s node unasked asked = none-some node (sym unasked ∙ asked)

-- ---- commits
pub conflict_unasked : Explained default_numbers conflict_told_unasked → ⊥
conflict_unasked e =
    let shown : ShownConflict default_numbers before_conflict_unasked 1 0 3 = explained_shows default_numbers before_conflict_unasked (Session 1) (cause.Conflict 0 3) e in
    no_node before_conflict_unasked 1 shown.node refl shown.node_is

pub hidden_unasked : Explained (buckets_of 1) hidden_told_unasked → ⊥
hidden_unasked e =
    let shown : ShownHidden (buckets_of 1) before_hidden_unasked 2 0 4 = explained_shows (buckets_of 1) before_hidden_unasked (Session 2) (cause.Hidden 0 4) e in
    no_node before_hidden_unasked 2 shown.node refl shown.node_is

pub invalid_unasked : Explained default_numbers invalid_told_unasked → ⊥
invalid_unasked e =
    let shown : ShownInvalid before_invalid_unasked 0 1 = explained_shows default_numbers before_invalid_unasked (Session 0) (cause.Invalid 1) e in
    no_node before_invalid_unasked 0 shown.node refl shown.node_is

-- ---- terms
pub replaced_unasked : Explained default_numbers replaced_told_unasked → ⊥
replaced_unasked e =
    let shown : ShownReplaced before_replaced_unasked 0 2 = explained_shows default_numbers before_replaced_unasked (Session 0) (cause.Replaced 2) e in
    no_node before_replaced_unasked 0 shown.node refl shown.node_is

pub no_stamp_unasked : Explained default_numbers no_stamp_told_unasked → ⊥
no_stamp_unasked e =
    let shown : ShownNoStamp before_no_stamp_unasked 2 2 = explained_shows default_numbers before_no_stamp_unasked (Session 2) (cause.NoStamp 2) e in
    no_node before_no_stamp_unasked 2 shown.node refl shown.node_is

pub spent_unasked : Explained default_numbers spent_told_unasked → ⊥
spent_unasked e =
    let asked : HasAsked before_spent_unasked 0 = (explained_shows default_numbers before_spent_unasked (Session 0) (cause.Spent (last_room + 1)) e).0 in
    no_node before_spent_unasked 0 asked.0 refl asked.1

-- ---- begins that wait
pub not_yet_unasked : Explained default_numbers not_yet_told_unasked → ⊥
not_yet_unasked e =
    let shown : ShownNotYet default_numbers before_not_yet_unasked 1 2 = explained_shows default_numbers before_not_yet_unasked (Session 1) (cause.NotYet 2) e in
    no_node before_not_yet_unasked 1 shown.node refl shown.node_is
