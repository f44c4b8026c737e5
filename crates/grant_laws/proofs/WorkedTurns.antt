-- The worked scripts with turns, computed, and the commit by the law.
use Rattle.grant_laws.proofs.Names.{◌≡◌, [], ◌∷◌, refl, subst, arith, Cells, Table, planned_fate, put_row, fetched}
use Rattle.grant_laws.proofs.Names.{front_of, without_bare, ◌∈◌, Session, Item, recalled_over, record_pairs}
use Rattle.grant_laws.proofs.Names.{kept_commit, verdict, least_unsettled, holder_from, ticks_of, IsPlayable, seats_of}
use Rattle.grant_laws.proofs.Names.{passed, carried_items, IsAhead, at_ask, stamp_drawn, RunsGrantCommits}
use Rattle.history_book.specs.declared.item.Item.TheVariants as item
use Rattle.turn_rules.specs.declared.turn.Turn.TheVariants as turn
use Rattle.grant_laws.specs.Worked as worked
use Rattle.grant_laws.specs.WorkedRuns as runs
use Rattle.grant_laws.proofs.WorkedScripts.{in_range, no_lead}
use Rattle.grant_laws.proofs.WorkedPremises.{commit_can, commit_item}

-- ---- histories
pub take_history : carried_items worked.taking runs.take_turn ≡ worked.taking_items
unfolding seats_of passed holder_from planned_fate record_pairs least_unsettled kept_commit verdict put_row without_bare fetched front_of recalled_over
take_history = refl

pub take_refused : carried_items worked.taking_again runs.take_turns ≡ worked.taking_again_items
unfolding seats_of passed holder_from planned_fate record_pairs least_unsettled kept_commit verdict put_row without_bare fetched front_of recalled_over
take_refused = refl

pub write_history : carried_items worked.writing runs.one_more ≡ worked.writing_items
unfolding seats_of passed holder_from planned_fate record_pairs least_unsettled kept_commit verdict put_row without_bare fetched front_of recalled_over
write_history = refl

pub write_refused : carried_items (worked.failing Cells worked.writing) runs.one_more ≡ runs.failed_write_items
unfolding seats_of passed holder_from planned_fate record_pairs least_unsettled kept_commit verdict put_row without_bare fetched front_of recalled_over
write_refused = refl

pub begin_history : carried_items runs.beginning runs.begin_turns ≡ runs.beginning_items
unfolding seats_of passed holder_from planned_fate record_pairs least_unsettled kept_commit verdict put_row without_bare fetched front_of recalled_over
begin_history = refl

pub begin_refused : carried_items runs.beginning_late runs.late_turns ≡ runs.late_items
unfolding seats_of passed holder_from planned_fate record_pairs least_unsettled kept_commit verdict put_row without_bare fetched front_of recalled_over
begin_refused = refl

pub commit_refused : carried_items (worked.failing Table runs.committing) runs.commit_turns ≡ runs.failed_commit_items
unfolding seats_of passed holder_from planned_fate record_pairs least_unsettled kept_commit verdict put_row without_bare fetched front_of recalled_over
commit_refused = refl

pub wait_history : carried_items runs.waiting runs.wait_turns ≡ runs.wait_items
unfolding seats_of passed holder_from planned_fate record_pairs least_unsettled kept_commit verdict put_row without_bare fetched front_of recalled_over
wait_history = refl

pub read_history : carried_items worked.reading runs.one_more ≡ worked.reading_items
unfolding seats_of passed holder_from planned_fate record_pairs least_unsettled kept_commit verdict put_row without_bare fetched front_of recalled_over
read_history = refl

pub read_refused : carried_items (worked.failing Cells worked.reading) runs.one_more ≡ worked.failed_read_items
unfolding seats_of passed holder_from planned_fate record_pairs least_unsettled kept_commit verdict put_row without_bare fetched front_of recalled_over
read_refused = refl

-- ---- the commit, by the law
commit_ahead : IsAhead runs.committing (at_ask runs.committing runs.to_commit) (Session 0) (worked.commit).verb
unfolding seats_of passed holder_from planned_fate record_pairs least_unsettled kept_commit verdict put_row without_bare fetched front_of recalled_over
commit_ahead = record { seat = runs.commit_seat; sits = refl; line = worked.commit; present = refl; verb_is = refl; unopened = refl }

playable : IsPlayable runs.committing 0 (runs.committing).lines
unfolding ticks_of
playable = record { leads = no_lead; ticks = omega arith }

pub commit_granted : RunsGrantCommits → item.Committed 0 1 2 ∈ carried_items runs.committing runs.commit_turns
commit_granted law =
    let has : item.Committed 0 commit_can.work.start (stamp_drawn commit_can.serving) ∈ carried_items runs.committing runs.commit_turns = law runs.committing 0 0 0 (worked.commit).verb runs.to_commit (turn.Accept 0 1 ∷ []) (turn.Decide 0 1 ∷ []) [] in_range playable commit_ahead refl commit_can in
    subst (λ (x : Item). x ∈ carried_items runs.committing runs.commit_turns) commit_item has
