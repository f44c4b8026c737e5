-- The worked histories, computed.
use Rattle.machine.proofs.Names.{◌≡◌, refl, default_numbers, put_row, fetched, front_of, without_bare, recalled_over}
use Rattle.machine.proofs.Names.{kept_commit, added, without, oldest, record_pairs, verdict, least_unsettled}
use Rattle.machine.proofs.Names.{items_after, history_after}
use Rattle.machine.specs.WorkedMoves as worked
use Rattle.machine.specs.WorkedRefusals as alone

pub boundary_row : history_after default_numbers worked.boundary_moves ≡ worked.boundary_items
unfolding items_after record_pairs least_unsettled
boundary_row = refl

pub own_row : history_after default_numbers alone.own_moves ≡ alone.own_items
unfolding items_after record_pairs least_unsettled put_row fetched front_of without_bare recalled_over
own_row = refl

pub order_row : history_after default_numbers alone.order_moves ≡ alone.order_items
unfolding items_after record_pairs least_unsettled
order_row = refl

pub end_row : history_after alone.one_range alone.end_moves ≡ alone.end_items
unfolding items_after record_pairs least_unsettled
end_row = refl

pub fault_row : history_after default_numbers alone.fault_moves ≡ alone.fault_items
unfolding items_after record_pairs least_unsettled put_row without_bare
fault_row = refl

pub range_row : history_after alone.two_stamps alone.range_moves ≡ alone.range_items
unfolding items_after record_pairs least_unsettled put_row without_bare kept_commit verdict
range_row = refl

pub expired_row : history_after default_numbers (alone.late_moves 0) ≡ alone.late_items 0 alone.expired_late
unfolding items_after record_pairs least_unsettled put_row without_bare fetched front_of recalled_over
expired_row = refl

pub old_row : history_after default_numbers (alone.late_moves 1) ≡ alone.late_items 1 alone.old_late
unfolding items_after record_pairs least_unsettled put_row without_bare fetched front_of recalled_over
old_row = refl

pub forgotten_row : history_after alone.small_buckets (alone.hidden_moves 0) ≡ alone.hidden_items 0 alone.forgotten
unfolding items_after record_pairs least_unsettled put_row without_bare kept_commit added without oldest verdict
forgotten_row = refl

pub unwritten_row : history_after alone.small_buckets (alone.hidden_moves 12) ≡ alone.hidden_items 12 alone.unwritten
unfolding items_after record_pairs least_unsettled put_row without_bare kept_commit added without oldest verdict
unwritten_row = refl

pub kept_row : history_after alone.small_buckets (alone.hidden_moves 4) ≡ alone.hidden_items 4 alone.kept
unfolding items_after record_pairs least_unsettled put_row without_bare kept_commit added without oldest verdict
kept_row = refl
