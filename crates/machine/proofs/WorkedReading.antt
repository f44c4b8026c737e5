-- The worked histories of transactions whose reads count, computed.
use Rattle.machine.proofs.Names.{◌≡◌, refl, default_numbers, put_row, fetched, front_of, recalled_over, kept_commit}
use Rattle.machine.proofs.Names.{added, record_pairs, verdict, least_unsettled, items_after, history_after}
use Rattle.machine.specs.WorkedReads.{strict_reads, skew_moves, skew_items, read_conflict, both_drawn, left_moves, left_items, fetches_below, nones_below, full_moves, full_items}

pub skew_row : history_after strict_reads skew_moves ≡ skew_items read_conflict
unfolding items_after record_pairs least_unsettled put_row fetched front_of kept_commit added verdict recalled_over
skew_row = refl

pub plain_skew_row : history_after default_numbers skew_moves ≡ skew_items both_drawn
unfolding items_after record_pairs least_unsettled put_row fetched front_of kept_commit added verdict recalled_over
plain_skew_row = refl

pub left_row : history_after strict_reads left_moves ≡ left_items
unfolding items_after record_pairs least_unsettled put_row fetched front_of kept_commit added verdict recalled_over
left_row = refl

pub full_row : history_after strict_reads full_moves ≡ full_items
unfolding items_after record_pairs least_unsettled put_row fetched front_of recalled_over fetches_below nones_below
full_row = refl
