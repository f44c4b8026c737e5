-- The worked histories of sessions that remember, cut at the moves that look at the commit table.
use Rattle.machine.proofs.Names.{◌≡◌, refl, [], ◌∷◌, ◌++◌, Some, None, default_numbers, Committed, Works, put_row}
use Rattle.machine.proofs.Names.{fetched, front_of, looked, with_shadow, without_bare, keys_of_version, mark_of-empty}
use Rattle.machine.proofs.Names.{recalled_over, kept_commit, added, record_pairs, verdict, least_unsettled, opening}
use Rattle.machine.proofs.Names.{crashed_clients, all_crashed_items, state_after, items_after, history_after, working}
use Rattle.machine.proofs.Names.{drawn_events, taken_over, reader_begins}
use Rattle.machine.specs.declared.event.Event.TheVariants as event
use Rattle.machine.specs.WorkedRecalls.{two_decisions, both_placed, first_read, two_reads, two_items, asks_table, marked_moves, marked_items}
use Rattle.machine.proofs.TableMoves.{Cut, cut_all}
use Rattle.machine.proofs.WorkedTables.{cut_put, cut_step, has_entry}

-- ---- what the first read learnt
abbrev placed_cut : Cut
placed_cut = cut_put both_placed Works None

abbrev first_cut : Cut
first_cut = cut_step first_read 1 (Some (Committed 2))

pub recalled_row : history_after two_decisions (two_reads []) ≡ two_items []
unfolding items_after state_after record_pairs least_unsettled put_row fetched front_of looked with_shadow without_bare keys_of_version kept_commit added verdict recalled_over crashed_clients all_crashed_items
recalled_row = cut_all (opening two_decisions) (placed_cut ∷ first_cut ∷ []) (working (event.Fetch 1 0 ∷ [])) (mark_of-empty 1, refl, (has_entry (Committed 2), refl, tt))

abbrev again_cut : Cut
again_cut = cut_step (event.Fetch 1 0 ∷ []) 1 (Some (Committed 2))

pub forgotten_row : history_after default_numbers (two_reads (event.Step 1 ∷ [])) ≡ two_items (asks_table ∷ [])
unfolding items_after state_after record_pairs least_unsettled put_row fetched front_of looked with_shadow without_bare keys_of_version kept_commit added verdict recalled_over crashed_clients all_crashed_items
forgotten_row = cut_all (opening default_numbers) (placed_cut ∷ first_cut ∷ again_cut ∷ []) [] (mark_of-empty 1, refl, (has_entry (Committed 2), refl, (has_entry (Committed 2), refl, tt)))

-- ---- a mark that was placed
abbrev asks_cut : Cut
asks_cut = cut_step (drawn_events ++ taken_over ++ reader_begins ++ event.Fetch 1 0 ∷ []) 1 None

abbrev marks_cut : Cut
marks_cut = cut_step [] 1 None

pub marked_row : history_after two_decisions marked_moves ≡ marked_items
unfolding items_after state_after record_pairs least_unsettled put_row fetched front_of looked with_shadow without_bare keys_of_version kept_commit added verdict recalled_over crashed_clients all_crashed_items
marked_row = cut_all (opening two_decisions) (asks_cut ∷ marks_cut ∷ []) (working (event.Step 1 ∷ event.Fetch 1 0 ∷ [])) (mark_of-empty 1, refl, (mark_of-empty 1, refl, tt))
