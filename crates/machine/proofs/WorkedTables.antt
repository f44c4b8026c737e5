-- The worked histories whose moves look at the commit table, cut at these moves.
use Rattle.machine.proofs.Names.{◌≡◌, ℕ, refl, List, [], ◌∷◌, ◌++◌, Option, Some, None, ap, ◌∙◌, default_numbers, Mark}
use Rattle.machine.proofs.Names.{Committed, Invalid, Fate, Works, FailsUnchanged, FailsApplied, Pairs, mark_of}
use Rattle.machine.proofs.Names.{put_pair, put_row, fetched, front_of, looked, with_shadow, without_bare}
use Rattle.machine.proofs.Names.{keys_of_version, entry_or, mark_of-empty, mark_of-put_pair, committed_goes, Ask}
use Rattle.machine.proofs.Names.{recalled_over, Sweeping, Marking, sweep_open, kept_commit, added, record_pairs}
use Rattle.machine.proofs.Names.{verdict, least_unsettled, State, opening, Event, crashed_clients, all_crashed_items}
use Rattle.machine.proofs.Names.{state_after, items_after, history_after, working, v, begins, draws, drawn_events}
use Rattle.machine.proofs.Names.{taken_over, reader_begins}
use Rattle.std.specs.FinMap as map
use Rattle.system_parts.specs.declared.asks.Ask.TheVariants.{Get, Mark as MarkAsk}
use Rattle.machine.specs.declared.event.Event.TheVariants as event
use Rattle.machine.specs.WorkedMoves as worked
use Rattle.machine.proofs.TableMoves.{put_step, session_step, janitor_step, janitor_gets, Cut, cut_step_of, cut_all}

-- ---- the cuts: a put of the first session's commit, a session's step and the janitor's
abbrev pub cut_put : List Event → Fate → Option Mark → Cut
cut_put first fate found = record { first = working first; move = record { event = event.Put 0 0; fate = fate }; txn = 1; found = found; step = λ w. put_step w 0 0 fate }

abbrev pub cut_step : List Event → ℕ → Option Mark → Cut
cut_step first session found = record { first = working first; move = record { event = event.Step session; fate = Works }; txn = 1; found = found; step = λ w. session_step w session }

abbrev cut_sweep : List Event → Sweeping → Ask → Option Mark → Cut
cut_sweep first s asked found =
    record { first = working first; move = record { event = event.SweepStep; fate = Works }; txn = 1; found = found; step = λ w. janitor_step w s asked }

-- ---- what the table has: the first session's entry, once it was put, and once it was removed
abbrev with_entry : Mark → Pairs
with_entry mark = put_pair map.empty 1 mark

pub has_entry : (mark : Mark) → mark_of (with_entry mark) 1 ≡ Some mark
has_entry mark = mark_of-put_pair map.empty 1 mark ∙ ap (λ (found : Option Mark). Some (entry_or found mark)) (mark_of-empty 1)

abbrev opening_state : State
opening_state = opening default_numbers

-- ---- plain
abbrev plain_cut : Cut
plain_cut = cut_put drawn_events Works None

pub plain_row : history_after default_numbers worked.plain_moves ≡ worked.plain_items
unfolding items_after state_after record_pairs least_unsettled put_row fetched front_of looked with_shadow without_bare keys_of_version kept_commit added verdict recalled_over crashed_clients all_crashed_items
plain_row =
    cut_all opening_state (plain_cut ∷ []) (working (event.Answer 0 0 ∷ event.Step 0 ∷ event.Step 0 ∷ begins 1 0 0 ++ event.Fetch 1 0 ∷ event.AskCommit 1 0 ∷ [])) (mark_of-empty 1, refl, tt)

-- ---- conflict
abbrev conflict_cut : Cut
conflict_cut = cut_put (event.Take 0 0 ∷ begins 0 0 0 ++ begins 1 0 0 ++ event.Write 0 0 v ∷ event.Write 1 0 v ∷ draws 0 0 0) Works None

pub conflict_row : history_after default_numbers worked.conflict_moves ≡ worked.conflict_items
unfolding items_after state_after record_pairs least_unsettled put_row fetched front_of looked with_shadow without_bare keys_of_version kept_commit added verdict recalled_over crashed_clients all_crashed_items
conflict_row =
    cut_all opening_state (conflict_cut ∷ []) (working (event.Answer 0 0 ∷ event.Step 0 ∷ event.Step 0 ∷ draws 1 0 0 ++ event.Step 1 ∷ [])) (mark_of-empty 1, refl, tt)

-- ---- late put
abbrev late_put_cut_1 : Cut
late_put_cut_1 = cut_step (drawn_events ++ taken_over ++ reader_begins ++ event.Fetch 1 0 ∷ []) 1 None

abbrev late_put_cut_2 : Cut
late_put_cut_2 = cut_step [] 1 None

abbrev late_put_cut_3 : Cut
late_put_cut_3 = cut_put (event.Step 1 ∷ []) Works (Some Invalid)

pub late_put_row : history_after default_numbers worked.late_put_moves ≡ worked.late_put_items
unfolding items_after state_after record_pairs least_unsettled put_row fetched front_of looked with_shadow without_bare keys_of_version kept_commit added verdict recalled_over crashed_clients all_crashed_items
late_put_row =
    cut_all opening_state (late_put_cut_1 ∷ late_put_cut_2 ∷ late_put_cut_3 ∷ []) (working (event.Answer 0 0 ∷ event.Step 0 ∷ [])) (mark_of-empty 1, refl, (mark_of-empty 1, refl, (has_entry Invalid, refl, tt)))

-- ---- early put
abbrev early_put_cut_1 : Cut
early_put_cut_1 = cut_put (drawn_events ++ taken_over) Works None

abbrev early_put_cut_2 : Cut
early_put_cut_2 = cut_step (reader_begins ++ event.Fetch 1 0 ∷ []) 1 (Some (Committed 2))

pub early_put_row : history_after default_numbers worked.early_put_moves ≡ worked.early_put_items
unfolding items_after state_after record_pairs least_unsettled put_row fetched front_of looked with_shadow without_bare keys_of_version kept_commit added verdict recalled_over crashed_clients all_crashed_items
early_put_row =
    cut_all opening_state (early_put_cut_1 ∷ early_put_cut_2 ∷ []) (working (event.Answer 0 0 ∷ event.Step 0 ∷ event.Step 0 ∷ [])) (mark_of-empty 1, refl, (has_entry (Committed 2), refl, tt))

-- ---- late draw
abbrev late_draw_cut : Cut
late_draw_cut = cut_put (event.Take 0 0 ∷ begins 0 0 0 ++ event.Write 0 0 v ∷ event.AskCommit 0 0 ∷ event.Accept 0 0 0 ∷ taken_over ++ event.Decide 0 0 ∷ []) Works None

pub late_draw_row : history_after default_numbers worked.late_draw_moves ≡ worked.late_draw_items
unfolding items_after state_after record_pairs least_unsettled put_row fetched front_of looked with_shadow without_bare keys_of_version kept_commit added verdict recalled_over crashed_clients all_crashed_items
late_draw_row =
    cut_all opening_state (late_draw_cut ∷ []) (working (event.Answer 0 0 ∷ event.Step 0 ∷ event.Step 0 ∷ reader_begins ++ event.Fetch 1 0 ∷ [])) (mark_of-empty 1, refl, tt)

-- ---- stray
abbrev stray_cut_1 : Cut
stray_cut_1 = cut_step (drawn_events ++ taken_over ++ reader_begins ++ event.Fetch 1 0 ∷ []) 1 None

abbrev stray_cut_2 : Cut
stray_cut_2 = cut_put [] Works None

abbrev stray_cut_3 : Cut
stray_cut_3 = cut_step (event.Answer 0 0 ∷ event.Step 0 ∷ event.Step 0 ∷ []) 1 None

pub stray_row : history_after default_numbers worked.stray_moves ≡ worked.stray_items
unfolding items_after state_after record_pairs least_unsettled put_row fetched front_of looked with_shadow without_bare keys_of_version kept_commit added verdict recalled_over crashed_clients all_crashed_items
stray_row =
    cut_all opening_state (stray_cut_1 ∷ stray_cut_2 ∷ stray_cut_3 ∷ []) (working (event.Step 1 ∷ [])) (mark_of-empty 1, refl, (mark_of-empty 1, refl, (committed_goes (with_entry (Committed 2)) 1 2 (has_entry (Committed 2)), refl, tt)))

-- ---- wait
abbrev wait_cut : Cut
wait_cut = cut_put (drawn_events ++ begins 1 0 0 ++ event.Answer 0 1 ∷ []) Works None

pub wait_row : history_after default_numbers worked.wait_moves ≡ worked.wait_items
unfolding items_after state_after record_pairs least_unsettled put_row fetched front_of looked with_shadow without_bare keys_of_version kept_commit added verdict recalled_over crashed_clients all_crashed_items
wait_row =
    cut_all opening_state (wait_cut ∷ []) (working (event.Answer 0 1 ∷ event.Answer 0 0 ∷ [])) (mark_of-empty 1, refl, tt)

-- ---- unplaced
abbrev unplaced_cut_1 : Cut
unplaced_cut_1 = cut_put drawn_events FailsUnchanged None

abbrev unplaced_cut_2 : Cut
unplaced_cut_2 = cut_step (event.Answer 0 0 ∷ event.Step 0 ∷ []) 0 None

abbrev unplaced_cut_3 : Cut
unplaced_cut_3 = cut_step [] 0 None

pub unplaced_row : history_after default_numbers worked.unplaced_moves ≡ worked.unplaced_items
unfolding items_after state_after record_pairs least_unsettled put_row fetched front_of looked with_shadow without_bare keys_of_version kept_commit added verdict recalled_over crashed_clients all_crashed_items
unplaced_row =
    cut_all opening_state (unplaced_cut_1 ∷ unplaced_cut_2 ∷ unplaced_cut_3 ∷ []) (working (event.Step 0 ∷ event.Step 0 ∷ [])) (mark_of-empty 1, refl, (mark_of-empty 1, refl, (mark_of-empty 1, refl, tt)))

-- ---- unheard
abbrev unheard_cut_1 : Cut
unheard_cut_1 = cut_put drawn_events FailsApplied None

abbrev unheard_cut_2 : Cut
unheard_cut_2 = cut_step (event.Answer 0 0 ∷ event.Step 0 ∷ []) 0 (Some (Committed 2))

pub unheard_row : history_after default_numbers worked.unheard_moves ≡ worked.unheard_items
unfolding items_after state_after record_pairs least_unsettled put_row fetched front_of looked with_shadow without_bare keys_of_version kept_commit added verdict recalled_over crashed_clients all_crashed_items
unheard_row =
    cut_all opening_state (unheard_cut_1 ∷ unheard_cut_2 ∷ []) (working (event.Step 0 ∷ event.Step 0 ∷ [])) (mark_of-empty 1, refl, (has_entry (Committed 2), refl, tt))

-- ---- crash
abbrev crash_cut_1 : Cut
crash_cut_1 = cut_step (drawn_events ++ event.Crash 0 ∷ event.Step 0 ∷ []) 0 None

abbrev crash_cut_2 : Cut
crash_cut_2 = cut_step [] 0 None

abbrev crash_cut_3 : Cut
crash_cut_3 = cut_sweep (event.Step 0 ∷ event.Step 0 ∷ taken_over ++ reader_begins ++ event.Fetch 1 0 ∷ event.SweepOpen 1 1 ∷ []) (sweep_open 1 100) (Get 1) (Some Invalid)

pub crash_row : history_after default_numbers worked.crash_moves ≡ worked.crash_items
unfolding items_after state_after record_pairs least_unsettled put_row fetched front_of looked without_bare keys_of_version kept_commit added verdict recalled_over crashed_clients all_crashed_items
crash_row =
    let at : State = state_after (cut_step_of (cut_step_of opening_state crash_cut_1).state crash_cut_2).state crash_cut_3.first in
    cut_all opening_state (crash_cut_1 ∷ crash_cut_2 ∷ crash_cut_3 ∷ []) (working (event.SweepStep ∷ [])) (mark_of-empty 1, refl, (mark_of-empty 1, refl, (has_entry Invalid, janitor_gets at (sweep_open 1 100) 1 refl refl, tt)))

-- ---- vanish
abbrev vanish_cut_1 : Cut
vanish_cut_1 = cut_sweep (event.Take 0 0 ∷ begins 0 0 0 ++ event.Write 0 0 v ∷ event.Vanish 0 ∷ event.Fetch 0 0 ∷ event.SweepOpen 0 1 ∷ []) (sweep_open 1 0) (Get 1) None

abbrev vanish_cut_2 : Cut
vanish_cut_2 = cut_sweep (event.SweepStep ∷ taken_over ++ event.SweepOpen 1 1 ∷ []) (sweep_open 1 100) (Get 1) None

abbrev marking : Sweeping
marking = record { txn = 1; epoch = 100; point = Marking }

abbrev vanish_cut_3 : Cut
vanish_cut_3 = cut_sweep [] marking (MarkAsk 1) None

pub vanish_row : history_after default_numbers worked.vanish_moves ≡ worked.vanish_items
unfolding items_after state_after record_pairs least_unsettled put_row without_bare keys_of_version
vanish_row =
    cut_all opening_state (vanish_cut_1 ∷ vanish_cut_2 ∷ vanish_cut_3 ∷ []) (working (event.SweepStep ∷ event.SweepStep ∷ event.SweepStep ∷ [])) (mark_of-empty 1, refl, (mark_of-empty 1, refl, (mark_of-empty 1, refl, tt)))
