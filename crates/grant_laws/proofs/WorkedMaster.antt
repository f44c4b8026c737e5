-- Lines that name the master, worked: in file order, and on threads.
use Rattle.grant_laws.proofs.Names.{◌≡◌, ◌+◌, [], ◌∷◌, Option, None, inl, refl, sym, ◌∙◌, subst, arith, MatchOption}
use Rattle.grant_laws.proofs.Names.{slice_index_or, none-some, InvalidMark, planned_fate, ◌∈◌, Session, Item, put_row}
use Rattle.grant_laws.proofs.Names.{fetched, front_of, without_bare, mark_of-empty, recalled_over, record_pairs}
use Rattle.grant_laws.proofs.Names.{kept_commit, verdict, InstanceEntry, in_flight, least_unsettled, Client}
use Rattle.grant_laws.proofs.Names.{holder_from, Line, ScriptData, ticks_of, IsPlayable, Played, lines_played, replayed}
use Rattle.grant_laws.proofs.Names.{run_for, carried_items, seats_of, passed, IsBefore, reading_of, node_asked, Grants}
use Rattle.grant_laws.proofs.Names.{BeginsAreGranted, CommitsAreGranted, IsAhead, Leave, LeaveWaiting, node_aimed}
use Rattle.grant_laws.proofs.Names.{at_ask, at_accept, at_draw, at_begin_answer, CanServeBy, stamp_drawn, CanBeginBy}
use Rattle.grant_laws.proofs.Names.{RunsGrantBegins, IsAtWork, CanServe, CanBegin, CanCommit}
use Rattle.std.specs.Prelude.{ℕ}
use Rattle.history_book.specs.declared.cause.Cause.TheVariants as cause
use Rattle.history_book.specs.declared.item.Item.TheVariants as item
use Rattle.script_data.specs.declared.line.Target.TheVariants as target
use Rattle.grant_laws.specs.Worked as worked
use Rattle.grant_laws.specs.WorkedRuns as runs
use Rattle.grant_laws.proofs.WorkedScripts.{client_of, oracle_in, no_lead, in_range}

abbrev script : ScriptData
script = worked.asking_master

-- the instance of the second node
abbrev second : Played → InstanceEntry
second p = oracle_in (slice_index_or p.state.nodes 1 None)

playable : IsPlayable script 0 script.lines
unfolding ticks_of
playable = record { leads = no_lead; ticks = omega arith }

-- ---- a begin, in file order
pub begin_asks : node_asked script worked.before_master_begin target.Master ≡ 1
unfolding lines_played run_for planned_fate holder_from record_pairs kept_commit verdict least_unsettled put_row without_bare fetched front_of recalled_over
begin_asks = refl

pub begin_can : CanBegin script worked.before_master_begin 0 (node_asked script worked.before_master_begin target.Master)
unfolding lines_played run_for planned_fate holder_from record_pairs kept_commit verdict least_unsettled put_row without_bare fetched front_of recalled_over
begin_can =
    let p : Played = worked.before_master_begin in
    let i : InstanceEntry = second p in
    let held : in_flight i ≡ 0 = refl in
    let slots : i.slots ≡ 64 = refl in
    let reading : reading_of script p 1 ≡ 12 = refl in
    let until : i.until ≡ 22 = refl in
    let last : i.last ≡ 100 = refl in
    let ceiling : i.ceiling ≡ 200 = refl in
    let serving : CanServe script p 1 = record { oracle = i; node_has = refl; in_term = refl; slot = omega (arith, held, slots); leased = omega (arith, reading, until); stamp = inl (omega (arith, last, ceiling)); goes_on = refl } in
    record { client = client_of p; session_is = refl; is_free = refl; serving = serving }

begin_before : IsBefore script worked.master_begin worked.before_master_begin
begin_before = record {
  in_range = in_range;
  playable = playable;
  earlier = worked.after_two;
  later = worked.write ∷ worked.master_commit ∷ [];
  lines = refl;
  played = refl;
}

begin_settled : least_unsettled begin_can.serving.oracle.requests (begin_can.serving.oracle.last + 1) ≡ None
unfolding begin_can lines_played run_for planned_fate holder_from record_pairs kept_commit verdict least_unsettled put_row
begin_settled = refl

begin_item : item.Begin 0 (begin_can.serving.oracle.last + 1) ≡ item.Begin 0 101
unfolding begin_can lines_played run_for planned_fate holder_from record_pairs kept_commit verdict least_unsettled put_row
begin_item = refl

pub begin_granted : BeginsAreGranted → Grants script worked.master_begin worked.before_master_begin (item.Begin 0 101)
begin_granted law =
    let line : Line = worked.master_begin in
    let p : Played = worked.before_master_begin in
    let can : CanBegin script p 0 (node_asked script p target.Master) = begin_can in
    let granted : Grants script line p (item.Begin 0 (can.serving.oracle.last + 1)) = subst (λ (least : Option ℕ). MatchOption least (Grants script line p (item.Begin 0 (can.serving.oracle.last + 1))) (λ commit. Grants script line p (item.Refused (Session 0) (cause.NotYet commit)))) begin_settled (law script p 0 0 target.Master begin_before can) in
    subst (λ (x : Item). Grants script line p x) begin_item granted

pub begin_refused : replayed worked.asking_first ≡ worked.asking_first_items
unfolding lines_played run_for planned_fate holder_from record_pairs kept_commit verdict least_unsettled put_row without_bare fetched front_of recalled_over
begin_refused = refl

-- ---- a commit, in file order
pub commit_asks : node_asked script worked.before_master_commit target.Master ≡ 1
unfolding lines_played run_for planned_fate holder_from record_pairs kept_commit verdict least_unsettled put_row without_bare fetched front_of recalled_over
commit_asks = refl

pub commit_can : CanCommit script worked.before_master_commit 0 (node_asked script worked.before_master_commit target.Master)
unfolding lines_played run_for planned_fate holder_from record_pairs kept_commit verdict least_unsettled put_row without_bare fetched front_of recalled_over
commit_can =
    let p : Played = worked.before_master_commit in
    let i : InstanceEntry = second p in
    let c : Client = client_of p in
    let keys : c.entry.keys ≡ 0 ∷ [] = refl in
    let held : in_flight i ≡ 0 = refl in
    let slots : i.slots ≡ 64 = refl in
    let reading : reading_of script p 1 ≡ 12 = refl in
    let until : i.until ≡ 22 = refl in
    let epoch : i.epoch ≡ 100 = refl in
    let last : i.last ≡ 101 = refl in
    let ceiling : i.ceiling ≡ 200 = refl in
    let work : IsAtWork p 0 = record { client = c; start = 101; session_is = refl; begun = refl; in_work = refl; at_rest = refl } in
    let serving : CanServe script p 1 = record { oracle = i; node_has = refl; in_term = refl; slot = omega (arith, held, slots); leased = omega (arith, reading, until); stamp = inl (omega (arith, last, ceiling)); goes_on = refl } in
    record {
      work = work;
      wrote = λ none. cc (keys, none);
      serving = serving;
      in_epoch = omega (arith, epoch);
      no_conflict = refl;
      unmarked = λ marked. none-some InvalidMark (sym (mark_of-empty 101) ∙ marked);
      placing = refl;
    }

commit_before : IsBefore script worked.master_commit worked.before_master_commit
commit_before = record {
  in_range = in_range;
  playable = playable;
  earlier = worked.take 0 ∷ worked.tick 12 ∷ worked.take 1 ∷ worked.master_begin ∷ worked.write ∷ [];
  later = [];
  lines = refl;
  played = refl;
}

commit_item : item.Committed 0 commit_can.work.start (commit_can.serving.oracle.last + 1) ≡ item.Committed 0 101 102
unfolding commit_can lines_played run_for planned_fate holder_from record_pairs kept_commit verdict least_unsettled put_row
commit_item = refl

pub commit_granted : CommitsAreGranted → Grants script worked.master_commit worked.before_master_commit (item.Committed 0 101 102)
commit_granted law =
    let p : Played = worked.before_master_commit in
    let can : CanCommit script p 0 (node_asked script p target.Master) = commit_can in
    let granted : Grants script worked.master_commit p (item.Committed 0 can.work.start (can.serving.oracle.last + 1)) = law script p 0 0 target.Master commit_before can in
    subst (λ (x : Item). Grants script worked.master_commit p x) commit_item granted

-- ---- a begin on threads
pub aimed_asks : node_aimed script (at_ask script runs.to_master) 1 target.Master ≡ 1
unfolding seats_of passed holder_from planned_fate record_pairs least_unsettled kept_commit verdict put_row without_bare fetched front_of recalled_over
aimed_asks = refl

aimed_serving : CanServeBy script 0 1 runs.to_master
unfolding seats_of passed holder_from planned_fate record_pairs least_unsettled kept_commit verdict put_row without_bare fetched front_of recalled_over Leave
aimed_serving =
    let p : Played = (at_ask script runs.to_master).played in
    let q : Played = (at_accept script 0 runs.to_master).played in
    let r : Played = (at_draw script 0 1 runs.to_master).played in
    let held : in_flight (second p) ≡ 0 = refl in
    let slots : (second p).slots ≡ 64 = refl in
    let reading : reading_of script q 1 ≡ 12 = refl in
    let until : (second q).until ≡ 22 = refl in
    let last : (second r).last ≡ 100 = refl in
    let ceiling : (second r).ceiling ≡ 200 = refl in
    record {
      slot = record { oracle = second p; node_has = refl; so = omega (arith, held, slots) };
      leased = record { oracle = second q; node_has = refl; so = omega (arith, reading, until) };
      stamp = record { oracle = second r; node_has = refl; so = omega (arith, last, ceiling) };
      until_accepted = tt;
      until_drawn = tt;
    }

pub aimed_can : CanBeginBy script 0 1 runs.to_master []
unfolding seats_of passed holder_from planned_fate record_pairs least_unsettled kept_commit verdict put_row without_bare fetched front_of recalled_over LeaveWaiting aimed_serving
aimed_can = record {
  client = client_of (at_ask script runs.to_master).played;
  session_is = refl;
  is_free = refl;
  serving = aimed_serving;
  until_answered = tt;
  settled = record { oracle = second (at_begin_answer script 0 1 runs.to_master []).played; node_has = refl; so = refl };
}

aimed_item : item.Begin 0 (stamp_drawn aimed_can.serving) ≡ item.Begin 0 101
unfolding seats_of passed holder_from planned_fate record_pairs least_unsettled kept_commit verdict put_row without_bare fetched front_of recalled_over aimed_can aimed_serving
aimed_item = refl

ahead : IsAhead script (at_ask script runs.to_master) (Session 0) (worked.master_begin).verb
unfolding seats_of passed holder_from planned_fate record_pairs least_unsettled kept_commit verdict put_row without_bare fetched front_of recalled_over
ahead = record { seat = runs.master_seat; sits = refl; line = worked.master_begin; present = refl; verb_is = refl; unopened = refl }

pub aimed_granted : RunsGrantBegins → item.Begin 0 101 ∈ carried_items script runs.master_turns
aimed_granted law =
    let has : item.Begin 0 (stamp_drawn aimed_can.serving) ∈ carried_items script runs.master_turns = law script 0 1 target.Master runs.to_master [] [] in_range playable ahead aimed_asks aimed_can in
    subst (λ (x : Item). x ∈ carried_items script runs.master_turns) aimed_item has

pub aimed_refused : carried_items script runs.first_turns ≡ runs.first_items
unfolding seats_of passed holder_from planned_fate record_pairs least_unsettled kept_commit verdict put_row without_bare fetched front_of recalled_over
aimed_refused = refl
