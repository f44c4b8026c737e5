-- The premises of the worked scripts with turns, computed.
use Rattle.grant_laws.proofs.Names.{◌≡◌, [], ◌∷◌, Some, inl, inr, refl, sym, ◌∙◌, arith, slice_index_or, none-some}
use Rattle.grant_laws.proofs.Names.{InvalidMark, planned_fate, put_row, fetched, front_of, without_bare, mark_of-empty}
use Rattle.grant_laws.proofs.Names.{recalled_over, record_pairs, kept_commit, verdict, InstanceEntry, in_flight}
use Rattle.grant_laws.proofs.Names.{least_unsettled, Client, client_new, InstanceAt, holder_from, Played, seats_of}
use Rattle.grant_laws.proofs.Names.{passed, Carried, turned, carried, reading_of, IsAtWork, CanWrite, CanTake, CanFetch}
use Rattle.grant_laws.proofs.Names.{Leave, AnswersEarly, LeaveWaiting, at_ask, at_accept, at_draw, CanServeBy}
use Rattle.grant_laws.proofs.Names.{stamp_drawn, CanBeginBy, CanCommitBy}
use Rattle.history_book.specs.declared.item.Item.TheVariants as item
use Rattle.turn_rules.specs.declared.turn.Turn.TheVariants as turn
use Rattle.grant_laws.specs.Worked as worked
use Rattle.grant_laws.specs.WorkedRuns as runs
use Rattle.grant_laws.proofs.WorkedScripts.{client_of, oracle_of}

pub take_can : CanTake worked.taking (carried worked.taking []).played 0
unfolding seats_of passed holder_from planned_fate record_pairs least_unsettled kept_commit verdict put_row without_bare fetched front_of recalled_over
take_can = record { vacant = refl; lapsed = inl refl; stamps = omega arith; taking = refl }

pub write_can : CanWrite worked.writing (carried worked.writing runs.begun).played 0 0
unfolding seats_of passed holder_from planned_fate record_pairs least_unsettled kept_commit verdict put_row without_bare fetched front_of recalled_over
write_can =
    let p : Played = (carried worked.writing runs.begun).played in
    let work : IsAtWork p 0 = record { client = client_of p; start = 1; session_is = refl; begun = refl; in_work = refl; at_rest = refl } in
    record { work = work; room = refl; writing = refl }

pub read_can : CanFetch worked.reading (carried worked.reading runs.begun).played 0 0
unfolding seats_of passed holder_from planned_fate record_pairs least_unsettled kept_commit verdict put_row without_bare fetched front_of recalled_over
read_can =
    let p : Played = (carried worked.reading runs.begun).played in
    let work : IsAtWork p 0 = record { client = client_of p; start = 1; session_is = refl; begun = refl; in_work = refl; at_rest = refl } in
    record { work = work; room = refl; fetching = refl }

begin_serving : CanServeBy runs.beginning 0 0 runs.to_begin
unfolding seats_of passed holder_from planned_fate record_pairs least_unsettled kept_commit verdict put_row without_bare fetched front_of recalled_over Leave
begin_serving =
    let p : Played = (at_ask runs.beginning runs.to_begin).played in
    let q : Played = (at_accept runs.beginning 0 runs.to_begin).played in
    let r : Played = (at_draw runs.beginning 0 0 runs.to_begin).played in
    let held : in_flight (oracle_of p) ≡ 0 = refl in
    let slots : (oracle_of p).slots ≡ 64 = refl in
    let reading : reading_of runs.beginning q 0 ≡ 0 = refl in
    let until : (oracle_of q).until ≡ 10 = refl in
    let last : (oracle_of r).last ≡ 0 = refl in
    let ceiling : (oracle_of r).ceiling ≡ 100 = refl in
    record {
      slot = record { oracle = oracle_of p; node_has = refl; so = omega (arith, held, slots) };
      leased = record { oracle = oracle_of q; node_has = refl; so = omega (arith, reading, until) };
      stamp = record { oracle = oracle_of r; node_has = refl; so = omega (arith, last, ceiling) };
      until_accepted = (refl, tt);
      until_drawn = (refl, tt);
    }

pub begin_can : CanBeginBy runs.beginning 0 0 runs.to_begin (turn.Decide 0 1 ∷ [])
unfolding seats_of passed holder_from planned_fate record_pairs least_unsettled kept_commit verdict put_row without_bare fetched front_of recalled_over Leave LeaveWaiting begin_serving
begin_can =
    let p : Played = (at_ask runs.beginning runs.to_begin).played in
    record {
      client = client_of p;
      session_is = refl;
      is_free = refl;
      serving = begin_serving;
      until_answered = (inl refl, tt);
      settled = record { oracle = oracle_of (carried runs.beginning runs.before_answer).played; node_has = refl; so = refl };
    }

-- the begin that is answered too early
wait_serving : CanServeBy runs.waiting 1 0 runs.to_wait
unfolding seats_of passed holder_from planned_fate record_pairs least_unsettled kept_commit verdict put_row without_bare fetched front_of recalled_over Leave
wait_serving =
    let p : Played = (at_ask runs.waiting runs.to_wait).played in
    let q : Played = (at_accept runs.waiting 1 runs.to_wait).played in
    let r : Played = (at_draw runs.waiting 1 0 runs.to_wait).played in
    let held : in_flight (oracle_of p) ≡ 1 = refl in
    let slots : (oracle_of p).slots ≡ 64 = refl in
    let reading : reading_of runs.waiting q 0 ≡ 0 = refl in
    let until : (oracle_of q).until ≡ 10 = refl in
    let last : (oracle_of r).last ≡ 2 = refl in
    let ceiling : (oracle_of r).ceiling ≡ 100 = refl in
    record {
      slot = record { oracle = oracle_of p; node_has = refl; so = omega (arith, held, slots) };
      leased = record { oracle = oracle_of q; node_has = refl; so = omega (arith, reading, until) };
      stamp = record { oracle = oracle_of r; node_has = refl; so = omega (arith, last, ceiling) };
      until_accepted = tt;
      until_drawn = tt;
    }

too_early : (c : Carried) → (i : InstanceEntry) → InstanceAt c.played.state.nodes 0 i → least_unsettled i.requests 3 ≡ Some 2 → AnswersEarly c 0 1 3 (turn.Answer 0 1)
too_early c i node_has least = record { answers = refl; unsettled = record { oracle = i; node_has = node_has; so = λ none. none-some 2 (sym none ∙ least) } }

pub wait_can : CanBeginBy runs.waiting 1 0 runs.to_wait runs.early
unfolding seats_of passed holder_from planned_fate record_pairs least_unsettled kept_commit verdict put_row without_bare fetched front_of recalled_over Leave LeaveWaiting wait_serving
wait_can =
    let p : Played = (at_ask runs.waiting runs.to_wait).played in
    let c : Carried = turned runs.waiting (at_draw runs.waiting 1 0 runs.to_wait) (turn.Decide 0 1) in
    let d : Carried = turned runs.waiting c (turn.Answer 0 1) in
    record {
      client = slice_index_or p.state.clients 1 (client_new p.state.setup.cache);
      session_is = refl;
      is_free = refl;
      serving = wait_serving;
      until_answered = (inr (too_early c (oracle_of c.played) refl refl), (inr (too_early d (oracle_of d.played) refl refl), (inl refl, tt)));
      settled = record { oracle = oracle_of (carried runs.waiting runs.before_settled).played; node_has = refl; so = refl };
    }

pub commit_serving : CanServeBy runs.committing 0 0 runs.to_commit
unfolding seats_of passed holder_from planned_fate record_pairs least_unsettled kept_commit verdict put_row without_bare fetched front_of recalled_over Leave
commit_serving =
    let p : Played = (at_ask runs.committing runs.to_commit).played in
    let q : Played = (at_accept runs.committing 0 runs.to_commit).played in
    let r : Played = (at_draw runs.committing 0 0 runs.to_commit).played in
    let held : in_flight (oracle_of p) ≡ 0 = refl in
    let slots : (oracle_of p).slots ≡ 64 = refl in
    let reading : reading_of runs.committing q 0 ≡ 0 = refl in
    let until : (oracle_of q).until ≡ 10 = refl in
    let last : (oracle_of r).last ≡ 1 = refl in
    let ceiling : (oracle_of r).ceiling ≡ 100 = refl in
    record {
      slot = record { oracle = oracle_of p; node_has = refl; so = omega (arith, held, slots) };
      leased = record { oracle = oracle_of q; node_has = refl; so = omega (arith, reading, until) };
      stamp = record { oracle = oracle_of r; node_has = refl; so = omega (arith, last, ceiling) };
      until_accepted = (refl, tt);
      until_drawn = tt;
    }

pub commit_can : CanCommitBy runs.committing 0 0 0 runs.to_commit (turn.Accept 0 1 ∷ []) (turn.Decide 0 1 ∷ [])
unfolding seats_of passed holder_from planned_fate record_pairs least_unsettled kept_commit verdict put_row without_bare fetched front_of recalled_over Leave commit_serving
commit_can =
    let p : Played = (at_ask runs.committing runs.to_commit).played in
    let q : Played = (at_accept runs.committing 0 runs.to_commit).played in
    let r : Played = (at_draw runs.committing 0 0 runs.to_commit).played in
    let c : Client = client_of p in
    let keys : c.entry.keys ≡ 0 ∷ [] = refl in
    let epoch : (oracle_of q).epoch ≡ 0 = refl in
    let work : IsAtWork p 0 = record { client = c; start = 1; session_is = refl; begun = refl; in_work = refl; at_rest = refl } in
    record {
      work = work;
      wrote = λ none. cc (keys, none);
      serving = commit_serving;
      in_epoch = record { oracle = oracle_of q; node_has = refl; so = omega (arith, epoch) };
      no_conflict = record { oracle = oracle_of r; node_has = refl; client = client_of r; session_is = refl; so = refl };
      until_settled = (refl, tt);
      settles = record { unmarked = λ marked. none-some InvalidMark (sym (mark_of-empty 1) ∙ marked); placing = refl; until_answered = (refl, tt) };
    }

-- the item that it asks for
pub commit_item : item.Committed 0 commit_can.work.start (stamp_drawn commit_can.serving) ≡ item.Committed 0 1 2
unfolding seats_of passed holder_from planned_fate record_pairs least_unsettled kept_commit verdict put_row without_bare fetched front_of recalled_over commit_can commit_serving
commit_item = refl
