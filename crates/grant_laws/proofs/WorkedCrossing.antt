-- The worked script of a commit that strict reads refuse, computed.
use Rattle.grant_laws.proofs.Names.{◌≡◌, false, [], ◌∷◌, None, Some, inl, refl, sym, ◌∙◌, replicate, arith, slice_set}
use Rattle.grant_laws.proofs.Names.{none-some, InvalidMark, Table, Works, planned_fate, put_row, fetched, front_of}
use Rattle.grant_laws.proofs.Names.{without_bare, mark_of-empty, cache_new, recalled_over, Free, Held, Commit, contents}
use Rattle.grant_laws.proofs.Names.{record_pairs, added, kept_commit, verdict, verdict_both, InstanceEntry}
use Rattle.grant_laws.proofs.Names.{instance_new, in_flight, least_unsettled, Client, Nothing, holder_from, ticks_of}
use Rattle.grant_laws.proofs.Names.{InstanceAt, ClientAt, Marked, run_for, lines_played, replayed, reading_of}
use Rattle.grant_laws.proofs.Names.{next_fate, IsBefore, Grants, CommitsAreGranted, IsAtWork, CanServe, CanCommit}
use Rattle.history_book.specs.declared.item.Item.TheVariants as item
use Rattle.system_parts.specs.declared.session.State.TheVariants as phase
use Rattle.system_parts.specs.declared.instance.Progress.TheVariants as progress
use Rattle.script_data.specs.declared.line.Target.TheVariants as target
use Rattle.grant_laws.specs.Worked as worked
use Rattle.grant_laws.proofs.WorkedScripts.{no_lead, in_range}

pub crossing_refused : replayed (worked.strictly worked.crossing) ≡ worked.refused_crossing_items
unfolding lines_played run_for planned_fate holder_from record_pairs added kept_commit verdict least_unsettled put_row without_bare fetched front_of recalled_over
crossing_refused = refl

-- ---- without strict reads: what stands before the last line
abbrev reader : Client
reader = record { entry = record { state = phase.Open; start = Some 1; epoch = Some 0; keys = 1 ∷ []; commit = None }; under_way = Nothing; heal = None; reads = []; cache = cache_new 0 }

-- the commit of the other session is drawn
abbrev drawn : Held
drawn = record { request = Commit 1 2 (0 ∷ []); progress = progress.Drawn 3; told_no_stamp = false; told_not_yet = false }

abbrev oracle : InstanceEntry
oracle = record (instance_new (record { term = 1; epoch = 0; until = 10; ceiling = 100 }) 0 64 4 64 false) { last = 3; buckets = contents 64 4 (record { key = 0; commit = 3 } ∷ []); requests = slice_set (replicate 16 None) 1 (Some drawn) }

reader_is : ClientAt worked.before_crossing.state.clients 0 reader
unfolding lines_played run_for planned_fate holder_from record_pairs added kept_commit verdict least_unsettled put_row without_bare fetched front_of recalled_over
reader_is = refl

oracle_is : InstanceAt worked.before_crossing.state.nodes 0 oracle
unfolding lines_played run_for planned_fate holder_from record_pairs added kept_commit verdict least_unsettled put_row without_bare fetched front_of recalled_over
oracle_is = refl

term_is : oracle.term ≡ worked.before_crossing.state.master.term
unfolding lines_played run_for planned_fate holder_from record_pairs added kept_commit verdict least_unsettled put_row without_bare fetched front_of recalled_over
term_is = refl

reading_is : reading_of worked.crossing worked.before_crossing 0 ≡ 0
unfolding lines_played run_for planned_fate holder_from record_pairs added kept_commit verdict least_unsettled put_row without_bare fetched front_of recalled_over
reading_is = refl

unmarked : Marked worked.before_crossing.state.pairs 1 → ⊥
unfolding lines_played run_for planned_fate holder_from record_pairs added kept_commit verdict least_unsettled put_row without_bare fetched front_of recalled_over
unmarked marked = none-some InvalidMark (sym (mark_of-empty 1) ∙ marked)

calls_work : next_fate worked.crossing worked.before_crossing Table ≡ Works
unfolding lines_played run_for planned_fate holder_from record_pairs added kept_commit verdict least_unsettled put_row without_bare fetched front_of recalled_over
calls_work = refl

no_conflict : verdict_both oracle.buckets 1 reader.entry.keys reader.reads ≡ Free
unfolding record_pairs added kept_commit verdict
no_conflict = refl

pub crossing_can : CanCommit worked.crossing worked.before_crossing 0 0
crossing_can =
    let work : IsAtWork worked.before_crossing 0 = record { client = reader; start = 1; session_is = reader_is; begun = refl; in_work = refl; at_rest = refl } in
    let held : in_flight oracle ≡ 1 = refl in
    let serving : CanServe worked.crossing worked.before_crossing 0 = record { oracle = oracle; node_has = oracle_is; in_term = term_is; slot = omega (arith, held); leased = omega (arith, reading_is); stamp = inl (omega arith); goes_on = refl } in
    record {
      work = work;
      wrote = λ none. cc;
      serving = serving;
      in_epoch = omega arith;
      no_conflict = no_conflict;
      unmarked = unmarked;
      placing = calls_work;
    }

is_before : IsBefore worked.crossing worked.commit worked.before_crossing
unfolding ticks_of
is_before = record {
  in_range = in_range;
  playable = record { leads = no_lead; ticks = omega arith };
  earlier = worked.before_last;
  later = [];
  lines = refl;
  played = refl;
}

pub crossing_granted : CommitsAreGranted → Grants worked.crossing worked.commit worked.before_crossing (item.Committed 0 1 4)
unfolding crossing_can
crossing_granted law = law worked.crossing worked.before_crossing 0 0 (target.Node 0) is_before crossing_can
