-- The names of other crates and of the specs that this crate's proofs cite.
pub use Rattle.cause_laws.proofs.AlwaysExplained.{tells_at_first, tells_stay}
pub use Rattle.cause_laws.specs.ShownInvariant.{ExplainedInvariant}
pub use Rattle.command_semantics.proofs.AlwaysFit.{Fit, fit_at_first, fit_stays}
pub use Rattle.command_semantics.proofs.Holders.{Served, is_served_at}
pub use Rattle.command_semantics.proofs.ReadLines.{OfRead, over_recalls, told_recalls}
pub use Rattle.command_semantics.proofs.ScriptWalks.{actor_same, same_itself}
pub use Rattle.command_semantics.proofs.Serving.{node_step, on_both}
pub use Rattle.command_semantics.proofs.Stepping.{place_is, unhanded}
pub use Rattle.command_semantics.specs.Answers.{same_actor}
pub use Rattle.command_semantics.specs.Interruptions.{follows, halt_of}
pub use Rattle.command_semantics.specs.Laws.{AreLinesOf, EventsLowerWhatIsLeft, IsPlayable, IsReached}
pub use Rattle.command_semantics.specs.Next.{Clocks, drive_next, extend_next, idle_next, is_served, next, places, placing_next, read_next, reading_at, serves}
pub use Rattle.command_semantics.specs.PlannedLaws.{ScriptsArePlanned}
unfoldable pub use Rattle.command_semantics.specs.Runs.{lines_played, run_for}
pub use Rattle.command_semantics.specs.Runs.{Calls, Played, Run, calls_after, calls_on, clock_after, clocks_of, fate_by, fate_of, going_on, left_in, line_run, next_in, one_more, opened, opening_played, played, replayed, run_after, script_played, step_of}
pub use Rattle.command_semantics.specs.Views.{view_of}
pub use Rattle.command_semantics.specs.declared.point.Point.{Point}
pub use Rattle.command_semantics.specs.declared.point.Point.TheVariants.{Drives, Extends, Opens, Reads}
pub use Rattle.command_semantics.specs.declared.point.View.{View}
pub use Rattle.grant_laws.specs.Between.{AsksAreCarried, EarlyAnswersWait, PlacingsStay, ReadsStay, ToldToWait}
pub use Rattle.grant_laws.specs.Granted.{Appends, Grants, HasStamp, IsBefore, line_of, next_fate, node_asked, reading_of}
pub use Rattle.grant_laws.specs.Laws.{BeginsAreGranted, CommitsAreGranted, DirectBeginsNeverWait, ReadsAreGranted, ReadsAreShort, ReadsOnThreadsAreShort, TakesAreGranted, WritesAreGranted}
unfoldable pub use Rattle.grant_laws.specs.Lines.{Leave, LeaveWaiting, NoneOwn, StepsWork}
pub use Rattle.grant_laws.specs.Lines.{AnswersEarly, AsksCommit, AtNode, CanBeginBy, CanCommitBy, CanServeBy, CommitLinesPlace, IsAhead, PlacesAtNode, PlacesBySession, RunsGrantBegins, RunsGrantCommits, RunsGrantReads, RunsGrantTakes, RunsGrantWrites, UpToDraw, all_up_to_draw, at_accept, at_ask, at_begin_answer, at_draw, at_settle, is_own, node_aimed, settling_turns, stamp_drawn, with_others}
pub use Rattle.grant_laws.specs.Premises.{CanBegin, CanCommit, CanFetch, CanRead, CanServe, CanTake, CanWrite, IsAtWork, IsReadFrom, cells_to_read}
pub use Rattle.grant_laws.specs.Stuck.{AwaitsName, AwaitsReply, IsHeld, IsStuck, StandsBefore, StuckRunsWait, stage_before}
pub use Rattle.grant_laws.specs.Turns.{Adds, AnswersOr, ExtensionsAreCarried, Hands, IsPlacing, IsServed, PlacingsAreCarried, ReadsAreCarried, ReadsKey, RequestsStay, ServedAreGranted, ServedTurnsAreGranted, Serves, TakesAreCarried, WritesAreCarried, read_steps, touches}
unfoldable pub use Rattle.history_book.specs.Members.{◌∈◌}
pub use Rattle.history_book.specs.declared.cause.Cause.{Cause}
pub use Rattle.history_book.specs.declared.item.Actor.{Actor}
pub use Rattle.history_book.specs.declared.item.Actor.TheVariants.{Clock, Janitor, Node, Session}
pub use Rattle.history_book.specs.declared.item.Found.{Found}
pub use Rattle.history_book.specs.declared.item.Item.{Item}
pub use Rattle.history_book.specs.declared.item.StoreStep.TheVariants.{Handed}
pub use Rattle.isolation_laws.specs.Bare.{is_bare}
pub use Rattle.isolation_laws.specs.Pending.{Has, HeldPending, InFlight, PlacingAt, is_placing}
pub use Rattle.isolation_laws.specs.Requests.{WaitsFor}
pub use Rattle.isolation_laws.specs.Sound.{ReachedInvariant}
pub use Rattle.isolation_laws.specs.Words.{ClientAt, InstanceAt, Marked, epoch_or_none}
pub use Rattle.machine.proofs.Lookups.{held_by, held_set, instance_changed, instance_ended, one_client, one_instance, set_found, set_other}
pub use Rattle.machine.specs.Clients.{client_asked, client_handed, is_reading, is_reading_by, unless_gone_by}
pub use Rattle.machine.specs.Effect.{Effect, Refuses, Stop, done, refused_once}
pub use Rattle.machine.specs.Events.Accept.{accept_by, accept_on, accept_request}
pub use Rattle.machine.specs.Events.Answer.{answer_by, answer_on, answer_request}
pub use Rattle.machine.specs.Events.AskBegin.{ask_begin_by, ask_begin_on, asked_by}
pub use Rattle.machine.specs.Events.AskCommit.{ask_commit_by, ask_commit_on, commit_asked, commit_of}
pub use Rattle.machine.specs.Events.Decide.{both_held, both_if_accepted, both_verdict, decide_both, decide_on, decide_request, decide_by as decision_by, draw_item}
pub use Rattle.machine.specs.Events.Extend.{extend_asks, extend_by, extend_on}
pub use Rattle.machine.specs.Events.Fetch.{client_fetched, client_put_fresh, client_recalled, epoch_asks, fetch_asks, fetch_by, fetch_on, fetch_open, fetch_recall, fetch_refused, fetch_worked, found_of, marks_every, read_items, reads_refusal}
pub use Rattle.machine.specs.Events.Put.{commit_asks, put_asks, put_by, put_commit, put_on, to_place, to_place_by}
pub use Rattle.machine.specs.Events.Renew.{renew_by, renew_on}
pub use Rattle.machine.specs.Events.Step.{StepParts, asked_next, next_of, step_asks, step_asks_by, step_at, step_due, step_on, step_recall, stepped_on, store_asked, work_by}
pub use Rattle.machine.specs.Events.Take.{instance_of, rules_of, take_asks, take_by, take_item, take_on}
pub use Rattle.machine.specs.Events.Write.{open_asks, write_asks, write_on, write_open, write_refused}
pub use Rattle.machine.specs.Machine.{IsSteadyAt, Step, asks, asks_at_client, asks_at_post, at_both, at_client, at_post, on_ask, on_request, step_by, step_by as step_of_effect, stepped, with_client, with_post, with_reading}
unfoldable pub use Rattle.machine.specs.Readers.{holder_from}
pub use Rattle.machine.specs.Readers.{asks_commit, commit_held, doing_at, doing_by, doing_of, first_holder, held_at, holder_of, is_commit, place_held, place_of, sweeping}
pub use Rattle.machine.specs.State.{Client, Nothing, State, Reads as UnderRead, UnderWay, client_new}
pub use Rattle.machine.specs.StoreSteps.{met, store_of, told_by}
pub use Rattle.machine.specs.declared.event.Event.{Event}
pub use Rattle.port_io.specs.Fates.{fated}
unfoldable pub use Rattle.port_io.specs.Planned.{planned_fate}
pub use Rattle.port_io.specs.Planned.{PlannedFault, same_store}
pub use Rattle.port_io.specs.declared.weather.Fate.{Fate}
pub use Rattle.port_io.specs.declared.weather.Fate.TheVariants.{FailsApplied, FailsUnchanged, Works}
pub use Rattle.script_data.specs.Data.{ScriptData}
unfoldable pub use Rattle.script_data.specs.Ticks.{ticks_of}
pub use Rattle.script_data.specs.declared.line.Line.{Line}
pub use Rattle.script_data.specs.declared.line.Verb.{Verb}
pub use Rattle.stamp_base.specs.SetupNumbers.{AreInRange, SetupNumbers, default_numbers}
pub use Rattle.stamp_base.specs.declared.stores.Mark.{Mark}
pub use Rattle.stamp_base.specs.declared.stores.Mark.TheVariants.{Committed as CommittedMark, Invalid as InvalidMark}
pub use Rattle.stamp_base.specs.declared.stores.Store.{Store}
pub use Rattle.stamp_base.specs.declared.stores.Store.TheVariants.{Cells, Master, Table}
pub use Rattle.std.proofs.Common.{Bool, Err, List, None, Ok, Option, Result, Some, [], ap, append_assoc, arith, cond, false, inl, inr, is_some, length, nat_lt, not, refl, replicate, subst, suc, sym, true, zero, ℕ, ◌&&◌, ◌*◌, ◌++◌, ◌+◌, ◌-◌, ◌<◌, ◌==◌, ◌^◌, ◌||◌, ◌∙◌, ◌∷◌, ◌≡◌, ◌≢◌, ◌≤◌, ◌⊎◌}
pub use Rattle.std.proofs.lemmas.Bool.{and_left, and_right, cases_Bool, cases_eq, cases_lt, eq-eqb, eqb-false, eqb-true, le-ltb, lt-leb, lt-ltb, ne_eqb}
pub use Rattle.std.proofs.lemmas.List.{append-nil, get_or-set_same, get_or_past, length-set, set-set}
pub use Rattle.std.proofs.lemmas.List.Sums.{count_by-le-length, fold-append, length-filter, sum_by-cons}
pub use Rattle.std.proofs.lemmas.Option.{none-some, same_Some, slice_get_within}
pub use Rattle.std.specs.List.{filter, list_any}
pub use Rattle.std.specs.Option.{option_map, option_or}
pub use Rattle.std.specs.Prelude.{IfSome, IsSomeAnd, MatchOption, count_by, fold, slice_get, slice_index_or, slice_set}
pub use Rattle.system_parts.proofs.InstanceRequests.{held_of-after_call_other, held_of-instance_new, held_of-with_request_same}
pub use Rattle.system_parts.proofs.PairLaws.{mark_of-empty}
unfoldable pub use Rattle.system_parts.specs.Buckets.{added, kept_commit, record_pairs, verdict}
pub use Rattle.system_parts.specs.Buckets.{contents, verdict_both}
pub use Rattle.system_parts.specs.Cache.{Cache, cache_new, put_fresh}
unfoldable pub use Rattle.system_parts.specs.Instance.{least_unsettled}
pub use Rattle.system_parts.specs.Instance.{InstanceEntry, held_of, in_flight, instance_new, lesser, not_yet_of_held, only_below, place_of_progress, session_of, stamps_at, stamps_by, stamps_of_held, unsettled_by, unsettled_commit, was_told_not_yet, with_request}
pub use Rattle.system_parts.specs.InstanceLaws.{Accepts, Decides, InstanceCall, Settles, after_call, call_session, stamp_of}
pub use Rattle.system_parts.specs.InstanceSteps.{InstanceStep, accept_held, accept_if_asked, accept_refusal, accept_unless, answer_begin, answer_held, answer_if_ready, decide_by, decide_drawn, decide_held, decide_if_accepted, decided_by, drawn_as, ends, epoch_refusal, instance_accept, instance_answer, instance_ask, instance_decide, instance_refuse, instance_widened, just_asked, moved, no_stamp_told, not_yet_told, out_of_stamps, refuse_held, refuse_if_accepted, request_verdict, settle_held, settle_if_drawn, stays, decide_by as verdict_by, without_request}
unfoldable pub use Rattle.system_parts.specs.KeyRead.{after_passed}
pub use Rattle.system_parts.specs.KeyRead.{Answers, Asks, ReadTurn, Reading, found_by, found_cell, read_ask, read_by, read_left, read_over, settling_of, turn_at}
pub use Rattle.system_parts.specs.Pairs.{Pairs, mark_of, put_pair}
unfoldable pub use Rattle.system_parts.specs.Recalled.{recalled_over}
pub use Rattle.system_parts.specs.Recalled.{Remembering, outcome_known, recalled_told, recalled_turn}
pub use Rattle.system_parts.specs.Record.{Leasing, MasterRecord, answered, extend_refused, extended, granted, granted as granted_at, is_early, is_spent, take_refused, taken}
unfoldable pub use Rattle.system_parts.specs.Rows.{fetched, front_of, put_row, without_bare}
pub use Rattle.system_parts.specs.Rows.{Row, is_below}
pub use Rattle.system_parts.specs.SessionSteps.{asked_state, begin_refusal, key_refusal, step_refusal, work_refusal}
pub use Rattle.system_parts.specs.declared.asks.Told.{Told}
pub use Rattle.system_parts.specs.declared.buckets.Verdict.{Verdict}
pub use Rattle.system_parts.specs.declared.buckets.Verdict.TheVariants.{Conflict, Free, Hidden}
pub use Rattle.system_parts.specs.declared.instance.Held.{Held}
pub use Rattle.system_parts.specs.declared.instance.Place.{Place}
pub use Rattle.system_parts.specs.declared.instance.Progress.{Progress}
pub use Rattle.system_parts.specs.declared.instance.Request.{Request}
pub use Rattle.system_parts.specs.declared.instance.Request.TheVariants.{Begin, Commit}
pub use Rattle.system_parts.specs.declared.key_read.Answer.{Answer}
pub use Rattle.system_parts.specs.declared.record.ExtendRefused.{ExtendRefused}
pub use Rattle.system_parts.specs.declared.rows.Cell.{Cell}
pub use Rattle.system_parts.specs.declared.session.State.{State as SessionState}
pub use Rattle.turn_rules.proofs.Facts.{Facts, facts_all, facts_at_first, facts_turned}
pub use Rattle.turn_rules.proofs.OwnTurns.{OwnTurn, own_turn, present_own, stage_turn, turn_timed}
pub use Rattle.turn_rules.proofs.SeatLists.{drop_get, drop_next, filtered, find_true, get_drop}
pub use Rattle.turn_rules.proofs.SeatsOn.{other_stays, own_moved, passed_actor, passed_seat, seat_after, turned_seat}
pub use Rattle.turn_rules.proofs.StillReading.{IsNotOf, client_stays, none_held}
pub use Rattle.turn_rules.specs.Carried.{Carried, ahead_at, ahead_in, aimed_clocks, all_passed, at_first, carried, carried_items, event_of, holds_at, is_held, made_by, name_posted, own_ahead, seat_ahead, seat_of, seat_passed, turned, turned_by, with_event}
pub use Rattle.turn_rules.specs.Lawful.{IsFree, IsInPlace, IsLawful, IsTold, LacksStamps, answered_from, is_accepted, is_accepted_by, session_view, stage_of}
pub use Rattle.turn_rules.specs.Laws.{TurnsArePlannedSoFar, TurnsKeepFacts}
unfoldable pub use Rattle.turn_rules.specs.Seats.{passed, seats_of}
pub use Rattle.turn_rules.specs.Seats.{ahead_of, is_passed, lines_left, lines_of, present_line, with_event_of, with_next_line}
pub use Rattle.turn_rules.specs.Told.{AreForThreads, OwnTurnsAreTold, StageTurnsAreTold}
pub use Rattle.turn_rules.specs.Waiting.{collect_ahead, drive_ahead, made_next, own_next, own_opens}
pub use Rattle.turn_rules.specs.declared.ahead.NextAction.{NextAction}
pub use Rattle.turn_rules.specs.declared.ahead.NextAction.TheVariants.{Makes, Passes, Waits}
pub use Rattle.turn_rules.specs.declared.ahead.Why.TheVariants.{Name, Reply}
pub use Rattle.turn_rules.specs.declared.seat.Seat.{Seat}
pub use Rattle.turn_rules.specs.declared.turn.Turn.{Turn}
