-- The names of other crates and of the specs that this crate's proofs cite.
pub use Rattle.cause_laws.proofs.AlwaysExplained.{tells_at_first, tells_stay}
pub use Rattle.cause_laws.proofs.SinceWords.{last_told-push, last_told-same}
pub use Rattle.cause_laws.specs.ShownInvariant.{ExplainedInvariant, ShownInvariant}
pub use Rattle.cause_rules.specs.Asks.{its_node}
pub use Rattle.cause_rules.specs.Since.{last_told, told_then}
unfoldable pub use Rattle.command_semantics.specs.Answers.{Answered}
pub use Rattle.command_semantics.specs.Answers.{EndsInstead, EndsRead, IsAnswer, IsAskBegin, IsAskCommit, IsCrash, IsFetch, IsNote, IsOpeningOf, IsReadOnly, IsRefusal, IsRenew, IsTake, IsTick, IsVanish, IsWrite, RefusesLine, asks_last, clock_opening, has_opening, is_of, name_opening, node_opening, opener, read_begun, same_actor, session_opening}
pub use Rattle.command_semantics.specs.Interruptions.{after_extending, after_opening, after_serving, after_stepping, after_write, follows, halt_of, refused_by, unless_halted}
unfoldable pub use Rattle.command_semantics.specs.Laws.{AreLinesOf}
pub use Rattle.command_semantics.specs.Laws.{ActorFits, EventsLowerWhatIsLeft, IsPlayable, IsReached, LinesAreAnswered, LinesKeepFacts, RunsEnd, ScriptsAreReached, TargetFits, VerbFits}
pub use Rattle.command_semantics.specs.Left.{asks_left, cells_by, client_completes, client_ends, client_fetches, client_reads, client_settles, client_steps, drive_left, drive_left_by, janitor_left, keys_of, lacks_at, lacks_stamps, of_client, one_left, place_left, reads_left, request_left, session_left, steps_due, steps_left, sweep_left, sweep_left_at}
pub use Rattle.command_semantics.specs.Master.{HasTake, has_take, is_node, last_master, taken_by, takes}
pub use Rattle.command_semantics.specs.Next.{Clocks, clock_opens, collect_next, drive_next, extend_by, extend_next, finish_next, idle_next, is_served, janitor_next, janitor_opens, next, node_opens, opens_alone, places, placing_next, read_next, reading_at, serves, session_next, session_opens, steps_next, sweep_next, target_node}
unfoldable pub use Rattle.command_semantics.specs.Planned.{ticks_in, times_from, times_told}
pub use Rattle.command_semantics.specs.Planned.{IsCauseTimed, IsTimed, is_fault_of, plans, shown, tick_by, time_by, time_or_start, with_tick}
pub use Rattle.command_semantics.specs.PlannedLaws.{EventsStayPlanned, LinesReadClocks, PlannedAtFirst, PlannedInTheEnd, ScriptsArePlanned}
unfoldable pub use Rattle.command_semantics.specs.Runs.{lines_played, run_for}
pub use Rattle.command_semantics.specs.Runs.{Calls, Played, Run, calls_after, calls_on, clock_after, clocks_of, fate_by, fate_of, going_on, left_in, line_run, next_in, one_more, opened, opening_played, played, run_after, script_played, step_of}
pub use Rattle.command_semantics.specs.SoFar.{PlannedSoFar, ReadsClocks, is_due, tick_at, ticks_with}
pub use Rattle.command_semantics.specs.Views.{view_of}
pub use Rattle.command_semantics.specs.declared.point.Interruption.{Interruption}
pub use Rattle.command_semantics.specs.declared.point.Interruption.TheVariants.{Faulted, NoStamp, NotYet, Refused}
pub use Rattle.command_semantics.specs.declared.point.Point.{Point}
pub use Rattle.command_semantics.specs.declared.point.Point.TheVariants.{Drives, Extends, Finishes, Opens, Over, Reads, Steps}
pub use Rattle.command_semantics.specs.declared.point.View.{View}
pub use Rattle.history_book.specs.Members.{AtEach}
pub use Rattle.history_book.specs.declared.cause.Cause.{Cause}
pub use Rattle.history_book.specs.declared.item.Actor.{Actor}
pub use Rattle.history_book.specs.declared.item.Actor.TheVariants.{Clock, Janitor, Node, Session}
pub use Rattle.history_book.specs.declared.item.Item.{Item}
pub use Rattle.history_book.specs.declared.item.Note.{Note}
pub use Rattle.history_book.specs.declared.item.StoreStep.TheVariants.{Handed, PutFound}
pub use Rattle.isolation_laws.proofs.AlwaysHolds.{facts_stay, stands_at_first}
pub use Rattle.isolation_laws.specs.Sound.{ReachedInvariant}
pub use Rattle.isolation_laws.specs.Words.{ClientAt, InstanceAt}
pub use Rattle.machine.proofs.LookedUp.{of_both, of_post}
pub use Rattle.machine.proofs.Lookups.{held_by, held_set, instance_changed, one_client, set_found}
pub use Rattle.machine.proofs.PartsKept.{clients_stay, leaves_parts, posts_stay, seen_up}
pub use Rattle.machine.specs.Clients.{after_refusal, client_aborted, client_begun, client_committed, client_freed, client_handed, client_opened, finish_of, is_reading, is_reading_by, undo_of, unless_gone, unless_gone_by}
pub use Rattle.machine.specs.Effect.{Effect, Stop, kept_items, refused, refused_once}
pub use Rattle.machine.specs.Events.Abort.{abort_by, abort_on}
pub use Rattle.machine.specs.Events.Accept.{accept_by, accept_on, accept_request}
pub use Rattle.machine.specs.Events.Answer.{answer_by, answer_on, answer_request}
pub use Rattle.machine.specs.Events.AskBegin.{ask_begin_by, ask_begin_on, asked_by}
pub use Rattle.machine.specs.Events.AskCommit.{ask_commit_by, ask_commit_on, commit_of}
unfoldable pub use Rattle.machine.specs.Events.Crash.{all_crashed_items, crashed_clients}
pub use Rattle.machine.specs.Events.Crash.{after_loss, crash_on, crashed_client, crashed_items, loss_heard, loss_items}
pub use Rattle.machine.specs.Events.Decide.{both_held, both_if_accepted, both_verdict, decide_both, decide_by, decide_on, decide_request, draw_item}
pub use Rattle.machine.specs.Events.Extend.{extend_asks, extend_on}
pub use Rattle.machine.specs.Events.Fetch.{client_fetched, client_put_fresh, client_read, client_recalled, epoch_asks, fetch_asks, fetch_by, fetch_on, fetch_open, fetch_recall, fetch_refused, found_of, keeps_read, marks_every, read_items, reads_refusal}
pub use Rattle.machine.specs.Events.Heal.{heal_asks, heal_at, heal_on, no_offer_cause, offer_asks, offer_of}
pub use Rattle.machine.specs.Events.Place.{place_by, place_on}
pub use Rattle.machine.specs.Events.Put.{commit_asks, put_asks, put_by, put_commit, put_on, to_place, to_place_by}
pub use Rattle.machine.specs.Events.Renew.{renew_asks, renew_by, renew_on}
pub use Rattle.machine.specs.Events.Step.{StepParts, after_asks, asked_next, client_settled, complete_step, next_of, own_resolve, placed_among, read_step, settle_items, settle_step, step_asks, step_asks_by, step_at, step_due, step_on, step_recall, step_by as step_unless, store_asked, work_by, work_of}
pub use Rattle.machine.specs.Events.SweepOpen.{sweep_open_on}
pub use Rattle.machine.specs.Events.SweepStep.{still_open, sweep_at, sweep_lists, sweep_met, sweep_step_asks, sweep_step_on, undecided_items}
pub use Rattle.machine.specs.Events.Take.{rules_of, take_asks, take_by, take_item, take_on}
pub use Rattle.machine.specs.Events.Vanish.{vanish_by, vanish_on}
pub use Rattle.machine.specs.Events.Write.{client_wrote, open_asks, write_asks, write_by, write_on, write_open, write_refused}
pub use Rattle.machine.specs.Fits.{AreStops, StopOf}
pub use Rattle.machine.specs.Machine.{IsSteadyAt, Step, asks, asks_at_client, asks_at_post, at_both, at_client, at_post, on_request, on_swept, reading_of, seen_after, step_by, stepped, with_client, with_post, with_reading}
unfoldable pub use Rattle.machine.specs.Readers.{holder_from}
pub use Rattle.machine.specs.Readers.{asks_commit, client_doing, commit_held, doing_at, doing_by, doing_of, first_holder, held_at, holder_of, is_commit, open_doing, place_held, place_of}
pub use Rattle.machine.specs.State.{Client, Completes, Nothing, Settles, State, Reads as UnderRead, UnderWay, client_new, opening}
pub use Rattle.machine.specs.StoreSteps.{effect_items, entry_of, items_met, mark_item, mark_kept, met, pairs_after, rows_after, step_item, store_of, told_by}
pub use Rattle.machine.specs.declared.event.Doing.{Doing}
pub use Rattle.machine.specs.declared.event.Event.{Event}
pub use Rattle.port_io.specs.Fates.{fated}
pub use Rattle.port_io.specs.declared.weather.Fate.{Fate}
pub use Rattle.port_io.specs.declared.weather.Fate.TheVariants.{FailsApplied, FailsUnchanged, Works}
pub use Rattle.script_data.specs.Data.{ScriptData}
unfoldable pub use Rattle.script_data.specs.Ticks.{ticks_of}
pub use Rattle.script_data.specs.Ticks.{tick_of}
pub use Rattle.script_data.specs.declared.line.Line.{Line}
pub use Rattle.script_data.specs.declared.line.Target.{Target}
pub use Rattle.script_data.specs.declared.line.Verb.{Verb}
pub use Rattle.stamp_base.specs.SetupNumbers.{AreInRange, SetupNumbers}
pub use Rattle.stamp_base.specs.declared.limits.TheConstants.{KEY_LIMIT}
pub use Rattle.stamp_base.specs.declared.stores.Mark.{Mark}
pub use Rattle.stamp_base.specs.declared.stores.Mark.TheVariants.{Committed as CommittedMark, Invalid as InvalidMark}
pub use Rattle.stamp_base.specs.declared.stores.Store.{Store}
pub use Rattle.stamp_base.specs.declared.stores.Store.TheVariants.{Cells, Master, Table}
pub use Rattle.std.proofs.Common.{All, Bool, Err, IsTrue, List, None, Ok, Option, Result, Some, [], ap, append_assoc, arith, cond, false, fold, if◌then◌else◌, inl, inr, is_none, is_some, length, nat_lt, refl, subst, suc, sym, take, true, zero, ℕ, ◌&&◌, ◌*◌, ◌++◌, ◌+◌, ◌<◌, ◌==◌, ◌^◌, ◌||◌, ◌∙◌, ◌∷◌, ◌≡◌, ◌≢◌, ◌≤◌, ◌⊎◌}
pub use Rattle.std.proofs.lemmas.Bool.Decides.{eqb_tells, nat_tests}
pub use Rattle.std.proofs.lemmas.List.{append-nil}
pub use Rattle.std.proofs.lemmas.List.Elements.{All-append, All-cons, All-head, All-nil, All-tail, All-take, All-weaker}
pub use Rattle.std.proofs.lemmas.List.Sums.{sum_by-append, sum_by-cons, sum_by_push}
pub use Rattle.std.proofs.lemmas.Option.{none-some, same_Some}
pub use Rattle.std.specs.Option.{option_or}
pub use Rattle.std.specs.Prelude.{IfSome, IsSomeAnd, count_by, filter, nat_le, replicate, slice_get, slice_index_or, slice_set, sum, unwrap_or}
pub use Rattle.system_parts.specs.Cache.{Cache, put_fresh}
pub use Rattle.system_parts.specs.Completion.{finish_asks, first_ask, undo_asks}
pub use Rattle.system_parts.specs.Instance.{InstanceEntry, held_of, in_flight, least_unsettled, place_of_progress, session_of, stamps_at, stamps_by, stamps_of_held, unsettled_by, was_told_not_yet, with_request}
pub use Rattle.system_parts.specs.InstanceLaws.{stamp_of}
pub use Rattle.system_parts.specs.InstanceSteps.{InstanceStep, IsStop, accept_held, accept_if_asked, accept_refusal, accept_unless, answer_begin, answer_held, answer_if_ready, decide_drawn, drawn_as, epoch_refusal, instance_accept, instance_answer, instance_ask, instance_settle, instance_stopped, instance_widened, just_asked, moved, out_of_stamps, settle_held, settle_if_drawn, stays, decide_by as verdict_by}
pub use Rattle.system_parts.specs.KeyRead.{Answers, Asks, ReadTurn, Reading, after_passed, found_by, found_cell, read_ask, read_by, read_left, read_over, settling_of, turn_at}
pub use Rattle.system_parts.specs.Pairs.{Pairs, mark_of, put_pair}
pub use Rattle.system_parts.specs.Recalled.{Remembering, outcome_known, recalled_over, recalled_told}
pub use Rattle.system_parts.specs.RecalledReads.{RecalledReadsEnd}
pub use Rattle.system_parts.specs.Record.{MasterRecord, answered, extend_refused, extended, granted, is_early, is_spent, renew_refused, take_refused}
pub use Rattle.system_parts.specs.Resolve.{Decides, Goes, SettleTurn, SettlesEnd, Settling, own_settling, settle_ask, settle_left, settle_turn}
pub use Rattle.system_parts.specs.Rows.{Row, fetched, front_of, keys_of_version}
pub use Rattle.system_parts.specs.SessionSteps.{SessionEntry, aborted_by, asked_state, begin_refusal, handed_by, handed_commit, has_key, has_transaction, key_added, key_refusal, step_refusal, vanish_refusal, work_refusal}
pub use Rattle.system_parts.specs.Sweep.{Left, Listing, Marking, SweepPoint, Sweeping, Undecided, is_undecided, sweep_after_marking, sweep_after_table, sweep_ask, sweep_asks, sweep_listed, sweep_told}
pub use Rattle.system_parts.specs.declared.asks.Ask.{Ask}
pub use Rattle.system_parts.specs.declared.asks.Told.{Told}
pub use Rattle.system_parts.specs.declared.buckets.Verdict.{Verdict}
pub use Rattle.system_parts.specs.declared.buckets.Verdict.TheVariants.{Conflict, Free, Hidden}
pub use Rattle.system_parts.specs.declared.instance.Decided.{Decided}
pub use Rattle.system_parts.specs.declared.instance.Held.{Held}
pub use Rattle.system_parts.specs.declared.instance.Place.{Place}
pub use Rattle.system_parts.specs.declared.instance.Progress.{Progress}
pub use Rattle.system_parts.specs.declared.instance.Reply.{Reply}
pub use Rattle.system_parts.specs.declared.instance.Request.{Request}
pub use Rattle.system_parts.specs.declared.instance.Request.TheVariants.{Begin, Commit}
pub use Rattle.system_parts.specs.declared.instance.Settled.{Settled}
pub use Rattle.system_parts.specs.declared.record.ExtendRefused.{ExtendRefused}
pub use Rattle.system_parts.specs.declared.record.ExtendRefused.TheVariants.{Replaced, Spent, StoreFault}
pub use Rattle.system_parts.specs.declared.record.Grant.{Grant}
pub use Rattle.system_parts.specs.declared.resolve.Outcome.TheVariants.{Committed, Dead}
pub use Rattle.system_parts.specs.declared.rows.Cell.{Cell}
pub use Rattle.system_parts.specs.declared.session.State.{State as SessionState}
