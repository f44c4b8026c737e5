-- The names of other crates and of the specs that this crate's proofs cite.
pub use Rattle.history_book.proofs.MemberLemmas.{AtEach-push, in_front, in_last}
pub use Rattle.history_book.specs.declared.cause.Cause.{Cause}
pub use Rattle.history_book.specs.declared.cause.Cause.TheVariants.{Idle, TooManyKeys}
pub use Rattle.history_book.specs.declared.item.Actor.{Actor}
pub use Rattle.history_book.specs.declared.item.Actor.TheVariants.{Janitor, Node, Session}
pub use Rattle.history_book.specs.declared.item.Ending.TheVariants.{Aborted, Dead as DeadEnd, ReadOnly}
pub use Rattle.history_book.specs.declared.item.Item.{Item}
pub use Rattle.history_book.specs.declared.item.Item.TheVariants.{Refused}
pub use Rattle.history_book.specs.declared.item.StoreStep.TheVariants.{Handed, PutFound}
pub use Rattle.machine.specs.Clients.{after_refusal, client_aborted, client_asked, client_begun, client_committed, client_freed, client_handed, client_vanished, is_reading, unless_gone, unless_gone_by}
pub use Rattle.machine.specs.Due.{AreDue, Due, DueEarly, DueExpired, DueNoStamp, DueNotYet, DueNow, DueOldEpoch, DueSettled, DueSpent, DueStop, DueToNode, DueToSession, DueVerdict, HowPlaced, IsRefusal, NeedsNoRow, Places, Serves, cause_of_loss}
pub use Rattle.machine.specs.Effect.{Effect, Faults, Refuses, Stop, done, kept_items, refused}
pub use Rattle.machine.specs.Events.Abort.{abort_by, abort_on}
pub use Rattle.machine.specs.Events.Accept.{accept_by, accept_on, accept_request}
pub use Rattle.machine.specs.Events.Answer.{answer_by, answer_on, answer_request}
pub use Rattle.machine.specs.Events.AskBegin.{ask_begin_by, ask_begin_on, asked_by, begin_asked}
pub use Rattle.machine.specs.Events.AskCommit.{ask_commit_by, ask_commit_on, commit_asked, commit_of}
unfoldable pub use Rattle.machine.specs.Events.Crash.{all_crashed_items, crashed_clients}
pub use Rattle.machine.specs.Events.Crash.{after_loss, crash_on, crashed_client, crashed_items, loss_heard, loss_items}
pub use Rattle.machine.specs.Events.Decide.{both_held, both_if_accepted, both_verdict, decide_both, decide_by, decide_on, decide_request, draw_item}
pub use Rattle.machine.specs.Events.Extend.{extend_asks, extend_by, extend_on}
pub use Rattle.machine.specs.Events.Fetch.{client_fetched, client_put_fresh, client_recalled, epoch_asks, fetch_asks, fetch_by, fetch_on, fetch_open, fetch_refused, keeps_read, read_items, reads_refusal}
pub use Rattle.machine.specs.Events.Heal.{heal_asks, heal_at, heal_on, no_offer_cause, offer_asks, offer_by, offer_of}
pub use Rattle.machine.specs.Events.Place.{place_by, place_on}
pub use Rattle.machine.specs.Events.Put.{commit_asks, put_asks, put_by, put_commit, put_on, to_place, to_place_by}
pub use Rattle.machine.specs.Events.Renew.{renew_asks, renew_by, renew_on}
pub use Rattle.machine.specs.Events.Step.{StepParts, after_asks, asked_next, client_settled, complete_step, next_of, placed_among, read_step, settle_items, settle_step, step_asks, step_asks_by, step_at, step_due, step_by as step_made, step_on, step_recall, step_by as step_unless, store_asked, work_of}
pub use Rattle.machine.specs.Events.SweepOpen.{sweep_open_at, sweep_open_on}
pub use Rattle.machine.specs.Events.SweepStep.{SweepParts, sweep_at, sweep_by, sweep_lists, sweep_met, sweep_step_asks, sweep_step_on, undecided_items, undecided_stop}
pub use Rattle.machine.specs.Events.Take.{rules_of, take_asks, take_by, take_item, take_on}
pub use Rattle.machine.specs.Events.Vanish.{vanish_by, vanish_on}
pub use Rattle.machine.specs.Events.Write.{open_asks, write_asks, write_by, write_on, write_open, write_refused}
pub use Rattle.machine.specs.Fits.{AreOwnRequests, AreStops, Fits, IsCompletion, IsResolve, IsWork, NoList, StepsFit, StopOf, SweepAsks}
pub use Rattle.machine.specs.FoundAt.{ClientAt, HeldBy, InstanceAt, Marked}
pub use Rattle.machine.specs.Laws.{GoneStaysGone, IsFaultOf, IsGoneAt, KeepStops, KeepsStop, LeavesParts, RefusalsLeaveAll, RequestsAreToldOnce, StopsAreKept, StoresAreAskedOnce, TellsAlone, leaves_all, state_seen, touches_clients, touches_master, touches_nodes, touches_pairs, touches_rows, touches_sweep}
unfoldable pub use Rattle.machine.specs.Machine.{items_after, state_after}
pub use Rattle.machine.specs.Machine.{IsSteadyAt, Move, Step, after_move, asks, asks_at_client, asks_at_post, at_both, at_client, at_post, history_after, nothing, on_ask, on_cells, on_client, on_clients, on_record, on_request, on_stores, on_sweep, on_swept, on_table, reading_of, seen_after, step_by, stepped, with_client, with_post, with_reading}
pub use Rattle.machine.specs.MarksTold.{MarksTold}
pub use Rattle.machine.specs.Outcome.Inverted.{ComesAt}
pub use Rattle.machine.specs.Outcome.Outcomes.{AcceptsAt, IsTimely, OfAborted, OfAccepted, OfAnsweredBegin, OfAnsweredCommit, OfAskedBegin, OfAskedCommit, OfCompleted, OfCrashed, OfDrew, OfEnded, OfEndedReadOnly, OfExtended, OfFetched, OfGranted, OfHanded, OfHealed, OfNotPlaced, OfOutcome, OfOutcomeFailed, OfOwnNotPlaced, OfOwnPlaced, OfPlaced, OfReadDropped, OfReadStepped, OfRenewed, OfStill, OfSweepFailed, OfSweepListed, OfSweepOpened, OfSwept, OfVanished, OfWriteFailed, OfWrote, Outcome, left_by, told_by_outcome}
pub use Rattle.machine.specs.Outcome.OutcomesOfRecord.{Alike, AlikeNodes, Extended, Granted, Renewed, Rests, StillBy, Stopped, Stops, Tells, fault_if}
pub use Rattle.machine.specs.Outcome.OutcomesOfSessions.{AtOpen}
pub use Rattle.machine.specs.Outcome.OutcomesOfStamps.{AtDrawn, answered_client, answered_item, fault_of, found_items}
pub use Rattle.machine.specs.Outcome.OutcomesOfWork.{CompletedOne, MayHaveMarked}
pub use Rattle.machine.specs.Plain.{AllPlain, AllSilent, Mild, Plain, Silent}
pub use Rattle.machine.specs.Quiet.{AllQuiet, Quiet}
pub use Rattle.machine.specs.State.{Client, Completes, Nothing, Reads, Settles, State, UnderWay, opening}
pub use Rattle.machine.specs.StoreSteps.{Met, effect_items, entry_of, items_met, mark_item, mark_kept, met, pairs_after, rows_after, step_item, store_of, told_by, told_entry, told_mark}
pub use Rattle.machine.specs.WorkedMoves.{begins, drawn_events, draws, reader_begins, taken_over, v, working}
pub use Rattle.machine.specs.declared.event.Event.{Event}
pub use Rattle.port_io.specs.Fates.{fated}
pub use Rattle.port_io.specs.declared.weather.Fate.{Fate}
pub use Rattle.port_io.specs.declared.weather.Fate.TheVariants.{FailsApplied, FailsUnchanged, Works}
pub use Rattle.stamp_base.specs.SetupNumbers.{SetupNumbers, default_numbers}
pub use Rattle.stamp_base.specs.declared.stores.Mark.{Mark}
pub use Rattle.stamp_base.specs.declared.stores.Mark.TheVariants.{Committed, Committed as CommittedMark, Invalid, Invalid as InvalidMark}
pub use Rattle.stamp_base.specs.declared.stores.Store.{Store}
pub use Rattle.stamp_base.specs.declared.stores.Store.TheVariants.{Cells, Master, Table}
pub use Rattle.std.proofs.Common.{Bool, Err, IsTrue, List, None, Ok, Option, Result, Some, [], ap, append_assoc, arith, cond, false, if◌then◌else◌, inl, inr, max, refl, subst, suc, sym, true, zero, ℕ, ◌++◌, ◌+◌, ◌<◌, ◌==◌, ◌^◌, ◌||◌, ◌∙◌, ◌∷◌, ◌≡◌, ◌≢◌, ◌≤◌, ◌⊎◌}
pub use Rattle.std.proofs.lemmas.Bool.{and_parts, cases_eq, eqb-false, eqb-true, leb-true, ltb-false, ltb-true}
pub use Rattle.std.proofs.lemmas.List.Elements.{All-append, All-cons, All-head, All-nil, All-tail, All-take, All-weaker}
pub use Rattle.std.proofs.lemmas.Option.{none-some, same_Some}
pub use Rattle.std.specs.Option.{option_or}
pub use Rattle.std.specs.Prelude.{All, IfSome, is_some, length, nat_le, nat_lt, not, replicate, slice_get, slice_index_or, slice_set, take, ◌&&◌}
pub use Rattle.system_parts.proofs.PairLaws.{committed_goes, entry_or, mark_of-empty, mark_of-put_pair, mark_of-put_pair_other, mark_of-without_committed, mark_of-without_committed_other, unless_committed}
unfoldable pub use Rattle.system_parts.specs.Buckets.{added, kept_commit, oldest, record_pairs, verdict, without}
pub use Rattle.system_parts.specs.Buckets.{Bucket, first_refusal}
unfoldable pub use Rattle.system_parts.specs.Instance.{least_unsettled}
pub use Rattle.system_parts.specs.Instance.{InstanceEntry, held_of, in_flight, no_stamp_of_held, not_yet_of_held, session_of, stamps_at, stamps_by, stamps_of_held, unsettled_by, was_told_no_stamp, was_told_not_yet, with_request}
pub use Rattle.system_parts.specs.InstanceLaws.{ChangesRequestsAlone, stamp_of}
pub use Rattle.system_parts.specs.InstanceSteps.{InstanceStep, IsStop, accept_held, accept_if_asked, accept_unless, answer_begin, answer_held, answer_if_ready, decide_drawn, decide_held, decide_if_accepted, decided_by, epoch_refusal, instance_accept, instance_answer, instance_ask, instance_decide, instance_settle, instance_stopped, just_asked, moved, no_stamp_told, not_yet_told, out_of_stamps, request_verdict, settle_held, settle_if_drawn, stays, decide_by as verdict_by, without_request}
pub use Rattle.system_parts.specs.KeyRead.{Answers, Asks, ReadTurn, Reading, read_ask}
pub use Rattle.system_parts.specs.Pairs.{Pairs, mark_of, put_over, put_pair, without_committed}
unfoldable pub use Rattle.system_parts.specs.Recalled.{recalled_over}
pub use Rattle.system_parts.specs.Record.{Leasing, MasterRecord, answered, extend_refused, granted, held_by, is_early, is_spent, renew_refused, renewed_until, take_refused, unless_refused}
pub use Rattle.system_parts.specs.Resolve.{Decides, Goes, SettleTurn, Settling, ask_at, settle_ask, settle_turn}
unfoldable pub use Rattle.system_parts.specs.Rows.{fetched, front_of, keys_of_version, looked, put_row, with_shadow, without_bare}
pub use Rattle.system_parts.specs.Rows.{Row}
pub use Rattle.system_parts.specs.SessionSteps.{begin_refusal, handed_by, handed_commit, has_key, key_added, key_refusal, step_refusal, vanish_refusal, work_refusal}
pub use Rattle.system_parts.specs.Sweep.{Marking, Sweeping, is_undecided, sweep_ask, sweep_open, sweep_told}
pub use Rattle.system_parts.specs.declared.asks.Ask.{Ask}
pub use Rattle.system_parts.specs.declared.asks.Told.{Told}
pub use Rattle.system_parts.specs.declared.buckets.Verdict.{Verdict}
pub use Rattle.system_parts.specs.declared.buckets.Verdict.TheVariants.{Conflict, Free, Hidden}
pub use Rattle.system_parts.specs.declared.instance.Decided.{Decided}
pub use Rattle.system_parts.specs.declared.instance.Held.{Held}
pub use Rattle.system_parts.specs.declared.instance.Progress.{Progress}
pub use Rattle.system_parts.specs.declared.instance.Progress.TheVariants.{Accepted, Asked, Drawn}
pub use Rattle.system_parts.specs.declared.instance.Reply.{Reply}
pub use Rattle.system_parts.specs.declared.instance.Request.{Request}
pub use Rattle.system_parts.specs.declared.instance.Request.TheVariants.{Begin, Begin as BeginRequest, Commit}
pub use Rattle.system_parts.specs.declared.instance.Settled.{Settled}
pub use Rattle.system_parts.specs.declared.record.ExtendRefused.{ExtendRefused}
pub use Rattle.system_parts.specs.declared.record.Grant.{Grant}
pub use Rattle.system_parts.specs.declared.record.RenewRefused.{RenewRefused}
pub use Rattle.system_parts.specs.declared.record.TakeRefused.{TakeRefused}
pub use Rattle.system_parts.specs.declared.session.State.{State as Phase, State as SessionState}
