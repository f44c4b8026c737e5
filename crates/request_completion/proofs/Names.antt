-- The names of other crates and of the specs that this crate's proofs cite.
pub use Rattle.cause_laws.proofs.SilentOutcomes.{fault_if_silent, silent_items}
pub use Rattle.cause_laws.specs.Requests.{ask_for}
pub use Rattle.cause_laws.specs.ShownInvariant.{ExplainedInvariant}
pub use Rattle.cause_rules.specs.Asks.{ask_by, asks_for, its_ask, since_ask}
pub use Rattle.cause_rules.specs.OpenAsks.{closes, ends_request, open_asks_of, open_then}
pub use Rattle.cause_rules.specs.Written.{written_keys}
pub use Rattle.history_book.proofs.MemberLemmas.{in_back, in_front, in_last}
unfoldable pub use Rattle.history_book.specs.Members.{◌∈◌}
pub use Rattle.history_book.specs.declared.cause.Cause.{Cause}
pub use Rattle.history_book.specs.declared.item.Actor.{Actor}
pub use Rattle.history_book.specs.declared.item.Actor.TheVariants.{Clock, Janitor, Node, Session}
pub use Rattle.history_book.specs.declared.item.Ending.TheVariants.{Dead as DeadEnd}
pub use Rattle.history_book.specs.declared.item.Item.{Item}
pub use Rattle.history_book.specs.declared.item.StoreStep.TheVariants.{Handed, PutFound}
pub use Rattle.isolation_laws.proofs.AlwaysHolds.{comes_by, dues, each_outcome, steady_now, steady_stays}
pub use Rattle.isolation_laws.proofs.OnceEach.{begun_once, place_of}
pub use Rattle.isolation_laws.proofs.Pushed.{in_append, not_true, quiet_in, written_keys-push}
pub use Rattle.isolation_laws.proofs.Requests.ClientsAfter.{has_by, written_keys-other}
pub use Rattle.isolation_laws.proofs.Requests.OpenAfter.{crashed_at, fewer_is_open, open_answered_begin}
pub use Rattle.isolation_laws.specs.IsolationInvariant.{IsolationInvariant}
pub use Rattle.isolation_laws.specs.Pending.{IsOpen, is_placing}
pub use Rattle.isolation_laws.specs.Requests.{HasAsked, WaitsFor}
pub use Rattle.isolation_laws.specs.Sound.{ReachedInvariant}
pub use Rattle.isolation_laws.specs.Words.{Begun, ClientAt, InstanceAt, OpenAt, epoch_or_none}
pub use Rattle.machine.proofs.Lookups.{client_set, held_by, held_set, instance_set, one_client, one_held, one_instance, set_found, set_other}
pub use Rattle.machine.proofs.Outcome.PlainItems.{none_silent, one_silent, two_silent}
pub use Rattle.machine.proofs.PartsKept.{clients_stay, leaves_parts}
pub use Rattle.machine.specs.Clients.{after_refusal, client_aborted, client_asked, client_begun, client_committed, client_freed, client_handed, client_opened, client_vanished, emptied, finish_of, is_reading, undo_of, unless_gone, unless_gone_by}
pub use Rattle.machine.specs.Due.{AreDue, Due, DueLoss, DueNow, DueSettled, cause_of_loss}
pub use Rattle.machine.specs.Effect.{Effect, refused_once}
pub use Rattle.machine.specs.Events.Abort.{abort_by, abort_on}
pub use Rattle.machine.specs.Events.Accept.{accept_by, accept_on, accept_request}
pub use Rattle.machine.specs.Events.Answer.{answer_by, answer_on, answer_request}
pub use Rattle.machine.specs.Events.AskBegin.{ask_begin_by, ask_begin_on, asked_by, begin_asked}
pub use Rattle.machine.specs.Events.AskCommit.{ask_commit_by, ask_commit_on, commit_asked, commit_of}
unfoldable pub use Rattle.machine.specs.Events.Crash.{all_crashed_items, crashed_clients}
pub use Rattle.machine.specs.Events.Crash.{after_loss, crash_on, crashed_client, crashed_items, loss_heard, loss_items}
pub use Rattle.machine.specs.Events.Decide.{both_held, both_if_accepted, both_verdict, decide_both, decide_on, decide_request, draw_item}
pub use Rattle.machine.specs.Events.Fetch.{fetch_on, fetch_open, reads_refusal}
pub use Rattle.machine.specs.Events.Heal.{heal_at, heal_on, offer_by, offer_of}
pub use Rattle.machine.specs.Events.Step.{StepParts, after_asks, client_settled, complete_by, settle_items, step_at, step_due, step_on, step_by as step_refused, work_by, work_of}
pub use Rattle.machine.specs.Events.Take.{rules_of, take_by, take_item, take_on}
pub use Rattle.machine.specs.Events.Vanish.{vanish_by, vanish_on}
pub use Rattle.machine.specs.Events.Write.{client_wrote, write_on, write_open}
unfoldable pub use Rattle.machine.specs.Machine.{items_after, state_after}
pub use Rattle.machine.specs.Machine.{AreSteady, Move, Steady, Step, at_both, at_client, at_post, history_after, step_by, stepped, with_client, with_post, with_reading}
pub use Rattle.machine.specs.Outcome.Outcomes.{OfAborted, OfAccepted, OfAnsweredBegin, OfAnsweredCommit, OfAskedBegin, OfAskedCommit, OfCompleted, OfCrashed, OfDrew, OfEnded, OfEndedReadOnly, OfExtended, OfFetched, OfGranted, OfHanded, OfHealed, OfNotPlaced, OfOutcome, OfOutcomeFailed, OfOwnNotPlaced, OfOwnPlaced, OfPlaced, OfReadDropped, OfReadStepped, OfRenewed, OfStill, OfVanished, OfWriteFailed, OfWrote, Outcome, left_by, told_by_outcome}
pub use Rattle.machine.specs.Outcome.OutcomesOfPlacings.{AtPlacing, own_told}
pub use Rattle.machine.specs.Outcome.OutcomesOfRecord.{Extended, Granted, Renewed, Rests as RestsBy, StillBy, Stops, Tells as TellsOne, extended_nodes, fault_if, granted_nodes, renewed_nodes}
pub use Rattle.machine.specs.Outcome.OutcomesOfRequests.{AskedBegin, AskedCommit, Crashed, Ended, asked_begin_items, asked_begin_state, asked_commit_state, crashed_state}
pub use Rattle.machine.specs.Outcome.OutcomesOfStamps.{AnsweredBegin, AnsweredCommit, AtDrawn, HandedOver, answered_client, answered_item, settled_nodes}
pub use Rattle.machine.specs.Outcome.OutcomesOfWork.{CompletedOne, OutcomeStepped, fetched_client, fetched_turn, read_client, read_turn}
pub use Rattle.machine.specs.Plain.{AllSilent, Silent}
pub use Rattle.machine.specs.State.{Client, Completes, State, UnderWay, client_new, opening}
pub use Rattle.machine.specs.StoreSteps.{Met, entry_of, items_met, mark_item, mark_kept, met, step_item, store_of, told_by}
pub use Rattle.machine.specs.declared.event.Event.{Event}
pub use Rattle.port_io.specs.declared.weather.Fate.{Fate}
pub use Rattle.port_io.specs.declared.weather.Fate.TheVariants.{FailsApplied, FailsUnchanged, Works}
pub use Rattle.request_completion.specs.Closings.{CommitsAreAsked, HasOpenAsk, IsAlone, NoneOwes, Owes, OwingNeedsAnAsk, leaves_cells}
pub use Rattle.request_completion.specs.Completions.{CompletionStepsTell, GoesOn, IdleStepsCompleteNothing, OthersLeaveCompletions, StepsMoveCompletions, TellsFirst}
pub use Rattle.request_completion.specs.Ends.{AreAwaited, AreClosed, AreErased, AreGoneSince, AreRemoved, AreToldOpen, AreToldWaits, Comes, Ends, Failed, HasVanished, IsHeld, IsToAsk, Left, Made, Vanished, WasToldOpen, WasToldToWait}
pub use Rattle.request_completion.specs.SessionTransitions.{AsksAreTurns, AsksBegin, AsksCommit, Begins, BeginsAreAsked, Commits, EndsCommit, EndsWith, Frees, Hands, IsAsked, IsCommitting, IsGone, IsUndone, LeavesOpen, LosesBegin, MayCommit, NoCommit, NoneEnds, OfBegin, Refuses, Rests, SessionTransition, SessionsTakeTurns, TakesAsks, Undoes, Vanishes, Writes, ends_commit}
pub use Rattle.request_completion.specs.Silences.{LostAsksAreOver, SilentAnswersRepeat, WasTold}
pub use Rattle.stamp_base.specs.SetupNumbers.{AreInRange, SetupNumbers}
pub use Rattle.stamp_base.specs.declared.stores.Mark.{Mark}
pub use Rattle.stamp_base.specs.declared.stores.Store.TheVariants.{Table}
pub use Rattle.std.proofs.Common.{Bool, Err, IsTrue, List, None, Ok, Option, Some, [], ap, append_assoc, arith, false, if◌then◌else◌, inl, inr, is_some, length, refl, subst, suc, sym, take, true, zero, ℕ, ◌++◌, ◌+◌, ◌<◌, ◌==◌, ◌∙◌, ◌∷◌, ◌≡◌, ◌⊎◌}
pub use Rattle.std.proofs.lemmas.Bool.{cases_Bool, cases_eq, cases_lt, eq-eqb, ne_eqb}
pub use Rattle.std.proofs.lemmas.List.{append-nil, get_or_past}
pub use Rattle.std.proofs.lemmas.List.Elements.{All-append, All-cons, All-head, All-nil, All-tail, All-weaker}
pub use Rattle.std.proofs.lemmas.Option.{none-some, same_Some, slice_get-get_or, slice_get_within}
pub use Rattle.std.specs.List.{fold}
pub use Rattle.std.specs.Option.{option_or}
pub use Rattle.std.specs.Prelude.{All, Result, replicate, slice_get, slice_index_or, slice_set}
pub use Rattle.system_parts.proofs.InstanceRequests.{held_of-instance_new, held_of-with_request_other, held_of-with_request_same}
pub use Rattle.system_parts.specs.Completion.{finish_asks, undo_asks}
pub use Rattle.system_parts.specs.Instance.{InstanceEntry, held_of, in_flight, least_unsettled, not_yet_of_held, session_of, stamps_at, stamps_of_held, unsettled_by, was_told_not_yet, with_request}
pub use Rattle.system_parts.specs.InstanceSteps.{InstanceStep, accept_held, accept_if_asked, accept_refusal, accept_unless, answer_begin, answer_held, answer_if_ready, decide_by, decide_drawn, drawn_as, instance_accept, instance_answer, instance_ask, instance_settle, instance_stopped, just_asked, out_of_stamps, settle_held, settle_if_drawn, stays, without_request}
pub use Rattle.system_parts.specs.Pairs.{Pairs, mark_of}
pub use Rattle.system_parts.specs.Record.{MasterRecord, answered, extend_refused, granted, renew_refused, renewed_until, take_refused}
pub use Rattle.system_parts.specs.Resolve.{Decides, Goes, SettleTurn, Settling, settle_ask, settle_turn}
pub use Rattle.system_parts.specs.Rows.{Row}
pub use Rattle.system_parts.specs.SessionSteps.{SessionEntry, aborted_by, asked_state, begin_refusal, handed_by, handed_commit, key_refusal, step_refusal, vanish_refusal, work_refusal}
pub use Rattle.system_parts.specs.declared.asks.Ask.{Ask}
pub use Rattle.system_parts.specs.declared.asks.Told.{Told}
pub use Rattle.system_parts.specs.declared.instance.Held.{Held}
pub use Rattle.system_parts.specs.declared.instance.Progress.{Progress}
pub use Rattle.system_parts.specs.declared.instance.Progress.TheVariants.{Accepted, Asked, Drawn}
pub use Rattle.system_parts.specs.declared.instance.Reply.{Reply}
pub use Rattle.system_parts.specs.declared.instance.Request.{Request}
pub use Rattle.system_parts.specs.declared.instance.Request.TheVariants.{Begin, Commit}
pub use Rattle.system_parts.specs.declared.instance.Settled.{Settled as How, Settled}
pub use Rattle.system_parts.specs.declared.session.State.{State as SessionState}
