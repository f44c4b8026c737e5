-- The names of other crates and of the specs that this crate's proofs cite.
pub use Rattle.cause_laws.proofs.AlwaysExplained.{tells_at_first, tells_stay}
pub use Rattle.cause_laws.proofs.SilentOutcomes.{fault_if_silent, silent_items}
pub use Rattle.cause_laws.proofs.SinceWords.{last_told-push, since-more}
pub use Rattle.cause_laws.specs.ShownInvariant.{ExplainedInvariant}
pub use Rattle.cause_rules.specs.Asks.{ask_by, asks_for, its_ask, start_asked}
pub use Rattle.cause_rules.specs.OpenAsks.{asks_at, closes, ends_request, open_asks_of, open_then}
pub use Rattle.history_book.proofs.MemberLemmas.{AtEach-push, AtEach-weaker, in_at, in_back, in_front}
unfoldable pub use Rattle.history_book.specs.Isolation.{last_write}
pub use Rattle.history_book.specs.Isolation.{Candidate, Committed, Isolated, RightAnswer, Stamped, Visible, Wrote, written_by}
unfoldable pub use Rattle.history_book.specs.Members.{◌∈◌}
pub use Rattle.history_book.specs.Members.{AtEach}
pub use Rattle.history_book.specs.declared.cause.Cause.{Cause}
pub use Rattle.history_book.specs.declared.item.Actor.{Actor}
pub use Rattle.history_book.specs.declared.item.Actor.TheVariants.{Janitor, Node, Session}
pub use Rattle.history_book.specs.declared.item.Ending.{Ending}
pub use Rattle.history_book.specs.declared.item.Found.{Found}
pub use Rattle.history_book.specs.declared.item.Item.{Item}
pub use Rattle.history_book.specs.declared.item.Item.TheVariants.{Fault, Read, Write}
pub use Rattle.history_book.specs.declared.item.StoreStep.TheVariants.{Erase, Handed, PutFound}
pub use Rattle.isolation_laws.proofs.AlwaysHolds.{always_stands, comes_by, each_outcome, facts_stay, histories_are_isolated, holds_kept, setup_after, stands_at_first, stands_serially, steady_now, steady_stays}
pub use Rattle.isolation_laws.proofs.Holding.LeftAlone.{alone}
pub use Rattle.isolation_laws.proofs.Numbers.NumbersKept.{open_begun}
pub use Rattle.isolation_laws.proofs.OnceEach.{begun_once, one_commit, place_of}
pub use Rattle.isolation_laws.proofs.Owners.{NoneInFlight, accepts_now, drawn_below_last, not_in_flight, open_unplaced, pending_unplaced}
pub use Rattle.isolation_laws.proofs.Pushed.{in_append, not_true, old_placed}
pub use Rattle.isolation_laws.proofs.Requests.PendingAfter.{drawn_as_stamp, fewer_changed, none_more_ended}
pub use Rattle.isolation_laws.proofs.Requests.RequestsAfter.{free_waits, none_held, open_waits}
pub use Rattle.isolation_laws.proofs.Requests.RequestsOfBegins.{begin_held, start_unbegun}
pub use Rattle.isolation_laws.proofs.Requests.RequestsOfMoves.{opens}
pub use Rattle.isolation_laws.proofs.Stores.CellsMove.{erase_cases, put_cases}
pub use Rattle.isolation_laws.specs.IsolationInvariant.{IsolationInvariant}
pub use Rattle.isolation_laws.specs.Laws.{IsLost}
pub use Rattle.isolation_laws.specs.Pending.{HeldPending, InFlight, Live, Pending, PlacingAt, Stage, Taken, Waits}
pub use Rattle.isolation_laws.specs.Sound.{ReachedInvariant}
pub use Rattle.isolation_laws.specs.Words.{Begun, ClientAt, DrewCommit, HeldBy, InstanceAt, OpenAt, cell_with, drawn_stamp, epoch_or_none}
pub use Rattle.machine.proofs.Lookups.{client_set, commit_own, held_by, heldby_changed, heldby_ended, instance_changed, one_client, set_found}
pub use Rattle.machine.specs.Clients.{client_aborted, client_committed, client_freed, finish_of, is_reading}
pub use Rattle.machine.specs.Effect.{kept_items}
pub use Rattle.machine.specs.Events.Accept.{accept_by, accept_on, accept_request}
pub use Rattle.machine.specs.Events.Answer.{answer_by, answer_on, answer_request}
pub use Rattle.machine.specs.Events.AskBegin.{ask_begin_by, ask_begin_on, asked_by, begin_asked}
unfoldable pub use Rattle.machine.specs.Events.Crash.{all_crashed_items}
pub use Rattle.machine.specs.Events.Crash.{crash_on, crashed_items, loss_heard, loss_items}
pub use Rattle.machine.specs.Events.Decide.{decide_both, decide_by, decide_on, decide_request, draw_item}
pub use Rattle.machine.specs.Events.Extend.{extend_by, extend_on}
pub use Rattle.machine.specs.Events.Fetch.{client_fetched, client_put_fresh, client_read, fetch_by, fetch_on, fetch_open, fetch_recall, fetch_refused, found_of, marks_every, read_items}
pub use Rattle.machine.specs.Events.Heal.{heal_at, heal_by, heal_on, no_offer_cause, offer_of}
pub use Rattle.machine.specs.Events.Put.{put_by, put_commit, put_on, to_place}
pub use Rattle.machine.specs.Events.Renew.{renew_by, renew_on}
pub use Rattle.machine.specs.Events.Step.{client_settled, complete_by, complete_step, placed_among, read_by, read_step, settle_by, settle_items, settle_step, step_at, step_due, step_on, step_recall, work_of}
pub use Rattle.machine.specs.Events.SweepOpen.{sweep_open_at, sweep_open_on}
pub use Rattle.machine.specs.Events.SweepStep.{still_open, sweep_at, sweep_by, sweep_left, sweep_lists, sweep_met, sweep_step_on, undecided_items}
pub use Rattle.machine.specs.Events.Take.{rules_of, take_by, take_item, take_on}
pub use Rattle.machine.specs.Events.Vanish.{vanish_by, vanish_on}
unfoldable pub use Rattle.machine.specs.Machine.{items_after, state_after}
pub use Rattle.machine.specs.Machine.{AreSteady, IsSteadyAt, Move, Steady, Step, history_after, nothing, reading_of, stepped, with_reading}
pub use Rattle.machine.specs.Outcome.Outcomes.{IsTimely, OfAccepted, OfAnsweredBegin, OfAnsweredCommit, OfAskedBegin, OfAskedCommit, OfCompleted, OfCrashed, OfDrew, OfEnded, OfFetched, OfGranted, OfHanded, OfHealed, OfOutcome, OfOwnNotPlaced, OfOwnPlaced, OfPlaced, OfReadStepped, OfSweepFailed, OfSweepListed, OfSwept, OfWriteFailed, OfWrote, Outcome, left_by, told_by_outcome}
pub use Rattle.machine.specs.Outcome.OutcomesOfPlacings.{OwnNotPlaced, OwnPlaced, own_not_placed_state, own_told}
pub use Rattle.machine.specs.Outcome.OutcomesOfRecord.{fault_if}
pub use Rattle.machine.specs.Outcome.OutcomesOfRequests.{Accepted, AcceptedSteadily, Ended, accepted_state, ended_state}
pub use Rattle.machine.specs.Outcome.OutcomesOfSessions.{AtOpen, WriteFailed, WroteOne, wrote_items, wrote_state}
pub use Rattle.machine.specs.Outcome.OutcomesOfStamps.{AnsweredBegin, AnsweredCommit, Drew, HandedOver, answered_begin_items, answered_client, answered_commit_state, answered_item, drew_instance, drew_items, drew_state}
pub use Rattle.machine.specs.Outcome.OutcomesOfWork.{CompletedOne, Fetched, OutcomeStepped, ReadStepped, fetched_client, fetched_items, fetched_state, fetched_turn, outcome_state, read_client, read_stepped_items, read_stepped_state, read_turn}
pub use Rattle.machine.specs.Plain.{AllSilent, Silent}
pub use Rattle.machine.specs.Quiet.{AllQuiet, Quiet}
pub use Rattle.machine.specs.State.{Client, Completes, Nothing, Reads, Settles, State, UnderWay, opening}
pub use Rattle.machine.specs.StoreSteps.{Met, effect_items, entry_of, items_met, mark_item, mark_kept, met, rows_after, step_item, store_of, told_by}
pub use Rattle.machine.specs.declared.event.Event.{Event}
pub use Rattle.port_io.specs.declared.weather.Fate.{Fate}
pub use Rattle.port_io.specs.declared.weather.Fate.TheVariants.{FailsApplied, FailsUnchanged, Works}
pub use Rattle.service_laws.specs.OwnWrites.{EventsKeepOwn, OwnAlways, OwnAtFirst, OwnInvariant}
pub use Rattle.service_laws.specs.Told.{EventsKeepTold, IsToldLost, OneOutcomeAlways, ToldAtFirst, ToldInvariant, ToldTrueAlways, ToldTrueNow}
pub use Rattle.service_rules.specs.OwnWrites.{ErasedIn, ErasedSince, OwnStands, OwnWritesStand, ReadsOwn, writes_at}
pub use Rattle.service_rules.specs.Stamps.{CommitsBelowOwn, StampAbove, StartsAboveOwn, ToldBeforeAsk, WasTold, stamp_told}
pub use Rattle.service_rules.specs.Told.{NeverPlaced, NeverToldCommitted, OneOutcome, ToldIsTrue, WasPlaced, ends_for_good}
pub use Rattle.stamp_base.specs.SetupNumbers.{AreInRange, SetupNumbers}
pub use Rattle.stamp_base.specs.declared.stores.Mark.{Mark}
pub use Rattle.stamp_base.specs.declared.stores.Store.TheVariants.{Cells, Master, Table}
pub use Rattle.std.proofs.Common.{Bool, Err, IsTrue, List, None, Ok, Option, Result, Some, [], ap, append_assoc, arith, false, fold, if◌then◌else◌, inl, inr, is_some, length, refl, slice_get, subst, suc, sym, take, true, zero, ℕ, ◌&&◌, ◌++◌, ◌+◌, ◌<◌, ◌==◌, ◌||◌, ◌∙◌, ◌∷◌, ◌≡◌, ◌≢◌, ◌≤◌, ◌⊎◌}
pub use Rattle.std.proofs.lemmas.Bool.{cases_Bool, cases_eq, eq-eqb, ne_eqb}
pub use Rattle.std.proofs.lemmas.List.{append-nil}
pub use Rattle.std.proofs.lemmas.List.Elements.{All-append, All-cons, All-head, All-nil, All-tail, All-weaker}
pub use Rattle.std.proofs.lemmas.Option.{none-some, same_Some}
pub use Rattle.std.specs.Prelude.{All, nat_lt, replicate, slice_index_or, slice_set}
pub use Rattle.system_parts.proofs.RecalledLemmas.{AnyCache, Recalls, come_to, over_from, over_holds, told_holds}
pub use Rattle.system_parts.specs.Cache.{Cache, cache_learnt, learnt_by, put_fresh}
pub use Rattle.system_parts.specs.Instance.{InstanceEntry, held_of, session_of, stamps_at, was_told_not_yet}
pub use Rattle.system_parts.specs.InstanceSteps.{InstanceStep, drawn_as, instance_accept, instance_answer, instance_ask, moved, without_request}
unfoldable pub use Rattle.system_parts.specs.KeyRead.{after_passed}
pub use Rattle.system_parts.specs.KeyRead.{Answers, Asks, ReadTurn, Reading, found_by, found_cell, found_none, read_ask, read_over, settling_of, turn_at}
pub use Rattle.system_parts.specs.Pairs.{Pairs, mark_of}
pub use Rattle.system_parts.specs.Recalled.{outcome_known, recalled_from, recalled_over, recalled_told}
pub use Rattle.system_parts.specs.Record.{MasterRecord, extend_refused, granted, renew_refused, renewed_until, take_refused}
pub use Rattle.system_parts.specs.Resolve.{Decides, Goes, SettleTurn, Settling, settle_ask, settle_turn}
unfoldable pub use Rattle.system_parts.specs.Rows.{front_of}
pub use Rattle.system_parts.specs.Rows.{AreFalling, AreOrdered, AreUpto, Row, bare_cell, fetched, is_below, looked, put_row, shadowed, with_shadow}
pub use Rattle.system_parts.specs.SessionSteps.{SessionEntry, aborted_by, begin_refusal, handed_commit, has_transaction, step_refusal, vanish_refusal, work_refusal}
pub use Rattle.system_parts.specs.Sweep.{Left, Listing, Marking, SweepPoint, Sweeping, Undecided, is_undecided, sweep_ask, sweep_ask_at, sweep_point_after, sweep_told}
pub use Rattle.system_parts.specs.declared.asks.Ask.{Ask}
pub use Rattle.system_parts.specs.declared.asks.Told.{Told}
pub use Rattle.system_parts.specs.declared.instance.Held.{Held}
pub use Rattle.system_parts.specs.declared.instance.Request.{Request}
pub use Rattle.system_parts.specs.declared.instance.Request.TheVariants.{Begin, Commit}
pub use Rattle.system_parts.specs.declared.instance.Settled.{Settled}
pub use Rattle.system_parts.specs.declared.rows.Cell.{Cell}
pub use Rattle.system_parts.specs.declared.session.State.{State as SessionState}
