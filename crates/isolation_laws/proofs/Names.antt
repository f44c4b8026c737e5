-- The names of other crates and of the specs that this crate's proofs cite.
pub use Rattle.cause_rules.specs.Strict.{SerialIfStrict}
pub use Rattle.history_book.proofs.HistoryLemmas.{before_ask-in, last_write-push}
pub use Rattle.history_book.proofs.MemberLemmas.{AtEach-push, AtEach-weaker, in_at, in_back, in_front, in_last, in_old, in_push, slice_get-push}
unfoldable pub use Rattle.history_book.specs.Isolation.{before_ask, has_ask, last_write}
pub use Rattle.history_book.specs.Isolation.{Apart, Candidate, Committed, Fresh, Isolated, NewStamps, Newest, RightAnswer, RightRead, Stamped, StartsAbove, Visible, WasListed, Wrote, asks, written_by}
unfoldable pub use Rattle.history_book.specs.Members.{◌∈◌}
pub use Rattle.history_book.specs.Members.{AtEach}
pub use Rattle.history_book.specs.declared.cause.Cause.{Cause}
pub use Rattle.history_book.specs.declared.cause.Cause.TheVariants.{Idle, OldEpoch}
pub use Rattle.history_book.specs.declared.item.Actor.TheVariants.{Janitor, Node, Session}
pub use Rattle.history_book.specs.declared.item.Found.{Found}
pub use Rattle.history_book.specs.declared.item.Item.{Item}
pub use Rattle.history_book.specs.declared.item.Item.TheVariants.{AskBegin, Begin, Begin as BeginItem, Draw, Placed, Read, Step, Write}
pub use Rattle.history_book.specs.declared.item.StoreStep.TheVariants.{Keys, Keys as KeysStep}
pub use Rattle.isolation_laws.specs.Bare.{AreOwned, BareAt, BareCellsAreFew, IsOf, IsOwned, MayHave, is_bare}
pub use Rattle.isolation_laws.specs.Begins.{AreFreshBegins, AreSettledBelow, BeginFacts, IsPast}
pub use Rattle.isolation_laws.specs.Cells.{AreShadowed, CellFacts, IsSwept}
pub use Rattle.isolation_laws.specs.IsolationInvariant.{IsolationInvariant}
pub use Rattle.isolation_laws.specs.Known.{AreKnown, AreWrittenCells, IsTrueCache, IsTrueOf, IsTruePair, IsWrittenCell, KnownFacts}
pub use Rattle.isolation_laws.specs.Laws.{DrawsKeepTerms, IsLost, IsMarkedFirst, LeasesAreOfTheTerm, ReadsWhatCommits, Unplaced}
pub use Rattle.isolation_laws.specs.Memory.{AreOfForm, AreRecorded, DrawnApart, DrawnSerial, MemoryFacts}
pub use Rattle.isolation_laws.specs.Numbers.{AreBegun, AreDrawn, AreLeases, AreNewDraws, ArePlaced, AreRanges, IsNewDraw, NumberFacts}
pub use Rattle.isolation_laws.specs.Pending.{ComesBelow, Has, HeldPending, InFlight, IsOpen, IsPending, IsStageBelow, Live, Pending, PlacingAt, Stage, Taken, Waits, is_placing, stage_of}
pub use Rattle.isolation_laws.specs.ReadSets.{AreReadSets, KeepsKey, KeepsReads, ReadFirst}
unfoldable pub use Rattle.isolation_laws.specs.Reads.{floor_of}
pub use Rattle.isolation_laws.specs.Reads.{AreLastingReads, AreReading, HasLastWrite, IsAmong, IsCovered, IsReading, IsResolvedTo, Outlasts, ReadFacts, SeesAll, floor_at}
pub use Rattle.isolation_laws.specs.Requests.{AreAccepted, AreForm, AreKeys, AreOpen, ArePending, AreRequests, AreSettled, AreStarting, HasAsked, HaveBegun, IsDrawnSoFar, IsSettled, RequestFacts, WaitsFor}
pub use Rattle.isolation_laws.specs.Sound.{ReachedInvariant, Sound}
pub use Rattle.isolation_laws.specs.UnderWay.{HasShadow, IsFinish, IsOwnResolve, IsShownAt, IsSweeping, IsSweptAt, IsUndo, UnderWayFacts}
unfoldable pub use Rattle.isolation_laws.specs.Words.{keys_from, recorded_in}
pub use Rattle.isolation_laws.specs.Words.{Begun, ClientAt, DrewCommit, DrewStart, HasDrawn, HasRecord, HeldBy, InstanceAt, Marked, OpenAt, cell_with, drawn_stamp, epoch_or_none, keys_with, recorded, recorded_by, written_keys}
pub use Rattle.machine.proofs.Lookups.{begin_own, client_set, commit_own, held_by, held_set, heldby_changed, heldby_ended, instance_changed, instance_ended, one_client, one_held, one_instance, set_found, set_other}
pub use Rattle.machine.proofs.Orders.{max_left, max_right, max_within, three_ways}
pub use Rattle.machine.proofs.Outcome.QuietItems.{one_quiet, two_quiet}
pub use Rattle.machine.specs.Clients.{after_refusal, client_aborted, client_asked, client_begun, client_committed, client_freed, client_handed, client_opened, client_vanished, emptied, finish_of, is_reading, is_reading_by, undo_of, unless_gone, unless_gone_by}
pub use Rattle.machine.specs.Due.{AreDue, Places}
unfoldable pub use Rattle.machine.specs.Events.Crash.{crashed_clients}
pub use Rattle.machine.specs.Events.Crash.{after_loss, all_crashed_items, crash_on}
pub use Rattle.machine.specs.Events.Decide.{draw_item}
pub use Rattle.machine.specs.Events.Fetch.{client_read, found_of, keeps_read, marks_every, read_items, reads_after}
pub use Rattle.machine.specs.Events.Step.{after_asks, client_settled, own_resolve, step_by, step_due, step_on, work_by, work_of}
pub use Rattle.machine.specs.Events.SweepStep.{still_open, sweep_left}
pub use Rattle.machine.specs.Events.Take.{instance_of, rules_of}
pub use Rattle.machine.specs.Events.Write.{client_wrote}
pub use Rattle.machine.specs.Fits.{AreStops, Fits, IsCompletion, IsWork, NoList, StepsFit, StopOf, SweepAsks}
unfoldable pub use Rattle.machine.specs.Machine.{AreSteady, items_after, state_after}
pub use Rattle.machine.specs.Machine.{IsSteadyAt, Move, Steady, at_client, at_post, history_after, reading_of, seen_after, stepped}
pub use Rattle.machine.specs.Outcome.Inverted.{ComesAt}
pub use Rattle.machine.specs.Outcome.Outcomes.{IsTimely, OfAborted, OfAccepted, OfAnsweredBegin, OfAnsweredCommit, OfAskedBegin, OfAskedCommit, OfCompleted, OfCrashed, OfDrew, OfEnded, OfEndedReadOnly, OfExtended, OfFetched, OfGranted, OfHanded, OfHealed, OfNotPlaced, OfOutcome, OfOutcomeFailed, OfOwnNotPlaced, OfOwnPlaced, OfPlaced, OfReadDropped, OfReadStepped, OfRenewed, OfStill, OfSweepFailed, OfSweepListed, OfSweepOpened, OfSwept, OfVanished, OfWriteFailed, OfWrote, Outcome, left_by, told_by_outcome}
pub use Rattle.machine.specs.Outcome.OutcomesOfPlacings.{AtPlacing, OwnNotPlaced, OwnPlaced, own_not_placed_state, own_placed_items, own_placed_state}
pub use Rattle.machine.specs.Outcome.OutcomesOfRecord.{Alike, AlikeNodes, Extended, Granted, Renewed, Still, extended_nodes, extended_state, granted_nodes, granted_state, renewed_nodes, renewed_state, still_state}
pub use Rattle.machine.specs.Outcome.OutcomesOfRequests.{Accepted, AcceptedSteadily, AskedBegin, AskedCommit, Crashed, Ended, accepted_state, asked_begin_items, asked_begin_state, asked_commit_state, crashed_state, ended_state}
pub use Rattle.machine.specs.Outcome.OutcomesOfSessions.{Aborted, AtOpen, EndedReadOnly, Healed, Vanished, WriteFailed, WroteOne, aborted_state, healed_state, read_only_state, vanished_state, write_failed_state, wrote_items, wrote_state}
pub use Rattle.machine.specs.Outcome.OutcomesOfStamps.{AnsweredBegin, AnsweredCommit, AtDrawn, Drew, HandedOver, NotPlaced, PlacedOne, answered_begin_items, answered_begin_state, answered_client, answered_commit_state, drew_instance, drew_items, drew_state, handed_over_state, not_placed_state, placed_items, placed_state, settled_nodes}
pub use Rattle.machine.specs.Outcome.OutcomesOfWork.{CompletedOne, Fetched, MayHaveMarked, OutcomeFailed, OutcomeStepped, ReadDropped, ReadStepped, completed_state, fetched_client, fetched_items, fetched_recall, fetched_state, fetched_turn, outcome_failed_state, outcome_state, read_client, read_dropped_state, read_recall, read_stepped_items, read_stepped_state, read_turn}
pub use Rattle.machine.specs.Quiet.{AllQuiet, Quiet}
pub use Rattle.machine.specs.State.{Client, Completes, Nothing, Reads, Settles, State, UnderWay, client_new, opening}
pub use Rattle.machine.specs.StoreSteps.{pairs_after, rows_after, told_by, told_cell, told_entry, told_mark, told_shadow}
pub use Rattle.machine.specs.declared.event.Event.{Event}
pub use Rattle.port_io.specs.declared.weather.Fate.{Fate}
pub use Rattle.port_io.specs.declared.weather.Fate.TheVariants.{FailsUnchanged}
pub use Rattle.stamp_base.specs.SetupNumbers.{AreInRange, SetupNumbers}
pub use Rattle.stamp_base.specs.declared.stores.Mark.{Mark}
pub use Rattle.stamp_base.specs.declared.stores.Mark.TheVariants.{Committed as CommittedMark, Invalid as InvalidMark}
pub use Rattle.std.proofs.Common.{All, Bool, Contains, IfSome, IsTrue, List, None, Option, Some, [], ap, append_assoc, arith, cond, false, if◌then◌else◌, inl, inr, is_some, length, length-append, map, max, nat_le, nat_lt, not, refl, subst, suc, sym, take, true, zero, ℕ, ◌&&◌, ◌++◌, ◌+◌, ◌<◌, ◌==◌, ◌||◌, ◌∙◌, ◌∷◌, ◌≡◌, ◌≢◌, ◌≤◌, ◌⊎◌}
pub use Rattle.std.proofs.lemmas.Bool.{cases_Bool, cases_eq, eq-eqb, eqb-true, le-leb, leb-false, leb-true, ltb-false, ltb-true, ne_eqb}
pub use Rattle.std.proofs.lemmas.Bool.Decides.{nat_tests}
pub use Rattle.std.proofs.lemmas.List.{append-nil, get_or-replicate, length-map, length-replicate, take-append-le}
pub use Rattle.std.proofs.lemmas.List.Elements.{All-append, All-cons, All-contains, All-head, All-map, All-nil, All-tail, All-weaker, Contains-append_left, Contains-append_right, Contains-push}
pub use Rattle.std.proofs.lemmas.Option.{get_or_from_slice_get, none-some, same_Some, slice_get_within}
pub use Rattle.std.specs.Cmp.{IsEquivalence, nat_cmp_total}
pub use Rattle.std.specs.FinMap.{get-insert, get-remove}
unfoldable pub use Rattle.std.specs.List.{IsDistinct}
pub use Rattle.std.specs.List.{AllByRecursion, filter}
pub use Rattle.std.specs.Option.{IsSomeAnd, option_or}
pub use Rattle.std.specs.Ordering.{eq_by_cmp, nat_cmp}
pub use Rattle.std.specs.Prelude.{IsSome, replicate, slice_get, slice_index_or, slice_set}
pub use Rattle.system_parts.proofs.CacheLemmas.{known_there, put_there, used_there}
pub use Rattle.system_parts.proofs.LastCommits.{NotAfter, last_commit_greatest, rise_head, rise_tail}
pub use Rattle.system_parts.proofs.PairLaws.{entry_or, entry_stays-put_pair, invalid_stays-without_committed, mark_of-put_pair, mark_of-put_pair_other, mark_of-without_committed_other, was_there-without_committed}
pub use Rattle.system_parts.proofs.RecalledLemmas.{AnyCache, HoldBoth, Recalls, come_to, over_from, over_holds, told_holds}
pub use Rattle.system_parts.proofs.RowFetches.{Contains-fetched, fetched-falls, fetched-upto, front-all, front-falls}
pub use Rattle.system_parts.proofs.RowLaws.{is_row-cases, looked-put_other, looked-put_same, looked-shadow_other, looked-shadow_same, looked-version, looked-without, looked-without_other, ordered-put, ordered-shadow, ordered-without}
pub use Rattle.system_parts.proofs.RowVersions.{without_bare_absent, without_bare_gone, without_bare_shadowed}
pub use Rattle.system_parts.specs.Buckets.{CommitsRise, IsShown, contents, last_commit, pair_of, pairs_of, record_pairs, verdict}
pub use Rattle.system_parts.specs.Cache.{Cache, cache_learnt, cache_new, dead_for_good, fresh_put, learnt_by, learnt_of, put_fresh, used}
pub use Rattle.system_parts.specs.Completion.{finish_asks, first_ask, undo_asks}
pub use Rattle.system_parts.specs.Instance.{InstanceEntry, held_of, instance_new, session_of, unsettled_by, with_request}
pub use Rattle.system_parts.specs.InstanceSteps.{IsStop, drawn_as, epoch_refusal, instance_renewed, instance_widened, just_asked, moved, pairs_by, request_verdict, without_request}
unfoldable pub use Rattle.system_parts.specs.KeyRead.{after_passed}
pub use Rattle.system_parts.specs.KeyRead.{Answers, Asks, ReadTurn, Reading, found_by, found_cell, found_none, is_late, is_passed, may_mark, read_ask, read_by, read_over, read_told, settling_of, turn_at}
pub use Rattle.system_parts.specs.Pairs.{Pairs, mark_of, put_over, put_pair, removed_from, without_committed}
pub use Rattle.system_parts.specs.Recalled.{outcome_known, recalled_from, recalled_over, recalled_told}
pub use Rattle.system_parts.specs.Record.{Leasing, MasterRecord, granted, is_early, renewed_until, take_refused}
pub use Rattle.system_parts.specs.Resolve.{Decides, Goes, SettleTurn, Settling, after_first_look, after_last_look, after_marking, after_table, ask_at, own_settling, settle_ask, settle_turn, settle_turn_at}
unfoldable pub use Rattle.system_parts.specs.Rows.{AreOrdered, front_of, keys_of_version, looked}
pub use Rattle.system_parts.specs.Rows.{AreFalling, AreUpto, IsBare, Row, bare_cell, fetched, is_below, put_row, shadowed, with_shadow, without_bare}
pub use Rattle.system_parts.specs.SessionSteps.{SessionEntry, aborted_by, asked_state, handed_by, handed_commit, has_key, has_transaction, key_added, step_refusal, vanish_refusal}
pub use Rattle.system_parts.specs.Sweep.{Left, Listing, Marking, SweepPoint, Sweeping, Undecided, sweep_after_marking, sweep_after_table, sweep_ask, sweep_ask_at, sweep_listed, sweep_open, sweep_point_after, sweep_point_listed, sweep_told}
pub use Rattle.system_parts.specs.declared.asks.Ask.{Ask}
pub use Rattle.system_parts.specs.declared.asks.Told.{Told}
pub use Rattle.system_parts.specs.declared.instance.Held.{Held}
pub use Rattle.system_parts.specs.declared.instance.Progress.{Progress}
pub use Rattle.system_parts.specs.declared.instance.Request.{Request}
pub use Rattle.system_parts.specs.declared.instance.Request.TheVariants.{Begin as BeginRequest, Commit}
pub use Rattle.system_parts.specs.declared.instance.Settled.{Settled}
pub use Rattle.system_parts.specs.declared.key_read.Answer.{Answer}
pub use Rattle.system_parts.specs.declared.known.Known.{Known}
pub use Rattle.system_parts.specs.declared.resolve.Outcome.TheVariants.{Committed as CommittedAt, Dead}
pub use Rattle.system_parts.specs.declared.resolve.SettlePoint.{SettlePoint}
pub use Rattle.system_parts.specs.declared.resolve.SettlePoint.TheVariants.{FirstLook, LastLook, Table}
pub use Rattle.system_parts.specs.declared.rows.Cell.{Cell}
pub use Rattle.system_parts.specs.declared.session.State.{State as SessionState}
