-- The names of other crates and of the specs that this crate's proofs cite.
pub use Rattle.cause_laws.specs.Bounds.{Bounded, CanExtend, DrawMayBeMade, ExtensionMayBeMade, IsBounded, PartsAreCounted, RenewalMayBeMade, TakeMayBeMade}
pub use Rattle.cause_laws.specs.Due.{Due, DueEarly, DueExpired, DueFull, DueGone, DueHolding, DueLoss, DueNoStamp, DueNone, DueNotYet, DueNow, DueOldEpoch, DueOvertaken, DuePlacing, DueSettled, DueSpent, DueStop, DueToJanitor, DueToNode, DueToSession, DueVerdict, FailedToPlace, HowPlaced, IsRefusal, MetMark, Places, Serves, cause_of_loss}
pub use Rattle.cause_laws.specs.Nodes.{AreLasts, AreShownStops, AreTaken, AreVacant, ShownStop}
pub use Rattle.cause_laws.specs.Reads.{AreFetched, AreReadsShown}
pub use Rattle.cause_laws.specs.RequestCalls.{BeginMayBeAsked, CommitMayBeAsked, PostAt, PutMayBeMade, RequestsAreWaitedFor}
pub use Rattle.cause_laws.specs.Requests.{AreAsked, AreFaulted, AreOpenAsks, ArePlacingAsked, ArePutByNodes, AskedToPlace, WhereNodesPut, ask_for, held_count}
pub use Rattle.cause_laws.specs.ShownInvariant.{ExplainedInvariant, ShownInvariant}
pub use Rattle.cause_laws.specs.StoreCalls.{HealMayBeMade, PlacingMayBeMade, ReadMayGoOn, ReadsFetched, StepMayBeMade, SweepMayStep, WriteMayBeMade}
pub use Rattle.cause_laws.specs.Stores.{AreGone, AreMarked, IsRecordShown}
pub use Rattle.cause_rules.specs.Asks.{Ask, ask_by, asks_for, draw_by, draws_for, its_ask, its_draw, its_node, its_start, its_term, node_asked, since_ask, since_draw, start_asked, start_drawn, term_by}
pub use Rattle.cause_rules.specs.Commits.{CommitDrawn, ShownConflict, ShownExpired, ShownHidden, ShownInvalid, ShownNoStamp, ShownNotYet, ShownOldEpoch, ShownOpen, ShownReplaced, StampDrawn, placer}
pub use Rattle.cause_rules.specs.Explained.{Explained, Shown, ShownCause, ShownToJanitor, ShownToNode, ShownToSession}
unfoldable pub use Rattle.cause_rules.specs.OpenAsks.{open_asks_from}
pub use Rattle.cause_rules.specs.OpenAsks.{asks_at, closes, ends_request, open_asks, open_asks_of, open_then}
pub use Rattle.cause_rules.specs.OwnKeys.{WroteOrRead, begin_by, begins_for, last_begun, since_begin}
pub use Rattle.cause_rules.specs.Posts.{CeilingGiven, HasNone, LeaseGiven, LeasedUntil, StandsSince, TermTaken, TookLast, crashes_for, last_take, since_take, take_by, takes_for}
pub use Rattle.cause_rules.specs.Refusals.{ShownEarly, ShownFull, ShownGone, ShownHolding, ShownOvertaken, ShownSpent}
pub use Rattle.cause_rules.specs.Since.{last_told, since, since_then, told_then}
unfoldable pub use Rattle.cause_rules.specs.Written.{recorded_in}
pub use Rattle.cause_rules.specs.Written.{recorded, recorded_by, written_keys}
pub use Rattle.history_book.proofs.MemberLemmas.{AtEach-push, in_back, in_front, in_last}
pub use Rattle.history_book.specs.Isolation.{Committed, Stamped, last_write}
unfoldable pub use Rattle.history_book.specs.Members.{◌∈◌}
pub use Rattle.history_book.specs.Members.{AtEach}
pub use Rattle.history_book.specs.declared.cause.Cause.{Cause}
pub use Rattle.history_book.specs.declared.cause.Cause.TheVariants.{Idle, Replaced, Spent}
pub use Rattle.history_book.specs.declared.item.Actor.{Actor}
pub use Rattle.history_book.specs.declared.item.Actor.TheVariants.{Clock, Janitor, Node, Session}
pub use Rattle.history_book.specs.declared.item.Item.{Item}
pub use Rattle.history_book.specs.declared.item.Item.TheVariants.{Crash, Draw, Fault, Refused, Vanish}
pub use Rattle.history_book.specs.declared.item.StoreStep.TheVariants.{Fetch, Handed, Handed as HandedStep, Keys, PutFound}
pub use Rattle.isolation_laws.proofs.AlwaysHolds.{dues, each_outcome, facts_stay, setup_after, stands_at_first, steady_now, steady_stays}
pub use Rattle.isolation_laws.proofs.Memory.RecordedCommits.{recorded_by_other, recorded_by_own, recorded_rise}
pub use Rattle.isolation_laws.proofs.Numbers.NumbersKept.{drawn_pending, in_flight_of}
pub use Rattle.isolation_laws.proofs.Owners.{drawn_once, pending_unplaced}
pub use Rattle.isolation_laws.proofs.Pushed.{in_append, not_true}
pub use Rattle.isolation_laws.proofs.Requests.ClientMoves.{ClientsMove, at_work_moved, clients_move}
pub use Rattle.isolation_laws.proofs.Requests.ClientsOpen.{WorksNoMore, gone_cases, read_keeps_entry}
pub use Rattle.isolation_laws.proofs.Stores.StoresStay.{completed_fills, swept_fills}
pub use Rattle.isolation_laws.specs.IsolationInvariant.{IsolationInvariant}
pub use Rattle.isolation_laws.specs.Pending.{Has, HeldPending, InFlight, IsOpen, IsPending, Taken, is_placing}
pub use Rattle.isolation_laws.specs.Requests.{AreRequests, WaitsFor}
pub use Rattle.isolation_laws.specs.Sound.{ReachedInvariant, Sound}
pub use Rattle.isolation_laws.specs.Words.{ClientAt, DrewCommit, HasRecord, HeldBy, InstanceAt, Marked, cell_with, epoch_or_none}
pub use Rattle.machine.proofs.Inversions.InversionOfSessions.{work_open, write_may}
pub use Rattle.machine.proofs.Lookups.{client_set, held_by, heldby_changed, heldby_ended, instance_changed, instance_ended, one_client, set_cases}
pub use Rattle.machine.proofs.MarksTold.{marks_behind, marks_same, placed_marks}
pub use Rattle.machine.proofs.Outcome.PlainItems.{all_silent, none_silent, one_silent, two_silent}
pub use Rattle.machine.proofs.PartsKept.{clients_stay, leaves_parts, posts_stay, seen_up}
pub use Rattle.machine.specs.Calls.{CanWork, HoldsNone, KeepsShadowNext, MayStep, WaitsFor as ServesFor, Waits, WaitsAt}
pub use Rattle.machine.specs.Clients.{client_begun, client_freed, client_handed, is_reading, is_reading_by, unless_gone, unless_gone_by}
unfoldable pub use Rattle.machine.specs.Events.Crash.{all_crashed_items}
pub use Rattle.machine.specs.Events.Crash.{crashed_items, loss_heard, loss_items}
pub use Rattle.machine.specs.Events.Decide.{draw_item}
pub use Rattle.machine.specs.Events.Fetch.{client_read, found_of, keeps_read, read_items}
pub use Rattle.machine.specs.Events.Step.{asked_next, next_of, own_resolve, settle_items, store_asked, work_by, work_of}
pub use Rattle.machine.specs.Events.Take.{instance_of, rules_of, take_item}
unfoldable pub use Rattle.machine.specs.Machine.{items_after, state_after}
pub use Rattle.machine.specs.Machine.{AreSteady, IsSteadyAt, Move, Steady, Step, history_after, reading_of, seen_after, stepped}
pub use Rattle.machine.specs.Outcome.Outcomes.{OfAborted, OfAccepted, OfAnsweredBegin, OfAnsweredCommit, OfAskedBegin, OfAskedCommit, OfCompleted, OfCrashed, OfDrew, OfEnded, OfEndedReadOnly, OfExtended, OfFetched, OfGranted, OfHanded, OfHealed, OfNotPlaced, OfOutcome, OfOutcomeFailed, OfOwnNotPlaced, OfOwnPlaced, OfPlaced, OfReadDropped, OfReadStepped, OfRenewed, OfStill, OfSweepFailed, OfSweepListed, OfSweepOpened, OfSwept, OfVanished, OfWriteFailed, OfWrote, Outcome, left_by, told_by_outcome}
pub use Rattle.machine.specs.Outcome.OutcomesOfRecord.{Extended, Renewed as RenewedLease, Rests, StillBy, Stops, Tells, Tells as TellsOne, extended_nodes, fault_if, renewed_nodes}
pub use Rattle.machine.specs.Outcome.OutcomesOfStamps.{AnsweredBegin, AtDrawn, HandedOver, PlacedOne, answered_begin_items, answered_begin_state, answered_item, fault_of, found_items, settled_nodes}
pub use Rattle.machine.specs.Outcome.OutcomesOfWork.{Fetched, OutcomeStepped, fetched_client, fetched_items, fetched_turn, read_client, read_turn}
pub use Rattle.machine.specs.Plain.{AllSilent, Silent}
pub use Rattle.machine.specs.State.{Client, Completes, Nothing, Reads, Settles, State, UnderWay, client_new, opening}
pub use Rattle.machine.specs.declared.event.Event.{Event}
pub use Rattle.port_io.specs.declared.weather.Fate.{Fate}
pub use Rattle.stamp_base.specs.SetupNumbers.{AreInRange, SetupNumbers}
pub use Rattle.stamp_base.specs.declared.stores.Store.TheVariants.{Cells, Master, Table}
pub use Rattle.std.proofs.Common.{Bool, Contains, IsTrue, List, None, Option, Some, [], ap, append_assoc, arith, false, if◌then◌else◌, inl, inr, is_some, length, max, nat_lt, refl, subst, suc, sym, take, true, zero, ℕ, ◌&&◌, ◌++◌, ◌+◌, ◌<◌, ◌==◌, ◌∙◌, ◌∷◌, ◌≡◌, ◌≢◌, ◌≤◌, ◌⊎◌}
pub use Rattle.std.proofs.lemmas.Bool.{cases_Bool, cases_eq, cases_lt, eq-eqb, eqb-false, eqb-true, ltb-false, ltb-true, ne_eqb}
pub use Rattle.std.proofs.lemmas.List.{append-nil, get_or_default, get_or_past, length-replicate, length-set}
pub use Rattle.std.proofs.lemmas.List.Elements.{All-append, All-cons, All-head, All-nil, All-tail, All-weaker, Contains-append_cases, Contains-push_cases}
pub use Rattle.std.proofs.lemmas.List.Sums.{fold-append, fold_push}
pub use Rattle.std.proofs.lemmas.Option.{none-some, same_Some, slice_get_within}
pub use Rattle.std.specs.List.{fold}
pub use Rattle.std.specs.Option.{option_or}
pub use Rattle.std.specs.Prelude.{All, IfSome, IsSome, count_by, slice_get, slice_index_or, slice_set, ◌^◌}
pub use Rattle.system_parts.proofs.InstanceRequests.{held_of-instance_new, held_of-with_request_other, held_of-with_request_same}
unfoldable pub use Rattle.system_parts.specs.Buckets.{IsRecordedAt, verdict}
pub use Rattle.system_parts.specs.Buckets.{Bucket, IsShown, bucket_of, contents, first_refusal, judged, kept_commit, key_verdict, last_commit, pair_of, pairs_of, place_of}
pub use Rattle.system_parts.specs.Instance.{InstanceEntry, held_of, in_flight, session_of, stamps_by, unsettled_by, unsettled_commit, with_request}
pub use Rattle.system_parts.specs.InstanceSteps.{decide_drawn, drawn_as, instance_renewed, instance_stopped, instance_widened, just_asked, moved, without_request}
pub use Rattle.system_parts.specs.KeyRead.{Answers, Asks, ReadTurn, Reading, may_mark}
pub use Rattle.system_parts.specs.Pairs.{Pairs, mark_of}
pub use Rattle.system_parts.specs.Record.{Leasing, MasterRecord, extend_refused, granted, is_early, is_spent, renewed_until, take_refused}
pub use Rattle.system_parts.specs.Resolve.{Decides, Goes, SettleTurn, ask_at, settle_ask, settle_turn}
pub use Rattle.system_parts.specs.SessionSteps.{EndsFrom, SessionEntry, begin_refusal, handed_by, handed_commit, has_key, has_transaction, key_added, key_refusal, step_refusal, work_refusal}
pub use Rattle.system_parts.specs.declared.buckets.Verdict.{Verdict}
pub use Rattle.system_parts.specs.declared.buckets.Verdict.TheVariants.{Conflict, Free, Hidden}
pub use Rattle.system_parts.specs.declared.instance.Held.{Held}
pub use Rattle.system_parts.specs.declared.instance.Progress.{Progress}
pub use Rattle.system_parts.specs.declared.instance.Request.{Request}
pub use Rattle.system_parts.specs.declared.instance.Request.TheVariants.{Begin, Commit}
pub use Rattle.system_parts.specs.declared.instance.Settled.{Settled}
pub use Rattle.system_parts.specs.declared.resolve.SettlePoint.{SettlePoint}
pub use Rattle.system_parts.specs.declared.session.State.{State as Phase, State as SessionState}
