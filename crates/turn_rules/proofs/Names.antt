-- The names of other crates and of the specs that this crate's proofs cite.
pub use Rattle.command_semantics.proofs.AlwaysFit.{Fit, fit_at_first, fit_stays, found}
pub use Rattle.command_semantics.proofs.Ending.{opening_reached}
pub use Rattle.command_semantics.proofs.LaterEvents.{IsLater}
pub use Rattle.command_semantics.proofs.LineWalks.{any_not}
pub use Rattle.command_semantics.proofs.OwnLines.{follows_later, later_plain, opens_line, opens_some, read_next_is}
pub use Rattle.command_semantics.proofs.PlainEvents.{OpensNone, events_plain}
pub use Rattle.command_semantics.proofs.ReadLines.{EndsOrReads, ReadsKey}
pub use Rattle.command_semantics.proofs.ReadSteps.{read_goes_on, read_has_next}
pub use Rattle.command_semantics.proofs.ScriptWalks.{actor_same, same_itself}
pub use Rattle.command_semantics.proofs.Takes.{TakesFit, some_fits, takes_at_first, takes_stay}
pub use Rattle.command_semantics.proofs.Timing.{InTime, Timed, event_timed, in_time, tick_ahead}
unfoldable pub use Rattle.command_semantics.proofs.Walks.{AllNot}
pub use Rattle.command_semantics.proofs.Walks.{LineItems, Paid, plain_not, shifted, walks_end, walks_line, walks_over, walks_read}
unfoldable pub use Rattle.command_semantics.specs.Answers.{Answered}
pub use Rattle.command_semantics.specs.Answers.{IsAnswer, asks_some, clock_opening, has_opening, is_of, name_opening, node_opening, read_begun, same_actor, session_opening}
pub use Rattle.command_semantics.specs.Clocks.{clocks}
pub use Rattle.command_semantics.specs.Interruptions.{follows, halt_of}
unfoldable pub use Rattle.command_semantics.specs.Laws.{AreLinesOf}
pub use Rattle.command_semantics.specs.Laws.{ActorFits, EventsLowerWhatIsLeft, IsPlayable, IsReached, VerbFits}
pub use Rattle.command_semantics.specs.Master.{has_take, last_master}
pub use Rattle.command_semantics.specs.Next.{Clocks, clock_opens, collect_next, drive_next, extend_next, finish_next, idle_next, is_served, janitor_next, janitor_opens, name_opens, next, node_opens, opens_alone, places, placing_next, read_next, reading_at, serves, session_next, session_opens, steps_next, sweep_next, target_node}
unfoldable pub use Rattle.command_semantics.specs.Planned.{ticks_in}
pub use Rattle.command_semantics.specs.Planned.{tick_by, with_tick}
pub use Rattle.command_semantics.specs.PlannedLaws.{EventsStayPlanned, LinesReadClocks, PlannedAtFirst, PlannedInTheEnd}
pub use Rattle.command_semantics.specs.Runs.{Played, clocks_of, fate_of, played, step_of}
pub use Rattle.command_semantics.specs.SoFar.{PlannedSoFar, ReadsClocks, tick_at, ticks_with}
pub use Rattle.command_semantics.specs.Views.{view_of}
pub use Rattle.command_semantics.specs.declared.point.Point.{Point}
pub use Rattle.command_semantics.specs.declared.point.Point.TheVariants.{Drives, Extends, Finishes, Opens, Over, Reads, Steps}
pub use Rattle.command_semantics.specs.declared.point.View.{View}
pub use Rattle.history_book.specs.declared.cause.Cause.{Cause}
pub use Rattle.history_book.specs.declared.item.Actor.{Actor}
pub use Rattle.history_book.specs.declared.item.Actor.TheVariants.{Clock, Janitor, Node, Session}
pub use Rattle.history_book.specs.declared.item.Item.{Item}
pub use Rattle.isolation_laws.specs.Sound.{ReachedInvariant}
pub use Rattle.isolation_laws.specs.Words.{ClientAt, InstanceAt}
pub use Rattle.machine.proofs.Lookups.{held_by, one_client, set_found, set_other}
pub use Rattle.machine.proofs.PartsKept.{leaves_parts, seen_up}
pub use Rattle.machine.specs.Effect.{Effect, Stop, kept_items}
pub use Rattle.machine.specs.Events.Accept.{accept_by, accept_on, accept_request}
pub use Rattle.machine.specs.Events.Answer.{answer_by, answer_on, answer_request}
unfoldable pub use Rattle.machine.specs.Events.Crash.{all_crashed_items, crashed_clients}
pub use Rattle.machine.specs.Events.Crash.{crash_on, crashed_client}
pub use Rattle.machine.specs.Events.Decide.{both_held, both_if_accepted, both_verdict, decide_both, decide_by, decide_on, decide_request}
pub use Rattle.machine.specs.Machine.{IsSteadyAt, Step, at_both, at_client, at_post, step_by as machine_step_by, reading_of, seen_after, step_by, stepped, with_client, with_post, with_reading}
unfoldable pub use Rattle.machine.specs.Readers.{holder_from}
pub use Rattle.machine.specs.Readers.{doing_of, held_at, place_of}
pub use Rattle.machine.specs.State.{Client, Completes, Settles, State, UnderWay, opening}
pub use Rattle.machine.specs.declared.event.Doing.{Doing}
pub use Rattle.machine.specs.declared.event.Event.{Event}
pub use Rattle.port_io.specs.declared.weather.Fate.{Fate}
pub use Rattle.port_io.specs.declared.weather.Fate.TheVariants.{FailsApplied, FailsUnchanged, Works}
pub use Rattle.script_data.specs.Data.{ScriptData}
unfoldable pub use Rattle.script_data.specs.Ticks.{ticks_of}
pub use Rattle.script_data.specs.Ticks.{tick_of}
pub use Rattle.script_data.specs.declared.line.Line.{Line}
pub use Rattle.script_data.specs.declared.line.Target.{Target}
pub use Rattle.script_data.specs.declared.line.Verb.{Verb}
pub use Rattle.stamp_base.specs.SetupNumbers.{AreInRange, SetupNumbers}
pub use Rattle.stamp_base.specs.declared.stores.Mark.{Mark}
pub use Rattle.std.proofs.Common.{Bool, Err, List, None, Ok, Option, Result, Some, [], ap, append_assoc, arith, cond, false, inl, inr, length, refl, subst, suc, sym, true, zero, ℕ, ◌&&◌, ◌++◌, ◌+◌, ◌<◌, ◌==◌, ◌^◌, ◌∙◌, ◌∷◌, ◌≡◌, ◌≤◌, ◌⊎◌}
pub use Rattle.std.proofs.lemmas.Bool.Decides.{eqb_tells}
pub use Rattle.std.proofs.lemmas.List.{append-nil}
pub use Rattle.std.proofs.lemmas.Option.{none-some, same_Some, slice_get_read}
pub use Rattle.std.specs.Option.{option_map}
pub use Rattle.std.specs.Prelude.{All, drop, filter, find, fold, map, slice_get, slice_index_or, slice_set, unwrap_or}
unfoldable pub use Rattle.system_parts.specs.Instance.{least_unsettled}
pub use Rattle.system_parts.specs.Instance.{InstanceEntry, held_of, not_yet_of_held, stamps_of_held, with_request}
pub use Rattle.system_parts.specs.InstanceSteps.{InstanceStep, IsStop, answer_begin, answer_held, answer_if_ready, decide_drawn, instance_accept, instance_answer, out_of_stamps, decide_by as verdict_by}
pub use Rattle.system_parts.specs.Pairs.{Pairs, mark_of}
unfoldable pub use Rattle.system_parts.specs.Rows.{put_row}
pub use Rattle.system_parts.specs.Rows.{Row}
pub use Rattle.system_parts.specs.declared.instance.Held.{Held}
pub use Rattle.system_parts.specs.declared.instance.Place.{Place}
pub use Rattle.system_parts.specs.declared.instance.Request.{Request}
pub use Rattle.system_parts.specs.declared.instance.Request.TheVariants.{Begin, Commit}
pub use Rattle.system_parts.specs.declared.session.State.{State as SessionState}
pub use Rattle.turn_rules.specs.Carried.{AreWhole, Carried, ahead_at, ahead_in, aimed_clocks, aimed_node, all_passed, at_first, carried, carried_items, event_of, made_by, moved, name_posted, own_ahead, seat_of, seat_passed, turned, turned_by, with_event}
pub use Rattle.turn_rules.specs.Lawful.{IsTold, LacksStamps}
pub use Rattle.turn_rules.specs.Laws.{IsAnsweredSoFar, IsAnsweredTo, IsPlannedSoFar, OwesRead, OwnEventsLowerWhatIsLeft, TurnsAnswer, TurnsAnswerSoFar, TurnsArePlanned, TurnsArePlannedSoFar, TurnsKeepFacts, ticks_ahead, unanswered}
unfoldable pub use Rattle.turn_rules.specs.Seats.{passed, seats_of}
pub use Rattle.turn_rules.specs.Seats.{ahead_of, first_seat, first_seats, is_passed, lines_left, lines_of, present_line, with_event_at, with_event_of, with_next_line}
unfoldable pub use Rattle.turn_rules.specs.Told.{AreForThreads}
pub use Rattle.turn_rules.specs.Told.{IsForThreads, OwnTurnsAreTold, QuietTurnsChangeNothing, StageTurnsAreTold}
pub use Rattle.turn_rules.specs.Waiting.{collect_ahead, drive_ahead, made_next, own_next, own_opens}
pub use Rattle.turn_rules.specs.declared.ahead.NextAction.{NextAction}
pub use Rattle.turn_rules.specs.declared.ahead.NextAction.TheVariants.{Makes, Passes, Waits}
pub use Rattle.turn_rules.specs.declared.ahead.Why.TheVariants.{Name, Reply}
pub use Rattle.turn_rules.specs.declared.seat.Seat.{Seat}
pub use Rattle.turn_rules.specs.declared.turn.Turn.{Turn}
