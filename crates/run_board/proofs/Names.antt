-- The names of other crates and of the specs that this crate's proofs cite.
pub use Rattle.cluster_core.specs.ClusterModel.{ClusterModel}
pub use Rattle.command_semantics.proofs.ScriptWalks.{actor_same, same_itself}
pub use Rattle.command_semantics.proofs.Serving.{Serving, node_step, on_both}
pub use Rattle.command_semantics.specs.Answers.{AnswersOnThreads, same_actor}
pub use Rattle.command_semantics.specs.Clocks.{HaveRoom, clocks}
pub use Rattle.command_semantics.specs.Interruptions.{halt_of, refused_by}
unfoldable pub use Rattle.command_semantics.specs.Laws.{AreLinesOf}
pub use Rattle.command_semantics.specs.Laws.{ActorFits, IsPlayable}
pub use Rattle.command_semantics.specs.Next.{Clocks, finish_next, idle_next, is_served, places, placing_next, read_next, steps_next}
pub use Rattle.command_semantics.specs.Planned.{Planned}
pub use Rattle.command_semantics.specs.Runs.{clocks_of, fate_of, opening_played, played, step_of}
pub use Rattle.command_semantics.specs.Views.{view_of}
pub use Rattle.command_semantics.specs.declared.point.Interruption.{Interruption}
pub use Rattle.command_semantics.specs.declared.point.Point.{Point}
pub use Rattle.command_semantics.specs.declared.point.Point.TheVariants.{Drives, Extends, Finishes, Opens, Over, Reads, Steps}
pub use Rattle.command_semantics.specs.declared.point.View.{View}
pub use Rattle.event_parts.specs.declared.stopped.Stopped.{Stopped}
pub use Rattle.event_parts.specs.declared.stopped.Stopped.TheVariants.{NoMemory, Refused, StoreFault}
pub use Rattle.history_book.proofs.MemberLemmas.{AtEach-push, AtEach-weaker, slice_get-push}
pub use Rattle.history_book.specs.declared.cause.Cause.{Cause}
pub use Rattle.history_book.specs.declared.item.Actor.{Actor}
pub use Rattle.history_book.specs.declared.item.Actor.TheVariants.{Clock, Janitor, Node, Session}
pub use Rattle.history_book.specs.declared.item.Item.{Item}
pub use Rattle.isolation_laws.specs.Sound.{ReachedInvariant}
pub use Rattle.machine.proofs.Lookups.{set_found, set_other}
pub use Rattle.machine.specs.Effect.{Faults, Refuses, Stop}
pub use Rattle.machine.specs.Events.Decide.{both_held, both_if_accepted, both_verdict, decide_both, decide_by, decide_on, decide_request}
pub use Rattle.machine.specs.Events.Put.{put_by, put_commit, put_on, to_place, to_place_by}
pub use Rattle.machine.specs.Machine.{IsSteadyAt, Step, reading_of, stepped, with_reading}
unfoldable pub use Rattle.machine.specs.Readers.{holder_from}
pub use Rattle.machine.specs.Readers.{asks_commit, commit_held, doing_at, first_holder, held_at, holder_of, is_commit, place_held, term_of}
pub use Rattle.machine.specs.State.{Client, State}
pub use Rattle.machine.specs.declared.event.Event.{Event}
pub use Rattle.planned_cluster.proofs.Clocks.{clocks_there}
pub use Rattle.planned_cluster.proofs.Fitting.{lines_fit, one_more_there}
pub use Rattle.planned_cluster.proofs.Playable.{playable_at_first}
pub use Rattle.planned_cluster.specs.Fitting.{SessionIsThere}
pub use Rattle.planned_cluster.specs.Standing.{PlaysOn, Reaches, StandsAt, clocks_at}
pub use Rattle.port_io.specs.contracts.planned.PlannedWeatherWeather.TheImpl.{ahead-value}
pub use Rattle.port_io.specs.declared.weather.Fate.{Fate}
pub use Rattle.run_board.specs.Further.{AdvancesGoFurther, EndedRunsAreWhole, IsFurther, OthersStaySeated, StageStepsGoFurther}
pub use Rattle.run_board.specs.Making.{IsLeftOut, Makes, MakesTurn, TurnsBy, cleared, finds_no_stamp, halted, has_some, is_told, lacking_after, serves, step_in}
pub use Rattle.run_board.specs.Playing.{AreCounted, Counts, IsCountedAt, IsKept, IsKeptPlay, IsResult, IsUpTo, Played, cursor_of}
pub use Rattle.run_board.specs.Run.{AreToldUsedUp, IsCarriedOut, IsSeated, IsToldUsedUp, Ran, SitsAt, reached_by, waits_told, with_turn}
pub use Rattle.run_board.specs.Seating.{AreSeated, AreSeatedFirst, CanPass, SitOnce, after_passes, after_passing, after_turn, gone_on_at, gone_on_with, is_seat_of, line_of, own_lines, passing_of, seated_of, sits_at, touched}
pub use Rattle.run_board.specs.SoFar.{AreAnsweredSoFar}
pub use Rattle.run_board.specs.Steps.{Advances, ExtendsFirst, HasEnded, IsServable, IsStageHeld, LacksOnlyThere, LacksUnserved, MakesOwn, MayTakeMemory, NeedsStamps, Serves, ServesBy, ServesOnce, TellsTurn, asked_of, did, done_by, drawn_in, has_turn, node_asked, place_in, place_of, state_of, told_by}
unfoldable pub use Rattle.run_board.specs.Through.{Follow}
pub use Rattle.run_board.specs.Through.{GoesThrough, MakesSteps}
pub use Rattle.run_board.specs.declared.answers.Advance.{Advance}
pub use Rattle.run_board.specs.declared.seated.Seated.{Seated}
pub use Rattle.script_data.specs.Data.{IsSound, ScriptData}
pub use Rattle.script_data.specs.declared.line.Line.{Line}
pub use Rattle.script_data.specs.declared.line.Verb.{Verb}
pub use Rattle.service_rules.specs.Service.{KeepsService}
pub use Rattle.session_script.specs.PostedNames.{names_after, posts, with_name}
pub use Rattle.session_script.specs.Script.{data_of}
pub use Rattle.stamp_base.specs.SetupNumbers.{SetupNumbers}
pub use Rattle.stamp_base.specs.declared.stage.Stage.{Stage}
pub use Rattle.stamp_base.specs.declared.stage.Stage.TheVariants.{Persist, Reply, Request}
pub use Rattle.std.proofs.Common.{All, Bool, Err, List, None, Ok, Option, Result, Some, [], ap, append-nil, append_assoc, arith, cond, drop, false, get_or, inl, inr, leb, length, length-drop, refl, rules, subst, suc, sym, true, zero, ℕ, ◌++◌, ◌+◌, ◌-◌, ◌<◌, ◌==◌, ◌^◌, ◌||◌, ◌∙◌, ◌∷◌, ◌≡◌, ◌≢◌, ◌≤◌, ◌⊎◌}
pub use Rattle.std.proofs.lemmas.Bool.{cases_Bool, eqb-true, le-leb, leb-true, true≢false}
pub use Rattle.std.proofs.lemmas.Bool.Decides.{eqb_tells}
pub use Rattle.std.proofs.lemmas.List.{length-append, take_more}
pub use Rattle.std.proofs.lemmas.List.Edits.{map_over_more}
pub use Rattle.std.proofs.lemmas.List.Elements.{All-cons, All-filter, All-head, All-map, All-nil, All-push, All-tail, All-weaker, filter-append}
pub use Rattle.std.proofs.lemmas.List.Sums.{fold_push}
pub use Rattle.std.proofs.lemmas.Option.{none-some, same_Some, slice_get-map, slice_get_past, slice_get_read}
pub use Rattle.std.specs.List.{list_any}
pub use Rattle.std.specs.Option.{option_map}
pub use Rattle.std.specs.Prelude.{IfSome, IsOk, IsSomeAnd, IsTrue, MatchOption, filter, find, fold, is_ok, is_some, map, replicate, slice_get, slice_index_or, slice_set, take, vec_len, ◌&&◌, ◌↔◌}
pub use Rattle.system_parts.specs.Instance.{InstanceEntry, held_of, place_of_progress, stamps_at, with_request}
pub use Rattle.system_parts.specs.InstanceSteps.{InstanceStep, decide_drawn, decide_by as decided, instance_accept, instance_answer, instance_ask, instance_settle, no_stamp_told, out_of_stamps, decide_by as verdict_by}
pub use Rattle.system_parts.specs.declared.buckets.Verdict.{Verdict}
pub use Rattle.system_parts.specs.declared.buckets.Verdict.TheVariants.{Conflict, Free, Hidden}
pub use Rattle.system_parts.specs.declared.instance.Decided.{Decided}
pub use Rattle.system_parts.specs.declared.instance.Held.{Held}
pub use Rattle.system_parts.specs.declared.instance.Place.{Place}
pub use Rattle.system_parts.specs.declared.instance.Progress.{Progress}
pub use Rattle.thread_scripts.proofs.Behind.{behind_at_first, behind_further, behind_up, can_come_up, covered_up}
pub use Rattle.thread_scripts.specs.Actors.{AreAtTheirEnds, AreBehind, CoverLines, actors_of}
unfoldable pub use Rattle.thread_steps.specs.Done.{caught_up}
pub use Rattle.thread_steps.specs.Done.{Done, first_cursor, is_same}
pub use Rattle.thread_steps.specs.declared.cursor.Cursor.{Cursor}
pub use Rattle.thread_steps.specs.declared.stages.StageStep.{StageStep}
pub use Rattle.turn_rules.proofs.OwnTurns.{OwnTurn, own_turn, turn_timed}
pub use Rattle.turn_rules.proofs.SeatLists.{drop_get, drop_next, find_map, find_place, find_true}
pub use Rattle.turn_rules.proofs.SeatsOn.{moved_actor, other_stays, passed_actor, passed_seat, seat_after, turned_seat}
pub use Rattle.turn_rules.specs.Carried.{AreWhole, Carried, ahead_at, ahead_in, aimed_clocks, aimed_node, all_passed, at_first, carried, carried_items, event_of, held_after, holds_at, is_held, made_by, moved, name_posted, none_held, own_ahead, seat_of, seat_passed, turned, turned_by, with_event}
pub use Rattle.turn_rules.specs.Lawful.{AreLawful, IsFree, IsInPlace, IsLawful, IsTold, LacksStamps, answered_from, is_accepted_by, serving_turn, serving_turn_of, session_view, stage_of, stage_turn}
pub use Rattle.turn_rules.specs.Laws.{IsPlannedSoFar, TurnsAnswer, TurnsAnswerSoFar, TurnsArePlanned, TurnsArePlannedSoFar}
unfoldable pub use Rattle.turn_rules.specs.Seats.{passed, seats_of}
pub use Rattle.turn_rules.specs.Seats.{ahead_of, first_seat, first_seats, gone_on, is_passed, lines_left, lines_of, present_line, was_asked, with_event_at, with_next_line}
pub use Rattle.turn_rules.specs.Told.{AreForThreads, OwnTurnsAreTold, QuietTurnsChangeNothing, StageTurnsAreTold}
pub use Rattle.turn_rules.specs.Waiting.{collect_ahead, drive_ahead, made_next, own_next, own_opens}
pub use Rattle.turn_rules.specs.declared.ahead.NextAction.{NextAction}
pub use Rattle.turn_rules.specs.declared.ahead.NextAction.TheVariants.{Passes, Waits}
pub use Rattle.turn_rules.specs.declared.seat.Holds.{Holds}
pub use Rattle.turn_rules.specs.declared.seat.Seat.{Seat}
pub use Rattle.turn_rules.specs.declared.turn.Turn.{Turn}
