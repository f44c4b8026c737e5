-- The names of other crates and of the specs that this crate's proofs cite.
pub use Rattle.cluster_core.specs.ClusterModel.{ClusterModel, MakesStep, effect_of, step_under}
unfoldable pub use Rattle.cluster_core.specs.Room.{was_placed}
pub use Rattle.cluster_core.specs.Room.{ArePlacesKept, AreRoomy, is_record_of, need, need_by, needs_of, once, spent, start_by, start_to_place, told_besides, unless_direct}
pub use Rattle.cluster_core.specs.Seen.{seen_made}
pub use Rattle.cluster_core.specs.Served.{HasRoomFor, KeepsRoom, LeavesRoom, Reserves, ReservesFor, Spends, direct_found, direct_in, held_found, held_in, is_served, most_reserved}
pub use Rattle.event_parts.specs.Made.{AsksNone, Leaves, Makes, ended, fate_ahead}
pub use Rattle.event_parts.specs.Served.{HasPlaceFor, HasRoomIf, NeverLacksIf, SpendsIf, answers_at, decides_at, is_to_answer, is_to_decide, is_to_put, places_after}
pub use Rattle.event_parts.specs.declared.stopped.Stopped.{Stopped}
pub use Rattle.event_parts.specs.declared.stopped.Stopped.TheVariants.{NoMemory, Refused, StoreFault}
pub use Rattle.history_book.specs.declared.cause.Cause.{Cause}
pub use Rattle.history_book.specs.declared.item.Item.{Item}
pub use Rattle.isolation_laws.specs.IsolationInvariant.{IsolationInvariant}
pub use Rattle.isolation_laws.specs.Words.{Begun, HasRecord, HeldBy, InstanceAt, cell_with}
pub use Rattle.machine.proofs.Lookups.{commit_own, held_by, instance_set}
pub use Rattle.machine.specs.Effect.{Effect, Faults, Refuses, Stop}
pub use Rattle.machine.specs.Events.Accept.{accept_by, accept_on, accept_request}
pub use Rattle.machine.specs.Events.Answer.{answer_by, answer_on, answer_request}
pub use Rattle.machine.specs.Events.AskBegin.{ask_begin_by, ask_begin_on, asked_by}
pub use Rattle.machine.specs.Events.AskCommit.{ask_commit_by, ask_commit_on, commit_of}
pub use Rattle.machine.specs.Events.Decide.{both_if_accepted, both_verdict, decide_by, decide_on, decide_request}
pub use Rattle.machine.specs.Events.Extend.{extend_asks, extend_by, extend_on}
pub use Rattle.machine.specs.Events.Fetch.{epoch_asks, fetch_asks, fetch_on, fetch_open, fetch_refused}
pub use Rattle.machine.specs.Events.Heal.{heal_asks, heal_at, heal_on, offer_asks, offer_of}
pub use Rattle.machine.specs.Events.Put.{commit_asks, put_asks, put_by, put_commit, put_on, to_place, to_place_by}
pub use Rattle.machine.specs.Events.Renew.{renew_asks, renew_by, renew_on}
pub use Rattle.machine.specs.Events.Take.{take_asks, take_by, take_on}
pub use Rattle.machine.specs.Events.Write.{open_asks, write_asks, write_on, write_open, write_refused}
pub use Rattle.machine.specs.Machine.{IsSteadyAt, Step, asks, at_both, at_post, nothing, on_ask, on_client, on_clients, on_request, on_sweep, reading_of, step_by, stepped, with_client, with_post, with_reading}
unfoldable pub use Rattle.machine.specs.Readers.{holder_from}
pub use Rattle.machine.specs.Readers.{first_holder, held_at, term_at}
pub use Rattle.machine.specs.State.{Client, State, opening}
pub use Rattle.machine.specs.declared.event.Event.{Event}
pub use Rattle.node_events.specs.Reserved.{HasPlace, HasPlaceUnless, HeldHasPlace, KeepPlaces, ReservesFive, is_direct}
pub use Rattle.port_io.specs.declared.weather.Fate.{Fate}
pub use Rattle.stamp_base.specs.SetupNumbers.{AreInRange, SetupNumbers}
pub use Rattle.stamp_base.specs.Setups.{numbers_of}
pub use Rattle.stamp_base.specs.declared.stores.Store.{Store}
pub use Rattle.stamp_base.specs.declared.stores.Store.TheVariants.{Cells, Master, Table}
pub use Rattle.std.proofs.Common.{Bool, Err, List, None, Ok, Option, Result, Some, [], ap, append-nil, arith, drop, false, get_or, inl, inr, length, max, refl, subst, suc, sym, true, zero, ℕ, ⊎_elim, ◌++◌, ◌+◌, ◌-◌, ◌<◌, ◌==◌, ◌||◌, ◌∙◌, ◌∷◌, ◌≡◌, ◌≢◌, ◌≤◌, ◌⊎◌}
pub use Rattle.std.proofs.lemmas.List.{drop_all, drop_more, length-append, set-get_or, with_items_is}
pub use Rattle.std.proofs.lemmas.List.Sums.{sum_by-cons}
pub use Rattle.std.proofs.lemmas.Option.{get_or_from_slice_get, none-some, same_Some, slice_get_cases, slice_get_read}
pub use Rattle.std.specs.List.{sum_by}
pub use Rattle.std.specs.Prelude.{IfSome, IsTrue, OnOk, if◌then◌else◌, is_some, replicate, slice_get, slice_index_or, slice_set}
pub use Rattle.system_parts.specs.Instance.{InstanceEntry, held_of, in_flight, least_unsettled, session_of, stamps_by, stamps_of_held, unsettled_by, with_request}
pub use Rattle.system_parts.specs.Pairs.{Pairs, Places, mark_of}
pub use Rattle.system_parts.specs.Record.{MasterRecord}
pub use Rattle.system_parts.specs.Rows.{Row, looked}
pub use Rattle.system_parts.specs.Sweep.{Sweeping, sweep_ask}
pub use Rattle.system_parts.specs.declared.instance.Held.{Held}
pub use Rattle.system_parts.specs.declared.instance.Progress.{Progress}
pub use Rattle.system_parts.specs.declared.instance.Progress.TheVariants.{Accepted, Asked, Drawn, Handed, Settled}
pub use Rattle.system_parts.specs.declared.instance.Request.{Request}
pub use Rattle.system_parts.specs.declared.instance.Request.TheVariants.{Begin, Commit}
pub use Rattle.system_parts.specs.declared.instance.Settled.{Settled as How}
