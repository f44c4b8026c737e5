-- The names of other crates and of the specs that this crate's proofs cite.
pub use Rattle.cause_laws.specs.RequestCalls.{PostAt}
pub use Rattle.cluster_core.specs.Required.{CanMake, Covers, IsWaitedFor, MayBegin, MayCommit, MayExtend, MayHeal, MayMakeStep, MaySweep, MayWrite}
pub use Rattle.event_parts.specs.Made.{Leaves, Makes, fate_ahead}
pub use Rattle.event_parts.specs.declared.stopped.Stopped.{Stopped}
pub use Rattle.event_parts.specs.declared.stopped.Stopped.TheVariants.{NoMemory, Refused, StoreFault}
pub use Rattle.history_book.specs.declared.cause.Cause.{Cause}
pub use Rattle.history_book.specs.declared.item.Item.{Item}
pub use Rattle.isolation_laws.specs.Words.{ClientAt}
pub use Rattle.machine.specs.Calls.{HoldsNone, KeepsShadowNext, MayStep, Waits, WaitsAt, WaitsFor}
pub use Rattle.machine.specs.Clients.{is_reading}
pub use Rattle.machine.specs.Effect.{Effect, Faults, Refuses, Stop}
pub use Rattle.machine.specs.Events.Extend.{extend_asks, extend_on}
pub use Rattle.machine.specs.Events.Fetch.{epoch_asks, fetch_asks, fetch_on, fetch_refused}
pub use Rattle.machine.specs.Events.Heal.{heal_asks, heal_at, heal_on, offer_asks, offer_of}
pub use Rattle.machine.specs.Events.Put.{commit_asks, put_asks, put_on, to_place}
pub use Rattle.machine.specs.Events.Renew.{renew_asks, renew_on}
pub use Rattle.machine.specs.Events.Step.{next_of, step_asks, step_on, work_of}
pub use Rattle.machine.specs.Events.SweepStep.{SweepParts, sweep_step_asks, sweep_step_on}
pub use Rattle.machine.specs.Events.Take.{rules_of, take_asks, take_on}
pub use Rattle.machine.specs.Events.Write.{open_asks, write_asks, write_on, write_refused}
pub use Rattle.machine.specs.Machine.{Step, asks, asks_at_client, asks_at_post, at_both, at_client, at_post, on_cells as of_cells, on_record as of_record, on_client as of_session, on_stores as of_stores, on_sweep as of_sweep, on_swept as of_swept, on_ask, on_table, step_by, stepped, with_client, with_post}
pub use Rattle.machine.specs.State.{Client, State, client_new, opening}
pub use Rattle.machine.specs.declared.event.Event.{Event}
pub use Rattle.port_io.specs.Planned.{PlannedFault, planned_fate}
pub use Rattle.port_io.specs.declared.weather.Fate.{Fate}
pub use Rattle.split_parts.specs.Acts.{Acts, asked_of, noted, step_of, stopped_of, timed_by}
pub use Rattle.split_parts.specs.Agrees.{Agrees, CallsFit, HasAsked, HasAskedAt, HasAskedIf, HasNode, HasSession, IsAsked, store_by}
pub use Rattle.split_parts.specs.Direct.{HasAll, HasPost, MakesOfCells, MakesOfJanitor, MakesOfNode, MakesOfRecord, MakesOfSession, MakesOfStores, MakesOfTable, StepsOfSession, item_noted, lent_effect, on_cells, on_janitor, on_kept, on_lent, on_marks, on_node, on_rows, on_session, on_stores, turned}
pub use Rattle.split_parts.specs.Lending.{LendsBelow, LendsSession, no_parts}
pub use Rattle.split_parts.specs.Lookups.{client_lent, post_by, session_at}
pub use Rattle.split_parts.specs.Making.{Ends, called_after}
unfoldable pub use Rattle.split_parts.specs.Parts.{given_sessions, lent_clients}
pub use Rattle.split_parts.specs.Parts.{CellRows, LeasesBySetup, Marks, Node, Parts, Record, Session, behind, called, cells_called, cells_fate, cells_of, client_or, fate_of, filled, given, given_client, given_from, given_master, given_node, given_pairs, given_rows, lent_master, lent_nodes, lent_pairs, lent_rows, master_called, master_fate, node_asked, node_of, or_else, seen, session_of, sessions_seen, setup_of, table_called, table_fate, table_of, with_lent}
pub use Rattle.split_parts.specs.declared.acting.Acted.{Acted}
pub use Rattle.stamp_base.specs.SetupNumbers.{SetupNumbers}
pub use Rattle.stamp_base.specs.Setups.{numbers_of}
pub use Rattle.stamp_base.specs.declared.stores.Store.{Store}
pub use Rattle.std.proofs.Common.{Bool, Err, List, None, Ok, Option, Result, Some, [], ap, arith, drop, false, inl, inr, length, max, nat_lt, refl, replicate, rules, slice_set, subst, suc, sym, true, zero, ℕ, ⊎_elim, ◌++◌, ◌+◌, ◌<◌, ◌↔◌, ◌∙◌, ◌∷◌, ◌≡◌, ◌≤◌, ◌⊎◌}
pub use Rattle.std.proofs.lemmas.List.{get_or-set_other, get_or-set_same, length-set}
pub use Rattle.std.specs.Prelude.{All, IfSome, IsErr, IsSome, IsSomeAnd, IsTrue, OnErr, if◌then◌else◌, option_map, slice_get, slice_index_or, ◌^◌}
pub use Rattle.system_parts.specs.Instance.{InstanceEntry, held_of}
pub use Rattle.system_parts.specs.Pairs.{Pairs}
pub use Rattle.system_parts.specs.Record.{Leasing, MasterRecord}
unfoldable pub use Rattle.system_parts.specs.Rows.{looked}
pub use Rattle.system_parts.specs.Rows.{HasOnly, IsBare, Row}
pub use Rattle.system_parts.specs.SessionSteps.{SessionEntry, begin_refusal, handed_commit, work_refusal}
pub use Rattle.system_parts.specs.Sweep.{Sweeping, sweep_ask}
pub use Rattle.system_parts.specs.declared.session.State.TheVariants.{Free, Open}
