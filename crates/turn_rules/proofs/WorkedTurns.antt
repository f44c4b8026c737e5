-- The worked turns, computed.
use Rattle.turn_rules.proofs.Names.{◌≡◌, refl, map, Node, Session, put_row, least_unsettled, crashed_clients}
use Rattle.turn_rules.proofs.Names.{all_crashed_items, holder_from, Waits, Reply, Name, seats_of, passed, own_ahead}
use Rattle.turn_rules.proofs.Names.{carried, carried_items}
use Rattle.port_io.specs.Planned.{planned_fate}
use Rattle.system_parts.specs.Buckets.{record_pairs, kept_commit, verdict}
use Rattle.turn_rules.specs.WorkedTurns as worked

pub begin_waits : own_ahead worked.script (carried worked.script worked.asked_turns) (Session 0) 0 ≡ Waits Reply
unfolding seats_of passed holder_from planned_fate
begin_waits = refl

pub name_is_awaited : own_ahead worked.script (carried worked.script worked.asked_turns) (Node 0) 0 ≡ Waits Name
unfolding seats_of passed holder_from planned_fate
name_is_awaited = refl

pub whole_items : carried_items worked.script worked.whole_turns ≡ worked.items
unfolding seats_of passed holder_from planned_fate record_pairs least_unsettled put_row crashed_clients all_crashed_items verdict kept_commit
whole_items = refl

pub whole_places : map (λ seat. seat.place) (carried worked.script worked.whole_turns).seats ≡ worked.places
unfolding seats_of passed holder_from planned_fate record_pairs least_unsettled put_row crashed_clients all_crashed_items verdict kept_commit
whole_places = refl
