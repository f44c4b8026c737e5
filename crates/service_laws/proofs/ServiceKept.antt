-- For cluster_core too, which may carry it with what it knows of each state.
-- All that users rely on: at first, after every event, and in every history.
use Rattle.std.proofs.Common.{arith}
use Rattle.service_laws.specs.Service.{ServiceAtFirst, EventsKeepService, ServiceNow, ServiceAlways}
use Rattle.service_laws.proofs.OneCopyLaw.{one_copy_now, one_copy_always}
use Rattle.service_laws.proofs.StampsKept.{stamps_at_first, events_keep_stamps, stamps_are_fresh, snapshots_rise}
use Rattle.service_laws.proofs.OwnKept.{own_at_first, events_keep_own, own_always}
use Rattle.service_laws.proofs.ToldKept.{told_at_first, events_keep_told, told_stays_true, one_outcome, told_is_true, one_outcome_is_told}

pub service_at_first : ServiceAtFirst
service_at_first setup = record { told = told_at_first setup; stamps = stamps_at_first setup; own = own_at_first setup }

pub events_keep_service : EventsKeepService
events_keep_service w h e fate tells steady service = search (events_keep_told, events_keep_stamps, events_keep_own)

pub service_now : ServiceNow
service_now w h tells service = search (told_stays_true, one_outcome, one_copy_now)

pub service_is_kept : ServiceAlways
service_is_kept setup moves in_range steady =
    grind (arith, told_is_true, one_outcome_is_told, stamps_are_fresh, snapshots_rise, own_always, one_copy_always)
