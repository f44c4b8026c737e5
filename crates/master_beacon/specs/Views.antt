-- What passes know of the published list, as they are made, split and joined.
use Rattle.std.specs.Prelude.{Bool, true, false, List, []}
use Rattle.master_beacon.specs.declared.rule.Announced.{Announced}
use Rattle.master_beacon.specs.declared.rule.BeaconView.{BeaconView}

abbrev pub view_of : Bool → List Announced → List Announced → BeaconView
view_of publishes seen beside = record { publishes = publishes; seen = seen; beside = beside }

-- of the publisher's pass, which has seen all that it published
abbrev pub publishing : List Announced → BeaconView
publishing list = view_of true list []

-- of a pass that has seen this front
abbrev pub seeing : List Announced → BeaconView
seeing front = view_of false front []

-- of the pass that comes with the beacon
abbrev pub first_view : BeaconView
first_view = publishing []

-- what the other pass has seen stands beside what this one has
abbrev pub with_beside : BeaconView → BeaconView → BeaconView
with_beside mine theirs = view_of mine.publishes mine.seen theirs.seen
