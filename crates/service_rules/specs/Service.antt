-- All that users rely on beside isolation, of one history.
use Rattle.std.specs.Prelude.{◌≡◌, true, List}
use Rattle.stamp_base.specs.SetupNumbers.{SetupNumbers}
use Rattle.history_book.specs.declared.item.Item.{Item}
use Rattle.service_rules.specs.Told.{ToldIsTrue, OneOutcome}
use Rattle.service_rules.specs.Stamps.{FreshStamps, SnapshotsRise, OwnCommitsAreRead}
use Rattle.service_rules.specs.OneCopy.{OneCopy}
use Rattle.service_rules.specs.OwnWrites.{OwnWritesStand}

-- told outcomes are true, stamps keep to real time, own writes stand, and where the setup asks for strict reads there is one copy
pub record KeepsService (setup : SetupNumbers) (h : List Item) : Type 0 where
  pub told : ToldIsTrue h
  pub one : OneOutcome h
  pub fresh : FreshStamps h
  pub rise : SnapshotsRise h
  pub own : OwnCommitsAreRead h
  pub writes : OwnWritesStand h
  pub copy : setup.strict ≡ true → OneCopy h
