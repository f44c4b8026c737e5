-- With strict reads there is one copy.
use Rattle.std.specs.Prelude.{◌≡◌, true, List}
use Rattle.stamp_base.specs.SetupNumbers.{SetupNumbers, AreInRange}
use Rattle.history_book.specs.declared.item.Item.{Item}
use Rattle.machine.specs.State.{State}
use Rattle.machine.specs.Machine.{Move, Steady, history_after}
use Rattle.isolation_laws.specs.Sound.{ReachedInvariant}
use Rattle.service_rules.specs.OneCopy.{OneCopy}

-- in every state that is reached, where the setup asks for strict reads
abbrev pub OneCopyNow : Type 0
OneCopyNow = (w : State) (h : List Item) → ReachedInvariant w h → w.setup.strict ≡ true → OneCopy h

-- so in every history of the machine
abbrev pub OneCopyAlways : Type 0
OneCopyAlways = (setup : SetupNumbers) (moves : List Move) → AreInRange setup → Steady setup moves → setup.strict ≡ true → OneCopy (history_after setup moves)
