-- What the strict form promises besides.
use Rattle.std.specs.Prelude.{◌≡◌, true, List}
use Rattle.stamp_base.specs.SetupNumbers.{SetupNumbers}
use Rattle.history_book.specs.Serial.{Serial}
use Rattle.history_book.specs.declared.item.Item.{Item}

-- where the setup asks for strict reads, the history is serial
abbrev pub SerialIfStrict : SetupNumbers → List Item → Type 0
SerialIfStrict setup h = setup.strict ≡ true → Serial h
