-- What the members of an item say, as data.
use Rattle.std.specs.Prelude.{◌^◌, Bool, true, false, ◌&&◌, nat_lt, List, [], ◌∷◌}
use Rattle.serde_json.specs.Data.{Data, null, boolean, number, string, array, object, Num, unsigned, negative, float, Members, no_members, member}
use Rattle.history_text.specs.CauseText.{cause_text}
use Rattle.history_text.specs.StepText.{step_text}
use Rattle.history_text.specs.Words.{key_text}
use Rattle.history_json.specs.declared.members.Said.{Said}
use Rattle.history_json.specs.declared.members.Said.TheVariants.{Number, Text, Key, Step, Cause}
use Rattle.history_json.specs.declared.members.Member.{Member}

-- what a member that says this is
abbrev pub said_data : Said → Data
said_data (Number n) = number (unsigned n)
said_data (Text words) = string words.now
said_data (Key key) = string (key_text key)
said_data (Step what) = string (step_text what.now)
said_data (Cause cause) = string (cause_text cause.now)

-- the members, in order
abbrev pub expected_members : List Member → Members
expected_members [] = no_members
expected_members (m ∷ ms) = member m.name.now (said_data m.said) (expected_members ms)

-- whether a number is a whole one of 64 bits
abbrev pub is_small : Num → Bool
is_small (unsigned n) = nat_lt n (2 ^ 64)
is_small (negative z) = false
is_small (float x) = false

-- whether a value is a text or such a number
abbrev pub is_leaf : Data → Bool
is_leaf null = false
is_leaf (boolean b) = false
is_leaf (number n) = is_small n
is_leaf (string s) = true
is_leaf (array ds) = false
is_leaf (object ms) = false

abbrev pub are_leaves : Members → Bool
are_leaves no_members = true
are_leaves (member k d ms) = is_leaf d && are_leaves ms
