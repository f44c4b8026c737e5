-- For run_board and grant_laws too.
-- At which node a share is aimed decides no more than whom a line asks: whether the line makes an
-- event, waits or is passed is the same by any clocks.
use Rattle.std.proofs.Common.{arith}
use Rattle.turn_rules.proofs.Names.{◌≡◌, Bool, Option, Some, None}
use Rattle.turn_rules.proofs.Names.{Actor, Event, Verb, Point}
use Rattle.turn_rules.proofs.Names.{View, Clocks}
use Rattle.turn_rules.proofs.Names.{NextAction, Makes, Waits, Passes}
use Rattle.turn_rules.proofs.Names.{own_next, is_passed}
use Rattle.turn_rules.specs.declared.ahead.Why.{Why}

-- ---- events that are next, or none
abbrev BothOrNone : Option Event → Option Event → Type 0
BothOrNone None None = Unit {0}
BothOrNone (Some e) (Some f) = Unit {0}
BothOrNone _ _ = ⊥

-- ---- what is ahead
abbrev pub Alike : NextAction → NextAction → Type 0
Alike (Makes e) (Makes f) = Unit {0}
Alike (Waits why) (Waits other) = why ≡ other
Alike Passes Passes = Unit {0}
Alike _ _ = ⊥

pub ahead_alike : (one two : Clocks) (posted : Bool) (actor : Actor) (v : Verb) (point : Point) (view : View) (unawaited : Bool) → Alike (own_next one posted actor v point view unawaited) (own_next two posted actor v point view unawaited)
ahead_alike one two posted actor v point view unawaited = grind arith

-- ---- one is passed, waits or makes an event where the other does
pub passed_alike : (one two : NextAction) → Alike one two → is_passed one ≡ is_passed two
passed_alike one two alike = grind arith

pub waits_alike : (one two : NextAction) (why : Why) → Alike one two → one ≡ Waits why → two ≡ Waits why
waits_alike one two why alike is = grind arith
