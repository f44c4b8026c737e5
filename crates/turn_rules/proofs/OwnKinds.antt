-- What an own event is that opens no line: a step of the session, its heal or its abort, or the janitor's.
use Rattle.std.proofs.Common.{arith}
use Rattle.turn_rules.proofs.Names.{◌≡◌, Bool, false, Option, Some, None, Actor}
use Rattle.turn_rules.proofs.Names.{Session, Janitor, Event, Verb, Point, Opens}
use Rattle.turn_rules.proofs.Names.{View}
use Rattle.turn_rules.proofs.Names.{has_opening, Clocks}
use Rattle.turn_rules.proofs.Names.{IsLater, NextAction, Makes}
use Rattle.turn_rules.proofs.Names.{own_next}
use Rattle.turn_rules.proofs.Names.{IsForThreads}
use Rattle.machine.specs.declared.event.Event.TheVariants as event

-- ---- the kinds
abbrev pub OwnKind : Actor → Event → Type 0
OwnKind (Session s) (event.Step session) = session ≡ s
OwnKind (Session s) (event.Heal session) = session ≡ s
OwnKind (Session s) (event.Abort session) = session ≡ s
OwnKind Janitor (event.SweepOpen node txn) = Unit {0}
OwnKind Janitor event.SweepStep = Unit {0}
OwnKind actor e = ⊥

abbrev IfKind : Actor → Option Event → Type 0
IfKind actor None = Unit {0}
IfKind actor (Some e) = OwnKind actor e

abbrev pub NextActionKind : Actor → NextAction → Type 0
NextActionKind actor (Makes e) = OwnKind actor e
NextActionKind actor _ = Unit {0}

-- ---- a session
-- ---- a node, the clock and the janitor
-- ---- a line that opens with no item, or has opened
pub later_kind : (clocks : Clocks) (posted : Bool) (actor : Actor) (line : Verb) (at : Point) (view : View) (unawaited : Bool) → IsLater at → NextActionKind actor (own_next clocks posted actor line at view unawaited)
later_kind clocks posted actor line at view unawaited later = grind arith

pub opens_kind : (clocks : Clocks) (posted : Bool) (actor : Actor) (line : Verb) (view : View) (unawaited : Bool) → IsForThreads line → has_opening actor line ≡ false → NextActionKind actor (own_next clocks posted actor line Opens view unawaited)
opens_kind clocks posted actor line view unawaited on none = grind arith
