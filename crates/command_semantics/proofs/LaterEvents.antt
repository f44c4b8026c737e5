-- For turn_rules too.
-- Once a line has opened, its events open no line; nor does the first event of a line without an opening item.
use Rattle.std.proofs.Common.{arith}
use Rattle.command_semantics.proofs.Names.{◌≡◌, false, Option, Some, None, subst, Actor}
use Rattle.command_semantics.proofs.Names.{Event, Verb, Point, Opens}
use Rattle.command_semantics.proofs.Names.{View, Clocks}
use Rattle.command_semantics.proofs.Names.{next}
use Rattle.command_semantics.proofs.Names.{has_opening}
use Rattle.command_semantics.proofs.PlainEvents.{OpensNone}

abbrev pub IfOpensNone : Option Event → Type 0
IfOpensNone None = Unit {0}
IfOpensNone (Some e) = OpensNone e

-- ---- what goes on
-- ---- first events of lines without an opening item
pub first_opens_none : (clocks : Clocks) (actor : Actor) (line : Verb) (view : View) (e : Event) → has_opening actor line ≡ false → next clocks actor line Opens view ≡ Some e → OpensNone e
first_opens_none clocks actor line view e none is = grind arith

-- ---- events after the first
abbrev pub IsLater : Point → Type 0
IsLater Opens = ⊥
IsLater _ = Unit {0}

next_later : (clocks : Clocks) (actor : Actor) (line : Verb) (at : Point) (view : View) → IsLater at → IfOpensNone (next clocks actor line at view)
next_later clocks actor line at view later = grind arith

pub later_opens_none : (clocks : Clocks) (actor : Actor) (line : Verb) (at : Point) (view : View) (e : Event) → IsLater at → next clocks actor line at view ≡ Some e → OpensNone e
later_opens_none clocks actor line at view e later is = subst (λ (found : Option Event). IfOpensNone found) is (next_later clocks actor line at view later)
