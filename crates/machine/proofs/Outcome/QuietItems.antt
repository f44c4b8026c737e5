-- For isolation_laws and cause_laws too.
-- Short lists of quiet items.
use Rattle.machine.proofs.Names.{Bool, true, false, if◌then◌else◌, [], ◌∷◌, refl, All-nil, All-cons, Cause, Actor, Item}
use Rattle.machine.proofs.Names.{Quiet, AllQuiet}
use Rattle.history_book.specs.declared.item.Item.TheVariants as item

pub none_quiet : AllQuiet []
none_quiet = All-nil Quiet

pub one_quiet : (x : Item) → Quiet x → AllQuiet (x ∷ [])
one_quiet x quiet = All-cons Quiet x [] quiet none_quiet

pub two_quiet : (x y : Item) → Quiet x → Quiet y → AllQuiet (x ∷ y ∷ [])
two_quiet x y one two = All-cons Quiet x (y ∷ []) one (one_quiet y two)

pub refusal_quiet : (actor : Actor) (why : Cause) → AllQuiet (item.Refused actor why ∷ [])
refusal_quiet actor why = one_quiet (item.Refused actor why) refl

pub told_quiet : (told : Bool) (x : Item) → Quiet x → AllQuiet (if told then [] else x ∷ [])
told_quiet true x quiet = none_quiet
told_quiet false x quiet = one_quiet x quiet
