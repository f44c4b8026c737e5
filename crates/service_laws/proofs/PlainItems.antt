-- Which items tell no commit, and no refusal that ends one for good: most outcomes tell nothing else.
use Rattle.std.proofs.Common.{arith}
use Rattle.service_laws.proofs.Names.{◌≡◌, ℕ, Bool, true, false, List, [], ◌∷◌, Option}
use Rattle.service_laws.proofs.Names.{inl, inr, sym, subst, All, All-nil, All-cons, All-head}
use Rattle.service_laws.proofs.Names.{All-tail, All-append, All-weaker, ◌∈◌, Session, Item}
use Rattle.service_laws.proofs.Names.{Held, Request, Client, State}
use Rattle.service_laws.proofs.Names.{crashed_items, all_crashed_items, draw_item, Silent}
use Rattle.service_laws.proofs.Names.{AllSilent, Outcome}
use Rattle.service_laws.proofs.Names.{OfEnded, OfAnsweredCommit}
use Rattle.service_laws.proofs.Names.{OfOwnPlaced, OfOwnNotPlaced, OfOutcome, told_by_outcome, not_true}
use Rattle.service_laws.proofs.Names.{fault_if_silent, silent_items, ends_for_good}
use Rattle.history_book.specs.declared.item.Item.TheVariants as item

-- the item tells a commit, or refuses one for good
abbrev pub tells_outcome : Item → Bool
tells_outcome (item.Committed session start commit) = true
tells_outcome (item.Refused (Session session) why) = ends_for_good why
tells_outcome _ = false

abbrev pub TellsNone : Item → Type 0
TellsNone x = tells_outcome x ≡ false

abbrev pub AllTellNone : List Item → Type 0
AllTellNone items = All TellsNone items

pub one_tells_none : (x : Item) → TellsNone x → AllTellNone (x ∷ [])
one_tells_none x none = All-cons TellsNone x [] none (All-nil TellsNone)

pub these_tell_none : (items these : List Item) → items ≡ these → AllTellNone these → AllTellNone items
these_tell_none items these is none = subst AllTellNone (sym is) none

pub none_in : (x : Item) (items : List Item) → AllTellNone items → x ∈ items → TellsNone x
unfolding ◌∈◌
none_in x [] none m = absurd m
none_in x (y ∷ ys) none m = elim m [
  | inl same ↦ subst (λ (z : Item). TellsNone z) (sym same) (All-head TellsNone y ys none)
  | inr deeper ↦ none_in x ys (All-tail TellsNone y ys none) deeper
]

-- ---- silent items
pub silent_tells_none : (x : Item) → Silent x → TellsNone x
silent_tells_none x silent = grind (arith, not_true)

pub all_silent_none : (items : List Item) → AllSilent items → AllTellNone items
all_silent_none items silent = All-weaker Silent TellsNone (λ x is. silent_tells_none x is) items silent

-- ---- what a crash tells
lost_none : (node term : ℕ) (held : Option Held) (c : Client) → AllTellNone (crashed_items node term held c)
lost_none node term held c = grind (arith, one_tells_none)

crash_none : (node term : ℕ) (requests : List (Option Held)) (cs : List Client) → AllTellNone (all_crashed_items node term requests cs)
unfolding all_crashed_items
crash_none node term [] cs = All-nil TellsNone
crash_none node term (held ∷ others) [] = All-nil TellsNone
crash_none node term (held ∷ others) (c ∷ cs) = All-append TellsNone (crashed_items node term held c) (all_crashed_items node term others cs) (lost_none node term held c) (crash_none node term others cs)

draw_none : (node term stamp : ℕ) (request : Request) → TellsNone (draw_item node term request stamp)
draw_none node term stamp request = grind arith

-- ---- every outcome
abbrev pub may_tell : {w : State} → Outcome w → Bool
may_tell (OfEnded k) = true
may_tell (OfAnsweredCommit k) = true
may_tell (OfOwnPlaced k) = true
may_tell (OfOwnNotPlaced k) = true
may_tell (OfOutcome k) = true
may_tell _ = false

pub others_tell_none : (w : State) (o : Outcome w) → may_tell o ≡ false → AllTellNone (told_by_outcome w o)
others_tell_none w o is =
    grind (arith, these_tell_none, all_silent_none, fault_if_silent, crash_none, one_tells_none, draw_none, silent_items)
