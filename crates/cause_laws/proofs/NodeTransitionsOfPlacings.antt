-- What is told last of a commit, and the placing of a session as a node transition to the nodes, which it leaves alone.
use Rattle.cause_laws.proofs.Names.{[], ℕ, List, ◌∷◌, ◌++◌, inr, refl, Table, Session, PutFound, Item, Settled, State}
use Rattle.cause_laws.proofs.Names.{AllSilent, none_silent, one_silent, two_silent, answered_item}
use Rattle.history_book.specs.declared.item.Item.TheVariants as item
use Rattle.system_parts.specs.declared.instance.Settled.TheVariants as how
use Rattle.machine.specs.Outcome.OutcomesOfPlacings.{AtPlacing, own_told}
use Rattle.cause_laws.proofs.NodeTransitions.{EndsFor, OfLearned, NodeTransitionOf}

pub answered_ends : (by : Settled) (session start commit : ℕ) → EndsFor session (answered_item by session start commit)
answered_ends how.Placed session start commit = refl
answered_ends how.Invalid session start commit = (refl, refl)
answered_ends how.Faulted session start commit = (refl, refl)

-- ---- a session has placed its commit, or was to
placing_learned : (w : State) (it : AtPlacing w) (steps : List Item) (last : Item) → AllSilent steps → EndsFor it.session last → NodeTransitionOf w w.nodes (steps ++ last ∷ [])
placing_learned w it steps last silent ends = record {
  deed = OfLearned (record { session = it.session; c = it.c; at = it.client_at; alone = inr it.placing; steps = steps; silent = silent; last = last; ends = ends });
  leaves = refl;
  tells = refl;
}

pub own_told_deed : (w : State) (it : AtPlacing w) (by : Settled) → NodeTransitionOf w w.nodes (own_told by it.session it.start it.commit)
own_told_deed w it how.Placed = placing_learned w it [] _ none_silent (answered_ends how.Placed it.session it.start it.commit)
own_told_deed w it how.Invalid = placing_learned w it (item.Step (Session it.session) (PutFound it.start) ∷ []) _ (one_silent _ refl) (answered_ends how.Invalid it.session it.start it.commit)
own_told_deed w it how.Faulted = placing_learned w it (item.Fault (Session it.session) Table ∷ []) _ (one_silent _ refl) (answered_ends how.Faulted it.session it.start it.commit)

pub own_placed_deed : (w : State) (it : AtPlacing w) (by : Settled) → NodeTransitionOf w w.nodes (item.Placed it.start it.commit ∷ own_told by it.session it.start it.commit)
own_placed_deed w it how.Placed = placing_learned w it (item.Placed it.start it.commit ∷ []) _ (one_silent _ refl) (answered_ends how.Placed it.session it.start it.commit)
own_placed_deed w it how.Invalid = placing_learned w it (item.Placed it.start it.commit ∷ item.Step (Session it.session) (PutFound it.start) ∷ []) _ (two_silent _ _ refl refl) (answered_ends how.Invalid it.session it.start it.commit)
own_placed_deed w it how.Faulted = placing_learned w it (item.Placed it.start it.commit ∷ item.Fault (Session it.session) Table ∷ []) _ (two_silent _ _ refl refl) (answered_ends how.Faulted it.session it.start it.commit)
