-- Short histories of what is told of a node's instance, and of a lease that may still stand.
use Rattle.std.specs.Prelude.{ℕ, List, [], ◌∷◌}
use Rattle.stamp_base.specs.declared.stores.Store.TheVariants.{Master}
use Rattle.history_book.specs.declared.cause.Cause.TheVariants as cause
use Rattle.history_book.specs.declared.item.Actor.TheVariants.{Node, Session}
use Rattle.history_book.specs.declared.item.Item.{Item}
use Rattle.history_book.specs.declared.item.Item.TheVariants.{Tick, Take, Renew, Crash, Fault}
use Rattle.cause_rules.specs.WorkedHistories.{told}

-- the node 0 takes the term 1, and then comes more
abbrev pub taken_then : List Item → List Item
taken_then later = Take 0 0 1 0 10 100 ∷ later

-- it crashes and takes the term 2
abbrev pub taken_again : List Item
taken_again = Crash 0 1 ∷ Take 0 12 2 100 22 200 ∷ []

-- a call of it fails, but not at once
abbrev pub later_fault : List Item
later_fault = Tick 1 ∷ Fault (Node 0) Master ∷ []

-- after these items a session is told that the node 0 has no instance
abbrev pub no_oracle_told : List Item → List Item
no_oracle_told before = told before (Session 0) (cause.NoOracle 0)

-- the node 0 takes and then comes more; a node is told that it holds a term
abbrev pub holding_told : List Item → ℕ → ℕ → List Item
holding_told later node term = told (taken_then later) (Node node) (cause.Holding term)

-- the node 0 takes until 10 and renews until 15; the node 1 is told of a reading and of an end
abbrev pub before_early : List Item
before_early = taken_then (Renew 0 5 1 15 ∷ [])

abbrev pub early_told : ℕ → ℕ → List Item
early_told reading until = told before_early (Node 1) (cause.Early reading until)
