-- The rule of a beacon: one publisher, and any number of passes.
use Rattle.std.specs.Prelude.{◌≡◌, ℕ, true, List, [], ◌∷◌, All, Option, None, Some}
use mathlib.Core.Option.{some}
use lib.ListN.{get_elem?}
use Rattle.stamp_base.specs.Ranges.{IsTerm, IsNode}
use Rattle.master_beacon.specs.declared.rule.Announced.{Announced}
use Rattle.master_beacon.specs.declared.rule.BeaconView.{BeaconView}
use Rattle.master_beacon.specs.Announcements.{last_of, IsRising, IsFrontOf}

-- the pair is a term and a node that there are
abbrev pub IsPair : Announced → Type 0
IsPair pair = IsTerm pair.term × IsNode pair.node

abbrev pub IsPairOrNone : Option Announced → Type 0
IsPairOrNone None = Unit {0}
IsPairOrNone (Some pair) = IsPair pair

-- the words of the cell that stand for the last pair
abbrev pub words_of : Option Announced → List ℕ
words_of None = 0 ∷ 0 ∷ []
words_of (Some pair) = pair.term ∷ pair.node ∷ []

-- the publisher's pass has the whole list, and what any pass has seen is a front of it
pub record Fits (list : List Announced) (publisher pass : ℕ) (view : BeaconView) : Type 0 where
  pub whole : view.publishes ≡ true → (pass ≡ publisher) × (view.seen ≡ list)
  pub seen : IsFrontOf view.seen list
  pub beside : IsFrontOf view.beside list

-- There is one list of pairs that were published. Its terms rise, the words are its last pair, and each pass fits it.
pub record IsPublished (words : List ℕ) (views : List BeaconView) : Type 0 where
  pub list : List Announced
  pub publisher : ℕ
  pub last : words ≡ words_of (last_of list)
  pub rising : IsRising list
  pub pairs : All IsPair list
  pub each : (pass : ℕ) (view : BeaconView) → get_elem? views pass ≡ some view → Fits list publisher pass view
