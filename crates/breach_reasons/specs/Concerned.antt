-- Whom a finding concerns: the transactions of its two items, and with a read the one that its answer came from.
use Rattle.std.specs.Prelude.{ℕ, ◌+◌, ◌-◌, List, [], ◌∷◌, ◌++◌, Option, None, Some, take, slice_get}
use Rattle.history_book.specs.declared.item.Found.{Found}
use Rattle.history_book.specs.declared.item.Item.{Item}
use Rattle.history_book.specs.declared.item.Item.TheVariants.{Begin, Placed, Read, Write}
use Rattle.isolation_rules.specs.declared.verdict.Rule.{Rule}
use Rattle.isolation_rules.specs.declared.verdict.Rule.TheVariants as rule
use Rattle.history_signs.specs.declared.chosen.Chosen.{Chosen}
use Rattle.history_signs.specs.Chosen.{chosen_about}
use Rattle.refusal_reasons.specs.declared.clue.Clue.TheVariants as clue
use Rattle.refusal_reasons.specs.Sought.{seek}
use Rattle.breach_reasons.specs.declared.finding.Finding.{Finding}
use Rattle.breach_reasons.specs.declared.finding.Finding.TheVariants as finding

abbrev pub given_by : ℕ → Option Found → List ℕ
given_by start None = start ∷ []
given_by start (Some found) = start ∷ found.from ∷ []

abbrev pub starts_of : Option Item → List ℕ
starts_of (Some (Begin session start)) = start ∷ []
starts_of (Some (Write session start key value)) = start ∷ []
starts_of (Some (Read session start key answer)) = given_by start answer
starts_of (Some (Placed start commit)) = start ∷ []
starts_of _ = []

-- the starts of the transactions concerned, of items counted from 1
abbrev pub starts_at : List Item → ℕ → ℕ → List ℕ
starts_at h first second = starts_of (slice_get h (first - 1)) ++ starts_of (slice_get h (second - 1))

abbrev pub concerned : List Item → Finding → List ℕ
concerned h finding.Sound = []
concerned h (finding.Broken which first second) = starts_at h first second
concerned h (finding.Crossed read placed) = starts_at h read placed

-- the two items
abbrev pub ringed : Finding → List ℕ
ringed finding.Sound = []
ringed (finding.Broken which first second) = first ∷ second ∷ []
ringed (finding.Crossed read placed) = read ∷ placed ∷ []

-- with a start that is not above a commit, the ask of the begin too
abbrev pub ask_number : Option ℕ → List ℕ
ask_number None = []
ask_number (Some place) = (place + 1) ∷ []

abbrev pub ask_of : List Item → ℕ → Option Item → List ℕ
ask_of h j (Some (Begin session start)) = ask_number (seek (take j h) 0 (clue.AskedStart session))
ask_of h j _ = []

abbrev pub asked : List Item → Finding → List ℕ
asked h (finding.Broken rule.Fresh first second) = ask_of h (second - 1) (slice_get h (second - 1))
asked h _ = []

-- what a picture of the finding holds: all items of these transactions, and these
abbrev pub breach_items : List Item → Finding → List Chosen
breach_items h found = chosen_about (concerned h found) (ringed found ++ asked h found) h
