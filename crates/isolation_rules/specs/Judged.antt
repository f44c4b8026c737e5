-- What a verdict says of a history.
use Rattle.std.specs.Prelude.{ℕ, ◌<◌, ◌-◌, List, Option, length, take, slice_get, MatchOption, IfSome}
use Rattle.history_book.specs.Isolation.{Isolated, RightRead, Stamped}
use Rattle.history_book.specs.declared.item.Item.{Item}
use Rattle.isolation_rules.specs.declared.verdict.Rule.{Rule}
use Rattle.isolation_rules.specs.declared.verdict.Rule.TheVariants as rule
use Rattle.isolation_rules.specs.declared.verdict.Verdict.{Verdict}
use Rattle.isolation_rules.specs.declared.verdict.Verdict.TheVariants as verdict
use Rattle.isolation_rules.specs.StampedPairs.{BreaksStamped}
use Rattle.isolation_rules.specs.ApartPairs.{BreaksApart}
use Rattle.isolation_rules.specs.FreshPairs.{BreaksFresh}
use Rattle.isolation_rules.specs.ReadPairs.{BreaksRead}

-- the items at the places i and j, counted from 0, break the rule
abbrev pub Breaks : Rule → List Item → ℕ → ℕ → Type 0
Breaks rule.Stamped h i j = BreaksStamped h i j
Breaks rule.Apart h i j = BreaksApart h i j
Breaks rule.Read h i j = BreaksRead h i j
Breaks rule.Fresh h i j = BreaksFresh h i j

-- the order in which the rules are tried
abbrev pub turn : Rule → ℕ
turn rule.Stamped = 0
turn rule.Apart = 1
turn rule.Read = 2
turn rule.Fresh = 3

-- no pair breaks the rule
abbrev pub IsKept : Rule → List Item → Type 0
IsKept rule h = (i j : ℕ) → Breaks rule h i j → ⊥

-- of the pairs that break the rule, the one of the least first place and then of the least second
pub record IsLeastPair (rule : Rule) (h : List Item) (i j : ℕ) : Type 0 where
  pub broken : Breaks rule h i j
  pub first : (p q : ℕ) → p < i → Breaks rule h p q → ⊥
  pub second : (q : ℕ) → q < j → Breaks rule h i q → ⊥

-- the items of these numbers, counted from 1, are the least pair that breaks the rule, and no pair
-- breaks a rule that is tried before
pub record IsFirstBroken (h : List Item) (rule : Rule) (first second : ℕ) : Type 0 where
  pub counted : (0 < first) × (0 < second)
  pub pair : IsLeastPair rule h (first - 1) (second - 1)
  pub earlier : (other : Rule) → turn other < turn rule → IsKept other h

-- the verdict is right
abbrev pub IsJudged : List Item → Verdict → Type 0
IsJudged h verdict.Isolated = Isolated h
IsJudged h (verdict.Broken rule first second) = IsFirstBroken h rule first second

-- what a walk has to know of the place i: no pair that begins there breaks the rule, and a read is right
abbrev pub Passes : Rule → List Item → ℕ → Type 0
Passes rule.Stamped h i = (j : ℕ) → BreaksStamped h i j → ⊥
Passes rule.Apart h i = (j : ℕ) → BreaksApart h i j → ⊥
Passes rule.Read h i = IfSome (slice_get h i) (λ x. RightRead h (take i h) x)
Passes rule.Fresh h i = (j : ℕ) → BreaksFresh h i j → ⊥

-- the least place that breaks the rule together with the place i
abbrev pub IsSecond : Rule → List Item → ℕ → Option ℕ → Type 0
IsSecond rule h i second = MatchOption second (Passes rule h i) (λ j. Breaks rule h i j × ((q : ℕ) → q < j → Breaks rule h i q → ⊥))

-- Commits and reads are judged where the stamps are in order, so that a transaction has one commit, and one
-- version is the newest.
abbrev pub Premise : Rule → List Item → Type 0
Premise rule.Apart h = Stamped h
Premise rule.Read h = Stamped h
Premise _ h = Unit {0}

-- no pair breaks a rule that is tried before
abbrev pub IsEarlierKept : Rule → List Item → Type 0
IsEarlierKept rule h = (other : Rule) → turn other < turn rule → IsKept other h

-- each read has the right answer
abbrev pub AllRight : List Item → Type 0
AllRight h = (i : ℕ) → i < length h → IfSome (slice_get h i) (λ x. RightRead h (take i h) x)
