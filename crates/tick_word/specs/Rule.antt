-- What handles have drawn of a tick word.
use Rattle.std.specs.Prelude.{◌≡◌, ℕ, zero, suc, ◌+◌, ◌-◌, ◌*◌, ◌≤◌, List, [], ◌∷◌, ◌++◌, length, All, sum_by}
use mathlib.Core.Option.{some}
use lib.ListN.{get_elem?}
use Rattle.atomic_table.specs.Table.{State, Me}
use Rattle.tick_word.specs.declared.word.TheConstants.{SEAT_LIMIT, PART_LIMIT}
use Rattle.tick_word.specs.declared.rule.TickView.{TickView}

-- so many ticks can be drawn through one handle
abbrev pub seat_limit : ℕ
seat_limit = SEAT_LIMIT

-- so many numbers from the first on
unfoldable pub ticks_from : ℕ → ℕ → List ℕ
ticks_from first zero = []
ticks_from first (suc n) = first ∷ ticks_from (first + 1) n

-- the ticks from 1 to n
abbrev pub ticks_to : ℕ → List ℕ
ticks_to n = ticks_from 1 n

abbrev pub view_with : ℕ → List ℕ → TickView
view_with parts drawn = record { parts = parts; drawn = drawn }

abbrev pub first_view : ℕ → TickView
first_view seats = view_with seats []

abbrev pub one_part : TickView
one_part = view_with 1 []

abbrev pub parted : TickView → TickView
parted v = view_with (v.parts - 1) v.drawn

abbrev pub spent : TickView
spent = view_with 0 []

abbrev pub joined : TickView → TickView → TickView
joined mine theirs = view_with (mine.parts + theirs.parts) (mine.drawn ++ theirs.drawn)

abbrev pub with_tick : TickView → ℕ → TickView
with_tick v tick = view_with v.parts (v.drawn ++ tick ∷ [])

-- ---- the rule
abbrev pub AllUpTo : ℕ → List ℕ → Type 0
AllUpTo most xs = All (λ x. x ≤ most) xs

-- a handle has drawn at most the limit for each of its parts, and nothing above the word
pub record Fits (word seat : ℕ) (v : TickView) : Type 0 where
  pub few : length v.drawn ≤ v.parts * seat_limit
  pub below : AllUpTo word v.drawn

-- the handles have drawn the ticks from 1 to the word, however ticks are weighed
pub record AreDrawn (seats : ℕ) (s : State ℕ TickView) : Type 0 where
  pub last : ℕ
  pub word : s.words ≡ last ∷ []
  pub few : seats ≤ PART_LIMIT
  pub parts : sum_by (λ v. v.parts) s.views ≡ seats
  pub weights : (weight : ℕ → ℕ) → sum_by (λ v. sum_by weight v.drawn) s.views ≡ sum_by weight (ticks_to last)
  pub each : (seat : ℕ) (v : TickView) → get_elem? s.views seat ≡ some v → Fits last seat v

-- ---- the steps
-- the tick drawn is one above the word that was found, and so above all that the handle has drawn
pub record DrawsOne (v : TickView) (found : ℕ) (w : TickView) : Type 0 where
  pub drawn : w ≡ with_tick v (found + 1)
  pub above : AllUpTo found v.drawn
  pub far : found ≤ 72057594037927936

abbrev pub Draws : Me ℕ TickView → ℕ → Me ℕ TickView → Type 0
Draws old found new = DrawsOne old.0 found new.0 × (new.1 ≡ old.1)
