-- Reading goes in steps: each makes more of what was recorded so far, or wants something.
use Rattle.std.specs.Prelude.{◌≡◌, ℕ, ◌+◌, List, [], ◌∷◌, Result, Ok, Err, Option, None, Some}
use Rattle.serde_json.specs.Data.{Data, Items, no_items, item}
use Rattle.serde_json.specs.View.{view}
use Rattle.serde_json.specs.declared.value.Value.{Value}
use Rattle.trace_reading.specs.declared.want.Want.{Want}
use Rattle.trace_reading.specs.declared.want.Want.TheVariants as want
use Rattle.trace_reading.specs.declared.want.Stop.{Stop}
use Rattle.trace_reading.specs.declared.want.Stop.TheVariants as stops
use Rattle.trace_reading.specs.Recording.{Recorded}

infixl 10 ◌>>=◌
abbrev pub ◌>>=◌ : {A B W : Type 0} → Result A W → (A → Result B W) → Result B W
(Ok a) >>= f = f a
(Err w) >>= f = Err w

-- a step for each of these, which stand behind so many others
abbrev pub each_from : {A W : Type 0} → (Recorded → ℕ → A → Result Recorded W) → Recorded → ℕ → List A → Result Recorded W
each_from step r before [] = Ok r
each_from step r before (x ∷ xs) = step r before x >>= λ after. each_from step after (before + 1) xs

-- the values of an array
abbrev pub in_order : Items → List Data
in_order no_items = []
in_order (item d ds) = d ∷ in_order ds

-- what is there, or what is wanted in its place
abbrev pub given : {A : Type 0} → Want → Option A → Result A Want
given w None = Err w
given w (Some a) = Ok a

-- nothing more is recorded, and this was found
abbrev pub Finds : {A : Type 0} → Result A Want → Result A Stop → Type 0
Finds step (Ok a) = step ≡ Ok a
Finds step (Err (stops.Wants w)) = step ≡ Err w
Finds step (Err stops.NoMemory) = Unit {0}

-- this value of JSON was read, or there is none
abbrev pub FindsValue : Option Data → Result Value Stop → Type 0
FindsValue d (Ok v) = d ≡ Some (view v)
FindsValue d (Err (stops.Wants w)) = (d ≡ None) × (w ≡ want.Json)
FindsValue d (Err stops.NoMemory) = Unit {0}

-- the step gave this answer and left this recorded; of a step that memory was refused for nothing is said
abbrev pub Takes : {A : Type 0} → Result (A × Recorded) Want → Recorded → Result A Stop → Type 0
Takes step new (Ok a) = step ≡ Ok (a, new)
Takes step new (Err (stops.Wants w)) = step ≡ Err w
Takes step new (Err stops.NoMemory) = Unit {0}

-- the same of a step that gives no answer
abbrev pub Leaves : {A : Type 0} → Result Recorded Want → Recorded → Result A Stop → Type 0
Leaves step new (Ok _) = step ≡ Ok new
Leaves step new (Err (stops.Wants w)) = step ≡ Err w
Leaves step new (Err stops.NoMemory) = Unit {0}
