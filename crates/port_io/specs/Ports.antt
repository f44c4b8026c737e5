-- What a source has left and what a sink holds, where they tell it.
use Rattle.std.specs.Prelude.{◌≡◌, ℕ, ◌-◌, List, [], ◌++◌, Option, None, Some, IfSome, IsSomeAnd, MatchOption, length, drop}
pub use Rattle.port_io.specs.Faults.{Risen}

-- the bytes were the first that the source had left, and the rest is left now;
-- a source that told what is left still tells it
abbrev pub Gives : Option (List ℕ) → Option (List ℕ) → List ℕ → Type 0
Gives old new bytes = MatchOption new (old ≡ None) (λ rest. old ≡ Some (bytes ++ rest))

-- nothing is left
abbrev pub IsAtEnd : Option (List ℕ) → Type 0
IsAtEnd left = IfSome left (λ rest. rest ≡ [])

-- what is left is the end of what was left
abbrev pub LosesFront : Option (List ℕ) → Option (List ℕ) → Type 0
LosesFront old new =
    MatchOption new (old ≡ None) (λ rest. IsSomeAnd old (λ left. rest ≡ drop (length left - length rest) left))

-- the sink holds the bytes behind what it held; a sink that told what it holds still tells it
abbrev pub Gains : Option (List ℕ) → Option (List ℕ) → List ℕ → Type 0
Gains old new bytes = MatchOption old (new ≡ None) (λ held. new ≡ Some (held ++ bytes))
