-- The lines that the bytes of a history are.
use Rattle.std.specs.Prelude.{ℕ, ◌==◌, Bool, true, false, List, [], ◌∷◌}
use Rattle.std.specs.List.{slice_split}

abbrev pub is_line_feed : ℕ → Bool
is_line_feed b = b == 10

-- the lines of a history: the pieces of its bytes between line feeds, and what follows the last one
abbrev pub lines_of : List ℕ → List (List ℕ)
lines_of bytes = slice_split is_line_feed bytes

-- an empty line says nothing
abbrev pub says_something : List ℕ → Bool
says_something [] = false
says_something (b ∷ bs) = true
