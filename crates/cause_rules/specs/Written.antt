-- The keys that a transaction wrote, and what the commits of a term record of them.
use Rattle.std.specs.Prelude.{ℕ, ◌==◌, if◌then◌else◌, List, [], ◌∷◌, ◌++◌, Some}
use Rattle.history_book.specs.declared.item.Item.{Item}
use Rattle.history_book.specs.declared.item.Item.TheVariants.{Draw, Write}
use Rattle.system_parts.specs.SessionSteps.{key_added}
use Rattle.system_parts.specs.declared.buckets.Recorded.{Recorded}
use Rattle.system_parts.specs.Buckets.{pairs_of}

-- the write list after an item
abbrev pub keys_with : List ℕ → ℕ → Item → List ℕ
keys_with keys t (Write session start key value) = if start == t then key_added keys key else keys
keys_with keys t _ = keys

unfoldable pub keys_from : List ℕ → ℕ → List Item → List ℕ
keys_from keys t [] = keys
keys_from keys t (x ∷ xs) = keys_from (keys_with keys t x) t xs

-- the keys that the transaction wrote, each once, in the order of their first writes
abbrev pub written_keys : List Item → ℕ → List ℕ
written_keys h t = keys_from [] t h

-- what a draw in the term records, by all writes of the history
abbrev pub recorded_by : List Item → ℕ → Item → List Recorded
recorded_by h term (Draw session node drawn_in t (Some c)) = if drawn_in == term then pairs_of (written_keys h t) c else []
recorded_by h term _ = []

unfoldable pub recorded_in : List Item → ℕ → List Item → List Recorded
recorded_in h term [] = []
recorded_in h term (x ∷ xs) = recorded_by h term x ++ recorded_in h term xs

-- the pairs that the commits drawn in a term record, in order
abbrev pub recorded : List Item → ℕ → List Recorded
recorded h term = recorded_in h term h
