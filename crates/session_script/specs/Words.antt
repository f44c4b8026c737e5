-- The words of a line.
use Rattle.std.specs.Prelude.{◌≡◌, ℕ, ◌<◌, ◌≤◌, ◌==◌, nat_lt, nat_le, Bool, true, ◌&&◌, ◌||◌, not, if◌then◌else◌, List, [], ◌∷◌, length, filter}
use Rattle.std.specs.List.{list_all, slice_split, slice_index_or}
use Rattle.session_script.specs.declared.words.Words.{Words}

-- a space or a tab
abbrev pub is_blank : ℕ → Bool
is_blank b = b == 32 || b == 9

-- a tab, a space or a byte that can be seen
abbrev pub is_plain : ℕ → Bool
is_plain b = b == 9 || (nat_le 32 b && nat_le b 126)

-- what ends a word: a blank, or a byte that no plain line has
abbrev pub ends_word : ℕ → Bool
ends_word b = is_blank b || not (is_plain b)

abbrev pub is_word : List ℕ → Bool
is_word piece = nat_lt 0 (length piece)

-- the words of a line: the pieces between its blanks that are not empty
unfoldable pub words_of : List ℕ → List (List ℕ)
words_of line = filter is_word (slice_split is_blank line)

-- the word at a place, counted from 0, and nothing past the last
abbrev pub word_at : List (List ℕ) → ℕ → List ℕ
word_at words place = slice_index_or words place []

-- the text from its first byte that is no blank
unfoldable pub after_blanks : List ℕ → List ℕ
after_blanks [] = []
after_blanks (b ∷ bs) = if is_blank b then after_blanks bs else b ∷ bs

abbrev pub is_silent_from : List ℕ → Bool
is_silent_from [] = true
is_silent_from (b ∷ bs) = b == 35

-- the line is empty or a comment: it has only blanks, or `#` is the first byte that is no blank
abbrev pub is_silent : List ℕ → Bool
is_silent line = is_silent_from (after_blanks line)

-- a word in front of others, unless it is empty
abbrev pub with_word : List ℕ → List (List ℕ) → List (List ℕ)
with_word word words = if is_word word then word ∷ words else words

-- the first word of a text, and the text after it: of a plain text the words are this one and those of the rest
pub record TakesWord (text word rest : List ℕ) : Type 0 where
  pub plain : list_all is_plain rest ≡ list_all is_plain text
  pub words : list_all is_plain text ≡ true → words_of text ≡ with_word word (words_of rest)
  pub ended : list_all is_plain text ≡ true → word ≡ [] → rest ≡ []
  pub within : length rest ≤ length text
  pub shorter : 0 < length word → length rest < length text

-- what a line's form and arguments are read from: its first four words, empty past the last, and how many it has
pub record LineWords : Type 0 where
  pub first : List ℕ
  pub second : List ℕ
  pub third : List ℕ
  pub fourth : List ℕ
  pub count : ℕ

abbrev pub line_words : List (List ℕ) → LineWords
line_words words = record { first = word_at words 0; second = word_at words 1; third = word_at words 2; fourth = word_at words 3; count = length words }

-- the words that a cut line holds
abbrev pub seen : Words → LineWords
seen words = record { first = words.first.now; second = words.second.now; third = words.third.now; fourth = words.fourth.now; count = words.count }
