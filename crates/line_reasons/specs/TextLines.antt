-- What is wrong with a line of text.
use Rattle.std.specs.Prelude.{◌≡◌, ◌≢◌, ℕ, ◌-◌, ◌==◌, nat_le, Bool, true, false, ◌&&◌, ◌||◌, if◌then◌else◌, is_some, List, [], ◌∷◌, ◌⊎◌, Option, None, Some, IfSome, MatchOption, codes, drop, length, slice_get}
use Rattle.std.specs.List.{list_all}
use Rattle.history_reading.specs.ReadWords.{after_text, first_word, is_word, word_len}
use Rattle.history_json.specs.Words.{row_of}
use Rattle.line_reasons.specs.declared.fault.LineFault.{LineFault}
use Rattle.line_reasons.specs.declared.fault.LineFault.TheVariants as fault
use Rattle.line_reasons.specs.Wants.{IsNoValue, wants_of}

-- ---- its bytes
abbrev pub is_return : Option ℕ → Bool
is_return None = false
is_return (Some b) = b == 13

abbrev pub ends_in_return : List ℕ → Bool
ends_in_return line = is_return (slice_get line (length line - 1))

-- a byte that can be seen, or a blank
abbrev pub is_seen : ℕ → Bool
is_seen b = nat_le 32 b && nat_le b 126

-- a blank stands behind another, or at the end; or at the front, if a blank is said to go before it
unfoldable pub has_loose_blank : Bool → List ℕ → Bool
has_loose_blank before [] = before
has_loose_blank before (b ∷ bs) = (before && (b == 32)) || has_loose_blank (b == 32) bs

abbrev pub is_object : List ℕ → Bool
is_object [] = false
is_object (b ∷ bs) = b == 123

-- ---- its members, each behind its words
unfoldable pub has_text : List ℕ → List ℕ → Bool
has_text text [] = false
has_text text (b ∷ bs) = is_some (after_text text (b ∷ bs)) || has_text text bs

-- the row of the line's kind: with a commit, and with what was read, where the line has the words for it
abbrev pub row_for : List ℕ → Option (List (List ℕ))
row_for line = row_of (first_word line) (has_text (codes " commit=") line) (has_text (codes " from=") line)

-- what a member says is the word in front; of a step and of a cause it is all that is left
abbrev pub said_of : List ℕ → List ℕ → List ℕ
said_of name bytes = if is_word (codes "text") name then bytes else first_word bytes

abbrev pub behind_it : List ℕ → List ℕ → List ℕ
behind_it name bytes = if is_word (codes "text") name then [] else drop (word_len bytes) bytes

-- the fault is that this member is missing
abbrev pub IsMissing : List ℕ → LineFault → Type 0
IsMissing name (fault.Missing it) = it.now ≡ name
IsMissing name _ = ⊥

-- the fault is that this member, behind a member that says so, says what is no value of what it wants
abbrev pub IsMember : List ℕ → List ℕ → List ℕ → List ℕ → LineFault → Type 0
IsMember kind before name said (fault.Member it wants) = (it.now ≡ name) × (wants ≡ wants_of kind before name) × IsNoValue wants said
IsMember kind before name said _ = ⊥

-- at the end of the members
abbrev pub EndsWrong : List ℕ → LineFault → Type 0
EndsWrong bytes fault.TooLong = bytes ≢ []
EndsWrong bytes fault.Other = bytes ≡ []
EndsWrong bytes _ = ⊥

-- Where the bytes break off from their row: at the first words that are not there, at a member that is no value, or behind the last one.
unfoldable pub BreaksOff : List ℕ → List ℕ → List (List ℕ) → List ℕ → LineFault → Type 0
BreaksOff kind before [] bytes it = EndsWrong bytes it
BreaksOff kind before (words ∷ []) bytes it = MatchOption (after_text words bytes) (it ≡ fault.NoAnswer) (λ rest. EndsWrong rest it)
BreaksOff kind before (words ∷ name ∷ row) bytes it = MatchOption (after_text words bytes) (IsMissing name it)
    (λ rest. IsMember kind before name (said_of name rest) it ⊎ BreaksOff kind (said_of name rest) row (behind_it name rest) it)

-- ---- what each fault means
abbrev pub IsOfBytes : List ℕ → LineFault → Type 0
IsOfBytes line fault.CarriageReturn = ends_in_return line ≡ true
IsOfBytes line fault.Unseen = list_all is_seen line ≡ false
IsOfBytes line fault.LooseBlank = has_loose_blank true line ≡ true
IsOfBytes line fault.Mixed = is_object line ≡ true
IsOfBytes line fault.UnknownKind = row_for line ≡ None
IsOfBytes line _ = ⊥

-- the fault is one of the line's bytes or kind, or of its members
abbrev pub TellsText : List ℕ → LineFault → Type 0
TellsText line it = IsOfBytes line it ⊎ IfSome (row_for line) (λ row. BreaksOff (first_word line) [] row line it)
