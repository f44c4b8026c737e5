-- What is wrong with a line of JSON.
use Rattle.std.specs.Prelude.{◌≡◌, ℕ, suc, ◌<◌, is_some, List, [], ◌∷◌, ◌⊎◌, Option, None, Some, IfSome, MatchOption, IsUtf8, codes, decimal, option_and_then}
use Rattle.std.specs.Option.{option_map}
use Rattle.serde_json.specs.Data.{Data, Members, no_members, member}
use Rattle.serde_json.specs.Find.{as_number, as_object, as_str, as_u64, get}
use Rattle.serde_json.specs.Read.{read}
use Rattle.history_json.specs.Words.{row_of}
use Rattle.line_reasons.specs.declared.wants.Wants.{Wants}
use Rattle.line_reasons.specs.declared.wants.Wants.TheVariants as wants
use Rattle.line_reasons.specs.declared.fault.LineFault.{LineFault}
use Rattle.line_reasons.specs.declared.fault.LineFault.TheVariants as fault
use Rattle.line_reasons.specs.Wants.{IsNoValue, wants_of}
use Rattle.line_reasons.specs.TextLines.{IsMissing}

-- ---- what members say
abbrev pub text_of : List ℕ → Data → Option (List ℕ)
text_of name d = option_and_then as_str (get name d)

abbrev pub digits_of : Data → Option (List ℕ)
digits_of d = option_map decimal (option_and_then as_u64 (as_number d))

-- the text of a member: digits of a number where a number is wanted
abbrev pub said_as : Wants → Data → Option (List ℕ)
said_as wants.Number d = digits_of d
said_as wants.Term d = digits_of d
said_as wants.Stamp d = digits_of d
said_as _ d = as_str d

abbrev pub or_nothing : Option (List ℕ) → List ℕ
or_nothing None = []
or_nothing (Some said) = said

-- the row of an object of this kind
abbrev pub row_for : List ℕ → Data → Option (List (List ℕ))
row_for kind d = row_of kind (is_some (get (codes "commit") d)) (is_some (get (codes "from") d))

-- ---- its members
-- the fault is that this member, where `note` says so, says what is no value of what it wants
abbrev pub IsMemberOf : List ℕ → List ℕ → List ℕ → Data → LineFault → Type 0
IsMemberOf kind noted name said (fault.Member it wants) = (it.now ≡ name) × (wants ≡ wants_of kind noted name) × IfSome (said_as wants said) (IsNoValue wants)
IsMemberOf kind noted name said _ = ⊥

-- the fault is one of the members that a row names
unfoldable pub IsWrongIn : List ℕ → List ℕ → List (List ℕ) → Data → LineFault → Type 0
IsWrongIn kind noted [] d it = ⊥
IsWrongIn kind noted (words ∷ []) d it = ⊥
IsWrongIn kind noted (words ∷ name ∷ row) d it = MatchOption (get name d) (IsMissing name it) (λ said. IsMemberOf kind noted name said it) ⊎ IsWrongIn kind noted row d it

-- how many members a row names, and an object has
unfoldable pub names_in : List (List ℕ) → ℕ
names_in [] = 0
names_in (words ∷ []) = 0
names_in (words ∷ name ∷ row) = suc (names_in row)

unfoldable pub count_of : Members → ℕ
count_of no_members = 0
count_of (member name said members) = suc (count_of members)

-- its kind and the members of the row, and more
abbrev pub HasMore : List (List ℕ) → Data → Type 0
HasMore row d = IfSome (as_object d) (λ members. suc (names_in row) < count_of members)

-- the fault is one of its count, where one was found
abbrev pub IsOfCount : List (List ℕ) → Data → LineFault → Type 0
IsOfCount row d fault.TooMany = HasMore row d
IsOfCount row d fault.Other = Unit {0}
IsOfCount row d _ = ⊥

-- or of a member; a note's word is what its member `note` says
abbrev pub IsOfMembers : List ℕ → List (List ℕ) → Data → LineFault → Type 0
IsOfMembers kind row d it = IsOfCount row d it ⊎ IsWrongIn kind (or_nothing (text_of (codes "note") d)) row d it

-- ---- what each fault means
abbrev pub IsOfKind : Data → LineFault → Type 0
IsOfKind d fault.NoObject = as_object d ≡ None
IsOfKind d fault.NoKind = text_of (codes "kind") d ≡ None
IsOfKind d fault.UnknownKind = IfSome (text_of (codes "kind") d) (λ kind. row_for kind d ≡ None)
IsOfKind d _ = ⊥

-- the fault is one of the object's kind, or of its members
abbrev pub TellsObject : Data → LineFault → Type 0
TellsObject d it = IsOfKind d it ⊎ IfSome (text_of (codes "kind") d) (λ kind. IfSome (row_for kind d) (λ row. IsOfMembers kind row d it))

abbrev pub IsUnread : List ℕ → LineFault → Type 0
IsUnread line fault.NoJson = IsUtf8 line → read line ≡ None
IsUnread line _ = ⊥

-- the line is no JSON, or the fault is one of its object
abbrev pub TellsJson : List ℕ → LineFault → Type 0
TellsJson line it = IsUnread line it ⊎ IfSome (read line) (λ d. TellsObject d it)
