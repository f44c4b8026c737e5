-- What a sign looks like, by what its item tells.
use Rattle.std.specs.Prelude.{ℕ, ◌==◌, Bool, false, ◌||◌, if◌then◌else◌, List, [], ◌∷◌, Option, None, Some, codes}
use Rattle.std.specs.List.{flat_map, list_any}
use Rattle.history_book.specs.declared.item.Item.{Item}
use Rattle.history_book.specs.declared.item.Item.TheVariants as item
use Rattle.history_signs.specs.declared.bar.Bar.{Bar}
use Rattle.history_signs.specs.declared.bar.BarKind.{BarKind}
use Rattle.history_signs.specs.declared.bar.BarKind.TheVariants as kind
use Rattle.history_signs.specs.declared.earlier.EarlierBar.{EarlierBar}
use Rattle.history_view.specs.declared.glyph.Glyph.{Glyph}
use Rattle.history_view.specs.declared.glyph.Glyph.TheVariants as glyph
use Rattle.history_view.specs.declared.glyph.Key.{Key}
use Rattle.history_view.specs.declared.glyph.Key.TheVariants as key
use Rattle.history_signs.specs.declared.sign.Sign.{Sign}

abbrev pub glyph_of : Item → Glyph
glyph_of (item.AskBegin session node) = glyph.Ask
glyph_of (item.AskCommit session node start) = glyph.Ask
glyph_of (item.Draw session node term start commit) = glyph.Draw
glyph_of (item.Begin session start) = glyph.Begin
glyph_of (item.Write session start key value) = glyph.Write
glyph_of (item.Read session start key answer) = glyph.Read
glyph_of (item.Placed start commit) = glyph.Placed
glyph_of (item.Committed session start commit) = glyph.Committed
glyph_of (item.End session start how) = glyph.End
glyph_of (item.Refused actor cause) = glyph.Refused
glyph_of (item.Mark actor start) = glyph.Mark
glyph_of (item.Take node reading term epoch until ceiling) = glyph.Take
glyph_of (item.Renew node reading term until) = glyph.Renew
glyph_of (item.Extend node term ceiling) = glyph.Extend
glyph_of (item.Fault actor store) = glyph.Fault
glyph_of (item.Crash node term) = glyph.Crash
glyph_of (item.Vanish session) = glyph.Vanish
glyph_of _ = glyph.Dot

-- a dot has no letter
abbrev pub letter : Glyph → List ℕ
letter glyph.Dot = []
letter glyph.Ask = codes "?"
letter glyph.Draw = codes "#"
letter glyph.Begin = codes "B"
letter glyph.Write = codes "W"
letter glyph.Read = codes "R"
letter glyph.Placed = codes "P"
letter glyph.Committed = codes "C"
letter glyph.End = codes "E"
letter glyph.Refused = codes "!"
letter glyph.Mark = codes "M"
letter glyph.Take = codes "T"
letter glyph.Renew = codes "N"
letter glyph.Extend = codes "+"
letter glyph.Fault = codes "F"
letter glyph.Crash = codes "X"
letter glyph.Vanish = codes "V"

-- the class by which it has its colour
abbrev pub class_text : Glyph → List ℕ
class_text glyph.Dot = codes "step"
class_text glyph.Ask = codes "step"
class_text glyph.Draw = codes "grant"
class_text glyph.Begin = codes "own"
class_text glyph.Write = codes "own"
class_text glyph.Read = codes "own"
class_text glyph.Placed = codes "done"
class_text glyph.Committed = codes "done"
class_text glyph.End = codes "step"
class_text glyph.Refused = codes "bad"
class_text glyph.Mark = codes "mark"
class_text glyph.Take = codes "grant"
class_text glyph.Renew = codes "grant"
class_text glyph.Extend = codes "grant"
class_text glyph.Fault = codes "bad"
class_text glyph.Crash = codes "bad"
class_text glyph.Vanish = codes "bad"

-- what the legend says of it
abbrev pub meaning : Glyph → List ℕ
meaning glyph.Dot = codes "step, note, tick"
meaning glyph.Ask = codes "ask"
meaning glyph.Draw = codes "stamp drawn"
meaning glyph.Begin = codes "begin"
meaning glyph.Write = codes "write"
meaning glyph.Read = codes "read"
meaning glyph.Placed = codes "commit placed"
meaning glyph.Committed = codes "commit told"
meaning glyph.End = codes "other end"
meaning glyph.Refused = codes "refusal"
meaning glyph.Mark = codes "mark"
meaning glyph.Take = codes "take"
meaning glyph.Renew = codes "renew"
meaning glyph.Extend = codes "extend"
meaning glyph.Fault = codes "fault"
meaning glyph.Crash = codes "crash"
meaning glyph.Vanish = codes "vanish"

-- the class of a bar, by which it has its look, and what the legend says of it
abbrev pub kind_text : BarKind → List ℕ
kind_text kind.Committed = codes "committed"
kind_text kind.Refused = codes "refused"
kind_text kind.Aborted = codes "aborted"
kind_text kind.Dead = codes "dead"
kind_text kind.Open = codes "open"
kind_text kind.Lease = codes "lease"

-- ---- which of them occur
abbrev pub glyph_number : Glyph → ℕ
glyph_number glyph.Dot = 0
glyph_number glyph.Ask = 1
glyph_number glyph.Draw = 2
glyph_number glyph.Begin = 3
glyph_number glyph.Write = 4
glyph_number glyph.Read = 5
glyph_number glyph.Placed = 6
glyph_number glyph.Committed = 7
glyph_number glyph.End = 8
glyph_number glyph.Refused = 9
glyph_number glyph.Mark = 10
glyph_number glyph.Take = 11
glyph_number glyph.Renew = 12
glyph_number glyph.Extend = 13
glyph_number glyph.Fault = 14
glyph_number glyph.Crash = 15
glyph_number glyph.Vanish = 16

abbrev pub kind_number : BarKind → ℕ
kind_number kind.Committed = 0
kind_number kind.Refused = 1
kind_number kind.Aborted = 2
kind_number kind.Dead = 3
kind_number kind.Open = 4
kind_number kind.Lease = 5

-- all that a legend may tell, in order
abbrev pub all_keys : List Key
all_keys =
    key.Bar kind.Committed ∷ key.Bar kind.Refused ∷ key.Bar kind.Aborted ∷ key.Bar kind.Dead ∷ key.Bar kind.Open ∷ key.Bar kind.Lease
    ∷ key.Sign glyph.Ask ∷ key.Sign glyph.Begin ∷ key.Sign glyph.Read ∷ key.Sign glyph.Write ∷ key.Sign glyph.Draw ∷ key.Sign glyph.Placed ∷ key.Sign glyph.Committed
    ∷ key.Sign glyph.End ∷ key.Sign glyph.Refused ∷ key.Sign glyph.Mark ∷ key.Sign glyph.Take ∷ key.Sign glyph.Renew ∷ key.Sign glyph.Extend
    ∷ key.Sign glyph.Fault ∷ key.Sign glyph.Crash ∷ key.Sign glyph.Vanish ∷ key.Sign glyph.Dot ∷ []

abbrev pub has_kind : BarKind → Option Bar → Bool
has_kind it None = false
has_kind it (Some bar) = kind_number bar.kind == kind_number it

abbrev pub occurs_in : List EarlierBar → List Sign → Key → Bool
occurs_in earlier signs (key.Bar it) = list_any (λ sign. has_kind it sign.bar) signs || list_any (λ bar. kind_number bar.bar.kind == kind_number it) earlier
occurs_in earlier signs (key.Sign it) = list_any (λ sign. glyph_number (glyph_of sign.item) == glyph_number it) signs

abbrev pub if_occurs : List EarlierBar → List Sign → Key → List Key
if_occurs earlier signs it = if occurs_in earlier signs it then it ∷ [] else []

-- what the legend of a picture tells: what occurs in it
abbrev pub keys_for : List EarlierBar → List Sign → List Key
keys_for earlier signs = flat_map (λ it. if_occurs earlier signs it) all_keys
