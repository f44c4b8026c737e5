-- Which answers fit a store step of a step machine.
use Rattle.std.specs.Prelude.{Bool, true, false, IsTrue, Option, None, Some}
use Rattle.system_parts.specs.declared.asks.Ask.{Ask}
use Rattle.system_parts.specs.declared.asks.Ask.TheVariants.{Get, Mark, Look, Shadow, Remove, Erase, Keys}
use Rattle.system_parts.specs.declared.asks.Told.{Told}
use Rattle.system_parts.specs.declared.asks.Told.TheVariants.{Absent, Invalid, Committed, Marked, Bare, Gone, Shadowed, Done}

-- what the commit table may have
abbrev pub fits_get : Told → Bool
fits_get Absent = true
fits_get Invalid = true
fits_get (Committed c) = true
fits_get _ = false

-- the mark was placed, or an entry was found
abbrev pub fits_mark : Told → Bool
fits_mark Marked = true
fits_mark Invalid = true
fits_mark (Committed c) = true
fits_mark _ = false

-- what a cell may show
abbrev pub fits_look : Told → Bool
fits_look Bare = true
fits_look Gone = true
fits_look (Shadowed c) = true
fits_look _ = false

abbrev pub fits_write : Told → Bool
fits_write Done = true
fits_write _ = false

abbrev pub fits : Ask → Told → Bool
fits (Get txn) told = fits_get told
fits (Mark txn) told = fits_mark told
fits (Look key txn) told = fits_look told
fits (Shadow key txn commit) told = fits_write told
fits (Remove txn) told = fits_write told
fits (Erase key txn) told = fits_write told
fits (Keys txn) told = false

-- the answer is one that the step may have
abbrev pub Fits : Ask → Told → Type 0
Fits ask told = IsTrue (fits ask told)

-- the answer fits what is asked next, if anything is
abbrev pub FitsNext : Option Ask → Told → Type 0
FitsNext None told = ⊥
FitsNext (Some ask) told = Fits ask told
