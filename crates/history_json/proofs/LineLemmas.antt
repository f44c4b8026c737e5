-- How the items of a history follow from its front, and what its items are.
use Rattle.std.proofs.Common.{◌≡◌, ℕ, ◌+◌, ◌-◌, ◌<◌, ◌≤◌, List, [], ◌∷◌, ◌++◌, append_assoc, append-nil, Some, ◌⊎◌, inl, inr, length, filter, refl, sym, subst, ap, arith}
use Rattle.std.specs.Prelude.{slice_get, IfSome}
use Rattle.std.specs.List.{All}
use Rattle.std.proofs.lemmas.List.Elements.{filter-append, All-append, All-nil}
use Rattle.stamp_base.specs.declared.limits.TheConstants.{BYTE_LIMIT}
use Rattle.history_book.specs.declared.item.Item.{Item}
use Rattle.history_text.specs.Fits.{FitsItem}
use Rattle.history_reading.specs.declared.history.HistoryFault.{HistoryFault}
use Rattle.history_reading.specs.declared.history.HistoryFault.TheVariants.{At, NoMemory}
use Rattle.history_reading.specs.History.{lines_of, says_something}
use Rattle.history_json.specs.declared.history.Format.{Format}
use Rattle.history_json.specs.History.{line_format, first_format, format_of, AreLinesOf, IsNoItem, IsFaultAt, IsFaultOf, AddsLine}

appended : (format : Format) (xs ys : List (List ℕ)) (one other : List Item) → AreLinesOf format xs one → AreLinesOf format ys other → AreLinesOf format (xs ++ ys) (one ++ other)
appended format [] ys [] other are also = also
appended format [] ys (a ∷ one) other are also = absurd are
appended format (x ∷ xs) ys [] other are also = absurd are
appended format (x ∷ xs) ys (a ∷ one) other are also = (are.0, appended format xs ys one other are.1 also)

-- what the items of the lines that are left make of the items so far
abbrev pub Told : Format → List (List ℕ) → List (List ℕ) → List Item → Type 0
Told format rest all items = (more : List Item) → AreLinesOf format (filter says_something rest) more → AreLinesOf format (filter says_something all) (items ++ more)

-- one more line was read
pub told_more : (format : Format) (line : List ℕ) (rest all : List (List ℕ)) (old new : List Item) → AddsLine format line old new → Told format (line ∷ rest) all old → Told format rest all new
told_more format line rest all old new adds told more lines =
    let both = appended format (filter says_something (line ∷ [])) (filter says_something rest) adds.added more adds.lines lines in
    let whole = subst (λ (xs : List (List ℕ)). AreLinesOf format xs (adds.added ++ more)) (sym (filter-append says_something (line ∷ []) rest)) both in
    rw (adds.is, append_assoc old adds.added more) (told (adds.added ++ more) whole)

-- all lines were read
pub told_all : (format : Format) (all : List (List ℕ)) (items : List Item) → Told format [] all items → AreLinesOf format (filter says_something all) items
told_all format all items told = rw (append-nil items) at (told [] tt)

-- none of the first n lines is bad
abbrev pub NoneBad : Format → List (List ℕ) → ℕ → Type 0
NoneBad format lines n = (i : ℕ) → i + 1 < n + 1 → IfSome (slice_get lines i) (λ earlier. IsNoItem format earlier → ⊥)

below_or_same : (i n : ℕ) → i < n + 1 → (i < n) ⊎ (i ≡ n)
below_or_same i n within = grind arith

one_less : (n : ℕ) → n + 1 - 1 ≡ n
one_less n = omega arith

pub none_bad_more : (format : Format) (lines : List (List ℕ)) (n : ℕ) (line : List ℕ) → slice_get lines n ≡ Some line → (IsNoItem format line → ⊥) → NoneBad format lines n → NoneBad format lines (n + 1)
none_bad_more format lines n line at right before i within =
    elim (below_or_same i n (omega arith)) [
      | inl less ↦ before i (omega arith)
      | inr same ↦ rw (same, at) right
    ]

bad_here : (bytes : List ℕ) (n : ℕ) (line : List ℕ) (fault : HistoryFault) → length bytes ≤ BYTE_LIMIT → slice_get (lines_of bytes) n ≡ Some line → NoneBad (format_of bytes) (lines_of bytes) n
    → IsFaultAt (format_of bytes) (n + 1) line fault → IsFaultOf bytes fault
bad_here bytes n line NoMemory short at before bad = tt
bad_here bytes n line (At number) short at before bad = rw bad.0 (record {
  long = λ is. absurd (omega (arith, is));
  short = λ _. short;
  bad = λ _. rw (one_less n, at) bad.1;
  before = before;
})

-- the line after n lines, none of them bad, is the first bad one where it is bad
pub bad_line : (bytes : List ℕ) (format : Format) (n : ℕ) (line : List ℕ) (fault : HistoryFault) → format ≡ format_of bytes → length bytes ≤ BYTE_LIMIT → slice_get (lines_of bytes) n ≡ Some line
    → NoneBad format (lines_of bytes) n → IsFaultAt format (n + 1) line fault → IsFaultOf bytes fault
bad_line bytes format n line fault is short at before bad =
    bad_here bytes n line fault short at (subst (λ (f : Format). NoneBad f (lines_of bytes) n) is before) (subst (λ (f : Format). IsFaultAt f (n + 1) line fault) is bad)

-- the items fit with those of one more line
pub fit_more : (format : Format) (line : List ℕ) (old new : List Item) → AddsLine format line old new → All FitsItem old → All FitsItem new
fit_more format line old new adds fit = rw adds.is (All-append FitsItem old adds.added fit adds.fit)

-- a line that says nothing adds nothing, and an item's line the item
pub adds_none : (format : Format) (line : List ℕ) (items : List Item) → length line ≡ 0 → AddsLine format line items items
adds_none format [] items e = record {
  added = [];
  is = sym (append-nil items);
  fit = All-nil FitsItem;
  lines = tt;
}
adds_none format (b ∷ bs) items e = absurd (omega (arith, e))

-- ---- the format, as the first line that says something shows it

pub shown : (line : List ℕ) (rest all : List (List ℕ)) → (length line ≡ 0 → ⊥) → filter says_something (line ∷ rest) ≡ all → line_format line ≡ first_format all
shown [] rest all some e = absurd (some refl)
shown (b ∷ bs) rest all some e = ap first_format e
