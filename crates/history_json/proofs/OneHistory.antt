-- For omid_top and omid_view too.
-- Public laws, which the audit cites. A line is that of one item at most; so bytes have one list of items at most, and
-- with items no line is bad.
use Rattle.std.proofs.Common.{◌≡◌, ℕ, zero, suc, ◌-◌, ◌<◌, List, [], ◌∷◌, length, filter, refl, sym, ◌∙◌, arith}
use Rattle.std.specs.Prelude.{slice_get, IsSomeAnd}
use Rattle.std.specs.List.{All}
use Rattle.std.proofs.lemmas.List.Elements.{All-head, All-tail}
use Rattle.std.proofs.lemmas.Option.{same_Some}
use Rattle.stamp_base.specs.declared.limits.TheConstants.{BYTE_LIMIT}
use Rattle.history_book.specs.declared.item.Item.{Item}
use Rattle.history_text.specs.Fits.{FitsItem}
use Rattle.history_reading.specs.History.{lines_of, says_something}
use Rattle.history_json.proofs.OneObject.{same_words, same_object}
use Rattle.history_json.specs.declared.history.Format.{Format}
use Rattle.history_json.specs.declared.history.Format.TheVariants.{Text, Json}
use Rattle.history_json.specs.History.{IsLineOf, AreLinesOf, AreItems, IsNoItem, IsFirstBad, format_of}

pub same_line : (format : Format) (line : List ℕ) (one other : Item) → FitsItem one → FitsItem other → IsLineOf format line one → IsLineOf format line other → one ≡ other
same_line Text line one other a b is also = same_words one other a b (sym is ∙ also)
same_line Json line one other a b is also = same_object one other a b (same_Some _ _ (sym is.value ∙ also.value))

-- items of the same lines are the same
same_items : (format : Format) (lines : List (List ℕ)) (xs ys : List Item) → All FitsItem xs → All FitsItem ys → AreLinesOf format lines xs → AreLinesOf format lines ys → xs ≡ ys
same_items format [] [] [] fit other one two = refl
same_items format [] (x ∷ xs) ys fit other one two = absurd one
same_items format [] [] (y ∷ ys) fit other one two = absurd two
same_items format (line ∷ lines) [] ys fit other one two = absurd one
same_items format (line ∷ lines) (x ∷ xs) [] fit other one two = absurd two
same_items format (line ∷ lines) (x ∷ xs) (y ∷ ys) fit other one two =
    let first : x ≡ y = same_line format line x y (All-head FitsItem x xs fit) (All-head FitsItem y ys other) one.0 two.0 in
    let rest : xs ≡ ys = same_items format lines xs ys (All-tail FitsItem x xs fit) (All-tail FitsItem y ys other) one.1 two.1 in
    rw (first, rest) refl

pub one_history : (bytes : List ℕ) (xs ys : List Item) → AreItems bytes xs → AreItems bytes ys → xs ≡ ys
one_history bytes xs ys one other = same_items (format_of bytes) (filter says_something (lines_of bytes)) xs ys one.fit other.fit one.lines other.lines

-- none of the lines is bad where they are those of items
none_bad : (format : Format) (lines : List (List ℕ)) (items : List Item) (p : ℕ) → All FitsItem items → AreLinesOf format (filter says_something lines) items → IsSomeAnd (slice_get lines p) (IsNoItem format) → ⊥
none_bad format [] items p fit are bad = bad
none_bad format ([] ∷ lines) items zero fit are bad = bad.said refl
none_bad format ([] ∷ lines) items (suc p) fit are bad = none_bad format lines items p fit are bad
none_bad format ((b ∷ bs) ∷ lines) [] p fit are bad = are
none_bad format ((b ∷ bs) ∷ lines) (x ∷ xs) zero fit are bad = bad.other x (All-head FitsItem x xs fit) are.0
none_bad format ((b ∷ bs) ∷ lines) (x ∷ xs) (suc p) fit are bad = none_bad format lines xs p (All-tail FitsItem x xs fit) are.1 bad

pub items_are_not_bad : (bytes : List ℕ) (items : List Item) (line : ℕ) → AreItems bytes items → IsFirstBad bytes line → ⊥
items_are_not_bad bytes items zero read bad = absurd (omega (arith, read.short, bad.long refl))
items_are_not_bad bytes items (suc n) read bad = none_bad (format_of bytes) (lines_of bytes) items (suc n - 1) read.fit read.lines (bad.bad (omega arith))

-- more bytes than a history may have
pub too_long_is_bad : (bytes : List ℕ) → BYTE_LIMIT < length bytes → IsFirstBad bytes 0
too_long_is_bad bytes long = record {
  long = λ _. long;
  short = λ counted. absurd (omega (arith, counted));
  bad = λ counted. absurd (omega (arith, counted));
  before = λ i h. absurd (omega (arith, h));
}
