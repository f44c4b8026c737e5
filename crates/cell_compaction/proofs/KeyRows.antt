-- For this crate's own proofs.
-- The rows of one key among rows that ascend: those before them and behind them give its readers nothing.
use Rattle.std.proofs.Common.{◌≡◌, ℕ, zero, suc, ◌+◌, ◌<◌, ◌≤◌, ◌==◌, leb, Bool, true, false, not, List, [], ◌∷◌, ◌++◌, length, get_or, ⊎_elim, refl, sym, ap, ◌∙◌, subst, arith}
use Rattle.std.specs.Prelude.{map, take, drop, Option, None, Some}
use Rattle.std.specs.List.{All}
use Rattle.std.specs.List.Sorted.{IsNonDecreasingBy, IsPartitionPoint}
use Rattle.std.proofs.lemmas.Bool.Decides.{nat_tests}
use Rattle.std.proofs.lemmas.List.{take-append-drop, length-take, length-drop, get_or-take, get_or-drop, get_or_default}
use Rattle.std.proofs.Math.Seq.{drop-cons}
use Rattle.std.proofs.lemmas.List.Elements.{All-head, All-tail}
use Rattle.system_parts.specs.Rows.{Row, IsBelowAll, AreOrdered}
use Rattle.cell_store.specs.AtRest.{row_of}
use Rattle.cell_store.specs.declared.at_rest.Row as program
use Rattle.cell_compaction.specs.declared.latest.Latest.{Latest}
use Rattle.cell_compaction.specs.Rest.{commit_below, with_row, latest_in}

-- a row of another key gives nothing
with_other : (k : ℕ) (r : Row) (commit : Option ℕ) (latest : Option Latest) → (r.key == k) ≡ false → with_row k r commit latest ≡ latest
with_other k r None latest other = refl
with_other k r (Some c) latest other = rw other refl

with_own : (k : ℕ) (r : Row) (commit : Option ℕ) (latest : Option Latest) → r.key ≡ k → with_row r.key r commit latest ≡ with_row k r commit latest
with_own k r commit latest own = ap (λ j. with_row j r commit latest) own

-- rows of higher keys give nothing
pub nothing_behind : (s k : ℕ) (rs : List program.Row) → All (λ (r : program.Row). k < r.key) rs → latest_in (map row_of rs) s k ≡ None
unfolding latest_in
nothing_behind s k [] above = refl
nothing_behind s k (r ∷ rs) above =
    let up : k < r.key = All-head (λ (r : program.Row). k < r.key) r rs above in
    with_other k (row_of r) (commit_below s r.cell.shadow) (latest_in (map row_of rs) s k) (grind (arith, nat_tests, up)) ∙ nothing_behind s k rs (All-tail (λ (r : program.Row). k < r.key) r rs above)

-- and so do rows of lower keys
pub nothing_before : (s k : ℕ) (xs ys : List program.Row) → All (λ (r : program.Row). r.key < k) xs → latest_in (map row_of (xs ++ ys)) s k ≡ latest_in (map row_of ys) s k
unfolding latest_in
nothing_before s k [] ys below = refl
nothing_before s k (r ∷ rs) ys below =
    let low : r.key < k = All-head (λ (r : program.Row). r.key < k) r rs below in
    with_other k (row_of r) (commit_below s r.cell.shadow) (latest_in (map row_of (rs ++ ys)) s k) (grind (arith, nat_tests, low)) ∙ nothing_before s k rs ys (All-tail (λ (r : program.Row). r.key < k) r rs below)

-- ---- keys do not fall
below_at : (r : Row) (rs : List program.Row) (d : program.Row) (j : ℕ) → IsBelowAll r (map row_of rs) → j < length rs → r.key ≤ (get_or rs j d).key
unfolding IsBelowAll
below_at r [] d j below within = absurd (omega (arith, within))
below_at r (x ∷ xs) d zero below within = ⊎_elim (λ (lt : r.key < x.key). omega arith) (λ (p : (r.key ≡ x.key) × (r.version < x.cell.version)). (let e = p.0 in omega arith)) below.0
below_at r (x ∷ xs) d (suc j) below within = below_at r xs d j below.1 (omega (arith, within))

pub keys_rise : (rows : List program.Row) → AreOrdered (map row_of rows) → IsNonDecreasingBy (λ (r : program.Row). r.key) rows
unfolding AreOrdered
keys_rise [] ordered = λ i j d le there. absurd (omega (arith, there))
keys_rise (r ∷ rs) ordered = go (keys_rise rs ordered.1)
  where
    go : IsNonDecreasingBy (λ (x : program.Row). x.key) rs → IsNonDecreasingBy (λ (x : program.Row). x.key) (r ∷ rs)
    go rise zero zero d le there = omega arith
    go rise zero (suc j) d le there = below_at (row_of r) rs d j ordered.0 (omega (arith, there))
    go rise (suc i) zero d le there = absurd (omega (arith, le))
    go rise (suc i) (suc j) d le there = rise i j d (omega (arith, le)) (omega (arith, there))

-- what a search by halves tells of the parts of the rows
pub key_parts : (rows : List program.Row) (n k : ℕ) → IsPartitionPoint (λ (r : program.Row). leb r.key k ≡ true) (λ (r : program.Row). leb r.key k ≡ false) rows n → All (λ (r : program.Row). r.key ≤ k) (take n rows) × All (λ (r : program.Row). k < r.key) (drop n rows)
key_parts rows n k point = (
  (λ i d less. let short = length-take n rows in let within : i < n = omega arith in subst (λ (r : program.Row). r.key ≤ k) (sym (get_or-take n rows i d within)) (let t = point.0 i d (omega arith) within in grind (arith, nat_tests, t))),
  (λ i d less. let short = length-drop n rows in subst (λ (r : program.Row). k < r.key) (sym (get_or-drop n rows i d)) (let t = point.1 (n + i) d (omega arith) (omega arith) in grind (arith, nat_tests, t))),
)

-- where a row is of a lower key, so are those before it
pub lower_before : (rows : List program.Row) (n k : ℕ) (x : program.Row) → AreOrdered (map row_of rows) → n < length rows → x ≡ get_or rows n x → x.key < k → All (λ (r : program.Row). r.key < k) (take (suc n) rows)
lower_before rows n k x ordered within is low = λ i d less.
    let short = length-take (suc n) rows in
    let before : i < suc n = omega (arith, less) in
    let up : (get_or rows i d).key ≤ (get_or rows n d).key = keys_rise rows ordered i n d (omega arith) within in
    let at : get_or rows n d ≡ x = get_or_default rows n d x within ∙ sym is in
    let key : (get_or rows n d).key ≡ x.key = ap (λ (r : program.Row). r.key) at in
    subst (λ (r : program.Row). r.key < k) (sym (get_or-take (suc n) rows i d before)) (omega arith)

-- the walk down a key's rows ends before a row of a lower key
pub walk_ends : (rows : List program.Row) (n s k : ℕ) (x : program.Row) → AreOrdered (map row_of rows) → n < length rows → x ≡ get_or rows n x → x.key < k → latest_in (map row_of (drop (suc n) rows)) s k ≡ latest_in (map row_of rows) s k
walk_ends rows n s k x ordered within is low =
    sym (nothing_before s k (take (suc n) rows) (drop (suc n) rows) (lower_before rows n k x ordered within is low)) ∙ ap (λ rs. latest_in (map row_of rs) s k) (take-append-drop (suc n) rows)

-- and it goes on with a row of the key
pub walk_goes_on : (rows : List program.Row) (n s k : ℕ) (x : program.Row) → n < length rows → x ≡ get_or rows n x → x.key ≡ k → with_row x.key (row_of x) (commit_below s x.cell.shadow) (latest_in (map row_of (drop (suc n) rows)) s k) ≡ latest_in (map row_of (drop n rows)) s k
unfolding latest_in
walk_goes_on rows n s k x within is own =
    with_own k (row_of x) (commit_below s x.cell.shadow) (latest_in (map row_of (drop (suc n) rows)) s k) own
    ∙ ap (λ rs. latest_in (map row_of rs) s k) (sym (drop-cons rows n x within ∙ ap (λ y. y ∷ drop (suc n) rows) (sym is)))

-- a row before the end of the key's rows is of a key up to it
pub at_most : (rows : List program.Row) (end n k : ℕ) (x : program.Row) → All (λ (r : program.Row). r.key ≤ k) (take end rows) → n < end → n < length rows → x ≡ get_or rows n x → x.key ≤ k
at_most rows end n k x upto before within is =
    let short = length-take end rows in
    let at : get_or (take end rows) n x ≡ x = get_or-take end rows n x before ∙ sym is in
    subst (λ (r : program.Row). r.key ≤ k) at (upto n x (omega arith))

-- what a test of two keys tells
pub lower_other : (j k : ℕ) (b : Bool) → b ≡ not (j == k) → b ≡ true → j ≤ k → j < k
lower_other j k b is other most = grind (arith, nat_tests, is, other, most)

pub same_other : (j k : ℕ) (b : Bool) → b ≡ not (j == k) → b ≡ false → j ≡ k
same_other j k b is same = grind (arith, nat_tests, is, same)
