-- For this crate's own proofs.
-- Rows that are kept one by one are those that stay.
use Rattle.std.proofs.Common.{◌≡◌, ℕ, ◌+◌, ◌<◌, ◌≤◌, Bool, true, false, List, [], ◌∷◌, ◌++◌, length, get_or, refl, sym, ap, ◌∙◌, append-nil, append_assoc}
use Rattle.std.specs.Prelude.{map, drop, if◌then◌else◌}
use Rattle.std.proofs.lemmas.List.{map-append, drop_more, drop_all}
use Rattle.system_parts.specs.Rows.{Row}
use Rattle.cell_store.specs.AtRest.{row_of}
use Rattle.cell_store.specs.declared.at_rest.Row as program
use Rattle.cell_compaction.specs.Rest.{stays, kept_of}

kept_step : (all : List Row) (water : ℕ) (kept : List program.Row) (x : program.Row) (rs : List Row) → map row_of (if stays all water (row_of x) then kept ++ x ∷ [] else kept) ++ kept_of all water rs ≡ map row_of kept ++ kept_of all water (row_of x ∷ rs)
unfolding kept_of
kept_step all water kept x rs = go (stays all water (row_of x))
  where
    go : (b : Bool) → map row_of (if b then kept ++ x ∷ [] else kept) ++ kept_of all water rs ≡ map row_of kept ++ (if b then row_of x ∷ kept_of all water rs else kept_of all water rs)
    go true = ap (λ ys. ys ++ kept_of all water rs) (map-append row_of kept (x ∷ [])) ∙ append_assoc (map row_of kept) (row_of x ∷ []) (kept_of all water rs)
    go false = refl

-- one row more
pub kept_more : (all : List Row) (water : ℕ) (rows kept : List program.Row) (i : ℕ) (x : program.Row) → i < length rows → x ≡ get_or rows i x → map row_of (if stays all water (row_of x) then kept ++ x ∷ [] else kept) ++ kept_of all water (map row_of (drop (i + 1) rows)) ≡ map row_of kept ++ kept_of all water (map row_of (drop i rows))
kept_more all water rows kept i x within is =
    kept_step all water kept x (map row_of (drop (i + 1) rows)) ∙ ap (λ rs. map row_of kept ++ kept_of all water (map row_of rs)) (ap (λ y. y ∷ drop (i + 1) rows) is ∙ sym (drop_more rows i x within))

-- no row is left
pub kept_whole : (all : List Row) (water : ℕ) (rows kept : List program.Row) (i : ℕ) → length rows ≤ i → map row_of kept ++ kept_of all water (map row_of (drop i rows)) ≡ kept_of all water (map row_of rows) → map row_of kept ≡ kept_of all water (map row_of rows)
unfolding kept_of
kept_whole all water rows kept i past so_far = sym (ap (λ rs. map row_of kept ++ kept_of all water (map row_of rs)) (drop_all i rows past) ∙ append-nil (map row_of kept)) ∙ so_far
