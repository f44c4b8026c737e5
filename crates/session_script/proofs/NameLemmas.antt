-- The names in a set of words, as a list of names.
use Rattle.std.proofs.Common.{◌≡◌, ℕ, Bool, false, ◌||◌, nat_eq, List, [], ◌∷◌, ◌++◌, map, refl, ap}
use Rattle.std.specs.Cmp.Lexicographic.{pointwise}
use Rattle.std.specs.List.{list_any}
use Rattle.std.specs.Str.{bytes_eq}
use Rattle.indexmap.specs.IndexSet.{insert_key}

module _ {W : Type 0} (bytes : W → List ℕ) where
  -- a word is found among words where its bytes are among theirs
  pub any-bytes : (name : List ℕ) (words : List W) → list_any (λ word. pointwise nat_eq name (bytes word)) words ≡ list_any (bytes_eq name) (map bytes words)
  any-bytes name [] = refl
  any-bytes name (word ∷ words) = ap (λ found. pointwise nat_eq name (bytes word) || found) (any-bytes name words)

  map-push : (words : List W) (word : W) → map bytes (words ++ word ∷ []) ≡ map bytes words ++ bytes word ∷ []
  map-push [] word = refl
  map-push (first ∷ words) word = ap (λ rest. bytes first ∷ rest) (map-push words word)

  -- a word that is not among them goes last
  pub inserted-bytes : (words : List W) (word : W) (eq : W → W → Bool) → list_any (eq word) words ≡ false → map bytes (insert_key eq words word) ≡ map bytes words ++ bytes word ∷ []
  inserted-bytes words word eq absent = rw absent (map-push words word)
