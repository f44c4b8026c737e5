-- Names in a set of words, as a list of names.
use Rattle.std.proofs.Common.{◌≡◌, ℕ, Bool, true, false, ◌||◌, cond, not, ◌+◌, nat_eq, nat_lt, length, List, [], ◌∷◌, ◌++◌, None, Some, decimal, map, refl, sym, ap, ◌∙◌, option_and_then}
use Rattle.std.specs.Prelude.{Ok}
use Rattle.std.specs.Cmp.Lexicographic.{pointwise}
use Rattle.std.specs.List.{list_any, position, position_or_len}
use Rattle.std.proofs.lemmas.Option.{same_Some}
use Rattle.std.specs.Str.{bytes_eq}
use Rattle.indexmap.specs.IndexSet.{insert_key}
use Rattle.serde_json.specs.Data.{Data}
use Rattle.serde_json.specs.Find.{as_str, as_number, as_u64}
use Rattle.trace_reading.specs.declared.want.Want.{Want}
use Rattle.trace_reading.specs.Names.{number_of, names_with}
use Rattle.trace_reading.specs.Recording.{Recorded, with_name}
use Rattle.trace_reading.specs.Operations.{named}

found : (b : Bool) (n place : ℕ) → Some place ≡ cond b (Some n) None → place ≡ n
found true n place is = same_Some _ _ is
found false n place is = absurd (cc)

-- the place at which a search found something
place_found : {W : Type 0} (test : W → Bool) (words : List W) (place : ℕ) → Some place ≡ position test words → place ≡ position_or_len test words
place_found test words place is = found (nat_lt (position_or_len test words) (length words)) (position_or_len test words) place is

module _ {W : Type 0} (bytes : W → List ℕ) where
  -- a name is found among words where it is among their names, at the same place
  pub any-bytes : (name : List ℕ) (words : List W) → list_any (λ word. pointwise nat_eq name (bytes word)) words ≡ list_any (bytes_eq name) (map bytes words)
  any-bytes name [] = refl
  any-bytes name (word ∷ words) = ap (λ found. pointwise nat_eq name (bytes word) || found) (any-bytes name words)

  pub place-bytes : (name : List ℕ) (words : List W) → position_or_len (λ word. pointwise nat_eq name (bytes word)) words ≡ number_of name (map bytes words)
  place-bytes name [] = refl
  place-bytes name (word ∷ words) = ap (λ place. cond (not (pointwise nat_eq name (bytes word))) (1 + place) 0) (place-bytes name words)

  pub place_there : (name : List ℕ) (words : List W) (place : ℕ) → Some place ≡ position (λ word. pointwise nat_eq name (bytes word)) words → place ≡ number_of name (map bytes words)
  place_there name words place is = place_found (λ word. pointwise nat_eq name (bytes word)) words place is ∙ place-bytes name words

  map-push : (words : List W) (word : W) → map bytes (words ++ word ∷ []) ≡ map bytes words ++ bytes word ∷ []
  map-push [] word = refl
  map-push (first ∷ words) word = ap (λ rest. bytes first ∷ rest) (map-push words word)

  map-cond : (b : Bool) (xs ys : List W) → map bytes (cond b xs ys) ≡ cond b (map bytes xs) (map bytes ys)
  map-cond true xs ys = refl
  map-cond false xs ys = refl

  -- a word goes last where its name is not there
  pub inserted-bytes : (words : List W) (word : W) → map bytes (insert_key (λ a b. pointwise nat_eq (bytes a) (bytes b)) words word) ≡ names_with (bytes word) (map bytes words)
  inserted-bytes words word =
      map-cond (list_any (λ other. pointwise nat_eq (bytes word) (bytes other)) words) words (words ++ word ∷ [])
      ∙ ap (λ names. cond (list_any (λ other. pointwise nat_eq (bytes word) (bytes other)) words) (map bytes words) names) (map-push words word)
      ∙ ap (λ b. cond b (map bytes words) (map bytes words ++ bytes word ∷ [])) (any-bytes (bytes word) words)

-- a name that is there adds nothing
pub names_same : (name : List ℕ) (names : List (List ℕ)) → list_any (bytes_eq name) names ≡ true → names ≡ names_with name names
names_same name names there = rw there refl

-- a text is its name, and a whole number the name of its digits
pub named_text : (r : Recorded) (w : Want) (d : Data) (text : List ℕ) → Some text ≡ as_str d → named r w (Some d) ≡ Ok (number_of text r.names, with_name text r)
named_text r w d text is = rw (sym is) refl

pub named_number : (r : Recorded) (w : Want) (d : Data) (n : ℕ) → None ≡ as_str d → Some n ≡ option_and_then as_u64 (as_number d) → named r w (Some d) ≡ Ok (number_of (decimal n) r.names, with_name (decimal n) r)
named_number r w d n no_text is = rw (sym no_text, sym is) refl
