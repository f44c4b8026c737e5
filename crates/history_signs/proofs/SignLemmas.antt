-- One more sign.
use Rattle.std.proofs.Common.{◌≡◌, ℕ, List, [], ◌∷◌, ◌++◌, ◌⊎◌, inl, inr, Option, Some, length, subst}
use Rattle.std.specs.Prelude.{IfSome, slice_get}
use Rattle.history_book.proofs.MemberLemmas.{slice_get-push}
use Rattle.history_signs.specs.declared.chosen.Chosen.{Chosen}
use Rattle.history_signs.specs.declared.sign.Sign.{Sign}
use Rattle.history_signs.specs.Signs.{IsSign}

abbrev pub Each : List ℕ → List ℕ → List Chosen → List Sign → Type 0
Each lanes ringed chosen signs = (column : ℕ) (x : Chosen) (sign : Sign) → slice_get chosen column ≡ Some x → slice_get signs column ≡ Some sign → IsSign lanes ringed chosen column x sign

last_sign : (lanes : List ℕ) (ringed : List ℕ) (chosen : List Chosen) (column : ℕ) (x : Chosen) (sign : Sign)
    → IfSome (slice_get chosen column) (λ there. IsSign lanes ringed chosen column there sign) → slice_get chosen column ≡ Some x → IsSign lanes ringed chosen column x sign
last_sign lanes ringed chosen column x sign is stands = subst (λ (o : Option Chosen). IfSome o (λ there. IsSign lanes ringed chosen column there sign)) stands is

one_more : (lanes : List ℕ) (ringed : List ℕ) (chosen : List Chosen) (signs : List Sign) (new : Sign) (column : ℕ) (x : Chosen) (sign : Sign)
    → Each lanes ringed chosen signs → IfSome (slice_get chosen (length signs)) (λ there. IsSign lanes ringed chosen (length signs) there new)
    → slice_get chosen column ≡ Some x → (slice_get signs column ≡ Some sign) ⊎ ((sign ≡ new) × (column ≡ length signs)) → IsSign lanes ringed chosen column x sign
one_more lanes ringed chosen signs new column x sign each is stands (inl earlier) = each column x sign stands earlier
one_more lanes ringed chosen signs new column x sign each is stands (inr (same, at)) =
    rw same (last_sign lanes ringed chosen column x new (rw at is) stands)

pub each_more : (lanes : List ℕ) (ringed : List ℕ) (chosen : List Chosen) (signs : List Sign) (new : Sign)
    → Each lanes ringed chosen signs → IfSome (slice_get chosen (length signs)) (λ there. IsSign lanes ringed chosen (length signs) there new) → Each lanes ringed chosen (signs ++ new ∷ [])
each_more lanes ringed chosen signs new each is = λ column x sign stands found. one_more lanes ringed chosen signs new column x sign each is stands (slice_get-push signs new column sign found)
