-- How many members an object has.
use Rattle.std.proofs.Common.{◌≡◌, ◌+◌, ◌<◌, ℕ, suc, length, arith, List, [], ◌∷◌, ap, Some, refl, subst}
use Rattle.std.specs.Prelude.{IfSome, String}
use Rattle.std.specs.declared.alloc.Global.{Global}
use Rattle.serde_json.specs.Data.{Data}
use Rattle.serde_json.specs.Find.{as_object}
use Rattle.serde_json.specs.View.{members_view}
use Rattle.serde_json.specs.declared.value.Value.{Value}
use Rattle.line_reasons.specs.Objects.{HasMore, count_of, names_in}

counted : (entries : List (String Global × Value)) → count_of (members_view entries) ≡ length entries
unfolding count_of
counted [] = refl
counted (x ∷ xs) = ap suc (counted xs)

pub more_there : (row : List (List ℕ)) (d : Data) (entries : List (String Global × Value)) (names len : ℕ) → Some (members_view entries) ≡ as_object d
    → names ≡ names_in row → len ≡ length entries → names + 1 < len → HasMore row d
more_there row d entries names len is named long less =
    let all : count_of (members_view entries) ≡ length entries = counted entries in
    subst (λ o. IfSome o (λ members. suc (names_in row) < count_of members)) is (omega (arith, named, long, less, all))
