-- The last pair of a published list, and lists that rise, after one pair more.
use Rattle.std.proofs.Common.{◌≡◌, ◌<◌, true, List, [], ◌∷◌, ◌++◌, refl, ap, Option, Some, None}
use Rattle.std.specs.Prelude.{All}
use Rattle.std.specs.List.{last_or}
use Rattle.std.proofs.lemmas.Bool.{and_parts, and_from, lt-ltb}
use Rattle.std.proofs.lemmas.List.Elements.{All-head, All-tail}
use Rattle.master_beacon.specs.declared.rule.Announced.{Announced}
use Rattle.master_beacon.specs.Announcements.{last_of, term_of, last_term, rises_above, IsRising}
use Rattle.master_beacon.specs.Rule.{IsPair, IsPairOrNone}

last_or-push : (o : Option Announced) (list : List Announced) (pair : Announced) → last_or o (list ++ pair ∷ []) ≡ Some pair
last_or-push o [] pair = refl
last_or-push o (x ∷ xs) pair = last_or-push (Some x) xs pair

pub last_of-push : (list : List Announced) (pair : Announced) → last_of (list ++ pair ∷ []) ≡ Some pair
last_of-push list pair = last_or-push None list pair

pub last_term-push : (list : List Announced) (pair : Announced) → last_term (list ++ pair ∷ []) ≡ pair.term
last_term-push list pair = ap term_of (last_of-push list pair)

rises_on : (o : Option Announced) (list : List Announced) (pair : Announced) → rises_above (term_of o) list ≡ true → term_of (last_or o list) < pair.term → rises_above (term_of o) (list ++ pair ∷ []) ≡ true
rises_on o [] pair rises above = and_from _ _ (lt-ltb _ _ above) refl
rises_on o (x ∷ xs) pair rises above =
    let parts = and_parts _ _ rises in
    and_from _ _ parts.0 (rises_on (Some x) xs pair parts.1 above)

pub rising-push : (list : List Announced) (pair : Announced) → IsRising list → last_term list < pair.term → IsRising (list ++ pair ∷ [])
rising-push list pair rises above = rises_on None list pair rises above

last_or-is : (o : Option Announced) (list : List Announced) → IsPairOrNone o → All IsPair list → IsPairOrNone (last_or o list)
last_or-is o [] first all = first
last_or-is o (x ∷ xs) first all = last_or-is (Some x) xs (All-head IsPair x xs all) (All-tail IsPair x xs all)

pub last_is_pair : (list : List Announced) → All IsPair list → IsPairOrNone (last_of list)
last_is_pair list all = last_or-is None list tt all
