-- How a row is filled, step by step.
use Rattle.std.proofs.Common.{◌≡◌, ◌≤◌, ℕ, Bor, length, drop, map, get_or, arith, List, [], ◌∷◌, ◌++◌, Option, None, Some, sym, ap, ◌∙◌}
use Rattle.std.proofs.lemmas.Option.{same_Some}
use Rattle.std.specs.Prelude.{option_and_then}
use Rattle.std.specs.Option.{option_map}
use Rattle.serde_json.specs.Data.{Data}
use Rattle.history_json.specs.Words.{said_by, filled}

filled_some : (text new : List ℕ) (said : Option (List ℕ)) (more : List (List ℕ)) (d : Data) → option_map (λ s. text ++ s) said ≡ Some new
    → option_and_then (λ s. filled (text ++ s) more d) said ≡ filled new more d
filled_some text new None more d e = cc
filled_some text new (Some s) more d e = ap (λ t. filled t more d) (same_Some _ _ e)

-- one more member said something
pub row_step : (old mid bytes new : List ℕ) (left : List (Bor (List ℕ))) (dflt : Bor (List ℕ)) (d : Data) (all : Option (List ℕ)) → 2 ≤ length left
    → mid ≡ old ++ bytes → bytes ≡ (get_or left 0 dflt).now → option_map (λ s. mid ++ s) (said_by (get_or left 1 dflt).now d) ≡ Some new
    → filled old (map (λ p. p.now) left) d ≡ all → filled new (map (λ p. p.now) (drop 2 left)) d ≡ all
unfolding filled
row_step old mid bytes new [] dflt d all two added is said told = absurd (omega (arith, two))
row_step old mid bytes new (x ∷ []) dflt d all two added is said told = absurd (omega (arith, two))
row_step old mid bytes new (x ∷ y ∷ more) dflt d all two added is said told =
    sym (filled_some (old ++ x.now) new (said_by y.now d) (map (λ p. p.now) more) d (rw (added, is) at said)) ∙ told

-- a member says nothing
pub row_none : (text : List ℕ) (left : List (Bor (List ℕ))) (dflt : Bor (List ℕ)) (d : Data) (all : Option (List ℕ)) → 2 ≤ length left
    → said_by (get_or left 1 dflt).now d ≡ None → filled text (map (λ p. p.now) left) d ≡ all → None ≡ all
unfolding filled
row_none text [] dflt d all two none told = absurd (omega (arith, two))
row_none text (x ∷ []) dflt d all two none told = absurd (omega (arith, two))
row_none text (x ∷ y ∷ more) dflt d all two none told = rw none at told
