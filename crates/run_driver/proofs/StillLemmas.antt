-- For this crate's own proofs.
-- A share that did not come up leaves what all shares count as it was.
use Rattle.std.proofs.Common.{◌≡◌, ℕ, ◌<◌, ◌≤◌, Bool, true, false, ◌||◌, List, get_or, refl, ◌∙◌, sym, arith}
use Rattle.std.specs.Prelude.{slice_set}
use Rattle.std.proofs.Math.Seq.{map-set_same}
use Rattle.thread_steps.specs.Done.{Done}
use Rattle.run_driver.specs.Rounds.{AreStill}

pub none_made : (a b : Bool) → (a || b) ≡ false → (a ≡ false) × (b ≡ false)
none_made false false is = (refl, refl)
none_made false true is = absurd (cc)
none_made true b is = absurd (cc)

no_rise : (old new : ℕ) (made : Bool) → old ≤ new → (old < new → made ≡ true) → made ≡ false → new ≡ old
no_rise old new made low rise quiet = let none : old < new → ⊥ = λ up. let clash : true ≡ false = sym (rise up) ∙ quiet in absurd (cc) in omega (arith, none, low)

pub still_more : (old now : List Done) (i : ℕ) (share d : Done) (made : Bool) → AreStill old now → (get_or now i d).amount ≤ share.amount → ((get_or now i d).amount < share.amount → made ≡ true) → made ≡ false → AreStill old (slice_set now i share)
still_more old now i share d made so low rise quiet = map-set_same (λ (s : Done). s.amount) now i share d (no_rise (get_or now i d).amount share.amount made low rise quiet) ∙ so
