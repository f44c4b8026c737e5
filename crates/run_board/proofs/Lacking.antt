-- Which nodes are noted to lack stamps.
use Rattle.run_board.proofs.Names.{◌≡◌, ℕ, zero, suc, ◌⊎◌, Bool, true, false, List, [], ◌∷◌, Option, Some, None, inl}
use Rattle.run_board.proofs.Names.{inr, refl, sym, ap, replicate, slice_index_or, slice_set, true≢false, Interruption}
use Rattle.run_board.proofs.Names.{finds_no_stamp, lacking_after, cleared}
use Rattle.command_semantics.specs.declared.point.Interruption.TheVariants as halt
use Rattle.turn_rules.specs.declared.turn.Turn.TheVariants as turn

-- a decision that finds no stamp is noted, and no other
pub noted : (lacking : List Bool) (node session : ℕ) (stop : Option Interruption) → finds_no_stamp stop ≡ true → lacking_after lacking (turn.Decide node session) stop ≡ slice_set lacking node true
noted lacking node session (Some halt.NoStamp) is = refl
noted lacking node session (Some halt.NotYet) is = absurd (true≢false (sym is))
noted lacking node session (Some halt.Refused) is = absurd (true≢false (sym is))
noted lacking node session (Some halt.Faulted) is = absurd (true≢false (sym is))
noted lacking node session None is = absurd (true≢false (sym is))

-- what is noted then
pub noted_at : (lacking : List Bool) (node m : ℕ) → slice_index_or (slice_set lacking node true) m false ≡ true → (m ≡ node) ⊎ (slice_index_or lacking m false ≡ true)
noted_at [] node m is = inr is
noted_at (b ∷ bs) zero zero is = inl refl
noted_at (b ∷ bs) zero (suc m) is = inr is
noted_at (b ∷ bs) (suc node) zero is = inr is
noted_at (b ∷ bs) (suc node) (suc m) is = elim (noted_at bs node m is) [
  | inl here ↦ inl (ap suc here)
  | inr there ↦ inr there
]

pub none_cleared : (lacking : List Bool) (m : ℕ) → slice_index_or (cleared lacking) m false ≡ true → ⊥
none_cleared [] m is = true≢false (sym is)
none_cleared (b ∷ bs) zero is = true≢false (sym is)
none_cleared (b ∷ bs) (suc m) is = none_cleared bs m is

pub none_at_first : (nodes m : ℕ) → slice_index_or (replicate nodes false) m false ≡ true → ⊥
none_at_first zero m is = true≢false (sym is)
none_at_first (suc n) zero is = true≢false (sym is)
none_at_first (suc n) (suc m) is = none_at_first n m is
