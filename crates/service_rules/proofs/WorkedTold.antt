-- The small histories of told outcomes, gone through place by place.
use Rattle.std.proofs.Common.{◌≡◌, ℕ, None, Some, inl, inr, refl}
use Rattle.history_book.specs.Members.{◌∈◌}
use Rattle.history_book.specs.declared.cause.Cause.TheVariants as cause
use Rattle.history_book.specs.declared.item.Actor.TheVariants.{Session}
use Rattle.history_book.specs.declared.item.Ending.TheVariants.{Aborted}
use Rattle.history_book.specs.declared.item.Item.TheVariants.{Committed, End, Refused}
use Rattle.service_rules.specs.Told.{WasPlaced, NeverPlaced, ToldIsTrue}
use Rattle.service_rules.proofs.Walks.{Walks, walked}
use Rattle.service_rules.specs.Worked.{placed_then_told, told_then_placed, refused_then_placed, placed_then_refused, refused_begin, ended_then_placed}

-- ---- what is told too early, or never comes true
pub early_wrong : ToldIsTrue told_then_placed → ⊥
unfolding ◌∈◌
early_wrong is = elim (is.committed.at 1 (Committed 0 1 2) refl) [ inl e ↦ cc | inr none ↦ none ]

pub refused_wrong : ToldIsTrue (refused_then_placed (cause.Expired 5 5)) → ⊥
unfolding ◌∈◌
refused_wrong is = is.over.at 1 (Refused (Session 0) (cause.Expired 5 5)) refl 1 2 refl (inr (inr (inl refl)))

pub placed_wrong : ToldIsTrue (placed_then_refused (cause.Expired 5 5)) → ⊥
unfolding ◌∈◌
placed_wrong is = is.over.at 2 (Refused (Session 0) (cause.Expired 5 5)) refl 1 2 refl (inr (inl refl))

pub invalid_wrong : ToldIsTrue (refused_then_placed (cause.Invalid 1)) → ⊥
unfolding ◌∈◌
invalid_wrong is = is.over.at 1 (Refused (Session 0) (cause.Invalid 1)) refl 1 2 refl (inr (inr (inl refl)))

pub ended_wrong : ToldIsTrue ended_then_placed → ⊥
unfolding ◌∈◌
ended_wrong is = is.over.at 1 (End 0 1 Aborted) refl 1 2 refl (inr (inr (inl refl)))

-- ---- what is true
no_start : (start : ℕ) → None ≡ Some start → ⊥
no_start start is = cc

pub told_true : ToldIsTrue placed_then_told
unfolding Walks ◌∈◌
told_true = record {
  committed = walked WasPlaced placed_then_told (tt, (tt, (inr (inl refl), tt)));
  over = walked (NeverPlaced placed_then_told) placed_then_told ((λ start commit is m. no_start start is), ((λ start commit is m. no_start start is), ((λ start commit is m. no_start start is), tt)));
}

pub open_true : ToldIsTrue (refused_then_placed (cause.Open 1))
unfolding Walks
open_true = record {
  committed = walked WasPlaced (refused_then_placed (cause.Open 1)) (tt, (tt, (tt, tt)));
  over = walked (NeverPlaced (refused_then_placed (cause.Open 1))) (refused_then_placed (cause.Open 1)) ((λ start commit is m. no_start start is), ((λ start commit is m. no_start start is), ((λ start commit is m. no_start start is), tt)));
}

-- the refusal of a begin names no transaction
pub begin_true : ToldIsTrue refused_begin
unfolding Walks ◌∈◌
begin_true = record {
  committed = walked WasPlaced refused_begin (tt, (tt, (inr (inl refl), (tt, (tt, tt)))));
  over = walked (NeverPlaced refused_begin) refused_begin ((λ start commit is m. no_start start is), ((λ start commit is m. no_start start is), ((λ start commit is m. no_start start is), ((λ start commit is m. no_start start is), ((λ start commit is m. no_start start is), tt)))));
}
