-- Why what lists tell decides whether stamps can be given with which they are read right.
use Rattle.std.proofs.Common.{◌≡◌, ℕ, ◌||◌, ◌⊎◌, Bool, true, false, List, inl, inr, refl}
use Rattle.trace_rules.specs.declared.wanted.Level.{Level}
use Rattle.trace_rules.specs.declared.wanted.Times.{Times}
use Rattle.trace_rules.specs.declared.wanted.Wanted.{Wanted}
use Rattle.trace_rules.specs.Stamping.{Asked, Keeps, Stampable, Stamping}
use Rattle.trace_rules.specs.Trace.{Trace}
use Rattle.trace_rules.specs.Wants.{asked_of, either}
use Rattle.version_ranks.specs.declared.rank.Rank.{Rank}
use Rattle.version_ranks.specs.Ranks.{asked_with, by_rank}
use Rattle.list_orders.specs.declared.listing.Listing.{Listing}
use Rattle.list_orders.specs.Listings.{ListsStampable}
use Rattle.list_ranks.specs.declared.wrong.WrongList.{WrongList}
use Rattle.list_ranks.specs.Told.{AreTold}
use Rattle.list_ranks.specs.Wrong.{IsWrong}
use Rattle.list_ranks.proofs.FlawLemmas.{wrong_refuses}

-- ---- an order that is either of two
either_of : (a b : Bool) → a || b ≡ true → (a ≡ true) ⊎ (b ≡ true)
either_of true b e = inl refl
either_of false b e = inr e

left : (a b : Bool) → a ≡ true → a || b ≡ true
left true b p = refl
left false b p = absurd (cc)

right : (a b : Bool) → b ≡ true → a || b ≡ true
right true b p = refl
right false b p = p

pub kept_first : (a b : Asked) (st : Stamping) → Keeps (either a b) st → Keeps a st
kept_first a b st keeps x y e = keeps x y (left (a x y) (b x y) e)

pub kept_second : (a b : Asked) (st : Stamping) → Keeps (either a b) st → Keeps b st
kept_second a b st keeps x y e = keeps x y (right (a x y) (b x y) e)

pub kept_both : (a b : Asked) (st : Stamping) → Keeps a st → Keeps b st → Keeps (either a b) st
kept_both a b st one two x y e = elim (either_of (a x y) (b x y) e) [
  | inl first ↦ one x y first
  | inr second ↦ two x y second
]

-- ---- what lists tell
module _ (level : Level) (wanted : Wanted) (trace : Trace) (times : List Times) (listed : List ℕ) (lists : List Listing) (versions ranks : List Rank) (told : AreTold trace listed lists versions ranks) where
  abbrev More : Asked
  More = asked_of wanted level times trace

  pub lists_see : Stampable level (asked_with wanted level times ranks trace) trace → ListsStampable level (asked_with wanted level times versions trace) trace listed lists
  lists_see s =
      let by_ranks = kept_first (by_rank ranks) More s.stamps s.keeps in
      record {
        stamps = s.stamps;
        isolated = s.isolated;
        keeps = kept_both (by_rank versions) More s.stamps (told.fewer s.stamps by_ranks) (kept_second (by_rank ranks) More s.stamps s.keeps);
        sees = told.sees level s.stamps s.isolated by_ranks;
      }

  pub lists_keep : ListsStampable level (asked_with wanted level times versions trace) trace listed lists → Stampable level (asked_with wanted level times ranks trace) trace
  lists_keep s =
      let by_versions = kept_first (by_rank versions) More s.stamps s.keeps in
      record {
        stamps = s.stamps;
        isolated = s.isolated;
        keeps = kept_both (by_rank ranks) More s.stamps (told.keeps level s.stamps s.isolated by_versions s.sees) (kept_second (by_rank versions) More s.stamps s.keeps);
      }

pub wrong_has_none : (level : Level) (asked : Asked) (trace : Trace) (listed : List ℕ) (lists : List Listing) (wrong : WrongList) → IsWrong trace listed lists wrong → ListsStampable level asked trace listed lists → ⊥
wrong_has_none level asked trace listed lists wrong is s = wrong_refuses trace listed lists level s.stamps s.isolated s.sees wrong is
