-- Fronts of one list, for the rule of a beacon.
use Rattle.std.proofs.Common.{◌≡◌, ◌≤◌, List, ◌++◌, take, length, inl, inr, refl, sym, ap, ◌∙◌, arith}
use Rattle.std.specs.Prelude.{nat_lt}
use Rattle.std.proofs.lemmas.Bool.{cases_Bool, ltb-true, ltb-false, le-ltb}
use Rattle.std.proofs.lemmas.List.{length-take, take-take, take_all, take-append-le}
use Rattle.master_beacon.specs.declared.rule.Announced.{Announced}
use Rattle.master_beacon.specs.Announcements.{IsFrontOf, longer}

pub front_of_itself : (list : List Announced) → IsFrontOf list list
front_of_itself list = sym (take_all (length list) list (omega arith))

pub front_length : (front whole : List Announced) → IsFrontOf front whole → length front ≤ length whole
front_length front whole is =
    let same : length front ≡ length (take (length front) whole) = ap length is in
    omega (arith, length-take (length front) whole, same)

pub front_of_more : (front whole more : List Announced) → IsFrontOf front whole → IsFrontOf front (whole ++ more)
front_of_more front whole more is = is ∙ sym (take-append-le (length front) whole more (front_length front whole is))

-- of two fronts of one list the shorter is a front of the longer
pub front_of_front : (front other whole : List Announced) → IsFrontOf front whole → IsFrontOf other whole → length front ≤ length other → IsFrontOf front other
front_of_front front other whole is its le = is ∙ (sym (take-take (length front) (length other) whole le) ∙ ap (take (length front)) (sym its))

-- the longer of two fronts
pub record HasBoth (whole mine theirs both : List Announced) : Type 0 where
  pub seen : IsFrontOf both whole
  pub own : IsFrontOf mine both
  pub other : IsFrontOf theirs both

longer_is : (mine theirs : List Announced) (P : List Announced → Type 0) → (length mine ≤ length theirs → P theirs) → (length theirs ≤ length mine → P mine) → P (longer mine theirs)
longer_is mine theirs P other own = elim (cases_Bool (nat_lt (length mine) (length theirs))) [
  | inl less ↦ let lt = ltb-true (length mine) (length theirs) less in rw less (other (omega (arith, lt)))
  | inr more ↦ rw more (own (ltb-false (length mine) (length theirs) more))
]

pub longer_has_both : (whole mine theirs : List Announced) → IsFrontOf mine whole → IsFrontOf theirs whole → HasBoth whole mine theirs (longer mine theirs)
longer_has_both whole mine theirs is its =
    longer_is mine theirs (HasBoth whole mine theirs)
    (λ le. record { seen = its; own = front_of_front mine theirs whole is its le; other = front_of_itself theirs })
    (λ le. record { seen = is; own = front_of_itself mine; other = front_of_front theirs mine whole its is le })

-- no front of a list is longer than the list
pub whole_is_longer : (whole front : List Announced) → IsFrontOf front whole → longer whole front ≡ whole
whole_is_longer whole front is = rw (le-ltb (length whole) (length front) (front_length front whole is)) refl
