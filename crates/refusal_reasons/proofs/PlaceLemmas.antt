-- Places that are all there, items that fit by what they are, and the last take of a node.
use Rattle.std.proofs.Common.{◌≡◌, ℕ, ◌==◌, ◌&&◌, Bool, true, false, if◌then◌else◌, List, Option, Some, None, take, drop, is_some, refl, sym, subst, ap, ◌∙◌}
use Rattle.std.specs.Prelude.{slice_get, IfSome}
use Rattle.std.specs.Option.{option_or}
use Rattle.std.proofs.lemmas.Bool.{eqb-true, eq-eqb}
use Rattle.std.proofs.lemmas.Option.{same_Some}
use Rattle.history_book.specs.Members.{◌∈◌}
use Rattle.history_book.specs.declared.item.Item.{Item}
use Rattle.history_book.specs.declared.item.Item.TheVariants as item
use Rattle.cause_rules.specs.Asks.{asks_for, since_ask}
use Rattle.cause_rules.specs.OwnKeys.{begins_for, since_begin}
use Rattle.cause_rules.specs.Posts.{Taken, last_take, take_by, takes_for, since_take}
use Rattle.refusal_reasons.specs.declared.clue.Clue.{Clue}
use Rattle.refusal_reasons.specs.Clues.{fits}
use Rattle.refusal_reasons.specs.Sought.{passes, seek}
use Rattle.refusal_reasons.specs.Showing.{one_place, two_places, three_places, ask_from, begin_from, take_place, take_from, last_take_at}
use Rattle.refusal_reasons.proofs.SeekLemmas.{found, last_is, Known, known}
use Rattle.refusal_reasons.proofs.PartLemmas.{in_drop, drop_in, since_is, Tells, told_is, ToldAt}

-- ---- all places are there
abbrev pub IsPlace : Option ℕ → Type 0
IsPlace o = (place : ℕ) × (o ≡ Some place)

pub one_found : (b : Bool) (o : Option ℕ) → b ≡ true → IsPlace o → is_some (one_place b o) ≡ true
one_found b o agrees at = rw (agrees, at.1) refl

pub one_parts : (b : Bool) (o : Option ℕ) → is_some (one_place b o) ≡ true → (b ≡ true) × IsPlace o
one_parts true (Some a) e = (refl, (a, refl))
one_parts true None e = absurd cc
one_parts false o e = absurd cc

pub two_found : (b : Bool) (o p : Option ℕ) → b ≡ true → IsPlace o → IsPlace p → is_some (two_places b o p) ≡ true
two_found b o p agrees at and = rw (agrees, at.1, and.1) refl

pub two_parts : (b : Bool) (o p : Option ℕ) → is_some (two_places b o p) ≡ true → (b ≡ true) × (IsPlace o × IsPlace p)
two_parts true (Some a) (Some c) e = (refl, ((a, refl), (c, refl)))
two_parts true (Some a) None e = absurd cc
two_parts true None p e = absurd cc
two_parts false o p e = absurd cc

pub three_found : (b : Bool) (o p q : Option ℕ) → b ≡ true → IsPlace o → IsPlace p → IsPlace q → is_some (three_places b o p q) ≡ true
three_found b o p q agrees at and third = rw (agrees, at.1, and.1, third.1) refl

pub three_parts : (b : Bool) (o p q : Option ℕ) → is_some (three_places b o p q) ≡ true → (b ≡ true) × (IsPlace o × (IsPlace p × IsPlace q))
three_parts true (Some a) (Some c) (Some d) e = (refl, ((a, refl), ((c, refl), (d, refl))))
three_parts true (Some a) (Some c) None e = absurd cc
three_parts true (Some a) None q e = absurd cc
three_parts true None p q e = absurd cc
three_parts false o p q e = absurd cc

-- one of two places
pub place_or : (o p : Option ℕ) → IsPlace p → IsPlace (option_or o p)
place_or None p at = at
place_or (Some a) p at = (a, refl)

-- ---- an item that stands in the history, or behind a place, is found
pub same : (n : ℕ) → (n == n) ≡ true
same n = eq-eqb n n refl

pub both : (a b : ℕ) → ((a == a) && (b == b)) ≡ true
both a b = ap (λ t. t && (b == b)) (same a) ∙ same b

pub seek_in : (h : List Item) (from : ℕ) (sought : Clue) (x : Item) → x ∈ drop from h → fits sought x ≡ true → IsPlace (seek h from sought)
seek_in h from sought x m is = let at = in_drop x h from m in let f = found (fits sought) h from at.0 x at.1.0 at.1.1 is in (f.place, f.is)

pub seek_all : (h : List Item) (sought : Clue) (x : Item) → x ∈ h → fits sought x ≡ true → IsPlace (seek h 0 sought)
seek_all h sought x m is = seek_in h 0 sought x m is

-- what is found stands there
pub sought_in : (h : List Item) (from place : ℕ) (sought : Clue) → seek h from sought ≡ Some place → (x : Item) × ((x ∈ drop from h) × (fits sought x ≡ true))
sought_in h from place sought is = let last = last_is (fits sought) h from place is in (last.item, (drop_in last.item h from place last.from_on last.stands, last.fits))

-- ---- the last take of a node
which : (b : Bool) (r take : Taken) → (if b then Some r else None) ≡ Some take → (b ≡ true) × (r ≡ take)
which true r take e = (refl, same_Some r take e)
which false r take e = absurd cc

take_no : (n : ℕ) (x : Item) → takes_for n x ≡ false → take_by n x ≡ None
take_no n (item.Take node reading term epoch until ceiling) e = rw e refl
take_no n _ e = refl

take_one : (n : ℕ) (x : Item) → takes_for n x ≡ true → is_some (take_by n x) ≡ true
take_one n (item.Take node reading term epoch until ceiling) e = rw e refl
take_one n _ e = absurd cc

pub takes_tell : (n : ℕ) → Tells (take_by n) (takes_for n)
takes_tell n = record { no = take_no n; one = take_one n }

-- it stands at its place
pub record TakeAt (h : List Item) (n : ℕ) (last : Taken) : Type 0 where
  pub place : ℕ
  pub at : take_place h n ≡ Some place
  pub reading : ℕ
  pub ceiling : ℕ
  pub stands : slice_get h place ≡ Some (item.Take n reading last.term last.epoch last.until ceiling)

take_form : (n : ℕ) (x : Item) (last : Taken) → take_by n x ≡ Some last → (reading : ℕ) × ((ceiling : ℕ) × (x ≡ item.Take n reading last.term last.epoch last.until ceiling))
take_form n (item.Take node reading term epoch until ceiling) last e =
    let parts = which (node == n) (record { term = term; epoch = epoch; until = until }) last e in
    (reading, (ceiling, rw (sym parts.1, eqb-true node n parts.0) refl))
take_form n _ last e = absurd cc

take_by_place : (h : List Item) (n : ℕ) (last : Taken) (place : Option ℕ) → take_place h n ≡ place → ToldAt (take_by n) h place → Known (takes_for n) h 0 place → last_take h n ≡ Some last → TakeAt h n last
take_by_place h n last None is told none e = absurd cc
take_by_place h n last (Some place) is told known e =
    let here : IfSome (Some known.item) (λ x. last_take h n ≡ take_by n x) = subst (λ (o : Option Item). IfSome o (λ x. last_take h n ≡ take_by n x)) known.stands told in
    let form = take_form n known.item last (sym here ∙ e) in
    record { place = place; at = is; reading = form.0; ceiling = form.1.0; stands = known.stands ∙ ap Some form.1.1 }

pub take_at : (h : List Item) (n : ℕ) (last : Taken) → last_take h n ≡ Some last → TakeAt h n last
take_at h n last e = take_by_place h n last (take_place h n) refl (told_is (take_by n) (takes_for n) h (takes_tell n)) (known (takes_for n) h 0) e

-- the last take fits, where it is what the test asks for
pub take_fits : (test : Item → Bool) (h : List Item) (n : ℕ) (last : Taken) (e : last_take h n ≡ Some last) → ((reading ceiling : ℕ) → test (item.Take n reading last.term last.epoch last.until ceiling) ≡ true) → IsPlace (last_take_at test h (take_place h n))
take_fits test h n last e is =
    let t = take_at h n last e in
    let fine : test (item.Take n t.reading last.term last.epoch last.until t.ceiling) ≡ true = is t.reading t.ceiling in
    (t.place, rw (t.at, t.stands, fine) refl)

-- ---- and the other way round
pub record TakeFits (test : Item → Bool) (h : List Item) (n : ℕ) : Type 0 where
  pub last : Taken
  pub is : last_take h n ≡ Some last
  pub reading : ℕ
  pub ceiling : ℕ
  pub fits : test (item.Take n reading last.term last.epoch last.until ceiling) ≡ true

fits_form : (test : Item → Bool) (h : List Item) (n : ℕ) (x : Item) → takes_for n x ≡ true → last_take h n ≡ take_by n x → test x ≡ true → TakeFits test h n
fits_form test h n (item.Take node reading term epoch until ceiling) own told is =
    let at : node ≡ n = eqb-true node n own in
    record { last = record { term = term; epoch = epoch; until = until }; is = told ∙ rw own refl; reading = reading; ceiling = ceiling; fits = subst (λ (m : ℕ). test (item.Take m reading term epoch until ceiling) ≡ true) at is }
fits_form test h n _ own told is = absurd cc

fits_there : (test : Item → Bool) (h : List Item) (n place : ℕ) (there : Option Item) (x : Item) → there ≡ Some x → IsPlace (if passes test there then Some place else None) → test x ≡ true
fits_there test h n place None x is e = absurd cc
fits_there test h n place (Some y) x is e = subst (λ (z : Item). test z ≡ true) (same_Some y x is) (passing (test y) e) where
  passing : (b : Bool) → IsPlace (if b then Some place else None) → b ≡ true
  passing true at = refl
  passing false at = absurd (let e = at.1 in cc)

by_take_place : (test : Item → Bool) (h : List Item) (n : ℕ) (place : Option ℕ) → ToldAt (take_by n) h place → Known (takes_for n) h 0 place → IsPlace (last_take_at test h place) → TakeFits test h n
by_take_place test h n None told none e = absurd (let at = e.1 in cc)
by_take_place test h n (Some place) told known e =
    let here : IfSome (Some known.item) (λ x. last_take h n ≡ take_by n x) = subst (λ (o : Option Item). IfSome o (λ x. last_take h n ≡ take_by n x)) known.stands told in
    fits_form test h n known.item known.fits here (fits_there test h n place (slice_get h place) known.item known.stands e)

pub fits_take : (test : Item → Bool) (h : List Item) (n : ℕ) → IsPlace (last_take_at test h (take_place h n)) → TakeFits test h n
fits_take test h n e = by_take_place test h n (take_place h n) (told_is (take_by n) (takes_for n) h (takes_tell n)) (known (takes_for n) h 0) e

-- ---- the parts since the ask, the draw and the take, by their places
pub ask_part : (h : List Item) (s : ℕ) → since_ask h s ≡ drop (ask_from h s) h
ask_part h s = since_is (asks_for s) h

pub begin_part : (h : List Item) (s : ℕ) → since_begin h s ≡ drop (begin_from h s) h
begin_part h s = since_is (begins_for s) h

pub take_part : (h : List Item) (n : ℕ) → since_take h n ≡ drop (take_from h n) h
take_part h n = since_is (takes_for n) h
