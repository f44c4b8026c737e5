-- A log with one entry more, and one from which an entry's items were struck.
use Rattle.std.proofs.Common.{◌≡◌, ℕ, ◌+◌, ◌-◌, ◌<◌, ◌≤◌, Bool, true, ◌&&◌, List, [], ◌∷◌, ◌++◌, length, set, refl, sym, ap, ◌∙◌, subst, lt-ltb, arith}
use Rattle.std.specs.Prelude.{get_or, slice_get, slice_set, MatchOption, false, Some}
use Rattle.std.proofs.lemmas.Bool.{and_parts}
use Rattle.std.proofs.lemmas.List.Elements.{All-head, All-tail}
use Rattle.std.proofs.lemmas.List.{map-append}
use Rattle.std.proofs.lemmas.List.Sums.{sum_by-set}
use Rattle.std.proofs.Math.Seq.{map-set_same}
use Rattle.tick_word.specs.Rule.{AllUpTo}
use Rattle.tick_word.specs.Seats.{Seated}
use Rattle.split_parts.specs.declared.event.Event.{Event}
use Rattle.split_parts.specs.declared.event.Event.TheVariants as event
use Rattle.split_stores.specs.declared.seat.Entry.{Entry}
use Rattle.split_stores.specs.Logs.{CanRise, ticks_of, rises_above, rise_of, risen_by, IsKept, Logged, SameLog, Strikes}

both_true : (a b : Bool) → a ≡ true → b ≡ true → (a && b) ≡ true
both_true a b p q = ap (λ x. x && b) p ∙ q

rises-push : (low : ℕ) (xs : List ℕ) (t : ℕ) → rises_above low xs ≡ true → low < t → AllUpTo (t - 1) xs → 0 < t → rises_above low (xs ++ t ∷ []) ≡ true
rises-push low [] t h above all positive = both_true _ _ (lt-ltb _ _ above) refl
rises-push low (x ∷ xs) t h above all positive =
    let p = and_parts _ _ h in
    let mine : x ≤ t - 1 = All-head (λ y. y ≤ t - 1) x xs all in
    both_true _ _ p.0 (rises-push x xs t p.1 (omega arith) (All-tail (λ y. y ≤ t - 1) x xs all) positive)

-- the entry of a tick that is above all before it
pub kept_more : (entries : List Entry) (e : Entry) (old new : Seated) → IsKept entries old → new.parts ≡ 1 → new.drawn ≡ old.drawn ++ e.tick ∷ [] → 0 < e.tick → AllUpTo (e.tick - 1) old.drawn → IsKept (entries ++ e ∷ []) new
kept_more entries e old new h part drawn positive above =
    let more : ticks_of (entries ++ e ∷ []) ≡ ticks_of entries ++ e.tick ∷ [] = map-append (λ (x : Entry). x.tick) entries (e ∷ []) in
    record {
      part = part;
      drawn = drawn ∙ ap (λ l. l ++ e.tick ∷ []) h.drawn ∙ sym more;
      rise = ap (rises_above 0) more ∙ rises-push 0 (ticks_of entries) e.tick h.rise positive (subst (AllUpTo (e.tick - 1)) h.drawn above) positive;
    }

pub can_rise : (e : Event) (entries : List Entry) → CanRise e entries → risen_by entries < 1099511627776 → risen_by entries + rise_of e < 1099511627776
can_rise (event.Tick by) entries can far = can.2
can_rise _ entries can far = omega (arith, far)

-- ---- in the place of an entry stands another with the same tick and event
pub kept_struck : (entries : List Entry) (place : ℕ) (was now : Entry) (seat : Seated) → was ≡ get_or entries place was → now.tick ≡ was.tick → IsKept entries seat → IsKept (set entries place now) seat
kept_struck entries place was now seat at tick h =
    let same : ticks_of (set entries place now) ≡ ticks_of entries = map-set_same (λ (e : Entry). e.tick) entries place now was (tick ∙ ap (λ (e : Entry). e.tick) at) in
    record { part = h.part; drawn = h.drawn ∙ sym same; rise = ap (rises_above 0) same ∙ h.rise }

pub risen_struck : (entries : List Entry) (place : ℕ) (was now : Entry) → place < length entries → was ≡ get_or entries place was → now.event ≡ was.event → risen_by (set entries place now) ≡ risen_by entries
risen_struck entries place was now within at of =
    let rise : Entry → ℕ = λ (e : Entry). rise_of e.event in
    let moved = sum_by-set rise entries place now was within in
    let same : rise now ≡ rise (get_or entries place was) = ap rise_of of ∙ ap rise at in
    omega (arith, moved, same)

pub struck_of : (inside old new : Logged) (place : ℕ) (was now : Entry) → inside ≡ old → slice_get inside.entries place ≡ Some was → now.tick ≡ was.tick → now.event ≡ was.event → now.kept.items ≡ [] → new.word ≡ inside.word → new.entries ≡ slice_set inside.entries place now
    → MatchOption (slice_get old.entries place) ((true ≡ false) × SameLog old new) (λ w. (true ≡ true) × Strikes place w old new)
struck_of inside old new place was now is at tick of kept word entries =
    subst (λ (l : Logged). MatchOption (slice_get l.entries place) ((true ≡ false) × SameLog l new) (λ w. (true ≡ true) × Strikes place w l new)) is
    (subst (λ o. MatchOption o ((true ≡ false) × SameLog inside new) (λ w. (true ≡ true) × Strikes place w inside new)) (sym at)
    (refl, record { struck = now; tick = tick; of = of; kept = kept; word = word; entries = entries }))
