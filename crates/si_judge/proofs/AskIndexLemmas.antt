-- The last ask after one more item, and the least start of those asked for behind a place.
use Rattle.si_judge.proofs.Names.{◌≡◌, ◌≢◌, ◌≤◌, ◌<◌, ◌||◌, not, if◌then◌else◌, ℕ, zero, suc, Bool, true, false, List}
use Rattle.si_judge.proofs.Names.{[], ◌∷◌, ◌++◌, Option, Some, None, unwrap_or, length, take, get_or, replicate}
use Rattle.si_judge.proofs.Names.{slice_get, inl, inr, refl, sym, ap, subst, ◌∙◌, arith, IsSomeAnd, ◌==◌, ◌+◌, cases_eq}
use Rattle.si_judge.proofs.Names.{cases_lt, eqb-true, eq-eqb, get_or-set_same, get_or-set_other, get_or_read}
use Rattle.si_judge.proofs.Names.{length-take-le, same_Some, slice_get_within, set, has_ask, before_ask, asks, Item}
use Rattle.si_judge.proofs.Names.{AskBegin, Begin, Placed, ask_place, IsStaleAt, IsStale, Passes, one_at, both_at}
use Rattle.si_judge.proofs.Names.{and_some, length_take_within, IsNotAbove, IsBelow, IsLastAsk, AreLastAsks, HoldsStart}
use Rattle.si_judge.proofs.Names.{HasStarts}
use Rattle.isolation_rules.specs.declared.verdict.Rule.TheVariants as rule
use Rattle.isolation_rules.proofs.AskLemmas.{before_no_ask, ask_within}

-- at no place the new start is above the old one
pub record FallsOnly (old new : List (Option ℕ)) : Type 0 where
  pub at : (place stamp : ℕ) → IsNotAbove (get_or old place None) stamp → IsNotAbove (get_or new place None) stamp

pub one_more : (xs : List Item) (i : ℕ) (x : Item) → slice_get xs i ≡ Some x → take (suc i) xs ≡ take i xs ++ x ∷ []
one_more [] i x e = absurd (cc)
one_more (y ∷ ys) zero x e = ap (λ (z : Item). z ∷ []) (same_Some _ _ e)
one_more (y ∷ ys) (suc i) x e = ap (λ zs. y ∷ zs) (one_more ys i x e)

-- ---- one more item
or_true : (b : Bool) → (b || true) ≡ true
or_true true = refl
or_true false = refl

asks_last : (s : ℕ) (xs : List Item) (x : Item) → asks s x ≡ true → has_ask s (xs ++ x ∷ []) ≡ true
unfolding has_ask
asks_last s [] x on = rw on refl
asks_last s (y ∷ ys) x on = rw (asks_last s ys x on) (or_true (asks s y))

asks_no_more : (s : ℕ) (xs : List Item) (x : Item) → asks s x ≡ false → has_ask s (xs ++ x ∷ []) ≡ has_ask s xs
unfolding has_ask
asks_no_more s [] x off = rw off refl
asks_no_more s (y ∷ ys) x off = rw (asks_no_more s ys x off) refl

length_before : (s : ℕ) (xs : List Item) (x : Item) → asks s x ≡ true → length (before_ask s (xs ++ x ∷ [])) ≡ length xs
unfolding has_ask before_ask
length_before s [] x on = rw on refl
length_before s (y ∷ ys) x on = rw (asks_last s ys x on) (ap suc (length_before s ys x on))

chosen_same : (a b : Bool) (y : Item) (xs ys : List Item) → (a || b) ≡ true → (a ≡ true → xs ≡ ys) → (if a || not b then y ∷ xs else []) ≡ (if a || not b then y ∷ ys else [])
chosen_same true b y xs ys some same = ap (λ zs. y ∷ zs) (same refl)
chosen_same false true y xs ys some same = refl
chosen_same false false y xs ys some same = absurd (cc)

or_swap : (a b : Bool) → (a || b) ≡ true → (b || a) ≡ true
or_swap true true e = refl
or_swap true false e = refl
or_swap false true e = refl
or_swap false false e = e

same_before : (s : ℕ) (xs : List Item) (x : Item) → asks s x ≡ false → has_ask s xs ≡ true → before_ask s (xs ++ x ∷ []) ≡ before_ask s xs
unfolding has_ask before_ask
same_before s [] x off some = absurd (cc)
same_before s (y ∷ ys) x off some = rw (asks_no_more s ys x off) (chosen_same (has_ask s ys) (asks s y) y _ _ (or_swap (asks s y) (has_ask s ys) some) (λ there. same_before s ys x off there))

-- an ask is the last
pub asked_here : (s : ℕ) (before : List Item) (x : Item) (place : ℕ) → length before ≡ place → asks s x ≡ true → IsLastAsk s (before ++ x ∷ []) (Some place)
asked_here s before x place long on = (asks_last s before x on, length_before s before x on ∙ long)

-- another item changes nothing
pub asked_before_here : (s : ℕ) (before : List Item) (x : Item) (ask : Option ℕ) → asks s x ≡ false → IsLastAsk s before ask → IsLastAsk s (before ++ x ∷ []) ask
asked_before_here s before x None off none = asks_no_more s before x off ∙ none
asked_before_here s before x (Some place) off some = (asks_no_more s before x off ∙ some.0, ap length (same_before s before x off some.0) ∙ some.1)

all_none : (n i : ℕ) (nothing : Option ℕ) → get_or (replicate n nothing) i nothing ≡ nothing
all_none zero i nothing = refl
all_none (suc n) zero nothing = refl
all_none (suc n) (suc i) nothing = all_none n i nothing

pub no_asks_yet : (n : ℕ) → AreLastAsks [] (replicate n None)
unfolding has_ask
no_asks_yet n = record { each = λ session less. subst (λ (o : Option ℕ). IsLastAsk session [] o) (sym (all_none n session None)) refl }

-- the place of the ask of a begin that stands behind these items
pub last_ask_place : (s : ℕ) (before : List Item) (ask : Option ℕ) → IsLastAsk s before ask → length (before_ask s before) ≡ unwrap_or ask (length before)
last_ask_place s before None none = ap length (before_no_ask s before none)
last_ask_place s before (Some place) some = some.1

eq_off : (a b : ℕ) → a ≢ b → (a == b) ≡ false
eq_off a b other = by (a == b) refl
  where
    by : (r : Bool) → (a == b) ≡ r → r ≡ false
    by true e = absurd (other (eqb-true a b e))
    by false e = refl

pub ask_noted : (before : List Item) (olds : List (Option ℕ)) (session node place : ℕ) → session < length olds → length before ≡ place → AreLastAsks before olds → AreLastAsks (before ++ AskBegin session node ∷ []) (set olds session (Some place))
ask_noted before olds session node place within long asked =
    let x : Item = AskBegin session node in
    let after : List Item = before ++ x ∷ [] in
    record {
      each = λ s less. elim (cases_eq s session) [
        | inl same ↦
            let here = subst (λ (o : Option ℕ). IsLastAsk session after o) (sym (get_or-set_same olds session (Some place) None within)) (asked_here session before x place long (eq-eqb session session refl)) in
            subst (λ (n : ℕ). IsLastAsk n after (get_or (set olds session (Some place)) n None)) (sym same) here
        | inr other ↦
            subst (λ (o : Option ℕ). IsLastAsk s after o) (sym (get_or-set_other olds session s (Some place) None other)) (asked_before_here s before x (get_or olds s None) (eq_off session s (λ e. other (sym e))) (asked.each s less))
      ];
    }

asks_off : (s : ℕ) (x : Item) → ((session node : ℕ) → x ≡ AskBegin session node → ⊥) → asks s x ≡ false
asks_off s (AskBegin session node) other = absurd (other session node refl)
asks_off s _ other = refl

pub other_noted : (before : List Item) (olds : List (Option ℕ)) (x : Item) → ((session node : ℕ) → x ≡ AskBegin session node → ⊥) → AreLastAsks before olds → AreLastAsks (before ++ x ∷ []) olds
other_noted before olds x other asked = record { each = λ s less. asked_before_here s before x (get_or olds s None) (asks_off s x other) (asked.each s less) }

-- ---- the starts at the places of their asks
pub ask_place_is : (h : List Item) (place session : ℕ) (olds : List (Option ℕ)) → place < length h → session < 16 → AreLastAsks (take place h) olds → ask_place h session place ≡ unwrap_or (get_or olds session None) place
ask_place_is h place session olds less within asked =
    last_ask_place session (take place h) (get_or olds session None) (asked.each session within) ∙ ap (λ n. unwrap_or (get_or olds session None) n) (length-take-le place h (omega (arith, less)))

pub ask_place_within : (h : List Item) (place session : ℕ) → ask_place h session place ≤ place
ask_place_within h place session = let a = ask_within session (take place h) in let b = length_take_within place h in omega (arith, a, b)

-- the start at one place falls
pub falls_at : (old : List (Option ℕ)) (place : ℕ) (new : Option ℕ) → place < length old → ((stamp : ℕ) → IsNotAbove (get_or old place None) stamp → IsNotAbove new stamp) → FallsOnly old (set old place new)
falls_at old place new less falls = record {
  at = λ q stamp was. elim (cases_eq q place) [
    | inl same ↦
        let here = subst (λ (o : Option ℕ). IsNotAbove o stamp) (sym (get_or-set_same old place new None less)) (falls stamp (subst (λ (n : ℕ). IsNotAbove (get_or old n None) stamp) same was)) in
        subst (λ (n : ℕ). IsNotAbove (get_or (set old place new) n None) stamp) (sym same) here
    | inr other ↦ subst (λ (o : Option ℕ). IsNotAbove o stamp) (sym (get_or-set_other old place q new None other)) was
  ];
}

pub falls_none : (old : List (Option ℕ)) → FallsOnly old old
falls_none old = record { at = λ q stamp was. was }

-- where the start of the begin at the place is noted
pub ask_at : (h : List Item) (place session at ask : ℕ) (olds : List (Option ℕ)) → place < length h → AreLastAsks (take place h) olds → at ≡ session → at < 16 → ask ≡ unwrap_or (get_or olds at None) place → ask_place h session place ≡ ask
ask_at h place session at ask olds less asked same within is =
    ask_place_is h place session olds less (omega (arith, same, within)) asked ∙ ap (λ n. unwrap_or (get_or olds n None) place) (sym same) ∙ sym is

pub ask_within_starts : (h : List Item) (place session ask : ℕ) → place < length h → ask_place h session place ≡ ask → ask < length h
ask_within_starts h place session ask less at = let within = ask_place_within h place session in omega (arith, less, at, within)

pub start_noted : (old : List (Option ℕ)) (h : List Item) (place session start ask : ℕ) (new : Option ℕ) → ask < length old → ask_place h session place ≡ ask → IsNotAbove new start → HoldsStart h (set old ask new) place (Begin session start)
start_noted old h place session start ask new less at low =
    subst (λ (n : ℕ). IsNotAbove (get_or (set old ask new) n None) start) (sym at) (subst (λ (o : Option ℕ). IsNotAbove o start) (sym (get_or-set_same old ask new None less)) low)

pub not_begin_holds : (h : List Item) (starts : List (Option ℕ)) (j : ℕ) (x : Item) → ((session start : ℕ) → x ≡ Begin session start → ⊥) → HoldsStart h starts j x
not_begin_holds h starts j (Begin session start) other = absurd (other session start refl)
not_begin_holds h starts j _ other = tt

still_holds : (h : List Item) (old new : List (Option ℕ)) (j : ℕ) (x : Item) → FallsOnly old new → HoldsStart h old j x → HoldsStart h new j x
still_holds h old new j (Begin session start) falls holds = falls.at (ask_place h session j) start holds
still_holds h old new j _ falls holds = holds

pub starts_more : (h : List Item) (place : ℕ) (old new : List (Option ℕ)) → HasStarts h place old → FallsOnly old new → IsSomeAnd (slice_get h place) (λ x. HoldsStart h new place x) → HasStarts h (suc place) new
starts_more h place old new has falls here = record {
  at = λ j x less there. elim (cases_lt j place) [
    | inl before ↦ still_holds h old new j x falls (has.at j x before there)
    | inr more ↦
        let same : place ≡ j = omega (arith, less, more) in
        let found = one_at h place (λ x. HoldsStart h new place x) here in
        let item : found.0 ≡ x = same_Some _ _ (sym found.1 ∙ ap (λ n. slice_get h n) same ∙ there) in
        subst (λ (n : ℕ). HoldsStart h new n x) same (subst (λ (y : Item). HoldsStart h new place y) item found.2)
  ];
}

pub no_starts : (h : List Item) (starts : List (Option ℕ)) → HasStarts h 0 starts
no_starts h starts = record { at = λ j x less there. absurd (omega (arith, less)) }

-- ---- the least start of those asked for at a place or behind it
pub record KnowsLeast (starts : List (Option ℕ)) (place : ℕ) (least : Option ℕ) : Type 0 where
  pub at : (q stamp : ℕ) → place ≤ q → IsNotAbove (get_or starts q None) stamp → IsNotAbove least stamp

past_end : (starts : List (Option ℕ)) (q stamp : ℕ) → length starts ≤ q → IsNotAbove (get_or starts q None) stamp → ⊥
past_end [] q stamp le low = low
past_end (o ∷ starts) zero stamp le low = omega (arith, le)
past_end (o ∷ starts) (suc q) stamp le low = past_end starts q stamp (omega (arith, le)) low

pub least_more : (starts : List (Option ℕ)) (place : ℕ) (old new : Option ℕ) → KnowsLeast starts (suc place) old → ((stamp : ℕ) → IsNotAbove old stamp → IsNotAbove new stamp) → ((stamp : ℕ) → IsNotAbove (get_or starts place None) stamp → IsNotAbove new stamp) → KnowsLeast starts place new
least_more starts place old new knows first second = record {
  at = λ q stamp le low. elim (cases_lt place q) [
    | inl less ↦ first stamp (knows.at q stamp (omega (arith, less)) low)
    | inr more ↦ let same : q ≡ place = omega (arith, le, more) in second stamp (subst (λ (n : ℕ). IsNotAbove (get_or starts n None) stamp) same low)
  ];
}

rises : (bound : Option ℕ) (low high : ℕ) → low ≤ high → IsNotAbove bound low → IsNotAbove bound high
rises None low high le not_above = not_above
rises (Some b) low high le not_above = omega (arith, le, not_above)

stale_at : (h : List Item) (starts : List (Option ℕ)) (place c j : ℕ) (y : Item) (least : Option ℕ) → slice_get h j ≡ Some y → HasStarts h (length h) starts → KnowsLeast starts (suc place) least → (IsNotAbove least c → ⊥) → IsStaleAt h place c j y → ⊥
stale_at h starts place c j (Begin session start) least there has knows below stale =
    let within = slice_get_within h j (Begin session start) there in
    let low = knows.at (ask_place h session j) start (omega (arith, stale.0)) (has.at j (Begin session start) within there) in
    below (rises least start c stale.1 low)
stale_at h starts place c j _ least there has knows below stale = absurd stale

stale_item : (h : List Item) (starts : List (Option ℕ)) (place j : ℕ) (x y : Item) (least : Option ℕ) → slice_get h j ≡ Some y → HasStarts h (length h) starts → KnowsLeast starts (suc place) least → IsBelow x least → IsStale h place x j y → ⊥
stale_item h starts place j (Placed t c) y least there has knows below stale = stale_at h starts place c j y least there has knows below stale
stale_item h starts place j _ y least there has knows below stale = absurd stale

-- a commit below that start passes
pub below_passes : (h : List Item) (starts : List (Option ℕ)) (place : ℕ) (x : Item) (least : Option ℕ) → slice_get h place ≡ Some x → HasStarts h (length h) starts → KnowsLeast starts (suc place) least → IsBelow x least → Passes rule.Fresh h place
below_passes h starts place x least here has knows below = λ j broken.
    let found = both_at h place j (λ x y. IsStale h place x j y) broken in
    let stale = subst (λ (z : Item). IsStale h place z j found.1) (same_Some _ _ (sym found.2 ∙ here)) found.4 in
    stale_item h starts place j x found.1 least found.3 has knows below stale

-- ---- one more item is noted
pub record IsNotedBy (h : List Item) (n : ℕ) (starts asks : List (Option ℕ)) : Type 0 where
  pub asked : AreLastAsks (take n h) asks
  pub begun : HasStarts h n starts

noted_next : (h : List Item) (place : ℕ) (x : Item) (old new asks : List (Option ℕ)) → slice_get h place ≡ Some x → AreLastAsks (take place h ++ x ∷ []) asks → HasStarts h place old → FallsOnly old new → HoldsStart h new place x → IsNotedBy h (place + 1) new asks
noted_next h place x old new asks here asked has falls holds =
    let next : suc place ≡ place + 1 = omega arith in
    let front = subst (λ (xs : List Item). AreLastAsks xs asks) (sym (one_more h place x here)) asked in
    record {
      asked = subst (λ (n : ℕ). AreLastAsks (take n h) asks) next front;
      begun = subst (λ (n : ℕ). HasStarts h n new) next (starts_more h place old new has falls (and_some _ (λ y. HoldsStart h new place y) x here holds));
    }

pub noted_ask : (h : List Item) (place session node at : ℕ) (x : Item) (starts asks : List (Option ℕ)) → slice_get h place ≡ Some x → x ≡ AskBegin session node → place < length h → at ≡ session → at < length asks → AreLastAsks (take place h) asks → HasStarts h place starts → IsNotedBy h (place + 1) starts (set asks at (Some place))
noted_ask h place session node at x starts asks here is less same within asked has =
    let front : List Item = take place h in
    let noted = ask_noted front asks session node place (omega (arith, same, within)) (length-take-le place h (omega (arith, less))) asked in
    let moved = subst (λ (n : ℕ). AreLastAsks (front ++ AskBegin session node ∷ []) (set asks n (Some place))) (sym same) noted in
    noted_next h place (AskBegin session node) starts starts (set asks at (Some place)) (here ∙ ap Some is) moved has (falls_none starts) tt

pub noted_begin : (h : List Item) (place session start ask : ℕ) (x : Item) (was new : Option ℕ) (starts asks : List (Option ℕ)) → slice_get h place ≡ Some x → x ≡ Begin session start → ask < length starts → ask_place h session place ≡ ask → was ≡ get_or starts ask was → ((stamp : ℕ) → IsNotAbove was stamp → IsNotAbove new stamp) → IsNotAbove new start → AreLastAsks (take place h) asks → HasStarts h place starts → IsNotedBy h (place + 1) (set starts ask new) asks
noted_begin h place session start ask x was new starts asks here is within where_asked read first low asked has =
    let y : Item = Begin session start in
    let falls = λ (stamp : ℕ) (above : IsNotAbove (get_or starts ask None) stamp). first stamp (subst (λ (o : Option ℕ). IsNotAbove o stamp) (sym (get_or_read starts ask was within read None)) above) in
    noted_next h place y starts (set starts ask new) asks (here ∙ ap Some is) (other_noted (take place h) asks y (λ s n e. absurd (cc)) asked) has (falls_at starts ask new within falls) (start_noted starts h place session start ask new within where_asked low)

pub noted_other : (h : List Item) (place : ℕ) (x : Item) (starts asks : List (Option ℕ)) → slice_get h place ≡ Some x → ((session node : ℕ) → x ≡ AskBegin session node → ⊥) → ((session start : ℕ) → x ≡ Begin session start → ⊥) → AreLastAsks (take place h) asks → HasStarts h place starts → IsNotedBy h (place + 1) starts asks
noted_other h place x starts asks here no_ask no_begin asked has =
    noted_next h place x starts starts asks here (other_noted (take place h) asks x no_ask asked) has (falls_none starts) (not_begin_holds h starts place x no_begin)
