-- Which items are neither takes nor crashes of a node: silent ones, refusals, and those that tell of requests.
use Rattle.cause_laws.proofs.Names.{◌≡◌, ◌≢◌, ℕ, Bool, true, false, List, [], ◌∷◌, ◌++◌, refl, sym, All-nil, All-cons}
use Rattle.cause_laws.proofs.Names.{All-weaker, Item, not_true, takes_for, crashes_for, StandsSince, IsRefusal}
use Rattle.std.proofs.Common.{All, ne_eqb}
use Rattle.history_book.specs.declared.item.Item.TheVariants as item
use Rattle.cause_laws.proofs.NodeTransitions.{Silent, AllSilent}
use Rattle.cause_laws.proofs.PostWords.{NoTakes, NoCrashes, stands_on}

-- neither a take nor a crash of any node
abbrev pub is_calm : Item → Bool
is_calm (item.Take node reading term epoch until ceiling) = false
is_calm (item.Crash node term) = false
is_calm _ = true

abbrev pub AllCalm : List Item → Type 0
AllCalm items = All (λ (x : Item). is_calm x ≡ true) items

calm_no_take : (n : ℕ) (x : Item) → is_calm x ≡ true → takes_for n x ≡ false
calm_no_take n (item.Take node reading term epoch until ceiling) calm = absurd (not_true calm)
calm_no_take n _ calm = refl

calm_no_crash : (n : ℕ) (x : Item) → is_calm x ≡ true → crashes_for n x ≡ false
calm_no_crash n (item.Crash node term) calm = absurd (not_true calm)
calm_no_crash n _ calm = refl

pub calm_no_takes : (n : ℕ) (items : List Item) → AllCalm items → NoTakes n items
calm_no_takes n items calm = All-weaker (λ (x : Item). is_calm x ≡ true) (λ (x : Item). takes_for n x ≡ false) (λ x is. calm_no_take n x is) items calm

pub calm_no_crashes : (n : ℕ) (items : List Item) → AllCalm items → NoCrashes n items
calm_no_crashes n items calm = All-weaker (λ (x : Item). is_calm x ≡ true) (λ (x : Item). crashes_for n x ≡ false) (λ x is. calm_no_crash n x is) items calm

pub calm_one : (x : Item) → is_calm x ≡ true → AllCalm (x ∷ [])
calm_one x is = All-cons (λ (y : Item). is_calm y ≡ true) x [] is (All-nil (λ (y : Item). is_calm y ≡ true))

-- ---- silent items and refusals are calm
silent_is_calm : (x : Item) → Silent x → is_calm x ≡ true
silent_is_calm (item.Take node reading term epoch until ceiling) silent = absurd (not_true silent)
silent_is_calm (item.Crash node term) silent = absurd (not_true silent)
silent_is_calm _ silent = refl

pub silent_calm : (items : List Item) → AllSilent items → AllCalm items
silent_calm items silent = All-weaker Silent (λ (x : Item). is_calm x ≡ true) silent_is_calm items silent

refusal_is_calm : (x : Item) → IsRefusal x → is_calm x ≡ true
refusal_is_calm (item.Take node reading term epoch until ceiling) refusal = absurd refusal
refusal_is_calm (item.Crash node term) refusal = absurd refusal
refusal_is_calm _ refusal = refl

pub refusals_calm : (items : List Item) → All IsRefusal items → AllCalm items
refusals_calm items refusals = All-weaker IsRefusal (λ (x : Item). is_calm x ≡ true) refusal_is_calm items refusals

-- ---- a crash with calm items behind it
pub crash_no_takes : (n node term : ℕ) (told : List Item) → AllCalm told → NoTakes n (item.Crash node term ∷ told)
crash_no_takes n node term told calm = All-cons (λ (x : Item). takes_for n x ≡ false) (item.Crash node term) told refl (calm_no_takes n told calm)

pub crash_no_crashes : (n node term : ℕ) (told : List Item) → n ≢ node → AllCalm told → NoCrashes n (item.Crash node term ∷ told)
crash_no_crashes n node term told other calm =
    All-cons (λ (x : Item). crashes_for n x ≡ false) (item.Crash node term) told (ne_eqb node n (λ same. other (sym same))) (calm_no_crashes n told calm)

pub stands_past : (h earlier : List Item) (n node crashed : ℕ) → n ≢ node → All IsRefusal earlier → StandsSince h n → StandsSince (h ++ item.Crash node crashed ∷ earlier) n
stands_past h earlier n node crashed other refusals k =
    let calm = refusals_calm earlier refusals in
    stands_on h (item.Crash node crashed ∷ earlier) n (crash_no_takes n node crashed earlier calm) (crash_no_crashes n node crashed earlier other calm) k
