-- What a longer history tells of a node: items that are neither takes nor crashes of it leave its words as they are.
use Rattle.cause_laws.proofs.Names.{◌≡◌, ℕ, Bool, true, false, if◌then◌else◌, List, [], ◌∷◌, ◌++◌, Some, None, inl, inr}
use Rattle.cause_laws.proofs.Names.{refl, sym, ◌∙◌, ap, subst, option_or, fold-append, All-head, All-tail, All-nil}
use Rattle.cause_laws.proofs.Names.{All-cons, ◌∈◌, Item, in_front, in_append, not_true, told_then, since_then, since}
use Rattle.cause_laws.proofs.Names.{take_by, takes_for, crashes_for, last_take, since_take, TookLast, LeasedUntil}
use Rattle.cause_laws.proofs.Names.{StandsSince, HasNone, TermTaken, LeaseGiven, CeilingGiven}
use Rattle.std.proofs.Common.{All, fold, eq-eqb}
use Rattle.history_book.specs.declared.item.Item.TheVariants as item
use Rattle.cause_laws.proofs.SinceWords.{last_told-past, last_told-same, since-more, since-anew}

-- no item is a take, or a crash, of the node
abbrev pub NoTakes : ℕ → List Item → Type 0
NoTakes n items = All (λ (x : Item). takes_for n x ≡ false) items

abbrev pub NoCrashes : ℕ → List Item → Type 0
NoCrashes n items = All (λ (x : Item). crashes_for n x ≡ false) items

-- ---- the last take
no_take_told : (n : ℕ) (x : Item) → takes_for n x ≡ false → take_by n x ≡ None
no_take_told n (item.Take node reading term epoch until ceiling) none =
    ap (λ b. if b then Some (record { term = term; epoch = epoch; until = until }) else None) none
no_take_told n _ none = refl

none_told : (n : ℕ) (items : List Item) → NoTakes n items → All (λ (x : Item). take_by n x ≡ None) items
none_told n [] none = All-nil (λ (x : Item). take_by n x ≡ None)
none_told n (x ∷ items) none =
    All-cons (λ (y : Item). take_by n y ≡ None) x items (no_take_told n x (All-head (λ (y : Item). takes_for n y ≡ false) x items none))
    (none_told n items (All-tail (λ (y : Item). takes_for n y ≡ false) x items none))

pub last_take_on : (h items : List Item) (n : ℕ) → NoTakes n items → last_take (h ++ items) n ≡ last_take h n
last_take_on h items n none = last_told-same (take_by n) h items (none_told n items none)

pub since_take_on : (h items : List Item) (n : ℕ) → NoTakes n items → since_take (h ++ items) n ≡ since_take h n ++ items
since_take_on h items n none = since-more (takes_for n) h items none

-- ---- the node's words stay
pub took_on : (h items : List Item) (n term epoch : ℕ) → NoTakes n items → TookLast h n term epoch → TookLast (h ++ items) n term epoch
took_on h items n term epoch none k = record { take = k.take; last = last_take_on h items n none ∙ k.last; term_is = k.term_is; epoch_is = k.epoch_is }

pub leased_on : (h items : List Item) (n until : ℕ) → NoTakes n items → LeasedUntil h n until → LeasedUntil (h ++ items) n until
leased_on h items n until none k = record {
  take = k.take;
  last = last_take_on h items n none ∙ k.last;
  by = elim k.by [
    | inl is ↦ inl is
    | inr (reading, term, m) ↦ inr (reading, term, subst (λ xs. item.Renew n reading term until ∈ xs) (sym (since_take_on h items n none)) (in_front (item.Renew n reading term until) (since_take h n) items m))
  ];
}

not_crashed : (n term : ℕ) (items : List Item) → NoCrashes n items → item.Crash n term ∈ items → ⊥
unfolding ◌∈◌
not_crashed n term [] none m = m
not_crashed n term (x ∷ items) none m = elim m [
  | inl is ↦ not_true (sym (All-head (λ (y : Item). crashes_for n y ≡ false) x items none) ∙ (ap (crashes_for n) (sym is) ∙ eq-eqb n n refl))
  | inr deeper ↦ not_crashed n term items (All-tail (λ (y : Item). crashes_for n y ≡ false) x items none) deeper
]

pub stands_on : (h items : List Item) (n : ℕ) → NoTakes n items → NoCrashes n items → StandsSince h n → StandsSince (h ++ items) n
stands_on h items n takes crashes stands term m =
    elim (in_append (item.Crash n term) (since_take h n) items (subst (λ xs. item.Crash n term ∈ xs) (since_take_on h items n takes) m)) [
      | inl old ↦ stands term old
      | inr new ↦ not_crashed n term items crashes new
    ]

-- what stands since a crash has no take, if no item is a take
last_take_since : (n : ℕ) (part items : List Item) → NoTakes n items → last_take part n ≡ None → last_take (fold (since_then (crashes_for n)) part items) n ≡ None
last_take_since n part [] none is = is
last_take_since n part (x ∷ items) none is =
    last_take_since n (if crashes_for n x then [] else part ++ x ∷ []) items (All-tail (λ (y : Item). takes_for n y ≡ false) x items none) (by (crashes_for n x))
  where
    by : (b : Bool) → last_take (if b then [] else part ++ x ∷ []) n ≡ None
    by true = refl
    by false = last_take_on part (x ∷ []) n (All-cons (λ (y : Item). takes_for n y ≡ false) x [] (All-head (λ (y : Item). takes_for n y ≡ false) x items none) (All-nil (λ (y : Item). takes_for n y ≡ false))) ∙ is

pub none_on : (h items : List Item) (n : ℕ) → NoTakes n items → HasNone h n → HasNone (h ++ items) n
none_on h items n none (inl is) =
    inl (ap (λ xs. last_take xs n) (fold-append (since_then (crashes_for n)) [] h items) ∙ last_take_since n (since (crashes_for n) h) items none is)
none_on h items n none (inr (store, later, is)) = inr (store, later ++ items, since_take_on h items n none ∙ ap (λ xs. xs ++ items) is)

-- a crash ends the instance
pub none_crashed : (h items : List Item) (n term : ℕ) → NoTakes n items → HasNone (h ++ item.Crash n term ∷ items) n
none_crashed h items n term none =
    inl (ap (λ xs. last_take xs n) (fold-append (since_then (crashes_for n)) [] h (item.Crash n term ∷ items)) ∙ (ap (λ b. last_take (fold (since_then (crashes_for n)) (if b then [] else since (crashes_for n) h ++ item.Crash n term ∷ []) items) n) (eq-eqb n n refl) ∙ last_take_since n [] items none refl))

-- ---- a take of the node
pub last_take_new : (h items : List Item) (n reading term epoch until ceiling : ℕ) → NoTakes n items → last_take (h ++ item.Take n reading term epoch until ceiling ∷ items) n ≡ Some (record { term = term; epoch = epoch; until = until })
last_take_new h items n reading term epoch until ceiling none =
    fold-append (told_then (take_by n)) None h (item.Take n reading term epoch until ceiling ∷ items)
    ∙ (ap (λ b. fold (told_then (take_by n)) (option_or (if b then Some (record { term = term; epoch = epoch; until = until }) else None) (last_take h n)) items) (eq-eqb n n refl)
    ∙ last_told-past (take_by n) (Some (record { term = term; epoch = epoch; until = until })) items (none_told n items none))

pub since_take_new : (h items : List Item) (n reading term epoch until ceiling : ℕ) → NoTakes n items → since_take (h ++ item.Take n reading term epoch until ceiling ∷ items) n ≡ items
since_take_new h items n reading term epoch until ceiling none = since-anew (takes_for n) h items (item.Take n reading term epoch until ceiling) (eq-eqb n n refl) none

-- ---- what the master record was seen to have stays
pub term_taken_on : (h items : List Item) (term : ℕ) → TermTaken h term → TermTaken (h ++ items) term
term_taken_on h items term (n, reading, epoch, until, ceiling, m) = (n, reading, epoch, until, ceiling, in_front (item.Take n reading term epoch until ceiling) h items m)

pub lease_given_on : (h items : List Item) (until : ℕ) → LeaseGiven h until → LeaseGiven (h ++ items) until
lease_given_on h items until (inl (n, reading, term, epoch, ceiling, m)) = inl (n, reading, term, epoch, ceiling, in_front (item.Take n reading term epoch until ceiling) h items m)
lease_given_on h items until (inr (n, reading, term, m)) = inr (n, reading, term, in_front (item.Renew n reading term until) h items m)

pub ceiling_given_on : (h items : List Item) (term ceiling : ℕ) → CeilingGiven h term ceiling → CeilingGiven (h ++ items) term ceiling
ceiling_given_on h items term ceiling (inl (n, reading, epoch, until, m)) = inl (n, reading, epoch, until, in_front (item.Take n reading term epoch until ceiling) h items m)
ceiling_given_on h items term ceiling (inr (n, m)) = inr (n, in_front (item.Extend n term ceiling) h items m)
