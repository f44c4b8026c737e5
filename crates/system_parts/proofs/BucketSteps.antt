-- For conflict_buckets too.
-- Laws for the crates above: what a recorded pair makes of a bucket.
use Rattle.std.proofs.Common.{◌≡◌, ℕ, ◌<◌, ◌≤◌, ◌==◌, nat_lt, ◌&&◌, ◌||◌, List, [], ◌∷◌, length, Option, Some, None, ◌⊎◌, inl, inr, refl, sym, subst, ap, ◌∙◌, arith}
use Rattle.std.proofs.lemmas.Bool.{cases_Bool, cases_eq, eqb-true, eq-eqb, ne_eqb, ltb-true, ltb-false, or_cases, or_parts, and_parts}
use Rattle.std.proofs.lemmas.Option.{none-some}
use Rattle.system_parts.specs.declared.buckets.Recorded.{Recorded}
use Rattle.system_parts.specs.Buckets.{Bucket, kept_commit, replaced, added, without, older, oldest, exchanged, evicting, placed, recorded}
use Rattle.system_parts.proofs.BucketPairs.{Every, IsAmong, Ascends, every-among, every-more, every-replaced, every-added, every-without, ascends-replaced, ascends-added, ascends-without, kept_commit-replaced, kept_commit-replaced_other, kept_commit-added, kept_commit-added_other, kept_commit-without, kept_commit-without_other, length-replaced, length-added, length-without}

older_cases : (a b : Recorded) → ((older a b ≡ a) × (a.commit ≤ b.commit)) ⊎ ((older a b ≡ b) × (b.commit ≤ a.commit))
older_cases a b = elim (cases_Bool (nat_lt b.commit a.commit || (b.commit == a.commit && nat_lt b.key a.key))) [
  | inl q ↦ inr (
    rw q refl,
    elim (or_cases (nat_lt b.commit a.commit) (b.commit == a.commit && nat_lt b.key a.key) q) [
      | inl less ↦ (let lt = ltb-true b.commit a.commit less in omega arith)
      | inr same ↦ (let eq = eqb-true b.commit a.commit (and_parts (b.commit == a.commit) (nat_lt b.key a.key) same).0 in omega arith)
    ],
  )
  | inr q ↦ inl (rw q refl, let le = ltb-false b.commit a.commit (or_parts (nat_lt b.commit a.commit) (b.commit == a.commit && nat_lt b.key a.key) q).0 in omega arith)
]

pub oldest-among : (first : Recorded) (others : List Recorded) → IsAmong (oldest first others) (first ∷ others)
unfolding oldest
oldest-among first [] = inl refl
oldest-among first (pair ∷ pairs) = elim (oldest-among (older first pair) pairs) [
  | inl e ↦ elim (older_cases first pair) [ inl a ↦ inl (e ∙ a.0) | inr b ↦ inr (inl (e ∙ b.0)) ]
  | inr rest ↦ inr (inr rest)
]

oldest-le_first : (first : Recorded) (others : List Recorded) → (oldest first others).commit ≤ first.commit
unfolding oldest
oldest-le_first first [] = omega arith
oldest-le_first first (pair ∷ pairs) =
    let ih = oldest-le_first (older first pair) pairs in
    elim (older_cases first pair) [
      | inl a ↦ (let same = ap (λ (p : Recorded). p.commit) a.0 in omega arith)
      | inr b ↦ (let same = ap (λ (p : Recorded). p.commit) b.0 in omega arith)
    ]

oldest-le_others : (first : Recorded) (others : List Recorded) → Every (λ pair. (oldest first others).commit ≤ pair.commit) others
unfolding oldest
oldest-le_others first [] = tt
oldest-le_others first (pair ∷ pairs) =
    let ih = oldest-le_first (older first pair) pairs in (
      elim (older_cases first pair) [
        | inl a ↦ (let same = ap (λ (p : Recorded). p.commit) a.0 in omega arith)
        | inr b ↦ (let same = ap (λ (p : Recorded). p.commit) b.0 in omega arith)
      ],
      oldest-le_others (older first pair) pairs,
    )

kept_commit-among : (pair : Recorded) (pairs : List Recorded) → Ascends pairs → IsAmong pair pairs → kept_commit pairs pair.key ≡ Some pair.commit
unfolding kept_commit
kept_commit-among pair [] h m = absurd m
kept_commit-among pair (first ∷ pairs) h m = elim m [
  | inl e ↦ rw (eq-eqb first.key pair.key (sym (ap (λ (p : Recorded). p.key) e))) (ap (λ (p : Recorded). Some p.commit) (sym e))
  | inr rest ↦ let above = every-among (λ later. first.key < later.key) pair pairs h.0 rest in
      rw (ne_eqb first.key pair.key (λ e. omega arith)) (kept_commit-among pair pairs h.1 rest)
]

-- what goes out for a new key
pub record IsOut (bucket : Bucket) (out : Recorded) : Type 0 where
  pub there : IsAmong out bucket.kept
  pub least : Every (λ pair. out.commit ≤ pair.commit) bucket.kept

evicting_cases : (bucket : Bucket) (pair : Recorded) (P : Bucket → Type 0) (kept : List Recorded) → bucket.kept ≡ kept → 1 ≤ length kept → ((out : Recorded) → IsOut bucket out → P (exchanged bucket out pair)) → P (evicting bucket pair kept)
evicting_cases bucket pair P [] e room f = absurd (omega arith)
evicting_cases bucket pair P (first ∷ others) e room f = f (oldest first others) (record {
  there = subst (λ (ps : List Recorded). IsAmong (oldest first others) ps) (sym e) (oldest-among first others);
  least = subst (λ (ps : List Recorded). Every (λ p. (oldest first others).commit ≤ p.commit) ps) (sym e) (oldest-le_first first others, oldest-le_others first others);
})

placed_cases : (bucket : Bucket) (pair : Recorded) (P : Bucket → Type 0) (there : Option ℕ) → kept_commit bucket.kept pair.key ≡ there → 1 ≤ bucket.width →
    ((commit : ℕ) → kept_commit bucket.kept pair.key ≡ Some commit → P (record bucket { kept = replaced bucket.kept pair })) →
    (kept_commit bucket.kept pair.key ≡ None → length bucket.kept < bucket.width → P (record bucket { kept = added bucket.kept pair })) →
    (kept_commit bucket.kept pair.key ≡ None → (out : Recorded) → IsOut bucket out → P (exchanged bucket out pair)) →
    P (placed bucket pair there)
placed_cases bucket pair P (Some commit) e wide f g h = f commit e
placed_cases bucket pair P None e wide f g h = elim (cases_Bool (nat_lt (length bucket.kept) bucket.width)) [
  | inl q ↦ rw q (g e (ltb-true (length bucket.kept) bucket.width q))
  | inr q ↦ rw q (evicting_cases bucket pair P bucket.kept refl (let full = ltb-false (length bucket.kept) bucket.width q in omega arith) (h e))
]

-- a recorded pair replaces its key's, or is added where there is room, or one of the oldest commit goes out for it
pub recorded_cases : (bucket : Bucket) (pair : Recorded) (P : Bucket → Type 0) → 1 ≤ bucket.width →
    ((commit : ℕ) → kept_commit bucket.kept pair.key ≡ Some commit → P (record bucket { kept = replaced bucket.kept pair })) →
    (kept_commit bucket.kept pair.key ≡ None → length bucket.kept < bucket.width → P (record bucket { kept = added bucket.kept pair })) →
    (kept_commit bucket.kept pair.key ≡ None → (out : Recorded) → IsOut bucket out → P (exchanged bucket out pair)) →
    P (recorded bucket pair)
recorded_cases bucket pair P wide f g h = placed_cases bucket pair P (kept_commit bucket.kept pair.key) refl wide f g h

pub record IsOrdered (bucket : Bucket) : Type 0 where
  pub wide : 1 ≤ bucket.width
  pub ascends : Ascends bucket.kept
  pub fits : length bucket.kept ≤ bucket.width

-- the new key is not among those that are left
left_without : (bucket : Bucket) (pair out : Recorded) → IsOrdered bucket → kept_commit bucket.kept pair.key ≡ None → IsOut bucket out → kept_commit (without bucket.kept out.key) pair.key ≡ None
left_without bucket pair out h e o =
    let there = kept_commit-among out bucket.kept h.ascends o.there in
    kept_commit-without_other bucket.kept out.key pair.key (λ same. none-some out.commit (sym e ∙ (ap (kept_commit bucket.kept) (sym same) ∙ there))) ∙ e

pub ordered-recorded : (bucket : Bucket) (pair : Recorded) → IsOrdered bucket → IsOrdered (recorded bucket pair)
ordered-recorded bucket pair h = recorded_cases bucket pair IsOrdered h.wide
    (λ commit e. record { wide = h.wide; ascends = ascends-replaced bucket.kept pair h.ascends; fits = (let same = length-replaced bucket.kept pair in let fits = h.fits in omega arith) })
    (λ e room. record { wide = h.wide; ascends = ascends-added bucket.kept pair e h.ascends; fits = (let more = length-added bucket.kept pair in omega arith) })
    (λ e out o. record {
      wide = h.wide;
      ascends = ascends-added (without bucket.kept out.key) pair (left_without bucket pair out h e o) (ascends-without bucket.kept out.key h.ascends);
      fits = (let more = length-added (without bucket.kept out.key) pair in let less = length-without bucket.kept out o.there in let fits = h.fits in omega arith);
    })

-- no kept commit is below the water, and nothing is above the last commit
pub record IsRisen (top : ℕ) (bucket : Bucket) : Type 0 where
  pub above : Every (λ pair. bucket.water ≤ pair.commit) bucket.kept
  pub below : Every (λ pair. pair.commit ≤ top) bucket.kept
  pub water : bucket.water ≤ top

pub risen-recorded : (bucket : Bucket) (pair : Recorded) (top : ℕ) → IsOrdered bucket → IsRisen top bucket → top ≤ pair.commit → IsRisen pair.commit (recorded bucket pair)
risen-recorded bucket pair top h r up =
    let low : bucket.water ≤ pair.commit = (let water = r.water in omega arith) in
    let bound : Every (λ old. old.commit ≤ pair.commit) bucket.kept = every-more (λ old. old.commit ≤ top) (λ old. old.commit ≤ pair.commit) (λ old le. omega arith) bucket.kept r.below in
    recorded_cases bucket pair (IsRisen pair.commit) h.wide
    (λ commit e. record { above = every-replaced (λ old. bucket.water ≤ old.commit) bucket.kept pair low r.above; below = every-replaced (λ old. old.commit ≤ pair.commit) bucket.kept pair (omega arith) bound; water = low })
    (λ e room. record { above = every-added (λ old. bucket.water ≤ old.commit) bucket.kept pair low r.above; below = every-added (λ old. old.commit ≤ pair.commit) bucket.kept pair (omega arith) bound; water = low })
    (λ e out o. let gone : out.commit ≤ pair.commit = every-among (λ old. old.commit ≤ pair.commit) out bucket.kept bound o.there in record {
      above = every-added (λ old. out.commit ≤ old.commit) (without bucket.kept out.key) pair gone (every-without (λ old. out.commit ≤ old.commit) bucket.kept out.key o.least);
      below = every-added (λ old. old.commit ≤ pair.commit) (without bucket.kept out.key) pair (omega arith) (every-without (λ old. old.commit ≤ pair.commit) bucket.kept out.key bound);
      water = gone;
    })

pub water-recorded : (bucket : Bucket) (pair : Recorded) (top : ℕ) → IsOrdered bucket → IsRisen top bucket → bucket.water ≤ (recorded bucket pair).water
water-recorded bucket pair top h r = recorded_cases bucket pair (λ next. bucket.water ≤ next.water) h.wide
    (λ commit e. omega arith)
    (λ e room. omega arith)
    (λ e out o. every-among (λ old. bucket.water ≤ old.commit) out bucket.kept r.above o.there)

pub width-recorded : (bucket : Bucket) (pair : Recorded) → 1 ≤ bucket.width → (recorded bucket pair).width ≡ bucket.width
width-recorded bucket pair wide = recorded_cases bucket pair (λ next. next.width ≡ bucket.width) wide (λ commit e. refl) (λ e room. refl) (λ e out o. refl)

-- the pair is kept
pub kept_commit-recorded : (bucket : Bucket) (pair : Recorded) → IsOrdered bucket → kept_commit (recorded bucket pair).kept pair.key ≡ Some pair.commit
kept_commit-recorded bucket pair h = recorded_cases bucket pair (λ next. kept_commit next.kept pair.key ≡ Some pair.commit) h.wide
    (λ commit e. kept_commit-replaced bucket.kept pair commit e)
    (λ e room. kept_commit-added bucket.kept pair e)
    (λ e out o. kept_commit-added (without bucket.kept out.key) pair (left_without bucket pair out h e o))

-- another key's commit stays, or it goes out and is the water
abbrev pub StaysOrGoes : Bucket → ℕ → Bucket → Type 0
StaysOrGoes bucket key next = (kept_commit next.kept key ≡ kept_commit bucket.kept key) ⊎ ((kept_commit bucket.kept key ≡ Some next.water) × (kept_commit next.kept key ≡ None))

pub other_key-recorded : (bucket : Bucket) (pair : Recorded) (key : ℕ) → IsOrdered bucket → (pair.key ≡ key → ⊥) → StaysOrGoes bucket key (recorded bucket pair)
other_key-recorded bucket pair key h ne = recorded_cases bucket pair (StaysOrGoes bucket key) h.wide
    (λ commit e. inl (kept_commit-replaced_other bucket.kept pair key ne))
    (λ e room. inl (kept_commit-added_other bucket.kept pair key ne))
    (λ e out o. elim (cases_eq out.key key) [
      | inl same ↦ inr (
        ap (kept_commit bucket.kept) (sym same) ∙ kept_commit-among out bucket.kept h.ascends o.there,
        kept_commit-added_other (without bucket.kept out.key) pair key ne ∙ (ap (kept_commit (without bucket.kept out.key)) (sym same) ∙ kept_commit-without bucket.kept out.key h.ascends),
      )
      | inr other ↦ inl (kept_commit-added_other (without bucket.kept out.key) pair key ne ∙ kept_commit-without_other bucket.kept out.key key other)
    ])
