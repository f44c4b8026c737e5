-- The short histories of keys that are hidden.
use Rattle.std.proofs.Common.{◌≡◌, ℕ, ◌<◌, true, false, Option, None, Some, ◌⊎◌, inl, inr, refl, sym, ◌∙◌, ap, subst, arith, Contains}
use Rattle.std.proofs.lemmas.Option.{same_Some}
use Rattle.stamp_base.specs.SetupNumbers.{SetupNumbers}
use Rattle.history_book.specs.Members.{◌∈◌}
use Rattle.history_book.specs.declared.cause.Cause.TheVariants as cause
use Rattle.history_book.specs.declared.item.Actor.TheVariants.{Session}
use Rattle.history_book.specs.declared.item.Item.{Item}
use Rattle.history_book.specs.declared.item.StoreStep.TheVariants.{Fetch}
use Rattle.history_book.specs.declared.item.Item.TheVariants.{Draw, Step}
use Rattle.system_parts.specs.Buckets.{Bucket, place_of, bucket_of, contents, kept_commit, record_pairs, added, without, oldest}
use Rattle.cause_rules.specs.Written.{keys_from, written_keys, recorded, recorded_in}
use Rattle.cause_rules.specs.OwnKeys.{since_begin, HasRead, WroteOrRead}
use Rattle.cause_rules.specs.Commits.{ShownHidden}
use Rattle.cause_rules.specs.Explained.{Explained}
use Rattle.cause_rules.specs.WorkedCommits.{strictly, Hiding, hiding, read_hiding, buckets_of, before_hidden, hidden_told}
use Rattle.cause_rules.proofs.WorkedRefusals.{of_each, only_key, FetchesOnly, shown_explains, explained_shows}

pub forgotten : Explained (buckets_of 1) (hidden_told hiding)
unfolding keys_from recorded_in record_pairs kept_commit added without oldest ◌∈◌
forgotten = shown_explains (buckets_of 1) (before_hidden hiding) (Session 2) (cause.Hidden 0 4) refl (record {
  node = 0;
  node_is = refl;
  start = 3;
  start_is = refl;
  own = inl (0, omega arith, refl);
  term = 1;
  term_is = refl;
  forgotten = refl;
  forgot = refl;
  above = omega arith;
  writer = 1;
  drawn = (0, 0, inr (inr (inr (inr (inr (inr (inl refl)))))));
  other = 0;
  wrote = (0, omega arith, refl);
  same_bucket = refl;
})

-- ---- a key that the transaction read and did not write, with strict reads
pub read : Explained (strictly (buckets_of 1)) (hidden_told read_hiding)
unfolding keys_from recorded_in record_pairs kept_commit added without oldest ◌∈◌
read = shown_explains (strictly (buckets_of 1)) (before_hidden read_hiding) (Session 2) (cause.Hidden 0 4) refl (record {
  node = 0;
  node_is = refl;
  start = 3;
  start_is = refl;
  own = inr (refl, record { begun = refl; fetched = (1, inl refl) });
  term = 1;
  term_is = refl;
  forgotten = refl;
  forgot = refl;
  above = omega arith;
  writer = 1;
  drawn = (0, 0, inr (inr (inr (inr (inr (inr (inl refl)))))));
  other = 0;
  wrote = (0, omega arith, refl);
  same_bucket = refl;
})

-- ---- what must hold of the numbers
-- the key's bucket, and what it keeps for the key
abbrev bucket_in : SetupNumbers → Hiding → ℕ → Bucket
bucket_in setup c term = bucket_of (contents setup.buckets setup.width (recorded (before_hidden c) term)) c.key

abbrev kept_of : SetupNumbers → Hiding → ℕ → Option ℕ
kept_of setup c term = kept_commit (bucket_in setup c term).kept c.key

-- the two commits that are drawn
abbrev TwoDraws : Hiding → Item → Type 0
TwoDraws c (Draw session node term writer (Some commit)) = ((writer ≡ 1) × (commit ≡ 4) × (term ≡ c.drawn_in)) ⊎ (commit ≡ 5)
TwoDraws c _ = Unit {0}

record Told (setup : SetupNumbers) (c : Hiding) : Type 0 where
  above : c.start < c.water
  own : WroteOrRead setup (before_hidden c) 2 c.start c.key
  kept : kept_of setup c 1 ≡ None
  water : (bucket_in setup c 1).water ≡ c.water
  writer : ℕ
  drawn : ((writer ≡ 1) × (c.water ≡ 4) × (1 ≡ c.drawn_in)) ⊎ (c.water ≡ 5)
  other : ℕ
  wrote : Contains (written_keys (before_hidden c) writer) other
  same_bucket : place_of setup.buckets other ≡ place_of setup.buckets c.key

told_by : (setup : SetupNumbers) (c : Hiding) → Explained setup (hidden_told c) → Told setup c
told_by setup c e =
    let shown : ShownHidden setup (before_hidden c) 2 c.key c.water = explained_shows setup (before_hidden c) (Session 2) (cause.Hidden c.key c.water) e in
    let start : shown.start ≡ c.start = sym (same_Some _ _ shown.start_is) in
    let term : shown.term ≡ 1 = sym (same_Some _ _ shown.term_is) in
    let drawn : TwoDraws c (Draw shown.drawn.0 shown.drawn.1 shown.term shown.writer (Some c.water)) =
    of_each (TwoDraws c) (Draw shown.drawn.0 shown.drawn.1 shown.term shown.writer (Some c.water)) (before_hidden c) (tt, (tt, (tt, (tt, (tt, (tt, (inl (refl, refl, refl), (inr refl, (tt, (tt, tt)))))))))) shown.drawn.2 in
    record {
      above = subst (λ (t : ℕ). t < c.water) start shown.above;
      own = subst (λ (t : ℕ). WroteOrRead setup (before_hidden c) 2 t c.key) start shown.own;
      kept = subst (λ (t : ℕ). kept_of setup c t ≡ None) term shown.forgotten;
      water = subst (λ (t : ℕ). (bucket_in setup c t).water ≡ c.water) term shown.forgot;
      writer = shown.writer;
      drawn = subst (λ (t : ℕ). ((shown.writer ≡ 1) × (c.water ≡ 4) × (t ≡ c.drawn_in)) ⊎ (c.water ≡ 5)) term drawn;
      other = shown.other;
      wrote = shown.wrote;
      same_bucket = shown.same_bucket;
    }

abbrev told_of : (width : ℕ) (c : Hiding) → Explained (buckets_of width) (hidden_told c) → Told (buckets_of width) c
told_of width c e = told_by (buckets_of width) c e

some_not_none : (commit : ℕ) → Some commit ≡ None → ⊥
some_not_none commit same = cc

-- ---- one of them turned
pub kept_by_width : Explained (buckets_of 2) (hidden_told hiding) → ⊥
unfolding keys_from recorded_in record_pairs kept_commit added
kept_by_width e = absurd (some_not_none 4 (told_of 2 hiding e).kept)

pub read_kept : Explained (strictly (buckets_of 2)) (hidden_told read_hiding) → ⊥
unfolding keys_from recorded_in record_pairs kept_commit added
read_kept e = absurd (some_not_none 4 (told_by (strictly (buckets_of 2)) read_hiding e).kept)

pub kept : Explained (buckets_of 1) (hidden_told (record hiding { own = 4; key = 4 })) → ⊥
unfolding keys_from recorded_in record_pairs kept_commit added without oldest
kept e = absurd (some_not_none 5 (told_of 1 (record hiding { own = 4; key = 4 }) e).kept)

pub at_the_start : Explained (buckets_of 1) (hidden_told (record hiding { start = 4 })) → ⊥
at_the_start e = let low : 4 < 4 = (told_of 1 (record hiding { start = 4 }) e).above in absurd (omega (arith, low))

pub below_the_start : Explained (buckets_of 1) (hidden_told (record hiding { start = 6 })) → ⊥
below_the_start e = let low : 6 < 4 = (told_of 1 (record hiding { start = 6 }) e).above in absurd (omega (arith, low))

pub other_term : Explained (buckets_of 1) (hidden_told (record hiding { drawn_in = 2 })) → ⊥
other_term e = elim (told_of 1 (record hiding { drawn_in = 2 }) e).drawn [
  | inl first ↦ let same : 1 ≡ 2 = first.2 in absurd (omega (arith, same))
  | inr second ↦ let same : 4 ≡ 5 = second in absurd (omega (arith, same))
]

pub not_drawn : Explained (buckets_of 1) (hidden_told (record hiding { water = 7 })) → ⊥
not_drawn e = elim (told_of 1 (record hiding { water = 7 }) e).drawn [
  | inl first ↦ let same : 7 ≡ 4 = first.1 in absurd (omega (arith, same))
  | inr second ↦ let same : 7 ≡ 5 = second in absurd (omega (arith, same))
]

pub not_forgotten : Explained (buckets_of 1) (hidden_told (record hiding { water = 5 })) → ⊥
unfolding keys_from recorded_in record_pairs kept_commit added without oldest
not_forgotten e = let same : 4 ≡ 5 = (told_of 1 (record hiding { water = 5 }) e).water in absurd (omega (arith, same))

abbrev of_other_bucket : Hiding
of_other_bucket = record hiding { written = 1 }

wrote_one : (writer other : ℕ) → writer ≡ 1 → Contains (written_keys (before_hidden of_other_bucket) writer) other → 1 ≡ other
unfolding keys_from
wrote_one writer other is wrote = only_key 1 other (subst (λ (w : ℕ). Contains (written_keys (before_hidden of_other_bucket) w) other) is wrote)

pub other_bucket : Explained (buckets_of 1) (hidden_told of_other_bucket) → ⊥
other_bucket e =
    let told : Told (buckets_of 1) of_other_bucket = told_of 1 of_other_bucket e in
    elim told.drawn [
      | inl first ↦
          let same : 1 ≡ 0 = ap (λ (k : ℕ). place_of 4 k) (wrote_one told.writer told.other first.0 told.wrote) ∙ told.same_bucket in
          absurd (omega (arith, same))
      | inr second ↦ let same : 4 ≡ 5 = second in absurd (omega (arith, same))
    ]

-- ---- where the transaction wrote another key it has read this one
abbrev reading : ℕ → ℕ → Hiding
reading before since = record hiding { own = 8; read_before = before; read = since }

must_read : (setup : SetupNumbers) (before since : ℕ) → Explained setup (hidden_told (reading before since)) → (setup.strict ≡ true) × HasRead (before_hidden (reading before since)) 2 3 0
unfolding keys_from
must_read setup before since e = elim (told_by setup (reading before since) e).own [
  | inl wrote ↦ let same : 8 ≡ 0 = only_key 8 0 wrote in absurd (omega (arith, same))
  | inr has ↦ has
]

only_fetch : (before since : ℕ) → HasRead (before_hidden (reading before since)) 2 3 0 → since ≡ 0
only_fetch before since has =
    of_each (FetchesOnly since) (Step (Session 2) (Fetch 0 has.fetched.0)) (since_begin (before_hidden (reading before since)) 2) (refl, (tt, (tt, (tt, (tt, (tt, (tt, (tt, tt)))))))) has.fetched.1

pub not_its_own : Explained (buckets_of 1) (hidden_told (record hiding { own = 8 })) → ⊥
not_its_own e = let strict : false ≡ true = (must_read (buckets_of 1) 6 6 e).0 in absurd (cc)

pub read_not_strictly : Explained (buckets_of 1) (hidden_told read_hiding) → ⊥
read_not_strictly e = let strict : false ≡ true = (must_read (buckets_of 1) 6 0 e).0 in absurd (cc)

pub not_read : Explained (strictly (buckets_of 1)) (hidden_told (record read_hiding { read = 7 })) → ⊥
not_read e = let same : 7 ≡ 0 = only_fetch 6 7 (must_read (strictly (buckets_of 1)) 6 7 e).1 in absurd (omega (arith, same))

pub read_before : Explained (strictly (buckets_of 1)) (hidden_told (record read_hiding { read_before = 0; read = 7 })) → ⊥
read_before e = let same : 7 ≡ 0 = only_fetch 0 7 (must_read (strictly (buckets_of 1)) 0 7 e).1 in absurd (omega (arith, same))
