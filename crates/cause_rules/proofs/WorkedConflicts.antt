-- The short histories of conflicts.
use Rattle.std.proofs.Common.{◌≡◌, ℕ, ◌<◌, true, false, [], ◌∷◌, Some, inl, inr, refl, sym, ◌∙◌, subst, arith, Contains}
use Rattle.std.proofs.lemmas.Option.{same_Some, none-some}
use Rattle.stamp_base.specs.SetupNumbers.{SetupNumbers, default_numbers}
use Rattle.history_book.specs.Members.{◌∈◌}
use Rattle.history_book.specs.declared.cause.Cause.TheVariants as cause
use Rattle.history_book.specs.declared.item.Actor.TheVariants.{Session}
use Rattle.history_book.specs.declared.item.Item.{Item}
use Rattle.history_book.specs.declared.item.StoreStep.TheVariants.{Fetch}
use Rattle.history_book.specs.declared.item.Item.TheVariants.{Draw, Step}
use Rattle.cause_rules.specs.Written.{keys_from, written_keys}
use Rattle.cause_rules.specs.OwnKeys.{since_begin, HasRead, WroteOrRead}
use Rattle.cause_rules.specs.Commits.{ShownConflict}
use Rattle.cause_rules.specs.Explained.{Explained}
use Rattle.cause_rules.specs.WorkedCommits.{strictly, Conflicting, conflicting, read_conflicting, before_conflict, conflict_told, before_draw, conflict_told_first}
use Rattle.cause_rules.proofs.WorkedRefusals.{of_each, only_key, FetchesOnly, shown_explains, explained_shows, explained_between}

pub above : Explained default_numbers (conflict_told conflicting)
unfolding keys_from ◌∈◌
above = shown_explains default_numbers (before_conflict conflicting) (Session 1) (cause.Conflict 0 3) refl (record {
  node = 0;
  node_is = refl;
  start = 2;
  start_is = refl;
  own = inl (0, omega arith, refl);
  term = 1;
  term_is = refl;
  above = omega arith;
  writer = 1;
  drawn = (0, 0, inr (inr (inr (inr (inr (inl refl))))));
  wrote = (0, omega arith, refl);
})

-- ---- a key that the transaction read and did not write, with strict reads
pub read : Explained (strictly default_numbers) (conflict_told read_conflicting)
unfolding keys_from ◌∈◌
read = shown_explains (strictly default_numbers) (before_conflict read_conflicting) (Session 1) (cause.Conflict 0 3) refl (record {
  node = 0;
  node_is = refl;
  start = 2;
  start_is = refl;
  own = inr (refl, record { begun = refl; fetched = (1, inl refl) });
  term = 1;
  term_is = refl;
  above = omega arith;
  writer = 1;
  drawn = (0, 0, inr (inr (inr (inr (inr (inl refl))))));
  wrote = (0, omega arith, refl);
})

-- ---- what must hold of the numbers
record Told (setup : SetupNumbers) (c : Conflicting) : Type 0 where
  above : c.start < c.by
  own : WroteOrRead setup (before_conflict c) 1 c.start 0
  term : 1 ≡ c.drawn_in
  by : c.by ≡ 3
  wrote : Contains (written_keys (before_conflict c) 1) 0

-- the only commit that is drawn
abbrev OnlyDraw : Conflicting → Item → Type 0
OnlyDraw c (Draw session node term writer (Some commit)) = (term ≡ c.drawn_in) × (writer ≡ 1) × (commit ≡ 3)
OnlyDraw c _ = Unit {0}

shown_told : (setup : SetupNumbers) (c : Conflicting) → ShownConflict setup (before_conflict c) 1 0 c.by → Told setup c
shown_told setup c shown =
    let drawn : (shown.term ≡ c.drawn_in) × (shown.writer ≡ 1) × (c.by ≡ 3) =
    of_each (OnlyDraw c) (Draw shown.drawn.0 shown.drawn.1 shown.term shown.writer (Some c.by)) (before_conflict c) (tt, (tt, (tt, (tt, (tt, ((refl, refl, refl), (tt, (tt, tt)))))))) shown.drawn.2 in
    let start : shown.start ≡ c.start = sym (same_Some _ _ shown.start_is) in
    record {
      above = subst (λ (t : ℕ). t < c.by) start shown.above;
      own = subst (λ (t : ℕ). WroteOrRead setup (before_conflict c) 1 t 0) start shown.own;
      term = same_Some _ _ shown.term_is ∙ drawn.0;
      by = drawn.2;
      wrote = subst (λ (t : ℕ). Contains (written_keys (before_conflict c) t) 0) drawn.1 shown.wrote;
    }

told_by : (setup : SetupNumbers) (c : Conflicting) → Explained setup (conflict_told c) → Told setup c
told_by setup c e = shown_told setup c (explained_shows setup (before_conflict c) (Session 1) (cause.Conflict 0 c.by) e)

abbrev told_of : (c : Conflicting) → Explained default_numbers (conflict_told c) → Told default_numbers c
told_of c e = told_by default_numbers c e

-- ---- where the transaction wrote another key it has read this one
abbrev reading : ℕ → ℕ → ℕ → ℕ → Conflicting
reading reader before begun since = record conflicting { own = 5; reader = reader; read_before = before; begun = begun; read = since }

must_read : (setup : SetupNumbers) (reader before begun since : ℕ) → Explained setup (conflict_told (reading reader before begun since))
    → (setup.strict ≡ true) × HasRead (before_conflict (reading reader before begun since)) 1 2 0
unfolding keys_from
must_read setup reader before begun since e = elim (told_by setup (reading reader before begun since) e).own [
  | inl wrote ↦ let same : 5 ≡ 0 = only_key 5 0 wrote in absurd (omega (arith, same))
  | inr has ↦ has
]

only_fetch : (before since : ℕ) → HasRead (before_conflict (reading 1 before 2 since)) 1 2 0 → since ≡ 0
only_fetch before since has =
    of_each (FetchesOnly since) (Step (Session 1) (Fetch 0 has.fetched.0)) (since_begin (before_conflict (reading 1 before 2 since)) 1) (refl, (tt, (tt, (tt, (tt, (tt, tt)))))) has.fetched.1

-- ---- one of them turned
pub at_the_start : Explained default_numbers (conflict_told (record conflicting { start = 3 })) → ⊥
at_the_start e = let low : 3 < 3 = (told_of (record conflicting { start = 3 }) e).above in absurd (omega (arith, low))

pub below_the_start : Explained default_numbers (conflict_told (record conflicting { start = 4 })) → ⊥
below_the_start e = let low : 4 < 3 = (told_of (record conflicting { start = 4 }) e).above in absurd (omega (arith, low))

pub other_term : Explained default_numbers (conflict_told (record conflicting { drawn_in = 2 })) → ⊥
other_term e = let same : 1 ≡ 2 = (told_of (record conflicting { drawn_in = 2 }) e).term in absurd (omega (arith, same))

pub not_drawn : Explained default_numbers (conflict_told (record conflicting { by = 4 })) → ⊥
not_drawn e = let same : 4 ≡ 3 = (told_of (record conflicting { by = 4 }) e).by in absurd (omega (arith, same))

pub not_of_the_writer : Explained default_numbers (conflict_told (record conflicting { written = 5 })) → ⊥
unfolding keys_from
not_of_the_writer e = let same : 5 ≡ 0 = only_key 5 0 (told_of (record conflicting { written = 5 }) e).wrote in absurd (omega (arith, same))

pub not_its_own : Explained default_numbers (conflict_told (record conflicting { own = 5 })) → ⊥
not_its_own e = let strict : false ≡ true = (must_read default_numbers 1 6 2 6 e).0 in absurd (cc)

pub read_later : Explained (strictly default_numbers) (conflict_told (record read_conflicting { begun = 4; start = 4 })) → ⊥
read_later e = let low : 4 < 3 = (told_by (strictly default_numbers) (record read_conflicting { begun = 4; start = 4 }) e).above in absurd (omega (arith, low))

pub read_not_strictly : Explained default_numbers (conflict_told read_conflicting) → ⊥
read_not_strictly e = let strict : false ≡ true = (must_read default_numbers 1 6 2 0 e).0 in absurd (cc)

pub not_read : Explained (strictly default_numbers) (conflict_told (record read_conflicting { read = 7 })) → ⊥
not_read e = let same : 7 ≡ 0 = only_fetch 6 7 (must_read (strictly default_numbers) 1 6 2 7 e).1 in absurd (omega (arith, same))

pub read_before : Explained (strictly default_numbers) (conflict_told (record read_conflicting { read_before = 0; read = 7 })) → ⊥
read_before e = let same : 7 ≡ 0 = only_fetch 0 7 (must_read (strictly default_numbers) 1 0 2 7 e).1 in absurd (omega (arith, same))

pub read_by_another : Explained (strictly default_numbers) (conflict_told (record read_conflicting { reader = 0 })) → ⊥
read_by_another e = none-some 2 (must_read (strictly default_numbers) 0 6 2 0 e).1.begun

pub read_for_another : Explained (strictly default_numbers) (conflict_told (record read_conflicting { begun = 1 })) → ⊥
read_for_another e = let same : 1 ≡ 2 = same_Some _ _ (must_read (strictly default_numbers) 1 6 1 0 e).1.begun in absurd (omega (arith, same))

abbrev NoDraw : Item → Type 0
NoDraw (Draw session node term start commit) = ⊥
NoDraw _ = Unit {0}

pub drawn_later : Explained default_numbers conflict_told_first → ⊥
drawn_later e =
    let shown : ShownConflict default_numbers before_draw 1 0 3 = explained_between default_numbers before_draw (Session 1) (cause.Conflict 0 3) (Draw 0 0 1 1 (Some 3) ∷ []) e in
    of_each NoDraw (Draw shown.drawn.0 shown.drawn.1 shown.term shown.writer (Some 3)) before_draw (tt, (tt, (tt, (tt, tt)))) shown.drawn.2
