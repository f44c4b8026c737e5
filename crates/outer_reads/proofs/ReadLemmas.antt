-- What stands at a place, and what is noted of it.
use Rattle.std.proofs.Common.{◌≡◌, ◌≢◌, ℕ, ◌+◌, ◌<◌, ◌≤◌, ◌⊎◌, List, [], ◌∷◌, ◌++◌, Option, None, Some, length, slice_get, inl, inr, refl, sym, subst, ap, ◌∙◌, arith, MatchOption}
use Rattle.std.proofs.lemmas.Option.{slice_get_within}
use Rattle.trace_rules.specs.declared.trace.Version.{Version}
use Rattle.trace_rules.specs.declared.trace.Operation.{Operation}
use Rattle.trace_rules.specs.declared.trace.Operation.TheVariants.{Read, Write}
use Rattle.trace_rules.specs.Trace.{Trace, Writer, ReadAt}
use Rattle.outer_reads.specs.declared.writings.Writing.{Writing}
use Rattle.outer_reads.specs.declared.readings.Reading.{Reading}
use Rattle.outer_reads.specs.declared.readings.Look.{Look}
use Rattle.outer_reads.specs.declared.readings.Look.TheVariants.{Outer, Right, Wrong}
use Rattle.outer_reads.specs.Sources.{AreWritings, AreRight, IsLook, IsOwnLook, IsReading, OuterAt, RightAt, IsWrong, NotOwn, NoVersion, AreKnown, HasSource, Leaves, LeavesNone, WritingsTo}
use Rattle.outer_reads.proofs.ListLemmas.{get_push_cases, get_push_old, get_push_new}
use Rattle.outer_reads.proofs.LastLemmas.{last_written}

-- two reads at one place are one
pub record SameRead (t k u l : ℕ) (a b : Option Version) (o p : Option ℕ) : Type 0 where
  pub txn : t ≡ u
  pub key : k ≡ l
  pub answer : a ≡ b
  pub own : o ≡ p

pub same_read : (trace : Trace) (place t k u l : ℕ) (a b : Option Version) (o p : Option ℕ) → ReadAt trace place t k a o → ReadAt trace place u l b p → SameRead t k u l a b o p
same_read trace place t k u l a b o p r s =
    let both : Some (Read t k a) ≡ Some (Read u l b) = sym r.stands ∙ s.stands in
    let before = r.before in
    let after = s.before in
    record { txn = cc; key = cc; answer = cc; own = (let x : t ≡ u = cc in let y : k ≡ l = cc in cc) }

reading_is : (r : Reading) (p t k : ℕ) (answer : Option Version) → r.place ≡ p → r.txn ≡ t → r.key ≡ k → r.answer ≡ answer → ◌≡◌ {A = Reading} r (record { place = p; txn = t; key = k; answer = answer })
reading_is r p t k answer a b c d =
    subst (λ (x : ℕ). ◌≡◌ {A = Reading} r (record { place = x; txn = t; key = k; answer = answer })) a
    (subst (λ (x : ℕ). ◌≡◌ {A = Reading} r (record { place = r.place; txn = x; key = k; answer = answer })) b
    (subst (λ (x : ℕ). ◌≡◌ {A = Reading} r (record { place = r.place; txn = r.txn; key = x; answer = answer })) c
    (subst (λ (x : Option Version). ◌≡◌ {A = Reading} r (record { place = r.place; txn = r.txn; key = r.key; answer = x })) d refl)))

pub one_less : (n m : ℕ) → n < m + 1 → (n < m) ⊎ (n ≡ m)
one_less n m less = grind (arith, less)

pub none_right : (trace : Trace) → AreRight trace 0 []
none_right trace = record {
  outer = record { read = λ i r at. absurd (none i r at); all = λ place t k answer low read. absurd (omega (arith, low)) };
  own = λ place t k own answer low read. absurd (omega (arith, low));
}
  where
    none : (i : ℕ) (r : Reading) → slice_get {X = Reading} [] i ≡ Some r → ⊥
    none i r at = cc

module _ (trace : Trace) (place : ℕ) (readings : List Reading) (are : AreRight trace place readings) where
  pub right_on : RightAt trace place → AreRight trace (place + 1) readings
  right_on right = record {
    outer = record {
      read = are.outer.read;
      all = λ p t k answer low read. elim (one_less p place low) [
        | inl earlier ↦ are.outer.all p t k answer earlier read
        | inr here ↦ absurd (right.none t k answer (subst (λ (n : ℕ). ReadAt trace n t k answer None) here read))
      ];
    };
    own = λ p t k own answer low read. elim (one_less p place low) [
      | inl earlier ↦ are.own p t k own answer earlier read
      | inr here ↦ right.own t k own answer (subst (λ (n : ℕ). ReadAt trace n t k answer (Some own)) here read)
    ];
  }

  pub outer_on : (r : Reading) → OuterAt trace place r → AreRight trace (place + 1) (readings ++ r ∷ [])
  outer_on r is = record {
    outer = record {
      read = λ i s at. elim (get_push_cases readings r i s at) [
        | inl old ↦ are.outer.read i s old
        | inr new ↦ subst (λ (x : Reading). IsReading trace x) new is.reading
      ];
      all = λ p t k answer low read. elim (one_less p place low) [
        | inl earlier ↦ let there = are.outer.all p t k answer earlier read in (there.0, get_push_old readings r there.0 (record { place = p; txn = t; key = k; answer = answer }) there.1)
        | inr here ↦ last p t k answer here read
      ];
    };
    own = λ p t k own answer low read. elim (one_less p place low) [
      | inl earlier ↦ are.own p t k own answer earlier read
      | inr here ↦ absurd (not_own p t k own answer here read)
    ];
  }
    where
      last : (p t k : ℕ) (answer : Option Version) → p ≡ place → ReadAt trace p t k answer None → (i : ℕ) × (slice_get (readings ++ r ∷ []) i ≡ Some (record { place = p; txn = t; key = k; answer = answer }))
      last p t k answer here read =
          let same = same_read trace r.place r.txn r.key t k r.answer answer None None is.reading (subst (λ (n : ℕ). ReadAt trace n t k answer None) (here ∙ sym is.at) read) in
          let new = get_push_new readings r in
          (new.0, new.1 ∙ ap Some (reading_is r p t k answer (is.at ∙ sym here) same.txn same.key same.answer))

      not_own : (p t k own : ℕ) (answer : Option Version) → p ≡ place → ReadAt trace p t k answer (Some own) → ⊥
      not_own p t k own answer here read =
          let same = same_read trace r.place r.txn r.key t k r.answer answer None (Some own) is.reading (subst (λ (n : ℕ). ReadAt trace n t k answer (Some own)) (here ∙ sym is.at) read) in
          let other = same.own in cc

pub note_right : (trace : Trace) (place : ℕ) (readings : List Reading) (look : Look) (new : List Reading) → IsLook trace place look → AreRight trace place readings → ((r : Reading) → look ≡ Outer r → new ≡ readings ++ r ∷ []) → (look ≡ Right → new ≡ readings) → look ≢ Wrong → AreRight trace (place + 1) new
note_right trace place readings (Outer r) new is are outer right wrong = subst (λ (xs : List Reading). AreRight trace (place + 1) xs) (sym (outer r refl)) (outer_on trace place readings are r is)
note_right trace place readings Right new is are outer right wrong = subst (λ (xs : List Reading). AreRight trace (place + 1) xs) (sym (right refl)) (right_on trace place readings are is)
note_right trace place readings Wrong new is are outer right wrong = absurd (wrong refl)

pub own_looks : (trace : Trace) (place t k own : ℕ) (answer : Option Version) (look : Look) → ReadAt trace place t k answer (Some own) → IsOwnLook answer t own look → IsLook trace place look
own_looks trace place t k own answer (Outer r) read is = absurd is
own_looks trace place t k own answer Right read is = record {
  none = λ u l a other. absurd (let same = same_read trace place t k u l answer a (Some own) None read other in let o = same.own in cc);
  own = λ u l o a other. let same = same_read trace place t k u l answer a (Some own) (Some o) read other in
      let x = same.txn in let y = same.answer in let z = same.own in cc;
}
own_looks trace place t k own answer Wrong read is = NotOwn t k own answer read is

-- ---- writings
pub none_written : (trace : Trace) → WritingsTo trace 0 []
none_written trace = record { wrote = λ place w at. absurd (none place w at); all = λ p operation w low at leaves. absurd (omega (arith, low)) }
  where
    none : (i : ℕ) (w : Writing) → slice_get {X = Writing} [] i ≡ Some w → ⊥
    none i w at = cc

same_operation : (a b : Operation) → Some a ≡ Some b → a ≡ b
same_operation a b e = cc

same_writing : (trace : Trace) (operation : Operation) (w x : Writing) → Leaves trace operation w → Leaves trace operation x → w ≡ x
same_writing trace operation w x a b =
    let both : Write w.txn w.key w.value ≡ Write x.txn x.key x.value = sym a.is ∙ b.is in
    by w x (cc) (cc) (cc)
  where
    by : (w x : Writing) → w.txn ≡ x.txn → w.key ≡ x.key → w.value ≡ x.value → w ≡ x
    by w x p q r =
        subst (λ (n : ℕ). ◌≡◌ {A = Writing} w (record { txn = n; key = x.key; value = x.value })) p
        (subst (λ (n : ℕ). ◌≡◌ {A = Writing} w (record { txn = w.txn; key = n; value = x.value })) q
        (subst (λ (n : ℕ). ◌≡◌ {A = Writing} w (record { txn = w.txn; key = w.key; value = n })) r refl))

pub writings_on : (trace : Trace) (place : ℕ) (operation : Operation) (old new : List Writing) (found : Option Writing) → slice_get trace.operations place ≡ Some operation →
    MatchOption found (LeavesNone trace operation) (λ w. Leaves trace operation w) → MatchOption found (new ≡ old) (λ w. new ≡ old ++ w ∷ []) → WritingsTo trace place old → WritingsTo trace (place + 1) new
writings_on trace place operation old new None at leaves is to = subst (λ (xs : List Writing). WritingsTo trace (place + 1) xs) (sym is) (record {
  wrote = to.wrote;
  all = λ p o w low at_p left. elim (one_less p place low) [
    | inl earlier ↦ to.all p o w earlier at_p left
    | inr here ↦ absurd (leaves.none w (subst (λ (x : Operation). Leaves trace x w) (same_operation o operation (sym at_p ∙ ap (λ (n : ℕ). slice_get trace.operations n) here ∙ at)) left))
  ];
})
writings_on trace place operation old new (Some x) at leaves is to = subst (λ (xs : List Writing). WritingsTo trace (place + 1) xs) (sym is) (record {
  wrote = λ i w at_i. elim (get_push_cases old x i w at_i) [
    | inl before ↦ to.wrote i w before
    | inr last ↦ subst (λ (y : Writing). Writer trace y.txn y.key y.value) last (record { done = leaves.done; wrote = leaves.last })
  ];
  all = λ p o w low at_p left. elim (one_less p place low) [
    | inl earlier ↦ let there = to.all p o w earlier at_p left in (there.0, get_push_old old x there.0 w there.1)
    | inr here ↦ let new_one = get_push_new old x in (new_one.0, new_one.1 ∙ ap Some (same_writing trace operation x w leaves (subst (λ (y : Operation). Leaves trace y w) (same_operation o operation (sym at_p ∙ ap (λ (n : ℕ). slice_get trace.operations n) here ∙ at)) left)))
  ];
})

pub all_written : (trace : Trace) (writings : List Writing) (until : ℕ) → length trace.operations ≤ until → WritingsTo trace until writings → AreWritings trace writings
all_written trace writings until whole to = record {
  wrote = to.wrote;
  all = λ t k value w. let there = last_written trace.operations t k value w.wrote in
      to.all there.0 (Write t k value) (record { txn = t; key = k; value = value }) (let low = slice_get_within trace.operations there.0 (Write t k value) there.1 in omega (arith, low, whole)) there.1 (record { is = refl; done = w.done; last = w.wrote });
}

-- ---- sources
pub all_known : (trace : Trace) (readings : List Reading) (writings : List Writing) → AreRight trace (length trace.operations) readings → ((i : ℕ) (r : Reading) → slice_get readings i ≡ Some r → HasSource trace r.key r.answer) → AreWritings trace writings → AreKnown trace readings writings
all_known trace readings writings right sources are = record {
  sourced = record {
    outer = λ t k found outer. let there = right.outer.all outer.place t k (Some found) (slice_get_within trace.operations outer.place (Read t k (Some found)) outer.read.stands) outer.read in
        sources there.0 (record { place = outer.place; txn = t; key = k; answer = Some found }) there.1;
    own = λ place t k own answer read. right.own place t k own answer (slice_get_within trace.operations place (Read t k answer) read.stands) read;
  };
  read = right.outer;
  wrote = are;
}

-- a read of what is no version
pub wrong_source : (trace : Trace) (place t k : ℕ) (answer : Option Version) → ReadAt trace place t k answer None → (HasSource trace k answer → ⊥) → IsWrong trace place
wrong_source trace place t k None read none = absurd (none tt)
wrong_source trace place t k (Some found) read none = NoVersion t k found read none
