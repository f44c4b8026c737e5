-- Why reads that go round refuse a trace, and numbers that rise along them order it.
use Rattle.std.proofs.Common.{◌≡◌, ◌≢◌, ℕ, ◌+◌, ◌<◌, ◌⊎◌, List, [], ◌∷◌, ◌++◌, Option, None, Some, true, length, slice_get, get_or, inl, inr, refl, sym, subst, ap, ◌∙◌, arith}
use Rattle.std.proofs.lemmas.Option.{same_Some, slice_get_within}
use Rattle.trace_rules.specs.declared.trace.Version.{Version}
use Rattle.trace_rules.specs.declared.trace.Transaction.{Transaction}
use Rattle.trace_rules.specs.Trace.{Trace, Done, OuterRead, ReadAt, committed_in}
use Rattle.rising_numbers.specs.declared.Edge.{Edge}
use Rattle.rising_numbers.specs.Rises.{AreWithin, IsCycle, Leads, Rises}
use Rattle.outer_reads.specs.declared.readings.Reading.{Reading}
use Rattle.outer_reads.specs.declared.writings.Writing.{Writing}
use Rattle.outer_reads.specs.Sources.{AreKnown, IsWrong, NotOwn, NoVersion}
use Rattle.outer_reads.proofs.ListLemmas.{get_push_cases, get_push_old, get_push_new}
use Rattle.committed_reads.specs.Committed.{AreReadEdges, CommittedReads, IsPushed, IsReadEdge, LaidOn, LeftOut}

one_less : (n m : ℕ) → n < m + 1 → (n < m) ⊎ (n ≡ m)
one_less n m less = grind (arith, less)

done_within : (trace : Trace) (t : ℕ) → Done trace t → t < length trace.transactions
done_within trace t done = by (slice_get trace.transactions t) refl
  where
    by : (o : Option Transaction) → slice_get trace.transactions t ≡ o → t < length trace.transactions
    by None is = absurd (let none : committed_in None ≡ true = ap (λ (x : Option Transaction). committed_in x) (sym is) ∙ done in cc)
    by (Some x) is = slice_get_within trace.transactions t x is

-- ---- the edges
pub none_laid : (count : ℕ) (readings : List Reading) → AreReadEdges count readings 0 []
none_laid count readings = record {
  within = record { from = λ place edge at. absurd (none place edge at); to = λ place edge at. absurd (none place edge at) };
  each = λ place edge at. absurd (none place edge at);
  all = λ i r found low at answer from to. absurd (omega (arith, low));
}
  where
    none : (place : ℕ) (edge : Edge) → slice_get {X = Edge} [] place ≡ Some edge → ⊥
    none place edge at = cc

module _ (count i : ℕ) (readings : List Reading) (old : List Edge) (r : Reading) (at : slice_get readings i ≡ Some r) (laid : AreReadEdges count readings i old) where
  same_reading : (j : ℕ) (s : Reading) → j ≡ i → slice_get readings j ≡ Some s → s ≡ r
  same_reading j s here at_s = same_Some s r (sym at_s ∙ ap (λ (m : ℕ). slice_get readings m) here ∙ at)

  pub nothing_read : r.answer ≡ None → AreReadEdges count readings (i + 1) old
  nothing_read none = record {
    within = laid.within;
    each = laid.each;
    all = λ j s found low at_s answer from to. elim (one_less j i low) [
      | inl before ↦ laid.all j s found before at_s answer from to
      | inr here ↦ absurd (no_answer found (sym none ∙ ap (λ (x : Reading). x.answer) (sym (same_reading j s here at_s)) ∙ answer))
    ];
  }
    where
      no_answer : (found : Version) → None ≡ Some found → ⊥
      no_answer found e = cc

  module _ (found : Version) (answer : r.answer ≡ Some found) where
    same_found : (j : ℕ) (s : Reading) (other : Version) → j ≡ i → slice_get readings j ≡ Some s → s.answer ≡ Some other → other ≡ found
    same_found j s other here at_s is = same_Some other found (sym is ∙ ap (λ (x : Reading). x.answer) (same_reading j s here at_s) ∙ answer)

    pub read_left_out : (found.from < count → r.txn < count → ⊥) → AreReadEdges count readings (i + 1) old
    read_left_out out = record {
      within = laid.within;
      each = laid.each;
      all = λ j s other low at_s is from to. elim (one_less j i low) [
        | inl before ↦ laid.all j s other before at_s is from to
        | inr here ↦ absurd (out (subst (λ (v : Version). v.from < count) (same_found j s other here at_s is) from) (subst (λ (x : Reading). x.txn < count) (same_reading j s here at_s) to))
      ];
    }

    abbrev edge : Edge
    edge = record { from = found.from; to = r.txn }

    pub read_laid : found.from < count → r.txn < count → AreReadEdges count readings (i + 1) (old ++ record { from = found.from; to = r.txn } ∷ [])
    read_laid low_from low_to = record {
      within = record {
        from = λ place e at_e. elim (get_push_cases old edge place e at_e) [ inl before ↦ laid.within.from place e before | inr last ↦ subst (λ (x : Edge). x.from < count) last low_from ];
        to = λ place e at_e. elim (get_push_cases old edge place e at_e) [ inl before ↦ laid.within.to place e before | inr last ↦ subst (λ (x : Edge). x.to < count) last low_to ];
      };
      each = λ place e at_e. elim (get_push_cases old edge place e at_e) [
        | inl before ↦ laid.each place e before
        | inr last ↦ subst (λ (x : Edge). IsReadEdge readings x) last (record { place = i; reading = r; found = found; stands = at; answer = answer; from = refl; to = refl })
      ];
      all = λ j s other low at_s is from to. elim (one_less j i low) [
        | inl before ↦ let there = laid.all j s other before at_s is from to in (there.0, get_push_old old edge there.0 (record { from = other.from; to = s.txn }) there.1)
        | inr here ↦ let new = get_push_new old edge in
            (new.0, new.1 ∙ same_edge (sym (same_found j s other here at_s is)) (sym (same_reading j s here at_s)))
      ];
    }
      where
        same_edge : {other : Version} {s : Reading} → found ≡ other → r ≡ s → Some edge ≡ Some (record { from = other.from; to = s.txn })
        same_edge one two = cc

pub read_pushed : (count i : ℕ) (readings : List Reading) (old new : List Edge) (r : Reading) (found : Version) → slice_get readings i ≡ Some r → r.answer ≡ Some found → IsPushed count (record { from = found.from; to = r.txn }) old new →
    AreReadEdges count readings i old → AreReadEdges count readings (i + 1) new
read_pushed count i readings old new r found at answer (LaidOn from to is) laid = subst (λ (xs : List Edge). AreReadEdges count readings (i + 1) xs) (sym is) (read_laid count i readings old r at laid found answer from to)
read_pushed count i readings old new r found at answer (LeftOut out is) laid = subst (λ (xs : List Edge). AreReadEdges count readings (i + 1) xs) (sym is) (read_left_out count i readings old r at laid found answer out)

-- ---- verdicts
pub wrong_refuses : (trace : Trace) (place : ℕ) → IsWrong trace place → CommittedReads trace → ⊥
wrong_refuses trace place (NotOwn t k own answer read other) reads = other (reads.sourced.own place t k own answer read)
wrong_refuses trace place (NoVersion t k found read none) reads = none (reads.sourced.outer t k found (record { place = place; read = read }))

module _ (trace : Trace) (readings : List Reading) (writings : List Writing) (count : ℕ) (edges : List Edge) (known : AreKnown trace readings writings) (laid : AreReadEdges count readings (length readings) edges) where
  edge_rises : (reads : CommittedReads trace) (place : ℕ) (edge : Edge) → slice_get edges place ≡ Some edge → reads.order edge.from < reads.order edge.to
  edge_rises reads place edge at =
      let e = laid.each place edge at in
      subst (λ (x : ℕ). reads.order x < reads.order edge.to) (sym e.from)
      (subst (λ (y : ℕ). reads.order e.found.from < reads.order y) (sym e.to)
      (reads.rises e.reading.txn e.reading.key e.found (record { place = e.reading.place; read = subst (λ (a : Option Version). ReadAt trace e.reading.place e.reading.txn e.reading.key a None) e.answer (known.read.read e.place e.reading e.stands) })))

  leads_rise : (reads : CommittedReads trace) (x : ℕ) (places : List ℕ) (y : ℕ) → places ≢ [] → Leads edges x places y → reads.order x < reads.order y
  unfolding Leads
  leads_rise reads x [] y some leads = absurd (some refl)
  leads_rise reads x (p ∷ []) y some leads = subst (λ (a : ℕ). reads.order a < reads.order y) leads.2 (subst (λ (b : ℕ). reads.order leads.0.from < reads.order b) leads.3 (edge_rises reads p leads.0 leads.1))
  leads_rise reads x (p ∷ q ∷ ps) y some leads =
      let first = subst (λ (a : ℕ). reads.order a < reads.order leads.0.to) leads.2 (edge_rises reads p leads.0 leads.1) in
      let rest = leads_rise reads leads.0.to (q ∷ ps) y (λ none. absurd (cc)) leads.3 in
      omega (arith, first, rest)

  pub round_refuses : (places : List ℕ) → IsCycle edges places → CommittedReads trace → ⊥
  round_refuses places cycle reads = let less = leads_rise reads cycle.node places cycle.node cycle.some cycle.leads in absurd (omega (arith, less))

  pub numbers_order : (numbers : List ℕ) → count ≡ length trace.transactions → Rises numbers edges → CommittedReads trace
  numbers_order numbers is rises = record {
    sourced = known.sourced;
    order = λ t. get_or numbers t 0;
    rises = λ t k found outer.
        let there = known.read.all outer.place t k (Some found) (slice_get_within trace.operations outer.place _ outer.read.stands) outer.read in
        let source = known.sourced.outer t k found outer in
        let edge = laid.all there.0 (record { place = outer.place; txn = t; key = k; answer = Some found }) found (slice_get_within readings there.0 _ there.1) there.1 refl
        (subst (λ (n : ℕ). found.from < n) (sym is) (done_within trace found.from source.done)) (subst (λ (n : ℕ). t < n) (sym is) (done_within trace t outer.read.done)) in
        rises.each edge.0 (record { from = found.from; to = t }) edge.1;
  }
