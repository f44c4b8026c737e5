-- Numbers that rise between neighbours make stamps.
use Rattle.std.proofs.Common.{◌≡◌, ◌≢◌, ℕ, zero, suc, ◌+◌, ◌*◌, ◌<◌, ◌≤◌, ◌⊎◌, true, List, [], ◌∷◌, Option, None, Some, length, slice_get, get_or, inl, inr, refl, sym, subst, ap, ◌∙◌, arith}
use Rattle.std.proofs.Math.Nat.{mul-le-mul_right}
use Rattle.std.proofs.lemmas.Option.{same_Some, slice_get_within}
use Rattle.trace_rules.specs.declared.trace.Version.{Version}
use Rattle.trace_rules.specs.declared.trace.Transaction.{Transaction}
use Rattle.trace_rules.specs.declared.wanted.Level.TheVariants.{Snapshot, Serializable}
use Rattle.trace_rules.specs.Trace.{Trace, Done, Writer, OuterRead, committed_in}
use Rattle.trace_rules.specs.Stamping.{IsolatedBy, Numbered}
use Rattle.trace_rules.specs.Rising.{Listed, Rising}
use Rattle.trace_rules.specs.Serial.{RisingPlaces, one_by_one}
use Rattle.trace_rules.proofs.Isolates.{isolates}
use Rattle.trace_rules.proofs.Serial.{serialises}
use Rattle.outer_reads.specs.declared.writings.Writing.{Writing}
use Rattle.outer_reads.specs.declared.readings.Reading.{Reading}
use Rattle.outer_reads.specs.Sources.{AreKnown}
use Rattle.stamp_check.specs.Orders.{orders_of, places_of, stamps_of, OwnRise, NextsRise, ReadsRise, IsBelow, Sees, SeesNone}
use Rattle.stamp_check.proofs.OrderLemmas.{KeysRise, in_orders, of_orders, first_of_orders, next_of_orders}

-- ---- numbers spread over all points
pub spread_less : (n a b x y : ℕ) → x < n → a < b → a * n + x < b * n + y
spread_less n a b x y small less =
    let more : (a + 1) * n ≤ b * n = mul-le-mul_right n (omega (arith, less)) in
    omega (arith, more, small)

pub spread_same : (n a b x y : ℕ) → x < n → y < n → a * n + x ≡ b * n + y → x ≡ y
spread_same n a b x y low high same = elim (compare a b) [
  | inl less ↦ let under = spread_less n a b x y low less in absurd (omega (arith, under, same))
  | inr rest ↦ elim rest [
    | inl equal ↦ let times : a * n ≡ b * n = ap (λ (m : ℕ). m * n) equal in omega (arith, same, times)
    | inr more ↦ let over = spread_less n b a y x high more in absurd (omega (arith, over, same))
  ]
]
  where
    compare : (a b : ℕ) → (a < b) ⊎ ((a ≡ b) ⊎ (b < a))
    compare a b = grind arith

compare : (a b : ℕ) → (a < b) ⊎ ((a ≡ b) ⊎ (b < a))
compare a b = grind arith

pub one_less : (n m : ℕ) → n < m + 1 → (n < m) ⊎ (n ≡ m)
one_less n m less = grind (arith, less)

pub done_within : (trace : Trace) (t : ℕ) → Done trace t → t < length trace.transactions
done_within trace t done = by (slice_get trace.transactions t) refl
  where
    by : (o : Option Transaction) → slice_get trace.transactions t ≡ o → t < length trace.transactions
    by None is = absurd (let none : committed_in None ≡ true = ap (λ (x : Option Transaction). committed_in x) (sym is) ∙ done in cc)
    by (Some x) is = slice_get_within trace.transactions t x is

version_before : (xs : List Writing) (p q : ℕ) (u : Writing) → p ≤ q → slice_get xs q ≡ Some u → (x : Writing) × (slice_get xs p ≡ Some x)
version_before [] p q u less e = absurd (cc)
version_before (x ∷ xs) zero q u less e = (x, refl)
version_before (x ∷ xs) (suc p) zero u less e = absurd (omega (arith, less))
version_before (x ∷ xs) (suc p) (suc q) u less e = version_before xs p q u (omega (arith, less)) e

-- keys that do not fall from one to the next do not fall at all
pub keys_rise : (n : ℕ) (numbers : List ℕ) (order : List Writing) → NextsRise n numbers order → KeysRise order
keys_rise n numbers order nexts = record { rise = λ i j a b most at_a at_b. along j i a b most at_a at_b }
  where
    step : (j : ℕ) (b c : Writing) → slice_get order j ≡ Some b → slice_get order (suc j) ≡ Some c → b.key ≤ c.key
    step j b c at_b at_c = (nexts j b c at_b (ap (λ (m : ℕ). slice_get order m) (one_more j) ∙ at_c)).keys
      where
        one_more : (j : ℕ) → j + 1 ≡ suc j
        one_more j = omega arith

    same_key : (i j : ℕ) (a b : Writing) → i ≡ j → slice_get order i ≡ Some a → slice_get order j ≡ Some b → a.key ≤ b.key
    same_key i j a b same at_a at_b = let one : a ≡ b = same_Some a b (sym at_a ∙ ap (λ (m : ℕ). slice_get order m) same ∙ at_b) in subst (λ (x : Writing). a.key ≤ x.key) one (omega arith)

    up : (i j : ℕ) (a b c : Writing) → a.key ≤ b.key → b.key ≤ c.key → a.key ≤ c.key
    up i j a b c low high = omega (arith, low, high)

    along : (j i : ℕ) (a b : Writing) → i ≤ j → slice_get order i ≡ Some a → slice_get order j ≡ Some b → a.key ≤ b.key
    along zero i a b most at_a at_b = same_key i 0 a b (omega (arith, most)) at_a at_b
    along (suc j) i a b most at_a at_b = elim (compare i (suc j)) [
      | inl low ↦ let before = version_before order j (suc j) b (omega arith) at_b in up i j a before.0 b (along j i a before.0 (omega (arith, low)) at_a before.1) (step j before.0 b before.1 at_b)
      | inr rest ↦ elim rest [
        | inl same ↦ same_key i (suc j) a b same at_a at_b
        | inr over ↦ absurd (omega (arith, over, most))
      ]
    ]

-- where a point's number is that of its start and, further on, that of its commit, which may be one and the same
module _ (trace : Trace) (readings : List Reading) (order : List Writing) (numbers : List ℕ) (n : ℕ)
    (known : AreKnown trace readings order) (own : (t : ℕ) → Done trace t → get_or numbers t 0 ≤ get_or numbers (n + t) 0)
    (nexts : NextsRise n numbers order) (reads : ReadsRise n numbers order readings) where
  rises : KeysRise order
  rises = keys_rise n numbers order nexts

  writer_done : (i : ℕ) (a : Writing) → slice_get order i ≡ Some a → Done trace a.txn
  writer_done i a at = (known.wrote.wrote i a at).done

  -- a version that stands above another one of its key was begun above that one's commit
  above : (j i : ℕ) (a b : Writing) → i < j → slice_get order i ≡ Some a → slice_get order j ≡ Some b → a.key ≡ b.key → get_or numbers (n + a.txn) 0 < get_or numbers b.txn 0
  above zero i a b less at_a at_b same = absurd (omega (arith, less))
  above (suc j) i a b less at_a at_b same =
      let before = version_before order j (suc j) b (omega arith) at_b in
      let low = rises.rise i j a before.0 (omega (arith, less)) at_a before.1 in
      let high = rises.rise j (suc j) before.0 b (omega arith) before.1 at_b in
      let key : before.0.key ≡ b.key = omega (arith, low, high, same) in
      let last : get_or numbers (n + before.0.txn) 0 < get_or numbers b.txn 0 = (nexts j before.0 b before.1 (ap (λ (m : ℕ). slice_get order m) (one_more j) ∙ at_b)).rises key in
      elim (compare i j) [
        | inl deeper ↦
            let first = above j i a before.0 deeper at_a before.1 (same ∙ sym key) in
            let between = own before.0.txn (writer_done j before.0 before.1) in
            omega (arith, first, between, last)
        | inr rest ↦ elim rest [
          | inl here ↦ let one : a ≡ before.0 = same_Some a before.0 (sym at_a ∙ ap (λ (m : ℕ). slice_get order m) here ∙ before.1) in
              subst (λ (x : Writing). get_or numbers (n + x.txn) 0 < get_or numbers b.txn 0) (sym one) last
          | inr over ↦ absurd (omega (arith, over, less))
        ]
      ]
    where
      one_more : (j : ℕ) → j + 1 ≡ suc j
      one_more j = omega arith

  -- a writer stands once in the order of its key
  not_above : (i j : ℕ) (a b : Writing) → slice_get order i ≡ Some a → slice_get order j ≡ Some b → a.key ≡ b.key → a.txn ≡ b.txn → i < j → ⊥
  not_above i j a b at_a at_b key writer less =
      let up = above j i a b less at_a at_b key in
      let between = own a.txn (writer_done i a at_a) in
      let same : get_or numbers a.txn 0 ≡ get_or numbers b.txn 0 = ap (λ (m : ℕ). get_or numbers m 0) writer in
      absurd (omega (arith, up, between, same))

  one_place : (i j : ℕ) (a b : Writing) → slice_get order i ≡ Some a → slice_get order j ≡ Some b → a.key ≡ b.key → a.txn ≡ b.txn → i ≡ j
  one_place i j a b at_a at_b key writer = elim (compare i j) [
    | inl less ↦ absurd (not_above i j a b at_a at_b key writer less)
    | inr rest ↦ elim rest [
      | inl same ↦ same
      | inr more ↦ absurd (not_above j i b a at_b at_a (sym key) (sym writer) more)
    ]
  ]

  seen : (t k : ℕ) (answer : Option Version) → OuterRead trace t k answer → (place : ℕ) × Sees n numbers order place k t answer
  seen t k answer outer =
      let there = known.read.all outer.place t k answer (read_within outer) outer.read in
      reads there.0 (record { place = outer.place; txn = t; key = k; answer = answer }) there.1
    where
      read_within : (o : OuterRead trace t k answer) → o.place < length trace.operations
      read_within o = slice_get_within trace.operations o.place _ o.read.stands

  missed : (place t u k : ℕ) (found : Version) → OuterRead trace t k (Some found) → slice_get (orders_of order k) place ≡ Some found.from → slice_get (orders_of order k) (suc place) ≡ Some u → u ≢ t → get_or numbers t 0 < get_or numbers (n + u) 0
  missed place t u k found outer at_f at_u other =
      let next = next_of_orders order k place found.from u rises at_f at_u in
      let sees = seen t k (Some found) outer in
      let one = one_place next.first.place sees.0 next.first.version sees.1.version next.first.at sees.1.stands (next.first.key ∙ sym sees.1.key) (next.first.writer ∙ sym sees.1.writer) in
      let up = sees.1.missed next.version (ap (λ (m : ℕ). slice_get order m) (next_place next.first.place sees.0 one) ∙ next.at) next.key (λ same. other (sym next.writer ∙ same)) in
      subst (λ (m : ℕ). get_or numbers t 0 < get_or numbers (n + m) 0) next.writer up
    where
      next_place : (i j : ℕ) → i ≡ j → j + 1 ≡ suc i
      next_place i j same = omega (arith, same)

  -- the place of a reader of nothing is that of the key's first version
  first_place : (j p t k : ℕ) (b : Writing) → SeesNone n numbers order p k t → slice_get order j ≡ Some b → b.key ≡ k → ((i : ℕ) (a : Writing) → i < j → slice_get order i ≡ Some a → a.key ≢ k) → j ≡ p
  first_place j p t k b sees at_b key none = elim (compare j p) [
    | inl less ↦ absurd (under less)
    | inr rest ↦ elim rest [
      | inl same ↦ same
      | inr more ↦
          let there = version_before order p j b (omega (arith, more)) at_b in
          let low = sees.above there.0 there.1 in
          let high = rises.rise p j there.0 b (omega (arith, more)) there.1 at_b in
          absurd (none p there.0 more there.1 (omega (arith, low, high, key)))
    ]
  ]
    where
      end : (i p : ℕ) → j < p → i + 1 ≡ p → IsBelow order p k → ⊥
      end i p less last below =
          let there = below i last in
          let high = rises.rise j i b there.0 (omega (arith, less, last)) at_b there.1 in
          let low = there.2 in
          absurd (omega (arith, low, high, key))

      before_end : (p : ℕ) → j < p → IsBelow order p k → ⊥
      before_end zero less below = absurd (omega (arith, less))
      before_end (suc p) less below = end p (suc p) less (omega arith) below

      under : j < p → ⊥
      under less = before_end p less sees.below

  missed_first : (t u k : ℕ) → OuterRead trace t k None → slice_get (orders_of order k) 0 ≡ Some u → u ≢ t → get_or numbers t 0 < get_or numbers (n + u) 0
  missed_first t u k outer at_u other =
      let first = first_of_orders order k u at_u in
      let sees = seen t k None outer in
      let one = first_place first.stands.place sees.0 t k first.stands.version sees.1 first.stands.at first.stands.key first.none in
      let up = sees.1.missed first.stands.version (ap (λ (m : ℕ). slice_get order m) (sym one) ∙ first.stands.at) first.stands.key (λ same. other (sym first.stands.writer ∙ same)) in
      subst (λ (m : ℕ). get_or numbers t 0 < get_or numbers (n + m) 0) first.stands.writer up

  lists_all : Listed trace (λ k. orders_of order k)
  lists_all = record {
    all = λ t k value w. let there = known.wrote.all t k value w in in_orders order k there.0 (record { txn = t; key = k; value = value }) there.1 refl;
    wrote = λ place t k at. let stands = of_orders order k place t at in
        (stands.version.value, subst (λ (m : ℕ). Writer trace m k stands.version.value) stands.writer (subst (λ (l : ℕ). Writer trace stands.version.txn l stands.version.value) stands.key (known.wrote.wrote stands.place stands.version stands.at)));
  }

  nexts_up : (place t u k : ℕ) → slice_get (orders_of order k) place ≡ Some t → slice_get (orders_of order k) (suc place) ≡ Some u → get_or numbers (n + t) 0 < get_or numbers u 0
  nexts_up place t u k at_t at_u =
      let next = next_of_orders order k place t u rises at_t at_u in
      let up = above (suc next.first.place) next.first.place next.first.version next.version (omega arith) next.first.at next.at (next.first.key ∙ sym next.key) in
      subst (λ (m : ℕ). get_or numbers (n + t) 0 < get_or numbers m 0) next.writer (subst (λ (m : ℕ). get_or numbers (n + m) 0 < get_or numbers next.version.txn 0) next.first.writer up)

-- ---- the stamps of snapshots
module _ (trace : Trace) (readings : List Reading) (order : List Writing) (numbers : List ℕ)
    (known : AreKnown trace readings order) (own : OwnRise trace (length trace.transactions) numbers)
    (nexts : NextsRise (length trace.transactions) numbers order) (reads : ReadsRise (length trace.transactions) numbers order readings) where
  weak : (t : ℕ) → Done trace t → get_or numbers t 0 ≤ get_or numbers (length trace.transactions + t) 0
  weak t done = let less = own t done in omega (arith, less)

  low_point : (t : ℕ) → Done trace t → t < length trace.transactions + length trace.transactions
  low_point t done = let low = done_within trace t done in omega (arith, low)

  high_point : (t : ℕ) → Done trace t → length trace.transactions + t < length trace.transactions + length trace.transactions
  high_point t done = let low = done_within trace t done in omega (arith, low)

  stamps_numbered : Numbered (stamps_of (length trace.transactions) numbers) trace
  stamps_numbered = record {
    ordered = λ t d. spread_less (length trace.transactions + length trace.transactions) (get_or numbers t 0) (get_or numbers (length trace.transactions + t) 0) t (length trace.transactions + t) (low_point t d) (own t d);
    starts = λ t u dt du same. spread_same (length trace.transactions + length trace.transactions) (get_or numbers t 0) (get_or numbers u 0) t u (low_point t dt) (low_point u du) same;
    commits = λ t u dt du same. same_behind (length trace.transactions) t u (spread_same (length trace.transactions + length trace.transactions) (get_or numbers (length trace.transactions + t) 0) (get_or numbers (length trace.transactions + u) 0) (length trace.transactions + t) (length trace.transactions + u) (high_point t dt) (high_point u du) same);
    no_start_commits = λ t u dt du same. not_behind (length trace.transactions) t u (done_within trace t dt) (spread_same (length trace.transactions + length trace.transactions) (get_or numbers t 0) (get_or numbers (length trace.transactions + u) 0) t (length trace.transactions + u) (low_point t dt) (high_point u du) same);
  }
    where
      same_behind : (n t u : ℕ) → n + t ≡ n + u → t ≡ u
      same_behind n t u same = omega (arith, same)

      not_behind : (n t u : ℕ) → t < n → t ≡ n + u → ⊥
      not_behind n t u low same = absurd (omega (arith, low, same))

  stamps_rise : Rising (stamps_of (length trace.transactions) numbers) trace (λ k. orders_of order k)
  stamps_rise = record {
    next = λ place t u k at_t at_u. spread_less (length trace.transactions + length trace.transactions) (get_or numbers (length trace.transactions + t) 0) (get_or numbers u 0) (length trace.transactions + t) u (high_point t (((lists_all trace readings order numbers (length trace.transactions) known weak nexts reads).wrote place t k at_t).1.done)) (nexts_up trace readings order numbers (length trace.transactions) known weak nexts reads place t u k at_t at_u);
    read = λ t k found outer. let sees = seen trace readings order numbers (length trace.transactions) known weak nexts reads t k (Some found) outer in spread_less (length trace.transactions + length trace.transactions) (get_or numbers (length trace.transactions + found.from) 0) (get_or numbers t 0) (length trace.transactions + found.from) t (high_point found.from (known.sourced.outer t k found outer).done) sees.1.read;
    missed = λ place t u k found outer at_f at_u other. spread_less (length trace.transactions + length trace.transactions) (get_or numbers t 0) (get_or numbers (length trace.transactions + u) 0) t (length trace.transactions + u) (low_point t outer.read.done) (missed trace readings order numbers (length trace.transactions) known weak nexts reads place t u k found outer at_f at_u other);
    missed_first = λ t u k outer at_u other. spread_less (length trace.transactions + length trace.transactions) (get_or numbers t 0) (get_or numbers (length trace.transactions + u) 0) t (length trace.transactions + u) (low_point t outer.read.done) (missed_first trace readings order numbers (length trace.transactions) known weak nexts reads t u k outer at_u other);
  }

  pub numbers_stamp : IsolatedBy Snapshot (stamps_of (length trace.transactions) numbers) trace
  numbers_stamp = isolates (stamps_of (length trace.transactions) numbers) trace (λ k. orders_of order k) stamps_numbered known.sourced (lists_all trace readings order numbers (length trace.transactions) known weak nexts reads) stamps_rise

-- ---- the places of a serial order
module _ (trace : Trace) (readings : List Reading) (order : List Writing) (numbers : List ℕ)
    (known : AreKnown trace readings order) (nexts : NextsRise 0 numbers order) (reads : ReadsRise 0 numbers order readings) where
  at_itself : (t : ℕ) → Done trace t → get_or numbers t 0 ≤ get_or numbers (0 + t) 0
  at_itself t done = let same : get_or numbers (0 + t) 0 ≡ get_or numbers t 0 = ap (λ (m : ℕ). get_or numbers m 0) (none t) in omega (arith, same)
    where
      none : (t : ℕ) → 0 + t ≡ t
      none t = omega arith

  same_number : (t : ℕ) → get_or numbers (0 + t) 0 ≡ get_or numbers t 0
  same_number t = ap (λ (m : ℕ). get_or numbers m 0) (none t)
    where
      none : (t : ℕ) → 0 + t ≡ t
      none t = omega arith

  spread : (t u : ℕ) → Done trace t → get_or numbers t 0 < get_or numbers u 0 → get_or numbers t 0 * length trace.transactions + t < get_or numbers u 0 * length trace.transactions + u
  spread t u done less = spread_less (length trace.transactions) (get_or numbers t 0) (get_or numbers u 0) t u (done_within trace t done) less

  places_rise : RisingPlaces (places_of (length trace.transactions) numbers) trace (λ k. orders_of order k)
  places_rise = record {
    distinct = λ t u dt du same. spread_same (length trace.transactions) (get_or numbers t 0) (get_or numbers u 0) t u (done_within trace t dt) (done_within trace u du) same;
    next = λ place t u k at_t at_u. spread t u ((lists_all trace readings order numbers 0 known at_itself nexts reads).wrote place t k at_t).1.done
        (let up = nexts_up trace readings order numbers 0 known at_itself nexts reads place t u k at_t at_u in let s = same_number t in omega (arith, up, s));
    read = λ t k found outer. spread found.from t (known.sourced.outer t k found outer).done
        (let sees = seen trace readings order numbers 0 known at_itself nexts reads t k (Some found) outer in let up = sees.1.read in let s = same_number found.from in omega (arith, up, s));
    missed = λ place t u k found outer at_f at_u other. spread t u outer.read.done
        (let up = missed trace readings order numbers 0 known at_itself nexts reads place t u k found outer at_f at_u other in let s = same_number u in omega (arith, up, s));
    missed_first = λ t u k outer at_u other. spread t u outer.read.done
        (let up = missed_first trace readings order numbers 0 known at_itself nexts reads t u k outer at_u other in let s = same_number u in omega (arith, up, s));
  }

  pub numbers_serialise : IsolatedBy Serializable (one_by_one (places_of (length trace.transactions) numbers)) trace
  numbers_serialise = serialises (places_of (length trace.transactions) numbers) trace (λ k. orders_of order k) known.sourced (lists_all trace readings order numbers 0 known at_itself nexts reads) places_rise
