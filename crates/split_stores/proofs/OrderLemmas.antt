-- Numbers in order, of which each from the first on stands once.
use Rattle.std.proofs.Common.{◌≡◌, ◌≢◌, ℕ, zero, suc, ◌+◌, ◌<◌, ◌≤◌, ◌==◌, List, [], ◌∷◌, length, refl, sym, ap, ◌∙◌, subst, arith, ne_eqb, eq-eqb, inl, inr}
use Rattle.std.specs.Prelude.{sum_by, if◌then◌else◌}
use Rattle.std.proofs.lemmas.Bool.{cases_Bool, eqb-true, eqb-false}
use Rattle.std.proofs.lemmas.List.Sums.{sum_by-cons, sum_by-append}
use Rattle.stamp_base.specs.declared.memory.NoMemory.{NoMemory}
use Rattle.std.specs.Prelude.{Result, Ok, Err, IfOk, get_or, ◌++◌}
use Rattle.std.specs.List.Sorted.{IsPermutation, IsNonDecreasingBy}
use Rattle.std.proofs.lemmas.List.Sorted.{IsPermutation-map, sum_by-IsPermutation, IsPermutation-trans, IsPermutation-append_right, IsPermutation-append_comm}
use Rattle.std.proofs.lemmas.List.Concat.{flat_map-append, flat_map-cons}
use Rattle.std.proofs.Common.{append_assoc, append-nil}
use Rattle.std.proofs.lemmas.List.{map-append}
use Rattle.tick_word.specs.Rule.{ticks_from, ticks_to}
use Rattle.tick_word.specs.Seats.{AreTicks}
use Rattle.tick_word.proofs.Steps.{length_of_ticks}
use Rattle.split_stores.specs.declared.seat.Entry.{Entry}
use Rattle.split_stores.specs.Logs.{Logged, ticks_of, rise_of, risen_by}
use Rattle.split_stores.specs.Merging.{logs_of, InTickOrder}

counted : (xs : List ℕ) → sum_by (λ x. 1) xs ≡ length xs
counted [] = refl
counted (x ∷ xs) = let rest = counted xs in omega (arith, sum_by-cons (λ x. 1) x xs, rest)

-- none is below the one before it, and the first is at least low
abbrev pub Ascends : ℕ → List ℕ → Type 0
Ascends low [] = Unit {0}
Ascends low (x ∷ xs) = (low ≤ x) × Ascends x xs

abbrev is_it : ℕ → ℕ → ℕ
is_it n x = if x == n then 1 else 0

lt_of_le_ne : (a b : ℕ) → a ≤ b → (a ≡ b → ⊥) → a < b
lt_of_le_ne a b le away = grind (arith, le, away)

hit : (n x : ℕ) → x ≡ n → is_it n x ≡ 1
hit n x e = rw (eq-eqb x n e) refl

miss : (n x : ℕ) → x ≢ n → is_it n x ≡ 0
miss n x away = rw (ne_eqb x n away) refl

-- a number below all is not there
absent : (n low : ℕ) (xs : List ℕ) → n < low → Ascends low xs → sum_by (is_it n) xs ≡ 0
absent n low [] lt h = refl
absent n low (x ∷ xs) lt h =
    let le = h.0 in
    let rest = absent n x xs (omega arith) h.1 in
    omega (arith, sum_by-cons (is_it n) x xs, rest, miss n x (λ e. omega arith))

ascend_from : (first n : ℕ) → Ascends first (ticks_from first n)
unfolding ticks_from
ascend_from first zero = tt
ascend_from first (suc n) = (omega arith, raise first (ticks_from (first + 1) n) (ascend_from (first + 1) n))
  where
    raise : (low : ℕ) (xs : List ℕ) → Ascends (low + 1) xs → Ascends low xs
    raise low [] h = tt
    raise low (x ∷ xs) h = (let le = h.0 in omega arith, h.1)

-- above a number that is not there
above : (low : ℕ) (xs : List ℕ) → Ascends low xs → sum_by (is_it low) xs ≡ 0 → Ascends (low + 1) xs
above low [] h none = tt
above low (x ∷ xs) h none =
    let le = h.0 in
    let away : x ≢ low = λ e. (let one = hit low x e in omega (arith, sum_by-cons (is_it low) x xs, none)) in
    (omega arith, h.1)

-- of numbers among which n stands once, and which begin at n or above, the first is n
first_is : (n y : ℕ) (ys : List ℕ) → n ≤ y → Ascends y ys → sum_by (is_it n) (y ∷ ys) ≡ 1 → y ≡ n
first_is n y ys le h one =
    elim (cases_Bool (y == n)) [
      | inl q ↦ eqb-true _ _ q
      | inr q ↦ let away : y ≢ n = eqb-false y n q in
          let none = absent n y ys (lt_of_le_ne n y le (λ e. away (sym e))) h in
          absurd (omega (arith, sum_by-cons (is_it n) y ys, miss n y away, none, one))
    ]

once : (first n : ℕ) → sum_by (is_it first) (first ∷ ticks_from (first + 1) n) ≡ 1
once first n = omega (arith, sum_by-cons (is_it first) first (ticks_from (first + 1) n), hit first first refl, absent first (first + 1) (ticks_from (first + 1) n) (omega arith) (ascend_from (first + 1) n))

pub in_order : (first : ℕ) (xs : List ℕ) → Ascends first xs → ((weight : ℕ → ℕ) → sum_by weight xs ≡ sum_by weight (ticks_from first (length xs))) → xs ≡ ticks_from first (length xs)
unfolding ticks_from
in_order first [] h same = refl
in_order first (x ∷ xs) h same =
    let n : ℕ = length xs in
    let is : x ≡ first = first_is first x xs h.0 h.1 (same (is_it first) ∙ once first n) in
    let gone : sum_by (is_it first) xs ≡ 0 = omega (arith, same (is_it first), once first n, sum_by-cons (is_it first) x xs, hit first x is) in
    let tail = in_order (first + 1) xs (above first xs (subst (λ (y : ℕ). Ascends y xs) is h.1) gone) (λ weight. omega (arith, same weight, sum_by-cons weight x xs, sum_by-cons weight first (ticks_from (first + 1) n), ap weight is)) in
    λ i. is i ∷ tail i

-- ---- entries in the order of their ticks
size_of : (es : List Entry) → length (ticks_of es) ≡ length es
size_of [] = refl
size_of (e ∷ es) = ap suc (size_of es)

ascends_of : (low : ℕ) (es : List Entry) → IsNonDecreasingBy (λ (e : Entry). e.tick) es → ((d : Entry) → 0 < length es → low ≤ (get_or es 0 d).tick) → Ascends low (ticks_of es)
ascends_of low [] h first = tt
ascends_of low (e ∷ es) h first =
    (first e (omega arith), ascends_of e.tick es (λ i j d le within. h (suc i) (suc j) d (omega arith) (omega arith)) (λ d some. h 0 1 d (omega arith) (omega arith)))

pub tick_order : (entries merged : List Entry) (last : ℕ) → IsPermutation entries merged → IsNonDecreasingBy (λ (e : Entry). e.tick) merged → AreTicks last (ticks_of entries) → InTickOrder entries merged
tick_order entries merged last all order drawn =
    let xs : List ℕ = ticks_of merged in
    let moved = IsPermutation-map (λ (e : Entry). e.tick) entries merged all in
    let same : AreTicks last xs = λ weight. sum_by-IsPermutation weight (ticks_of entries) xs moved ∙ drawn weight in
    let size : length xs ≡ last = sym (counted xs) ∙ same (λ x. 1) ∙ length_of_ticks 1 last in
    let up = ascends_of 0 merged order (λ d some. omega arith) in
    let no_zero : sum_by (is_it 0) xs ≡ 0 = same (is_it 0) ∙ absent 0 1 (ticks_to last) (omega arith) (ascend_from 1 last) in
    let all_same : (weight : ℕ → ℕ) → sum_by weight xs ≡ sum_by weight (ticks_from 1 (length xs)) = λ weight. same weight ∙ ap (λ n. sum_by weight (ticks_to n)) (sym size) in
    record {
      all = all;
      ticks = in_order 1 xs (above 0 xs up no_zero) all_same ∙ ap ticks_to (size_of merged);
    }

-- a log goes from those that are left behind those that are gathered
pub gathered_more : (whole : List Entry) (old new : List Logged) (log : Logged) (merged more : List Entry) → old ≡ new ++ log ∷ [] → more ≡ merged ++ log.entries → IsPermutation whole (logs_of old ++ merged) → IsPermutation whole (logs_of new ++ more)
gathered_more whole old new log merged more split is h =
    let gone : logs_of old ≡ logs_of new ++ log.entries =
    ap logs_of split ∙ flat_map-append (λ (l : Logged). l.entries) new (log ∷ []) ∙ ap (λ l. logs_of new ++ l) (flat_map-cons (λ (l : Logged). l.entries) log [] ∙ append-nil log.entries) in
    let before = subst (λ l. IsPermutation whole (l ++ merged)) gone h in
    let assoc = subst (IsPermutation whole) (append_assoc (logs_of new) log.entries merged) before in
    let turned = IsPermutation-append_right (logs_of new) (log.entries ++ merged) (merged ++ log.entries) (IsPermutation-append_comm log.entries merged) in
    subst (λ l. IsPermutation whole (logs_of new ++ l)) (sym is) (IsPermutation-trans whole _ _ assoc turned)

pub ticks_of-append : (xs ys : List Entry) → ticks_of (xs ++ ys) ≡ ticks_of xs ++ ticks_of ys
ticks_of-append xs ys = map-append (λ (e : Entry). e.tick) xs ys

pub none_drawn : AreTicks 0 []
unfolding ticks_from
none_drawn weight = refl

-- the same as an answer
pub ordered_by : {V : Type 0} (items : V → List Entry) (logs entries : List Entry) (last : ℕ) → IsPermutation logs entries → AreTicks last (ticks_of entries) → (r : Result V NoMemory) → IfOk r (λ m. IsPermutation entries (items m)) → IfOk r (λ m. IsNonDecreasingBy (λ (e : Entry). e.tick) (items m)) → IfOk r (λ m. InTickOrder logs (items m))
ordered_by items logs entries last p drawn (Ok m) moved order =
    let h = tick_order entries (items m) last moved order drawn in
    record { all = IsPermutation-trans logs entries (items m) p h.all; ticks = h.ticks }
ordered_by items logs entries last p drawn (Err none) moved order = tt

-- ---- by how much the entries raise the base clock
pub risen-append : (xs ys : List Entry) → risen_by (xs ++ ys) ≡ risen_by xs + risen_by ys
risen-append xs ys = sum_by-append (λ (e : Entry). rise_of e.event) xs ys

-- the same as an answer
pub risen_by_most : {V : Type 0} (items : V → List Entry) (entries : List Entry) (most : ℕ) → risen_by entries ≤ most → (r : Result V NoMemory) → IfOk r (λ m. IsPermutation entries (items m)) → IfOk r (λ m. risen_by (items m) ≤ most)
risen_by_most items entries most few (Ok m) moved = subst (λ (n : ℕ). n ≤ most) (sym (sum_by-IsPermutation (λ (e : Entry). rise_of e.event) entries (items m) moved)) few
risen_by_most items entries most few (Err none) moved = tt
