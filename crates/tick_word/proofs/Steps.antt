-- For split_stores too.
-- Each step keeps the rule of a tick word, and what the rule tells in the end.
use Rattle.std.proofs.Common.{◌≡◌, ℕ, zero, suc, ◌+◌, ◌*◌, ◌%◌, ◌<◌, ◌≤◌, List, [], ◌∷◌, ◌++◌, length, refl, sym, ap, ◌∙◌, arith, set}
use Rattle.std.specs.Prelude.{sum_by, slice_index}
use Rattle.std.proofs.lemmas.List.Sums.{sum_by-append, sum_by_push, sum_by-cons}
use Rattle.std.proofs.lemmas.List.Elements.{All-nil, All-push, All-append, All-weaker}
use Rattle.atomic_table.specs.Table.{State, Me, keeps, Allows, Splits, Joins, Seen, opening}
use mathlib.Core.Option.{some, some-injective, some-ne-none}
use lib.ListN.{get_elem?}
use Rattle.queue_passes.proofs.TotalLemmas.{Each, each_alone, each_set, each_split, each_join, other_stands, total_set, total_split, total_join, sole_total, counted}
use Rattle.tick_word.specs.declared.rule.TickView.{TickView}
use Rattle.tick_word.specs.Rule.{seat_limit, ticks_from, ticks_to, view_with, first_view, one_part, parted, spent, joined, with_tick, Fits, AreDrawn, Draws}

abbrev parts_of : TickView → ℕ
parts_of v = v.parts

abbrev drawn_by : (ℕ → ℕ) → TickView → ℕ
drawn_by weight v = sum_by weight v.drawn

pub length_of_ticks : (first n : ℕ) → sum_by (λ x. 1) (ticks_from first n) ≡ n
unfolding ticks_from
length_of_ticks first zero = refl
length_of_ticks first (suc n) = let rest = length_of_ticks (first + 1) n in omega (arith, sum_by-cons (λ x. 1) first (ticks_from (first + 1) n), rest)

-- so many are drawn in all at most
few_drawn : (views : List TickView) → Each (λ j v. length v.drawn ≤ v.parts * 1099511627776) views → sum_by (drawn_by (λ x. 1)) views ≤ sum_by parts_of views * 1099511627776
few_drawn [] each = omega arith
few_drawn (v ∷ vs) each =
    let mine = each 0 v refl in
    let rest = few_drawn vs (λ j. each (suc j)) in
    omega (arith, sum_by-cons (drawn_by (λ x. 1)) v vs, sum_by-cons parts_of v vs, mine, rest, counted v.drawn)

-- the next tick comes last
weight_of_next : (weight : ℕ → ℕ) (first n : ℕ) → sum_by weight (ticks_from first (suc n)) ≡ sum_by weight (ticks_from first n) + weight (first + n)
unfolding ticks_from
weight_of_next weight first zero = omega (arith, sum_by-cons weight first [], ap weight {x = first} {y = first + 0} (omega arith))
weight_of_next weight first (suc n) =
    let rest = weight_of_next weight (first + 1) n in
    omega (arith, sum_by-cons weight first (ticks_from (first + 1) (suc n)), sum_by-cons weight first (ticks_from (first + 1) n), rest, ap weight {x = (first + 1) + n} {y = first + suc n} (omega arith))

raised : (word more seat : ℕ) (v : TickView) → word ≤ more → Fits word seat v → Fits more seat v
raised word more seat v le h = record { few = h.few; below = All-weaker (λ x. x ≤ word) (λ x. x ≤ more) (λ x p. omega arith) v.drawn h.below }

nothing_drawn : (word seat parts : ℕ) → Fits word seat (view_with parts [])
nothing_drawn word seat parts = record { few = omega arith; below = All-nil (λ x. x ≤ word) }

pub begins : (seats : ℕ) → seats ≤ 65536 → AreDrawn seats (opening (0 ∷ []) [] (first_view seats))
unfolding ticks_from
begins seats few = record {
  last = 0;
  word = refl;
  few = few;
  parts = omega (arith, sum_by-cons parts_of (first_view seats) []);
  weights = λ weight. refl;
  each = each_alone (Fits 0) (first_view seats) (nothing_drawn 0 0 seats);
}

pub draws : (seats slots id : ℕ) (me : Me ℕ TickView) → me.0.parts ≡ 1 → length me.0.drawn < seat_limit → Allows (AreDrawn seats) slots id me 0 (λ n. (n + 1) % 18446744073709551616) (λ found new. Draws me found new)
draws seats slots id me one room s h homes at fits =
    let v : TickView = me.0 in
    let found : ℕ = slice_index s.words 0 in
    let is : found ≡ h.last = ap (λ l. slice_index l 0) h.word in
    let new : TickView = with_tick v (found + 1) in
    let most = few_drawn s.views (λ j u e. (h.each j u e).few) in
    let all = h.weights (λ x. 1) in
    let count = length_of_ticks 1 h.last in
    let parts : sum_by parts_of s.views ≡ seats = h.parts in
    let far : found ≤ 72057594037927936 = (let few = h.few in omega arith) in
    let mine = h.each id v at in
    let words : set s.words 0 ((found + 1) % 18446744073709551616) ≡ (h.last + 1) ∷ [] =
    ap (λ l. set l 0 ((found + 1) % 18446744073709551616)) h.word ∙ ap (λ n. n ∷ []) (omega arith) in (
      new,
      keeps,
      tt,
      record {
        last = h.last + 1;
        word = words;
        few = h.few;
        parts = (let t = total_set parts_of s.views id v new at in omega arith);
        weights = λ weight.
            let t = total_set (drawn_by weight) s.views id v new at in
            let p = h.weights weight in
            let same : weight (found + 1) ≡ weight (1 + h.last) = ap weight (omega arith) in
            let last = ap (λ n. sum_by weight (ticks_to n)) {x = h.last + 1} {y = suc h.last} (omega arith) in let next = weight_of_next weight 1 h.last in
            omega (arith, sum_by_push weight v.drawn (found + 1));
        each = each_set (Fits (h.last + 1)) s.views id new
            (record {
              few = (let l = counted (v.drawn ++ (found + 1) ∷ []) in let k = counted v.drawn in let p = sum_by_push (λ x. 1) v.drawn (found + 1) in omega arith);
              below = All-push (λ x. x ≤ h.last + 1) v.drawn (found + 1) (raised h.last (h.last + 1) id v (omega arith) mine).below (omega arith);
            }) (λ j u away e. raised h.last (h.last + 1) j u (omega arith) (h.each j u e));
      },
      (record { drawn = refl; above = All-weaker (λ x. x ≤ h.last) (λ x. x ≤ found) (λ x p. omega arith) v.drawn mine.below; far = far }, refl),
    )

pub splits : (seats id : ℕ) (v : TickView) → 0 < v.parts → v.drawn ≡ [] → Splits (AreDrawn seats) id v (parted v) one_part
splits seats id v some_part none s h at =
    let mine = h.each id v at in
    record {
      last = h.last;
      word = h.word;
      few = h.few;
      parts = (let t = total_split parts_of s.views id v (parted v) one_part at in let p : sum_by parts_of s.views ≡ seats = h.parts in omega arith);
      weights = λ weight. (let t = total_split (drawn_by weight) s.views id v (parted v) one_part at in let p = h.weights weight in let q : drawn_by weight (parted v) + drawn_by weight one_part ≡ drawn_by weight v = omega arith in omega arith);
      each = each_split (Fits h.last) s.views id (parted v) one_part
          (record { few = (let l : length v.drawn ≡ 0 = ap length none in omega arith); below = mine.below })
          (λ j. nothing_drawn h.last j 1) (λ j u away e. h.each j u e);
    }

pub joins : (seats id : ℕ) (v : TickView) (other : ℕ) (w : TickView) → Joins (AreDrawn seats) id v other w (joined v w) spent
joins seats id v other w s h at apart there =
    let stands = other_stands s.views id other (joined v w) w apart there in
    let mine = h.each id v at in
    let theirs = h.each other w stands in
    record {
      last = h.last;
      word = h.word;
      few = h.few;
      parts = (let t = total_join parts_of s.views id other v w (joined v w) spent at apart stands in let p : sum_by parts_of s.views ≡ seats = h.parts in omega arith);
      weights = λ weight.
          let t = total_join (drawn_by weight) s.views id other v w (joined v w) spent at apart stands in
          let p = h.weights weight in
          omega (arith, sum_by-append weight v.drawn w.drawn);
      each = each_join (Fits h.last) s.views id other (joined v w) spent
          (record {
            few = (let l = counted (v.drawn ++ w.drawn) in let a = sum_by-append (λ x. 1) v.drawn w.drawn in let p = counted v.drawn in let q = counted w.drawn in let x = mine.few in let y = theirs.few in omega arith);
            below = All-append (λ x. x ≤ h.last) v.drawn w.drawn mine.below theirs.below;
          })
          (nothing_drawn h.last other 0) (λ j u away away' e. h.each j u e);
    }

-- a handle with every part has drawn all ticks up to the word
pub tells : (seats id : ℕ) (v : TickView) (s : State ℕ TickView) → v.parts ≡ seats → Seen (AreDrawn seats) id v s → (weight : ℕ → ℕ) → sum_by weight v.drawn ≡ sum_by weight (ticks_to (slice_index s.words 0))
tells seats id v s every seen weight =
    let h = seen.0 in
    let idle : Each (λ j (u : TickView). u.parts ≡ 0 → drawn_by weight u ≡ 0) s.views = λ j u e none. nothing u.drawn (let f = (h.each j u e).few in omega arith) in
    let all = sole_total parts_of (drawn_by weight) s.views id v seen.1 (h.parts ∙ sym every) idle in
    sym all ∙ h.weights weight ∙ ap (λ n. sum_by weight (ticks_to n)) (sym (ap (λ l. slice_index l 0) h.word))
  where
    nothing : (xs : List ℕ) → length xs ≡ 0 → sum_by weight xs ≡ 0
    nothing [] e = refl
    nothing (x ∷ xs) e = absurd (omega arith)

pub first_is : (xs : List ℕ) (x : ℕ) → get_elem? xs 0 ≡ some x → slice_index xs 0 ≡ x
first_is [] x e = absurd (some-ne-none x (sym e))
first_is (y ∷ ys) x e = some-injective y x e
