use Rattle.std.proofs.Common.{◌≡◌, ℕ, suc, ◌+◌, ◌-◌, ◌<◌, ◌++◌, length, List, take, drop, refl, sym, subst, ap, ◌∙◌, arith, slice_get, Some}
use Rattle.std.specs.List.{copy_within}
use Rattle.std.proofs.lemmas.Bool.{eqb-true}
use Rattle.std.proofs.lemmas.List.{length-append, length-take-le, length-drop}
use Rattle.std.proofs.lemmas.Option.{slice_get_read}
use Rattle.system_parts.specs.declared.buckets.Recorded.{Recorded}
use Rattle.conflict_buckets.proofs.PairLemmas.{without-found}
use Rattle.conflict_buckets.proofs.Places.{moved-over}
use Rattle.conflict_buckets.proofs.pairs.remove.Goals as goal

pub returns-then-eq-clause-removed : goal.returns-then-eq-clause-removed
returns-then-eq-clause-removed c =
    let kept = c.loop-i.kept in
    let i = c.loop-i.i in
    let within : i < length kept = omega arith in
    let there : slice_get kept i ≡ Some c.index-kept-i.result = slice_get_read kept (length kept) i c.index-kept-i.result refl within c.index-kept-i.is in
    let same : c.index-kept-i.result.key ≡ c.args.key = ap (λ (p : Recorded). p.key) c.index-kept-i.is ∙ eqb-true _ _ (sym c.eq.ensures ∙ c.if-eq.true) in
    let left : List Recorded = take i kept ++ drop (suc i) kept in
    let front = length-take-le i kept (omega arith) in
    let back = length-drop (suc i) kept in
    let many : length left ≡ i + (length kept - suc i) = omega (arith, length-append (take i kept) (drop (suc i) kept)) in
    let moved : take (length left) c.copy_within.new.self ≡ left =
    ap (λ (after : List Recorded). take (length left) after) c.copy_within.ensures.after
    ∙ (ap (λ (n : ℕ). take n (copy_within kept (i + 1) (length kept) i)) many ∙ moved-over kept i (length kept - suc i) within (omega arith)) in
    subst (λ (w : List Recorded). take (length w) c.copy_within.new.self ≡ w) (sym (without-found kept i c.index-kept-i.result c.args.key there same) ∙ c.loop-i.invariant.made) moved
