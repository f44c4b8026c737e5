use Rattle.std.proofs.Common.{◌≡◌, ◌+◌, ◌<◌, ℕ, suc, List, [], ◌∷◌, ◌++◌, length, take, get_or, sym, subst, ap, ◌∙◌, arith}
use Rattle.std.proofs.Math.Seq.{take-suc}
use Rattle.history_book.specs.Members.{◌∈◌}
use Rattle.history_book.specs.declared.item.Item.{Item}
use Rattle.isolation_rules.specs.Best.{BestOf}
use Rattle.isolation_rules.proofs.visible.newest.Goals as goal

one_more : (xs : List Item) (i : ℕ) (x : Item) → i < length xs → x ≡ get_or xs i x → take i xs ++ x ∷ [] ≡ take (i + 1) xs
one_more xs i x less e =
    let next : i + 1 ≡ suc i = omega arith in
    ap (λ (y : Item). take i xs ++ y ∷ []) e ∙ sym (take-suc xs i x less) ∙ ap (λ n. take n xs) (sym next)

pub loop-item-init : goal.loop-item-init
unfolding ◌∈◌
loop-item-init c = λ t d v m below wrote. m

pub loop-item-preserved : goal.loop-item-preserved
loop-item-preserved c =
    let items = c.args.items.now in
    let i = c.loop-item.item-index in
    subst (λ (part : List Item). BestOf items c.args.start c.args.key part c.better-best.result) (one_more items i c.item-item.result (omega (arith, c.loop-item-test.true)) c.item-item.is) (c.better-best.ensures (take i items) c.loop-item.invariant)
