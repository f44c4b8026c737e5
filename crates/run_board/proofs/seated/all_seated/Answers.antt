use Rattle.run_board.proofs.Names.{◌≡◌, ◌+◌, List, [], ◌∷◌, ◌++◌, sym, ◌∙◌, ap, subst, take_more, Line, AreSeatedFirst}
use Rattle.std.proofs.Common.{take}
use Rattle.run_board.proofs.SeatedOnce.{first_sit_once}
use Rattle.run_board.proofs.seated.all_seated.Goals as goal

pub loop-line-preserved : goal.loop-line-preserved
loop-line-preserved c =
    let lines = c.args.lines.now in
    let i = c.loop-line.line-index in
    let line = c.line-item.result in
    let first : AreSeatedFirst c.args.nodes (take i lines) c.loop-line.all.items = c.loop-line.invariant in
    let more : AreSeatedFirst c.args.nodes (take i lines ++ line ∷ []) c.give_line.new.all.items = c.in_ok-give_line.ensures (take i lines) _ (first_sit_once c.args.nodes (take i lines) c.loop-line.all.items first) first in
    let next : take (i + 1) lines ≡ take i lines ++ line ∷ [] = take_more lines i line c.loop-line-test.true ∙ ap (λ (x : Line). take i lines ++ x ∷ []) (sym c.line-item.is) in
    subst (λ (ls : List Line). AreSeatedFirst c.args.nodes ls c.give_line.new.all.items) (sym next) more
