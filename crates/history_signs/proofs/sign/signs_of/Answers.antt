use Rattle.std.proofs.Common.{◌+◌, ◌∙◌, ◌∷◌, [], length, length-append, sym, ap, subst, ℕ, List}
use Rattle.std.specs.Prelude.{slice_get, IfSome}
use Rattle.history_signs.specs.declared.sign.Sign.{Sign}
use Rattle.history_signs.specs.Signs.{IsSign}
use Rattle.history_signs.proofs.SignLemmas.{Each, each_more}
use Rattle.history_signs.proofs.sign.signs_of.Goals as goal

pub loop-column-preserved : goal.loop-column-preserved
loop-column-preserved c =
    let here = subst (λ (n : ℕ). IfSome (slice_get c.args.chosen.now n) (λ x. IsSign c.args.lanes.now c.args.ringed.now c.args.chosen.now n x c.sign_at.result)) (sym c.loop-column.invariant.all) c.sign_at.ensures.sign in
    let more = each_more c.args.lanes.now c.args.ringed.now c.args.chosen.now c.loop-column.signs.items c.sign_at.result c.loop-column.invariant.each here in
    record {
      all = ap length c.in_ok-add_sign.ensures ∙ (length-append c.loop-column.signs.items (c.sign_at.result ∷ []) ∙ ap (λ n. n + 1) c.loop-column.invariant.all);
      each = subst (λ (signs : List Sign). Each c.args.lanes.now c.args.ringed.now c.args.chosen.now signs) (sym c.in_ok-add_sign.ensures) more;
    }
