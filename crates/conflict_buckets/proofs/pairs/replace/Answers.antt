use Rattle.std.proofs.Common.{◌≡◌, refl, sym, ap, ◌∙◌, arith, slice_get, Some, length}
use Rattle.std.proofs.lemmas.Bool.{eqb-true}
use Rattle.std.proofs.lemmas.Option.{slice_get_read}
use Rattle.system_parts.specs.declared.buckets.Recorded.{Recorded}
use Rattle.conflict_buckets.proofs.PairLemmas.{replaced-found}
use Rattle.conflict_buckets.proofs.pairs.replace.Goals as goal

pub returns-then-eq : goal.returns-then-eq
returns-then-eq c =
    let there : slice_get c.loop-i.kept c.loop-i.i ≡ Some c.index-kept-i.result = slice_get_read c.loop-i.kept (length c.loop-i.kept) c.loop-i.i c.index-kept-i.result refl (omega arith) c.index-kept-i.is in
    let same : c.index-kept-i.result.key ≡ c.args.pair.key = ap (λ (p : Recorded). p.key) c.index-kept-i.is ∙ eqb-true _ _ (sym c.eq.ensures ∙ c.if-eq.true) in
    sym (replaced-found c.loop-i.kept c.loop-i.i c.index-kept-i.result c.args.pair there same) ∙ c.loop-i.invariant
