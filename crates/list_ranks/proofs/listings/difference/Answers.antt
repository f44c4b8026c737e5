use Rattle.std.proofs.Common.{◌≡◌, ℕ, slice_get, rules, arith}
use Rattle.list_ranks.proofs.CheckLemmas.{below_next}
use Rattle.list_ranks.proofs.listings.difference.Goals as goal

pub loop-place-preserved : goal.loop-place-preserved
loop-place-preserved c =
    let same = c.same_at.ensures (search rules) in
    let within = same.0 in
    record {
      short = omega (arith, within);
      same = below_next (λ (j : ℕ). slice_get c.args.values.now j ≡ slice_get c.args.all.now j) c.loop-place.place c.loop-place.invariant.same same.1;
    }

pub returns-then-not-same_at-clause-some : goal.returns-then-not-same_at-clause-some
returns-then-not-same_at-clause-some c = c.loop-place.invariant.same
