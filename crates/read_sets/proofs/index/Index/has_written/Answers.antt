use Rattle.std.proofs.Common.{◌≡◌, ℕ, false, sym, subst, ◌∙◌}
use Rattle.std.specs.BTreeSet.{contains}
use Rattle.read_sets.specs.Index.{pair_cmp}
use Rattle.read_sets.proofs.IndexLemmas.{not_written}
use Rattle.read_sets.proofs.index.Index.has_written.Goals as goal

pub returns : goal.returns
returns c = λ h is off.
    let written = c.args.self.now.written in
    let here : contains pair_cmp written (c.value.result, c.value-2.result) ≡ false = sym c.contains.ensures ∙ off in
    let at_key = subst (λ (n : ℕ). contains pair_cmp written (c.value.result, n) ≡ false) c.value-2.ensures.value here in
    not_written h c.args.self.now c.args.txn c.args.key is (subst (λ (n : ℕ). contains pair_cmp written (n, c.args.key) ≡ false) c.value.ensures.value at_key)
