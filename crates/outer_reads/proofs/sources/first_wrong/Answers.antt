use Rattle.std.proofs.Common.{◌≡◌, ℕ, ◌<◌, Bool, true, false, None, length, get_or, slice_get, inl, inr, sym, subst, ap, ◌∙◌, rules, arith}
use Rattle.std.proofs.lemmas.Option.{slice_get-get_or, slice_get_within, same_Some}
use Rattle.outer_reads.specs.declared.readings.Reading.{Reading}
use Rattle.outer_reads.specs.Sources.{HasSource, trace_of}
use Rattle.outer_reads.proofs.ReadLemmas.{one_less, wrong_source}
use Rattle.outer_reads.proofs.sources.first_wrong.Goals as goal

not_both : (b : Bool) → b ≡ false → b ≡ true → ⊥
not_both b f t = cc

pub returns-then-not-has_source : goal.returns-then-not-has_source
returns-then-not-has_source c =
    let less : c.loop-i.i < length c.args.readings.now = omega (arith, c.loop-i-test.true) in
    let r : Reading = get_or c.args.readings.now c.loop-i.i (record { place = 0; txn = 0; key = 0; answer = None }) in
    let at = slice_get-get_or c.args.readings.now c.loop-i.i (record { place = 0; txn = 0; key = 0; answer = None }) less in
    wrong_source (trace_of c.args.transactions.now c.args.operations.now) r.place r.txn r.key r.answer (c.requires.readings.read c.loop-i.i r at)
    (λ has. let yes : c.has_source.result ≡ true = (c.has_source.ensures c.args.operations.now c.requires.last).1 has in not_both c.has_source.result (search rules) yes)

pub loop-i-preserved : goal.loop-i-preserved
loop-i-preserved c = λ j r low at. elim (one_less j c.loop-i.i low) [
  | inl earlier ↦ c.loop-i.invariant j r earlier at
  | inr here ↦
      let less : c.loop-i.i < length c.args.readings.now = omega (arith, c.loop-i-test.true) in
      let there = slice_get-get_or c.args.readings.now c.loop-i.i (record { place = 0; txn = 0; key = 0; answer = None }) less in
      let same = same_Some (get_or c.args.readings.now c.loop-i.i (record { place = 0; txn = 0; key = 0; answer = None })) r (sym there ∙ ap (λ (n : ℕ). slice_get c.args.readings.now n) (sym here) ∙ at) in
      subst (λ (x : Reading). HasSource (trace_of c.args.transactions.now c.args.operations.now) x.key x.answer) same ((c.has_source.ensures c.args.operations.now c.requires.last).0 (search rules))
]

pub returns : goal.returns
returns c = λ i r at. c.loop-i.invariant i r (let low = slice_get_within c.args.readings.now i r at in omega (arith, low, c.loop-i-test.false)) at
