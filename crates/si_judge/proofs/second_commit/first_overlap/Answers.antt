use Rattle.si_judge.proofs.Names.{◌≡◌, ◌∙◌, ℕ, Some, length, slice_get, inl, inr, refl, sym, subst, arith, cases_lt}
use Rattle.si_judge.proofs.Names.{false≢true, slice_get_read, BreaksApart}
use Rattle.si_judge.proofs.SecondLemmas.{breaks_at, broken_at, apart_within}
use Rattle.si_judge.proofs.second_commit.first_overlap.Goals as goal

pub loop-second-init : goal.loop-second-init
loop-second-init c = λ q less broken. omega (arith, less, broken.0)

pub returns-then-overlaps-clause-second : goal.returns-then-overlaps-clause-second
returns-then-overlaps-clause-second c =
    let items = c.args.items.now in
    let second = c.loop-second.second in
    let here : slice_get items second ≡ Some c.index-items-second.result = slice_get_read items (length items) second c.index-items-second.result refl (omega (arith, c.loop-second-test.true)) c.index-items-second.is in
    let over = (c.overlaps.ensures items c.requires.sharers).0 c.if-overlaps.true in
    (breaks_at items c.args.first second c.args.start c.args.commit c.index-items-second.result (omega (arith, c.loop-second.auto.second)) c.requires.placed here over, c.loop-second.invariant)

pub loop-second-preserved : goal.loop-second-preserved
loop-second-preserved c = λ q less broken.
    let items = c.args.items.now in
    let second = c.loop-second.second in
    let here : slice_get items second ≡ Some c.index-items-second.result = slice_get_read items (length items) second c.index-items-second.result refl (omega (arith, c.loop-second-test.true)) c.index-items-second.is in
    elim (cases_lt q second) [
      | inl before ↦ c.loop-second.invariant q before broken
      | inr more ↦
          let at : q ≡ second = omega (arith, less, more) in
          let over = broken_at items c.args.first second c.args.start c.args.commit c.index-items-second.result c.requires.placed here (subst (λ (n : ℕ). BreaksApart items c.args.first n) at broken) in
          false≢true (sym c.if-overlaps.false ∙ (c.overlaps.ensures items c.requires.sharers).1 over)
    ]

pub returns-clause-second : goal.returns-clause-second
returns-clause-second c = λ j broken.
    let items = c.args.items.now in
    let within = apart_within items c.args.first j broken in
    c.loop-second.invariant j (omega (arith, within, c.loop-second-test.false)) broken
