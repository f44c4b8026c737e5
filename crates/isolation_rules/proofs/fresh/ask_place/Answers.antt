use Rattle.std.proofs.Common.{◌≡◌, ◌-◌, ℕ, suc, false, drop, length, Some, slice_get, refl, sym, subst, ap, ◌∙◌, arith}
use Rattle.std.proofs.lemmas.Option.{slice_get_read}
use Rattle.history_book.specs.Isolation.{has_ask}
use Rattle.isolation_rules.proofs.AskLemmas.{no_ask_before, no_ask_past, before_no_ask, last_ask}
use Rattle.isolation_rules.proofs.fresh.ask_place.Goals as goal

pub loop-place-init : goal.loop-place-init
loop-place-init c = no_ask_past c.args.session c.args.before.now

pub returns-then-asks : goal.returns-then-asks
returns-then-asks c =
    let xs = c.args.before.now in
    let p : ℕ = c.loop-place.place - 1 in
    let next : c.loop-place.place ≡ suc p = omega (arith, c.loop-place-test.true) in
    let there : slice_get xs p ≡ Some c.index-before-place.result = slice_get_read xs (length xs) p c.index-before-place.result refl (omega (arith, c.loop-place-test.true, c.loop-place.auto.place)) c.index-before-place.is in
    sym (last_ask c.args.session xs p c.index-before-place.result there (sym c.asks.ensures ∙ c.if-asks.true) (subst (λ (n : ℕ). has_ask c.args.session (drop n xs) ≡ false) next c.loop-place.invariant)).1

pub loop-place-preserved : goal.loop-place-preserved
loop-place-preserved c =
    let xs = c.args.before.now in
    let p : ℕ = c.loop-place.place - 1 in
    let next : c.loop-place.place ≡ suc p = omega (arith, c.loop-place-test.true) in
    let there : slice_get xs p ≡ Some c.index-before-place.result = slice_get_read xs (length xs) p c.index-before-place.result refl (omega (arith, c.loop-place-test.true, c.loop-place.auto.place)) c.index-before-place.is in
    no_ask_before c.args.session xs p c.index-before-place.result there (sym c.asks.ensures ∙ c.if-asks.false) (subst (λ (n : ℕ). has_ask c.args.session (drop n xs) ≡ false) next c.loop-place.invariant)

pub returns : goal.returns
returns c =
    let none : c.loop-place.place ≡ 0 = omega (arith, c.loop-place-test.false) in
    sym (ap length (before_no_ask c.args.session c.args.before.now (subst (λ (n : ℕ). has_ask c.args.session (drop n c.args.before.now) ≡ false) none c.loop-place.invariant)))
