use Rattle.std.proofs.Common.{◌≡◌, ◌≢◌, ℕ, ◌+◌, ◌-◌, ◌<◌, ◌≤◌, List, [], ◌∷◌, ◌++◌, get_or, length, inl, inr, sym, subst, ap, ◌∙◌, rules, arith}
use Rattle.std.proofs.lemmas.Grind.{common_steps}
use Rattle.std.proofs.lemmas.List.{get_or_push}
use Rattle.std.proofs.Math.ListN.{get_or-append}
use Rattle.rising_numbers.specs.Rises.{Leads}
use Rattle.rising_numbers.proofs.TurnLemmas.{low_or_high}
use Rattle.rising_numbers.proofs.RoundLemmas.{leads_none, round_begun, round_two, round_step, some_pushed}
use Rattle.rising_numbers.proofs.walk.Walk.round.Goals as goal

earlier : (path : List ℕ) (met node i back : ℕ) → back < length path → i ≡ length path - 1 - back → node ≡ get_or path i 0 → node ≢ met →
    ((j : ℕ) → length path ≤ j + back → j < length path → get_or path j 0 ≢ met) → (j : ℕ) → length path ≤ j + (back + 1) → j < length path → get_or path j 0 ≢ met
earlier path met node i back low at is other missed j high under = elim (low_or_high i j) [
  | inl above ↦ missed j (omega (arith, low, at, above, high)) under
  | inr most ↦ λ same. other (is ∙ ap (λ (n : ℕ). get_or path n 0) (here i j (length path) low at most high) ∙ same)
]
  where
    here : (i j n : ℕ) → back < n → i ≡ n - 1 - back → j ≤ i → n ≤ j + (back + 1) → i ≡ j
    here i j n low at most high = omega (arith, low, at, most, high)

further : (path : List ℕ) (met node i n : ℕ) → i < length path → n ≡ i → node ≡ get_or path i 0 → node ≡ get_or (path ++ met ∷ []) n 0
further path met node i n low at is = is ∙ sym (get_or-append path (met ∷ []) 0 i low) ∙ ap (λ (m : ℕ). get_or (path ++ met ∷ []) m 0) (sym at)

pub loop-back-init : goal.loop-back-init
loop-back-init c = record {
  leads = rw c.new-places.ensures.items (leads_none c.args.edges.now c.args.met (get_or (c.args.self.now.path.items ++ c.args.met ∷ []) (length c.args.self.now.path.items - 0) 0) (sym (get_or_push c.args.self.now.path.items c.args.met 0 (length c.args.self.now.path.items - 0) (omega arith))));
  missed = λ j high low same. absurd (omega (arith, high, low));
}

pub index-left-requires : goal.index-left-requires
index-left-requires c =
    let low : length c.args.self.now.path.items - 1 - c.loop-back.back < length c.args.self.now.path.items = grind (arith, common_steps) in
    let is : c.index-node.result.now ≡ get_or c.args.self.now.path.items (length c.args.self.now.path.items - 1 - c.loop-back.back) 0 = grind (arith, common_steps) in
    let within : c.index-node.result.now < length c.args.self.now.ahead.items = round_begun c.args.edges.now c.args.chains.now.heads.items c.args.chains.now.nexts.items c.args.self.now c.args.met c.requires.chained c.requires.meets (length c.args.self.now.path.items - 1 - c.loop-back.back) c.index-node.result.now low is in
    first_of (search rules, grind (arith, common_steps))

pub overflow_sub-left : goal.overflow_sub-left
overflow_sub-left c =
    let low : length c.args.self.now.path.items - 1 - c.loop-back.back < length c.args.self.now.path.items = grind (arith, common_steps) in
    let is : c.index-node.result.now ≡ get_or c.args.self.now.path.items (length c.args.self.now.path.items - 1 - c.loop-back.back) 0 = grind (arith, common_steps) in
    let two : 2 ≤ get_or c.args.self.now.ahead.items c.index-node.result.now 0 = round_two c.args.edges.now c.args.chains.now.heads.items c.args.chains.now.nexts.items c.args.self.now c.args.met c.requires.chained c.requires.meets (length c.args.self.now.path.items - 1 - c.loop-back.back) c.index-node.result.now low is in
    let left : c.index-left.result.now ≡ get_or c.args.self.now.ahead.items c.index-node.result.now 0 = grind (arith, common_steps) in
    omega (arith, two, left)

pub returns-then-node-met : goal.returns-then-node-met
returns-then-node-met c =
    let low : length c.args.self.now.path.items - 1 - c.loop-back.back < length c.args.self.now.path.items = grind (arith, common_steps) in
    let is : c.index-node.result.now ≡ get_or c.args.self.now.path.items (length c.args.self.now.path.items - 1 - c.loop-back.back) 0 = grind (arith, common_steps) in
    let two : 2 ≤ get_or c.args.self.now.ahead.items c.index-node.result.now 0 = round_two c.args.edges.now c.args.chains.now.heads.items c.args.chains.now.nexts.items c.args.self.now c.args.met c.requires.chained c.requires.meets (length c.args.self.now.path.items - 1 - c.loop-back.back) c.index-node.result.now low is in
    let left : get_or c.args.self.now.ahead.items c.index-node.result.now 0 ≡ c.index-left.result.now = grind (arith, common_steps) in
    let step : Leads c.args.edges.now c.args.met (c.loop-back.places.items ++ (c.index-left.result.now - 2) ∷ []) c.index-node.result.now =
    round_step c.args.edges.now c.args.chains.now.heads.items c.args.chains.now.nexts.items c.args.self.now c.args.met c.requires.chained c.requires.meets (length c.args.self.now.path.items - 1 - c.loop-back.back) c.index-node.result.now (c.index-left.result.now - 2) (length c.args.self.now.path.items - c.loop-back.back) c.loop-back.places.items low is (omega (arith, left, two)) (let under : c.loop-back.back < length c.args.self.now.path.items = grind (arith, common_steps) in omega (arith, under)) c.loop-back.invariant.leads in
    record {
      some = rw c.in_ok-push.ensures.items (some_pushed c.loop-back.places.items (c.index-left.result.now - 2));
      node = c.args.met;
      leads = rw c.in_ok-push.ensures.items (subst (λ (n : ℕ). Leads c.args.edges.now c.args.met (c.loop-back.places.items ++ (c.index-left.result.now - 2) ∷ []) n) c.if-node-met.true step);
    }

pub loop-back-preserved : goal.loop-back-preserved
loop-back-preserved c =
    let low : length c.args.self.now.path.items - 1 - c.loop-back.back < length c.args.self.now.path.items = grind (arith, common_steps) in
    let is : c.index-node.result.now ≡ get_or c.args.self.now.path.items (length c.args.self.now.path.items - 1 - c.loop-back.back) 0 = grind (arith, common_steps) in
    let two : 2 ≤ get_or c.args.self.now.ahead.items c.index-node.result.now 0 = round_two c.args.edges.now c.args.chains.now.heads.items c.args.chains.now.nexts.items c.args.self.now c.args.met c.requires.chained c.requires.meets (length c.args.self.now.path.items - 1 - c.loop-back.back) c.index-node.result.now low is in
    let left : get_or c.args.self.now.ahead.items c.index-node.result.now 0 ≡ c.index-left.result.now = grind (arith, common_steps) in
    let under : c.loop-back.back < length c.args.self.now.path.items = grind (arith, common_steps) in
    let step : Leads c.args.edges.now c.args.met (c.loop-back.places.items ++ (c.index-left.result.now - 2) ∷ []) c.index-node.result.now =
    round_step c.args.edges.now c.args.chains.now.heads.items c.args.chains.now.nexts.items c.args.self.now c.args.met c.requires.chained c.requires.meets (length c.args.self.now.path.items - 1 - c.loop-back.back) c.index-node.result.now (c.index-left.result.now - 2) (length c.args.self.now.path.items - c.loop-back.back) c.loop-back.places.items low is (omega (arith, left, two)) (omega (arith, under)) c.loop-back.invariant.leads in
    record {
      leads = rw c.in_ok-push.ensures.items (subst (λ (n : ℕ). Leads c.args.edges.now c.args.met (c.loop-back.places.items ++ (c.index-left.result.now - 2) ∷ []) n)
          (further c.args.self.now.path.items c.args.met c.index-node.result.now (length c.args.self.now.path.items - 1 - c.loop-back.back) (length c.args.self.now.path.items - (c.loop-back.back + 1)) low (omega (arith, under)) is) step);
      missed = earlier c.args.self.now.path.items c.args.met c.index-node.result.now (length c.args.self.now.path.items - 1 - c.loop-back.back) c.loop-back.back under (omega (arith, under)) is c.if-node-met.false c.loop-back.invariant.missed;
    }
