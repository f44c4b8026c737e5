use Rattle.run_board.proofs.Names.{List, [], ◌∙◌, All, ap, arith, refl, sym, subst, replicate, ahead-value, data_of}
use Rattle.run_board.proofs.Names.{Line, SessionIsThere, clocks_at, Holds, AreSeatedFirst}
use Rattle.run_board.proofs.Called.{same_made}
use Rattle.run_board.proofs.Kept.{Kept}
use Rattle.run_board.proofs.Opening.{all_can_pass, sits_first, opens}
use Rattle.run_board.proofs.run.ScriptRun.open.Goals as goal

pub pass_all-requires : goal.pass_all-requires
pass_all-requires c =
    let script = data_of c.args.script in
    let stands = c.in_ok-planned.ensures.opens script refl (sym c.as_slice-2.ensures.value) in
    let seated = subst (λ (ls : List Line). AreSeatedFirst script.setup.nodes ls c.in_ok-seated.seated.items) c.as_slice-3.ensures.value c.in_ok-seated.ensures in
    let held = c.in_ok-held.ensures.items_if_clones_equal (λ y same. same) ∙ ap (λ (h : Holds). replicate script.setup.nodes h) c.none.ensures in
    all_can_pass script [] c.in_ok-planned.planned.clock c.as_slice-4.result.now c.in_ok-seated.seated.items c.args.script.sound (omega (arith, c.requires.few, c.args.script.lines.ok)) stands.time c.as_slice-4.ensures.value (sits_first script c.in_ok-held.held.items c.in_ok-seated.seated.items seated held).each

pub invariant_of-result : goal.invariant_of-result
invariant_of-result c =
    let script = data_of c.args.script in
    let stands = c.in_ok-planned.ensures.opens script refl (sym c.as_slice-2.ensures.value) in
    let seated = subst (λ (ls : List Line). AreSeatedFirst script.setup.nodes ls c.in_ok-seated.seated.items) c.as_slice-3.ensures.value c.in_ok-seated.ensures in
    let held = c.in_ok-held.ensures.items_if_clones_equal (λ y same. same) ∙ ap (λ (h : Holds). replicate script.setup.nodes h) c.none.ensures in
    let lacking = c.in_ok-lacking.ensures.items_if_clones_equal (λ y same. same) in
    let there = subst (λ (ls : List Line). All (λ (line : Line). SessionIsThere line.actor) ls) c.as_slice.ensures.value c.see_sessions.ensures in
    let kept : Kept = record {
      whole = c.in_ok-planned.planned.cluster;
      clock = c.in_ok-planned.planned.clock;
      ahead = ahead-value.it c.in_ok-planned.planned.weather;
      names = [];
      held = c.in_ok-held.held.items;
      seated = c.in_ok-seated.seated.items;
      lacking = c.in_ok-lacking.lacking.items;
    } in
    let made = opens script kept (clocks_at kept.whole kept.clock c.as_slice-4.result.now) c.args.script.sound (omega (arith, c.requires.few, c.args.script.lines.ok)) c.requires.for_threads there stands (sits_first script kept.held kept.seated seated held) lacking (λ k. clocks_at kept.whole kept.clock (c.as_slice-4.ensures.value k)) in
    let on : Kept = record kept { names = c.new.result.names; seated = c.pass_all.new.seated.items } in
    let opened = same_made (record { script = script; turns = [] }) (record { script = script; turns = c.new-2.result.items }) _ on made (λ k. record { script = script; turns = c.new-2.ensures.items k }) (λ k. record kept { names = c.new.ensures k; seated = c.pass_all.ensures k }) in
    (opened.stands, opened.sits, opened.out, omega (arith, c.in_ok-planned.ensures.spare, c.new-2.ensures.len))
