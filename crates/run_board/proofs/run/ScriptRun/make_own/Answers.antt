use Rattle.run_board.proofs.Names.{◌≡◌, List, Err, Some, length, sym, ap, ◌∙◌, subst, arith, NoMemory, Item}
use Rattle.run_board.proofs.Names.{playable_at_first, event_of, made_by, IsTold, data_of, Ran, reached_by}
use Rattle.turn_rules.specs.declared.turn.Turn.TheVariants as turn
use Rattle.run_board.proofs.Since.{items_of, grown_least}
use Rattle.run_board.proofs.Telling.{own_made}
use Rattle.run_board.proofs.run.ScriptRun.make_own.Goals as goal

pub asked_since-requires : goal.asked_since-requires
asked_since-requires c =
    let before = ap (λ (items : List Item). length items) (c.history-before.ensures.value ∙ c.self.invariant.0.history ∙ ap items_of c.self.view_is) in
    grown_least c.args.self.now c.make.new.self (turn.Own c.args.actor.now c.args.aim) c.args.event.now c.make.result (length c.history-before.result.now) (ap made_by c.requires) before c.make.ensures.made

pub returns-in-Ok : goal.returns-in-Ok
returns-in-Ok c =
    let s = c.self.inside in
    let r : Ran = record { script = data_of s.script; turns = s.turns.items } in
    let out = c.self.invariant.2 in
    let is = ap made_by c.requires in
    let is_here : event_of r.script (reached_by r) (turn.Own c.args.actor.now c.args.aim) ≡ Some c.args.event.now = subst (λ (x : Ran). event_of x.script (reached_by x) (turn.Own c.args.actor.now c.args.aim) ≡ Some c.args.event.now) (sym c.self.view_is) is in
    let told = subst (λ (x : Ran). IsTold x.script (reached_by x).played c.args.event.now) c.self.view_is (c.own_turns_are_told.ensures r.script r.turns c.args.actor.now c.args.aim c.args.event.now out.sound.setup (playable_at_first r.script out.sound out.few) out.sessions out.for_threads is_here) in
    let before = ap (λ (items : List Item). length items) (c.history-before.ensures.value ∙ c.self.invariant.0.history ∙ ap items_of c.self.view_is) in
    let some : c.make.result ≡ Err NoMemory → ⊥ = grind arith in
    own_made c.args.self.now c.make.new.self c.args.actor.now c.args.aim c.args.event.now c.make.result (length c.history-before.result.now) c.asked_since.result (record { event = is; told = told; length_is = before; asks = c.asked_since.ensures }) some c.make.ensures.made
