use Rattle.run_board.proofs.Names.{◌≡◌, List, subst, sym, ap, ◌∙◌, IfSome, Passes, ahead_at, own_ahead, HaveRoom}
use Rattle.run_board.proofs.Names.{data_of, Seated, Ran, reached_by, seated_of, SitOnce, HasEnded}
use Rattle.run_board.proofs.Ended.{has_ended}
use Rattle.run_board.proofs.SeatedOnce.{sit_once}
use Rattle.run_board.proofs.Found.{ahead_found, ahead_missing}
use Rattle.run_board.proofs.Here.{room_found}
use Rattle.run_board.proofs.run.ScriptRun.ahead.Goals as goal

pub seated_of-requires : goal.seated_of-requires
seated_of-requires c =
    let s = c.self.inside in
    subst (λ (all : List Seated). SitOnce all) (sym c.as_slice.ensures.value) (sit_once (data_of s.script) s.turns.items s.names.names s.held.items s.seated.items c.self.invariant.1)

pub ahead_at-requires : goal.ahead_at-requires
ahead_at-requires c =
    let s = c.self.inside in
    let r : Ran = record { script = data_of s.script; turns = s.turns.items } in
    let is = ap (λ all. seated_of all c.args.actor.now) (sym c.as_slice.ensures.value) ∙ c.in-Some.ensures in
    subst (λ line. IfSome line (λ l. HaveRoom (reached_by c.args.self.now).played.clock c.args.self.now.script.leads l.verb)) (sym c.line.ensures) (room_found r c.args.self.now s.names.names s.held.items s.seated.items s.lacking.items c.args.actor.now c.in-Some.seated.now c.self.view_is c.self.invariant.1 c.self.invariant.2 is)

pub returns-in-Some-clause-ahead : goal.returns-in-Some-clause-ahead
returns-in-Some-clause-ahead c =
    let s = c.self.inside in
    let r : Ran = record { script = data_of s.script; turns = s.turns.items } in
    let is = ap (λ all. seated_of all c.args.actor.now) (sym c.as_slice.ensures.value) ∙ c.in-Some.ensures in
    let has = c.ahead_at.ensures ∙ ap (λ (x : Ran). ahead_at x.script (reached_by x) c.in-Some.seated.now.seat c.line.result c.args.aim) (sym c.self.view_is) ∙ ap (λ line. ahead_at r.script (reached_by r) c.in-Some.seated.now.seat line c.args.aim) c.line.ensures in
    subst (λ (x : Ran). c.ahead_at.result ≡ own_ahead x.script (reached_by x) c.args.actor.now c.args.aim) c.self.view_is (ahead_found r.script (reached_by r) s.names.names s.held.items s.seated.items c.args.actor.now c.args.aim c.in-Some.seated.now c.ahead_at.result c.self.invariant.1 is has)

pub returns-in-Some-clause-ended : goal.returns-in-Some-clause-ended
returns-in-Some-clause-ended c =
    let s = c.self.inside in
    let r : Ran = record { script = data_of s.script; turns = s.turns.items } in
    let is = ap (λ all. seated_of all c.args.actor.now) (sym c.as_slice.ensures.value) ∙ c.in-Some.ensures in
    let has = c.ahead_at.ensures ∙ ap (λ (x : Ran). ahead_at x.script (reached_by x) c.in-Some.seated.now.seat c.line.result c.args.aim) (sym c.self.view_is) ∙ ap (λ line. ahead_at r.script (reached_by r) c.in-Some.seated.now.seat line c.args.aim) c.line.ensures in
    let ahead = ahead_found r.script (reached_by r) s.names.names s.held.items s.seated.items c.args.actor.now c.args.aim c.in-Some.seated.now c.ahead_at.result c.self.invariant.1 is has in
    λ passes. subst (λ (x : Ran). HasEnded x c.args.actor.now) c.self.view_is (has_ended r.script r.turns c.args.actor.now c.args.aim c.self.invariant.2.sessions (sym ahead ∙ passes))

pub returns-in-None-clause-ahead : goal.returns-in-None-clause-ahead
returns-in-None-clause-ahead c =
    let s = c.self.inside in
    let r : Ran = record { script = data_of s.script; turns = s.turns.items } in
    let is = ap (λ all. seated_of all c.args.actor.now) (sym c.as_slice.ensures.value) ∙ c.in-None.ensures in
    subst (λ (x : Ran). Passes ≡ own_ahead x.script (reached_by x) c.args.actor.now c.args.aim) c.self.view_is (ahead_missing r.script (reached_by r) s.names.names s.held.items s.seated.items c.args.actor.now c.args.aim c.self.invariant.1 is)

pub returns-in-None-clause-ended : goal.returns-in-None-clause-ended
returns-in-None-clause-ended c =
    let s = c.self.inside in
    let r : Ran = record { script = data_of s.script; turns = s.turns.items } in
    let is = ap (λ all. seated_of all c.args.actor.now) (sym c.as_slice.ensures.value) ∙ c.in-None.ensures in
    let ahead = ahead_missing r.script (reached_by r) s.names.names s.held.items s.seated.items c.args.actor.now c.args.aim c.self.invariant.1 is in
    λ passes. subst (λ (x : Ran). HasEnded x c.args.actor.now) c.self.view_is (has_ended r.script r.turns c.args.actor.now c.args.aim c.self.invariant.2.sessions (sym ahead))
