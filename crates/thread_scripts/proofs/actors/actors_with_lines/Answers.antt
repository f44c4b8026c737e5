use Rattle.std.proofs.Common.{◌≡◌, ℕ, List, [], ◌∷◌, ap, ◌∙◌, arith}
use Rattle.history_book.specs.declared.item.Actor.{Actor}
use Rattle.history_book.specs.declared.item.Actor.TheVariants.{Clock, Node, Session, Janitor}
use Rattle.session_script.specs.Script.{data_of}
use Rattle.turn_rules.specs.Seats.{first_seat, seats_of}
use Rattle.thread_scripts.specs.Actors.{with_actor, with_lines}
use Rattle.thread_scripts.proofs.Adding.{first_two, none_added, next_added}
use Rattle.thread_scripts.proofs.actors.actors_with_lines.Goals as goal

pub loop-node-init : goal.loop-node-init
loop-node-init c =
    let script = data_of c.args.script.now in
    let one = c.in_ok-add_actor.ensures.added ∙ ap (λ (actors : List Actor). with_actor script Clock actors) c.new-actors.ensures.items in
    let both = c.in_ok-add_actor-2.ensures.added ∙ ap (λ (actors : List Actor). with_actor script Janitor actors) one ∙ first_two script in
    record {
      actors = none_added script (first_seat Clock ∷ first_seat Janitor ∷ []) (λ n. Node n) c.add_actor-2.new.actors.items both;
      few = omega (arith, c.in_ok-add_actor-2.ensures.one, c.in_ok-add_actor.ensures.one);
    }

pub loop-node-preserved : goal.loop-node-preserved
loop-node-preserved c =
    let script = data_of c.args.script.now in
    record {
      actors = c.in_ok-add_node.ensures.added ∙ next_added script (first_seat Clock ∷ first_seat Janitor ∷ []) (λ n. Node n) c.loop-node.node c.loop-node.actors.items c.loop-node.invariant.actors;
      few = omega (arith, c.in_ok-add_node.ensures.one);
    }

pub loop-session-init : goal.loop-session-init
loop-session-init c =
    let script = data_of c.args.script.now in
    let all : c.loop-node.node ≡ script.setup.nodes = omega arith in
    let nodes = c.loop-node.invariant.actors ∙ ap (λ (n : ℕ). with_lines script (first_seat Clock ∷ first_seat Janitor ∷ seats_of (λ m. Node m) n)) all in
    record {
      actors = none_added script (first_seat Clock ∷ first_seat Janitor ∷ seats_of (λ n. Node n) script.setup.nodes) (λ s. Session s) c.loop-node.actors.items nodes;
      few = omega (arith, all);
    }

pub loop-session-preserved : goal.loop-session-preserved
loop-session-preserved c =
    let script = data_of c.args.script.now in
    record {
      actors = c.in_ok-add_session.ensures.added ∙ next_added script (first_seat Clock ∷ first_seat Janitor ∷ seats_of (λ n. Node n) script.setup.nodes) (λ s. Session s) c.loop-session.session c.loop-session.actors.items c.loop-session.invariant.actors;
      few = omega (arith, c.in_ok-add_session.ensures.one);
    }
