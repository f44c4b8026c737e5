-- For replay_driver, run_board and split_driver too.
-- The lines of a script that was read name actors and nodes of the system.
use Rattle.std.proofs.Common.{◌≡◌, ℕ, suc, ◌+◌, ◌<◌, ◌≤◌, List, [], ◌∷◌, length, get_or, All, arith, subst}
use borrow.Author.Count.{below_more}
use Rattle.std.proofs.lemmas.List.{get_or_read}
use Rattle.std.proofs.lemmas.List.Elements.{All-head, All-tail}
use Rattle.stamp_base.specs.SetupNumbers.{SetupNumbers}
use Rattle.history_book.specs.declared.item.Actor.{Actor}
use Rattle.history_book.specs.declared.item.Actor.TheVariants.{Node, Session}
use Rattle.script_data.specs.declared.line.Line.{Line}
use Rattle.script_data.specs.declared.line.Target.TheVariants as targets
use Rattle.script_data.specs.declared.line.Verb.{Verb}
use Rattle.script_data.specs.declared.line.Verb.TheVariants as verbs
use Rattle.script_data.specs.Sound.{LineIsSound, actor_needs, verb_needs}
use Rattle.command_semantics.specs.Laws.{ActorFits, VerbFits, AreLinesOf}
use Rattle.planned_cluster.specs.Fitting.{SessionIsThere}

-- sessions of all lines are there
abbrev pub SessionsAreThere : ℕ → List Line → Type 0
SessionsAreThere count lines = (k : ℕ) (d : Line) → k < count → k < length lines → SessionIsThere (get_or lines k d).actor

pub one_more_there : (count : ℕ) (lines : List Line) (line : Line) → count < length lines → line ≡ get_or lines count line → SessionsAreThere count lines → SessionIsThere line.actor → SessionsAreThere (count + 1) lines
one_more_there count lines line within is there now = λ k d below here.
    below_more (λ (n : ℕ). (e : Line) → n < length lines → SessionIsThere (get_or lines n e).actor) count (λ n less e short. there n e less short) (λ e short. subst (λ (x : Line). SessionIsThere x.actor) (get_or_read lines count line within is e) now) k below d here

actor_fits : (setup : SetupNumbers) (actor : Actor) → actor_needs actor ≤ setup.nodes → SessionIsThere actor → ActorFits setup actor
actor_fits setup (Node node) needs there = omega (arith, needs)
actor_fits setup (Session session) needs there = there
actor_fits setup actor needs there = tt

verb_fits : (setup : SetupNumbers) (verb : Verb) → verb_needs verb ≤ setup.nodes → VerbFits setup verb
verb_fits setup (verbs.Begin (targets.Node node)) needs = omega (arith, needs)
verb_fits setup (verbs.Commit (targets.Node node)) needs = omega (arith, needs)
verb_fits setup (verbs.Submit (targets.Node node)) needs = omega (arith, needs)
verb_fits setup (verbs.Begin targets.Master) needs = tt
verb_fits setup (verbs.Commit targets.Master) needs = tt
verb_fits setup (verbs.Submit targets.Master) needs = tt
verb_fits setup (verbs.AskBegin node) needs = omega (arith, needs)
verb_fits setup (verbs.AskCommit node) needs = omega (arith, needs)
verb_fits setup verb needs = tt

pub lines_fit : (setup : SetupNumbers) (lines : List Line) → All (LineIsSound setup.nodes) lines → SessionsAreThere (length lines) lines → AreLinesOf setup lines
unfolding AreLinesOf
lines_fit setup [] sound there = tt
lines_fit setup (line ∷ lines) sound there =
    let first : LineIsSound setup.nodes line = All-head (LineIsSound setup.nodes) line lines sound in
    (actor_fits setup line.actor first.actor (there 0 line (omega arith) (omega arith)), verb_fits setup line.verb first.verb.needs, lines_fit setup lines (All-tail (LineIsSound setup.nodes) line lines sound) (λ k d within here. there (suc k) d (omega (arith, within)) (omega (arith, here))))
