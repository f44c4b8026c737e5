-- For turn_rules, thread_scripts, log_refinement and others above too.
-- The history of a script answers its lines.
use Rattle.command_semantics.proofs.Names.{◌≡◌, ℕ, ◌+◌, ◌≤◌, ◌^◌, Bool, true, false, ◌&&◌, cond, List, [], ◌∷◌}
use Rattle.command_semantics.proofs.Names.{◌++◌, append_assoc, None, inl, refl, sym, subst, arith, filter}
use Rattle.command_semantics.proofs.Names.{append-nil, eqb_tells, Actor, Item}
use Rattle.command_semantics.proofs.Names.{facts_stay, Line, ScriptData, same_actor, has_opening, is_of, asks_last}
use Rattle.command_semantics.proofs.Names.{Answered, Played, left_in, opened, line_run, lines_played, opening_played}
use Rattle.command_semantics.proofs.Names.{script_played, tick_of, ticks_of, EventsLowerWhatIsLeft, IsPlayable}
use Rattle.command_semantics.proofs.Names.{IsReached, ActorFits, VerbFits, AreLinesOf, LinesAreAnswered}
use Rattle.command_semantics.proofs.AlwaysFit.{Fit, fit_stays, fit_at_first}
use Rattle.command_semantics.proofs.Ending.{Keeps, Going, Ended, line_ends, opening_reached}
use Rattle.command_semantics.proofs.Timing.{tick_ahead}
use Rattle.command_semantics.proofs.Takes.{TakesFit, takes_stay, takes_at_first}
use Rattle.command_semantics.proofs.Walks.{AllNot, walks_over, walks_line, walks_end}
use Rattle.command_semantics.proofs.LineWalks.{IsFit, run_keeps, Other, other_goes_on, Own, own_goes_on, own_ends}

-- ---- whether a line is one of the actor's
pub actor_same : (a b : Actor) → same_actor a b ≡ true → a ≡ b
actor_same a b is = grind (arith, eqb_tells)

pub same_itself : (a : Actor) → same_actor a a ≡ true
same_itself a = grind (arith, eqb_tells)

pub both_true : (a b : Bool) → a && b ≡ true → (a ≡ true) × (b ≡ true)
both_true a b is = grind arith

not_own : (actor : Actor) (line : Line) → is_of actor line ≡ false → has_opening line.actor line.verb ≡ true → line.actor ≡ actor → ⊥
not_own actor line is opening same = grind (arith, same_itself)

-- ---- one line
pub fit_kept : Keeps IsFit
fit_kept w h e fate (stands, fit, takes) steady = (facts_stay w h e fate stands steady, fit_stays w e fate fit, takes_stay w h e fate stands fit takes)

-- what was played has its parts, and the line is of the script
record AtLine (script : ScriptData) (line : Line) (p : Played) : Type 0 where
  pub reached : IsReached script p
  pub fit : Fit p.state
  pub takes : TakesFit p.state.setup.nodes p.items
  pub leads : (node : ℕ) → Rattle.std.specs.Prelude.slice_index_or script.leads node 0 ≤ script.setup.skew
  pub room : p.clock + tick_of line.verb + script.setup.skew ≤ 2 ^ 61
  pub in_range : ActorFits script.setup line.actor
  pub asks : VerbFits script.setup line.verb

going_first : (script : ScriptData) (line : Line) (p : Played) → AtLine script line p → Going IsFit script line (p.clock + tick_of line.verb) (opened p)
going_first script line p k = record { reached = k.reached; has = (k.reached.stands, k.fit, k.takes); leads = k.leads; ahead = omega arith; room = k.room }

line_ended : EventsLowerWhatIsLeft → (script : ScriptData) (line : Line) (p : Played) → AtLine script line p → Ended IsFit script line (p.clock + tick_of line.verb) (line_run script line p)
line_ended lowers script line p k = line_ends lowers IsFit script line p fit_kept k.reached (k.reached.stands, k.fit, k.takes) k.leads k.room

-- the items of a run, and that they take the walk of the actor to the rest
record LineWalk (actor : Actor) (line : Line) (p next : Played) : Type 0 where
  pub xs : List Item
  pub is : next.items ≡ p.items ++ xs
  pub walks : (lines : List Line) (ys : List Item) → Answered asks_last actor (p.items ++ xs) None lines ys → Answered asks_last actor p.items None (cond (is_of actor line) (line ∷ lines) lines) (xs ++ ys)

walk_other : (actor : Actor) (script : ScriptData) (line : Line) (p : Played) → AtLine script line p → is_of actor line ≡ false → LineWalk actor line p (line_run script line p).played
unfolding AllNot
walk_other actor script line p k none =
    let most : ℕ = p.clock + tick_of line.verb in
    let other : Other actor p.items (line_run script line p) = run_keeps IsFit script line most (Other actor p.items) fit_kept (other_goes_on actor script line most p.items k.in_range k.asks (not_own actor line none)) (left_in line (opened p)) (opened p) (going_first script line p k) (record { xs = []; is = sym (append-nil p.items); none = tt }) in
    grind (arith, walks_over)

walk_own : EventsLowerWhatIsLeft → (actor : Actor) (script : ScriptData) (line : Line) (p : Played) → AtLine script line p → is_of actor line ≡ true → LineWalk actor line p (line_run script line p).played
walk_own lowers actor script line p k is =
    let most : ℕ = p.clock + tick_of line.verb in
    let both : (same_actor line.actor actor ≡ true) × (has_opening line.actor line.verb ≡ true) = both_true (same_actor line.actor actor) (has_opening line.actor line.verb) is in
    let same : line.actor ≡ actor = actor_same line.actor actor both.0 in
    let own : Own line p.items (line_run script line p) = run_keeps IsFit script line most (Own line p.items) fit_kept (own_goes_on script line most p.items k.in_range k.asks both.1) (left_in line (opened p)) (opened p) (going_first script line p k) (record { xs = []; is = sym (append-nil p.items); so_far = inl (refl, refl) }) in
    grind (arith, own_ends, line_ended, walks_line)

walk_line : EventsLowerWhatIsLeft → (actor : Actor) (script : ScriptData) (line : Line) (p : Played) → AtLine script line p → (own : Bool) → is_of actor line ≡ own → LineWalk actor line p (line_run script line p).played
walk_line lowers actor script line p k true is = walk_own lowers actor script line p k is
walk_line lowers actor script line p k false is = walk_other actor script line p k is

-- ---- all lines
record LinesWalk (actor : Actor) (lines : List Line) (p next : Played) : Type 0 where
  pub xs : List Item
  pub is : next.items ≡ p.items ++ xs
  pub walks : Answered asks_last actor p.items None (filter (is_of actor) lines) xs

lines_walk : EventsLowerWhatIsLeft → (actor : Actor) (script : ScriptData) (lines : List Line) (p : Played) → IsReached script p → Fit p.state → TakesFit p.state.setup.nodes p.items → IsPlayable script p.clock lines → AreLinesOf script.setup lines → LinesWalk actor lines p (lines_played script lines p)
unfolding lines_played ticks_of AreLinesOf
lines_walk lowers actor script [] p reached fit takes playable of_script = record { xs = []; is = sym (append-nil p.items); walks = walks_end asks_last actor p.items }
lines_walk lowers actor script (line ∷ lines) p reached fit takes playable of_script =
    let tick : ℕ = tick_of line.verb in
    let rest : ℕ = ticks_of lines in
    let room : p.clock + (tick + rest) + script.setup.skew ≤ 2 ^ 61 = playable.ticks in
    let k : AtLine script line p = record { reached = reached; fit = fit; takes = takes; leads = playable.leads; room = omega (arith, room); in_range = of_script.0; asks = of_script.1 } in
    let ended : Ended IsFit script line (p.clock + tick) (line_run script line p) = line_ended lowers script line p k in
    let next : Played = (line_run script line p).played in
    let by_then : next.clock + tick_ahead (line_run script line p).point line.verb ≤ p.clock + tick = ended.going.ahead in
    let first : LineWalk actor line p next = walk_line lowers actor script line p k (is_of actor line) refl in
    grind (arith, lines_walk lowers actor script lines next, append_assoc)

pub lines_are_answered : EventsLowerWhatIsLeft → LinesAreAnswered
lines_are_answered lowers script in_range playable of_script actor =
    let k : LinesWalk actor script.lines (opening_played script) (script_played script) = lines_walk lowers actor script script.lines (opening_played script) (opening_reached script in_range) (fit_at_first script.setup) (takes_at_first script.setup in_range) playable of_script in
    subst (λ (h : List Item). Answered asks_last actor [] None (filter (is_of actor) script.lines) h) (sym k.is) k.walks
