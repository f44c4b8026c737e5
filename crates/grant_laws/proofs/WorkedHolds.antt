-- A script whose commit is drawn, while its node holds the persist stage: no turn can be made.
use Rattle.grant_laws.proofs.Names.{◌≡◌, ◌≢◌, ℕ, zero, suc, Bool, true, false, Option, Some, None, inl, refl, arith}
use Rattle.grant_laws.proofs.Names.{sym, ◌∙◌, ap, slice_index_or, same_Some, none-some, planned_fate, put_row, Held}
use Rattle.grant_laws.proofs.Names.{Place, record_pairs, kept_commit, verdict, least_unsettled, first_holder}
use Rattle.grant_laws.proofs.Names.{holder_from, place_held, seats_of, passed, Carried, is_held, holds_at, event_of}
use Rattle.grant_laws.proofs.Names.{carried, session_view, answered_from, IsLawful, IsStuck, StandsBefore}
use Rattle.std.specs.Prelude.{replicate}
use Rattle.stamp_base.specs.declared.stage.Stage.TheVariants.{Persist}
use Rattle.system_parts.specs.declared.instance.Place.TheVariants as place
use Rattle.turn_rules.specs.declared.turn.Turn.TheVariants as turn
use Rattle.grant_laws.specs.WorkedRuns as runs
use Rattle.grant_laws.proofs.WorkedWaits.{Quiet, found_quiet, none_told, some_item}

abbrev held : Carried
held = carried runs.holding runs.held_turns

-- ---- own turns
all_quiet : (aim : ℕ) → Quiet runs.holding held aim held.seats
unfolding seats_of passed holder_from planned_fate record_pairs least_unsettled kept_commit verdict put_row Quiet
all_quiet aim = (refl, (refl, (refl, (refl, (refl, (refl, (refl, (refl, (refl, (refl, (refl, (refl, (refl, (refl, (refl, (refl, (refl, (refl, (refl, (refl, tt))))))))))))))))))))

-- ---- turns of stages
-- the commit of the first session stands before its put, and no other has a request
at_put : (session_view held.played.state 0).request ≡ Some (0, place.Drawn)
unfolding seats_of passed holder_from planned_fate record_pairs least_unsettled kept_commit verdict put_row
at_put = refl

is_commit : (session_view held.played.state 0).commit ≡ true
unfolding seats_of passed holder_from planned_fate record_pairs least_unsettled kept_commit verdict put_row
is_commit = refl

abbrev no_request : Option Held
no_request = None

nothing_in : (many n : ℕ) → slice_index_or (replicate many no_request) n None ≡ None
nothing_in zero n = refl
nothing_in (suc many) zero = refl
nothing_in (suc many) (suc n) = nothing_in many n

other_none : (s : ℕ) → (session_view held.played.state (suc s)).request ≡ None
unfolding seats_of passed holder_from planned_fate record_pairs least_unsettled kept_commit verdict put_row
other_none s = ap (λ (found : Option Held). place_held (first_holder 0 found None)) (nothing_in 15 s)

-- so a request that stands anywhere else is none
elsewhere : (s node : ℕ) (at : Place) → at ≢ place.Drawn → (session_view held.played.state s).request ≡ Some (node, at) → ⊥
elsewhere zero node at other is = other (sym (ap (λ (p : ℕ × Place). p.1) (same_Some (0, place.Drawn) (node, at) (sym at_put ∙ is))))
elsewhere (suc s) node at other is = none-some (node, at) (sym (other_none s) ∙ is)

-- its put is held
holds_now : is_held (holds_at held.held 0) Persist ≡ true
unfolding seats_of passed holder_from planned_fate record_pairs least_unsettled kept_commit verdict put_row
holds_now = refl

put_held : (s node : ℕ) → is_held (holds_at held.held node) Persist ≡ false → (session_view held.played.state s).request ≡ Some (node, place.Drawn) → ⊥
put_held zero node free is =
    let same : 0 ≡ node = ap (λ (p : ℕ × Place). p.0) (same_Some (0, place.Drawn) (node, place.Drawn) (sym at_put ∙ is)) in
    let clash : true ≡ false = sym holds_now ∙ ap (λ (n : ℕ). is_held (holds_at held.held n) Persist) same ∙ free in
    cc
put_held (suc s) node free is = none-some (node, place.Drawn) (sym (other_none s) ∙ is)

-- an answer is not due before that
not_answered : (s node : ℕ) → (session_view held.played.state s).request ≡ Some (node, answered_from (session_view held.played.state s).commit) → ⊥
not_answered zero node is = elsewhere zero node place.Settled (λ same. cc) (is ∙ ap (λ (commit : Bool). Some (node, answered_from commit)) is_commit)
not_answered (suc s) node is = none-some (node, answered_from (session_view held.played.state (suc s)).commit) (sym (other_none s) ∙ is)

some_left : (last ceiling : ℕ) → last ≡ 2 → ceiling ≡ 100 → last ≡ ceiling → ⊥
some_left last ceiling two hundred spent = omega (arith, two, hundred, spent)

none_extends : (node : ℕ) → IsLawful runs.holding held (turn.Extend node) → ⊥
unfolding seats_of passed holder_from planned_fate record_pairs least_unsettled kept_commit verdict put_row
none_extends zero k = some_left _ _ refl refl k.in_place.0
none_extends (suc zero) k = k.in_place
none_extends (suc (suc node)) k = k.in_place

pub held_stuck : IsStuck runs.holding runs.held_turns
held_stuck (turn.Own actor aim) k = none_told runs.holding held (event_of runs.holding held (turn.Own actor aim)) (found_quiet runs.holding held aim actor held.seats (all_quiet aim)) k.told
held_stuck (turn.Accept node s) k = elsewhere s node place.Asked (λ same. cc) k.in_place
held_stuck (turn.Decide node s) k = elsewhere s node place.Accepted (λ same. cc) k.in_place
held_stuck (turn.Put node s) k = put_held s node k.free k.in_place.0
held_stuck (turn.Answer node s) k = not_answered s node k.in_place
held_stuck (turn.Extend node) k = none_extends node k

-- ---- what it waits for, and that it goes on before the hold
pub stands_held : StandsBefore held 0
unfolding seats_of passed holder_from planned_fate record_pairs least_unsettled kept_commit verdict put_row
stands_held = record { node = 0; at = place.Drawn; request = refl; held = inl refl }

pub put_lawful : IsLawful runs.holding (carried runs.holding runs.drawn_turns) (turn.Put 0 0)
unfolding seats_of passed holder_from planned_fate record_pairs least_unsettled kept_commit verdict put_row
put_lawful = record { free = refl; in_place = (refl, refl); told = λ none. some_item _ none }
