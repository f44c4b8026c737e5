-- A begin line whose premises hold has its begin, or is told to wait for a commit that is not settled.
use Rattle.grant_laws.proofs.Names.{◌≡◌, ℕ, zero, suc, ◌+◌, ◌<◌, Bool, false, cond, List, [], ◌∷◌, ◌++◌, length, Option}
use Rattle.grant_laws.proofs.Names.{Some, None, inr, refl, sym, ◌∙◌, ap, arith, slice_set, slice_index_or, MatchOption}
use Rattle.grant_laws.proofs.Names.{set-set, length-set, Held, answer_on, line_run, Played, step_of, played, opened}
use Rattle.grant_laws.proofs.Names.{Run, run_after, lt-ltb, Session, Item, Progress, Request, Begin, InstanceEntry}
use Rattle.grant_laws.proofs.Names.{held_of, unsettled_commit, only_below, lesser, least_unsettled, just_asked}
use Rattle.grant_laws.proofs.Names.{accept_refusal, held_of-with_request_same, Client, client_asked, Stop, Step, Event}
use Rattle.grant_laws.proofs.Names.{ask_begin_on, Line, Verb, ScriptData, Opens, Drives, halt_of, follows}
use Rattle.grant_laws.proofs.Names.{EventsLowerWhatIsLeft, line_of, IsBefore, reading_of, node_asked, Appends, Grants}
use Rattle.grant_laws.proofs.Names.{BeginsAreGranted, on_both}
use Rattle.history_book.specs.declared.cause.Cause.TheVariants as cause
use Rattle.history_book.specs.declared.item.Item.TheVariants as item
use Rattle.machine.specs.declared.event.Event.TheVariants as event
use Rattle.script_data.specs.declared.line.Verb.TheVariants as verb
use Rattle.grant_laws.proofs.LongerRuns.{Longer, longer_still, in_one, appended_before, Leads, leads_on, leads_one, leads_to, line_appends, run_at}
use Rattle.grant_laws.proofs.Before.{Known, known_before, granted}
use Rattle.grant_laws.proofs.Facts.{first_spot, is_first, has_place, can_draw}
use Rattle.grant_laws.proofs.Spots.{Spot, IsAt, Makes, leads_there, serves_next, none_held}
use Rattle.grant_laws.proofs.Effects.{begin_drawn, asked_of, begin_taken, with_stamp, begin_items, begin_answered}
use Rattle.grant_laws.proofs.Serving.{with_both, on_ask_made, Drew}
use Rattle.grant_laws.proofs.Extending.{CanDraw}
use Rattle.grant_laws.proofs.Asked.{asked_is_drawn, holds_stamp}

-- a request that is no drawn commit leaves what is the least unsettled commit
same_least : (requests : List (Option Held)) (s start : ℕ) (now : Held) → slice_index_or requests s None ≡ None → unsettled_commit (Some now) ≡ None → least_unsettled (slice_set requests s (Some now)) start ≡ least_unsettled requests start
unfolding least_unsettled
same_least [] s start now none settled = refl
same_least (x ∷ xs) zero start now none settled =
    ap (λ (commit : Option ℕ). lesser (only_below start commit) (least_unsettled xs start)) settled
    ∙ sym (ap (λ (held : Option Held). lesser (only_below start (unsettled_commit held)) (least_unsettled xs start)) none)
same_least (x ∷ xs) (suc s) start now none settled = ap (λ (later : Option ℕ). lesser (only_below start (unsettled_commit x)) later) (same_least xs s start now none settled)

-- an instance whose lease stands accepts a begin
begin_accepted : (i : InstanceEntry) (reading s : ℕ) → reading < i.until → accept_refusal i reading (Begin s) ≡ None
begin_accepted i reading s leased = ap (λ (stands : Bool). cond stands None (Some (cause.Expired reading i.until))) (lt-ltb reading i.until leased)

-- by whether a commit is not settled
by_least : (script : ScriptData) (line : Line) (p : Played) (s start : ℕ) (least : Option ℕ) → IsBefore script line p → ((x : Item) → begin_items s start least ≡ x ∷ [] → Appends p.items (line_run script line p).played.items x) → MatchOption least (Grants script line p (item.Begin s start)) (λ commit. Grants script line p (item.Refused (Session s) (cause.NotYet commit)))
by_least script line p s start None before appends = granted script line p (item.Begin s start) before (appends (item.Begin s start) refl)
by_least script line p s start (Some commit) before appends = granted script line p (item.Refused (Session s) (cause.NotYet commit)) before (appends (item.Refused (Session s) (cause.NotYet commit)) refl)

pub begins_are_granted : EventsLowerWhatIsLeft → BeginsAreGranted
begins_are_granted lowers script p number s to before can =
    let node : ℕ = node_asked script p to in
    let v : Verb = verb.Begin to in
    let line : Line = line_of number (Session s) v in
    let i : InstanceEntry = can.serving.oracle in
    let c : Client = can.client in
    let request : Request = Begin s in
    let stamp : ℕ = i.last + 1 in
    let known : Known script p = known_before lowers script line p before in
    let x : Spot = first_spot p i c in
    let k : IsAt script node s p x = is_first script node s p i c known can.serving.node_has can.session_is (inr can.is_free) in
    let within : s < length i.requests = has_place script node s p i c known can.serving.node_has can.session_is in
    let e : Event = event.AskBegin s node in
    let items : List Item = item.AskBegin s node ∷ [] in
    let y : Spot = with_both x (asked_of i request) (client_asked c) items in
    let made : Makes script node s p e y None = on_ask_made script node s p x e (ask_begin_on s node) (asked_of i request) (client_asked c) items k refl (begin_taken s node c i can.is_free can.serving.slot) refl refl in
    let q : Played = played script p e in
    let there : IsAt script node s q y = leads_there script node s p x e y None k made in
    let stops : (step_of script p e).stop ≡ None = ap (λ (step : Step). step.stop) made.is ∙ made.stops in
    let first : Leads script line 1 (opened p) (run_at Drives q) = leads_to script line Opens Drives p e refl (ap (λ (how : Option Stop). follows v Opens (halt_of how)) stops) in
    let draw : CanDraw script s x = can_draw script node s p i c known can.serving.node_has can.session_is can.serving.in_term can.serving.goes_on can.serving.stamp in
    let within_now : s < length y.oracle.requests = omega (arith, within, length-set i.requests s (Some (just_asked request))) in
    let can_now : CanDraw script s y = record { within = within_now; in_term = draw.in_term; goes_on = draw.goes_on; last = draw.last; covered = draw.covered; range = draw.range; more = draw.more } in
    let has : held_of y.oracle s ≡ Some (just_asked request) = held_of-with_request_same i s (Some (just_asked request)) within in
    let drew : Drew script line node s 4 q y request = asked_is_drawn script number node s v q y request (λ at. refl) there has (begin_accepted i (reading_of script p node) s can.serving.leased) refl can_now in
    let d : Played = drew.next in
    let z : Spot = drew.spot in
    let now : Held = with_stamp false request drew.told stamp in
    let as_drawn : Progress → Held = λ (at : Progress). record now { progress = at } in
    let has_now : held_of z.oracle s ≡ Some now = holds_stamp script line node s 4 q y request drew within_now ∙ ap (λ (at : Progress). Some (as_drawn at)) (begin_drawn i.direct s stamp) in
    let last : Run = run_after script line (run_at Drives d) (event.Answer node s) in
    let answers : Leads script line 1 (run_at Drives d) last = leads_one script line (run_at Drives d) (event.Answer node s) (serves_next script number node s v d z now (λ at. refl) drew.at has_now) in
    let least : least_unsettled z.oracle.requests stamp ≡ least_unsettled i.requests stamp =
    ap (λ (requests : List (Option Held)). least_unsettled requests stamp) (drew.requests ∙ ap (λ (at : Progress). slice_set y.oracle.requests s (Some (as_drawn at))) (begin_drawn i.direct s stamp) ∙ set-set i.requests s (Some (just_asked request)) (Some now))
    ∙ same_least i.requests s stamp now (none_held p.state p.items s c known.reached.stands can.session_is (inr can.is_free) node i can.serving.node_has) refl in
    let tells : (step_of script d (event.Answer node s)).items ≡ begin_items s stamp (least_unsettled i.requests stamp) =
    ap (λ (step : Step). step.items) (on_both d.state node s z.oracle z.client (answer_on node s) drew.at.node_has drew.at.session_is)
    ∙ begin_answered node s stamp drew.told z.oracle z.client has_now
    ∙ ap (λ (commit : Option ℕ). begin_items s stamp commit) least in
    let to_draw : Leads script line (1 + drew.steps) (opened p) (run_at Drives d) = leads_on script line 1 drew.steps (1 + drew.steps) (opened p) (run_at Drives q) (run_at Drives d) refl first drew.leads in
    let all : Leads script line (2 + drew.steps) (opened p) last = leads_on script line (1 + drew.steps) 1 (2 + drew.steps) (opened p) (run_at Drives d) last (omega arith) to_draw answers in
    let so_far : Longer p.items z.items = longer_still p.items y.items z.items (record { added = items; is = refl }) drew.longer in
    let before_answer : Longer p.items d.items = record { added = so_far.added; is = drew.at.items ∙ so_far.is } in
    by_least script line p s stamp (least_unsettled i.requests stamp) before (λ x_item is. line_appends script line p (2 + drew.steps) last x_item (omega (arith, drew.few)) all (appended_before p.items d.items last.played.items x_item before_answer (record { added = x_item ∷ []; is = ap (λ (xs : List Item). d.items ++ xs) (tells ∙ is); has = in_one x_item })))
