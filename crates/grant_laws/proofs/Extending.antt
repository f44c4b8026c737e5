use Rattle.grant_laws.proofs.Names.{◌≡◌, ◌≢◌, ℕ, ◌+◌, ◌<◌, ◌≤◌, ◌^◌, Bool, true, false, List, [], ◌∷◌, ◌++◌, length}
use Rattle.grant_laws.proofs.Names.{Option, Some, None, ◌⊎◌, inl, inr, refl, ◌∙◌, ap, arith, cases_eq, set-set, Store}
use Rattle.grant_laws.proofs.Names.{Master, Works, SetupNumbers, Session, Item, MasterRecord, extended, Free, Held}
use Rattle.grant_laws.proofs.Names.{Place, Request, InstanceEntry, held_of, with_request, instance_widened}
use Rattle.grant_laws.proofs.Names.{held_of-with_request_same, State, Effect, Stop, Refuses, place_held, Event, Step}
use Rattle.grant_laws.proofs.Names.{step_by, with_post, at_post, asks, asks_at_post, decide_on, both_verdict, extend_on}
use Rattle.grant_laws.proofs.Names.{extend_asks, rules_of, Line, Verb, ScriptData, Drives, Extends, halt_of, follows}
use Rattle.grant_laws.proofs.Names.{is_served, extend_next, Calls, Played, fate_by, fate_of, step_of, calls_after}
use Rattle.grant_laws.proofs.Names.{one_more, played, next_in, line_of}
use Rattle.history_book.specs.declared.cause.Cause.TheVariants as cause
use Rattle.history_book.specs.declared.item.Item.TheVariants as item
use Rattle.machine.specs.declared.event.Event.TheVariants as event
use Rattle.grant_laws.proofs.LongerRuns.{longer_still, Leads, leads_on, leads_to, run_at}
use Rattle.grant_laws.proofs.Spots.{Spot, IsAt, Makes, leads_there, holder_is, serves_on}
use Rattle.grant_laws.proofs.Effects.{waiting, lacks, widens, with_stamp}
use Rattle.grant_laws.proofs.Serving.{with_both, on_request_made, Drew, draw_now}

-- what the instance needs to draw a stamp for one more request
pub record CanDraw (script : ScriptData) (s : ℕ) (x : Spot) : Type 0 where
  pub within : s < length x.oracle.requests
  pub in_term : x.oracle.term ≡ x.master.term
  pub goes_on : x.oracle.stop ≡ None
  pub last : x.oracle.last ≤ x.oracle.ceiling
  pub covered : x.oracle.ceiling ≤ x.master.ceiling
  pub range : 1 ≤ script.setup.range
  pub more : (x.oracle.last < x.oracle.ceiling) ⊎ ((x.master.ceiling + script.setup.range ≤ 2 ^ 62) × (fate_by script x.calls (Some Master) ≡ Works))

-- ---- no stamp is left
abbrev told_so : Spot → ℕ → Request → Spot
told_so x s request = with_both x (with_request x.oracle s (Some (waiting request true))) x.client (item.Refused (Session s) (cause.NoStamp x.oracle.last) ∷ [])

lacks_made : (script : ScriptData) (node s : ℕ) (p : Played) (x : Spot) (request : Request) → IsAt script node s p x → held_of x.oracle s ≡ Some (waiting request false) → both_verdict x.oracle.buckets x.client.reads request ≡ Free → x.oracle.last ≡ x.oracle.ceiling → x.oracle.stop ≡ None → Makes script node s p (event.Decide node s) (told_so x s request) (Some (Refuses (cause.NoStamp x.oracle.last)))
lacks_made script node s p x request k has no_conflict spent goes_on = on_request_made script node s p.state.seen p x (event.Decide node s) (decide_on node s) (with_request x.oracle s (Some (waiting request true))) x.client (item.Refused (Session s) (cause.NoStamp x.oracle.last) ∷ []) (Some (Refuses (cause.NoStamp x.oracle.last))) k refl (lacks node s x.oracle x.client request has no_conflict spent goes_on) refl refl

-- ---- the extension
abbrev widened : ScriptData → Spot → ℕ → Spot
widened script x node = record x {
  oracle = instance_widened x.oracle (x.master.ceiling + script.setup.range);
  master = extended (rules_of script.setup) x.master x.oracle.term;
  calls = one_more x.calls Master;
  items = x.items ++ item.Extend node x.oracle.term (x.master.ceiling + script.setup.range) ∷ [];
}

extend_made : (script : ScriptData) (node s : ℕ) (p : Played) (x : Spot) → IsAt script node s p x → x.oracle.term ≡ x.master.term → x.master.ceiling + script.setup.range ≤ 2 ^ 62 → fate_by script x.calls (Some Master) ≡ Works → Makes script node s p (event.Extend node) (widened script x node) None
extend_made script node s p x k in_term stamps works =
    let w : State = p.state in
    let e : Event = event.Extend node in
    let wide : InstanceEntry = instance_widened x.oracle (x.master.ceiling + script.setup.range) in
    let master : MasterRecord = extended (rules_of script.setup) x.master x.oracle.term in
    let items : List Item = item.Extend node x.oracle.term (x.master.ceiling + script.setup.range) ∷ [] in
    let asked : asks w e ≡ Some Master = ap (λ (found : Option (Option InstanceEntry)). asks_at_post found extend_asks) k.node_has in
    let fate : fate_of script p e ≡ Works = ap (λ (store : Option Store). fate_by script p.calls store) asked ∙ ap (λ (calls : Calls). fate_by script calls (Some Master)) k.calls ∙ works in
    let puts : Effect (Option InstanceEntry × MasterRecord) → Step = λ (it : Effect (Option InstanceEntry × MasterRecord)). step_by it (λ (q : Option InstanceEntry × MasterRecord). record (with_post w node q.0) { master = q.1 }) in
    let f : SetupNumbers → MasterRecord → Option InstanceEntry → Step = λ setup r post. puts (extend_on setup node (fate_of script p e) post r) in
    record {
      step = puts (record { parts = (Some wide, master); items = items; stop = None });
      is =
          ap (λ (found : Option (Option InstanceEntry)). at_post w found (f w.setup w.master)) k.node_has
          ∙ ap (λ (setup : SetupNumbers). f setup w.master (Some x.oracle)) k.setup
          ∙ ap (λ (r : MasterRecord). f script.setup r (Some x.oracle)) k.master
          ∙ ap puts (widens script.setup node (fate_of script p e) x.oracle x.master in_term stamps fate);
      nodes = refl;
      client = k.session_is;
      pairs = k.pairs;
      master = refl;
      setup = refl;
      clock = k.clock;
      calls = ap (λ (store : Option Store). calls_after p.calls store) asked ∙ ap (λ (calls : Calls). one_more calls Master) k.calls;
      items = ap (λ (h : List Item). h ++ items) k.items;
      stops = refl;
    }

-- a request that waits for a stamp has its node extend the range
extends_next : (script : ScriptData) (number node s : ℕ) (verb : Verb) (p : Played) (x : Spot) (request : Request) (told : Bool) → IsAt script node s p x → held_of x.oracle s ≡ Some (waiting request told) → next_in script (line_of number (Session s) verb) (run_at Extends p) ≡ Some (event.Extend node)
extends_next script number node s verb p x request told k has = ap (λ (found : Option (ℕ × Held)). extend_next (place_held found)) (holder_is script node s p x (waiting request told) k has)

draw_later : (script : ScriptData) (number node s : ℕ) (verb : Verb) (p : Played) (x : Spot) (request : Request) → ((at : Place) → is_served verb at ≡ true) → IsAt script node s p x → held_of x.oracle s ≡ Some (waiting request false) → both_verdict x.oracle.buckets x.client.reads request ≡ Free → CanDraw script s x → x.oracle.last ≡ x.oracle.ceiling → x.master.ceiling + script.setup.range ≤ 2 ^ 62 → fate_by script x.calls (Some Master) ≡ Works → Drew script (line_of number (Session s) verb) node s 3 p x request
draw_later script number node s verb p x request to_answer k has no_conflict can spent stamps works =
    let line : Line = line_of number (Session s) verb in
    let told : Spot = told_so x s request in
    let stop : Option Stop = Some (Refuses (cause.NoStamp x.oracle.last)) in
    let lacking : Makes script node s p (event.Decide node s) told stop = lacks_made script node s p x request k has no_conflict spent can.goes_on in
    let p_told : Played = played script p (event.Decide node s) in
    let k_told : IsAt script node s p_told told = leads_there script node s p x (event.Decide node s) told stop k lacking in
    let has_told : held_of told.oracle s ≡ Some (waiting request true) = held_of-with_request_same x.oracle s (Some (waiting request true)) can.within in
    let first : Leads script line 1 (run_at Drives p) (run_at Extends p_told) = serves_on script number node s verb p x told (waiting request false) stop Extends to_answer k has lacking refl in
    let wide : Spot = widened script told node in
    let extending : Makes script node s p_told (event.Extend node) wide None = extend_made script node s p_told told k_told can.in_term stamps works in
    let p_wide : Played = played script p_told (event.Extend node) in
    let k_wide : IsAt script node s p_wide wide = leads_there script node s p_told told (event.Extend node) wide None k_told extending in
    let stops : (step_of script p_told (event.Extend node)).stop ≡ None = ap (λ (step : Step). step.stop) extending.is ∙ extending.stops in
    let second : Leads script line 1 (run_at Extends p_told) (run_at Drives p_wide) = leads_to script line Extends Drives p_told (event.Extend node) (extends_next script number node s verb p_told told request true k_told has_told) (ap (λ (how : Option Stop). follows verb Extends (halt_of how)) stops) in
    let more : wide.oracle.last ≢ wide.oracle.ceiling = λ same. absurd (omega (arith, same, can.last, can.covered, can.range)) in
    let drew : Drew script line node s 1 p_wide wide request = draw_now script number node s verb p_wide wide request true to_answer k_wide has_told no_conflict more in
    record {
      steps = 2 + drew.steps;
      few = omega (arith, drew.few);
      next = drew.next;
      spot = drew.spot;
      told = drew.told;
      leads = leads_on script line 1 (1 + drew.steps) (2 + drew.steps) (run_at Drives p) (run_at Extends p_told) (run_at Drives drew.next) (omega arith) first (leads_on script line 1 drew.steps (1 + drew.steps) (run_at Extends p_told) (run_at Drives p_wide) (run_at Drives drew.next) (omega arith) second drew.leads);
      at = drew.at;
      requests = drew.requests ∙ set-set x.oracle.requests s (Some (waiting request true)) (Some (with_stamp x.oracle.direct request drew.told (x.oracle.last + 1)));
      client = drew.client;
      pairs = drew.pairs;
      table = drew.table;
      longer = longer_still x.items told.items drew.spot.items (record { added = item.Refused (Session s) (cause.NoStamp x.oracle.last) ∷ []; is = refl }) (longer_still told.items wide.items drew.spot.items (record { added = item.Extend node x.oracle.term (x.master.ceiling + script.setup.range) ∷ []; is = refl }) drew.longer);
    }

more_steps : (script : ScriptData) (line : Line) (node s : ℕ) (p : Played) (x : Spot) (request : Request) → Drew script line node s 1 p x request → Drew script line node s 3 p x request
more_steps script line node s p x request drew = record { steps = drew.steps; few = omega (arith, drew.few); next = drew.next; spot = drew.spot; told = drew.told; leads = drew.leads; at = drew.at; requests = drew.requests; client = drew.client; pairs = drew.pairs; table = drew.table; longer = drew.longer }

stamp_by : (script : ScriptData) (number node s : ℕ) (verb : Verb) (p : Played) (x : Spot) (request : Request) → ((at : Place) → is_served verb at ≡ true) → IsAt script node s p x → held_of x.oracle s ≡ Some (waiting request false) → both_verdict x.oracle.buckets x.client.reads request ≡ Free → CanDraw script s x → (x.oracle.last ≡ x.oracle.ceiling) ⊎ (x.oracle.last ≢ x.oracle.ceiling) → (x.oracle.last < x.oracle.ceiling) ⊎ ((x.master.ceiling + script.setup.range ≤ 2 ^ 62) × (fate_by script x.calls (Some Master) ≡ Works)) → Drew script (line_of number (Session s) verb) node s 3 p x request
stamp_by script number node s verb p x request to_answer k has no_conflict can (inl spent) (inl left) = absurd (omega (arith, spent, left))
stamp_by script number node s verb p x request to_answer k has no_conflict can (inl spent) (inr wider) = draw_later script number node s verb p x request to_answer k has no_conflict can spent wider.0 wider.1
stamp_by script number node s verb p x request to_answer k has no_conflict can (inr more) left = more_steps script (line_of number (Session s) verb) node s p x request (draw_now script number node s verb p x request false to_answer k has no_conflict more)

pub gets_stamp : (script : ScriptData) (number node s : ℕ) (verb : Verb) (p : Played) (x : Spot) (request : Request) → ((at : Place) → is_served verb at ≡ true) → IsAt script node s p x → held_of x.oracle s ≡ Some (waiting request false) → both_verdict x.oracle.buckets x.client.reads request ≡ Free → CanDraw script s x → Drew script (line_of number (Session s) verb) node s 3 p x request
gets_stamp script number node s verb p x request to_answer k has no_conflict can = stamp_by script number node s verb p x request to_answer k has no_conflict can (cases_eq x.oracle.last x.oracle.ceiling) can.more
