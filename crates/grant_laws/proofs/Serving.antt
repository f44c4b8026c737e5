-- A request that was asked is accepted, and gets its stamp: at once, or after an extension of the range.
use Rattle.grant_laws.proofs.Names.{◌≡◌, ◌≢◌, ℕ, ◌+◌, ◌≤◌, Bool, true, List, [], ◌∷◌, ◌++◌, Option, Some, None, refl}
use Rattle.grant_laws.proofs.Names.{◌∙◌, ap, arith, slice_get, slice_set, Store, Session, Item, Free, Place, Request}
use Rattle.grant_laws.proofs.Names.{InstanceEntry, held_of, just_asked, moved, accept_refusal, decided_by, stamp_of}
use Rattle.grant_laws.proofs.Names.{Client, State, Effect, Stop, Event, Step, step_by, with_post, with_client}
use Rattle.grant_laws.proofs.Names.{with_reading, at_both, on_request, on_ask, asks, accept_on, draw_item, decide_on}
use Rattle.grant_laws.proofs.Names.{both_verdict, Line, Verb, ScriptData, set_found, Drives, is_served, Played, step_of}
use Rattle.grant_laws.proofs.Names.{calls_after, clock_after, played, node_step, on_both, line_of}
use Rattle.history_book.specs.declared.item.Item.TheVariants as item
use Rattle.system_parts.specs.declared.instance.Progress.TheVariants as progress
use Rattle.machine.specs.declared.event.Event.TheVariants as event
use Rattle.grant_laws.proofs.LongerRuns.{Longer, Leads, run_at}
use Rattle.grant_laws.proofs.Spots.{Spot, IsAt, Makes, leads_there, serves_on}
use Rattle.grant_laws.proofs.Effects.{accepted, waiting, drawn, draws, with_stamp}

-- ---- an event on the node and the client
-- what it leads to
abbrev pub with_both : Spot → InstanceEntry → Client → List Item → Spot
with_both x now c items = record x { oracle = now; client = c; items = x.items ++ items }

pub on_request_made : (script : ScriptData) (node s seen : ℕ) (p : Played) (x : Spot) (e : Event) (f : Option InstanceEntry → Client → Effect (Option InstanceEntry × Client)) (now : InstanceEntry) (c : Client) (items : List Item) (stop : Option Stop) → IsAt script node s p x → step_of script p e ≡ on_request (record p.state { seen = seen }) node s f → f (Some x.oracle) x.client ≡ record { parts = (Some now, c); items = items; stop = stop } → clock_after p.clock e ≡ p.clock → asks p.state e ≡ None → Makes script node s p e (with_both x now c items) stop
on_request_made script node s seen p x e f now c items stop k is effect clock asked =
    let u : State = record p.state { seen = seen } in
    let done : Effect (Option InstanceEntry × Client) = record { parts = (Some now, c); items = items; stop = stop } in
    record {
      step = node_step u node s done;
      is = is ∙ on_both u node s x.oracle x.client f k.node_has k.session_is ∙ ap (λ (it : Effect (Option InstanceEntry × Client)). node_step u node s it) effect;
      nodes = refl;
      client = set_found p.state.clients s c x.client k.session_is;
      pairs = k.pairs;
      master = k.master;
      setup = refl;
      clock = clock ∙ k.clock;
      calls = ap (λ (store : Option Store). calls_after p.calls store) asked ∙ k.calls;
      items = ap (λ (h : List Item). h ++ items) k.items;
      stops = refl;
    }

pub on_ask_made : (script : ScriptData) (node s : ℕ) (p : Played) (x : Spot) (e : Event) (f : Client → Option InstanceEntry → Effect (Client × Option InstanceEntry)) (now : InstanceEntry) (c : Client) (items : List Item) → IsAt script node s p x → step_of script p e ≡ on_ask p.state s node f → f x.client (Some x.oracle) ≡ record { parts = (c, Some now); items = items; stop = None } → clock_after p.clock e ≡ p.clock → asks p.state e ≡ None → Makes script node s p e (with_both x now c items) None
on_ask_made script node s p x e f now c items k is effect clock asked =
    let w : State = p.state in
    let puts : Effect (Client × Option InstanceEntry) → Step = λ (it : Effect (Client × Option InstanceEntry)). step_by it (λ (q : Client × Option InstanceEntry). with_client (with_post w node q.1) s q.0) in
    let g : Option InstanceEntry → Client → Step = λ post client. puts (f client post) in
    record {
      step = puts (record { parts = (c, Some now); items = items; stop = None });
      is = is ∙ ap (λ (found : Option (Option InstanceEntry)). at_both w found (slice_get w.clients s) g) k.node_has ∙ ap (λ (found : Option Client). at_both w (Some (Some x.oracle)) found g) k.session_is ∙ ap puts effect;
      nodes = refl;
      client = set_found w.clients s c x.client k.session_is;
      pairs = k.pairs;
      master = k.master;
      setup = refl;
      clock = clock ∙ k.clock;
      calls = ap (λ (store : Option Store). calls_after p.calls store) asked ∙ k.calls;
      items = ap (λ (h : List Item). h ++ items) k.items;
      stops = refl;
    }

-- ---- the acceptance
pub accept_made : (script : ScriptData) (node s reading : ℕ) (p : Played) (x : Spot) (request : Request) → IsAt script node s p x → held_of x.oracle s ≡ Some (just_asked request) → accept_refusal x.oracle reading request ≡ None → Makes script node s p (event.Accept node s reading) (with_both x (moved x.oracle s (just_asked request) progress.Accepted) x.client (item.Accept s node x.oracle.term reading ∷ [])) None
accept_made script node s reading p x request k has is_free = on_request_made script node s (with_reading p.state reading).seen p x (event.Accept node s reading) (accept_on node s reading) (moved x.oracle s (just_asked request) progress.Accepted) x.client (item.Accept s node x.oracle.term reading ∷ []) None k refl (accepted node s reading x.oracle x.client request has is_free) refl refl

-- ---- the decision
-- the request has its stamp
pub record Drew (script : ScriptData) (line : Line) (node s most : ℕ) (p : Played) (x : Spot) (request : Request) : Type 0 where
  pub steps : ℕ
  pub few : steps ≤ most
  pub next : Played
  pub spot : Spot
  pub told : Bool
  pub leads : Leads script line steps (run_at Drives p) (run_at Drives next)
  pub at : IsAt script node s next spot
  pub requests : spot.oracle.requests ≡ slice_set x.oracle.requests s (Some (with_stamp x.oracle.direct request told (x.oracle.last + 1)))
  pub client : spot.client ≡ x.client
  pub pairs : spot.pairs ≡ x.pairs
  pub table : spot.calls.table ≡ x.calls.table
  pub longer : Longer x.items spot.items

draw_made : (script : ScriptData) (node s : ℕ) (p : Played) (x : Spot) (request : Request) (told : Bool) → IsAt script node s p x → held_of x.oracle s ≡ Some (waiting request told) → both_verdict x.oracle.buckets x.client.reads request ≡ Free → x.oracle.last ≢ x.oracle.ceiling → Makes script node s p (event.Decide node s) (with_both x (drawn x.oracle s (waiting request told)) x.client (draw_item node x.oracle.term request (stamp_of (decided_by request (x.oracle.last + 1))) ∷ [])) None
draw_made script node s p x request told k has no_conflict more = on_request_made script node s p.state.seen p x (event.Decide node s) (decide_on node s) (drawn x.oracle s (waiting request told)) x.client (draw_item node x.oracle.term request (stamp_of (decided_by request (x.oracle.last + 1))) ∷ []) None k refl (draws node s x.oracle x.client request told has no_conflict more) refl refl

pub draw_now : (script : ScriptData) (number node s : ℕ) (verb : Verb) (p : Played) (x : Spot) (request : Request) (told : Bool) → ((at : Place) → is_served verb at ≡ true) → IsAt script node s p x → held_of x.oracle s ≡ Some (waiting request told) → both_verdict x.oracle.buckets x.client.reads request ≡ Free → x.oracle.last ≢ x.oracle.ceiling → Drew script (line_of number (Session s) verb) node s 1 p x request
draw_now script number node s verb p x request told to_answer k has no_conflict more =
    let items : List Item = draw_item node x.oracle.term request (stamp_of (decided_by request (x.oracle.last + 1))) ∷ [] in
    let y : Spot = with_both x (drawn x.oracle s (waiting request told)) x.client items in
    let made : Makes script node s p (event.Decide node s) y None = draw_made script node s p x request told k has no_conflict more in
    record {
      steps = 1;
      few = omega arith;
      next = played script p (event.Decide node s);
      spot = y;
      told = told;
      leads = serves_on script number node s verb p x y (waiting request told) None Drives to_answer k has made refl;
      at = leads_there script node s p x (event.Decide node s) y None k made;
      requests = refl;
      client = refl;
      pairs = refl;
      table = refl;
      longer = record { added = items; is = refl };
    }
