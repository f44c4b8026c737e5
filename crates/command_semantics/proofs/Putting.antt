-- A put lowers what is left, whether it is made, finds a mark or fails.
use Rattle.command_semantics.proofs.Names.{◌≡◌, ℕ, ◌+◌, ◌<◌, List, Option, Some, None, refl, sym, ◌∙◌, ap, subst, arith}
use Rattle.command_semantics.proofs.Names.{Fate, Item, Held, Progress, Request, Commit, InstanceEntry, held_of}
use Rattle.command_semantics.proofs.Names.{with_request, unsettled_by, State, Effect, Step, step_by, with_post, stepped}
use Rattle.command_semantics.proofs.Names.{Verb, InstanceAt, client_ends, drive_left, Works, FailsUnchanged}
use Rattle.command_semantics.proofs.Names.{FailsApplied, fated, Mark, CommittedMark, Pairs, mark_of, put_pair, Settled}
use Rattle.command_semantics.proofs.Names.{moved, settle_if_drawn, settle_held, instance_settle}
use Rattle.command_semantics.proofs.Names.{put_by}
use Rattle.system_parts.specs.declared.instance.Place.TheVariants as place
use Rattle.system_parts.specs.declared.instance.Progress.TheVariants as progress
use Rattle.machine.specs.declared.event.Event.TheVariants as event
use Rattle.system_parts.specs.declared.instance.Settled.TheVariants as how
use Rattle.command_semantics.proofs.Serving.{Lowers, Serving, left_to_drive, goes_on}

-- the step as an effect on the node and the commit table
abbrev table_step : State → ℕ → Effect (Option InstanceEntry × Pairs) → Step
table_step w node effect = step_by effect (λ (p : Option InstanceEntry × Pairs). record (with_post w node p.0) { pairs = p.1 })

-- a commit that was drawn is held
pub record AtDraw (held : Held) : Type 0 where
  pub session : ℕ
  pub start : ℕ
  pub commit : ℕ
  pub keys : List ℕ
  pub request : held.request ≡ Commit session start keys
  pub progress : held.progress ≡ progress.Drawn commit

put_is : (w : State) (node s : ℕ) (fate : Fate) (i : InstanceEntry) (held : Held) (at : AtDraw held) → InstanceAt w.nodes node i → held_of i s ≡ Some held → stepped w (event.Put node s) fate ≡ table_step w node (put_by node s at.start at.commit fate (mark_of w.pairs at.start) i (fated fate w.pairs (put_pair w.pairs at.start (CommittedMark at.commit))))
put_is w node s fate i held at node_at has = grind arith

settles : (s : ℕ) (by : Settled) (i : InstanceEntry) (held : Held) (at : AtDraw held) → held_of i s ≡ Some held → (instance_settle i s by).left ≡ moved i s held (progress.Settled at.commit by)
settles s by i held at has =
    ap (λ (found : Option Held). (settle_held i s by found).left) has
    ∙ ap (λ (request : Request). (settle_if_drawn i s by held (unsettled_by request held.progress)).left) at.request
    ∙ ap (λ (p : Progress). (settle_if_drawn i s by held (unsettled_by (Commit at.session at.start at.keys) p)).left) at.progress

-- the commit is settled, in each of the ways
settled : (w : State) (h : List Item) (node s : ℕ) (k : Serving w h s (node, place.Drawn)) (at : AtDraw k.served.held) (by : Settled) (pairs : Pairs) → drive_left (record (with_post w node (Some (instance_settle k.served.holder.i s by).left)) { pairs = pairs }) s < drive_left w s
settled w h node s k at by pairs =
    let i : InstanceEntry = k.served.holder.i in
    let held : Held = k.served.held in
    let now : InstanceEntry = (instance_settle i s by).left in
    let left : State = record (with_post w node (Some now)) { pairs = pairs } in
    let full : drive_left w s ≡ 2 + client_ends k.c = left_to_drive w h s (node, place.Drawn) k in
    let less : 1 + client_ends k.c < drive_left w s = omega (arith, full) in
    let requests : now.requests ≡ (with_request i s (Some (record held { progress = progress.Settled at.commit by }))).requests = ap (λ (x : InstanceEntry). x.requests) (settles s by i held at k.served.holder.has) in
    goes_on w left h s (node, place.Drawn) k i now (record held { progress = progress.Settled at.commit by }) refl k.client_at requests less

put_any : (w : State) (h : List Item) (node s : ℕ) (verb : Verb) (k : Serving w h s (node, place.Drawn)) (at : AtDraw k.served.held) (fate : Fate) (found : Option Mark) (pairs : Pairs) → Lowers w s verb (table_step w node (put_by node s at.start at.commit fate found k.served.holder.i pairs))
put_any w h node s verb k at Works None pairs = settled w h node s k at how.Placed pairs
put_any w h node s verb k at Works (Some mark) pairs = settled w h node s k at how.Invalid pairs
put_any w h node s verb k at FailsUnchanged found pairs = settled w h node s k at how.Faulted pairs
put_any w h node s verb k at FailsApplied found pairs = settled w h node s k at how.Faulted pairs

pub put_lowers : (w : State) (h : List Item) (node s : ℕ) (fate : Fate) (verb : Verb) (k : Serving w h s (node, place.Drawn)) → AtDraw k.served.held → Lowers w s verb (stepped w (event.Put node s) fate)
put_lowers w h node s fate verb k at =
    subst (λ (step : Step). Lowers w s verb step) (sym (put_is w node s fate k.served.holder.i k.served.held at k.served.holder.at k.served.holder.has)) (put_any w h node s verb k at fate (mark_of w.pairs at.start) (fated fate w.pairs (put_pair w.pairs at.start (CommittedMark at.commit))))
