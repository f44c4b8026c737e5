-- An answer lowers what is left, or tells a begin to wait, which ends the run.
use Rattle.command_semantics.proofs.Names.{◌≡◌, ℕ, ◌+◌, ◌<◌, List, Option, Some, None, refl, sym, subst, arith}
use Rattle.command_semantics.proofs.Names.{Fate, Item, Held, Progress, Request, Begin, Commit, InstanceEntry, held_of}
use Rattle.command_semantics.proofs.Names.{with_request, stamps_by, least_unsettled, Client, State}
use Rattle.command_semantics.proofs.Names.{Effect, Step, with_post, with_client, stepped, Verb, InstanceAt, ClientAt}
use Rattle.command_semantics.proofs.Names.{client_ends, drive_left, Reply, Settled, InstanceStep, answer_begin}
use Rattle.command_semantics.proofs.Names.{answer_if_ready, client_begun, client_handed, client_committed}
use Rattle.command_semantics.proofs.Names.{client_aborted, client_opened, unless_gone, answer_by}
use Rattle.system_parts.specs.declared.instance.Place.TheVariants as place
use Rattle.system_parts.specs.declared.instance.Progress.TheVariants as progress
use Rattle.machine.specs.declared.event.Event.TheVariants as event
use Rattle.system_parts.specs.declared.instance.Settled.TheVariants as how
use Rattle.command_semantics.proofs.Clients.{heard_left, heard_settles, handed_left, aborted_left, committed_left}
use Rattle.command_semantics.proofs.Serving.{Lowers, Serving, left_to_drive, node_step, ends_so, is_over}

-- the step by what the instance makes of the answer
abbrev answer_effect : ℕ → ℕ → ℕ → Client → InstanceEntry → InstanceStep Reply → Effect (Option InstanceEntry × Client)
answer_effect node s start c i step = answer_by node s start c i step.left step.answer

answer_is : (w : State) (node s : ℕ) (fate : Fate) (i : InstanceEntry) (held : Held) (c : Client) (request : Request) (p : Progress) (start : ℕ) (commit : Option ℕ) → InstanceAt w.nodes node i → ClientAt w.clients s c → held_of i s ≡ Some held → held.request ≡ request → held.progress ≡ p → stamps_by request p ≡ Some (start, commit) → stepped w (event.Answer node s) fate ≡ node_step w node s (answer_effect node s start c i (answer_if_ready i s held request p))
answer_is w node s fate i held c request p start commit at client_at has asks stands stamps = grind arith

-- ---- a begin
begun : (w : State) (h : List Item) (node s : ℕ) (verb : Verb) (k : Serving w h s (node, place.Drawn)) (start : ℕ) (waits : Option ℕ) → Lowers w s verb (node_step w node s (answer_effect node s start k.c k.served.holder.i (answer_begin k.served.holder.i s k.served.held start waits)))
begun w h node s verb k start None =
    let i : InstanceEntry = k.served.holder.i in
    let now : Client = unless_gone k.c (client_begun k.c start i.epoch) in
    let left : State = with_client (with_post w node (Some (with_request i s None))) s now in
    let full : drive_left w s ≡ 2 + client_ends k.c = left_to_drive w h s (node, place.Drawn) k in
    let less : client_ends k.c < drive_left w s = omega (arith, full) in
    is_over w left h s (node, place.Drawn) k i now refl refl (heard_settles k.c (client_begun k.c start i.epoch) (omega arith)) less
begun w h node s verb k start (Some commit) =
    let full : drive_left w s ≡ 2 + client_ends k.c = left_to_drive w h s (node, place.Drawn) k in
    omega (arith, full)

pub answer_begin_lowers : (w : State) (h : List Item) (node s : ℕ) (fate : Fate) (verb : Verb) (k : Serving w h s (node, place.Drawn)) (asker start : ℕ) → k.served.held.request ≡ Begin asker → k.served.held.progress ≡ progress.Drawn start → Lowers w s verb (stepped w (event.Answer node s) fate)
answer_begin_lowers w h node s fate verb k asker start asks stands =
    let i : InstanceEntry = k.served.holder.i in
    subst (λ (step : Step). Lowers w s verb step) (sym (answer_is w node s fate i k.served.held k.c (Begin asker) (progress.Drawn start) start None k.served.holder.at k.client_at k.served.holder.has asks stands refl)) (begun w h node s verb k start (least_unsettled i.requests start))

-- ---- a commit
answered : (w : State) (h : List Item) (node s : ℕ) (verb : Verb) (k : Serving w h s (node, place.Settled)) (asker start commit : ℕ) (keys : List ℕ) (by : Settled) → Lowers w s verb (node_step w node s (answer_effect node s start k.c k.served.holder.i (answer_if_ready k.served.holder.i s k.served.held (Commit asker start keys) (progress.Settled commit by))))
answered w h node s verb k asker start commit keys how.Placed =
    let i : InstanceEntry = k.served.holder.i in
    let now : Client = unless_gone k.c (client_committed k.c commit) in
    let left : State = with_client (with_post w node (Some (with_request i s None))) s now in
    let full : drive_left w s ≡ 1 + client_ends k.c = left_to_drive w h s (node, place.Settled) k in
    let less : client_ends k.c < drive_left w s = omega (arith, full) in
    is_over w left h s (node, place.Settled) k i now refl refl (heard_settles k.c (client_committed k.c commit) (omega (arith, committed_left k.c commit))) less
answered w h node s verb k asker start commit keys how.Invalid =
    let now : Client = unless_gone k.c (client_aborted k.c) in
    let full : drive_left w s ≡ 1 + client_ends k.c = left_to_drive w h s (node, place.Settled) k in
    let less : client_ends k.c < drive_left w s = omega (arith, full) in
    ends_so w (with_client w s now) s k.c now k.client_at refl (heard_left k.c (client_aborted k.c) (omega (arith, aborted_left k.c))) less
answered w h node s verb k asker start commit keys how.Faulted =
    let now : Client = unless_gone k.c (client_opened k.c) in
    let full : drive_left w s ≡ 1 + client_ends k.c = left_to_drive w h s (node, place.Settled) k in
    let less : client_ends k.c < drive_left w s = omega (arith, full) in
    ends_so w (with_client w s now) s k.c now k.client_at refl (heard_left k.c (client_opened k.c) (omega arith)) less

pub answer_commit_lowers : (w : State) (h : List Item) (node s : ℕ) (fate : Fate) (verb : Verb) (k : Serving w h s (node, place.Settled)) (asker start commit : ℕ) (keys : List ℕ) (by : Settled) → k.served.held.request ≡ Commit asker start keys → k.served.held.progress ≡ progress.Settled commit by → Lowers w s verb (stepped w (event.Answer node s) fate)
answer_commit_lowers w h node s fate verb k asker start commit keys by asks stands =
    let i : InstanceEntry = k.served.holder.i in
    subst (λ (step : Step). Lowers w s verb step) (sym (answer_is w node s fate i k.served.held k.c (Commit asker start keys) (progress.Settled commit by) start (Some commit) k.served.holder.at k.client_at k.served.holder.has asks stands refl)) (answered w h node s verb k asker start commit keys by)

-- ---- a commit that its session is to place
handed : (w : State) (h : List Item) (node s : ℕ) (verb : Verb) (k : Serving w h s (node, place.Settled)) (asker start commit : ℕ) (keys : List ℕ) → Lowers w s verb (node_step w node s (answer_effect node s start k.c k.served.holder.i (answer_if_ready k.served.holder.i s k.served.held (Commit asker start keys) (progress.Handed commit))))
handed w h node s verb k asker start commit keys =
    let i : InstanceEntry = k.served.holder.i in
    let now : Client = unless_gone k.c (client_handed k.c commit) in
    let left : State = with_client (with_post w node (Some (with_request i s None))) s now in
    let full : drive_left w s ≡ 1 + client_ends k.c = left_to_drive w h s (node, place.Settled) k in
    let less : client_ends k.c < drive_left w s = omega (arith, full) in
    is_over w left h s (node, place.Settled) k i now refl refl (heard_settles k.c (client_handed k.c commit) (handed_left k.c commit)) less

pub answer_handed_lowers : (w : State) (h : List Item) (node s : ℕ) (fate : Fate) (verb : Verb) (k : Serving w h s (node, place.Settled)) (asker start commit : ℕ) (keys : List ℕ) → k.served.held.request ≡ Commit asker start keys → k.served.held.progress ≡ progress.Handed commit → Lowers w s verb (stepped w (event.Answer node s) fate)
answer_handed_lowers w h node s fate verb k asker start commit keys asks stands =
    let i : InstanceEntry = k.served.holder.i in
    subst (λ (step : Step). Lowers w s verb step) (sym (answer_is w node s fate i k.served.held k.c (Commit asker start keys) (progress.Handed commit) start (Some commit) k.served.holder.at k.client_at k.served.holder.has asks stands refl)) (handed w h node s verb k asker start commit keys)
