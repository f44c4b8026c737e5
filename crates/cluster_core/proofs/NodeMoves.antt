-- What each event makes of the requests of all nodes.
use Rattle.cluster_core.proofs.Names.{◌≡◌, ℕ, ◌+◌, ◌≤◌, Bool, true, false, List, [], ◌++◌, Option, Some, None, inl, inr}
use Rattle.cluster_core.proofs.Names.{◌⊎◌, refl, sym, ap, subst, ◌∙◌, arith, slice_get, slice_set, IsTrue, sum_by}
use Rattle.cluster_core.proofs.Names.{none-some, Fate, Item, Places, InstanceEntry, held_of, Client, State, Event}
use Rattle.cluster_core.proofs.Names.{held_at, Step, step_by, with_post, with_client, with_reading, at_post, at_both}
use Rattle.cluster_core.proofs.Names.{stepped, take_on, renew_on, extend_on, ask_begin_on, ask_commit_on, accept_on}
use Rattle.cluster_core.proofs.Names.{decide_on, put_on, answer_on, is_to_decide, is_to_put, is_to_answer, is_direct}
use Rattle.cluster_core.proofs.Names.{HeldHasPlace, InstanceAt, instance_set, need, needs_of, start_to_place}
use Rattle.cluster_core.proofs.Names.{held_found, direct_found}
use Rattle.std.specs.FinSet as set
use Rattle.system_parts.specs.SessionSteps.{begin_refusal, work_refusal}
use Rattle.machine.specs.Clients.{is_reading}
use Rattle.machine.specs.declared.event.Event.TheVariants as event
use Rattle.machine.specs.Laws.{touches_nodes}
use Rattle.machine.specs.Events.Crash.{crash_on}
use Rattle.machine.proofs.PartsKept.{leaves_parts}
use Rattle.cluster_core.proofs.Needs.{set_sum}
use Rattle.cluster_core.proofs.RequestMoves.{requests_of, start_of, PostBecame, stayed, ended, spends, gains, take_leaves, renew_leaves, extend_leaves, begin_leaves, commits_leave, accept_leaves, decide_leaves, answer_leaves, put_leaves}

-- ---- one node changed
-- the session's commit at the node is to be placed
pub record StartsAt (nodes : List (Option InstanceEntry)) (n s t : ℕ) : Type 0 where
  pub i : InstanceEntry
  pub at : InstanceAt nodes n i
  pub starts : start_to_place i.direct (held_of i s) ≡ Some t

pub record NodesBecame (h : List Item) (given : Places) (a b : ℕ) (old new : List (Option InstanceEntry)) : Type 0 where
  pub sum : sum_by (needs_of h) new + a ≤ sum_by (needs_of h) old + b
  pub starts : (n s t : ℕ) → StartsAt new n s t → StartsAt old n s t ⊎ IsTrue (set.contains given t)

pub nodes_stayed : (h : List Item) (given : Places) (b : ℕ) (nodes : List (Option InstanceEntry)) → NodesBecame h given 0 b nodes nodes
nodes_stayed h given b nodes = record { sum = omega arith; starts = λ n s t there. inl there }

needs_as : (h : List Item) (post : Option InstanceEntry) → needs_of h post ≡ sum_by (need h) (requests_of post)
needs_as h None = refl
needs_as h (Some i) = refl

-- a post with such a request has an instance
post_starts : (nodes : List (Option InstanceEntry)) (n s t : ℕ) (post : Option InstanceEntry) → slice_get nodes n ≡ Some post → start_of post s ≡ Some t → StartsAt nodes n s t
post_starts nodes n s t None at is = absurd (none-some t is)
post_starts nodes n s t (Some i) at is = record { i = i; at = at; starts = is }

pub node_became : (h : List Item) (given : Places) (a b : ℕ) (nodes : List (Option InstanceEntry)) (n : ℕ) (post now : Option InstanceEntry) → slice_get nodes n ≡ Some post → PostBecame h given a b post now → NodesBecame h given a b nodes (slice_set nodes n now)
node_became h given a b nodes n post now at k = record {
  sum = set_sum (needs_of h) nodes n post now a b at (omega (arith, needs_as h post, needs_as h now, k.sum));
  starts = λ m s t there. elim (instance_set nodes n m now there.i there.at) [
    | inl here ↦ elim (k.starts s t (ap (λ (p : Option InstanceEntry). start_of p s) here.1 ∙ there.starts)) [
      | inl before ↦ inl (post_starts nodes m s t post (ap (slice_get nodes) here.0 ∙ at) before)
      | inr has ↦ inr has
    ]
    | inr old ↦ inl (record { i = there.i; at = old.1; starts = there.starts })
  ];
}

-- ---- looking up the parts
at_one : (h : List Item) (given : Places) (w : State) (n : ℕ) (nodes : List (Option InstanceEntry)) (f : Option InstanceEntry → Step) (new : Option InstanceEntry → Option InstanceEntry) (found : Option (Option InstanceEntry)) → w.nodes ≡ nodes → slice_get nodes n ≡ found → ((post : Option InstanceEntry) → (f post).state.nodes ≡ slice_set nodes n (new post)) → ((post : Option InstanceEntry) → PostBecame h given 0 0 post (new post)) → NodesBecame h given 0 0 nodes (at_post w found f).state.nodes
at_one h given w n nodes f new None same was sets each = subst (λ (now : List (Option InstanceEntry)). NodesBecame h given 0 0 nodes now) (sym same) (nodes_stayed h given 0 nodes)
at_one h given w n nodes f new (Some post) same was sets each = subst (λ (now : List (Option InstanceEntry)). NodesBecame h given 0 0 nodes now) (sym (sets post)) (node_became h given 0 0 nodes n post (new post) was (each post))

at_two : (h : List Item) (given : Places) (w : State) (n : ℕ) (nodes : List (Option InstanceEntry)) (f : Option InstanceEntry → Client → Step) (new : Option InstanceEntry → Client → Option InstanceEntry) (found : Option (Option InstanceEntry)) (c : Option Client) → w.nodes ≡ nodes → slice_get nodes n ≡ found → ((post : Option InstanceEntry) (d : Client) → (f post d).state.nodes ≡ slice_set nodes n (new post d)) → ((post : Option InstanceEntry) (d : Client) → PostBecame h given 0 0 post (new post d)) → NodesBecame h given 0 0 nodes (at_both w found c f).state.nodes
at_two h given w n nodes f new (Some post) (Some d) same was sets each = subst (λ (now : List (Option InstanceEntry)). NodesBecame h given 0 0 nodes now) (sym (sets post d)) (node_became h given 0 0 nodes n post (new post d) was (each post d))
at_two h given w n nodes f new (Some post) None same was sets each = subst (λ (now : List (Option InstanceEntry)). NodesBecame h given 0 0 nodes now) (sym same) (nodes_stayed h given 0 nodes)
at_two h given w n nodes f new None c same was sets each = subst (λ (now : List (Option InstanceEntry)). NodesBecame h given 0 0 nodes now) (sym same) (nodes_stayed h given 0 nodes)

-- ---- the events that serve no request
took : (h : List Item) (given : Places) (w : State) (n reading : ℕ) (fate : Fate) (post : Option InstanceEntry) → PostBecame h given 0 0 post (take_on w.setup n reading fate post w.master).parts.0
took h given w n reading fate None = take_leaves h given w.setup n reading _ _ _
took h given w n reading fate (Some i) = stayed h given 0 i.direct i.requests

renewed : (h : List Item) (given : Places) (w : State) (n reading : ℕ) (fate : Fate) (post : Option InstanceEntry) → PostBecame h given 0 0 post (renew_on w.setup n reading fate post w.master).parts.0
renewed h given w n reading fate None = stayed h given 0 false []
renewed h given w n reading fate (Some i) = renew_leaves h given n reading i _ _ _

extended : (h : List Item) (given : Places) (w : State) (n : ℕ) (fate : Fate) (post : Option InstanceEntry) → PostBecame h given 0 0 post (extend_on w.setup n fate post w.master).parts.0
extended h given w n fate None = stayed h given 0 false []
extended h given w n fate (Some i) = extend_leaves h given n i _ _ _

crashed : (h : List Item) (given : Places) (w : State) (n : ℕ) (post : Option InstanceEntry) → PostBecame h given 0 0 post (crash_on n post w.clients).parts.0
crashed h given w n None = stayed h given 0 false []
crashed h given w n (Some i) = ended h given i.direct false i.requests 0

-- ---- an accept
accepted_at : (h : List Item) (given : Places) (w : State) (n s reading : ℕ) (post : Option InstanceEntry) (c : Client) → slice_get w.nodes n ≡ Some post → ((accept_on n s reading post c).stop ≡ None → HeldHasPlace (is_direct post) given (held_at post s)) → NodesBecame h given 0 (gains (held_at post s) (accept_on n s reading post c).stop) w.nodes (slice_set w.nodes n (accept_on n s reading post c).parts.0)
accepted_at h given w n s reading None c at has = node_became h given 0 0 w.nodes n None None at (stayed h given 0 false [])
accepted_at h given w n s reading (Some i) c at has = node_became h given 0 _ w.nodes n (Some i) _ at (accept_leaves h given n s reading i c (held_of i s) refl has)

accepted_in : (h : List Item) (given : Places) (w : State) (n s reading : ℕ) (posts : Option (Option InstanceEntry)) (found : Option Client) → slice_get w.nodes n ≡ posts → (let step = at_both (with_reading w reading) posts found (λ post c. step_by (accept_on n s reading post c) (λ p. with_client (with_post (with_reading w reading) n p.0) s p.1)) in (step.stop ≡ None → HeldHasPlace (direct_found posts) given (held_found posts s)) → NodesBecame h given 0 (gains (held_found posts s) step.stop) w.nodes step.state.nodes)
accepted_in h given w n s reading None found at has = nodes_stayed h given 0 w.nodes
accepted_in h given w n s reading (Some post) None at has = nodes_stayed h given _ w.nodes
accepted_in h given w n s reading (Some post) (Some c) at has = accepted_at h given w n s reading post c at has

pub accept_became : (h : List Item) (given : Places) (w : State) (n s reading : ℕ) (fate : Fate) → ((stepped w (event.Accept n s reading) fate).stop ≡ None → HeldHasPlace (direct_found (slice_get w.nodes n)) given (held_found (slice_get w.nodes n) s)) → NodesBecame h given 0 (gains (held_found (slice_get w.nodes n) s) (stepped w (event.Accept n s reading) fate).stop) w.nodes (stepped w (event.Accept n s reading) fate).state.nodes
accept_became h given w n s reading fate has = accepted_in h given w n s reading (slice_get w.nodes n) (slice_get w.clients s) refl has

-- ---- what serves a request
served_none : (h : List Item) (given : Places) (nodes : List (Option InstanceEntry)) (served : Bool) (items : List Item) → spends served items ≡ 0 → NodesBecame h given (spends served items) 0 nodes nodes
served_none h given nodes served items none = subst (λ (a : ℕ). NodesBecame h given a 0 nodes nodes) (sym none) (nodes_stayed h given 0 nodes)

spends_none : (served : Bool) → spends served [] ≡ 0
spends_none true = refl
spends_none false = refl

decided_at : (h : List Item) (given : Places) (w : State) (n s : ℕ) (post : Option InstanceEntry) (c : Client) → slice_get w.nodes n ≡ Some post → NodesBecame h given (spends (is_to_decide (held_at post s)) (decide_on n s post c).items) 0 w.nodes (slice_set w.nodes n (decide_on n s post c).parts.0)
decided_at h given w n s None c at = node_became h given 0 0 w.nodes n None None at (stayed h given 0 false [])
decided_at h given w n s (Some i) c at = node_became h given _ 0 w.nodes n (Some i) _ at (decide_leaves h given n s i c (held_of i s) refl)

decided_in : (h : List Item) (given : Places) (w : State) (n s : ℕ) (posts : Option (Option InstanceEntry)) (found : Option Client) → slice_get w.nodes n ≡ posts → (let step = at_both w posts found (λ post c. step_by (decide_on n s post c) (λ p. with_client (with_post w n p.0) s p.1)) in NodesBecame h given (spends (is_to_decide (held_found posts s)) step.items) 0 w.nodes step.state.nodes)
decided_in h given w n s None found at = nodes_stayed h given 0 w.nodes
decided_in h given w n s (Some post) None at = served_none h given w.nodes (is_to_decide (held_at post s)) [] (spends_none (is_to_decide (held_at post s)))
decided_in h given w n s (Some post) (Some c) at = decided_at h given w n s post c at

pub decide_became : (h : List Item) (given : Places) (w : State) (n s : ℕ) (fate : Fate) → NodesBecame h given (spends (is_to_decide (held_found (slice_get w.nodes n) s)) (stepped w (event.Decide n s) fate).items) 0 w.nodes (stepped w (event.Decide n s) fate).state.nodes
decide_became h given w n s fate = decided_in h given w n s (slice_get w.nodes n) (slice_get w.clients s) refl

answered_at : (h : List Item) (given : Places) (w : State) (n s : ℕ) (post : Option InstanceEntry) (c : Client) → slice_get w.nodes n ≡ Some post → NodesBecame h given (spends (is_to_answer (held_at post s)) (answer_on n s post c).items) 0 w.nodes (slice_set w.nodes n (answer_on n s post c).parts.0)
answered_at h given w n s None c at = node_became h given 0 0 w.nodes n None None at (stayed h given 0 false [])
answered_at h given w n s (Some i) c at = node_became h given _ 0 w.nodes n (Some i) _ at (answer_leaves h given n s i c (held_of i s) refl)

answered_in : (h : List Item) (given : Places) (w : State) (n s : ℕ) (posts : Option (Option InstanceEntry)) (found : Option Client) → slice_get w.nodes n ≡ posts → (let step = at_both w posts found (λ post c. step_by (answer_on n s post c) (λ p. with_client (with_post w n p.0) s p.1)) in NodesBecame h given (spends (is_to_answer (held_found posts s)) step.items) 0 w.nodes step.state.nodes)
answered_in h given w n s None found at = nodes_stayed h given 0 w.nodes
answered_in h given w n s (Some post) None at = served_none h given w.nodes (is_to_answer (held_at post s)) [] (spends_none (is_to_answer (held_at post s)))
answered_in h given w n s (Some post) (Some c) at = answered_at h given w n s post c at

pub answer_became : (h : List Item) (given : Places) (w : State) (n s : ℕ) (fate : Fate) → NodesBecame h given (spends (is_to_answer (held_found (slice_get w.nodes n) s)) (stepped w (event.Answer n s) fate).items) 0 w.nodes (stepped w (event.Answer n s) fate).state.nodes
answer_became h given w n s fate = answered_in h given w n s (slice_get w.nodes n) (slice_get w.clients s) refl

put_in : (before : List Item) (given : Places) (w : State) (n s : ℕ) (fate : Fate) (posts : Option (Option InstanceEntry)) → slice_get w.nodes n ≡ posts → (let step = at_post w posts (λ post. step_by (put_on n s fate post w.pairs) (λ p. record (with_post w n p.0) { pairs = p.1 })) in NodesBecame (before ++ step.items) given (spends (is_to_put (held_found posts s)) step.items) 0 w.nodes step.state.nodes)
put_in before given w n s fate None at = nodes_stayed _ given 0 w.nodes
put_in before given w n s fate (Some None) at = node_became _ given 0 0 w.nodes n None None at (stayed _ given 0 false [])
put_in before given w n s fate (Some (Some i)) at = node_became _ given _ 0 w.nodes n (Some i) _ at (put_leaves before given n s fate i w.pairs (held_of i s) refl)

pub put_became : (before : List Item) (given : Places) (w : State) (n s : ℕ) (fate : Fate) → NodesBecame (before ++ (stepped w (event.Put n s) fate).items) given (spends (is_to_put (held_found (slice_get w.nodes n) s)) (stepped w (event.Put n s) fate).items) 0 w.nodes (stepped w (event.Put n s) fate).state.nodes
put_became before given w n s fate = put_in before given w n s fate (slice_get w.nodes n) refl

-- ---- all others
untouched : (h : List Item) (given : Places) (w : State) (e : Event) (fate : Fate) → touches_nodes e ≡ false → NodesBecame h given 0 0 w.nodes (stepped w e fate).state.nodes
untouched h given w e fate not = subst (λ (now : List (Option InstanceEntry)). NodesBecame h given 0 0 w.nodes now) (sym ((leaves_parts w e fate).nodes not)) (nodes_stayed h given 0 w.nodes)

-- the event serves no request, and accepts none
abbrev pub is_plain : Event → Bool
is_plain (event.Accept node session reading) = false
is_plain (event.Decide node session) = false
is_plain (event.Put node session) = false
is_plain (event.Answer node session) = false
is_plain _ = true

pub plain_became : (h : List Item) (given : Places) (w : State) (e : Event) (fate : Fate) → is_plain e ≡ true → NodesBecame h given 0 0 w.nodes (stepped w e fate).state.nodes
plain_became h given w (event.Take n reading) fate plain = at_one h given (with_reading w reading) n w.nodes _ (λ post. (take_on w.setup n reading fate post w.master).parts.0) (slice_get w.nodes n) refl refl (λ post. refl) (took h given w n reading fate)
plain_became h given w (event.Renew n reading) fate plain = at_one h given (with_reading w reading) n w.nodes _ (λ post. (renew_on w.setup n reading fate post w.master).parts.0) (slice_get w.nodes n) refl refl (λ post. refl) (renewed h given w n reading fate)
plain_became h given w (event.Extend n) fate plain = at_one h given w n w.nodes _ (λ post. (extend_on w.setup n fate post w.master).parts.0) (slice_get w.nodes n) refl refl (λ post. refl) (extended h given w n fate)
plain_became h given w (event.Crash n) fate plain = at_one h given w n w.nodes _ (λ post. (crash_on n post w.clients).parts.0) (slice_get w.nodes n) refl refl (λ post. refl) (crashed h given w n)
plain_became h given w (event.AskBegin s n) fate plain = at_two h given w n w.nodes _ (λ post c. (ask_begin_on s n c post).parts.1) (slice_get w.nodes n) (slice_get w.clients s) refl refl (λ post c. refl) (λ post c. begin_leaves h given s n c post (begin_refusal c.entry.state))
plain_became h given w (event.AskCommit s n) fate plain = at_two h given w n w.nodes _ (λ post c. (ask_commit_on s n c post).parts.1) (slice_get w.nodes n) (slice_get w.clients s) refl refl (λ post c. refl) (λ post c. commits_leave h given s n c post (work_refusal c.entry.state (is_reading c)) c.entry.start)
plain_became h given w (event.Accept n s reading) fate plain = absurd (cc)
plain_became h given w (event.Decide n s) fate plain = absurd (cc)
plain_became h given w (event.Put n s) fate plain = absurd (cc)
plain_became h given w (event.Answer n s) fate plain = absurd (cc)
plain_became h given w e fate plain = untouched h given w e fate refl
