-- An acceptance gives a request four turns at most, and each further turn that serves it takes one off.
use Rattle.std.proofs.Common.{◌≡◌, ◌≢◌, ℕ, ◌+◌, ◌≤◌, ◌==◌, Bool, true, false, cond, List, [], ◌∷◌, Option, Some, None, Result, Ok, Err, refl, sym, ◌∙◌, ap, subst, arith}
use Rattle.stamp_base.specs.declared.stores.Mark.{Mark}
use Rattle.port_io.specs.declared.weather.Fate.{Fate}
use Rattle.port_io.specs.declared.weather.Fate.TheVariants.{Works, FailsUnchanged, FailsApplied}
use Rattle.history_book.specs.declared.cause.Cause.{Cause}
use Rattle.history_book.specs.declared.cause.Cause.TheVariants as cause
use Rattle.history_book.specs.declared.item.Actor.TheVariants.{Session}
use Rattle.history_book.specs.declared.item.Item.TheVariants as item
use Rattle.system_parts.specs.Pairs.{Pairs, mark_of}
use Rattle.system_parts.specs.declared.buckets.Verdict.{Verdict}
use Rattle.system_parts.specs.declared.buckets.Verdict.TheVariants.{Free, Conflict, Hidden}
use Rattle.system_parts.specs.declared.instance.Decided.{Decided}
use Rattle.system_parts.specs.declared.instance.Held.{Held}
use Rattle.system_parts.specs.declared.instance.Progress.{Progress}
use Rattle.system_parts.specs.declared.instance.Progress.TheVariants.{Asked, Accepted, Drawn, Settled}
use Rattle.system_parts.specs.declared.instance.Reply.{Reply}
use Rattle.system_parts.specs.declared.instance.Reply.TheVariants as reply
use Rattle.system_parts.specs.declared.instance.Request.{Request}
use Rattle.system_parts.specs.declared.instance.Request.TheVariants.{Begin, Commit}
use Rattle.system_parts.specs.declared.instance.Settled.{Settled as How}
use Rattle.system_parts.specs.declared.instance.Settled.TheVariants as how
use Rattle.system_parts.specs.Instance.{InstanceEntry, held_of, with_request, stamps_by, stamps_of_held, stamps_at, unsettled_by, not_yet_of_held, was_told_not_yet, least_unsettled}
use Rattle.system_parts.specs.InstanceSteps.{InstanceStep, without_request, moved, accept_refusal, accept_unless, accept_if_asked, accept_held, instance_accept, drawn_as, decide_by as verdict_by, out_of_stamps, decide_drawn, settle_if_drawn, settle_held, instance_settle, answer_begin, answer_if_ready, answer_held, instance_answer}
use Rattle.machine.specs.State.{Client}
use Rattle.machine.specs.Effect.{Effect}
use Rattle.machine.specs.Events.Accept.{accept_by, accept_request, accept_on}
use Rattle.machine.specs.Events.Decide.{both_verdict, both_if_accepted, both_held, decide_both, decide_by, decide_request, decide_on}
use Rattle.machine.specs.Events.Put.{to_place, to_place_by, put_by, put_commit, put_on}
use Rattle.machine.specs.Events.Answer.{answer_by, answer_request, answer_on}
use Rattle.request_latency.specs.Latency.{before_stamp, behind_stamp, left_at}
use Rattle.request_latency.proofs.Measure.{held_left, post_left, for_own, request_set}

-- ---- the table of what is left
few_before : (told : Bool) → before_stamp told ≤ 4
few_before true = omega arith
few_before false = omega arith

some_before : (told : Bool) → 3 ≤ before_stamp told
some_before true = omega arith
some_before false = omega arith

few_behind : (request : Request) (told : Bool) → behind_stamp request told ≤ 2
few_behind (Commit session start keys) told = omega arith
few_behind (Begin session) true = omega arith
few_behind (Begin session) false = omega arith

some_behind : (s : ℕ) (told : Bool) → 1 ≤ behind_stamp (Begin s) told
some_behind s true = omega arith
some_behind s false = omega arith

any_begin : (one two : ℕ) (told : Bool) → behind_stamp (Begin one) told ≡ behind_stamp (Begin two) told
any_begin one two true = refl
any_begin one two false = refl

few_drawn : (direct : Bool) (request : Request) (held : Held) (stamp : ℕ) → left_at held (drawn_as direct request stamp) ≤ 2
few_drawn true (Commit session start keys) held stamp = omega arith
few_drawn false (Commit session start keys) held stamp = few_behind held.request held.told_not_yet
few_drawn true (Begin session) held stamp = few_behind held.request held.told_not_yet
few_drawn false (Begin session) held stamp = few_behind held.request held.told_not_yet

-- ---- an acceptance
accept_leaves : (n r reading : ℕ) (request : Request) (left : InstanceEntry) (c : Client) (answer : Result (Unit {0}) Cause) → (accept_by n r reading request left c answer).parts.0 ≡ Some left
accept_leaves n r reading request left c (Ok tt) = refl
accept_leaves n r reading request left c (Err (cause.NoRequest t)) = refl
accept_leaves n r reading request left c (Err _) = refl

unless_gives : (s r : ℕ) (i : InstanceEntry) (held : Held) (why : Option Cause) → post_left s (Some (accept_unless i r held why).left) ≤ post_left s (Some i) + for_own s r 4
unless_gives s r i held None =
    let few : before_stamp held.told_no_stamp ≤ 4 = few_before held.told_no_stamp in
    let set : post_left s (Some (moved i r held Accepted)) + for_own s r 0 ≤ post_left s (Some i) + for_own s r 4 = request_set i r s 0 4 (Some (record held { progress = Accepted })) (omega (arith, few)) in
    omega (arith, set)
unless_gives s r i held (Some why) =
    let set : post_left s (Some (without_request i r)) + for_own s r 0 ≤ post_left s (Some i) + for_own s r 0 = request_set i r s 0 0 None (omega arith) in
    omega (arith, set)

asked_gives : (s r reading : ℕ) (i : InstanceEntry) (held : Held) (p : Progress) → post_left s (Some (accept_if_asked i r reading held p).left) ≤ post_left s (Some i) + for_own s r 4
asked_gives s r reading i held Asked = unless_gives s r i held (accept_refusal i reading held.request)
asked_gives s r reading i held _ = omega arith

held_gives : (s r reading : ℕ) (i : InstanceEntry) (found : Option Held) → post_left s (Some (accept_held i r reading found).left) ≤ post_left s (Some i) + for_own s r 4
held_gives s r reading i None = omega arith
held_gives s r reading i (Some held) = asked_gives s r reading i held held.progress

request_gives : (s n r reading : ℕ) (i : InstanceEntry) (c : Client) (found : Option Held) → post_left s (accept_request n r reading i c found).parts.0 ≤ post_left s (Some i) + for_own s r 4
request_gives s n r reading i c None = omega arith
request_gives s n r reading i c (Some held) =
    subst (λ (post : Option InstanceEntry). post_left s post ≤ post_left s (Some i) + for_own s r 4) (sym (accept_leaves n r reading held.request (instance_accept i r reading).left c (instance_accept i r reading).answer)) (held_gives s r reading i (held_of i r))

pub accept_gives : (s n r reading : ℕ) (post : Option InstanceEntry) (c : Client) → post_left s (accept_on n r reading post c).parts.0 ≤ post_left s post + for_own s r 4
accept_gives s n r reading None c = omega arith
accept_gives s n r reading (Some i) c = request_gives s n r reading i c (held_of i r)

-- ---- a turn that serves a request takes one off, where it is told
abbrev pub Lowers : {P : Type 0} → ℕ → ℕ → InstanceEntry → Effect (Option InstanceEntry × P) → Type 0
Lowers s r i effect = effect.items ≢ [] → post_left s effect.parts.0 + for_own s r 1 ≤ post_left s (Some i)

none_own : (own : Bool) (n : ℕ) → n ≡ 0 → cond own n 0 ≡ 0
none_own true n is = is
none_own false n is = refl

-- the request is set to one with fewer turns left
one_off : (s r : ℕ) (i : InstanceEntry) (now : Option Held) → held_left now + 1 ≤ held_left (held_of i r) → post_left s (Some (with_request i r now)) + for_own s r 1 ≤ post_left s (Some i)
one_off s r i now less =
    let set : post_left s (Some (with_request i r now)) + for_own s r 1 ≤ post_left s (Some i) + for_own s r 0 = request_set i r s 1 0 now (omega (arith, less)) in
    let none : for_own s r 0 ≡ 0 = none_own (r == s) 0 refl in
    omega (arith, set, none)

-- ---- a decision
decide_leaves : (n r : ℕ) (held : Held) (left : InstanceEntry) (c : Client) (answer : Result Decided Cause) → (decide_by n r held left c answer).parts.0 ≡ Some left
decide_leaves n r held left c (Ok drawn) = refl
decide_leaves n r held left c (Err (cause.NoRequest t)) = refl
decide_leaves n r held left c (Err (cause.NoStamp last)) = refl
decide_leaves n r held left c (Err _) = refl

module _ (s n r : ℕ) (i : InstanceEntry) (c : Client) (held : Held) (has : held_of i r ≡ Some held) where
  -- what the decision leaves, where it has fewer turns left
  lowers_by : (left : InstanceEntry) (answer : Result Decided Cause) → post_left s (Some left) + for_own s r 1 ≤ post_left s (Some i) → Lowers s r i (decide_by n r held left c answer)
  lowers_by left answer less told = subst (λ (post : Option InstanceEntry). post_left s post + for_own s r 1 ≤ post_left s (Some i)) (sym (decide_leaves n r held left c answer)) less

  module _ (stands : held.progress ≡ Accepted) where
    was : held_left (held_of i r) ≡ before_stamp held.told_no_stamp
    was = ap held_left has ∙ ap (left_at held) stands

    ends_so : (why : Cause) → Lowers s r i (decide_by n r held (without_request i r) c (Err why))
    ends_so why =
        let some : 3 ≤ before_stamp held.told_no_stamp = some_before held.told_no_stamp in
        lowers_by (without_request i r) (Err why) (one_off s r i None (omega (arith, some, was)))

    told_once : (told : Bool) → held.told_no_stamp ≡ told → Lowers s r i (decide_by n r held (with_request i r (Some (record held { told_no_stamp = true }))) c (Err (cause.NoStamp i.last)))
    told_once true is tells = absurd (tells (ap (λ (b : Bool). (decide_by n r (record held { told_no_stamp = b }) (with_request i r (Some (record held { told_no_stamp = true }))) c (Err (cause.NoStamp i.last))).items) is))
    told_once false is tells =
        let now : left_at (record held { told_no_stamp = true }) held.progress ≡ 3 = ap (left_at (record held { told_no_stamp = true })) stands in
        let before : held_left (held_of i r) ≡ 4 = was ∙ ap before_stamp is in
        lowers_by (with_request i r (Some (record held { told_no_stamp = true }))) (Err (cause.NoStamp i.last)) (one_off s r i (Some (record held { told_no_stamp = true })) (omega (arith, now, before))) tells

    out_so : (stop : Option Cause) → Lowers s r i (decide_by n r held (out_of_stamps i r held stop).left c (out_of_stamps i r held stop).answer)
    out_so None = told_once held.told_no_stamp refl
    out_so (Some why) = ends_so why

    drawn_so : (stamp : ℕ) → Lowers s r i (decide_by n r held (decide_drawn i r held stamp).left c (decide_drawn i r held stamp).answer)
    drawn_so stamp =
        let later : Held = record held { progress = drawn_as i.direct held.request stamp } in
        let few : left_at later (drawn_as i.direct held.request stamp) ≤ 2 = few_drawn i.direct held.request later stamp in
        let some : 3 ≤ before_stamp held.told_no_stamp = some_before held.told_no_stamp in
        lowers_by (decide_drawn i r held stamp).left (decide_drawn i r held stamp).answer (one_off s r i (Some later) (omega (arith, few, some, was)))

    free_so : (out : Bool) → let step : InstanceStep Decided = cond out (out_of_stamps i r held i.stop) (decide_drawn i r held (i.last + 1)) in Lowers s r i (decide_by n r held step.left c step.answer)
    free_so true = out_so i.stop
    free_so false = drawn_so (i.last + 1)

    verdict_so : (v : Verdict) → Lowers s r i (decide_by n r held (verdict_by i r held v).left c (verdict_by i r held v).answer)
    verdict_so Free = free_so (i.last == i.ceiling)
    verdict_so (Conflict key by) = ends_so (cause.Conflict key by)
    verdict_so (Hidden key water) = ends_so (cause.Hidden key water)

    pub decide_lowers : Lowers s r i (decide_on n r (Some i) c)
    decide_lowers =
        let v : Verdict = both_verdict i.buckets c.reads held.request in
        let is : decide_both i r c.reads ≡ verdict_by i r held v = ap (λ (found : Option Held). both_held i r c.reads found) has ∙ ap (λ (p : Progress). both_if_accepted i r c.reads held p) stands in
        subst (λ (found : Option Held). Lowers s r i (decide_request n r i c found)) (sym has) (subst (λ (step : InstanceStep Decided). Lowers s r i (decide_by n r held step.left c step.answer)) (sym is) (verdict_so v))

-- ---- a put
settle_lowers : (s r start commit asker : ℕ) (keys : List ℕ) (i : InstanceEntry) (held : Held) (by : How) → held_of i r ≡ Some held → held.request ≡ Commit asker start keys → held.progress ≡ Drawn commit → post_left s (Some (instance_settle i r by).left) + for_own s r 1 ≤ post_left s (Some i)
settle_lowers s r start commit asker keys i held by has asks stands =
    let now : Option Held = Some (record held { progress = Settled commit by }) in
    let left : (instance_settle i r by).left ≡ with_request i r now =
    ap (λ (found : Option Held). (settle_held i r by found).left) has
    ∙ ap (λ (request : Request). (settle_if_drawn i r by held (unsettled_by request held.progress)).left) asks
    ∙ ap (λ (p : Progress). (settle_if_drawn i r by held (unsettled_by (Commit asker start keys) p)).left) stands in
    let before : held_left (held_of i r) ≡ 2 = ap held_left has ∙ ap (left_at held) stands ∙ ap (λ (request : Request). behind_stamp request held.told_not_yet) asks in
    subst (λ (j : InstanceEntry). post_left s (Some j) + for_own s r 1 ≤ post_left s (Some i)) (sym left) (one_off s r i now (omega (arith, before)))

put_by_lowers : (s n r start commit : ℕ) (fate : Fate) (found : Option Mark) (i : InstanceEntry) (pairs : Pairs) → ((by : How) → post_left s (Some (instance_settle i r by).left) + for_own s r 1 ≤ post_left s (Some i)) → Lowers s r i (put_by n r start commit fate found i pairs)
put_by_lowers s n r start commit Works None i pairs settles told = settles how.Placed
put_by_lowers s n r start commit Works (Some mark) i pairs settles told = settles how.Invalid
put_by_lowers s n r start commit FailsUnchanged None i pairs settles told = settles how.Faulted
put_by_lowers s n r start commit FailsUnchanged (Some mark) i pairs settles told = settles how.Faulted
put_by_lowers s n r start commit FailsApplied None i pairs settles told = settles how.Faulted
put_by_lowers s n r start commit FailsApplied (Some mark) i pairs settles told = settles how.Faulted

pub put_lowers : (s n r start commit asker : ℕ) (keys : List ℕ) (fate : Fate) (i : InstanceEntry) (pairs : Pairs) (held : Held) → held_of i r ≡ Some held → held.request ≡ Commit asker start keys → held.progress ≡ Drawn commit → Lowers s r i (put_on n r fate (Some i) pairs)
put_lowers s n r start commit asker keys fate i pairs held has asks stands =
    let found : to_place (held_of i r) ≡ Some (start, commit) =
    ap to_place has
    ∙ ap (λ (request : Request). to_place_by request held.progress) asks
    ∙ ap (λ (p : Progress). to_place_by (Commit asker start keys) p) stands in
    subst (λ (stamps : Option (ℕ × ℕ)). Lowers s r i (put_commit n r fate i pairs stamps)) (sym found) (put_by_lowers s n r start commit fate (mark_of pairs start) i _ (λ by. settle_lowers s r start commit asker keys i held by has asks stands))

-- ---- an answer
answer_leaves : (n r start : ℕ) (c : Client) (i left : InstanceEntry) (answer : Result Reply Cause) → (answer_by n r start c i left answer).parts.0 ≡ Some left
answer_leaves n r start c i left (Ok (reply.Begun begun epoch)) = refl
answer_leaves n r start c i left (Ok (reply.Committed commit)) = refl
answer_leaves n r start c i left (Ok (reply.Handed commit)) = refl
answer_leaves n r start c i left (Ok reply.Invalid) = refl
answer_leaves n r start c i left (Ok reply.Open) = refl
answer_leaves n r start c i left (Err (cause.NotYet commit)) = refl
answer_leaves n r start c i left (Err _) = refl

module _ (s n r : ℕ) (i : InstanceEntry) (c : Client) (held : Held) (has : held_of i r ≡ Some held) where
  answers_by : (start : ℕ) (left : InstanceEntry) (answer : Result Reply Cause) → post_left s (Some left) + for_own s r 1 ≤ post_left s (Some i) → Lowers s r i (answer_by n r start c i left answer)
  answers_by start left answer less told = subst (λ (post : Option InstanceEntry). post_left s post + for_own s r 1 ≤ post_left s (Some i)) (sym (answer_leaves n r start c i left answer)) less

  -- the instance's answer to a request that has its stamps
  answered : (stamps : ℕ × Option ℕ) (step : InstanceStep Reply) → stamps_at i r ≡ Some stamps → instance_answer i r ≡ step → Lowers s r i (answer_by n r stamps.0 c i step.left step.answer) → Lowers s r i (answer_on n r (Some i) c)
  answered stamps step found is lowers =
      subst (λ (x : Option (ℕ × Option ℕ)). Lowers s r i (answer_request n r i c x)) (sym found) (subst (λ (x : InstanceStep Reply). Lowers s r i (answer_by n r stamps.0 c i x.left x.answer)) (sym is) lowers)

  waits_once : (start commit : ℕ) (told : Bool) → held.told_not_yet ≡ told → held_left (held_of i r) ≡ behind_stamp (Begin r) held.told_not_yet → held_left (Some (record held { told_not_yet = true })) ≡ 1 → Lowers s r i (answer_by n r start c i (with_request i r (Some (record held { told_not_yet = true }))) (Err (cause.NotYet commit)))
  waits_once start commit true is was now tells =
      let again : was_told_not_yet i r ≡ true = ap not_yet_of_held has ∙ is in
      absurd (tells (ap (λ (b : Bool). cond b [] (item.Refused (Session r) (cause.NotYet commit) ∷ [])) again))
  waits_once start commit false is was now tells =
      let before : held_left (held_of i r) ≡ 2 = was ∙ ap (behind_stamp (Begin r)) is in
      answers_by start (with_request i r (Some (record held { told_not_yet = true }))) (Err (cause.NotYet commit)) (one_off s r i (Some (record held { told_not_yet = true })) (omega (arith, now, before))) tells

  begin_by : (start : ℕ) (below : Option ℕ) → held_left (held_of i r) ≡ behind_stamp (Begin r) held.told_not_yet → held_left (Some (record held { told_not_yet = true })) ≡ 1 → Lowers s r i (answer_by n r start c i (answer_begin i r held start below).left (answer_begin i r held start below).answer)
  begin_by start None was now =
      let some : 1 ≤ behind_stamp (Begin r) held.told_not_yet = some_behind r held.told_not_yet in
      answers_by start (without_request i r) (Ok (reply.Begun start i.epoch)) (one_off s r i None (omega (arith, some, was)))
  begin_by start (Some commit) was now = waits_once start commit held.told_not_yet refl was now

  pub begin_lowers : (start asker : ℕ) → held.request ≡ Begin asker → held.progress ≡ Drawn start → Lowers s r i (answer_on n r (Some i) c)
  begin_lowers start asker asks stands =
      let found : stamps_at i r ≡ Some (start, None) =
      ap stamps_of_held has
      ∙ ap (λ (request : Request). stamps_by request held.progress) asks
      ∙ ap (λ (p : Progress). stamps_by (Begin asker) p) stands in
      let is : instance_answer i r ≡ answer_begin i r held start (least_unsettled i.requests start) =
      ap (λ (x : Option Held). answer_held i r x) has
      ∙ ap (λ (request : Request). answer_if_ready i r held request held.progress) asks
      ∙ ap (λ (p : Progress). answer_if_ready i r held (Begin asker) p) stands in
      let was : held_left (held_of i r) ≡ behind_stamp (Begin r) held.told_not_yet = ap held_left has ∙ ap (left_at held) stands ∙ ap (λ (request : Request). behind_stamp request held.told_not_yet) asks ∙ any_begin asker r held.told_not_yet in
      let now : held_left (Some (record held { told_not_yet = true })) ≡ 1 = ap (left_at (record held { told_not_yet = true })) stands ∙ ap (λ (request : Request). behind_stamp request true) asks in
      answered (start, None) (answer_begin i r held start (least_unsettled i.requests start)) found is (begin_by start (least_unsettled i.requests start) was now)

  -- a commit that is settled, or is to be handed over
  pub commit_lowers : (start commit asker : ℕ) (keys : List ℕ) (p : Progress) (answer : Reply) → held.progress ≡ p → stamps_by held.request p ≡ Some (start, Some commit) → answer_if_ready i r held held.request p ≡ record { left = without_request i r; answer = Ok answer } → left_at held p ≡ 1 → Lowers s r i (answer_on n r (Some i) c)
  commit_lowers start commit asker keys p answer stands stamps ready left =
      let found : stamps_at i r ≡ Some (start, Some commit) = ap stamps_of_held has ∙ ap (λ (q : Progress). stamps_by held.request q) stands ∙ stamps in
      let is : instance_answer i r ≡ record { left = without_request i r; answer = Ok answer } = ap (λ (x : Option Held). answer_held i r x) has ∙ ap (λ (q : Progress). answer_if_ready i r held held.request q) stands ∙ ready in
      let was : held_left (held_of i r) ≡ 1 = ap held_left has ∙ ap (left_at held) stands ∙ left in
      answered (start, Some commit) (record { left = without_request i r; answer = Ok answer }) found is (answers_by start (without_request i r) (Ok answer) (one_off s r i None (omega (arith, was))))
