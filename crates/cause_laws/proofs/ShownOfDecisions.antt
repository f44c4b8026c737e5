-- What is due at a decision and at an answer is shown.
use Rattle.cause_laws.proofs.Names.{◌≡◌, ℕ, ◌<◌, Bool, false, List, Option, None, Some, ◌⊎◌, inl, inr, refl, sym, ◌∙◌}
use Rattle.cause_laws.proofs.Names.{ap, subst, arith, get_or_default, same_Some, none-some, Table, ◌∈◌, Committed}
use Rattle.cause_laws.proofs.Names.{Cause, Item, Draw, Fault, Held, Progress, Request, Begin, Commit, InstanceEntry}
use Rattle.cause_laws.proofs.Names.{held_of, unsettled_by, unsettled_commit, State, its_draw, since_draw, CeilingGiven}
use Rattle.cause_laws.proofs.Names.{StampDrawn, placer, ShownReplaced, ShownNoStamp, ShownInvalid, ShownOpen}
use Rattle.cause_laws.proofs.Names.{ShownNotYet, ShownSpent, InstanceAt, HeldBy, DrewCommit, InFlight, HeldPending, Has}
use Rattle.cause_laws.proofs.Names.{ReachedInvariant, drawn_once, ShownStop, ShownInvariant, DueStop, DueNoStamp}
use Rattle.cause_laws.proofs.Names.{DueSettled, DueNotYet}
use Rattle.history_book.specs.declared.cause.Cause.TheVariants as cause
use Rattle.system_parts.specs.declared.instance.Progress.TheVariants as progress
use Rattle.system_parts.specs.declared.instance.Settled.TheVariants as how
use Rattle.system_parts.specs.InstanceLaws.{IsLeastUnsettled}
use Rattle.system_parts.proofs.InstanceBegins.{least_is_least}
use Rattle.cause_laws.proofs.ShownOfRequests.{node_of, start_of, start_of_begin, term_of, accepted_not_asked, drawn_not_asked}

-- ---- decision
stop_shown : (w : State) (h : List Item) (s : ℕ) (why : Cause) → ShownInvariant w h → (due : DueStop w s why) → ShownStop w.setup h due.i.term why
stop_shown w h s why shows due = shows.stops.shown due.serves.node due.i why due.serves.at due.stop_is

pub replaced_shown : (w : State) (h : List Item) (s found : ℕ) → ShownInvariant w h → DueStop w s (cause.Replaced found) → ShownReplaced h s found
replaced_shown w h s found shows due =
    let is = stop_shown w h s (cause.Replaced found) shows due in
    record {
      node = due.serves.node;
      node_is = node_of w h s due.i due.request progress.Accepted shows due.serves;
      term = due.i.term;
      term_is = term_of w h s due.i due.request progress.Accepted shows due.serves accepted_not_asked;
      later = is.0;
      taken = is.1;
    }

pub spent_shown : (w : State) (h : List Item) (s ceiling : ℕ) → ShownInvariant w h → DueStop w s (cause.Spent ceiling) → ShownSpent w.setup h ceiling
spent_shown w h s ceiling shows due = stop_shown w h s (cause.Spent ceiling) shows due

last_drawn_by : (h : List Item) (i : InstanceEntry) → i.epoch < i.ceiling → i.last ≡ i.ceiling → (i.last ≡ i.epoch) ⊎ StampDrawn h i.term i.last → StampDrawn h i.term i.last
last_drawn_by h i wide used (inl first) = absurd (omega (arith, wide, used, first))
last_drawn_by h i wide used (inr drawn) = drawn

pub no_stamp_shown : (w : State) (h : List Item) (s last : ℕ) → ShownInvariant w h → DueNoStamp w s last → ShownNoStamp h s last
no_stamp_shown w h s last shows due =
    let n : ℕ = due.serves.node in
    let at : InstanceAt w.nodes n due.i = due.serves.at in
    record {
      node = n;
      node_is = node_of w h s due.i due.request progress.Accepted shows due.serves;
      term = due.i.term;
      term_is = term_of w h s due.i due.request progress.Accepted shows due.serves accepted_not_asked;
      end = subst (λ c. CeilingGiven h due.i.term c) (sym due.used_up ∙ due.last_is) (shows.lasts.given n due.i at);
      drawn = subst (λ c. StampDrawn h due.i.term c) due.last_is (last_drawn_by h due.i (shows.lasts.wide n due.i at) due.used_up (shows.lasts.drawn n due.i at));
    }

-- ---- the answer to a commit
pub invalid_shown : (w : State) (h : List Item) (s start : ℕ) → ShownInvariant w h → DueSettled w s start how.Invalid → ShownInvalid h s start
invalid_shown w h s start shows due =
    let mark = shows.faulted.marked due.serves.node s due.asker start due.commit due.i due.keys due.serves.at due.serves.holds in
    record {
      node = due.serves.node;
      node_is = node_of w h s due.i (Commit due.asker start due.keys) _ shows due.serves;
      start_is = start_of w h s due.asker start due.keys due.i _ shows due.serves;
      actor = mark.0;
      marked = mark.1;
    }

pub open_shown : (w : State) (h : List Item) (s start : ℕ) → ShownInvariant w h → DueSettled w s start how.Faulted → ShownOpen w.setup h s start
open_shown w h s start shows due =
    let drew : its_draw h s ≡ Some (start, Some due.commit) = shows.asked.drawn due.serves.node s due.i (Commit due.asker start due.keys) (progress.Settled due.commit how.Faulted) (start, Some due.commit) due.serves.at due.serves.holds refl in
    let put : w.setup.direct ≡ false = shows.put.each due.serves.node s due.i (Commit due.asker start due.keys) (progress.Settled due.commit how.Faulted) due.serves.at due.serves.holds in
    let fault = shows.faulted.faulted due.serves.node s due.asker start due.commit due.i due.keys due.serves.at due.serves.holds in
    record {
      start_is = start_of w h s due.asker start due.keys due.i _ shows due.serves;
      node = due.serves.node;
      node_is = node_of w h s due.i (Commit due.asker start due.keys) _ shows due.serves;
      lost = inl (due.commit, drew, subst (λ (direct : Bool). Fault (placer direct due.serves.node s) Table ∈ since_draw h s) (sym put) fault);
    }

-- ---- the answer to a begin
-- a commit that waits at an instance
record Waiting (i : InstanceEntry) (commit : ℕ) : Type 0 where
  session : ℕ
  asker : ℕ
  start : ℕ
  keys : List ℕ
  holds : HeldBy i session (Commit asker start keys) (progress.Drawn commit)

of_held : (i : InstanceEntry) (session commit : ℕ) (held : Held) → held_of i session ≡ Some held → (request : Request) → held.request ≡ request → (p : Progress) → held.progress ≡ p → unsettled_by request p ≡ Some commit → Waiting i commit
of_held i session commit held has (Commit asker start keys) is (progress.Drawn stamp) stands e = record {
  session = session;
  asker = asker;
  start = start;
  keys = keys;
  holds = record { held = held; has = has; asks = is; stands = stands ∙ ap progress.Drawn (same_Some stamp commit e) };
}
of_held i session commit held has (Commit asker start keys) is progress.Asked stands e = absurd (none-some commit e)
of_held i session commit held has (Commit asker start keys) is progress.Accepted stands e = absurd (none-some commit e)
of_held i session commit held has (Commit asker start keys) is (progress.Settled c by) stands e = absurd (none-some commit e)
of_held i session commit held has (Commit asker start keys) is (progress.Handed c) stands e = absurd (none-some commit e)
of_held i session commit held has (Begin asker) is p stands e = absurd (none-some commit e)

of_some : (i : InstanceEntry) (session commit : ℕ) (found : Option Held) → held_of i session ≡ found → unsettled_commit found ≡ Some commit → Waiting i commit
of_some i session commit None has e = absurd (none-some commit e)
of_some i session commit (Some held) has e = of_held i session commit held has held.request refl held.progress refl e

waiting : (i : InstanceEntry) (start commit : ℕ) → IsLeastUnsettled start commit i.requests → Waiting i commit
waiting i start commit least =
    let there = least.there in
    of_some i there.0 commit there.1 (get_or_default i.requests there.0 None there.1 there.2 ∙ there.3) there.4

-- a commit is drawn for one transaction alone
one_start : (r n term t s m other u c : ℕ) → Draw r n term t (Some c) ≡ Draw s m other u (Some c) → t ≡ u
one_start r n term t s m other u c same = cc

same_writer : {w : State} (h : List Item) (t s m other u c : ℕ) → ReachedInvariant w h → Committed h t c → DrewCommit h s m other u c → t ≡ u
same_writer h t s m other u c stands placed drew =
    let by = stands.holds.numbers.placed.drawn t c placed in
    one_start by.0 by.1 by.2 t s m other u c (drawn_once h by.0 s by.1 m by.2 other t u (Some c) (Some c) stands.holds.numbers.new by.3 drew refl)

pub not_yet_shown : (w : State) (h : List Item) (s commit : ℕ) → ReachedInvariant w h → ShownInvariant w h → DueNotYet w s commit → ShownNotYet w.setup h s commit
not_yet_shown w h s commit stands shows due =
    let n : ℕ = due.serves.node in
    let least = least_is_least due.i.requests due.start commit due.least in
    let waits = waiting due.i due.start commit least in
    let own : waits.asker ≡ waits.session = stands.holds.requests.requests.own n waits.session due.i (Commit waits.asker waits.start waits.keys) (progress.Drawn commit) due.serves.at waits.holds in
    let held : HeldBy due.i waits.session (Commit waits.session waits.start waits.keys) (progress.Drawn commit) = subst (λ r. HeldBy due.i waits.session (Commit r waits.start waits.keys) (progress.Drawn commit)) own waits.holds in
    let q : InFlight = record { session = waits.session; start = waits.start; keys = waits.keys; stage = Has commit } in
    let pending : HeldPending w.nodes q = record { node = n; instance_of = due.i; progress_of = progress.Drawn commit; at = due.serves.at; held = held; stage_is = refl } in
    let so_far = stands.holds.requests.pending.so_far q (inl pending) in
    let drew : DrewCommit h waits.session n due.i.term waits.start commit = stands.holds.requests.pending.here n waits.session waits.start commit waits.keys (progress.Drawn commit) due.i due.serves.at held refl in
    record {
      waits = shows.put.each n waits.session due.i (Commit waits.asker waits.start waits.keys) (progress.Drawn commit) due.serves.at waits.holds;
      node = n;
      node_is = node_of w h s due.i (Begin due.asker) (progress.Drawn due.start) shows due.serves;
      start = due.start;
      start_is = start_of_begin w h s due.asker due.start due.i shows due.serves;
      term = due.i.term;
      term_is = term_of w h s due.i (Begin due.asker) (progress.Drawn due.start) shows due.serves (drawn_not_asked due.start);
      writer = waits.start;
      drawn = (waits.session, n, drew);
      below = least.below;
      unplaced = λ t placed. so_far.1 commit (subst (λ u. Committed h u commit) (same_writer h t waits.session n due.i.term waits.start commit stands placed drew) placed);
    }
