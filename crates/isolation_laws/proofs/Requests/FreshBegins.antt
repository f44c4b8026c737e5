-- What was placed before the ask of a begin stays below the start that it got, or will get.
use Rattle.isolation_laws.proofs.Names.{◌≡◌, ◌≢◌, ℕ, ◌+◌, ◌<◌, ◌≤◌, true, List, ◌++◌, Option, inl, inr, sym, ap, subst}
use Rattle.isolation_laws.proofs.Names.{arith, Committed, before_ask, has_ask, Item, Placed, before_ask-in, Progress}
use Rattle.isolation_laws.proofs.Names.{Commit, InstanceEntry, moved, drawn_as, State, InstanceAt, HeldBy}
use Rattle.isolation_laws.proofs.Names.{AreFreshBegins, IsolationInvariant, instance_changed, heldby_changed}
use Rattle.isolation_laws.proofs.Names.{AskedBegin, asked_begin_state, asked_begin_items, AskedCommit}
use Rattle.isolation_laws.proofs.Names.{asked_commit_state, Accepted, AcceptedSteadily, accepted_state, Drew}
use Rattle.isolation_laws.proofs.Names.{drew_instance, drew_state, drew_items}
use Rattle.system_parts.specs.declared.instance.Progress.TheVariants as progress
use Rattle.system_parts.specs.declared.instance.Request.TheVariants.{Begin}
use Rattle.system_parts.specs.declared.session.State.TheVariants as phase
use Rattle.isolation_laws.proofs.Owners.{accepts_now, placed_below_last}
use Rattle.isolation_laws.proofs.Requests.CommitsInFlight.{FewerStanding, IsAcceptedNow, IsDrawnNow}
use Rattle.isolation_laws.proofs.Requests.RequestsAfter.{FewerHeld, HoldsNew, new_held, none_held, free_waits}
use Rattle.isolation_laws.proofs.Requests.Standing.{standing_asked_begin, standing_asked_commit, standing_accepted, standing_drew, drawn_not_accepted, held_accepted, held_drew}
use Rattle.isolation_laws.proofs.Requests.AsksBefore.{AsksNothing, quiet_no_ask, draw_no_ask, other_no_ask, ask_stays, ask_last, before_stays}
use Rattle.isolation_laws.proofs.Requests.PendingAfter.{begin_is_no_commit, drawn_as_stamp}

-- begins that are held were held, wherever they stood
abbrev pub FewerBegins : List (Option InstanceEntry) → List (Option InstanceEntry) → Type 0
FewerBegins old new = (n s : ℕ) (j : InstanceEntry) (p : Progress) → InstanceAt new n j → HeldBy j s (Begin s) p → (i : InstanceEntry) × (q : Progress) × InstanceAt old n i × HeldBy i s (Begin s) q

pub begins_of : (old new : List (Option InstanceEntry)) → FewerHeld old new → FewerBegins old new
begins_of old new fewer n s j p at held = fewer.each n s j (Begin s) p at held

asked_on : (old new : List (Option InstanceEntry)) (h items : List Item) → FewerBegins old new → AreFreshBegins old h → (n s : ℕ) (j : InstanceEntry) (p : Progress) → InstanceAt new n j → HeldBy j s (Begin s) p → has_ask s (h ++ items) ≡ true
asked_on old new h items fewer fresh n s j p at held =
    let was = fewer n s j p at held in ask_stays s h items (fresh.asked n s was.0 was.1 was.2 was.3)

accepted_on : (old new : List (Option InstanceEntry)) (h items : List Item) → FewerStanding IsAcceptedNow old new → ((s : ℕ) → AsksNothing s items) → AreFreshBegins old h → (n s t c : ℕ) (j : InstanceEntry) → InstanceAt new n j → HeldBy j s (Begin s) progress.Accepted → Committed (before_ask s (h ++ items)) t c → c ≤ j.last
accepted_on old new h items fewer none fresh n s t c j at held placed =
    let was = fewer.each n s j (Begin s) progress.Accepted tt at held in
    let has : has_ask s h ≡ true = fresh.asked n s was.0 progress.Accepted was.1 was.2 in
    omega (arith, fresh.accepted n s t c was.0 was.1 was.2 (subst (λ before. Committed before t c) (before_stays s h items has (none s)) placed), was.5)

drawn_on : (old new : List (Option InstanceEntry)) (h items : List Item) → FewerStanding IsDrawnNow old new → ((s : ℕ) → AsksNothing s items) → AreFreshBegins old h → (n s b t c : ℕ) (j : InstanceEntry) → InstanceAt new n j → HeldBy j s (Begin s) (progress.Drawn b) → Committed (before_ask s (h ++ items)) t c → c < b
drawn_on old new h items fewer none fresh n s b t c j at held placed =
    let was = fewer.each n s j (Begin s) (progress.Drawn b) tt at held in
    let has : has_ask s h ≡ true = fresh.asked n s was.0 (progress.Drawn b) was.1 was.2 in
    fresh.drawn n s b t c was.0 was.1 was.2 (subst (λ before. Committed before t c) (before_stays s h items has (none s)) placed)

-- fewer requests, and no ask
pub fresh_fewer : (old new : List (Option InstanceEntry)) (h items : List Item) → FewerBegins old new → FewerStanding IsAcceptedNow old new → FewerStanding IsDrawnNow old new → ((s : ℕ) → AsksNothing s items) → AreFreshBegins old h → AreFreshBegins new (h ++ items)
fresh_fewer old new h items held accepted drawn none fresh = record {
  asked = asked_on old new h items held fresh;
  accepted = accepted_on old new h items accepted none fresh;
  drawn = drawn_on old new h items drawn none fresh;
}

-- ---- a begin is asked
-- no request of its session is held before
asks_first : (w : State) (h : List Item) (k : AskedBegin w) (n s : ℕ) (i : InstanceEntry) (p : Progress) → IsolationInvariant w h → InstanceAt w.nodes n i → HeldBy i s (Begin s) p → k.session ≢ s
asks_first w h k n s i p holds at held same = none_held w.nodes w.clients k.session k.c phase.Free holds.requests.requests k.client_at k.free free_waits n i (Begin s) p at (subst (λ r. HeldBy i r (Begin s) p) (sym same) held)

pub fresh_asked_begin : (w : State) (h : List Item) (k : AskedBegin w) → IsolationInvariant w h → AreFreshBegins (asked_begin_state w k).nodes (h ++ asked_begin_items w k)
fresh_asked_begin w h k holds =
    let fresh : AreFreshBegins w.nodes h = holds.begins.fresh in
    let new : HoldsNew w.nodes (asked_begin_state w k).nodes k.session k.node (Begin k.session) = new_held w.nodes k.session k.node k.i _ k.at in
    record {
      asked = λ n s j p at held. elim (new.each n s j (Begin s) p at held) [
        | inl now ↦ subst (λ r. has_ask r (h ++ asked_begin_items w k) ≡ true) (sym now.0) (ask_last k.session k.node h)
        | inr was ↦ ask_stays s h (asked_begin_items w k) (fresh.asked n s was.0 p was.1 was.2)
      ];
      accepted = λ n s t c j at held placed.
          let was = (standing_asked_begin IsAcceptedNow w k (λ is. is)).each n s j (Begin s) progress.Accepted tt at held in
          let has : has_ask s h ≡ true = fresh.asked n s was.0 progress.Accepted was.1 was.2 in
          let none : AsksNothing s (asked_begin_items w k) = other_no_ask s k.session k.node (asks_first w h k n s was.0 progress.Accepted holds was.1 was.2) in
          omega (arith, fresh.accepted n s t c was.0 was.1 was.2 (subst (λ before. Committed before t c) (before_stays s h (asked_begin_items w k) has none) placed), was.5);
      drawn = λ n s b t c j at held placed.
          let was = (standing_asked_begin IsDrawnNow w k (λ is. is)).each n s j (Begin s) (progress.Drawn b) tt at held in
          let has : has_ask s h ≡ true = fresh.asked n s was.0 (progress.Drawn b) was.1 was.2 in
          let none : AsksNothing s (asked_begin_items w k) = other_no_ask s k.session k.node (asks_first w h k n s was.0 (progress.Drawn b) holds was.1 was.2) in
          fresh.drawn n s b t c was.0 was.1 was.2 (subst (λ before. Committed before t c) (before_stays s h (asked_begin_items w k) has none) placed);
    }

-- ---- a commit is asked
begins_asked_commit : (w : State) (k : AskedCommit w) → FewerBegins w.nodes (asked_commit_state w k).nodes
begins_asked_commit w k n s j p at held =
    let new : HoldsNew w.nodes (asked_commit_state w k).nodes k.session k.node (Commit k.session k.start k.c.entry.keys) = new_held w.nodes k.session k.node k.i _ k.at in
    elim (new.each n s j (Begin s) p at held) [
      | inl now ↦ absurd (begin_is_no_commit s k.session k.start k.c.entry.keys now.2)
      | inr was ↦ (was.0, p, was.1, was.2)
    ]

pub fresh_asked_commit : (w : State) (h : List Item) (k : AskedCommit w) → IsolationInvariant w h → AreFreshBegins (asked_commit_state w k).nodes (h ++ k.items)
fresh_asked_commit w h k holds = fresh_fewer w.nodes (asked_commit_state w k).nodes h k.items (begins_asked_commit w k) (standing_asked_commit IsAcceptedNow w k (λ is. is)) (standing_asked_commit IsDrawnNow w k (λ is. is)) (λ s. quiet_no_ask s k.items k.quiet) holds.begins.fresh

-- ---- a begin is accepted: all that is placed so far is at most the last stamp
fresh_now : (w : State) (h : List Item) (k : Accepted w) (s t c : ℕ) → AcceptedSteadily w k → IsolationInvariant w h → Committed (before_ask s h) t c → c ≤ k.i.last
fresh_now w h k s t c steady holds placed =
    let now : k.i.term ≡ w.master.term = accepts_now w.setup w.seen k.reading k.node w.nodes w.master k.i holds.numbers.ranges holds.numbers.leases k.at steady k.in_time in
    placed_below_last w.nodes w.master h k.node k.i t c holds.numbers.ranges holds.numbers.drawn holds.numbers.placed k.at now (before_ask-in s h (Placed t c) placed)

pub fresh_accepted : (w : State) (h : List Item) (k : Accepted w) → AcceptedSteadily w k → IsolationInvariant w h → AreFreshBegins (accepted_state w k).nodes (h ++ k.items)
fresh_accepted w h k steady holds =
    let fresh : AreFreshBegins w.nodes h = holds.begins.fresh in
    let held_ : FewerBegins w.nodes (accepted_state w k).nodes = begins_of w.nodes (accepted_state w k).nodes (held_accepted w k) in
    record {
      asked = asked_on w.nodes (accepted_state w k).nodes h k.items held_ fresh;
      accepted = λ n s t c j at held placed.
          let was = held_ n s j progress.Accepted at held in
          let before : Committed (before_ask s h) t c = subst (λ before. Committed before t c) (before_stays s h k.items (fresh.asked n s was.0 was.1 was.2 was.3) (quiet_no_ask s k.items k.quiet)) placed in
          elim (instance_changed w.nodes k.node n (moved k.i k.session k.held progress.Accepted) j at) [
            | inl here ↦ omega (arith, fresh_now w h k s t c steady holds before, ap (λ x. x.last) here.1)
            | inr there ↦ fresh.accepted n s t c j there.1 held before
          ];
      drawn = drawn_on w.nodes (accepted_state w k).nodes h k.items (standing_accepted IsDrawnNow w k (λ is. is)) (λ s. quiet_no_ask s k.items k.quiet) fresh;
    }

-- ---- a start is drawn: it is the one after the last stamp
drew_fresh : (w : State) (h : List Item) (k : Drew w) (s b t c : ℕ) → IsolationInvariant w h → HeldBy (drew_instance w k) s (Begin s) (progress.Drawn b) → Committed (before_ask s h) t c → c < b
drew_fresh w h k s b t c holds held before =
    let fresh : AreFreshBegins w.nodes h = holds.begins.fresh in
    elim (heldby_changed k.i k.session s (record k.held { progress = drawn_as k.i.direct k.held.request (k.i.last + 1) }) (Begin s) (progress.Drawn b) (record { held = held.held; has = held.has; asks = held.asks; stands = held.stands })) [
      | inl now ↦
          let was : HeldBy k.i s (Begin s) progress.Accepted = subst (λ r. HeldBy k.i r (Begin s) progress.Accepted) (sym now.0) (record { held = k.held; has = k.has; asks = now.1; stands = k.accepted }) in
          omega (arith, fresh.accepted k.node s t c k.i k.at was before, drawn_as_stamp k.i.direct k.held.request (k.i.last + 1) b now.2)
      | inr old ↦ fresh.drawn k.node s b t c k.i k.at old.1 before
    ]

pub fresh_drew : (w : State) (h : List Item) (k : Drew w) → IsolationInvariant w h → AreFreshBegins (drew_state w k).nodes (h ++ drew_items w k)
fresh_drew w h k holds =
    let fresh : AreFreshBegins w.nodes h = holds.begins.fresh in
    let held_ : FewerBegins w.nodes (drew_state w k).nodes = begins_of w.nodes (drew_state w k).nodes (held_drew w k) in
    let none : (s : ℕ) → AsksNothing s (drew_items w k) = λ s. draw_no_ask s k.node k.i.term (k.i.last + 1) k.held.request in
    record {
      asked = asked_on w.nodes (drew_state w k).nodes h (drew_items w k) held_ fresh;
      accepted = accepted_on w.nodes (drew_state w k).nodes h (drew_items w k) (standing_drew IsAcceptedNow w k (drawn_not_accepted k.i.direct k.held.request (k.i.last + 1))) none fresh;
      drawn = λ n s b t c j at held placed.
          let was = held_ n s j (progress.Drawn b) at held in
          let before : Committed (before_ask s h) t c = subst (λ before. Committed before t c) (before_stays s h (drew_items w k) (fresh.asked n s was.0 was.1 was.2 was.3) (none s)) placed in
          elim (instance_changed w.nodes k.node n (drew_instance w k) j at) [
            | inl here ↦ drew_fresh w h k s b t c holds (subst (λ (x : InstanceEntry). HeldBy x s (Begin s) (progress.Drawn b)) here.1 held) before
            | inr there ↦ fresh.drawn n s b t c j there.1 held before
          ];
    }
