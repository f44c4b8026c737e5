-- Commits in flight, settled ones, begins in flight and open transactions against a longer history.
use Rattle.isolation_laws.proofs.Names.{◌≡◌, ◌≢◌, ℕ, ◌≤◌, List, [], ◌++◌, Option, Some, refl, sym, ◌∙◌, subst, arith}
use Rattle.isolation_laws.proofs.Names.{◌∈◌, Committed, Item, Begin, Draw, Placed, in_front, Progress, Request}
use Rattle.isolation_laws.proofs.Names.{BeginRequest, Commit, Settled, InstanceEntry, Client, InstanceAt, HeldBy}
use Rattle.isolation_laws.proofs.Names.{OpenAt, Begun, DrewStart, DrewCommit, HasDrawn, written_keys, Stage, Waits}
use Rattle.isolation_laws.proofs.Names.{Taken, Has, InFlight, stage_of, Pending, AreStarting, IsDrawnSoFar, ArePending}
use Rattle.isolation_laws.proofs.Names.{IsSettled, AreSettled, AreAccepted, AreOpen}
use Rattle.system_parts.specs.declared.instance.Progress.TheVariants as progress
use Rattle.system_parts.specs.declared.instance.Settled.TheVariants as how
use Rattle.isolation_laws.proofs.Requests.ClientsOpen.{FewerOpen}
use Rattle.isolation_laws.proofs.Requests.PendingAfter.{FewerPending}

-- ---- what a longer history must not bring
-- the items draw no commit of the transaction, and place none
pub record LeavesAlone (h g : List Item) (t : ℕ) : Type 0 where
  pub undrawn : HasDrawn g t → HasDrawn h t
  pub unplaced : (c : ℕ) → Committed g t c → Committed h t c

-- all that stood stands
abbrev pub GoesOn : List Item → List Item → Type 0
GoesOn h g = (x : Item) → x ∈ h → x ∈ g

pub goes_on : (h items : List Item) → GoesOn h (h ++ items)
goes_on h items x m = in_front x h items m

so_far_on : (h g : List Item) (q : InFlight) (stage : Stage) → GoesOn h g → LeavesAlone h g q.start → IsDrawnSoFar h q stage → IsDrawnSoFar g q stage
so_far_on h g q Waits on alone so_far = λ drew. so_far (alone.undrawn drew)
so_far_on h g q (Taken last) on alone so_far = λ drew. so_far (alone.undrawn drew)
so_far_on h g q (Has commit) on alone so_far = ((so_far.0.0, so_far.0.1, on _ so_far.0.2), λ c is. so_far.1 c (alone.unplaced c is))

-- ---- commits in flight
-- one that was pending, with the keys that it still has
pub record StaysPending (h g : List Item) (q : InFlight) : Type 0 where
  pub alone : LeavesAlone h g q.start
  pub keys : written_keys g q.start ≡ written_keys h q.start

pub record PendingOne (h : List Item) (q : InFlight) : Type 0 where
  pub begun : Begun h q.session q.start
  pub keys : q.keys ≡ written_keys h q.start
  pub some : q.keys ≢ []
  pub so_far : IsDrawnSoFar h q q.stage

pub pending_one : (clients : List Client) (nodes : List (Option InstanceEntry)) (h : List Item) (q : InFlight) → ArePending clients nodes h → Pending clients nodes q → PendingOne h q
pending_one clients nodes h q pending p = record { begun = pending.begun q p; keys = (pending.keys q p).0; some = (pending.keys q p).1; so_far = pending.so_far q p }

pub pending_on : (h g : List Item) (q : InFlight) → GoesOn h g → StaysPending h g q → PendingOne h q → PendingOne g q
pending_on h g q on stays one = record {
  begun = on (Begin q.session q.start) one.begun;
  keys = one.keys ∙ sym stays.keys;
  some = one.some;
  so_far = so_far_on h g q q.stage on stays.alone one.so_far;
}

-- each drawn commit that an instance holds was drawn there
abbrev pub AreDrawnHere : List (Option InstanceEntry) → List Item → Type 0
AreDrawnHere nodes h = (n s t c : ℕ) (keys : List ℕ) (p : Progress) (i : InstanceEntry) → InstanceAt nodes n i → HeldBy i s (Commit s t keys) p → stage_of i.last p ≡ Some (Has c) → DrewCommit h s n i.term t c

pub are_pending : (clients : List Client) (nodes : List (Option InstanceEntry)) (h : List Item) → ((q : InFlight) → Pending clients nodes q → PendingOne h q) → AreDrawnHere nodes h → ArePending clients nodes h
are_pending clients nodes h each here = record {
  begun = λ q p. (each q p).begun;
  keys = λ q p. ((each q p).keys, (each q p).some);
  so_far = λ q p. (each q p).so_far;
  here = here;
}

-- ---- settled commits
-- a settled commit as it stands
pub record SettledOne (h : List Item) (n s term t c : ℕ) (by : Settled) : Type 0 where
  pub begun : Begun h s t
  pub drawn : DrewCommit h s n term t c
  pub settled : IsSettled h t c by

abbrev pub SettledAt : List (Option InstanceEntry) → ℕ → ℕ → ℕ → ℕ → Settled → InstanceEntry → Type 0
SettledAt nodes n s t c by i = InstanceAt nodes n i × ((keys : List ℕ) × HeldBy i s (Commit s t keys) (progress.Settled c by))

pub settled_one : (nodes : List (Option InstanceEntry)) (h : List Item) (n s t c : ℕ) (by : Settled) (i : InstanceEntry) → AreSettled nodes h → SettledAt nodes n s t c by i → SettledOne h n s i.term t c by
settled_one nodes h n s t c by i settled (at, (keys, held)) = record {
  begun = settled.begun n s t c keys by i at held;
  drawn = settled.drawn n s t c keys by i at held;
  settled = settled.settled n s t c keys by i at held;
}

is_settled_on : (h g : List Item) (t c : ℕ) (by : Settled) → GoesOn h g → ((d : ℕ) → by ≡ how.Invalid → Committed g t d → Committed h t d) → IsSettled h t c by → IsSettled g t c by
is_settled_on h g t c how.Placed on alone is = on (Placed t c) is
is_settled_on h g t c how.Invalid on alone is = λ d placed. is d (alone d refl placed)
is_settled_on h g t c how.Faulted on alone is = tt

pub settled_on : (h g : List Item) (n s term t c : ℕ) (by : Settled) → GoesOn h g → ((d : ℕ) → by ≡ how.Invalid → Committed g t d → Committed h t d) → SettledOne h n s term t c by → SettledOne g n s term t c by
settled_on h g n s term t c by on alone one = record {
  begun = on (Begin s t) one.begun;
  drawn = on (Draw s n term t (Some c)) one.drawn;
  settled = is_settled_on h g t c by on alone one.settled;
}

pub are_settled : (nodes : List (Option InstanceEntry)) (h : List Item) → ((n s t c : ℕ) (by : Settled) (i : InstanceEntry) → SettledAt nodes n s t c by i → SettledOne h n s i.term t c by) → AreSettled nodes h
are_settled nodes h each = record {
  begun = λ n s t c keys by i at held. (each n s t c by i (at, (keys, held))).begun;
  drawn = λ n s t c keys by i at held. (each n s t c by i (at, (keys, held))).drawn;
  settled = λ n s t c keys by i at held. (each n s t c by i (at, (keys, held))).settled;
}

-- ---- requests that stand somewhere, as they stood: the same or fewer, at instances of the same term and epoch
pub record FewerStanding (P : Progress → Type 0) (old new : List (Option InstanceEntry)) : Type 0 where
  pub each : (n s : ℕ) (j : InstanceEntry) (request : Request) (p : Progress) → P p → InstanceAt new n j → HeldBy j s request p → (i : InstanceEntry) × InstanceAt old n i × HeldBy i s request p × (j.term ≡ i.term) × (j.epoch ≡ i.epoch) × (i.last ≤ j.last)

abbrev pub IsSettledNow : Progress → Type 0
IsSettledNow (progress.Settled c by) = Unit {0}
IsSettledNow _ = ⊥

abbrev pub IsAcceptedNow : Progress → Type 0
IsAcceptedNow progress.Accepted = Unit {0}
IsAcceptedNow _ = ⊥

abbrev pub IsDrawnNow : Progress → Type 0
IsDrawnNow (progress.Drawn stamp) = Unit {0}
IsDrawnNow (progress.Handed stamp) = Unit {0}
IsDrawnNow _ = ⊥

pub settled_fewer : (old new : List (Option InstanceEntry)) (h g : List Item) → FewerStanding IsSettledNow old new → GoesOn h g → ((n s t c d : ℕ) (i : InstanceEntry) → SettledAt old n s t c how.Invalid i → Committed g t d → Committed h t d) → AreSettled old h → AreSettled new g
settled_fewer old new h g fewer on alone settled = are_settled new g (λ n s t c by j at.
    let was = fewer.each n s j (Commit s t at.1.0) (progress.Settled c by) tt at.0 at.1.1 in
    let before : SettledAt old n s t c by was.0 = (was.1, (at.1.0, was.2)) in
    let one : SettledOne h n s was.0.term t c by = settled_one old h n s t c by was.0 settled before in
    subst (λ term. SettledOne g n s term t c by) (sym was.3)
    (settled_on h g n s was.0.term t c by on (λ d is placed. alone n s t c d was.0 (subst (λ (b : Settled). SettledAt old n s t c b was.0) is before) placed) one))

-- what has its commit was drawn, whatever the instance drew last
has_is_drawn : (last : ℕ) (p : Progress) (c : ℕ) → stage_of last p ≡ Some (Has c) → IsDrawnNow p
has_is_drawn last progress.Asked c is = absurd (cc)
has_is_drawn last progress.Accepted c is = absurd (cc)
has_is_drawn last (progress.Drawn d) c is = tt
has_is_drawn last (progress.Handed d) c is = tt
has_is_drawn last (progress.Settled d by) c is = absurd (cc)

pub has_any_last : (last other : ℕ) (p : Progress) (c : ℕ) → stage_of last p ≡ Some (Has c) → stage_of other p ≡ Some (Has c)
has_any_last last other progress.Asked c is = absurd (cc)
has_any_last last other progress.Accepted c is = absurd (cc)
has_any_last last other (progress.Drawn d) c is = is
has_any_last last other (progress.Handed d) c is = is
has_any_last last other (progress.Settled d by) c is = absurd (cc)

-- fewer commits in flight, none of which the further items concern
pub here_fewer : (old new : List (Option InstanceEntry)) (h g : List Item) → FewerStanding IsDrawnNow old new → GoesOn h g → AreDrawnHere old h → AreDrawnHere new g
here_fewer old new h g fewer on here n s t c keys p j at held is =
    let was = fewer.each n s j (Commit s t keys) p (has_is_drawn j.last p c is) at held in
    subst (λ term. DrewCommit g s n term t c) (sym was.3) (on _ (here n s t c keys p was.0 was.1 was.2 (has_any_last j.last was.0.last p c is)))

pub pending_fewer : (clients new_clients : List Client) (old new : List (Option InstanceEntry)) (h g : List Item) → FewerPending clients old new_clients new → FewerStanding IsDrawnNow old new → GoesOn h g → ((q : InFlight) → Pending clients old q → StaysPending h g q) → ArePending clients old h → ArePending new_clients new g
pending_fewer clients new_clients old new h g fewer standing on stays pending = are_pending new_clients new g (λ q p. pending_on h g q on (stays q (fewer q p)) (pending_one clients old h q pending (fewer q p))) (here_fewer old new h g standing on pending.here)

pub accepted_fewer : (old new : List (Option InstanceEntry)) → FewerStanding IsAcceptedNow old new → AreAccepted old → AreAccepted new
accepted_fewer old new fewer accepted = record {
  within = λ n s t keys j at held.
      let was = fewer.each n s j (Commit s t keys) progress.Accepted tt at held in
      let before = accepted.within n s t keys was.0 was.1 was.2 in
      (omega (arith, before.0, was.4), omega (arith, before.1, was.5));
}

pub starting_fewer : (old new : List (Option InstanceEntry)) (h g : List Item) → FewerStanding IsDrawnNow old new → GoesOn h g → ((n s t r : ℕ) (i : InstanceEntry) → InstanceAt old n i → HeldBy i s (BeginRequest s) (progress.Drawn t) → Begun g r t → Begun h r t) → AreStarting old h → AreStarting new g
starting_fewer old new h g fewer on alone starting = record {
  drawn = λ n s t j at held.
      let was = fewer.each n s j (BeginRequest s) (progress.Drawn t) tt at held in
      subst (λ term. DrewStart g s n term t) (sym was.3) (on _ (starting.drawn n s t was.0 was.1 was.2));
  unbegun = λ n s t r j at held begun.
      let was = fewer.each n s j (BeginRequest s) (progress.Drawn t) tt at held in
      starting.unbegun n s t r was.0 was.1 was.2 (alone n s t r was.0 was.1 was.2 begun);
}

-- ---- open transactions: fewer, of which no commit is drawn
pub open_fewer : (old new : List Client) (h g : List Item) → FewerOpen old new → ((s t e : ℕ) → OpenAt old s t e → HasDrawn g t → HasDrawn h t) → AreOpen old h → AreOpen new g
open_fewer old new h g fewer alone opened = record {
  undrawn = λ s t e o drew. let was = fewer s t e o in opened.undrawn s t e was (alone s t e was drew);
  above = λ s t e o. opened.above s t e (fewer s t e o);
}
