-- For request_completion too.
-- Which outcomes tell of requests, commits and instances: all others are silent.
use Rattle.cause_laws.proofs.Names.{◌≡◌, ℕ, ◌+◌, Bool, true, false, List, [], ◌∷◌, Option, refl, sym, subst, All-cons}
use Rattle.cause_laws.proofs.Names.{All-append, Master, Table, Node, Janitor, PutFound, Keys, Item, renewed_until}
use Rattle.cause_laws.proofs.Names.{ReadTurn, Asks, Answers, Settled, InstanceEntry, State, found_of, read_items}
use Rattle.cause_laws.proofs.Names.{rules_of, Silent, AllSilent, none_silent, one_silent, all_silent, StillBy, Rests}
use Rattle.cause_laws.proofs.Names.{Stops, TellsOne, fault_if, fault_of, found_items, fetched_turn, read_turn, Outcome}
use Rattle.cause_laws.proofs.Names.{OfStill, OfGranted, OfRenewed, OfExtended, OfCrashed, OfAskedBegin, OfAskedCommit}
use Rattle.cause_laws.proofs.Names.{OfAccepted, OfEnded, OfDrew, OfPlaced, OfNotPlaced, OfAnsweredBegin}
use Rattle.cause_laws.proofs.Names.{OfAnsweredCommit, OfHanded, OfOwnPlaced, OfOwnNotPlaced, OfEndedReadOnly, OfWrote}
use Rattle.cause_laws.proofs.Names.{OfWriteFailed, OfAborted, OfVanished, OfHealed, OfFetched, OfReadDropped}
use Rattle.cause_laws.proofs.Names.{OfReadStepped, OfOutcome, OfOutcomeFailed, OfCompleted, OfSweepOpened, OfSwept}
use Rattle.cause_laws.proofs.Names.{OfSweepListed, OfSweepFailed, told_by_outcome}
use Rattle.history_book.specs.declared.item.Item.TheVariants as item
use Rattle.system_parts.specs.declared.instance.Settled.TheVariants as how

-- ---- items that some outcomes share
pub fault_if_silent : (failed : Bool) (node : ℕ) → AllSilent (fault_if failed node)
fault_if_silent true node = one_silent (item.Fault (Node node) Master) refl
fault_if_silent false node = none_silent

fault_of_silent : (by : Settled) (node : ℕ) → AllSilent (fault_of by node)
fault_of_silent how.Placed node = none_silent
fault_of_silent how.Invalid node = none_silent
fault_of_silent how.Faulted node = one_silent (item.Fault (Node node) Table) refl

pub found_silent : (by : Settled) (node start : ℕ) → AllSilent (found_items by node start)
found_silent how.Placed node start = none_silent
found_silent how.Invalid node start = one_silent (item.Step (Node node) (PutFound start)) refl
found_silent how.Faulted node start = none_silent

read_silent : (session start key : ℕ) (turn : ReadTurn) → AllSilent (read_items session start key turn)
read_silent session start key (Asks r) = none_silent
read_silent session start key (Answers a) = one_silent (item.Read session start key (found_of a.found)) refl

-- ---- every outcome
abbrev pub is_loud : {w : State} → Outcome w → Bool
is_loud (OfGranted k) = true
is_loud (OfCrashed k) = true
is_loud (OfAskedBegin k) = true
is_loud (OfAskedCommit k) = true
is_loud (OfAccepted k) = true
is_loud (OfEnded k) = true
is_loud (OfDrew k) = true
is_loud (OfAnsweredBegin k) = true
is_loud (OfAnsweredCommit k) = true
is_loud (OfHanded k) = true
is_loud (OfOwnPlaced k) = true
is_loud (OfOwnNotPlaced k) = true
is_loud (OfOutcome k) = true
is_loud _ = false

-- items that are these
silent_these : (items these : List Item) → items ≡ these → AllSilent these → AllSilent items
silent_these items these is silent = subst AllSilent (sym is) silent

still_silent : (w : State) (nodes : List (Option InstanceEntry)) (items : List Item) → StillBy w nodes items → AllSilent items
still_silent w nodes items (Rests same plain) = all_silent items plain
still_silent w nodes items (Stops k leaves tells) = silent_these items (item.Refused (Node k.node) k.why ∷ []) tells (one_silent (item.Refused (Node k.node) k.why) refl)
still_silent w nodes items (TellsOne k leaves tells) = silent_these items k.items tells k.silent

first_silent : (x : Item) (xs : List Item) → Silent x → AllSilent xs → AllSilent (x ∷ xs)
first_silent x xs one rest = All-cons Silent x xs one rest

pub silent_items : (w : State) (o : Outcome w) → is_loud o ≡ false → AllSilent (told_by_outcome w o)
silent_items w (OfStill k) is = still_silent w k.nodes k.items k.how
silent_items w (OfRenewed k) is =
    silent_these k.items _ k.tells (first_silent (item.Renew k.node k.reading k.i.term (renewed_until (rules_of w.setup) w.master k.reading)) (fault_if k.failed k.node) refl (fault_if_silent k.failed k.node))
silent_items w (OfExtended k) is = silent_these k.items _ k.tells (first_silent (item.Extend k.node k.i.term (w.master.ceiling + w.setup.range)) (fault_if k.failed k.node) refl (fault_if_silent k.failed k.node))
silent_items w (OfPlaced k) is = first_silent (item.Placed k.it.start k.it.commit) k.items refl (silent_these k.items _ k.tells (fault_of_silent k.by k.it.node))
silent_items w (OfNotPlaced k) is =
    silent_these k.items _ k.tells (All-append Silent (found_items k.by k.it.node k.it.start) (fault_of k.by k.it.node) (found_silent k.by k.it.node k.it.start) (fault_of_silent k.by k.it.node))
silent_items w (OfEndedReadOnly k) is = k.silent
silent_items w (OfWrote k) is = one_silent (item.Write k.it.session k.start k.key k.value) refl
silent_items w (OfWriteFailed k) is = k.silent
silent_items w (OfAborted k) is = k.silent
silent_items w (OfVanished k) is = k.silent
silent_items w (OfHealed k) is = k.silent
silent_items w (OfFetched k) is = first_silent k.first (read_items k.it.session k.start k.key (fetched_turn w k)) k.silent (read_silent k.it.session k.start k.key (fetched_turn w k))
silent_items w (OfReadDropped k) is = k.silent
silent_items w (OfReadStepped k) is = first_silent k.first (read_items k.session k.r.start k.r.key (read_turn w k)) k.silent (read_silent k.session k.r.start k.r.key (read_turn w k))
silent_items w (OfOutcomeFailed k) is = k.silent
silent_items w (OfCompleted k) is = k.silent
silent_items w (OfSweepOpened k) is = none_silent
silent_items w (OfSwept k) is = k.silent
silent_items w (OfSweepListed k) is = one_silent (item.Step Janitor (Keys k.txn k.count)) refl
silent_items w (OfSweepFailed k) is = k.silent
silent_items w _ is = absurd (cc)
