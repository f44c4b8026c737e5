-- The items of the node transitions that tell nothing of a session's request, each with its reason.
use Rattle.cause_laws.proofs.Names.{ℕ, Bool, true, false, IsTrue, [], ◌∷◌, ◌++◌, refl, All-nil, All-cons, All-append}
use Rattle.cause_laws.proofs.Names.{All-weaker, Master, Table, Node, Item, Settled, InstanceEntry, granted, State}
use Rattle.cause_laws.proofs.Names.{rules_of, take_item, IsRefusal}
use Rattle.history_book.specs.declared.item.Item.TheVariants as item
use Rattle.system_parts.specs.declared.instance.Settled.TheVariants as how
use Rattle.cause_laws.proofs.NodeTransitions.{Granted, Crashed, SettledOne, Ended, Learned, IsLossOf, EndsFor, took_items, fault_if, fault_of}
use Rattle.cause_laws.proofs.AskWords.{Mute, AllMute, mute_always, tells_no_request, silent_mute, crash_mute}

-- one item
pub one_mute : (s : ℕ) (x : Item) → Mute s x → AllMute s (x ∷ [])
one_mute s x mute = All-cons (Mute s) x [] mute (All-nil (Mute s))

pub always_mute : (s : ℕ) (x : Item) → IsTrue (tells_no_request x) → AllMute s (x ∷ [])
always_mute s x none = one_mute s x (mute_always s x none)

-- a take, with its fault
fault_if_mute : (s node : ℕ) (failed : Bool) → AllMute s (fault_if failed node)
fault_if_mute s node true = always_mute s (item.Fault (Node node) Master) refl
fault_if_mute s node false = All-nil (Mute s)

pub took_mute : (w : State) (k : Granted w) (s : ℕ) → AllMute s (took_items w k)
took_mute w k s = All-cons (Mute s) (take_item k.node k.reading (granted (rules_of w.setup) w.master k.reading)) (fault_if k.failed k.node) (mute_always s (take_item k.node k.reading (granted (rules_of w.setup) w.master k.reading)) refl) (fault_if_mute s k.node k.failed)

-- a crash
pub loss_refusal : (i : InstanceEntry) (x : Item) → IsLossOf i x → IsRefusal x
loss_refusal i (item.Refused actor why) loss = tt
loss_refusal i _ loss = absurd loss

pub crashed_mute : (w : State) (k : Crashed w) (s : ℕ) → AllMute s (item.Crash k.node k.i.term ∷ k.told)
crashed_mute w k s = crash_mute s k.node k.i.term k.told (All-weaker (IsLossOf k.i) IsRefusal (loss_refusal k.i) k.told k.losses)

-- a put that has ended
fault_of_mute : (s node : ℕ) (by : Settled) → AllMute s (fault_of by node)
fault_of_mute s node how.Placed = All-nil (Mute s)
fault_of_mute s node how.Invalid = All-nil (Mute s)
fault_of_mute s node how.Faulted = always_mute s (item.Fault (Node node) Table) refl

pub settled_mute : (w : State) (k : SettledOne w) (s : ℕ) → AllMute s (k.effects ++ fault_of k.by k.it.node)
settled_mute w k s = All-append (Mute s) k.effects (fault_of k.by k.it.node) (silent_mute s k.effects k.silent) (fault_of_mute s k.it.node k.by)

-- a request that is over
ends_tells_none : (s : ℕ) (x : Item) → EndsFor s x → IsTrue (tells_no_request x)
ends_tells_none s (item.AskBegin session node) ends = absurd ends
ends_tells_none s (item.AskCommit session node start) ends = absurd ends
ends_tells_none s (item.Accept session node term reading) ends = absurd ends
ends_tells_none s (item.Draw session node term start commit) ends = absurd ends
ends_tells_none s _ ends = refl

pub ended_mute : (w : State) (k : Ended w) (s : ℕ) → AllMute s (k.last ∷ [])
ended_mute w k s = always_mute s k.last (ends_tells_none k.it.session k.last k.ends)

-- an outcome that was learned
pub learned_mute : (w : State) (k : Learned w) (s : ℕ) → AllMute s (k.steps ++ k.last ∷ [])
learned_mute w k s = All-append (Mute s) k.steps (k.last ∷ []) (silent_mute s k.steps k.silent) (always_mute s k.last (ends_tells_none k.session k.last k.ends))
