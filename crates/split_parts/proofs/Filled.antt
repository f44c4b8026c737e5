-- The engine that lent parts fill up makes their event, and gives them back as the step leaves them.
use Rattle.split_parts.proofs.Names.{◌≡◌, [], ◌++◌, length, Option, Some, None, Result, Ok, Err, sym, ap, ◌∙◌, subst}
use Rattle.split_parts.proofs.Names.{IfSome, IsErr, OnErr, SetupNumbers, Store, Fate, Event, State, opening, rules_of}
use Rattle.split_parts.proofs.Names.{Step, asks, stepped, Leasing, Stopped, Refused, StoreFault, NoMemory, CanMake}
use Rattle.split_parts.proofs.Names.{Acts, asked_of, noted, step_of, stopped_of, CallsFit, Ends, called_after, Parts}
use Rattle.split_parts.proofs.Names.{Record, LeasesBySetup, called, fate_of, filled, given_from, master_called}
use Rattle.split_parts.proofs.Names.{setup_of, with_lent, Acted}
use Rattle.stamp_base.specs.declared.stores.Store.TheVariants as store
use Rattle.machine.proofs.PartsKept.{leaves_parts}
use Rattle.cluster_core.specs.ClusterModel.{ClusterModel, MakesStep}
use Rattle.split_parts.proofs.Giving.{given_back, given_called, given_fate, given_fit, given_leases, given_twice}

-- ---- what the engine is filled up with
-- a swap: the parts that were lent, those that are set in for them, what is left of these, and the engine as it was opened and filled up
pub record Swap : Type 0 where
  pub lent : Parts
  pub set_in : Parts
  pub left : Parts
  pub opened : State
  pub full : State

pub record Swapped (x : Swap) : Type 0 where
  pub setup : x.opened ≡ opening (setup_of x.lent)
  pub same : x.set_in ≡ x.lent
  pub state : x.full ≡ with_lent x.opened x.set_in
  pub parts : x.left ≡ given_from x.set_in x.opened

filled_up : (x : Swap) → Swapped x → x.full ≡ filled x.lent
filled_up x swapped = swapped.state ∙ (λ k. with_lent (swapped.setup k) (swapped.same k))

given_up : (x : Swap) → Swapped x → x.left ≡ given_from x.lent (opening (setup_of x.lent))
given_up x swapped = swapped.parts ∙ (λ k. given_from (swapped.same k) (swapped.setup k))

pub calls_fit_then : (x : Swap) (e : Event) → Swapped x → CallsFit x.lent (asks (filled x.lent) e) → CallsFit x.left (asks x.full e)
calls_fit_then x e swapped fit =
    subst (λ (p : Parts). CallsFit p (asks x.full e)) (sym (given_up x swapped)) (given_fit (asks x.full e) x.lent (opening (setup_of x.lent)) (subst (λ (v : State). CallsFit x.lent (asks v e)) (sym (filled_up x swapped)) fit))

pub can_make_then : (x : Swap) (e : Event) → Swapped x → CanMake (filled x.lent) e → CanMake x.full e
can_make_then x e swapped can = subst (λ (v : State). CanMake v e) (sym (filled_up x swapped)) can

-- ---- the step of the engine that was filled up
-- its swap and its event, the engine before and after it, and the parts outside of the engine after it
pub record Round : Type 0 where
  pub swap : Swap
  pub event : Event
  pub old : ClusterModel
  pub now : ClusterModel
  pub after : Parts

-- the store that the event asks
abbrev pub asked_in : Round → Option Store
asked_in x = asks x.swap.full x.event

abbrev pub step_in : Round → Step
step_in x = stepped x.swap.full x.event (fate_of x.swap.left (asked_in x))

-- it was made after the swap, as far as it came, and its call was counted
pub record IsMade (x : Round) (result : Result Unit Stopped) : Type 0 where
  pub swapped : Swapped x.swap
  pub full : x.old.state ≡ x.swap.full
  pub made : MakesStep (step_in x) x.old x.now result
  pub counted : x.after ≡ called_after (asked_in x) result x.swap.left

-- ---- the record leases by the setup still
called_record : (rules : Leasing) (part : Option Record) → IfSome part (λ p. p.rules ≡ rules) → IfSome (master_called part) (λ p. p.rules ≡ rules)
called_record rules None leases = tt
called_record rules (Some p) leases = leases

called_leases : (asked : Option Store) (rules : Leasing) (l : Parts) → IfSome l.master (λ p. p.rules ≡ rules) → IfSome (called asked l).master (λ p. p.rules ≡ rules)
called_leases None rules l leases = leases
called_leases (Some store.Cells) rules l leases = leases
called_leases (Some store.Table) rules l leases = leases
called_leases (Some store.Master) rules l leases = called_record rules l.master leases

after_leases : (asked : Option Store) (result : Result Unit Stopped) (rules : Leasing) (l : Parts) → IfSome l.master (λ p. p.rules ≡ rules) → IfSome (called_after asked result l).master (λ p. p.rules ≡ rules)
after_leases asked (Ok _) rules l leases = called_leases asked rules l leases
after_leases asked (Err (Refused why)) rules l leases = called_leases asked rules l leases
after_leases asked (Err (StoreFault s)) rules l leases = called_leases asked rules l leases
after_leases asked (Err NoMemory) rules l leases = leases

made_setup : (s : State) (e : Event) (fate : Fate) (old now : ClusterModel) (result : Result Unit Stopped) → old.state ≡ s → MakesStep (stepped s e fate) old now result → now.state.setup ≡ s.setup
made_setup s e fate old now (Ok _) at made = ap (λ (v : State). v.setup) made.parts ∙ (leaves_parts s e fate).setup
made_setup s e fate old now (Err (Refused why)) at made = ap (λ (v : State). v.setup) made.parts ∙ (leaves_parts s e fate).setup
made_setup s e fate old now (Err (StoreFault x)) at made = ap (λ (v : State). v.setup) made.parts ∙ (leaves_parts s e fate).setup
made_setup s e fate old now (Err NoMemory) at made = ap (λ (v : State). v.setup) (made.0 ∙ at)

pub leases_still : (x : Round) (result : Result Unit Stopped) → IsMade x result → LeasesBySetup x.swap.lent → IfSome x.after.master (λ p. p.rules ≡ rules_of x.now.state.setup)
leases_still x result is leases =
    let lent : Parts = x.swap.lent in
    let setup : x.now.state.setup ≡ setup_of lent = made_setup x.swap.full x.event (fate_of x.swap.left (asked_in x)) x.old x.now result is.full is.made ∙ ap (λ (v : State). v.setup) (filled_up x.swap is.swapped) in
    let before : IfSome x.swap.left.master (λ p. p.rules ≡ rules_of (setup_of lent)) = subst (λ (p : Parts). IfSome p.master (λ r. r.rules ≡ rules_of (setup_of lent))) (sym (given_up x.swap is.swapped)) (given_leases (rules_of (setup_of lent)) (opening (setup_of lent)).master lent.master leases) in
    subst (λ (p : Parts). IfSome p.master (λ r. r.rules ≡ rules_of x.now.state.setup)) (sym is.counted) (subst (λ (y : SetupNumbers). IfSome (called_after (asked_in x) result x.swap.left).master (λ r. r.rules ≡ rules_of y)) (sym setup) (after_leases (asked_in x) result (rules_of (setup_of lent)) x.swap.left before))

-- ---- and the parts come back
-- how many there are before the first swap and before the second
pub record AreCounted (w v : State) : Type 0 where
  pub clients : length w.clients ≡ 16
  pub others : length v.clients ≡ 16
  pub nodes : length w.nodes ≡ w.setup.nodes
  pub posts : length v.nodes ≡ v.setup.nodes

same_nodes : (l : Parts) (w v : State) → w ≡ opening (setup_of l) → v.setup ≡ setup_of l → AreCounted w v → length w.nodes ≡ length v.nodes
same_nodes l w v opened setup counted = counted.nodes ∙ ap (λ (x : State). x.setup.nodes) opened ∙ sym (ap (λ (x : SetupNumbers). x.nodes) setup) ∙ sym counted.posts

given_again : (x : Swap) (v : State) → Swapped x → v.setup ≡ setup_of x.lent → AreCounted x.opened v → given_from x.left v ≡ given_from x.lent v
given_again x v swapped setup counted =
    ap (λ (p : Parts). given_from p v) (swapped.parts ∙ ap (λ (p : Parts). given_from p x.opened) swapped.same) ∙ given_twice x.lent x.opened v counted.clients counted.others (same_nodes x.lent x.opened v swapped.setup setup counted)

-- the second swap: the parts at the end are those that the engine gives back
pub record IsBack (x : Round) (end : Parts) : Type 0 where
  pub counts : AreCounted x.swap.opened x.now.state
  pub parts : end ≡ given_from x.after x.now.state

err_is_not : {E : Type 0} → (r : Result (Option Stopped) E) (x : Option Stopped) → r ≡ Ok x → IsErr r → ⊥
err_is_not (Ok y) x is err = absurd (cc)
err_is_not (Err e) x is err = absurd (cc)

-- where memory was refused they are as before
pub back_as_before : {E : Type 0} → (x : Round) (end : Parts) (result : Result Unit Stopped) (r : Result (Option Stopped) E) → IsMade x result → IsBack x end → Ends result r → IsErr r → end ≡ x.swap.lent
back_as_before x end (Ok _) r is back ends err = absurd (err_is_not r None ends err)
back_as_before x end (Err (Refused why)) r is back ends err = absurd (err_is_not r (Some (Refused why)) ends err)
back_as_before x end (Err (StoreFault s)) r is back ends err = absurd (err_is_not r (Some (StoreFault s)) ends err)
back_as_before x end (Err NoMemory) r is back ends err =
    let now : State = x.now.state in
    let at : now ≡ filled x.swap.lent = is.made.0 ∙ is.full ∙ filled_up x.swap is.swapped in
    back.parts ∙ ap (λ (p : Parts). given_from p now) is.counted ∙ given_again x.swap now is.swapped (ap (λ (v : State). v.setup) at) back.counts ∙ ap (λ (v : State). given_from x.swap.lent v) at ∙ given_back (opening (setup_of x.swap.lent)) x.swap.lent

done_of : {E : Type 0} → Result (Option Stopped) E → Option Stopped
done_of (Ok stopped) = stopped
done_of (Err e) = None

same_ok : {E : Type 0} → (a b : Option Stopped) (r : Result (Option Stopped) E) → r ≡ Ok a → r ≡ Ok b → a ≡ b
unfolding done_of
same_ok a b r is was = sym (ap done_of is) ∙ ap done_of was

-- otherwise they are those after the step, whose items are told
pub record IsTold (x : Round) (acted : Acted) : Type 0 where
  pub none : x.old.history ≡ []
  pub items : acted.items.items ≡ x.now.history

-- the step came to its end, and stopped so
record CameTo (x : Round) (stopped : Option Stopped) : Type 0 where
  state : x.now.state ≡ (step_in x).state
  items : x.now.history ≡ x.old.history ++ (step_in x).items
  stop : stopped ≡ stopped_of (step_in x).stop
  counted : x.after ≡ called (asked_in x) x.swap.left

acts_then : (x : Round) (end final : Parts) (acted : Acted) → Swapped x.swap → CameTo x acted.stopped → IsBack x end → final ≡ noted x.event end → IsTold x acted → Acts x.swap.lent final x.event acted
acts_then x end final acted swapped came back noting told =
    let l : Parts = x.swap.lent in
    let e : Event = x.event in
    let full = filled_up x.swap swapped in
    let given = given_up x.swap swapped in
    let fate : fate_of x.swap.left (asked_in x) ≡ fate_of l (asked_of l e) = ap (λ (p : Parts). fate_of p (asked_in x)) given ∙ given_fate (asked_in x) l (opening (setup_of l)) ∙ ap (λ (v : State). fate_of l (asks v e)) full in
    let step : step_in x ≡ step_of l e = λ k. stepped (full k) e (fate k) in
    let setup : x.now.state.setup ≡ setup_of l = ap (λ (v : State). v.setup) came.state ∙ (leaves_parts x.swap.full e (fate_of x.swap.left (asked_in x))).setup ∙ ap (λ (v : State). v.setup) full in
    record {
      items = told.items ∙ came.items ∙ (λ k. told.none k ++ (step k).items);
      stopped = came.stop ∙ ap (λ y. stopped_of y.stop) step;
      parts = noting ∙ ap (noted e) (back.parts ∙ ap (λ (p : Parts). given_from p x.now.state) came.counted ∙ given_called (asked_in x) x.swap.left x.now.state
          ∙ (λ k. called (asks (full k) e) (given_again x.swap x.now.state swapped setup back.counts k)) ∙ ap (λ (v : State). called (asked_of l e) (given_from l v)) (came.state ∙ ap (λ y. y.state) step));
    }

came_to : {E : Type 0} → (x : Round) (result : Result Unit Stopped) (stopped : Option Stopped) (r : Result (Option Stopped) E) → IsMade x result → Ends result r → r ≡ Ok stopped → CameTo x stopped
came_to x (Ok _) stopped r made ends is =
    record { state = made.made.parts; items = made.made.items; stop = same_ok stopped None r is ends ∙ sym (ap stopped_of made.made.stop); counted = made.counted }
came_to x (Err (Refused why)) stopped r made ends is =
    record { state = made.made.parts; items = made.made.items; stop = same_ok stopped (Some (Refused why)) r is ends ∙ sym (ap stopped_of made.made.stop); counted = made.counted }
came_to x (Err (StoreFault s)) stopped r made ends is =
    record { state = made.made.parts; items = made.made.items; stop = same_ok stopped (Some (StoreFault s)) r is ends ∙ sym (ap stopped_of made.made.stop); counted = made.counted }
came_to x (Err NoMemory) stopped r made ends is = absurd (err_is_not r stopped is ends)

pub acts_by : {E : Type 0} → (x : Round) (end final : Parts) (result : Result Unit Stopped) (acted : Acted) (r : Result (Option Stopped) E) → IsMade x result → IsBack x end → Ends result r → r ≡ Ok acted.stopped → final ≡ noted x.event end → IsTold x acted → Acts x.swap.lent final x.event acted
acts_by x end final result acted r made back ends is noting told = acts_then x end final acted made.swapped (came_to x result acted.stopped r made ends is) back noting told

pub on_err : {T E : Type 0} → (r : Result T E) (P : Type 0) → P → OnErr r P
on_err (Ok x) P holds = tt
on_err (Err e) P holds = holds

-- ---- for events of the lent parts themselves
pub not_err : {E : Type 0} → (r : Result (Option Stopped) E) (x : Option Stopped) → r ≡ Ok x → IsErr r → ⊥
not_err r x is err = err_is_not r x is err

pub came_stop : {E : Type 0} → (a b : Option Stopped) (r : Result (Option Stopped) E) → r ≡ Ok a → r ≡ Ok b → a ≡ b
came_stop a b r is was = same_ok a b r is was
