-- A request that had drawn nothing is ended by a refusal that leaves cells, and neither by a crash nor by an open outcome.
use Rattle.request_completion.proofs.Names.{◌≡◌, ℕ, true, IsTrue, List, [], ◌∷◌, ◌++◌, Some, ◌⊎◌, inl, inr, refl, sym}
use Rattle.request_completion.proofs.Names.{◌∙◌, ap, subst, none-some, Cause, Session, Item, Held, Progress}
use Rattle.request_completion.proofs.Names.{InstanceEntry, held_of, State, ends_request, Due, AreDue, DueSettled}
use Rattle.request_completion.proofs.Names.{IsolationInvariant, InstanceAt, one_instance, one_held, held_by, Ended}
use Rattle.request_completion.proofs.Names.{leaves_cells}
use Rattle.history_book.specs.declared.cause.Cause.TheVariants as cause
use Rattle.history_book.specs.declared.item.Item.TheVariants as item
use Rattle.system_parts.specs.declared.instance.Progress.TheVariants as progress
use Rattle.system_parts.specs.declared.instance.Settled.TheVariants as how

-- ---- nothing stands before it
none_behind : (kept : List Item) (x : Item) → [] ≡ kept ++ x ∷ [] → ⊥
none_behind [] x is = cc
none_behind (y ∷ kept) x is = cc

none_first : (x : Item) (xs : List Item) → [] ≡ x ∷ xs → ⊥
none_first x xs is = cc

-- ---- no commit of it is settled
not_settled : (p : Progress) (commit : ℕ) → (p ≡ progress.Asked) ⊎ (p ≡ progress.Accepted) → p ≡ progress.Settled commit how.Faulted → ⊥
not_settled p commit (inl asked) settled = let clash : progress.Asked ≡ progress.Settled commit how.Faulted = sym asked ∙ settled in cc
not_settled p commit (inr accepted) settled = let clash : progress.Accepted ≡ progress.Settled commit how.Faulted = sym accepted ∙ settled in cc

held_there : (w : State) (h : List Item) (k : Ended w) (s start : ℕ) (due : DueSettled w s start how.Faulted) → IsolationInvariant w h → k.session ≡ s → held_of due.i s ≡ Some k.held
held_there w h k s start due holds same =
    let has : held_of k.i s ≡ Some k.held = subst (λ (r : ℕ). held_of k.i r ≡ Some k.held) same k.has in
    let here : k.node ≡ due.serves.node = holds.requests.requests.one k.node due.serves.node s k.i due.i k.held.request _ k.held.progress _ k.at due.serves.at (held_by k.i s k.held has) due.serves.holds in
    let one : k.i ≡ due.i = one_instance w.nodes due.serves.node k.i due.i (subst (λ (n : ℕ). InstanceAt w.nodes n k.i) here k.at) due.serves.at in
    subst (λ (i : InstanceEntry). held_of i s ≡ Some k.held) one has

settled_not : (w : State) (h : List Item) (k : Ended w) (start : ℕ) → IsolationInvariant w h → DueSettled w k.session start how.Faulted → ⊥
settled_not w h k start holds due =
    let same : due.serves.holds.held ≡ k.held = one_held due.i k.session due.serves.holds.held k.held due.serves.holds.has (held_there w h k k.session start due holds refl) in
    not_settled k.held.progress due.commit k.undrawn (ap (λ (held : Held). held.progress) (sym same) ∙ due.serves.holds.stands)

-- ---- by the cause
open_not : (w : State) (h : List Item) (k : Ended w) (start : ℕ) → IsolationInvariant w h → Due w [] (item.Refused (Session k.session) (cause.Open start)) → ⊥
open_not w h k start holds (inl any) = none-some (any w.setup []).node (any w.setup []).node_is
open_not w h k start holds (inr (inl now)) = settled_not w h k start holds now.1
open_not w h k start holds (inr (inr (inl loss))) = none_first (item.Crash loss.serves.node loss.i.term) loss.earlier loss.told_is
open_not w h k start holds (inr (inr (inr placing))) = none_behind placing.how.1.kept _ placing.how.1.told_is

crashed_not : (w : State) (s node term : ℕ) → Due w [] (item.Refused (Session s) (cause.Crashed node term)) → ⊥
crashed_not w s node term (inl any) = none-some node (any w.setup []).node_is
crashed_not w s node term (inr (inl now)) = now.1
crashed_not w s node term (inr (inr (inl loss))) = none_first (item.Crash loss.serves.node loss.i.term) loss.earlier loss.told_is
crashed_not w s node term (inr (inr (inr placing))) = placing.how

by_cause : (w : State) (h : List Item) (k : Ended w) (why : Cause) → IsolationInvariant w h → IsTrue (ends_request why) → Due w [] (item.Refused (Session k.session) why) → leaves_cells why ≡ true
by_cause w h k (cause.Expired reading until) holds ends due = refl
by_cause w h k (cause.OldEpoch start epoch) holds ends due = refl
by_cause w h k (cause.Conflict key by) holds ends due = refl
by_cause w h k (cause.Hidden key water) holds ends due = refl
by_cause w h k (cause.Replaced found) holds ends due = refl
by_cause w h k (cause.Spent ceiling) holds ends due = refl
by_cause w h k (cause.Invalid start) holds ends due = refl
by_cause w h k (cause.Open start) holds ends due = absurd (open_not w h k start holds due)
by_cause w h k (cause.Crashed node term) holds ends due = absurd (crashed_not w k.session node term due)
by_cause w h k _ holds ends due = absurd (cc)

pub ended_leaves : (w : State) (h : List Item) (k : Ended w) → IsolationInvariant w h → AreDue w k.items → leaves_cells k.why ≡ true
ended_leaves w h k holds due = by_cause w h k k.why holds k.ends ((subst (AreDue w) k.tells due).at 0 (item.Refused (Session k.session) k.why) refl)
