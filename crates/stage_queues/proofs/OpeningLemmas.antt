-- For reply_pipeline too.
-- The passes of sessions, on their way to reach a node more.
use Rattle.std.proofs.Common.{◌≡◌, ℕ, zero, suc, ◌+◌, ◌-◌, ◌⊎◌, ◌<◌, ◌≤◌, List, [], ◌∷◌, ◌++◌, length, map, get_or, inl, inr, refl, sym, ap, ◌∙◌, append-nil, arith}
use Rattle.std.specs.List.{range_with_len}
use Rattle.std.proofs.lemmas.List.FromFn.{length-map-range_with_len, get_or-map-range_with_len, map-range_with_len_more, fill_by_all}
use Rattle.std.specs.Prelude.{None, Some, slice_get, flat_map}
use Rattle.std.proofs.lemmas.Option.{same_Some}
use Rattle.std.proofs.lemmas.List.Concat.{flat_map-append}
use Rattle.queue_passes.specs.Holds.{Holds, holds, whole}
use Rattle.batch_rule.specs.declared.account.BatchAccount.{BatchAccount}
use Rattle.batch_rule.specs.Accounts.{worker_account}
use Rattle.settled_rule.specs.declared.account.SettledAccount.{SettledAccount}
use Rattle.settled_rule.specs.Accounts.{new_account}
use Rattle.stage_queues.specs.Plan.{NodeRings, AreNumbered}
use Rattle.stage_queues.specs.Passes.{StageAccount}
use Rattle.stage_queues.specs.declared.spot.Row.{Row}
use Rattle.stage_queues.specs.declared.waiting.Place.{Place}
use Rattle.stage_queues.specs.Spots.{spot, StandIn}
use Rattle.stage_queues.specs.Opening.{stage_pass, worker_pass, session_pass, session_passes}

abbrev pub nobody : StageAccount
nobody = record { worker = 0; held = 0; nodes = [] }

-- of so many passes those below i reach the node, and the others are as they were
pub record ReachBelow (i count : ℕ) (rings : List NodeRings) (node : NodeRings) (passes : List StageAccount) : Type 0 where
  pub fit : length passes ≡ count
  pub reached : (k : ℕ) → k < i → get_or passes k nobody ≡ session_pass (rings ++ node ∷ []) k
  pub kept : (k : ℕ) → i ≤ k → k < count → get_or passes k nobody ≡ session_pass rings k

pub none_reach : (count : ℕ) (rings : List NodeRings) (node : NodeRings) (passes : List StageAccount) → passes ≡ session_passes count rings → ReachBelow 0 count rings node passes
none_reach count rings node passes is = record {
  fit = ap length is ∙ length-map-range_with_len (session_pass rings) 0 count;
  reached = λ k lt. absurd (omega arith);
  kept = λ k low lt. ap (λ l. get_or l k nobody) is ∙ get_or-map-range_with_len (session_pass rings) 0 count k k nobody lt (omega arith);
}

pub all_reach : (i count : ℕ) (rings : List NodeRings) (node : NodeRings) (passes : List StageAccount) → count ≤ i → ReachBelow i count rings node passes → passes ≡ session_passes count (rings ++ node ∷ [])
all_reach i count rings node passes le h = fill_by_all (session_pass (rings ++ node ∷ [])) passes count nobody h.fit (λ k lt. h.reached k (omega arith))

pub one_more_worker : (nodes i : ℕ) (rings : NodeRings) (passes : List StageAccount) (pass : StageAccount) (batches : Holds BatchAccount) (settled : Holds SettledAccount) → passes ≡ map (worker_pass nodes rings) (range_with_len 0 i)
    → pass ≡ stage_pass nodes rings.node i (record { requests = None; batches = Some batches; settled = Some settled }) → batches ≡ holds rings.batches.id worker_account → settled ≡ holds rings.settled.id new_account
    → passes ++ pass ∷ [] ≡ map (worker_pass nodes rings) (range_with_len 0 (i + 1))
one_more_worker nodes i rings passes pass batches settled old is b s =
    let new : pass ≡ worker_pass nodes rings i = is ∙ (λ k. stage_pass nodes rings.node i (record { requests = None; batches = Some (b k); settled = Some (s k) })) in
    (λ k. old k ++ new k ∷ []) ∙ sym (map-range_with_len_more (worker_pass nodes rings) 0 i i (omega arith))

-- a part less is left
pub part_less : (i : ℕ) → whole - i - 1 ≡ whole - (i + 1)
part_less i = omega arith

pub get_push : {A : Type 0} (xs : List A) (x y : A) (n : ℕ) → slice_get (xs ++ x ∷ []) n ≡ Some y → (slice_get xs n ≡ Some y) ⊎ ((n ≡ length xs) × (x ≡ y))
get_push [] x y zero e = inr (refl, same_Some x y e)
get_push [] x y (suc n) e = inl e
get_push (z ∷ xs) x y zero e = inl e
get_push (z ∷ xs) x y (suc n) e = elim (get_push xs x y n e) [ inl h ↦ inl h | inr h ↦ inr (ap suc h.0, h.1) ]

pub numbered_push : (nodes : List NodeRings) (node : NodeRings) → AreNumbered nodes → node.node ≡ length nodes → AreNumbered (nodes ++ node ∷ [])
numbered_push nodes node h is n rings at = elim (get_push nodes node rings n at) [ inl e ↦ h n rings e | inr e ↦ ap (λ (r : NodeRings). r.node) (sym e.1) ∙ is ∙ sym e.0 ]

pub stand_push : (row : Row) (places : List Place) (place : Place) → StandIn row places → place.bell.spot ≡ spot row (length places) → StandIn row (places ++ place ∷ [])
stand_push row places place h is n other at = elim (get_push places place other n at) [ inl e ↦ h n other e | inr e ↦ ap (λ (p : Place). p.bell.spot) (sym e.1) ∙ is ∙ ap (spot row) (sym e.0) ]

pub flat_map_push : {A B : Type 0} (f : A → List B) (xs : List A) (x : A) → flat_map f (xs ++ x ∷ []) ≡ flat_map f xs ++ f x
flat_map_push f xs x = flat_map-append f xs (x ∷ []) ∙ ap (λ l. flat_map f xs ++ l) (append-nil (f x))
