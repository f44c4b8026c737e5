-- Each node transition keeps what the history shows of instances: their last take, their lease, and that they have not crashed.
use Rattle.cause_laws.proofs.Names.{◌≡◌, ℕ, ◌+◌, ◌≤◌, max, Bool, true, false, List, [], ◌∷◌, ◌++◌, inl, inr, refl, sym}
use Rattle.cause_laws.proofs.Names.{subst, arith, All-nil, granted, ◌∈◌, Item, in_last, InstanceEntry, instance_renewed}
use Rattle.cause_laws.proofs.Names.{State, rules_of, instance_of, take_item, InstanceAt, ReachedInvariant, takes_for}
use Rattle.cause_laws.proofs.Names.{since_take, TookLast, LeasedUntil, StandsSince, AreTaken, ShownInvariant}
use Rattle.history_book.specs.declared.item.Item.TheVariants as item
use Rattle.cause_laws.proofs.NodeTransitions.{NodeTransition, OfRenewed, Granted, Renewed, fault_if, renewed_to, nodes_by, items_by}
use Rattle.cause_laws.proofs.PostWords.{NoTakes, NoCrashes, since_take_on, took_on, leased_on, stands_on, last_take_new, since_take_new}
use Rattle.cause_laws.proofs.PostItems.{calm_no_takes}
use Rattle.cause_laws.proofs.PostMoves.{calm_by, KeptBy, each_by}

-- what the history shows of one instance
record IsTaken (g : List Item) (n : ℕ) (i : InstanceEntry) : Type 0 where
  took : TookLast g n i.term i.epoch
  leased : LeasedUntil g n i.until
  stands : StandsSince g n

taken_told : (w : State) (h items : List Item) (m : ℕ) (i : InstanceEntry) → AreTaken w.nodes h → InstanceAt w.nodes m i → NoTakes m items → NoCrashes m items → IsTaken (h ++ items) m i
taken_told w h items m i taken at takes crashes = record {
  took = took_on h items m i.term i.epoch takes (taken.took m i at);
  leased = leased_on h items m i.until takes (taken.leased m i at);
  stands = stands_on h items m takes crashes (taken.stands m i at);
}

-- ---- the instance of a take: nothing stands behind the take
taken_anew : (w : State) (h : List Item) (k : Granted w) (failed : Bool) → failed ≡ false → IsTaken (h ++ (take_item k.node k.reading (granted (rules_of w.setup) w.master k.reading) ∷ fault_if failed k.node)) k.node (instance_of w.setup k.node (granted (rules_of w.setup) w.master k.reading))
unfolding ◌∈◌
taken_anew w h k true whole = absurd (cc)
taken_anew w h k false whole =
    let grant = granted (rules_of w.setup) w.master k.reading in
    let last = last_take_new h [] k.node k.reading grant.term grant.epoch grant.until grant.ceiling (All-nil (λ (x : Item). takes_for k.node x ≡ false)) in
    record {
      took = record { take = _; last = last; term_is = refl; epoch_is = refl };
      leased = record { take = _; last = last; by = inl refl };
      stands = λ term m. subst (λ xs. item.Crash k.node term ∈ xs) (since_take_new h [] k.node k.reading grant.term grant.epoch grant.until grant.ceiling (All-nil (λ (x : Item). takes_for k.node x ≡ false))) m;
    }

-- ---- a renewal: the record's lease, which covers the instance's, goes up, and the instance gets it
max_at : (a b : ℕ) → a ≤ b → b ≡ max a b
max_at a b within = grind arith

lease_goes_up : (w : State) (k : Renewed w) → k.i.until ≤ w.master.until → renewed_to w k ≡ max k.i.until (renewed_to w k)
lease_goes_up w k within = max_at k.i.until (renewed_to w k) (below_max k.i.until w.master.until (k.reading + w.setup.lease) within)
  where
    below_max : (a b c : ℕ) → a ≤ b → a ≤ max b c
    below_max a b c less = grind arith

taken_renewed : (w : State) (h : List Item) (k : Renewed w) → k.i.until ≤ w.master.until → IsTaken (h ++ items_by w (OfRenewed k)) k.node k.i → IsTaken (h ++ items_by w (OfRenewed k)) k.node (instance_renewed k.i (renewed_to w k))
taken_renewed w h k within taken =
    let told : Item = item.Renew k.node k.reading k.i.term (renewed_to w k) in
    let since : since_take (h ++ told ∷ []) k.node ≡ since_take h k.node ++ told ∷ [] = since_take_on h (told ∷ []) k.node (calm_no_takes k.node (told ∷ []) (calm_by w (OfRenewed k) refl)) in
    let given : LeasedUntil (h ++ told ∷ []) k.node (renewed_to w k) = record {
      take = taken.leased.take;
      last = taken.leased.last;
      by = inr (k.reading, k.i.term, subst (λ xs. told ∈ xs) (sym since) (in_last told (since_take h k.node)));
    } in
    record {
      took = taken.took;
      leased = subst (λ until. LeasedUntil (h ++ told ∷ []) k.node until) (lease_goes_up w k within) given;
      stands = taken.stands;
    }

-- ---- all
taken_kept_by : (w : State) (h : List Item) → ReachedInvariant w h → ShownInvariant w h → KeptBy w (λ items n i. IsTaken (h ++ items) n i)
taken_kept_by w h stands shows = record {
  told = λ items m i at takes crashes. taken_told w h items m i shows.taken at takes crashes;
  requests = λ items m i now kept. record { took = kept.took; leased = kept.leased; stands = kept.stands };
  took = λ k whole. taken_anew w h k k.failed whole;
  renewed = λ k kept. taken_renewed w h k (stands.holds.numbers.leases.present k.node k.i k.at (sym k.own)) kept;
  widened = λ k kept. record { took = kept.took; leased = kept.leased; stands = kept.stands };
  stopped = λ k kept. record { took = kept.took; leased = kept.leased; stands = kept.stands };
  drew = λ k kept. record { took = kept.took; leased = kept.leased; stands = kept.stands };
}

pub taken_kept : (w : State) (h : List Item) (d : NodeTransition w) → ReachedInvariant w h → ShownInvariant w h → AreTaken (nodes_by w d) (h ++ items_by w d)
taken_kept w h d stands shows =
    let all = each_by w (λ items n i. IsTaken (h ++ items) n i) (taken_kept_by w h stands shows) d in
    record {
      took = λ n i at. (all n i at).took;
      leased = λ n i at. (all n i at).leased;
      stands = λ n i at. (all n i at).stands;
    }
