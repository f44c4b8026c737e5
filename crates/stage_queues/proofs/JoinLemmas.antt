-- Two threads' passes on their way to be joined, node by node.
use Rattle.std.proofs.Common.{◌≡◌, ◌≢◌, ℕ, ◌+◌, ◌<◌, ◌≤◌, ◌==◌, List, length, set, get_or, inl, inr, sym, ◌∙◌, subst, get_or-set_same, get_or-set_other, arith}
use Rattle.std.specs.Prelude.{Option, None, Some, IfSome}
use Rattle.std.proofs.lemmas.Option.{slice_get_within}
use Rattle.std.proofs.lemmas.Bool.{cases_Bool, eqb-true, eqb-false}
use Rattle.std.proofs.lemmas.List.{length-set, get_or_default}
use Rattle.stage_queues.specs.declared.node_pass.NodePass.{NodePass}
use Rattle.queue_passes.specs.Holds.{Ring, Holds}
use Rattle.stage_queues.specs.Plan.{NodeRings}
use Rattle.stage_queues.specs.NodePasses.{nothing, IsOfRing, IsNodePassOf, both, joined_node, TellsNode}
use Rattle.stage_queues.specs.Passes.{pass_at, AreNodePassesOf}

-- below i the passes are joined, and from i on they are as they were
pub record AreJoinedBelow (i : ℕ) (mine_before theirs_before mine theirs : List NodePass) : Type 0 where
  pub mine_fit : length mine ≡ length mine_before
  pub theirs_fit : length theirs ≡ length theirs_before
  pub joined : (node : ℕ) → node < i → pass_at mine node ≡ joined_node (pass_at mine_before node) (pass_at theirs_before node)
  pub tells : (node : ℕ) → node < i → TellsNode (pass_at mine node)
  pub mine_kept : (node : ℕ) → i ≤ node → pass_at mine node ≡ pass_at mine_before node
  pub theirs_kept : (node : ℕ) → i ≤ node → pass_at theirs node ≡ pass_at theirs_before node

abbrev put : List NodePass → ℕ → NodePass → NodePass → List NodePass
put xs i gone new = set (set xs i gone) i new

at_i : (xs : List NodePass) (i : ℕ) (gone new : NodePass) → i < length xs → pass_at (put xs i gone new) i ≡ new
at_i xs i gone new lt = get_or-set_same (set xs i gone) i new nothing (omega (arith, length-set xs i gone))

away : (xs : List NodePass) (i node : ℕ) (gone new : NodePass) → node ≢ i → pass_at (put xs i gone new) node ≡ pass_at xs node
away xs i node gone new ne = get_or-set_other (set xs i gone) i node new nothing ne ∙ get_or-set_other xs i node gone nothing ne

pub joins_one : (i : ℕ) (m0 t0 m t : List NodePass) (own other d d' gone gone' new : NodePass) → AreJoinedBelow i m0 t0 m t → i < length m → i < length t
    → own ≡ get_or m i d → other ≡ get_or t i d' → new ≡ joined_node own other → TellsNode new → AreJoinedBelow (i + 1) m0 t0 (put m i gone new) (set t i gone')
joins_one i m0 t0 m t own other d d' gone gone' new h lt lt' is is' joins tells =
    let mine : own ≡ pass_at m0 i = is ∙ get_or_default m i d nothing lt ∙ h.mine_kept i (omega arith) in
    let theirs : other ≡ pass_at t0 i = is' ∙ get_or_default t i d' nothing lt' ∙ h.theirs_kept i (omega arith) in
    let here : pass_at (put m i gone new) i ≡ joined_node (pass_at m0 i) (pass_at t0 i) = at_i m i gone new lt ∙ joins ∙ (λ k. joined_node (mine k) (theirs k)) in record {
      mine_fit = length-set (set m i gone) i new ∙ length-set m i gone ∙ h.mine_fit;
      theirs_fit = length-set t i gone' ∙ h.theirs_fit;
      joined = λ node below. elim (cases_Bool (node == i)) [
        | inl q ↦ subst (λ n. pass_at (put m i gone new) n ≡ joined_node (pass_at m0 n) (pass_at t0 n)) (sym (eqb-true node i q)) here
        | inr q ↦ let ne = eqb-false node i q in away m i node gone new ne ∙ h.joined node (omega arith)
      ];
      tells = λ node below. elim (cases_Bool (node == i)) [
        | inl q ↦ subst (λ n. TellsNode (pass_at (put m i gone new) n)) (sym (eqb-true node i q)) (subst TellsNode (sym (at_i m i gone new lt)) tells)
        | inr q ↦ let ne = eqb-false node i q in subst TellsNode (sym (away m i node gone new ne)) (h.tells node (omega arith))
      ];
      mine_kept = λ node above. away m i node gone new (λ e. omega arith) ∙ h.mine_kept node (omega arith);
      theirs_kept = λ node above. get_or-set_other t i node gone' nothing (λ e. omega arith) ∙ h.theirs_kept node (omega arith);
    }

both_of_ring : {A : Type 0} (join : A → A → A) (ring : Ring) (mine theirs : Option (Holds A)) → IfSome mine (IsOfRing ring) → IfSome theirs (IsOfRing ring) → IfSome (both join mine theirs) (IsOfRing ring)
both_of_ring join ring None theirs h k = k
both_of_ring join ring (Some mine) None h k = h
both_of_ring join ring (Some mine) (Some theirs) h k = h

-- what was joined is of the rings of both
pub joined_are_of : (nodes : List NodeRings) (mine theirs joined : List NodePass) → AreNodePassesOf nodes mine → AreNodePassesOf nodes theirs → length joined ≡ length mine
    → ((node : ℕ) → node < length mine → pass_at joined node ≡ joined_node (pass_at mine node) (pass_at theirs node)) → AreNodePassesOf nodes joined
joined_are_of nodes mine theirs joined h k fit is = record {
  fit = fit ∙ h.fit;
  each = λ node rings at.
      let within : node < length mine = (let f = h.fit in omega (arith, slice_get_within nodes node rings at)) in
      let m = h.each node rings at in
      let t = k.each node rings at in
      subst (IsNodePassOf rings) (sym (is node within)) (record {
        requests = both_of_ring _ rings.requests _ _ m.requests t.requests;
        batches = both_of_ring _ rings.batches _ _ m.batches t.batches;
        settled = both_of_ring _ rings.settled _ _ m.settled t.settled;
      });
}
