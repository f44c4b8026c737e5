-- Nodes that are placed are all points of a trace in the order of their stamps.
use Rattle.std.proofs.Common.{◌≡◌, ℕ, zero, suc, ◌+◌, ◌-◌, ◌*◌, ◌<◌, ◌≤◌, ◌⊎◌, nat_lt, if◌then◌else◌, Bool, true, false, List, [], ◌∷◌, Option, None, Some, length, map, slice_get, slice_index, inl, inr, refl, sym, subst, ap, ◌∙◌, arith}
use Rattle.std.proofs.lemmas.Option.{same_Some, slice_get_within}
use Rattle.history_book.specs.Members.{◌∈◌}
use Rattle.history_book.proofs.MemberLemmas.{in_at}
use Rattle.trace_rules.specs.declared.trace.Transaction.{Transaction}
use Rattle.trace_rules.specs.declared.wanted.Level.{Level}
use Rattle.trace_rules.specs.Serial.{one_by_one, owner}
use Rattle.trace_rules.specs.Trace.{Trace, Done, committed_in}
use Rattle.trace_rules.specs.Stamping.{Stamping, Point, Start, Commit, stamp_of}
use Rattle.stamp_check.specs.Orders.{places_of, stamps_of}
use Rattle.asked_orders.specs.Keeps.{stamping_of}
use Rattle.trace_items.specs.Items.{InOrder, Ranked}
use Rattle.trace_items.proofs.Along.{from_taken, place_of}
use Rattle.stamped_history.specs.Order.{ArePlaced, Has, HaveNodes, point_of, points_of, stamps_by}

-- ---- a node's point
is_low : (n node : ℕ) → node < n → nat_lt node n ≡ true
is_low n node less = grind (arith, less)

is_high : (n node : ℕ) → n ≤ node → nat_lt node n ≡ false
is_high n node most = grind (arith, most)

low_or_high : (n node : ℕ) → (node < n) ⊎ (n ≤ node)
low_or_high n node = grind arith

pub start_point : (n node : ℕ) → node < n → point_of n node ≡ Start node
start_point n node less = ap (λ (b : Bool). if b then Start node else Commit (node - n)) (is_low n node less)

pub commit_point : (n node : ℕ) → n ≤ node → point_of n node ≡ Commit (node - n)
commit_point n node most = ap (λ (b : Bool). if b then Start node else Commit (node - n)) (is_high n node most)

back : (n node : ℕ) → n ≤ node → n + (node - n) ≡ node
back n node most = omega (arith, most)

pub snapshot_node : (n node : ℕ) (numbers : List ℕ) (stamp : ℕ) → stamp ≡ slice_index numbers node * (n + n) + node → stamp ≡ stamp_of (stamps_of n numbers) (point_of n node)
snapshot_node n node numbers stamp is = elim (low_or_high n node) [
  | inl less ↦ is ∙ sym (ap (stamp_of (stamps_of n numbers)) (start_point n node less))
  | inr most ↦ is ∙ ap (λ (m : ℕ). slice_index numbers m * (n + n) + m) (sym (back n node most)) ∙ sym (ap (stamp_of (stamps_of n numbers)) (commit_point n node most))
]

pub serial_start : (n node : ℕ) (numbers : List ℕ) (at stamp : ℕ) → node < n → at ≡ slice_index numbers node * n + node → stamp ≡ at + at → stamp ≡ stamp_of (one_by_one (places_of n numbers)) (point_of n node)
serial_start n node numbers at stamp less place is = is ∙ ap (λ (m : ℕ). m + m) place ∙ sym (ap (stamp_of (one_by_one (places_of n numbers))) (start_point n node less))

pub serial_commit : (n node : ℕ) (numbers : List ℕ) (at stamp : ℕ) → n ≤ node → at ≡ slice_index numbers (node - n) * n + (node - n) → stamp ≡ suc (at + at) → stamp ≡ stamp_of (one_by_one (places_of n numbers)) (point_of n node)
serial_commit n node numbers at stamp most place is = is ∙ ap (λ (m : ℕ). suc (m + m)) place ∙ sym (ap (stamp_of (one_by_one (places_of n numbers))) (commit_point n node most))

rank_node : (n node : ℕ) (ranks : List ℕ) → stamp_of (stamps_by n ranks) (point_of n node) ≡ slice_index ranks node
rank_node n node ranks = elim (low_or_high n node) [
  | inl less ↦ ap (stamp_of (stamps_by n ranks)) (start_point n node less)
  | inr most ↦ ap (stamp_of (stamps_by n ranks)) (commit_point n node most) ∙ ap (λ (m : ℕ). slice_index ranks m) (back n node most)
]

-- ---- by place
compare : (a b : ℕ) → (a < b) ⊎ ((a ≡ b) ⊎ (b < a))
compare a b = grind arith

node_before : (xs : List ℕ) (q u : ℕ) → slice_get xs (suc q) ≡ Some u → (x : ℕ) × (slice_get xs q ≡ Some x)
node_before [] q u e = absurd (cc)
node_before (x ∷ xs) zero u e = (x, refl)
node_before (x ∷ xs) (suc q) u e = node_before xs q u e

map_at : {X : Type 0} (f : ℕ → X) (xs : List ℕ) (p : ℕ) (x : X) → slice_get (map f xs) p ≡ Some x → (node : ℕ) × (slice_get xs p ≡ Some node) × (f node ≡ x)
map_at f [] p x e = absurd (cc)
map_at f (y ∷ ys) zero x e = (y, refl, same_Some _ _ e)
map_at f (y ∷ ys) (suc p) x e = map_at f ys p x e

at_map : {X : Type 0} (f : ℕ → X) (xs : List ℕ) (p node : ℕ) → slice_get xs p ≡ Some node → slice_get (map f xs) p ≡ Some (f node)
at_map f [] p node e = absurd (cc)
at_map f (y ∷ ys) zero node e = ap (λ (n : ℕ). Some (f n)) (same_Some _ _ e)
at_map f (y ∷ ys) (suc p) node e = at_map f ys p node e

done_within : (trace : Trace) (t : ℕ) → Done trace t → t < length trace.transactions
done_within trace t done = by (slice_get trace.transactions t) refl
  where
    by : (o : Option Transaction) → slice_get trace.transactions t ≡ o → t < length trace.transactions
    by None is = absurd (let none : committed_in None ≡ true = ap (λ (x : Option Transaction). committed_in x) (sym is) ∙ done in cc)
    by (Some x) is = slice_get_within trace.transactions t x is

module _ (level : Level) (trace : Trace) (numbers nodes ranks : List ℕ)
    (placed : ArePlaced level trace.transactions numbers nodes ranks (length nodes)) (have : HaveNodes trace.transactions nodes (length trace.transactions)) where
  st : Stamping
  st = stamping_of level (length trace.transactions) numbers

  points : List Point
  points = points_of (length trace.transactions) nodes

  rises : (j i a b : ℕ) → i < j → slice_get nodes i ≡ Some a → slice_get nodes j ≡ Some b → stamp_of st (point_of (length trace.transactions) a) < stamp_of st (point_of (length trace.transactions) b)
  unfolding st
  rises zero i a b less at_a at_b = absurd (omega (arith, less))
  rises (suc j) i a b less at_a at_b =
      let before = node_before nodes j b at_b in
      let last = (placed (suc j) (slice_get_within nodes (suc j) b at_b)).above j before.0 b (omega arith) before.1 at_b in
      elim (compare i j) [
        | inl deeper ↦ let first = rises j i a before.0 deeper at_a before.1 in omega (arith, first, last)
        | inr rest ↦ elim rest [
          | inl here ↦ subst (λ (x : ℕ). stamp_of st (point_of (length trace.transactions) x) < stamp_of st (point_of (length trace.transactions) b)) (same_Some _ _ (sym before.1 ∙ ap (λ (m : ℕ). slice_get nodes m) (sym here) ∙ at_a)) last
          | inr over ↦ absurd (omega (arith, over, less))
        ]
      ]

  there : (node : ℕ) (x : Point) → Has nodes node → point_of (length trace.transactions) node ≡ x → x ∈ points
  unfolding points
  there node x has is = in_at points has.0 x (at_map (point_of (length trace.transactions)) nodes has.0 node has.1 ∙ ap Some is)

  all_there : (x : Point) → Done trace (owner x) → x ∈ points
  all_there (Start t) done = there t (Start t) (have t (done_within trace t done) done).0 (start_point (length trace.transactions) t (done_within trace t done))
  all_there (Commit t) done =
      there (length trace.transactions + t) (Commit t) (have t (done_within trace t done) done).1
      (commit_point (length trace.transactions) (length trace.transactions + t) (low (length trace.transactions) t) ∙ ap Commit (behind (length trace.transactions) t))
    where
      low : (n t : ℕ) → n ≤ n + t
      low n t = omega arith

      behind : (n t : ℕ) → (n + t) - n ≡ t
      behind n t = omega arith

  all_done : (x : Point) → x ∈ points → Done trace (owner x)
  unfolding points
  all_done x m =
      let at = place_of x points m in
      let node = map_at (point_of (length trace.transactions)) nodes at.0 x at.1 in
      subst (λ (p : Point). Done trace (owner p)) node.2 ((placed at.0 (slice_get_within nodes at.0 node.0 node.1)).committed node.0 node.1)

  pub in_order : InOrder (stamping_of level (length trace.transactions) numbers) trace (points_of (length trace.transactions) nodes)
  unfolding st points
  in_order = record {
    all = all_there;
    done = all_done;
    rises = record {
      at = λ p x at y before.
          let q = from_taken y points p before in
          let a = map_at (point_of (length trace.transactions)) nodes q.0 y q.2 in
          let b = map_at (point_of (length trace.transactions)) nodes p x at in
          subst (λ (u : Point). stamp_of st u < stamp_of st x) a.2
          (subst (λ (v : Point). stamp_of st (point_of (length trace.transactions) a.0) < stamp_of st v) b.2 (rises p q.0 a.0 b.0 q.1 a.1 b.1));
    };
  }

  pub are_ranked : Ranked (stamps_by (length trace.transactions) ranks) (points_of (length trace.transactions) nodes)
  are_ranked p x at =
      let node = map_at (point_of (length trace.transactions)) nodes p x at in
      ap (stamp_of (stamps_by (length trace.transactions) ranks)) (sym node.2)
      ∙ rank_node (length trace.transactions) node.0 ranks
      ∙ (placed p (slice_get_within nodes p node.0 node.1)).rank node.0 node.1
