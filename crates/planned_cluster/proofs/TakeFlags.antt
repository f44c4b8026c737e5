-- The flags that code keeps tell which nodes have taken the record.
use Rattle.std.proofs.Common.{◌≡◌, ℕ, zero, suc, ◌<◌, ◌==◌, Bool, true, false, ◌||◌, List, [], ◌∷◌, Option, None, Some, inl, inr, refl, sym, ap, ◌∙◌, arith, subst, length, fold, get_or, slice_set}
use Rattle.std.specs.Prelude.{replicate}
use Rattle.std.specs.List.{list_any}
use Rattle.std.proofs.lemmas.Bool.Decides.{eqb_tells}
use Rattle.std.proofs.lemmas.List.{get_or-set_same, get_or-set_other, get_or_read, length-set}
use Rattle.history_book.specs.declared.item.Item.{Item}
use Rattle.command_semantics.specs.Master.{taken_by, is_node, takes, has_take}
use Rattle.planned_cluster.specs.Takes.{with_node, then_taken, nodes_taken}

-- ---- flags
or_false : (b : Bool) → (b || false) ≡ b
or_false true = refl
or_false false = refl

or_true : (b : Bool) → (b || true) ≡ true
or_true true = refl
or_true false = refl

or_groups : (a b c : Bool) → ((a || b) || c) ≡ (a || (b || c))
or_groups true b c = refl
or_groups false b c = refl

set_by : (taken : List Bool) (m n : ℕ) → n < length taken → get_or (slice_set taken m true) n false ≡ (get_or taken n false || (m == n))
set_by taken m n less = elim (eqb_tells m n) [
  | inl same ↦ ap (λ (k : ℕ). get_or (slice_set taken k true) n false) same.1 ∙ get_or-set_same taken n true false less ∙ sym (ap (λ (b : Bool). get_or taken n false || b) same.0 ∙ or_true (get_or taken n false))
  | inr other ↦ get_or-set_other taken m n true false (λ e. other.1 (sym e)) ∙ sym (ap (λ (b : Bool). get_or taken n false || b) other.0 ∙ or_false (get_or taken n false))
]

flagged : (taken : List Bool) (by : Option ℕ) (n : ℕ) → n < length taken → get_or (with_node taken by) n false ≡ (get_or taken n false || is_node n by)
flagged taken None n less = sym (or_false (get_or taken n false))
flagged taken (Some m) n less = set_by taken m n less

as_long : (taken : List Bool) (by : Option ℕ) → length (with_node taken by) ≡ length taken
as_long taken None = refl
as_long taken (Some m) = length-set taken m true

flags_by : (h : List Item) (taken : List Bool) (n : ℕ) → n < length taken → get_or (fold then_taken taken h) n false ≡ (get_or taken n false || list_any (takes n) h)
flags_by [] taken n less = sym (or_false (get_or taken n false))
flags_by (x ∷ xs) taken n less =
    flags_by xs (then_taken taken x) n (subst (λ (k : ℕ). n < k) (sym (as_long taken (taken_by x))) less)
    ∙ ap (λ (b : Bool). b || list_any (takes n) xs) (flagged taken (taken_by x) n less)
    ∙ or_groups (get_or taken n false) (takes n x) (list_any (takes n) xs)

none_set : (k n : ℕ) → get_or (replicate k false) n false ≡ false
none_set zero n = refl
none_set (suc k) zero = refl
none_set (suc k) (suc n) = none_set k n

pub flags_are : (h : List Item) (n : ℕ) → n < 8 → get_or (nodes_taken h) n false ≡ has_take h n
flags_are h n less = flags_by h (replicate 8 false) n less ∙ ap (λ (b : Bool). b || has_take h n) (none_set 8 n)

long_by : (h : List Item) (taken : List Bool) → length (fold then_taken taken h) ≡ length taken
long_by [] taken = refl
long_by (x ∷ xs) taken = long_by xs (then_taken taken x) ∙ as_long taken (taken_by x)

pub eight_flags : (h : List Item) → length (nodes_taken h) ≡ 8
eight_flags h = long_by h (replicate 8 false)

-- ---- as code reads them
pub told_flag : (flags : List Bool) (h : List Item) (n i : ℕ) (b : Bool) → flags ≡ nodes_taken h → i ≡ n → n < 8 → b ≡ get_or flags i b → b ≡ has_take h n
told_flag flags h n i b are same less is =
    let at : b ≡ get_or (nodes_taken h) n b = is ∙ ap (λ (bs : List Bool). get_or bs i b) are ∙ ap (λ (k : ℕ). get_or (nodes_taken h) k b) same in
    get_or_read (nodes_taken h) n b (subst (λ (k : ℕ). n < k) (sym (eight_flags h)) less) at false ∙ flags_are h n less

pub flags_long : (flags : List Bool) (h : List Item) → flags ≡ nodes_taken h → length flags ≡ 8
flags_long flags h are = ap (λ (bs : List Bool). length bs) are ∙ eight_flags h
