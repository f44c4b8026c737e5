-- For cause_laws, request_completion and cluster_core too.
-- Each stamp once: two members of a list in which something holds at each place, and what follows for begins, draws and commits.
use Rattle.isolation_laws.proofs.Names.{[], ◌≡◌, ℕ, zero, suc, ◌<◌, List, ◌∷◌, Option, Some, ◌⊎◌, inl, inr, refl, sym}
use Rattle.isolation_laws.proofs.Names.{◌∙◌, ap, arith, take, slice_get, same_Some, ◌∈◌, AtEach, Committed, NewStamps}
use Rattle.isolation_laws.proofs.Names.{Stamped, Item, Begin, Draw, Placed, Begun, DrewCommit, drawn_stamp, IsNewDraw}
use Rattle.isolation_laws.proofs.Names.{AreNewDraws, three_ways}

-- ---- two members of a list in which something holds at each place
pub place_of : {X : Type 0} (x : X) (xs : List X) → x ∈ xs → (p : ℕ) × (slice_get xs p ≡ Some x)
unfolding ◌∈◌
place_of x [] m = absurd m
place_of x (y ∷ ys) m = elim m [
  | inl e ↦ (zero, ap Some (sym e))
  | inr deeper ↦ let at = place_of x ys deeper in (suc at.0, at.1)
]

pub in_take : {X : Type 0} (x : X) (xs : List X) (p q : ℕ) → slice_get xs p ≡ Some x → p < q → x ∈ take q xs
unfolding ◌∈◌
in_take x [] p q at below = absurd (cc)
in_take x (y ∷ ys) p zero at below = absurd (omega (arith, below))
in_take x (y ∷ ys) zero (suc q) at below = inl (sym (same_Some y x at))
in_take x (y ∷ ys) (suc p) (suc q) at below = inr (in_take x ys p q at (omega (arith, below)))

-- of two members the one stands in the part before the other, or they are the same
pub two_places : {X : Type 0} (P : List X → X → Type 0) (xs : List X) (x y : X) → AtEach P xs → x ∈ xs → y ∈ xs → (x ≡ y) ⊎ (((before : List X) × (x ∈ before) × P before y) ⊎ ((before : List X) × (y ∈ before) × P before x))
two_places P xs x y all mx my =
    let px = place_of x xs mx in
    let py = place_of y xs my in
    elim (three_ways px.0 py.0) [
      | inl less ↦ inr (inl (take py.0 xs, in_take x xs px.0 py.0 px.1 less, all.at py.0 y py.1))
      | inr (inl same) ↦ inl (same_Some x y (sym px.1 ∙ (ap (slice_get xs) same ∙ py.1)))
      | inr (inr more) ↦ inr (inr (take px.0 xs, in_take y xs py.0 px.0 py.1 more, all.at px.0 x px.1))
    ]

-- ---- each stamp once
session_of_begin : (r s t u : ℕ) → Begin r t ≡ Begin s u → r ≡ s
session_of_begin r s t u same = cc

pub begun_once : (h : List Item) (r s t : ℕ) → Stamped h → Begun h r t → Begun h s t → r ≡ s
begun_once h r s t stamped one other = elim (two_places NewStamps h (Begin r t) (Begin s t) stamped.distinct one other) [
  | inl same ↦ session_of_begin r s t t same
  | inr (inl (before, m, new)) ↦ absurd (new r m)
  | inr (inr (before, m, new)) ↦ absurd (new s m)
]

commit_of_placed : (t u c d : ℕ) → Placed t c ≡ Placed u d → (t ≡ u) × (c ≡ d)
commit_of_placed t u c d same = (cc, cc)

-- a transaction has one commit
pub one_commit : (h : List Item) (t c d : ℕ) → Stamped h → Committed h t c → Committed h t d → c ≡ d
one_commit h t c d stamped one other = elim (two_places NewStamps h (Placed t c) (Placed t d) stamped.distinct one other) [
  | inl same ↦ (commit_of_placed t t c d same).1
  | inr (inl (before, m, new)) ↦ absurd ((new t c m).0 refl)
  | inr (inr (before, m, new)) ↦ absurd ((new t d m).0 refl)
]

-- a stamp is drawn once
pub drawn_once : (h : List Item) (r s n m term other t u : ℕ) (a b : Option ℕ) → AreNewDraws h → Draw r n term t a ∈ h → Draw s m other u b ∈ h → drawn_stamp t a ≡ drawn_stamp u b → Draw r n term t a ≡ Draw s m other u b
drawn_once h r s n m term other t u a b news one two same = elim (two_places IsNewDraw h (Draw r n term t a) (Draw s m other u b) news.each one two) [
  | inl is ↦ is
  | inr (inl (before, in_, new)) ↦ absurd (new.0 r n term t a in_ same)
  | inr (inr (before, in_, new)) ↦ absurd (new.0 s m other u b in_ (sym same))
]

-- a transaction's commit is above its start
pub commit_above_start : (h : List Item) (s n term t c : ℕ) → AreNewDraws h → DrewCommit h s n term t c → t < c
commit_above_start h s n term t c news drew = let at = place_of (Draw s n term t (Some c)) h drew in ((news.each.at at.0 (Draw s n term t (Some c)) at.1).2 c refl).0
