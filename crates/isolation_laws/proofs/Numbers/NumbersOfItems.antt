-- Stamps, terms and leases where a begin, a write, a read or a placed commit is appended: each is of what was drawn or begun.
use Rattle.isolation_laws.proofs.Names.{◌≡◌, ℕ, List, [], ◌∷◌, ◌++◌, Option, Some, inl, inr, refl, subst, Found, Item}
use Rattle.isolation_laws.proofs.Names.{Begin, Draw, Write, Read, Placed, in_push, in_old, AtEach-push, MasterRecord}
use Rattle.isolation_laws.proofs.Names.{InstanceEntry, Begun, DrewStart, DrewCommit, AreDrawn, IsNewDraw, AreNewDraws}
use Rattle.isolation_laws.proofs.Names.{AreBegun, ArePlaced}
use Rattle.isolation_laws.proofs.Numbers.NumbersStay.{begun_on, start_on, placed_on}

-- the item draws nothing
abbrev pub NoDraw : Item → Type 0
NoDraw x = (s m term u : ℕ) (d : Option ℕ) → Draw s m term u d ≡ x → ⊥

pub begin_is_no_draw : (s t : ℕ) → NoDraw (Begin s t)
begin_is_no_draw s t r m term u d same = cc

pub write_is_no_draw : (s t k : ℕ) (value : List ℕ) → NoDraw (Write s t k value)
write_is_no_draw s t k value r m term u d same = cc

pub read_is_no_draw : (s t k : ℕ) (answer : Option Found) → NoDraw (Read s t k answer)
read_is_no_draw s t k answer r m term u d same = cc

pub placed_is_no_draw : (t c : ℕ) → NoDraw (Placed t c)
placed_is_no_draw t c r m term u d same = cc

-- ---- one more item that draws nothing
pub drawn_push : (nodes : List (Option InstanceEntry)) (master : MasterRecord) (h : List Item) (x : Item) → NoDraw x → AreDrawn nodes master h → AreDrawn nodes master (h ++ x ∷ [])
drawn_push nodes master h x other drawn = record {
  counted = λ s n term t commit drew. drawn.counted s n term t commit (in_old (Draw s n term t commit) x h (other s n term t commit) drew);
  earlier = λ s m term t n commit i drew. drawn.earlier s m term t n commit i (in_old (Draw s m term t commit) x h (other s m term t commit) drew);
  same = λ s m term t n commit i drew. drawn.same s m term t n commit i (in_old (Draw s m term t commit) x h (other s m term t commit) drew);
  later = λ s m term t n commit i drew. drawn.later s m term t n commit i (in_old (Draw s m term t commit) x h (other s m term t commit) drew);
}

not_new : (before : List Item) (x : Item) → NoDraw x → IsNewDraw before x
not_new before (Draw s n term t commit) other = absurd (other s n term t commit refl)
not_new before _ other = tt

pub new_push : (h : List Item) (x : Item) → NoDraw x → AreNewDraws h → AreNewDraws (h ++ x ∷ [])
new_push h x other news = record { each = AtEach-push IsNewDraw h x news.each (not_new h x other) }

-- what the pushed item must have of begins and draws
pub record FitsBegun (h : List Item) (x : Item) : Type 0 where
  pub drawn : (s t : ℕ) → Begin s t ≡ x → (n : ℕ) × (term : ℕ) × DrewStart h s n term t
  pub writes : (s t k : ℕ) (value : List ℕ) → Write s t k value ≡ x → (r : ℕ) × Begun h r t
  pub reads : (s t k : ℕ) (answer : Option Found) → Read s t k answer ≡ x → (r : ℕ) × Begun h r t

pub begun_push : (h : List Item) (x : Item) → NoDraw x → FitsBegun h x → AreBegun h → AreBegun (h ++ x ∷ [])
begun_push h x other fits begun = record {
  drawn = λ s t is. start_on h (x ∷ []) s t (elim (in_push (Begin s t) x h is) [ inl old ↦ begun.drawn s t old | inr now ↦ fits.drawn s t now ]);
  writes = λ s t k value is. begun_on h (x ∷ []) t (elim (in_push (Write s t k value) x h is) [ inl old ↦ begun.writes s t k value old | inr now ↦ fits.writes s t k value now ]);
  reads = λ s t k answer is. begun_on h (x ∷ []) t (elim (in_push (Read s t k answer) x h is) [ inl old ↦ begun.reads s t k answer old | inr now ↦ fits.reads s t k answer now ]);
  commits = λ s n term t c drew. begun_on h (x ∷ []) t (begun.commits s n term t c (in_old (Draw s n term t (Some c)) x h (other s n term t (Some c)) drew));
}

begin_parts : (r u s t : ℕ) → Begin r u ≡ Begin s t → (s ≡ r) × (t ≡ u)
begin_parts r u s t is = (cc, cc)

pub fits_begin : (h : List Item) (s t n term : ℕ) → DrewStart h s n term t → FitsBegun h (Begin s t)
fits_begin h s t n term drew = record {
  drawn = λ r u is. let same = begin_parts r u s t is in
      (n, term, subst (λ q. DrewStart h q n term u) same.0 (subst (DrewStart h s n term) same.1 drew));
  writes = λ r u k value is. absurd (cc);
  reads = λ r u k answer is. absurd (cc);
}

write_start : (q u key : ℕ) (v : List ℕ) (s t k : ℕ) (value : List ℕ) → Write q u key v ≡ Write s t k value → t ≡ u
write_start q u key v s t k value is = cc

pub fits_write : (h : List Item) (s t k r : ℕ) (value : List ℕ) → Begun h r t → FitsBegun h (Write s t k value)
fits_write h s t k r value begun = record {
  drawn = λ q u is. absurd (cc);
  writes = λ q u key v is. (r, subst (Begun h r) (write_start q u key v s t k value is) begun);
  reads = λ q u key answer is. absurd (cc);
}

read_start : (q u key : ℕ) (a : Option Found) (s t k : ℕ) (answer : Option Found) → Read q u key a ≡ Read s t k answer → t ≡ u
read_start q u key a s t k answer is = cc

pub fits_read : (h : List Item) (s t k r : ℕ) (answer : Option Found) → Begun h r t → FitsBegun h (Read s t k answer)
fits_read h s t k r answer begun = record {
  drawn = λ q u is. absurd (cc);
  writes = λ q u key v is. absurd (cc);
  reads = λ q u key a is. (r, subst (Begun h r) (read_start q u key a s t k answer is) begun);
}

pub fits_placed : (h : List Item) (t c : ℕ) → FitsBegun h (Placed t c)
fits_placed h t c = record {
  drawn = λ r u is. absurd (cc);
  writes = λ r u k value is. absurd (cc);
  reads = λ r u k answer is. absurd (cc);
}

-- ---- placed commits
pub placed_push : (h : List Item) (x : Item) → ((t c : ℕ) → Placed t c ≡ x → (s : ℕ) × (n : ℕ) × (term : ℕ) × DrewCommit h s n term t c) → ArePlaced h → ArePlaced (h ++ x ∷ [])
placed_push h x fits placed = record {
  drawn = λ t c is. placed_on h (x ∷ []) t c (elim (in_push (Placed t c) x h is) [ inl old ↦ placed.drawn t c old | inr now ↦ fits t c now ]);
}

placed_parts : (u d t c : ℕ) → Placed u d ≡ Placed t c → (t ≡ u) × (c ≡ d)
placed_parts u d t c is = (cc, cc)

pub placed_fits : (h : List Item) (t c u d s n term : ℕ) → DrewCommit h s n term t c → Placed u d ≡ Placed t c → (r : ℕ) × (m : ℕ) × (other : ℕ) × DrewCommit h r m other u d
placed_fits h t c u d s n term drew is =
    let same = placed_parts u d t c is in
    (s, n, term, subst (λ q. DrewCommit h s n term q d) same.0 (subst (DrewCommit h s n term t) same.1 drew))
