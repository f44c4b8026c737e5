-- For cell_compaction, si_judge and omid_top too.
-- Public laws, which the judge above cites. What is visible is one answer, written at one place.
use Rattle.std.proofs.Common.{◌≡◌, ◌<◌, ℕ, List, Option, Some, None, option_map, option_and_then, length, take, slice_get, IfSome, inl, inr, refl, sym, ap, subst, ◌∙◌, arith}
use Rattle.std.proofs.lemmas.Bool.{cases_lt}
use Rattle.std.proofs.lemmas.Option.{same_Some, slice_get_within}
use Rattle.history_book.specs.Isolation.{written_by, last_write, Committed, Visible, Newest, RightRead, Stamped}
use Rattle.history_book.specs.declared.item.Found.{Found}
use Rattle.history_book.specs.declared.item.Item.{Item}
use Rattle.history_book.specs.declared.item.Item.TheVariants.{Placed, Read}
use Rattle.isolation_rules.specs.declared.version.Version.{Version}
use Rattle.isolation_rules.specs.ReadPairs.{written_at, IsLastWrite, IsGivenAt, IsRightAt, AnswersAt, BreaksRead}
use Rattle.isolation_rules.specs.declared.verdict.Rule.TheVariants as rule
use Rattle.isolation_rules.specs.Judged.{IsSecond, Passes}
use Rattle.isolation_rules.specs.Best.{IsOwn, Sees, place_seen, IsWrong}
use Rattle.isolation_rules.proofs.PlaceLemmas.{one_at, and_some, place_of, in_take}
use Rattle.isolation_rules.proofs.WriteLemmas.{last_write_at}

start_of : Item → ℕ
start_of (Placed t c) = t
start_of _ = 0

one_start : (t c u d : ℕ) → Placed t c ≡ Placed u d → t ≡ u
unfolding start_of
one_start t c u d e = ap start_of e

committed_at : (h : List Item) → Stamped h → (i j t u c : ℕ) → slice_get h i ≡ Some (Placed t c) → slice_get h j ≡ Some (Placed u c) → t ≡ u
committed_at h stamped i j t u c ei ej = elim (cases_lt i j) [
  | inl less ↦ absurd ((stamped.distinct.at j (Placed u c) ej t c (in_take (Placed t c) j h i ei less)).1 refl)
  | inr more ↦ elim (cases_lt j i) [
    | inl less ↦ absurd ((stamped.distinct.at i (Placed t c) ei u c (in_take (Placed u c) i h j ej less)).1 refl)
    | inr same ↦ let at : i ≡ j = omega arith in one_start t c u c (same_Some _ _ (sym ei ∙ ap (λ n. slice_get h n) at ∙ ej))
  ]
]

-- a commit is of one transaction
committed_once : (h : List Item) → Stamped h → (t u c : ℕ) → Committed h t c → Committed h u c → t ≡ u
committed_once h stamped t u c ct cu = committed_at h stamped (place_of _ h ct).0 (place_of _ h cu).0 t u c (place_of _ h ct).1 (place_of _ h cu).1

found_made : (f g : Found) → f.from ≡ g.from → f.value ≡ g.value → f ≡ g
found_made f g e v =
    let left : Found = record { from = g.from; value = f.value } in
    let one : f ≡ left = ap (λ (n : ℕ). let made : Found = record { from = n; value = f.value } in made) e in
    one ∙ ap (λ (w : List ℕ). let made : Found = record { from = g.from; value = w } in made) v

newest_once : (h : List Item) → Stamped h → (s k : ℕ) (f g : Found) → Newest h s k f → Newest h s k g → f ≡ g
newest_once h stamped s k f g nf ng =
    let up = nf.greatest g.from ng.commit ng.candidate in
    let down = ng.greatest f.from nf.commit nf.candidate in
    let at : nf.commit ≡ ng.commit = omega (arith, up, down) in
    let from : f.from ≡ g.from = committed_once h stamped f.from g.from ng.commit (subst (λ (n : ℕ). Committed h f.from n) at nf.candidate.committed) ng.candidate.committed in
    let both : Some f.value ≡ Some g.value = sym nf.value ∙ ap (λ n. last_write h n k) from ∙ ng.value in
    found_made f g from (same_Some _ _ both)

-- where stamps are in order, one answer is visible
pub visible_once : (h : List Item) → Stamped h → (s k : ℕ) (a b : Option Found) → Visible h s k a → Visible h s k b → a ≡ b
visible_once h stamped s k None None va vb = refl
visible_once h stamped s k None (Some g) va vb = absurd (va g.from vb.commit vb.candidate)
visible_once h stamped s k (Some f) None va vb = absurd (vb f.from va.commit va.candidate)
visible_once h stamped s k (Some f) (Some g) va vb = ap Some (newest_once h stamped s k f g va vb)

pub sees_visible : (h : List Item) (s k : ℕ) (seen : Option Version) → Sees h s k seen → Visible h s k (option_map (λ version. version.found) seen)
sees_visible h s k None sees = sees
sees_visible h s k (Some version) sees = sees.0

sees_given : (h : List Item) (i s k : ℕ) (seen : Option Version) → Sees h s k seen → IsGivenAt h i k (option_map (λ version. version.found) seen) (place_seen seen i)
sees_given h i s k None sees = refl
sees_given h i s k (Some version) sees = sees.1

some_at : (o : Option Item) (t k : ℕ) (v : List ℕ) → option_and_then (λ x. written_by t k x) o ≡ Some v → (x : Item) × (o ≡ Some x)
some_at None t k v e = absurd (cc)
some_at (Some x) t k v e = (x, refl)

-- a write stands in the list
pub written_within : (h : List Item) (t k j : ℕ) (v : List ℕ) → written_at h t k j ≡ Some v → j < length h
written_within h t k j v e = let found = some_at (slice_get h j) t k v e in slice_get_within h j found.0 found.1

sees_within : (h : List Item) (i s k : ℕ) (seen : Option Version) → i < length h → Sees h s k seen → place_seen seen i < length h
sees_within h i s k None less sees = less
sees_within h i s k (Some version) less sees = written_within h version.found.from k version.place version.found.value sees.1.wrote

-- an answer that is not what is seen is wrong
pub seen_wrong : (h : List Item) → Stamped h → (i s k : ℕ) (answer : Option Found) (seen : Option Version) → i < length h → Sees h s k seen → (answer ≡ option_map (λ version. version.found) seen → ⊥) → IsWrong h i s k answer None (Some (place_seen seen i))
seen_wrong h stamped i s k answer seen less sees other = (
  λ right. other (visible_once h stamped s k answer _ right (sees_visible h s k seen sees)),
  record { answer = option_map (λ version. version.found) seen; visible = sees_visible h s k seen sees; given = sees_given h i s k seen sees },
  sees_within h i s k seen less sees,
)

-- an answer that is wrong by the own write is wrong
pub own_wrong : (h : List Item) (i s k : ℕ) (answer : Option Found) (own : Version) (second : Option ℕ) → IsOwn (take i h) s k (Some own) → IsWrong h i own.found.from k answer (Some own.found.value) second → IsWrong h i s k answer (last_write (take i h) s k) second
own_wrong h i s k answer own second is wrong =
    let value : last_write (take i h) s k ≡ Some own.found.value = subst (λ (n : ℕ). last_write (take i h) n k ≡ Some own.found.value) is.0 (last_write_at (take i h) own.found.from k own.found.value own.place is.1) in
    subst (λ (o : Option (List ℕ)). IsWrong h i s k answer o second) (sym value)
    (subst (λ (n : ℕ). IsWrong h i n k answer (Some own.found.value) second) is.0 wrong)

last_once : (h : List Item) (t k : ℕ) (v w : List ℕ) (i j : ℕ) → IsLastWrite h t k v i → IsLastWrite h t k w j → i ≡ j
last_once h t k v w i j li lj = elim (cases_lt i j) [
  | inl less ↦ let none = li.last j less in let some = lj.wrote in absurd (cc)
  | inr more ↦ elim (cases_lt j i) [
    | inl less ↦ let none = lj.last i less in let some = li.wrote in absurd (cc)
    | inr same ↦ omega arith
  ]
]

given_once : (h : List Item) (i k : ℕ) (answer : Option Found) (p q : ℕ) → IsGivenAt h i k answer p → IsGivenAt h i k answer q → p ≡ q
given_once h i k None p q gp gq = gp ∙ sym gq
given_once h i k (Some found) p q gp gq = last_once h found.from k found.value found.value p q gp gq

right_once : (h : List Item) → Stamped h → (i s k : ℕ) (own : Option (List ℕ)) (p q : ℕ) → IsRightAt h i s k own p → IsRightAt h i s k own q → p ≡ q
right_once h stamped i s k (Some own) p q rp rq = last_once (take i h) s k own own p q rp rq
right_once h stamped i s k None p q rp rq =
    given_once h i k rq.answer p q (subst (λ (a : Option Found). IsGivenAt h i k a p) (visible_once h stamped s k rp.answer rq.answer rp.visible rq.visible) rp.given) rq.given

-- a read with a wrong answer breaks the rule with one place
pub wrong_least : (h : List Item) → Stamped h → (i session s k : ℕ) (answer : Option Found) (j q : ℕ) → slice_get h i ≡ Some (Read session s k answer) → IsRightAt h i s k (last_write (take i h) s k) j → BreaksRead h i q → j ≡ q
wrong_least h stamped i session s k answer j q e right broken =
    let found = one_at h i (λ x. (RightRead h (take i h) x → ⊥) × AnswersAt h i x q) broken in
    let same : found.0 ≡ Read session s k answer = same_Some _ _ (sym found.1 ∙ e) in
    let there = subst (λ (x : Item). AnswersAt h i x q) same found.2.1 in
    right_once h stamped i s k (last_write (take i h) s k) j q right there

-- an item that is no read is right
pub no_read : (h before : List Item) (x : Item) → ((session s k : ℕ) (answer : Option Found) → Read session s k answer ≡ x → ⊥) → RightRead h before x
no_read h before (Read session s k answer) other = absurd (other session s k answer refl)
no_read h before _ other = tt

right_second : (h : List Item) (i : ℕ) (x : Item) → slice_get h i ≡ Some x → RightRead h (take i h) x → Passes rule.Read h i
right_second h i x e right = subst (λ (o : Option Item). IfSome o (λ y. RightRead h (take i h) y)) (sym e) right

-- the place of the right answer is the second of a read
pub read_second : (h : List Item) → Stamped h → (i session s k : ℕ) (answer : Option Found) (second : Option ℕ) → slice_get h i ≡ Some (Read session s k answer) → IsWrong h i s k answer (last_write (take i h) s k) second → IsSecond rule.Read h i second
read_second h stamped i session s k answer None e right = right_second h i (Read session s k answer) e right
read_second h stamped i session s k answer (Some j) e wrong = (
  and_some (slice_get h i) (λ x. (RightRead h (take i h) x → ⊥) × AnswersAt h i x j) (Read session s k answer) e (wrong.0, wrong.1),
  λ q less broken. let same = wrong_least h stamped i session s k answer j q e wrong.1 broken in omega (arith, less, same),
)

pub other_second : (h : List Item) (i : ℕ) (x : Item) → slice_get h i ≡ Some x → ((session s k : ℕ) (answer : Option Found) → Read session s k answer ≡ x → ⊥) → IsSecond rule.Read h i None
other_second h i x e other = right_second h i x e (no_read h (take i h) x other)
