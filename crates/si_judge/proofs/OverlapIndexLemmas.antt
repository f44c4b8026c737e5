-- What the maps of commits and of committed writes hold, and what is marked by them.
use Rattle.si_judge.proofs.Names.{◌≡◌, ◌≤◌, ◌<◌, ◌+◌, ◌==◌, ◌⊎◌, ℕ, zero, suc, Bool, true, false, cond, List, [], ◌∷◌}
use Rattle.si_judge.proofs.Names.{Option, Some, None, is_some, IfSome, length, get_or, slice_get, inl, inr, refl, sym}
use Rattle.si_judge.proofs.Names.{ap, subst, ◌∙◌, arith, nat_cmp, is_at, get, range_contains, entries_between, Included}
use Rattle.si_judge.proofs.Names.{Excluded, list_any, filter, cases_lt, eqb-true, or_cases, nat_tests, same_Some}
use Rattle.si_judge.proofs.Names.{slice_get_within, ◌∈◌, Wrote, Item, Placed, Write, OverlapsPlaced, Overlapping}
use Rattle.si_judge.proofs.Names.{writes, Passes, any_writes, and_parts, both_at, Commit, Commits, commit_of, commit_at}
use Rattle.si_judge.proofs.Names.{HasCommits, IsMarked, KeepsMarks, pair_cmp, Written, HasWrite, HasWrites, KeepsWrites}
use Rattle.si_judge.proofs.Names.{MarksOverlaps, MarksOwn, MarksAll, HasReached}
use Rattle.std.specs.BTreeMap.{Updates}
use Rattle.std.specs.Map.{lookup}
use Rattle.std.proofs.lemmas.Map.Lookups.{exact_pairs, exact_unsigned}
use Rattle.std.proofs.lemmas.Map.Views.{tells_apart}
use Rattle.isolation_rules.specs.declared.verdict.Rule.TheVariants as rule
use Rattle.si_judge.specs.declared.marks.Marks.{Marks}
use Rattle.si_judge.specs.declared.reach.Reach.{Reach}

-- ---- the committed writes
pub write_noted : (commits : Commits) (old new : Written) (x : Item) (session t k : ℕ) (value : List ℕ) (commit : Commit) → x ≡ Write session t k value → Some commit ≡ commit_of commits t → Updates pair_cmp old new (k, t) (Some commit) → HasWrite commits new x
write_noted commits old new x session t k value commit is there updates =
    subst (λ (y : Item). HasWrite commits new y) (sym is) (subst (λ (o : Option Commit). IfSome o (λ d. get pair_cmp new (k, t) ≡ Some d)) there updates.1)

pub write_missing : (commits : Commits) (written : Written) (x : Item) (session t k : ℕ) (value : List ℕ) → x ≡ Write session t k value → None ≡ commit_of commits t → HasWrite commits written x
write_missing commits written x session t k value is none =
    subst (λ (y : Item). HasWrite commits written y) (sym is) (subst (λ (o : Option Commit). IfSome o (λ d. get pair_cmp written (k, t) ≡ Some d)) none tt)

key_is : (k t : ℕ) (q : ℕ × ℕ) → is_at (pair_cmp (k, t)) q ≡ true → (k, t) ≡ q
key_is k t q e = tells_apart (exact_pairs nat_cmp nat_cmp exact_unsigned exact_unsigned) (k, t) q e

pub writes_kept : (commits : Commits) (old new : Written) (k t : ℕ) (commit : Commit) → Some commit ≡ commit_of commits t → Updates pair_cmp old new (k, t) (Some commit) → KeepsWrites commits old new
writes_kept commits old new k t commit there updates = record { at = λ l u other found was. by l u other found was (is_at (pair_cmp (k, t)) (l, u)) refl }
  where
    by : (l u : ℕ) (other : Commit) → commit_of commits u ≡ Some other → get pair_cmp old (l, u) ≡ Some other → (r : Bool) → is_at (pair_cmp (k, t)) (l, u) ≡ r → get pair_cmp new (l, u) ≡ Some other
    by l u other found was true e =
        let same : (k, t) ≡ (l, u) = key_is k t (l, u) e in
        let start : t ≡ u = ap (λ (q : ℕ × ℕ). q.1) same in
        let one : Some commit ≡ Some other = there ∙ ap (λ n. commit_of commits n) start ∙ found in
        sym (ap (λ q. get pair_cmp new q) same) ∙ updates.1 ∙ one
    by l u other found was false e = updates.2 (l, u) e ∙ was

write_stays : (commits : Commits) (old new : Written) → KeepsWrites commits old new → (x : Item) → HasWrite commits old x → HasWrite commits new x
write_stays commits old new keeps (Write session t k value) has = by (commit_of commits t) refl has
  where
    by : (o : Option Commit) → commit_of commits t ≡ o → IfSome o (λ d. get pair_cmp old (k, t) ≡ Some d) → IfSome o (λ d. get pair_cmp new (k, t) ≡ Some d)
    by None e was = tt
    by (Some d) e was = keeps.at k t d e was
write_stays commits old new keeps _ has = has

pub writes_more : (h : List Item) (place : ℕ) (x : Item) (commits : Commits) (old new : Written) → slice_get h place ≡ Some x → HasWrites h place commits old → KeepsWrites commits old new → HasWrite commits new x → HasWrites h (place + 1) commits new
writes_more h place x commits old new here has keeps noted = record {
  at = λ i y less there. elim (cases_lt i place) [
    | inl before ↦ write_stays commits old new keeps y (has.at i y before there)
    | inr more ↦
        let same : place ≡ i = omega (arith, less, more) in
        let item : x ≡ y = same_Some _ _ (sym here ∙ ap (λ n. slice_get h n) same ∙ there) in
        subst (λ (z : Item). HasWrite commits new z) item noted
  ];
}

-- ---- a part of the map, marked
abbrev pub Entry : Type 0
Entry = (ℕ × ℕ) × Commit

-- each entry of the part is still to come, or its commit is marked
pub record IsMarkedBut (part left : List Entry) (marks : Marks) : Type 0 where
  pub at : (e : Entry) → e ∈ part → (e ∈ left) ⊎ IsMarked marks e.1.place

pub keeps_none : (marks : Marks) → KeepsMarks marks marks
keeps_none marks = record { each = refl; at = λ i on. on }

pub keeps_both : (a b c : Marks) → KeepsMarks a b → KeepsMarks b c → KeepsMarks a c
keeps_both a b c first second = record { each = second.each ∙ first.each; at = λ i on. second.at i (first.at i on) }

come_or_gone : (e x : Entry) (rest : List Entry) → e ∈ (x ∷ rest) → (e ≡ x) ⊎ (e ∈ rest)
unfolding ◌∈◌
come_or_gone e x rest m = m

pub one_marked : (part left rest : List Entry) (x : Entry) (old new : Marks) → IsMarkedBut part left old → left ≡ x ∷ rest → KeepsMarks old new → IsMarked new x.1.place → IsMarkedBut part rest new
one_marked part left rest x old new but first keeps other = record {
  at = λ e m. elim (but.at e m) [
    | inl here ↦ elim (come_or_gone e x rest (subst (λ (es : List Entry). e ∈ es) first here)) [
      | inl same ↦ inr (subst (λ (y : Entry). IsMarked new y.1.place) (sym same) other)
      | inr later ↦ inl later
    ]
    | inr on ↦ inr (keeps.at e.1.place on)
  ];
}

kept_in : (b : Bool) (e x : Entry) (rest : List Entry) → (e ≡ x → b ≡ true) → ((e ≡ x) ⊎ (e ∈ rest)) → e ∈ cond b (x ∷ rest) rest
unfolding ◌∈◌
kept_in true e x rest on m = m
kept_in false e x rest on m = elim m [ inl same ↦ let clash = on same in absurd (cc) | inr later ↦ later ]

in_filter : (p : Entry → Bool) (e : Entry) (es : List Entry) → e ∈ es → p e ≡ true → e ∈ filter p es
unfolding ◌∈◌
in_filter p e [] m on = m
in_filter p e (x ∷ rest) m on = kept_in (p x) e x (filter p rest) (λ same. sym (ap p same) ∙ on) (elim m [ inl same ↦ inl same | inr later ↦ inr (in_filter p e rest later on) ])

chosen : (k t : ℕ) (v : Commit) (x : Entry) (rest : List Entry) (r : Bool) → is_at (pair_cmp (k, t)) x.0 ≡ r → cond r (Some x.1) (lookup (is_at (pair_cmp (k, t))) rest) ≡ Some v → (((k, t), v) ≡ x) ⊎ (lookup (is_at (pair_cmp (k, t))) rest ≡ Some v)
chosen k t v x rest true e found =
    let key : (k, t) ≡ x.0 = key_is k t x.0 e in
    let value : x.1 ≡ v = same_Some _ _ found in
    inl (ap (λ (q : ℕ × ℕ). (q, v)) key ∙ ap (λ (w : Commit). (x.0, w)) (sym value))
chosen k t v x rest false e found = inr found

lookup_in : (es : List Entry) (k t : ℕ) (v : Commit) → lookup (is_at (pair_cmp (k, t))) es ≡ Some v → ((k, t), v) ∈ es
unfolding ◌∈◌
lookup_in [] k t v found = absurd (cc)
lookup_in (x ∷ rest) k t v found = elim (chosen k t v x rest (is_at (pair_cmp (k, t)) x.0) refl found) [ inl same ↦ inl same | inr later ↦ inr (lookup_in rest k t v later) ]

is_between : (k t c u : ℕ) → t < u → u ≤ c → range_contains pair_cmp (Excluded (k, t)) (Included (k, c)) (k, u) ≡ true
is_between k t c u less le = grind (arith, nat_tests)

none_left : (e : Entry) → e ∈ [] → ⊥
unfolding ◌∈◌
none_left e m = m

-- what starts after t, and up to its commit, stands in the part between
abbrev pub between : Written → ℕ → ℕ → ℕ → List Entry
between written k t c = entries_between pair_cmp (Excluded (k, t)) (Included (k, c)) written.entries

stands_between : (written : Written) (k t c u : ℕ) (other : Commit) → t < u → u ≤ c → get pair_cmp written (k, u) ≡ Some other → ((k, u), other) ∈ between written k t c
stands_between written k t c u other less le found =
    in_filter (λ x. range_contains pair_cmp (Excluded (k, t)) (Included (k, c)) x.0) ((k, u), other) written.entries (lookup_in written.entries k u other found) (is_between k t c u less le)

pub none_between : (written : Written) (k t : ℕ) (commit : Commit) (marks : Marks) → between written k t commit.stamp ≡ [] → MarksOwn written k t commit marks
none_between written k t commit marks none = λ u other less le found. absurd (none_left ((k, u), other) (subst (λ (es : List Entry). ((k, u), other) ∈ es) none (stands_between written k t commit.stamp u other less le found)))

-- the reach goes further once the part behind it is marked
pub reaches_further : (written : Written) (reach new : Reach) (old marks : Marks) (left : List Entry) → HasReached written reach old → KeepsMarks old marks → left ≡ [] → IsMarkedBut (between written reach.key reach.upto new.upto) left marks
    → new.key ≡ reach.key → new.from ≡ reach.from → HasReached written new marks
reaches_further written reach new old marks left reached keeps end but same_key same_from = λ u other more le found.
    let there : get pair_cmp written (reach.key, u) ≡ Some other = ap (λ k. get pair_cmp written (k, u)) (sym same_key) ∙ found in
    elim (cases_lt reach.upto u) [
      | inl behind ↦ elim (but.at ((reach.key, u), other) (stands_between written reach.key reach.upto new.upto u other behind le there)) [
        | inl m ↦ absurd (none_left ((reach.key, u), other) (subst (λ (es : List Entry). ((reach.key, u), other) ∈ es) end m))
        | inr on ↦ on
      ]
      | inr within ↦ keeps.at other.place (reached u other (omega (arith, more, same_from)) (omega (arith, within)) there)
    ]

pub reach_kept : (written : Written) (reach : Reach) (old new : Marks) → HasReached written reach old → KeepsMarks old new → HasReached written reach new
reach_kept written reach old new reached keeps = λ u other more le found. keeps.at other.place (reached u other more le found)

pub none_reached : (written : Written) (reach : Reach) (marks : Marks) → reach.upto ≡ reach.from → HasReached written reach marks
none_reached written reach marks same = λ u other more le found. absurd (omega (arith, same, more, le))

-- a write's overlaps are marked where its own commit is, and the reach has the others
pub both_marked : (written : Written) (k t : ℕ) (commit : Commit) (reach : Reach) (before marks : Marks) → MarksOwn written k t commit before → KeepsMarks before marks → HasReached written reach marks
    → reach.key ≡ k → reach.from ≤ t → commit.stamp ≤ reach.upto → MarksOverlaps written k t commit marks
both_marked written k t commit reach before marks own keeps reached key from upto = λ u other less le found. (
  keeps.at commit.place (own u other less le found),
  reached u other (omega (arith, from, less)) (omega (arith, le, upto)) (ap (λ n. get pair_cmp written (n, u)) key ∙ found),
)

-- ---- the whole map, marked
pub record IsDoneBut (written : Written) (left : List Entry) (marks : Marks) : Type 0 where
  pub at : (e : Entry) → e ∈ written.entries → (e ∈ left) ⊎ MarksOverlaps written e.0.0 e.0.1 e.1 marks

pub none_done : (written : Written) (left : List Entry) (marks : Marks) → left ≡ written.entries → IsDoneBut written left marks
none_done written left marks same = record { at = λ e m. inl (subst (λ (es : List Entry). e ∈ es) (sym same) m) }

pub one_done : (written : Written) (left rest : List Entry) (x : Entry) (old new : Marks) → IsDoneBut written left old → left ≡ x ∷ rest → KeepsMarks old new → MarksOverlaps written x.0.0 x.0.1 x.1 new → IsDoneBut written rest new
one_done written left rest x old new but first keeps marked = record {
  at = λ e m. elim (but.at e m) [
    | inl here ↦ elim (come_or_gone e x rest (subst (λ (es : List Entry). e ∈ es) first here)) [
      | inl same ↦ inr (subst (λ (y : Entry). MarksOverlaps written y.0.0 y.0.1 y.1 new) (sym same) marked)
      | inr later ↦ inl later
    ]
    | inr was ↦ inr (λ u other less le found. let both = was u other less le found in (keeps.at e.1.place both.0, keeps.at other.place both.1))
  ];
}

pub all_done : (written : Written) (left : List Entry) (marks : Marks) → left ≡ [] → IsDoneBut written left marks → MarksAll written marks
all_done written left marks end done = record {
  at = λ k t commit found.
      let e : Entry = ((k, t), commit) in
      elim (done.at e (lookup_in written.entries k t commit found)) [ inl m ↦ absurd (none_left e (subst (λ (es : List Entry). e ∈ es) end m)) | inr marked ↦ marked ];
}

-- ---- what is not marked passes
pub record WriteAt (h : List Item) (t k : ℕ) : Type 0 where
  pub place : ℕ
  pub item : Item
  pub there : slice_get h place ≡ Some item
  pub writes : writes t k item ≡ true

pub any_at : (xs : List Item) (t k : ℕ) → list_any (λ x. writes t k x) xs ≡ true → WriteAt xs t k
any_at [] t k e = absurd (cc)
any_at (x ∷ xs) t k e = elim (or_cases (writes t k x) (list_any (λ y. writes t k y) xs) e) [
  | inl here ↦ record { place = zero; item = x; there = refl; writes = here }
  | inr later ↦ let found = any_at xs t k later in record { place = suc found.place; item = found.item; there = found.there; writes = found.writes }
]

write_has : (commits : Commits) (written : Written) (t k : ℕ) (x : Item) (commit : Commit) → writes t k x ≡ true → HasWrite commits written x → commit_of commits t ≡ Some commit → get pair_cmp written (k, t) ≡ Some commit
write_has commits written t k (Write session start key value) commit is has found =
    let parts = and_parts (start == t) (key == k) is in
    let at_start = subst (λ (n : ℕ). IfSome (commit_of commits n) (λ d. get pair_cmp written (key, n) ≡ Some d)) (eqb-true start t parts.0) has in
    let at_key = subst (λ (n : ℕ). IfSome (commit_of commits t) (λ d. get pair_cmp written (n, t) ≡ Some d)) (eqb-true key k parts.1) at_start in
    subst (λ (o : Option Commit). IfSome o (λ d. get pair_cmp written (k, t) ≡ Some d)) found at_key
write_has commits written t k _ commit is has found = absurd (cc)

is_written : (h : List Item) (commits : Commits) (written : Written) → HasCommits h (length h) commits → HasWrites h (length h) commits written → (i t c k : ℕ) (v : List ℕ) → slice_get h i ≡ Some (Placed t c) → Wrote h t k v → get pair_cmp written (k, t) ≡ Some (commit_at c i)
is_written h commits written has_commits has_writes i t c k v placed wrote =
    let found = any_at h t k (any_writes h t k ∙ ap is_some wrote) in
    let has = has_writes.at found.place found.item (slice_get_within h found.place found.item found.there) found.there in
    write_has commits written t k found.item (commit_at c i) found.writes has (has_commits.at i t c (slice_get_within h i (Placed t c) placed) placed)

overlap_marked : (h : List Item) (commits : Commits) (written : Written) (marks : Marks) → HasCommits h (length h) commits → HasWrites h (length h) commits written → MarksAll written marks → (i j t c : ℕ) (y : Item) → slice_get h i ≡ Some (Placed t c) → slice_get h j ≡ Some y → OverlapsPlaced h t c y → IsMarked marks i
overlap_marked h commits written marks has_commits has_writes all i j t c (Placed u d) ex ey o =
    let k = o.3.key in
    let one = is_written h commits written has_commits has_writes i t c k o.3.first.0 ex o.3.first.1 in
    let two = is_written h commits written has_commits has_writes j u d k o.3.second.0 ey o.3.second.1 in
    elim (cases_lt t u) [
      | inl less ↦ (all.at k t (commit_at c i) one u (commit_at d j) less o.1 two).0
      | inr more ↦ elim (cases_lt u t) [
        | inl less ↦ (all.at k u (commit_at d j) two t (commit_at c i) less o.2 one).1
        | inr same ↦ absurd (o.0 (omega (arith, more, same)))
      ]
    ]
overlap_marked h commits written marks has_commits has_writes all i j t c _ ex ey o = absurd o

item_marked : (h : List Item) (commits : Commits) (written : Written) (marks : Marks) → HasCommits h (length h) commits → HasWrites h (length h) commits written → MarksAll written marks → (i j : ℕ) (x y : Item) → slice_get h i ≡ Some x → slice_get h j ≡ Some y → Overlapping h x y → IsMarked marks i
item_marked h commits written marks has_commits has_writes all i j (Placed t c) y ex ey o = overlap_marked h commits written marks has_commits has_writes all i j t c y ex ey o
item_marked h commits written marks has_commits has_writes all i j _ y ex ey o = absurd o

pub unmarked_passes : (h : List Item) (commits : Commits) (written : Written) (marks : Marks) → HasCommits h (length h) commits → HasWrites h (length h) commits written → MarksAll written marks → (i : ℕ) → get_or marks.each.items i true ≡ false → Passes rule.Apart h i
unmarked_passes h commits written marks has_commits has_writes all i off = λ j broken.
    let found = both_at h i j (λ x y. Overlapping h x y) broken.1 in
    let on = item_marked h commits written marks has_commits has_writes all i j found.0 found.1 found.2 found.3 found.4 in
    absurd (cc)
