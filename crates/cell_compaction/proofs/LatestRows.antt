-- For this crate's own proofs.
-- The latest row of a key is one that the reader sees, and no row that it sees is later.
use Rattle.std.proofs.Common.{◌≡◌, ℕ, ◌<◌, ◌≤◌, ◌==◌, Bool, true, false, ◌&&◌, ◌||◌, ◌⊎◌, List, [], ◌∷◌, inl, inr, ⊎_elim, refl, sym, ap, ◌∙◌, subst, arith, lt-ltb, ltb-true}
use Rattle.std.specs.Prelude.{nat_lt, if◌then◌else◌, Option, None, Some}
use Rattle.std.proofs.lemmas.Bool.{cases_Bool, eqb-true, eqb-false, and_parts}
use Rattle.std.proofs.lemmas.Option.{same_Some, none-some}
use Rattle.history_book.specs.Members.{◌∈◌}
use Rattle.system_parts.specs.Rows.{Row}
use Rattle.cell_compaction.specs.declared.latest.Latest.{Latest}
use Rattle.cell_compaction.specs.Rest.{commit_below, is_later, row_with, later_of, with_row, latest_in}

-- the reader sees the row at the key, by this commit
pub record IsSeen (rows : List Row) (s k : ℕ) (r : Row) (c : ℕ) : Type 0 where
  pub has : r ∈ rows
  pub key : r.key ≡ k
  pub seen : commit_below s r.shadow ≡ Some c

-- one is no later than the other
abbrev pub IsBehind : ℕ → ℕ → ℕ → ℕ → Type 0
IsBehind c t d u = (c < d) ⊎ ((c ≡ d) × (t ≤ u))

pub record IsTheLatest (rows : List Row) (s k : ℕ) (latest : Latest) : Type 0 where
  pub row : Row
  pub seen : IsSeen rows s k row latest.commit
  pub version : row.version ≡ latest.version
  pub value : row.value ≡ latest.value
  pub others : (r : Row) (c : ℕ) → IsSeen rows s k r c → IsBehind c r.version latest.commit latest.version

abbrev pub IsLatest : List Row → ℕ → ℕ → Option Latest → Type 0
IsLatest rows s k None = (r : Row) (c : ℕ) → IsSeen rows s k r c → ⊥
IsLatest rows s k (Some latest) = IsTheLatest rows s k latest

-- ---- what is seen of a row is its commit below the start
pub below_is : (s : ℕ) (commit : Option ℕ) (d : ℕ) → commit_below s commit ≡ Some d → (commit ≡ Some d) × (d < s)
below_is s None d e = absurd (none-some d e)
below_is s (Some c) d e = go (nat_lt c s) refl e
  where
    go : (b : Bool) → nat_lt c s ≡ b → (if b then Some c else None) ≡ Some d → (Some c ≡ Some d) × (d < s)
    go true q e = (e, subst (λ x. x < s) (same_Some c d e) (ltb-true _ _ q))
    go false q e = absurd (none-some d e)

pub seen_by : (s : ℕ) (commit : Option ℕ) (c : ℕ) → commit ≡ Some c → c < s → commit_below s commit ≡ Some c
seen_by s commit c is lt = ap (commit_below s) is ∙ (rw (lt-ltb c s lt) refl)

-- ---- one row more
-- a row that is seen among more rows is the first, or is seen among the others
seen_among : (r : Row) (rs : List Row) (s k : ℕ) (x : Row) (c : ℕ) → IsSeen (r ∷ rs) s k x c → (x ≡ r) ⊎ IsSeen rs s k x c
unfolding ◌∈◌
seen_among r rs s k x c h = ⊎_elim (λ e. inl e) (λ later. inr (record { has = later; key = h.key; seen = h.seen })) h.has

seen_more : (r : Row) (rs : List Row) (s k : ℕ) (x : Row) (c : ℕ) → IsSeen rs s k x c → IsSeen (r ∷ rs) s k x c
unfolding ◌∈◌
seen_more r rs s k x c h = record { has = inr h.has; key = h.key; seen = h.seen }

seen_first : (r : Row) (rs : List Row) (s k c : ℕ) → r.key ≡ k → commit_below s r.shadow ≡ Some c → IsSeen (r ∷ rs) s k r c
unfolding ◌∈◌
seen_first r rs s k c key seen = record { has = inl refl; key = key; seen = seen }

-- where the reader does not see the first row, the latest stays
passed : (r : Row) (rs : List Row) (s k : ℕ) (latest : Option Latest) → ((c : ℕ) → r.key ≡ k → commit_below s r.shadow ≡ Some c → ⊥) → IsLatest rs s k latest → IsLatest (r ∷ rs) s k latest
passed r rs s k None none h = λ x c seen. ⊎_elim (λ (e : x ≡ r). none c (ap (λ (y : Row). y.key) (sym e) ∙ seen.key) (ap (λ (y : Row). commit_below s y.shadow) (sym e) ∙ seen.seen)) (h x c) (seen_among r rs s k x c seen)
passed r rs s k (Some latest) none h = record {
  row = h.row;
  seen = seen_more r rs s k h.row latest.commit h.seen;
  version = h.version;
  value = h.value;
  others = λ x c seen. ⊎_elim (λ (e : x ≡ r). absurd (none c (ap (λ (y : Row). y.key) (sym e) ∙ seen.key) (ap (λ (y : Row). commit_below s y.shadow) (sym e) ∙ seen.seen))) (h.others x c) (seen_among r rs s k x c seen);
}

-- the first row is the latest where all others are behind it
won : (r : Row) (rs : List Row) (s k c : ℕ) → r.key ≡ k → commit_below s r.shadow ≡ Some c → ((x : Row) (d : ℕ) → IsSeen rs s k x d → IsBehind d x.version c r.version) → IsTheLatest (r ∷ rs) s k (row_with r c)
won r rs s k c key seen least = record {
  row = r;
  seen = seen_first r rs s k c key seen;
  version = refl;
  value = refl;
  others = λ x d other. ⊎_elim (λ (e : x ≡ r). inr (same_Some d c (sym other.seen ∙ ap (λ (y : Row). commit_below s y.shadow) e ∙ seen), (let v = ap (λ (y : Row). y.version) e in omega arith))) (least x d) (seen_among r rs s k x d other);
}

-- the first row is behind
lost : (r : Row) (rs : List Row) (s k c : ℕ) (latest : Latest) → commit_below s r.shadow ≡ Some c → IsBehind c r.version latest.commit latest.version → IsTheLatest rs s k latest → IsTheLatest (r ∷ rs) s k latest
lost r rs s k c latest seen behind h = record {
  row = h.row;
  seen = seen_more r rs s k h.row latest.commit h.seen;
  version = h.version;
  value = h.value;
  others = λ x d other.
      ⊎_elim (λ (e : x ≡ r).
      let same : d ≡ c = same_Some d c (sym other.seen ∙ ap (λ (y : Row). commit_below s y.shadow) e ∙ seen) in
      let v : x.version ≡ r.version = ap (λ (y : Row). y.version) e in
      ⊎_elim (λ (lt : c < latest.commit). inl (omega arith)) (λ (p : (c ≡ latest.commit) × (r.version ≤ latest.version)). inr (same ∙ p.0, (let q = p.1 in omega arith))) behind)
      (h.others x d) (seen_among r rs s k x d other);
}

is_ahead : (c t : ℕ) (latest : Latest) → is_later c t latest ≡ true → (latest.commit < c) ⊎ ((latest.commit ≡ c) × (latest.version < t))
is_ahead c t latest h = elim (cases_Bool (nat_lt latest.commit c)) [
  | inl q ↦ inl (ltb-true _ _ q)
  | inr q ↦ let p : ((latest.commit == c) && nat_lt latest.version t) ≡ true = subst (λ b. (b || ((latest.commit == c) && nat_lt latest.version t)) ≡ true) q h in
      let both = and_parts _ _ p in
      inr (eqb-true _ _ both.0, ltb-true _ _ both.1)
]

is_behind : (c t : ℕ) (latest : Latest) → is_later c t latest ≡ false → IsBehind c t latest.commit latest.version
is_behind c t latest h = grind (arith, h)

-- all that was behind the old latest is behind one that is ahead of it
behind_ahead : (d u c t : ℕ) (latest : Latest) → IsBehind d u latest.commit latest.version → (latest.commit < c) ⊎ ((latest.commit ≡ c) × (latest.version < t)) → IsBehind d u c t
behind_ahead d u c t latest behind (inl lt) = inl (⊎_elim (λ (a : d < latest.commit). omega arith) (λ (p : (d ≡ latest.commit) × (u ≤ latest.version)). (let q = p.0 in omega arith)) behind)
behind_ahead d u c t latest behind (inr p) =
    let same = p.0 in
    let up = p.1 in
    ⊎_elim (λ (a : d < latest.commit). inl (omega arith)) (λ (q : (d ≡ latest.commit) × (u ≤ latest.version)). inr (q.0 ∙ same, (let v = q.1 in omega arith))) behind

pub latest_is : (rows : List Row) (s k : ℕ) → IsLatest rows s k (latest_in rows s k)
unfolding latest_in ◌∈◌
latest_is [] s k = λ r c h. h.has
latest_is (r ∷ rs) s k = by_commit (commit_below s r.shadow) refl (latest_in rs s k) (latest_is rs s k)
  where
    by_order : (c : ℕ) (latest : Latest) → r.key ≡ k → commit_below s r.shadow ≡ Some c → IsTheLatest rs s k latest → (b : Bool) → is_later c r.version latest ≡ b → IsLatest (r ∷ rs) s k (if b then Some (row_with r c) else Some latest)
    by_order c latest key seen h true ahead = won r rs s k c key seen (λ x d other. behind_ahead d x.version c r.version latest (h.others x d other) (is_ahead c r.version latest ahead))
    by_order c latest key seen h false behind = lost r rs s k c latest seen (is_behind c r.version latest behind) h

    by_latest : (c : ℕ) (latest : Option Latest) → r.key ≡ k → commit_below s r.shadow ≡ Some c → IsLatest rs s k latest → IsLatest (r ∷ rs) s k (later_of r c latest)
    by_latest c None key seen h = won r rs s k c key seen (λ x d other. absurd (h x d other))
    by_latest c (Some latest) key seen h = by_order c latest key seen h (is_later c r.version latest) refl

    by_key : (c : ℕ) (latest : Option Latest) → commit_below s r.shadow ≡ Some c → IsLatest rs s k latest → (b : Bool) → (r.key == k) ≡ b → IsLatest (r ∷ rs) s k (if b then later_of r c latest else latest)
    by_key c latest seen h true q = by_latest c latest (eqb-true _ _ q) seen h
    by_key c latest seen h false q = passed r rs s k latest (λ d key other. eqb-false _ _ q key) h

    by_commit : (seen : Option ℕ) → commit_below s r.shadow ≡ seen → (latest : Option Latest) → IsLatest rs s k latest → IsLatest (r ∷ rs) s k (with_row k r seen latest)
    by_commit None is latest h = passed r rs s k latest (λ d key other. none-some d (sym is ∙ other)) h
    by_commit (Some c) is latest h = by_key c latest is h (r.key == k) refl
