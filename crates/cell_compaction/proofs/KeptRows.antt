-- For this crate's own proofs.
-- What a reader at the water or above it finds in all rows, it finds in those that stay.
use Rattle.std.proofs.Common.{◌≡◌, ℕ, ◌<◌, ◌≤◌, Bool, true, false, ◌||◌, ◌⊎◌, List, [], ◌∷◌, inl, inr, refl, sym, ap, ◌∙◌, subst, true≢false, arith, eq-eqb}
use Rattle.std.specs.Prelude.{nat_le, if◌then◌else◌, Option, None, Some}
use Rattle.history_book.specs.Members.{◌∈◌}
use Rattle.system_parts.specs.Rows.{Row, IsBelowAll, AreOrdered}
use Rattle.cell_compaction.specs.declared.latest.Latest.{Latest}
use Rattle.cell_compaction.specs.Rest.{latest_in, found_of, is_latest, stays_by, stays, kept_of, compacted, with_commits}
use Rattle.history_book.specs.Isolation.{Visible}
use Rattle.cell_compaction.specs.Laws.{CompactionKeepsSnapshots, ArchivesAreVisible}
use Rattle.cell_compaction.proofs.Snapshots.{snapshots_visible}
use Rattle.cell_compaction.proofs.LatestRows.{IsSeen, IsBehind, IsTheLatest, IsLatest, latest_is, below_is, seen_by}
use Rattle.cell_compaction.proofs.MemberRows.{one_row, filled_ordered}

-- two of which neither is ahead are one
pub both_behind : (c t d u : ℕ) → IsBehind c t d u → IsBehind d u c t → (c ≡ d) × (t ≡ u)
both_behind c t d u (inl a) (inl b) = absurd (omega arith)
both_behind c t d u (inl a) (inr q) = let e = q.0 in absurd (omega arith)
both_behind c t d u (inr p) (inl b) = let e = p.0 in absurd (omega arith)
both_behind c t d u (inr p) (inr q) = let up = p.1 in let down = q.1 in (p.0, omega arith)

-- of the rows that a reader sees at the water, the latest one stays
stays_as_latest : (rows : List Row) (water k : ℕ) (r : Row) (c : ℕ) → IsSeen rows water k r c → ((x : Row) (d : ℕ) → IsSeen rows water k x d → IsBehind d x.version c r.version) → (latest : Option Latest) → IsLatest rows water k latest → is_latest c r.version latest ≡ true
stays_as_latest rows water k r c seen top None none = absurd (none r c seen)
stays_as_latest rows water k r c seen top (Some latest) is =
    let mine : IsBehind c r.version latest.commit latest.version = is.others r c seen in
    let theirs : IsBehind latest.commit latest.version c r.version = subst (λ v. IsBehind latest.commit v c r.version) is.version (top is.row latest.commit is.seen) in
    let same = both_behind latest.commit latest.version c r.version theirs mine in
    rw (eq-eqb _ _ same.0, eq-eqb _ _ same.1) refl

-- a row that stays stands among those that are kept
kept_has : (all : List Row) (water : ℕ) (rows : List Row) (r : Row) → r ∈ rows → stays all water r ≡ true → r ∈ kept_of all water rows
unfolding kept_of ◌∈◌
kept_has all water [] r h is = h
kept_has all water (x ∷ xs) r h is = go (λ later. kept_has all water xs r later is) (stays all water x) refl h
  where
    go : (r ∈ xs → r ∈ kept_of all water xs) → (b : Bool) → stays all water x ≡ b → (r ≡ x) ⊎ (r ∈ xs) → r ∈ (if b then x ∷ kept_of all water xs else kept_of all water xs)
    go more true there (inl e) = inl e
    go more true there (inr later) = inr (more later)
    go more false there (inl e) = absurd (true≢false (sym is ∙ ap (stays all water) e ∙ there))
    go more false there (inr later) = more later

-- each row that is kept is one of the rows
kept_from : (all : List Row) (water : ℕ) (rows : List Row) (x : Row) → x ∈ kept_of all water rows → x ∈ rows
unfolding kept_of ◌∈◌
kept_from all water [] x h = h
kept_from all water (r ∷ rs) x h = go (λ later. kept_from all water rs x later) (stays all water r) h
  where
    go : (x ∈ kept_of all water rs → x ∈ rs) → (b : Bool) → x ∈ (if b then r ∷ kept_of all water rs else kept_of all water rs) → (x ≡ r) ⊎ (x ∈ rs)
    go more true (inl e) = inl e
    go more true (inr h) = inr (more h)
    go more false h = inr (more h)

pub kept_seen : (all : List Row) (water s k : ℕ) (x : Row) (c : ℕ) → IsSeen (kept_of all water all) s k x c → IsSeen all s k x c
kept_seen all water s k x c seen = record { has = kept_from all water all x seen.has; key = seen.key; seen = seen.seen }

at_water : (water c : ℕ) (b best : Bool) → nat_le water c ≡ b → (c < water → best ≡ true) → (b || best) ≡ true
at_water water c true best q low = refl
at_water water c false best q low = low (grind (arith, q))

-- the latest row below a start at the water or above it stays
latest_stays : (rows : List Row) (water s k : ℕ) → water ≤ s → (latest : Latest) → (is : IsTheLatest rows s k latest) → stays rows water is.row ≡ true
latest_stays rows water s k above latest is =
    let r : Row = is.row in
    let here = below_is s r.shadow latest.commit is.seen.seen in
    let low : latest.commit < water → is_latest latest.commit r.version (latest_in rows water r.key) ≡ true = λ lt.
    subst (λ key. is_latest latest.commit r.version (latest_in rows water key) ≡ true) (sym is.seen.key)
    (stays_as_latest rows water k r latest.commit (record { has = is.seen.has; key = is.seen.key; seen = seen_by water r.shadow latest.commit here.0 lt })
    (λ x d other.
    let p = below_is water x.shadow d other.seen in
    let under = p.1 in
    subst (IsBehind d x.version latest.commit) (sym is.version) (is.others x d (record { has = other.has; key = other.key; seen = seen_by s x.shadow d p.0 (omega arith) })))
    (latest_in rows water k) (latest_is rows water k)) in
    subst (λ commit. stays_by water r commit (latest_in rows water r.key) ≡ true) (sym here.0)
    (at_water water latest.commit (nat_le water latest.commit) (is_latest latest.commit r.version (latest_in rows water r.key)) refl low)

same_found : (rows : List Row) (water s k : ℕ) → AreOrdered rows → water ≤ s → (latest now : Option Latest) → IsLatest rows s k latest → IsLatest (kept_of rows water rows) s k now → now ≡ latest
same_found rows water s k ordered above None None h n = refl
same_found rows water s k ordered above None (Some now) h n = absurd (h n.row now.commit (kept_seen rows water s k n.row now.commit n.seen))
same_found rows water s k ordered above (Some latest) now h n =
    go now n (record { has = kept_has rows water rows h.row h.seen.has (latest_stays rows water s k above latest h); key = h.seen.key; seen = h.seen.seen })
  where
    go : (now : Option Latest) → IsLatest (kept_of rows water rows) s k now → IsSeen (kept_of rows water rows) s k h.row latest.commit → now ≡ Some latest
    go None none seen = absurd (none h.row latest.commit seen)
    go (Some other) is seen =
        let theirs = kept_seen rows water s k is.row other.commit is.seen in
        let up : IsBehind latest.commit latest.version other.commit other.version = subst (λ v. IsBehind latest.commit v other.commit other.version) h.version (is.others h.row latest.commit seen) in
        let down : IsBehind other.commit other.version latest.commit latest.version = subst (λ v. IsBehind other.commit v latest.commit latest.version) is.version (h.others is.row other.commit theirs) in
        let same = both_behind other.commit other.version latest.commit latest.version down up in
        let one : is.row ≡ h.row = one_row is.row h.row rows ordered theirs.has h.seen.has (is.seen.key ∙ sym h.seen.key) (is.version ∙ same.1 ∙ sym h.version) in
        let value : other.value ≡ latest.value = sym is.value ∙ ap (λ (y : Row). y.value) one ∙ h.value in
        ap Some (λ i. record { commit = same.0 i; version = same.1 i; value = value i })

pub compaction_keeps : CompactionKeepsSnapshots
compaction_keeps rows pairs water s k ordered above =
    let filled : List Row = with_commits pairs rows in
    ap found_of (same_found filled water s k (filled_ordered pairs rows ordered) above (latest_in filled s k) (latest_in (compacted rows pairs water) s k) (latest_is filled s k) (latest_is (compacted rows pairs water) s k))

-- ---- rows that stay ascend
below_kept : (all : List Row) (water : ℕ) (r : Row) (rows : List Row) → IsBelowAll r rows → IsBelowAll r (kept_of all water rows)
unfolding kept_of IsBelowAll
below_kept all water r [] below = below
below_kept all water r (x ∷ xs) below = go (stays all water x) (below_kept all water r xs below.1)
  where
    go : (b : Bool) → IsBelowAll r (kept_of all water xs) → IsBelowAll r (if b then x ∷ kept_of all water xs else kept_of all water xs)
    go true more = (below.0, more)
    go false more = more

pub kept_ordered : (all : List Row) (water : ℕ) (rows : List Row) → AreOrdered rows → AreOrdered (kept_of all water rows)
unfolding kept_of AreOrdered
kept_ordered all water [] ordered = ordered
kept_ordered all water (r ∷ rs) ordered = go (stays all water r) (kept_ordered all water rs ordered.1)
  where
    go : (b : Bool) → AreOrdered (kept_of all water rs) → AreOrdered (if b then r ∷ kept_of all water rs else kept_of all water rs)
    go true more = (below_kept all water r rs ordered.0, more)
    go false more = more

pub archives_visible : ArchivesAreVisible
archives_visible h rows pairs water s k stands above = subst (Visible h s k) (sym (compaction_keeps rows pairs water s k stands.ordered above)) (snapshots_visible h rows pairs s k stands)
