-- For this crate's own proofs.
-- Stores at rest give every reader what it sees in the history.
use Rattle.std.proofs.Common.{◌≡◌, ℕ, ◌<◌, ◌≤◌, List, inl, inr, ⊎_elim, refl, sym, ap, ◌∙◌, subst, arith}
use Rattle.std.specs.Prelude.{Option, None, Some}
use Rattle.std.proofs.lemmas.Option.{same_Some, none-some}
use Rattle.stamp_base.specs.declared.stores.Mark.{Mark}
use Rattle.stamp_base.specs.declared.stores.Mark.TheVariants as mark
use Rattle.history_book.specs.Members.{◌∈◌}
use Rattle.history_book.specs.Isolation.{Committed, Wrote, Visible}
use Rattle.history_book.specs.declared.item.Item.{Item}
use Rattle.system_parts.specs.declared.rows.Cell.{Cell}
use Rattle.system_parts.specs.Rows.{Row, cell_of, looked}
use Rattle.system_parts.specs.Pairs.{Pairs, mark_of}
use Rattle.cell_compaction.specs.declared.latest.Latest.{Latest}
use Rattle.cell_compaction.specs.Rest.{StandsAtRest, commit_in, commit_of, with_commit, with_commits, latest_in, found_of, snapshot}
use Rattle.isolation_rules.proofs.ReadLemmas.{visible_once}
use Rattle.cell_compaction.specs.Laws.{SnapshotsAreVisible, NothingElseIsVisible}
use Rattle.cell_compaction.proofs.LatestRows.{IsSeen, IsLatest, latest_is, below_is, seen_by}
use Rattle.cell_compaction.proofs.MemberRows.{looked_member, member_looked, filled_member, filled_from}

-- a row of this key, version, value and commit
pub record HasRow (rows : List Row) (pairs : Pairs) (t c k : ℕ) (value : List ℕ) : Type 0 where
  pub row : Row
  pub has : row ∈ rows
  pub key : row.key ≡ k
  pub version : row.version ≡ t
  pub value_is : row.value ≡ value
  pub commit : commit_of pairs row ≡ Some c

-- a look that finds a cell with this value and this commit finds such a row
row_found : (rows : List Row) (pairs : Pairs) (t c k : ℕ) (value : List ℕ) (cell : Cell) → looked rows k t ≡ Some cell → cell.value ≡ value → ((row : Row) → cell_of row ≡ cell → row.version ≡ t → commit_of pairs row ≡ Some c) → HasRow rows pairs t c k value
row_found rows pairs t c k value cell found is commit =
    let of = looked_member rows k t cell found in
    record { row = of.row; has = of.has; key = of.key; version = of.version; value_is = ap (λ (x : Cell). x.value) of.cell_is ∙ is; commit = commit of.row of.cell_is of.version }

by_shadow : (pairs : Pairs) (row : Row) (shadow : Option ℕ) → row.shadow ≡ shadow → (c : ℕ) → shadow ≡ Some c → commit_of pairs row ≡ Some c
by_shadow pairs row shadow is c has = rw (is, has) refl

by_pair : (pairs : Pairs) (row : Row) (t c : ℕ) → row.shadow ≡ None → row.version ≡ t → mark_of pairs t ≡ Some (mark.Committed c) → commit_of pairs row ≡ Some c
by_pair pairs row t c bare version pair = rw (bare, version, pair) refl

pub written_row : (h : List Item) (rows : List Row) (pairs : Pairs) → StandsAtRest h rows pairs → (t c k : ℕ) (value : List ℕ) → Committed h t c → Wrote h t k value → HasRow rows pairs t c k value
written_row h rows pairs stands t c k value committed wrote = elim (stands.written t c k value committed wrote) [
  | inl found ↦ row_found rows pairs t c k value _ found refl (λ row is version. by_shadow pairs row (Some c) (ap (λ (x : Cell). x.shadow) is) c refl)
  | inr found ↦ row_found rows pairs t c k value _ found.0 refl (λ row is version. by_pair pairs row t c (ap (λ (x : Cell). x.shadow) is) version found.1)
]

-- a row's commit is one of the history
by_mark : (found : Option Mark) (c : ℕ) → commit_in found ≡ Some c → found ≡ Some (mark.Committed c)
by_mark None c is = absurd (none-some c is)
by_mark (Some mark.Invalid) c is = absurd (none-some c is)
by_mark (Some (mark.Committed d)) c is = ap (λ x. Some (mark.Committed x)) (same_Some d c is)

true_commit : (h : List Item) (rows : List Row) (pairs : Pairs) → StandsAtRest h rows pairs → (r : Row) (c : ℕ) → r ∈ rows → commit_of pairs r ≡ Some c → Committed h r.version c
true_commit h rows pairs stands r c has commit = go r.shadow refl commit
  where
    go : (shadow : Option ℕ) → r.shadow ≡ shadow → Rattle.std.specs.Option.option_or shadow (commit_in (mark_of pairs r.version)) ≡ Some c → Committed h r.version c
    go None bare is = stands.paired r.version c (by_mark (mark_of pairs r.version) c is)
    go (Some d) shadowed is = stands.shadowed r.key r.version c (cell_of r) (member_looked r rows stands.ordered has) (shadowed ∙ is)

-- and its value is what the version wrote last
true_value : (h : List Item) (rows : List Row) (pairs : Pairs) → StandsAtRest h rows pairs → (r : Row) (c : ℕ) → r ∈ rows → Committed h r.version c → Wrote h r.version r.key r.value
true_value h rows pairs stands r c has committed =
    let here = member_looked r rows stands.ordered has in
    let wrote = stands.no_others r.version c r.key (cell_of r) committed here in
    let value : wrote.0 ≡ r.value = elim (stands.written r.version c r.key wrote.0 committed wrote.1) [
      | inl found ↦ ap (λ (x : Cell). x.value) (same_Some _ _ (sym found ∙ here))
      | inr found ↦ ap (λ (x : Cell). x.value) (same_Some _ _ (sym found.0 ∙ here))
    ] in
    subst (Wrote h r.version r.key) value wrote.1

-- what was written by a candidate is seen
seen_row : (h : List Item) (rows : List Row) (pairs : Pairs) (s k t c : ℕ) (value : List ℕ) → HasRow rows pairs t c k value → c < s → (r : Row) × IsSeen (with_commits pairs rows) s k r c × (r.version ≡ t)
seen_row h rows pairs s k t c value of below =
    (with_commit pairs of.row, record { has = filled_member pairs of.row rows of.has; key = of.key; seen = seen_by s (commit_of pairs of.row) c of.commit below }, of.version)

visible_by : (h : List Item) (rows : List Row) (pairs : Pairs) (s k : ℕ) → StandsAtRest h rows pairs → (latest : Option Latest) → IsLatest (with_commits pairs rows) s k latest → Visible h s k (found_of latest)
visible_by h rows pairs s k stands None none = λ t c candidate.
    let seen = seen_row h rows pairs s k t c candidate.wrote.0 (written_row h rows pairs stands t c k candidate.wrote.0 candidate.committed candidate.wrote.1) candidate.below in
    none seen.0 c seen.1
visible_by h rows pairs s k stands (Some latest) is =
    let of = filled_from pairs is.row rows is.seen.has in
    let r : Row = of.row in
    let here = below_is s is.row.shadow latest.commit is.seen.seen in
    let commit : commit_of pairs r ≡ Some latest.commit = ap (λ (x : Row). x.shadow) (sym of.filled) ∙ here.0 in
    let key : r.key ≡ k = ap (λ (x : Row). x.key) (sym of.filled) ∙ is.seen.key in
    let version : r.version ≡ latest.version = ap (λ (x : Row). x.version) (sym of.filled) ∙ is.version in
    let value : r.value ≡ latest.value = ap (λ (x : Row). x.value) (sym of.filled) ∙ is.value in
    let committed : Committed h r.version latest.commit = true_commit h rows pairs stands r latest.commit of.has commit in
    let wrote : Wrote h latest.version k latest.value = subst (λ (x : ℕ × ℕ × List ℕ). Wrote h x.0 x.1 x.2) (λ i. (version i, key i, value i)) (true_value h rows pairs stands r latest.commit of.has committed) in
    record {
      commit = latest.commit;
      candidate = record { committed = subst (λ t. Committed h t latest.commit) version committed; below = here.1; wrote = (latest.value, wrote) };
      value = wrote;
      greatest = λ t c candidate.
          let seen = seen_row h rows pairs s k t c candidate.wrote.0 (written_row h rows pairs stands t c k candidate.wrote.0 candidate.committed candidate.wrote.1) candidate.below in
          ⊎_elim (λ (lt : c < latest.commit). omega arith) (λ (p : (c ≡ latest.commit) × (seen.0.version ≤ latest.version)). (let q = p.0 in omega arith)) (is.others seen.0 c seen.1);
    }

pub snapshots_visible : SnapshotsAreVisible
snapshots_visible h rows pairs s k stands = visible_by h rows pairs s k stands (latest_in (with_commits pairs rows) s k) (latest_is (with_commits pairs rows) s k)

pub nothing_else_visible : NothingElseIsVisible
nothing_else_visible h rows pairs s k answer stands stamped visible =
    visible_once h stamped s k answer (snapshot rows pairs s k) visible (snapshots_visible h rows pairs s k stands)
