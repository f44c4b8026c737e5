-- The text of an archive, key by key, and what it tells of a script's stores.
use Rattle.std.proofs.Common.{◌≡◌, ℕ, zero, suc, ◌+◌, List, [], ◌++◌, Option, None, Some, Result, Ok, Err, length, refl, sym, ap, subst, ◌∙◌, add-one, arith}
use Rattle.std.specs.Prelude.{IfOk}
use Rattle.std.proofs.lemmas.Option.{same_Some, none-some}
use Rattle.history_book.specs.Isolation.{Visible}
use Rattle.history_book.specs.declared.item.Found.{Found}
use Rattle.history_book.specs.declared.item.Item.{Item}
use Rattle.isolation_rules.proofs.ReadLemmas.{visible_once}
use Rattle.system_parts.specs.Rows.{Row, AreOrdered}
use Rattle.system_parts.specs.Pairs.{Pairs}
use Rattle.machine.specs.State.{State}
use Rattle.script_data.specs.Data.{ScriptData}
use Rattle.command_semantics.specs.Runs.{script_played, replayed}
use Rattle.cell_compaction.specs.Archives.{answer_of}
use Rattle.cell_compaction.specs.Rest.{StandsAtRest, read_from, snapshot, compacted}
use Rattle.cell_compaction.specs.Laws.{SnapshotsAreVisible, CompactionKeepsSnapshots}
use Rattle.omid_top.specs.Compaction.{found_line, found_lines, counts_line, archive_text, rows_of, pairs_of, found_at, compact_text, KeepsCompaction}
use Rattle.omid_top.specs.Promise.{KeepsPromise}

-- ---- key by key
pub found_there : (found : Option Found) (from : ℕ) (value : List ℕ) → answer_of found ≡ Some (from, value) → found ≡ Some (record { from = from; value = value })
found_there None from value is = absurd (none-some _ is)
found_there (Some found) from value is = ap (λ (x : ℕ × List ℕ). let made : Found = record { from = x.0; value = x.1 } in Some made) (same_Some _ _ is)

pub found_nowhere : (found : Option Found) → answer_of found ≡ None → found ≡ None
found_nowhere None is = refl
found_nowhere (Some found) is = absurd (none-some _ (sym is))

pub no_keys : (found : ℕ → Option Found) → found_lines found 0 ≡ []
unfolding found_lines
no_keys found = refl

pub lines_more : (found : ℕ → Option Found) (k : ℕ) → found_lines found (k + 1) ≡ found_lines found k ++ found_line k (found k)
unfolding found_lines
lines_more found k = rw add-one refl

lines_same : (f g : ℕ → Option Found) → ((k : ℕ) → f k ≡ g k) → (n : ℕ) → found_lines f n ≡ found_lines g n
unfolding found_lines
lines_same f g same zero = refl
lines_same f g same (suc k) = ap (λ xs. xs ++ found_line k (f k)) (lines_same f g same k) ∙ ap (λ x. found_lines g k ++ found_line k x) (same k)

-- ---- of a script
pub if_ok_more : {T E : Type 0} (P Q : T → Type 0) (answer : Result T E) → ((made : T) → P made → Q made) → IfOk answer P → IfOk answer Q
if_ok_more P Q (Ok made) more holds = more made holds
if_ok_more P Q (Err stop) more holds = tt

-- the text of the archive is what is told of the stores before
pub archive_told : (law : CompactionKeepsSnapshots) (script : ScriptData) (water : ℕ) (w : State) (rows kept : List Row) (pairs : Pairs) (before : ℕ) (text : List ℕ)
    → w ≡ (script_played script).state → rows ≡ w.rows → pairs ≡ w.pairs → AreOrdered w.rows → kept ≡ compacted rows pairs water → before ≡ length rows
    → text ≡ archive_text (read_from kept water) before (length kept) water → text ≡ compact_text script water
archive_told law script water w rows kept pairs before text state rows_are pairs_are ordered kept_are counted is =
    let all : List Row = compacted w.rows w.pairs water in
    let stay : kept ≡ all = kept_are ∙ rw (rows_are, pairs_are) refl in
    let count : before ≡ length w.rows = counted ∙ ap length rows_are in
    let found : found_lines (read_from all water) 4096 ≡ found_lines (snapshot w.rows w.pairs water) 4096 = lines_same (read_from all water) (snapshot w.rows w.pairs water) (λ k. law w.rows w.pairs water water k ordered (omega arith)) 4096 in
    let told : text ≡ archive_text (snapshot w.rows w.pairs water) (length w.rows) (length all) water = is ∙ rw (stay, count) (ap (λ lines. lines ++ counts_line (length w.rows) (length all) water) found) in
    subst (λ (v : State). text ≡ archive_text (snapshot v.rows v.pairs water) (length v.rows) (length (compacted v.rows v.pairs water)) water) state told

pub compaction_kept : (law : SnapshotsAreVisible) (script : ScriptData) (water : ℕ) (w : State) (h : List Item) → w ≡ (script_played script).state → h ≡ replayed script → StandsAtRest h w.rows w.pairs → KeepsPromise script → KeepsCompaction script water
compaction_kept law script water w h state is rest promise =
    let here : StandsAtRest h (rows_of script) (pairs_of script) = subst (λ (v : State). StandsAtRest h v.rows v.pairs) state rest in
    let there : StandsAtRest (replayed script) (rows_of script) (pairs_of script) = subst (λ (x : List Item). StandsAtRest x (rows_of script) (pairs_of script)) is here in
    record {
      promise = promise;
      visible = λ k answer.
          let seen : Visible (replayed script) water k (found_at script water k) = law (replayed script) (rows_of script) (pairs_of script) water k there in (
            λ other. visible_once (replayed script) promise.promise.isolated.stamped water k answer (found_at script water k) other seen,
            λ found. subst (λ (x : Option Found). Visible (replayed script) water k x) (sym found) seen,
          );
    }
