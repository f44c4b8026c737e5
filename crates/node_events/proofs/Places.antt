-- For cluster_core too.
-- What has a place in the commit table has it still when a place is given, and when another is used up.
use Rattle.std.proofs.Common.{◌≡◌, ◌≢◌, ℕ, Bool, true, false, ◌||◌, Result, Ok, Err, IsTrue, arith, refl, sym, subst, ◌∙◌}
use Rattle.std.specs.Prelude.{OnOk, OnErr}
use Rattle.std.specs.Ordering.{nat_cmp, eq_by_cmp}
use Rattle.std.specs.FinSet as set
use Rattle.std.specs.FinSet.{contains-insert, contains-remove}
use Rattle.std.specs.Cmp.{nat_cmp_total}
use Rattle.std.proofs.lemmas.Bool.Decides.{nat_tests}
use Rattle.system_parts.specs.Pairs.{Places}
use Rattle.commit_table.specs.Seen.{SeenTable}
use Rattle.node_events.specs.Reserved.{KeepPlaces}

or_has : (a b : Bool) → b ≡ true → a || b ≡ true
or_has true b has = refl
or_has false b has = has

pub given_keeps : (places : Places) (start txn : ℕ) → IsTrue (set.contains places txn) → IsTrue (set.contains (set.insert places start) txn)
given_keeps places start txn has = contains-insert nat_cmp_total places start txn ∙ or_has (eq_by_cmp nat_cmp txn start) (set.contains places txn) has

pub used_keeps : (places : Places) (start txn : ℕ) → txn ≢ start → IsTrue (set.contains places txn) → IsTrue (set.contains (set.remove places start) txn)
used_keeps places start txn other has =
    let one = contains-remove nat_cmp_total places start txn in
    grind (arith, nat_tests, one, other, has)

pub reserved_keep : {E : Type 0} → (old now : SeenTable) (start : ℕ) (result : Result Unit E) → OnOk result (now.places ≡ set.insert old.places start) → OnErr result (now ≡ old) → KeepPlaces old.places now.places
reserved_keep old now start (Ok _) given same = λ txn has. subst (λ (places : Places). IsTrue (set.contains places txn)) (sym given) (given_keeps old.places start txn has)
reserved_keep old now start (Err why) given same = λ txn has. subst (λ (table : SeenTable). IsTrue (set.contains table.places txn)) (sym same) has
