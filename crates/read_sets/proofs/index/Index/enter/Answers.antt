use Rattle.std.proofs.Common.{◌≡◌, Bool, true, false, not, refl}
use Rattle.read_sets.specs.declared.index.Index.{Index}
use Rattle.read_sets.specs.Index.{pair_cmp}
use Rattle.read_sets.proofs.SetLemmas.{set_kept}
use Rattle.read_sets.proofs.IndexLemmas.{enters_at, entered_new, entered_again}
use Rattle.read_sets.proofs.index.Index.enter.Goals as goal

pub returns-in_ok-enter_commits : goal.returns-in_ok-enter_commits
returns-in_ok-enter_commits c =
    let t = c.value-start.result in
    let k = c.value-number.result in
    let old = c.args.self.now in
    let new : Index = record { placed = old.placed; written = c.insert.new.self; commits = c.enter_commits.new.commits } in
    let put = c.in_ok-added.ensures.updates in
    enters_at old new c.args.txn c.args.key t k c.value-start.ensures.value c.value-number.ensures.value (record {
      placed = refl;
      there = put.1;
      kept = λ a b has. set_kept pair_cmp old.written c.insert.new.self (t, k) (a, b) put has;
      entered = λ was. entered_new old.placed old.written c.insert.new.self old.commits c.enter_commits.new.commits t k put c.in_ok-enter_commits.ensures.entered c.in_ok-enter_commits.ensures.kept was;
    })

was_there : (a b : Bool) → a ≡ not b → a ≡ false → b ≡ true
was_there a true is off = refl
was_there a false is off = absurd (cc)

pub returns-else-added : goal.returns-else-added
returns-else-added c =
    let t = c.value-start.result in
    let k = c.value-number.result in
    let old = c.args.self.now in
    let new : Index = record { placed = old.placed; written = c.insert.new.self; commits = old.commits } in
    let put = c.in_ok-added.ensures.updates in
    enters_at old new c.args.txn c.args.key t k c.value-start.ensures.value c.value-number.ensures.value (record {
      placed = refl;
      there = put.1;
      kept = λ a b has. set_kept pair_cmp old.written c.insert.new.self (t, k) (a, b) put has;
      entered = λ was. entered_again old.placed old.written c.insert.new.self old.commits t k put (was_there c.in_ok-added.added _ c.in_ok-added.ensures.added c.if-added.false) was;
    })
