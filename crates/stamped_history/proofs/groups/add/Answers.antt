use Rattle.std.proofs.Common.{rules, ◌≡◌, ◌<◌, ◌++◌, ◌∷◌, [], Some, length, slice_get, sym, ap, ◌∙◌, arith}
use Rattle.std.proofs.lemmas.Option.{slice_get_within, slice_get-get_or}
use Rattle.trace_items.specs.Items.{txn_of}
use Rattle.stamped_history.proofs.GroupLemmas.{operation_added, operation_passed}
use Rattle.stamped_history.proofs.groups.add.Goals as goal

pub returns-in_ok-push-clause-groups : goal.returns-in_ok-push-clause-groups
returns-in_ok-push-clause-groups c =
    let less : c.owner_of-txn.result < length c.args.groups.now.items = search rules in
    let there : slice_get c.args.groups.now.items c.owner_of-txn.result ≡ Some c.index_mut.result.now = slice_get-get_or c.args.groups.now.items c.owner_of-txn.result c.index_mut.result.now less ∙ ap Some (sym c.index_mut.ensures.value) in
    let made : c.push.new.self.items ≡ c.index_mut.result.now.items ++ c.args.operation ∷ [] = search rules in
    let own : c.owner_of-txn.result ≡ txn_of c.args.operation = search rules in
    λ seen all. operation_added c.args.groups.now.items c.owner_of-txn.result c.index_mut.result.now c.push.new.self seen c.args.operation there made own all

pub returns-else-txn-len-clause-groups : goal.returns-else-txn-len-clause-groups
returns-else-txn-len-clause-groups c =
    let own : c.owner_of-txn.result ≡ txn_of c.args.operation = search rules in
    let past = c.if-txn-len.false in
    let len = c.len.ensures in
    λ seen all. operation_passed c.args.groups.now.items c.owner_of-txn.result seen c.args.operation own
    (λ t group at same. let low = slice_get_within c.args.groups.now.items t group at in absurd (omega (arith, low, same, past, len))) all
