use Rattle.std.proofs.Common.{◌≡◌, ◌++◌, map}
use Rattle.std.specs.declared.ops.Bound.TheVariants.{Included}
use Rattle.std.specs.BTreeSet.{keys_between}
use Rattle.cell_store.specs.Index.{entry_cmp, key_of}
use Rattle.cell_store.proofs.version_index.keys_from_to.Given as goal

abbrev pub invariant-loop-turned : goal.invariant-loop-turned
invariant-loop-turned l = l.keys.items ++ map key_of l.turned-iterator ≡ map key_of (keys_between entry_cmp (Included l.fn.first) (Included l.fn.last) l.index)
