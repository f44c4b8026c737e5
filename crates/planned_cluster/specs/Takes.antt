-- Which nodes have taken the master record, as lists that code keeps.
use Rattle.std.specs.Prelude.{ℕ, Bool, true, false, List, fold, replicate, slice_set, Option, None, Some}
use Rattle.history_book.specs.declared.item.Item.{Item}
use Rattle.command_semantics.specs.Master.{taken_by}

-- the flag of the node is set
abbrev pub with_node : List Bool → Option ℕ → List Bool
with_node taken None = taken
with_node taken (Some node) = slice_set taken node true

abbrev pub then_taken : List Bool → Item → List Bool
then_taken taken x = with_node taken (taken_by x)

-- a flag for each of the nodes that there can be: it has taken the record
abbrev pub nodes_taken : List Item → List Bool
nodes_taken h = fold then_taken (replicate 8 false) h
