-- How texts name nodes, sessions, keys and actors.
use Rattle.std.specs.Prelude.{ℕ, ◌+◌, List, [], ◌∷◌, ◌++◌, codes, decimal}
use Rattle.history_book.specs.declared.item.Actor.{Actor}
use Rattle.history_book.specs.declared.item.Actor.TheVariants.{Clock, Node, Session, Janitor}
use Rattle.stamp_base.specs.declared.stage.Stage.{Stage}
use Rattle.stamp_base.specs.declared.stage.Stage.TheVariants.{Request, Persist, Reply}
use Rattle.stamp_base.specs.declared.stores.Store.{Store}
use Rattle.stamp_base.specs.declared.stores.Store.TheVariants.{Cells, Table, Master}

-- the nodes are a, b, c and so on
abbrev pub node_letter : ℕ → ℕ
node_letter node = 97 + node

abbrev pub node_text : ℕ → List ℕ
node_text node = node_letter node ∷ []

abbrev pub session_text : ℕ → List ℕ
session_text session = codes "s" ++ decimal session

abbrev pub key_text : ℕ → List ℕ
key_text key = codes "k" ++ decimal key

abbrev pub actor_text : Actor → List ℕ
actor_text Clock = codes "clock"
actor_text (Node node) = node_text node
actor_text (Session session) = session_text session
actor_text Janitor = codes "janitor"

abbrev pub stage_text : Stage → List ℕ
stage_text Request = codes "request"
stage_text Persist = codes "persist"
stage_text Reply = codes "reply"

abbrev pub store_text : Store → List ℕ
store_text Cells = codes "cells"
store_text Table = codes "table"
store_text Master = codes "master"
