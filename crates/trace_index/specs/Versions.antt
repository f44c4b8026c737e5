-- Who wrote each value at each key, and the versions that were read.
use Rattle.std.specs.Prelude.{ℕ, ◌&&◌, nat_eq, Bool, List, [], ◌∷◌, ◌++◌, Option, None, Some, Result, Ok, Err}
use Rattle.std.specs.Map.{lookup}
use Rattle.indexmap.specs.IndexMap.{insert_entry}
use Rattle.trace_reading.specs.declared.operation.Operation.TheVariants as said
use Rattle.trace_reading.specs.declared.operation.Operation as recorded
use Rattle.trace_rules.specs.declared.trace.Operation.{Operation}
use Rattle.trace_rules.specs.declared.trace.Operation.TheVariants as operation
use Rattle.trace_rules.specs.declared.trace.Version.{Version}
use Rattle.list_orders.specs.Listings.{listed_between}
use Rattle.trace_index.specs.declared.fault.Unclear.{Unclear}
use Rattle.trace_index.specs.declared.fault.Unclear.TheVariants as unclear
use Rattle.trace_index.specs.declared.said.Said.{Said}

-- an operation of a transaction by its place there, its key and a value, and what is unclear of it
pub record Blame : Type 0 where
  pub txn : ℕ
  pub member : ℕ
  pub key : ℕ
  pub value : ℕ
  pub what : Unclear

infixl 10 ◌>>=◌
abbrev pub ◌>>=◌ : {A B : Type 0} → Result A Blame → (A → Result B Blame) → Result B Blame
(Ok a) >>= f = f a
(Err b) >>= f = Err b

abbrev pub pair_eq : ℕ × ℕ → ℕ × ℕ → Bool
pair_eq x y = nat_eq x.0 y.0 && nat_eq x.1 y.1

-- the writers by key and value
abbrev pub Writers : Type 0
Writers = List ((ℕ × ℕ) × ℕ)

abbrev pub writer_of : Writers → ℕ → ℕ → Option ℕ
writer_of writers key value = lookup (pair_eq (key, value)) writers

abbrev pub unless_written : Writers → ℕ → ℕ → ℕ → ℕ → Option ℕ → Result Writers Blame
unless_written writers txn member key value None = Ok (insert_entry pair_eq writers (key, value) txn)
unless_written writers txn member key value (Some other) = Err (record { txn = txn; member = member; key = key; value = value; what = unclear.WrittenTwice })

abbrev pub written : Writers → ℕ → ℕ → ℕ → ℕ → Result Writers Blame
written writers txn member key value = unless_written writers txn member key value (writer_of writers key value)

abbrev pub writer_step : Writers → ℕ → ℕ → recorded.Operation → Result Writers Blame
writer_step writers txn member (said.Read key answer version) = Ok writers
writer_step writers txn member (said.ReadList key first end) = Ok writers
writer_step writers txn member (said.Write key value version) = written writers txn member key value
writer_step writers txn member (said.Append key value) = written writers txn member key value

-- no value is written twice at a key
abbrev pub writers_from : Writers → List Said → Result Writers Blame
writers_from writers [] = Ok writers
writers_from writers (s ∷ ss) = writer_step writers s.txn s.member s.operation >>= λ after. writers_from after ss

abbrev pub version_by : ℕ → ℕ → ℕ → ℕ → Option ℕ → Result (Option Version) Blame
version_by txn member key value None = Err (record { txn = txn; member = member; key = key; value = value; what = unclear.WrittenByNobody })
version_by txn member key value (Some from) = Ok (Some (record { from = from; value = value }))

-- the version that a read found, by its writer
abbrev pub version_of : Writers → ℕ → ℕ → ℕ → Option ℕ → Result (Option Version) Blame
version_of writers txn member key None = Ok None
version_of writers txn member key (Some value) = version_by txn member key value (writer_of writers key value)

abbrev pub read_step : Writers → ℕ → ℕ → ℕ → Option ℕ → Result Operation Blame
read_step writers txn member key answer = version_of writers txn member key answer >>= λ found. Ok (operation.Read txn key found)

-- the version of the last of these values, each of which has a writer, and of none this one
abbrev pub last_version : Writers → ℕ → ℕ → ℕ → Option Version → List ℕ → Result (Option Version) Blame
last_version writers txn member key found [] = Ok found
last_version writers txn member key found (value ∷ values) = version_by txn member key value (writer_of writers key value) >>= λ next. last_version writers txn member key next values

-- a list is a read of its last member
abbrev pub list_step : Writers → ℕ → ℕ → ℕ → List ℕ → Result Operation Blame
list_step writers txn member key values = last_version writers txn member key None values >>= λ found. Ok (operation.Read txn key found)

abbrev pub operation_step : Writers → List ℕ → ℕ → ℕ → recorded.Operation → Result Operation Blame
operation_step writers listed txn member (said.Read key answer version) = read_step writers txn member key answer
operation_step writers listed txn member (said.ReadList key first end) = list_step writers txn member key (listed_between listed first end)
operation_step writers listed txn member (said.Write key value version) = Ok (operation.Write txn key value)
operation_step writers listed txn member (said.Append key value) = Ok (operation.Write txn key value)

-- the operations, behind these
abbrev pub operations_from : Writers → List ℕ → List Operation → List Said → Result (List Operation) Blame
operations_from writers listed done [] = Ok done
operations_from writers listed done (s ∷ ss) = operation_step writers listed s.txn s.member s.operation >>= λ made. operations_from writers listed (done ++ made ∷ []) ss
