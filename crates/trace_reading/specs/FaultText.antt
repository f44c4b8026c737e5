-- The line that says what is wanted of a trace: by the number of its line, the member, and what shall stand there.
use Rattle.std.specs.Prelude.{ℕ, List, [], ◌++◌, codes, decimal}
use Rattle.trace_reading.specs.declared.want.Want.{Want}
use Rattle.trace_reading.specs.declared.want.Want.TheVariants as want

-- a member of an operation, as "value[1][2]"
abbrev pub part_text : ℕ → List ℕ → List ℕ
part_text operation part = codes "value[" ++ decimal operation ++ part

abbrev pub listed_text : ℕ → List ℕ
listed_text member = codes "][2][" ++ decimal member ++ codes "]: "

-- the member that lacks something; no member where the whole line does
abbrev pub member_text : Want → List ℕ
member_text want.Json = []
member_text want.Object = []
member_text want.Type = codes "type: "
member_text want.Process = codes "process: "
member_text want.Time = codes "time: "
member_text want.Began = codes "began: "
member_text want.Committing = codes "committing: "
member_text want.Operations = codes "value: "
member_text (want.Function operation) = part_text operation (codes "][0]: ")
member_text (want.Key operation) = part_text operation (codes "][1]: ")
member_text (want.Answer operation) = part_text operation (codes "][2]: ")
member_text (want.Listed operation member) = part_text operation (listed_text member)
member_text (want.Written operation) = part_text operation (codes "][2]: ")
member_text (want.Version operation) = part_text operation (codes "][3]: ")

abbrev pub wanted_text : Want → List ℕ
wanted_text want.Json = codes "JSON"
wanted_text want.Object = codes "an object"
wanted_text want.Type = codes "invoke, ok, fail or info"
wanted_text want.Process = codes "a text or a whole number"
wanted_text want.Time = codes "a whole number"
wanted_text want.Began = codes "a whole number"
wanted_text want.Committing = codes "a whole number"
wanted_text want.Operations = codes "an array"
wanted_text (want.Function operation) = codes "r, w or append"
wanted_text (want.Key operation) = codes "a text or a whole number"
wanted_text (want.Answer operation) = codes "null, a text, a whole number or an array"
wanted_text (want.Listed operation member) = codes "a text or a whole number"
wanted_text (want.Written operation) = codes "a text or a whole number"
wanted_text (want.Version operation) = codes "a whole number"

abbrev pub fault_text : ℕ → Want → List ℕ
fault_text line w = codes "trace line " ++ decimal line ++ codes ": " ++ member_text w ++ wanted_text w ++ codes " is wanted\n"
