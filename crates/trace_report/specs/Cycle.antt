-- A cycle, one line a step: the two transactions by their lines, what each did there, and why the one comes before the other.
use Rattle.std.specs.Prelude.{ℕ, List, [], ◌++◌, codes, decimal}
use Rattle.std.specs.List.{flat_map}
use Rattle.trace_index.specs.declared.attempts.Attempt.{Attempt}
use Rattle.trace_report.specs.declared.step.Step.{Step}
use Rattle.trace_report.specs.declared.step.Way.{Way}
use Rattle.trace_report.specs.declared.step.Way.TheVariants.{Next, Read, Missed, Session, Time}
use Rattle.trace_report.specs.Parts.{line_at, name_at}

abbrev pub written_text : List ℕ → List ℕ
written_text name = codes " w " ++ name

abbrev pub read_text : List ℕ → List ℕ
read_text name = codes " r " ++ name

-- what the first of the two did at the key of this name
abbrev pub first_text : Way → List ℕ → List ℕ
first_text Next name = written_text name
first_text Read name = written_text name
first_text Missed name = read_text name
first_text Session name = []
first_text Time name = []

-- what the second did there
abbrev pub second_text : Way → List ℕ → List ℕ
second_text Next name = written_text name
second_text Read name = read_text name
second_text Missed name = written_text name
second_text Session name = []
second_text Time name = []

abbrev pub way_text : Way → List ℕ
way_text Next = codes "ww"
way_text Read = codes "wr"
way_text Missed = codes "rw"
way_text Session = codes "session"
way_text Time = codes "real time"

abbrev pub step_text : List (List ℕ) → List Attempt → Step → List ℕ
step_text names attempts step =
    codes "  line " ++ decimal (line_at attempts step.from) ++ first_text step.way (name_at names step.key)
    ++ codes " before line " ++ decimal (line_at attempts step.to) ++ second_text step.way (name_at names step.key)
    ++ codes " (" ++ way_text step.way ++ codes ")\n"

abbrev pub cycle_text : List (List ℕ) → List Attempt → List Step → List ℕ
cycle_text names attempts steps = flat_map (step_text names attempts) steps
