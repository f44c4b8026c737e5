-- The names of cycles: of steps each of which leads to where the next begins, the last one to the first.
use Rattle.std.specs.Prelude.{ℕ, ◌==◌, Bool, true, false, ◌&&◌, ◌||◌, if◌then◌else◌, List, [], ◌∷◌, codes, count_by, length}
use Rattle.std.specs.List.{list_any}
use Rattle.trace_report.specs.declared.step.Step.{Step}
use Rattle.trace_report.specs.declared.step.Way.{Way}
use Rattle.trace_report.specs.declared.step.Way.TheVariants.{Next, Read, Missed, Session, Time}
use Rattle.trace_report.specs.declared.name.Anomaly.{Anomaly}
use Rattle.trace_report.specs.declared.name.Anomaly.TheVariants.{WriteCycle, CircularInformation, LostUpdate, SingleMiss, WriteSkew, LongFork, ItemCycle}

abbrev pub is_next : Way → Bool
is_next Next = true
is_next Read = false
is_next Missed = false
is_next Session = false
is_next Time = false

abbrev pub is_read : Way → Bool
is_read Next = false
is_read Read = true
is_read Missed = false
is_read Session = false
is_read Time = false

abbrev pub is_missed : Way → Bool
is_missed Next = false
is_missed Read = false
is_missed Missed = true
is_missed Session = false
is_missed Time = false

-- no read misses anything: reads of writes go round, or writes alone
abbrev pub of_none : List Step → Anomaly
of_none steps = if list_any (λ step. is_read step.way) steps then CircularInformation else WriteCycle

-- two steps at one key, one of which leads to the next version
abbrev pub is_lost_update : List Step → Bool
is_lost_update (one ∷ other ∷ []) = (one.key == other.key) && (is_next one.way || is_next other.way)
is_lost_update _ = false

-- one read misses something
abbrev pub of_one : List Step → Anomaly
of_one steps = if is_lost_update steps then LostUpdate else SingleMiss

-- the way of the first of these steps, or, where there is none, that of the cycle's first
abbrev pub way_behind : Way → List Step → Way
way_behind first [] = first
way_behind first (next ∷ steps) = next.way

-- a read that missed something stands just behind another, of the last steps of a cycle that begins in this way
abbrev pub meet_from : Way → List Step → Bool
meet_from first [] = false
meet_from first (step ∷ steps) = (is_missed step.way && is_missed (way_behind first steps)) || meet_from first steps

abbrev pub misses_meet : List Step → Bool
misses_meet [] = false
misses_meet (step ∷ steps) = meet_from step.way (step ∷ steps)

-- several reads miss something
abbrev pub of_several : List Step → Anomaly
of_several steps = if length steps == 2 then WriteSkew else (if misses_meet steps then ItemCycle else LongFork)

abbrev pub of_count : ℕ → List Step → Anomaly
of_count n steps = if n == 0 then of_none steps else (if n == 1 then of_one steps else of_several steps)

abbrev pub name_of : List Step → Anomaly
name_of steps = of_count (count_by (λ step. is_missed step.way) steps) steps

abbrev pub anomaly_name : Anomaly → List ℕ
anomaly_name WriteCycle = codes "G0"
anomaly_name CircularInformation = codes "G1c"
anomaly_name LostUpdate = codes "lost update"
anomaly_name SingleMiss = codes "G-single"
anomaly_name WriteSkew = codes "write skew"
anomaly_name LongFork = codes "long fork"
anomaly_name ItemCycle = codes "G2-item"
