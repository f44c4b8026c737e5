-- What a setup line says, and what it makes of the script so far.
use Rattle.std.specs.Prelude.{◌≡◌, ℕ, ◌<◌, ◌≤◌, ◌==◌, nat_le, Bool, true, false, ◌&&◌, ◌||◌, not, if◌then◌else◌, List, [], ◌∷◌, ◌++◌, Option, None, Some, Result, Ok, Err, length, replicate, slice_set, All}
use Rattle.std.specs.List.{list_any}
use Rattle.stamp_base.specs.SetupNumbers.{SetupNumbers, MayBe, set_number, turn_on}
use Rattle.stamp_base.specs.declared.setup_number.SetupFlag.{SetupFlag}
use Rattle.stamp_base.specs.declared.setup_number.SetupFlag.TheVariants as flags
use Rattle.stamp_base.specs.declared.setup_number.SetupNumber.{SetupNumber}
use Rattle.stamp_base.specs.declared.setup_number.SetupNumber.TheVariants as numbers
use Rattle.port_io.specs.Planned.{PlannedFault, same_store}
use Rattle.session_script.specs.declared.form.SetupForm.{SetupForm}
use Rattle.session_script.specs.declared.form.SetupForm.TheVariants as forms
use Rattle.script_data.specs.declared.limits.TheConstants.{FAULT_LIMIT}
use Rattle.session_script.specs.declared.setting.Setting.{Setting}
use Rattle.session_script.specs.declared.setting.Setting.TheVariants.{Number, Flag, Buckets, Lead, Fault}
use Rattle.session_script.specs.declared.cause.ScriptCause.{ScriptCause}
use Rattle.session_script.specs.declared.cause.ScriptCause.TheVariants.{WrongNumberOfWords, SetupOrder, SetupTwice, TooManyFaults}
use Rattle.session_script.specs.Checked.{number_at, setup_number_at, flag_at, node_at, store_at, kind_at}
use Rattle.script_data.specs.Data.{ScriptData}
use Rattle.session_script.specs.Grammar.{setup_words}
use Rattle.session_script.specs.Results.{◌>>=◌}
use Rattle.session_script.specs.Words.{LineWords}

-- what a setup line of the form sets, its arguments read from left to right
abbrev pub arguments_of : SetupNumbers → SetupForm → LineWords → Result Setting ScriptCause
arguments_of setup (forms.Number number) words = setup_number_at number words.second >>= (λ n. Ok (Number number n))
arguments_of setup (forms.Flag flag) words = flag_at flag words.second >>= (λ flag. Ok (Flag flag))
arguments_of setup forms.Buckets words = setup_number_at numbers.Buckets words.second >>= (λ buckets. setup_number_at numbers.Width words.third >>= (λ width. Ok (Buckets buckets width)))
arguments_of setup forms.Lead words = node_at setup.nodes words.second >>= (λ node. number_at 0 setup.skew words.third >>= (λ lead. Ok (Lead node lead)))
arguments_of setup forms.Fault words = store_at words.second >>= (λ store. number_at 1 1000000 words.third >>= (λ number. kind_at words.fourth >>= (λ kind. Ok (Fault store number kind))))

unfoldable pub setting_of : SetupNumbers → SetupForm → LineWords → Result Setting ScriptCause
setting_of setup form words =
    if not (words.count == setup_words form) then Err WrongNumberOfWords
    else arguments_of setup form words

-- the numbers are in their bounds
abbrev pub IsInBounds : SetupNumbers → Setting → Type 0
IsInBounds setup (Number number n) = MayBe number n
IsInBounds setup (Flag flag) = Unit {0}
IsInBounds setup (Buckets buckets width) = MayBe numbers.Buckets buckets × MayBe numbers.Width width
IsInBounds setup (Lead node lead) = (node < setup.nodes) × (lead ≤ setup.skew)
IsInBounds setup (Fault store number kind) = Unit {0}

-- the setup with the setting
abbrev pub with_number : SetupNumbers → Setting → SetupNumbers
with_number setup (Number number n) = set_number setup number n
with_number setup (Flag flag) = turn_on setup flag
with_number setup (Buckets buckets width) = set_number (set_number setup numbers.Buckets buckets) numbers.Width width
with_number setup (Lead node lead) = setup
with_number setup (Fault store number kind) = setup

-- the leads with the setting: another number of nodes gives each of them the lead 0
abbrev pub with_lead : List ℕ → Setting → List ℕ
with_lead leads (Number numbers.Nodes n) = replicate n 0
with_lead leads (Lead node lead) = slice_set leads node lead
with_lead leads _ = leads

-- the planned faults with the setting
abbrev pub with_fault : List PlannedFault → Setting → List PlannedFault
with_fault faults (Fault store number kind) = faults ++ (store, number, kind) ∷ []
with_fault faults _ = faults

-- the script with the setting
abbrev pub with_setting : ScriptData → Setting → ScriptData
with_setting script setting = record {
  setup = with_number script.setup setting;
  leads = with_lead script.leads setting;
  faults = with_fault script.faults setting;
  lines = script.lines;
}

abbrev pub same_number : SetupNumber → SetupNumber → Bool
same_number numbers.Nodes numbers.Nodes = true
same_number numbers.Lease numbers.Lease = true
same_number numbers.Skew numbers.Skew = true
same_number numbers.Range numbers.Range = true
same_number numbers.Buckets numbers.Buckets = true
same_number numbers.Width numbers.Width = true
same_number numbers.Slots numbers.Slots = true
same_number numbers.Batch numbers.Batch = true
same_number numbers.Workers numbers.Workers = true
same_number numbers.Cache numbers.Cache = true
same_number _ _ = false

abbrev pub same_flag : SetupFlag → SetupFlag → Bool
same_flag flags.Direct flags.Direct = true
same_flag flags.Strict flags.Strict = true
same_flag _ _ = false

-- the two set the same: a lead is of one node, and a fault of one call
abbrev pub sets_same : Setting → Setting → Bool
sets_same (Number number n) (Number another other) = same_number number another
sets_same (Flag flag) (Flag other) = same_flag flag other
sets_same (Buckets buckets width) (Buckets others other) = true
sets_same (Lead node lead) (Lead another other) = node == another
sets_same (Fault store number kind) (Fault another other fate) = same_store store another && (number == other)
sets_same _ _ = false

-- each planned fault was set by a setup line
abbrev pub AreSet : List Setting → List PlannedFault → Type 0
AreSet settings faults = All (λ fault. list_any (sets_same (Fault fault.0 fault.1 fault.2)) settings ≡ true) faults

abbrev pub is_lead : Setting → Bool
is_lead (Lead node lead) = true
is_lead _ = false

-- leads are bounded by these two
abbrev pub bounds_leads : Setting → Bool
bounds_leads (Number numbers.Nodes n) = true
bounds_leads (Number numbers.Skew n) = true
bounds_leads _ = false

abbrev pub is_fault : Setting → Bool
is_fault (Fault store number kind) = true
is_fault _ = false

-- a setup line after an actor's line, or one that bounds leads after a lead
unfoldable pub comes_late : List Setting → ScriptData → Setting → Bool
comes_late settings script setting = not (length script.lines == 0) || (bounds_leads setting && list_any is_lead settings)

-- why the setting cannot stand behind the settings so far
unfoldable pub objection : List Setting → ScriptData → Setting → Option ScriptCause
objection settings script setting =
    if comes_late settings script setting then Some SetupOrder
    else if list_any (sets_same setting) settings then Some SetupTwice
    else if is_fault setting && nat_le FAULT_LIMIT (length script.faults) then Some TooManyFaults
    else None
