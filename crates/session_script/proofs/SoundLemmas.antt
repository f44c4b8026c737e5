-- A script stays sound with a setting that may stand, and with a sound line.
use Rattle.std.proofs.Common.{◌≡◌, ◌≢◌, ℕ, ◌≤◌, true, false, List, [], ◌∷◌, ◌++◌, None, length, get_or, All, refl, sym, ap, ◌∙◌, subst, arith}
use Rattle.std.specs.List.{list_any}
use Rattle.std.proofs.lemmas.Bool.{true≢false}
use Rattle.std.proofs.lemmas.List.{length-set, length-append, length-replicate}
use Rattle.std.proofs.lemmas.List.Elements.{All-replicate, All-set, All-weaker}
use Rattle.std.proofs.lemmas.List.Quantifiers.{all_pairs_push}
use Rattle.stamp_base.specs.SetupNumbers.{SetupNumbers, AreInRange, MayBe, set_number}
use Rattle.stamp_base.specs.declared.setup_number.SetupNumber.{SetupNumber}
use Rattle.stamp_base.specs.declared.setup_number.SetupNumber.TheVariants as numbers
use Rattle.port_io.specs.declared.weather.Fate.{Fate}
use Rattle.stamp_base.specs.declared.stores.Store.{Store}
use Rattle.port_io.specs.Planned.{PlannedFault, OneEach}
use Rattle.script_data.specs.declared.line.Line.{Line}
use Rattle.session_script.specs.declared.setting.Setting.{Setting}
use Rattle.session_script.specs.declared.setting.Setting.TheVariants.{Number, Flag, Buckets, Lead, Fault}
use Rattle.script_data.specs.Data.{ScriptData, AreWithinSkew, IsSound}
use Rattle.session_script.specs.Settings.{IsInBounds, with_number, with_setting, sets_same, AreSet, objection}
use Rattle.script_data.specs.Sound.{LineIsSound}
use Rattle.session_script.proofs.SettingLemmas.{MayStand, NoLeads, may_stand}

-- before the first line of an actor, every line is sound
no_line : (nodes : ℕ) (lines : List Line) → length lines ≡ 0 → All (LineIsSound nodes) lines
no_line nodes lines none k d within = absurd (omega (arith, none, within))

-- a fault of another call than all before is one fault a call more
one_fault_more : (settings : List Setting) (faults : List PlannedFault) (store : Store) (number : ℕ) (kind : Fate) → AreSet settings faults → list_any (sets_same (Fault store number kind)) settings ≡ false → OneEach faults → OneEach (faults ++ (store, number, kind) ∷ [])
one_fault_more settings faults store number kind set first each =
    all_pairs_push (λ a b. a.0 ≡ b.0 → a.1 ≢ b.1) faults (store, number, kind) each (λ k d within same_store same_number.
    let there : list_any (sets_same (Fault (get_or faults k d).0 (get_or faults k d).1 (get_or faults k d).2)) settings ≡ true = set k d within in
    true≢false (sym there ∙ ap (λ (a : Store). list_any (sets_same (Fault a (get_or faults k d).1 (get_or faults k d).2)) settings) same_store
    ∙ ap (λ (n : ℕ). list_any (sets_same (Fault store n (get_or faults k d).2)) settings) same_number ∙ first))

-- a number within its bounds keeps the setup in range
in_range_set : (setup : SetupNumbers) (number : SetupNumber) (n : ℕ) → AreInRange setup → MayBe number n → AreInRange (set_number setup number n)
in_range_set setup number n r b = grind (arith, r, b)

-- a setting in its bounds keeps the setup in range
in_range_with : (setup : SetupNumbers) (setting : Setting) → AreInRange setup → IsInBounds setup setting → AreInRange (with_number setup setting)
in_range_with setup (Number number n) r b = in_range_set setup number n r b
in_range_with setup (Flag flag) r b = grind (arith, r)
in_range_with setup (Buckets buckets width) r b = in_range_set (set_number setup numbers.Buckets buckets) numbers.Width width (in_range_set setup numbers.Buckets buckets r b.0) b.1
in_range_with setup (Lead node lead) r b = r
in_range_with setup (Fault store number kind) r b = r

-- other numbers than those of the nodes and the skew bound nothing else
sound_setup : (script : ScriptData) (setup : SetupNumbers) → IsSound script → AreInRange setup → setup.nodes ≡ script.setup.nodes → setup.skew ≡ script.setup.skew → IsSound (record script { setup = setup })
sound_setup script setup sound range nodes skew = record {
  setup = range;
  one_lead_each = sound.one_lead_each ∙ sym nodes;
  leads_within_skew = subst (λ (n : ℕ). AreWithinSkew n script.leads) (sym skew) sound.leads_within_skew;
  few_faults = sound.few_faults;
  one_fault_each = sound.one_fault_each;
  lines = subst (λ (n : ℕ). All (LineIsSound n) script.lines) (sym nodes) sound.lines;
}

pub sound_with : (settings : List Setting) (script : ScriptData) (setting : Setting) → IsSound script → NoLeads settings script.leads → AreSet settings script.faults → IsInBounds script.setup setting → objection settings script setting ≡ None → IsSound (with_setting script setting)
sound_with settings script setting sound none set bounds fits = by setting bounds (may_stand settings script setting fits)
  where
    by : (setting : Setting) → IsInBounds script.setup setting → MayStand settings script setting → IsSound (with_setting script setting)
    by (Number numbers.Nodes n) bounds may = record {
      setup = in_range_with script.setup (Number numbers.Nodes n) sound.setup bounds;
      one_lead_each = length-replicate n 0;
      leads_within_skew = All-replicate (λ lead. lead ≤ script.setup.skew) n 0 (omega arith);
      few_faults = sound.few_faults;
      one_fault_each = sound.one_fault_each;
      lines = no_line n script.lines may.no_lines;
    }
    by (Number numbers.Skew n) bounds may = record {
      setup = in_range_with script.setup (Number numbers.Skew n) sound.setup bounds;
      one_lead_each = sound.one_lead_each;
      leads_within_skew = All-weaker (λ lead. lead ≤ 0) (λ lead. lead ≤ n) (λ lead h. omega (arith, h)) script.leads (none (may.no_leads refl));
      few_faults = sound.few_faults;
      one_fault_each = sound.one_fault_each;
      lines = sound.lines;
    }
    by (Lead node lead) bounds may = record {
      setup = sound.setup;
      one_lead_each = length-set script.leads node lead ∙ sound.one_lead_each;
      leads_within_skew = All-set (λ l. l ≤ script.setup.skew) script.leads node lead bounds.1 sound.leads_within_skew;
      few_faults = sound.few_faults;
      one_fault_each = sound.one_fault_each;
      lines = sound.lines;
    }
    by (Fault store number kind) bounds may = record {
      setup = sound.setup;
      one_lead_each = sound.one_lead_each;
      leads_within_skew = sound.leads_within_skew;
      few_faults = let room = may.room refl in omega (arith, room, length-append script.faults ((store, number, kind) ∷ []));
      one_fault_each = one_fault_more settings script.faults store number kind set may.first sound.one_fault_each;
      lines = sound.lines;
    }
    by setting bounds may = sound_setup script (with_number script.setup setting) sound (in_range_with script.setup setting sound.setup bounds) (grind arith) (grind arith)
