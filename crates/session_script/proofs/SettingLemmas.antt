-- A setting that may stand keeps the script sound.
use Rattle.std.proofs.Common.{◌≡◌, ℕ, ◌<◌, ◌≤◌, ◌==◌, nat_le, Bool, true, false, ◌&&◌, ◌||◌, not, if◌then◌else◌, List, [], ◌∷◌, ◌++◌, None, Some, length, refl, sym, ap, ◌∙◌, arith}
use Rattle.std.specs.List.{list_any}
use Rattle.std.proofs.lemmas.Bool.{true≢false, eqb-true, eq-eqb}
use Rattle.std.proofs.lemmas.List.Elements.{All-replicate, All-push}
use Rattle.std.proofs.lemmas.Bool.Decides.{nat_tests}
use Rattle.std.proofs.lemmas.List.Folds.{list_any-append}
use Rattle.stamp_base.specs.declared.setup_number.SetupNumber.TheVariants as numbers
use Rattle.stamp_base.specs.declared.stores.Store.{Store}
use Rattle.stamp_base.specs.declared.stores.Store.TheVariants.{Cells, Table, Master}
use Rattle.port_io.specs.Planned.{PlannedFault, same_store}
use Rattle.script_data.specs.declared.limits.TheConstants.{FAULT_LIMIT}
use Rattle.session_script.specs.declared.setting.Setting.{Setting}
use Rattle.session_script.specs.declared.setting.Setting.TheVariants.{Number, Lead, Fault}
use Rattle.port_io.specs.declared.weather.Fate.{Fate}
use Rattle.session_script.specs.declared.cause.ScriptCause.TheVariants.{SetupOrder, SetupTwice, TooManyFaults}
use Rattle.script_data.specs.Data.{ScriptData, AreWithinSkew}
use Rattle.session_script.specs.Settings.{with_setting, sets_same, AreSet, is_lead, bounds_leads, is_fault, comes_late, objection}

-- what holds where nothing speaks against the setting
pub record MayStand (settings : List Setting) (script : ScriptData) (setting : Setting) : Type 0 where
  pub no_lines : length script.lines ≡ 0
  pub no_leads : bounds_leads setting ≡ true → list_any is_lead settings ≡ false
  pub first : list_any (sets_same setting) settings ≡ false
  pub room : is_fault setting ≡ true → length script.faults < FAULT_LIMIT

-- a chain of tests that answered None at its end failed each of them
chain : {A : Type 0} (x y z : A) (a b c : Bool) → (if a then Some x else if b then Some y else if c then Some z else None) ≡ None → (a ≡ false) × (b ≡ false) × (c ≡ false)
chain x y z true b c e = absurd (cc)
chain x y z false true c e = absurd (cc)
chain x y z false false true e = absurd (cc)
chain x y z false false false e = (refl, refl, refl)

in_time : (settings : List Setting) (script : ScriptData) (setting : Setting) → comes_late settings script setting ≡ false → (length script.lines ≡ 0) × (bounds_leads setting ≡ true → list_any is_lead settings ≡ false)
unfolding comes_late
in_time settings script setting e = by (length script.lines == 0) refl (bounds_leads setting) (list_any is_lead settings) e
  where
    by : (empty : Bool) → (length script.lines == 0) ≡ empty → (bounds led : Bool) → (not empty || (bounds && led)) ≡ false → (length script.lines ≡ 0) × (bounds ≡ true → led ≡ false)
    by false is bounds led e = absurd (cc)
    by true is true true e = absurd (cc)
    by true is true false e = (eqb-true (length script.lines) 0 is, λ h. refl)
    by true is false led e = (eqb-true (length script.lines) 0 is, λ h. absurd (cc))

has_room : (faulty : Bool) (n : ℕ) → (faulty && nat_le FAULT_LIMIT n) ≡ false → faulty ≡ true → n < FAULT_LIMIT
has_room true n e h = grind (arith, nat_tests, e)
has_room false n e h = absurd (cc)

pub may_stand : (settings : List Setting) (script : ScriptData) (setting : Setting) → objection settings script setting ≡ None → MayStand settings script setting
unfolding objection
may_stand settings script setting none =
    let tests = chain SetupOrder SetupTwice TooManyFaults _ _ _ none in
    let time = in_time settings script setting tests.0 in
    record { no_lines = time.0; no_leads = time.1; first = tests.1; room = has_room (is_fault setting) (length script.faults) tests.2 }

-- no setup line of a lead has been read, so every lead is 0
abbrev pub NoLeads : List Setting → List ℕ → Type 0
NoLeads settings leads = list_any is_lead settings ≡ false → AreWithinSkew 0 leads

-- a test of a list that has one more
any_more : (test : Setting → Bool) (settings : List Setting) (setting : Setting) → list_any test (settings ++ setting ∷ []) ≡ (list_any test settings || (test setting || false))
any_more test settings setting = list_any-append test settings (setting ∷ [])

not_before : (test : Setting → Bool) (settings : List Setting) (setting : Setting) → list_any test (settings ++ setting ∷ []) ≡ false → list_any test settings ≡ false
not_before test settings setting e = by (list_any test settings) refl (sym (any_more test settings setting) ∙ e)
  where
    by : (b : Bool) → list_any test settings ≡ b → (b || (test setting || false)) ≡ false → b ≡ false
    by true is e = absurd (cc)
    by false is e = refl

not_last : (test : Setting → Bool) (settings : List Setting) (setting : Setting) → list_any test (settings ++ setting ∷ []) ≡ false → test setting ≡ false
not_last test settings setting e = by (list_any test settings) (test setting) (sym (any_more test settings setting) ∙ e)
  where
    by : (a b : Bool) → (a || (b || false)) ≡ false → b ≡ false
    by true b e = absurd (cc)
    by false true e = absurd (cc)
    by false false e = refl

-- what was set stays set
still_any : (test : Setting → Bool) (settings : List Setting) (setting : Setting) → list_any test settings ≡ true → list_any test (settings ++ setting ∷ []) ≡ true
still_any test settings setting e = any_more test settings setting ∙ rw e refl

pub more_settings : (settings : List Setting) (setting : Setting) (faults : List PlannedFault) → AreSet settings faults → AreSet (settings ++ setting ∷ []) faults
more_settings settings setting faults all k d within = still_any _ settings setting (all k d within)

pub fewer_settings : (settings : List Setting) (setting : Setting) (leads : List ℕ) → NoLeads settings leads → NoLeads (settings ++ setting ∷ []) leads
fewer_settings settings setting leads none e = none (not_before is_lead settings setting e)

pub no_leads_after : (settings : List Setting) (script : ScriptData) (setting : Setting) → NoLeads settings script.leads → NoLeads (settings ++ setting ∷ []) (with_setting script setting).leads
no_leads_after settings script (Number numbers.Nodes n) none e = All-replicate (λ lead. lead ≤ 0) n 0 (omega arith)
no_leads_after settings script (Lead node lead) none e = absurd (true≢false (not_last is_lead settings (Lead node lead) e))
no_leads_after settings script setting none e = none (not_before is_lead settings setting e)

same_store-self : (store : Store) → same_store store store ≡ true
same_store-self Cells = refl
same_store-self Table = refl
same_store-self Master = refl

sets_itself : (store : Store) (number : ℕ) (kind : Fate) → sets_same (Fault store number kind) (Fault store number kind) ≡ true
sets_itself store number kind = rw (same_store-self store, eq-eqb number number refl) refl

pub sets_after : (settings : List Setting) (script : ScriptData) (setting : Setting) → AreSet settings script.faults → AreSet (settings ++ setting ∷ []) (with_setting script setting).faults
sets_after settings script (Fault store number kind) all =
    All-push (λ fault. list_any (sets_same (Fault fault.0 fault.1 fault.2)) (settings ++ Fault store number kind ∷ []) ≡ true) script.faults (store, number, kind) (more_settings settings (Fault store number kind) script.faults all)
    (any_more (sets_same (Fault store number kind)) settings (Fault store number kind)
    ∙ ap (λ (b : Bool). list_any (sets_same (Fault store number kind)) settings || (b || false)) (sets_itself store number kind)
    ∙ or_true (list_any (sets_same (Fault store number kind)) settings))
  where
    or_true : (b : Bool) → (b || true) ≡ true
    or_true true = refl
    or_true false = refl
sets_after settings script setting all = more_settings settings setting script.faults all
