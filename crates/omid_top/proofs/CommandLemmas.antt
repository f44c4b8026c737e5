-- The records of commands, where nothing was written; and what a source that was read to its end, or too far, had left.
use Rattle.std.proofs.Common.{◌≡◌, ◌≢◌, ℕ, ◌<◌, ◌≤◌, List, ◌⊎◌, inl, inr, Option, None, Some, Err, length, arith, refl}
use Rattle.std.specs.Prelude.{IfSome}
use Rattle.std.proofs.lemmas.Bool.{lt-ltb}
use Rattle.stamp_base.specs.declared.limits.TheConstants.{BYTE_LIMIT}
use Rattle.history_book.specs.declared.item.Item.{Item}
use Rattle.history_json.specs.History.{AreItems}
use Rattle.session_script.specs.declared.cause.ScriptCause.TheVariants.{TooLong}
use Rattle.session_script.specs.declared.mode.Mode.{Mode}
use Rattle.session_script.specs.Script.{script_of}
use Rattle.omid_top.specs.Audit.{IsVerdict, IsFairTo}
use Rattle.omid_top.specs.declared.standard.Standard.{Standard}
use Rattle.omid_top.specs.Commands.{Replays, Compacts, Runs, RunsSplit, Audits, Storms}
use Rattle.omid_top.proofs.ReportLemmas.{silent_is_fair}

-- ---- statuses
no_verdict : (code : ℕ) → 3 < code → code < 7 → IsVerdict code → ⊥
no_verdict code low high (inl e) = omega (arith, e, low)
no_verdict code low high (inr (inl e)) = omega (arith, e, low)
no_verdict code low high (inr (inr e)) = omega (arith, e, high)

no_end : (code : ℕ) → 3 < code → code < 7 → (code ≡ 0) ⊎ (code ≡ 7) → ⊥
no_end code low high (inl e) = omega (arith, e, low)
no_end code low high (inr e) = omega (arith, e, high)

pub audit_codes : (code : ℕ) → IsVerdict code ⊎ (code ≡ 5) ⊎ (code ≡ 6) → (code ≤ 7) × (code ≢ 1) × (code ≢ 2)
audit_codes code (inl (inl e)) = (omega (arith, e), λ o. omega (arith, e, o), λ o. omega (arith, e, o))
audit_codes code (inl (inr (inl e))) = (omega (arith, e), λ o. omega (arith, e, o), λ o. omega (arith, e, o))
audit_codes code (inl (inr (inr e))) = (omega (arith, e), λ o. omega (arith, e, o), λ o. omega (arith, e, o))
audit_codes code (inr (inl e)) = (omega (arith, e), λ o. omega (arith, e, o), λ o. omega (arith, e, o))
audit_codes code (inr (inr e)) = (omega (arith, e), λ o. omega (arith, e, o), λ o. omega (arith, e, o))

pub replay_codes : (code : ℕ) → (code ≡ 0) ⊎ (code ≡ 3) ⊎ (code ≡ 5) ⊎ (code ≡ 6) → (code ≡ 0) ⊎ ((3 ≤ code) × (code ≤ 6))
replay_codes code (inl e) = inl e
replay_codes code (inr (inl e)) = inr (omega (arith, e), omega (arith, e))
replay_codes code (inr (inr (inl e))) = inr (omega (arith, e), omega (arith, e))
replay_codes code (inr (inr (inr e))) = inr (omega (arith, e), omega (arith, e))

split_is_no_end : {P : Type 0} (code : ℕ) → 3 < code → code < 7 → (code ≡ 0) ⊎ (8 ≤ code) → P
split_is_no_end code low high (inl e) = absurd (omega (arith, e, low))
split_is_no_end code low high (inr e) = absurd (omega (arith, e, high))

pub named_is_no_split : {P : Type 0} (code : ℕ) → (code ≡ 3) ⊎ (code ≡ 5) → (code ≡ 0) ⊎ (8 ≤ code) → P
named_is_no_split code (inl e) (inl none) = absurd (omega (arith, e, none))
named_is_no_split code (inl e) (inr more) = absurd (omega (arith, e, more))
named_is_no_split code (inr e) (inl none) = absurd (omega (arith, e, none))
named_is_no_split code (inr e) (inr more) = absurd (omega (arith, e, more))

pub named_is_not : {P : Type 0} (code stop : ℕ) → 8 ≤ stop → (code ≡ 3) ⊎ (code ≡ 5) → code ≡ stop → P
named_is_not code stop high (inl e) is = absurd (omega (arith, e, is, high))
named_is_not code stop high (inr e) is = absurd (omega (arith, e, is, high))

pub split_codes : (code : ℕ) → (code ≡ 0) ⊎ (code ≡ 3) ⊎ (code ≡ 5) ⊎ (code ≡ 6) ⊎ (code ≡ 8) ⊎ (code ≡ 9) → (code ≡ 0) ⊎ ((3 ≤ code) × (code ≤ 6)) ⊎ ((8 ≤ code) × (code ≤ 9))
split_codes code (inl e) = inl e
split_codes code (inr (inl e)) = inr (inl (omega (arith, e), omega (arith, e)))
split_codes code (inr (inr (inl e))) = inr (inl (omega (arith, e), omega (arith, e)))
split_codes code (inr (inr (inr (inl e)))) = inr (inl (omega (arith, e), omega (arith, e)))
split_codes code (inr (inr (inr (inr (inl e))))) = inr (inr (omega (arith, e), omega (arith, e)))
split_codes code (inr (inr (inr (inr (inr e))))) = inr (inr (omega (arith, e), omega (arith, e)))

pub named_split_codes : (code : ℕ) → (code ≡ 3) ⊎ (code ≡ 5) → (code ≡ 0) ⊎ ((3 ≤ code) × (code ≤ 6)) ⊎ ((8 ≤ code) × (code ≤ 9))
named_split_codes code (inl e) = inr (inl (omega (arith, e), omega (arith, e)))
named_split_codes code (inr e) = inr (inl (omega (arith, e), omega (arith, e)))

pub named_codes : (code : ℕ) → (code ≡ 3) ⊎ (code ≡ 5) → (code ≡ 0) ⊎ ((3 ≤ code) × (code ≤ 6))
named_codes code (inl e) = inr (omega (arith, e), omega (arith, e))
named_codes code (inr e) = inr (omega (arith, e), omega (arith, e))

pub named_is_not_done : {P : Type 0} (code : ℕ) → (code ≡ 3) ⊎ (code ≡ 5) → code ≡ 0 → P
named_is_not_done code (inl e) done = absurd (omega (arith, e, done))
named_is_not_done code (inr e) done = absurd (omega (arith, e, done))

-- a report of too many bytes is none of an end
pub too_many_is_no_end : {P : Type 0} (code : ℕ) → (IsVerdict code → 3 ≡ code) → (code ≡ 0) ⊎ (code ≡ 7) → P
too_many_is_no_end code is (inl e) = absurd (omega (arith, e, is (inl e)))
too_many_is_no_end code is (inr e) = absurd (omega (arith, e, is (inr (inr e))))

-- ---- nothing was written
fair_in_silence : (asked : Standard) (left : Option (List ℕ)) (code : ℕ) → (IsVerdict code → ⊥) → IfSome left (λ bytes. (items : List Item) → AreItems bytes items → IsFairTo asked items code)
fair_in_silence asked None code silent = tt
fair_in_silence asked (Some bytes) code silent = λ items read. silent_is_fair asked items code silent

pub replays_silently : (text : List Item → List ℕ) (code : ℕ) (left rest held now : Option (List ℕ)) → 3 < code → code < 7 → (code ≡ 5 → ⊥) → Replays text code left rest held now
replays_silently text code left rest held now low high whole = record {
  read = λ e. absurd (omega (arith, e, low));
  replayed = λ e. absurd (omega (arith, e, low));
  bad_line = λ e. absurd (omega (arith, e, low));
  cut = λ five. absurd (whole five);
  codes = inr (omega (arith, low), omega (arith, high));
}

pub compacts_silently : (water code : ℕ) (left rest held now : Option (List ℕ)) → 3 < code → code < 7 → (code ≡ 5 → ⊥) → Compacts water code left rest held now
compacts_silently water code left rest held now low high whole = record {
  read = λ e. absurd (omega (arith, e, low));
  compacted = λ e. absurd (omega (arith, e, low));
  bad_line = λ e. absurd (omega (arith, e, low));
  cut = λ five. absurd (whole five);
  codes = inr (omega (arith, low), omega (arith, high));
}

pub runs_silently : (code : ℕ) (left rest held now : Option (List ℕ)) → 3 < code → code < 7 → (code ≡ 5 → ⊥) → Runs code left rest held now
runs_silently code left rest held now low high whole = record {
  read = λ e. absurd (omega (arith, e, low));
  ran = λ e. absurd (omega (arith, e, low));
  bad_line = λ e. absurd (omega (arith, e, low));
  cut = λ five. absurd (whole five);
  codes = inr (omega (arith, low), omega (arith, high));
}

pub splits_silently : (code : ℕ) (left rest held now : Option (List ℕ)) → 3 < code → code < 7 → (code ≡ 5 → ⊥) → RunsSplit code left rest held now
splits_silently code left rest held now low high whole = record {
  read = split_is_no_end code low high;
  ran = λ e. absurd (omega (arith, e, low));
  torn = λ e. absurd (omega (arith, e, high));
  spent = λ e. absurd (omega (arith, e, high));
  bad_line = λ e. absurd (omega (arith, e, low));
  cut = λ five. absurd (whole five);
  codes = inr (inl (omega (arith, low), omega (arith, high)));
}

pub audits_silently : (asked : Standard) (code : ℕ) (left rest held now : Option (List ℕ)) → 3 < code → code < 7 → (code ≡ 5 → ⊥) → Audits asked code left rest held now
audits_silently asked code left rest held now low high whole = record {
  read = λ is. absurd (no_end code low high is);
  audited = λ verdict. absurd (no_verdict code low high verdict);
  fair = fair_in_silence asked left code (no_verdict code low high);
  cut = λ five. absurd (whole five);
  codes = (omega (arith, high), λ e. omega (arith, e, low), λ e. omega (arith, e, low));
}

pub storms_silently : (transactions : ℕ) (held now : Option (List ℕ)) → Storms transactions 6 held now
storms_silently transactions held now = record {
  stormed = λ e. absurd (omega (arith, e));
  cut = λ e. absurd (omega (arith, e));
  codes = inr (inr refl);
}

-- ---- more bytes than a script may have
too_long : (mode : Mode) (bytes : List ℕ) → BYTE_LIMIT < length bytes → script_of bytes mode ≡ Err (record { line = 0; cause = TooLong })
too_long mode bytes long = rw (lt-ltb BYTE_LIMIT (length bytes) long) refl

pub of_too_long : (mode : Mode) (left : Option (List ℕ)) (P : List ℕ → Type 0) → ((bytes : List ℕ) → script_of bytes mode ≡ Err (record { line = 0; cause = TooLong }) → P bytes) → IfSome left (λ bytes. BYTE_LIMIT < length bytes) → IfSome left P
of_too_long mode None P holds long = tt
of_too_long mode (Some bytes) P holds long = holds bytes (too_long mode bytes long)

pub reported_codes : (code : ℕ) → IsVerdict code ⊎ (code ≡ 5) → IsVerdict code ⊎ (code ≡ 5) ⊎ (code ≡ 6)
reported_codes code (inl verdict) = inl verdict
reported_codes code (inr five) = inr (inl five)

-- what is told of a run over split stores that came to its end has one of the run's statuses
pub settled_codes : (code : ℕ) → (code ≡ 0) ⊎ (code ≡ 5) ⊎ (code ≡ 6) → (code ≡ 0) ⊎ (code ≡ 5) ⊎ (code ≡ 6) ⊎ (code ≡ 8) ⊎ (code ≡ 9)
settled_codes code (inl done) = inl done
settled_codes code (inr (inl failed)) = inr (inl failed)
settled_codes code (inr (inr lacking)) = inr (inr (inl lacking))
