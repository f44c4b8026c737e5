-- The record of what a command did, where nothing was written; and what a source that was read to its end, or too far, had left.
use Rattle.std.proofs.Common.{◌≡◌, ◌≢◌, ℕ, ◌<◌, ◌≤◌, List, ◌⊎◌, inl, inr, Option, None, Some, take, length, refl, sym, subst, arith}
use Rattle.std.specs.Prelude.{IfSome}
use Rattle.std.proofs.lemmas.List.{append-nil}
use Rattle.stamp_base.specs.declared.limits.TheConstants.{BYTE_LIMIT}
use Rattle.port_io.specs.Ports.{Gains, Gives, IsAtEnd}
use Rattle.history_book.specs.declared.item.Item.{Item}
use Rattle.history_json.specs.History.{AreItems, IsFirstBad}
use Rattle.history_json.proofs.OneHistory.{too_long_is_bad}
use Rattle.line_reasons.specs.Reasons.{AddsReasonAt}
use Rattle.omid_view.proofs.WordLemmas.{one_command}
use Rattle.omid_view.specs.declared.command.Command.{Command}
use Rattle.omid_view.specs.declared.command.Command.TheVariants.{Breach, Explain, Page, Picture}
use Rattle.omid_view.specs.Views.{GainsFront, IsEnd, IsTold, Judges, Makes, Names, LineCut, LineTold, Shown, ShownFront, ShownFrontOf, ShownOf, TellsLine, Views}

-- ---- statuses
pub view_codes : (code : ℕ) → IsTold code ⊎ (code ≡ 5) ⊎ (code ≡ 6) → IsTold code ⊎ (4 ≤ code) × (code ≤ 6)
view_codes code (inl told) = inl told
view_codes code (inr (inl e)) = inr (omega (arith, e), omega (arith, e))
view_codes code (inr (inr e)) = inr (omega (arith, e), omega (arith, e))

pub named_codes : (code : ℕ) → (code ≡ 3) ⊎ (code ≡ 5) ⊎ (code ≡ 6) → IsTold code ⊎ (4 ≤ code) × (code ≤ 6)
named_codes code (inl e) = inl (inr (inl e))
named_codes code (inr (inl e)) = inr (omega (arith, e), omega (arith, e))
named_codes code (inr (inr e)) = inr (omega (arith, e), omega (arith, e))

pub named_is_no_end : {P : Type 0} (code : ℕ) → (code ≡ 3) ⊎ (code ≡ 5) ⊎ (code ≡ 6) → (code ≡ 0) ⊎ (code ≡ 7) → P
named_is_no_end code (inl e) (inl done) = absurd (omega (arith, e, done))
named_is_no_end code (inl e) (inr broken) = absurd (omega (arith, e, broken))
named_is_no_end code (inr (inl e)) (inl done) = absurd (omega (arith, e, done))
named_is_no_end code (inr (inl e)) (inr broken) = absurd (omega (arith, e, broken))
named_is_no_end code (inr (inr e)) (inl done) = absurd (omega (arith, e, done))
named_is_no_end code (inr (inr e)) (inr broken) = absurd (omega (arith, e, broken))

pub told_whole : (code : ℕ) → IsTold code → code ≡ 5 → ⊥
told_whole code (inl e) five = omega (arith, e, five)
told_whole code (inr (inl e)) five = omega (arith, e, five)
told_whole code (inr (inr e)) five = omega (arith, e, five)

untold : (code : ℕ) → 3 < code → code < 7 → IsTold code → ⊥
untold code low high (inl e) = omega (arith, e, low)
untold code low high (inr (inl e)) = omega (arith, e, low)
untold code low high (inr (inr e)) = omega (arith, e, high)

pub told_three : (code : ℕ) → (code ≡ 3) ⊎ (code ≡ 5) ⊎ (code ≡ 6) → IsTold code → code ≡ 3
told_three code (inl e) told = e
told_three code (inr (inl e)) told = absurd (told_whole code told e)
told_three code (inr (inr e)) told = absurd (untold code (omega (arith, e)) (omega (arith, e)) told)

no_end : (code : ℕ) → 3 < code → code < 7 → (code ≡ 0) ⊎ (code ≡ 7) → ⊥
no_end code low high (inl e) = omega (arith, e, low)
no_end code low high (inr e) = omega (arith, e, high)

-- ---- nothing was written
pub views_silently : (command : Command) (code : ℕ) (left rest held now : Option (List ℕ)) → 3 < code → code < 7 → (code ≡ 5 → ⊥) → Views command code left rest held now
views_silently command code left rest held now low high whole = record {
  read = λ is. absurd (no_end code low high is);
  shown = λ told. absurd (untold code low high told);
  cut = λ five. absurd (whole five);
  codes = inr (omega (arith, low), omega (arith, high));
}

-- ---- what was made of items, or names the first bad line, was written
pub seven_judges : (command : Command) (items : List Item) (code : ℕ) (text : List ℕ) → Makes command items code text → code ≡ 7 → Judges command
seven_judges (Picture from to brief) items code text made seven = absurd (omega (arith, made.0, seven))
seven_judges (Breach strict) items code text made seven = tt
seven_judges (Explain strict) items code text made seven = tt
seven_judges (Page strict) items code text made seven = tt

-- a status of bytes that were told is one of items, or names a line
pub end_of_told : (code : ℕ) → IsEnd code ⊎ (code ≡ 5) ⊎ (code ≡ 6) → IsTold code → IsEnd code
end_of_told code (inl is) told = is
end_of_told code (inr (inl e)) told = absurd (told_whole code told e)
end_of_told code (inr (inr e)) told = absurd (untold code (omega (arith, e)) (omega (arith, e)) told)

pub of_items : (command : Command) (bytes : List ℕ) (items : List Item) (code : ℕ) (held now : Option (List ℕ)) → AreItems bytes items → IsEnd code ⊎ (code ≡ 5) ⊎ (code ≡ 6) → (IsEnd code → ShownOf command items code held now) → IsTold code → Shown command bytes code held now
of_items command bytes items code held now read codes shown told =
    let it = shown (end_of_told code codes told) in
    record { text = it.text; right = inl (record { items = items; read = read; made = it.made }); told = it.told }

pub front_of_items : (command : Command) (bytes : List ℕ) (items : List Item) (held now : Option (List ℕ)) → AreItems bytes items → ShownFrontOf command items held now → ShownFront command bytes held now
front_of_items command bytes items held now read it =
    record { text = it.text; code = it.code; right = inl (record { items = items; read = read; made = it.made }); told = it.told }

pub items_judged : (command : Command) (items : List Item) (code : ℕ) (held now : Option (List ℕ)) → (IsEnd code → ShownOf command items code held now) → code ≡ 7 → Judges command
items_judged command items code held now shown seven =
    let it = shown (inr seven) in
    seven_judges command items code it.text it.made seven

pub bad_shown : (command : Command) (bytes : List ℕ) (line code : ℕ) (held now : Option (List ℕ)) → IsFirstBad bytes line → (code ≡ 3) ⊎ (code ≡ 5) ⊎ (code ≡ 6)
    → (code ≡ 3 → LineTold command bytes line held now) → IsTold code → Shown command bytes code held now
bad_shown command bytes line code held now bad codes named told =
    let three : code ≡ 3 = told_three code codes told in
    let it = named three in
    record { text = it.text; right = inr (record { line = line; bad = bad; status = three; is = it.is }); told = it.told }

pub bad_front : (command : Command) (bytes : List ℕ) (line : ℕ) (held now : Option (List ℕ)) → IsFirstBad bytes line → LineCut command bytes line held now → ShownFront command bytes held now
bad_front command bytes line held now bad it =
    record { text = it.text; code = 3; right = inr (record { line = line; bad = bad; status = refl; is = it.is }); told = it.told }

-- of too many bytes the same is told, whichever they are
none_of : (bytes other : List ℕ) (old new : List ℕ) → AddsReasonAt other 0 old new → AddsReasonAt bytes 0 old new
none_of bytes other old new it = record { long = it.long; line = λ some. absurd (omega (arith, some)) }

too_many_told : (command : Command) (bytes other : List ℕ) (text : List ℕ) → TellsLine command other 0 text → TellsLine command bytes 0 text
too_many_told (Explain strict) bytes other text it = none_of bytes other _ _ it
too_many_told (Picture from to brief) bytes other text it = it
too_many_told (Breach strict) bytes other text it = it
too_many_told (Page strict) bytes other text it = it

pub any_told : (command : Command) (bytes other : List ℕ) (held now : Option (List ℕ)) → LineTold command other 0 held now → LineTold command bytes 0 held now
any_told command bytes other held now it = record { text = it.text; is = too_many_told command bytes other it.text it.is; told = it.told }

pub any_cut : (command : Command) (bytes other : List ℕ) (held now : Option (List ℕ)) → LineCut command other 0 held now → LineCut command bytes 0 held now
any_cut command bytes other held now it = record { text = it.text; is = too_many_told command bytes other it.text it.is; told = it.told }

-- ---- the words
pub views_for : (found : Command) (words : List (List ℕ)) (code : ℕ) (left rest held now : Option (List ℕ)) → Names found words → Views found code left rest held now → (command : Command) → Names command words → Views command code left rest held now
views_for found words code left rest held now this views command that =
    subst (λ (c : Command). Views c code left rest held now) (one_command found command words this that) views

code_of : (code : ℕ) → IsTold code ⊎ (4 ≤ code) × (code ≤ 6) → (code ≤ 7) × (code ≢ 1) × (code ≢ 2)
code_of code (inl (inl e)) = (omega (arith, e), λ o. omega (arith, e, o), λ o. omega (arith, e, o))
code_of code (inl (inr (inl e))) = (omega (arith, e), λ o. omega (arith, e, o), λ o. omega (arith, e, o))
code_of code (inl (inr (inr e))) = (omega (arith, e), λ o. omega (arith, e, o), λ o. omega (arith, e, o))
code_of code (inr e) = (omega (arith, e.1), λ o. omega (arith, e.0, o), λ o. omega (arith, e.0, o))

pub viewed_code : (command : Command) (code : ℕ) (left rest held now : Option (List ℕ)) → Views command code left rest held now → (code ≤ 7) × (code ≢ 1) × (code ≢ 2)
viewed_code command code left rest held now views = code_of code views.codes

-- ---- the source
-- what holds of all bytes that were given holds of what a source had left
pub of_all_left : (old new : Option (List ℕ)) (bytes : List ℕ) (P : List ℕ → Type 0) → Gives old new bytes → IsAtEnd new → P bytes → IfSome old P
of_all_left old None bytes P given ended holds = rw given tt
of_all_left old (Some rest) bytes P given ended holds = rw (given, ended, append-nil bytes) holds

-- bytes that were left are too many
pub of_too_many : (left : Option (List ℕ)) (P : List ℕ → Type 0) → ((bytes : List ℕ) → IsFirstBad bytes 0 → P bytes) → IfSome left (λ bytes. BYTE_LIMIT < length bytes) → IfSome left P
of_too_many None P holds long = tt
of_too_many (Some bytes) P holds long = holds bytes (too_long_is_bad bytes long)
