-- What each command does, status by status. A source had `left` left and has `rest`; a sink held `held` and holds `now`. Where
-- one does not tell its content, what is said of content says nothing.
use Rattle.std.specs.Prelude.{◌≡◌, ◌≢◌, ℕ, ◌≤◌, ◌⊎◌, List, Option, IfSome, IsErrAnd, IsOkAnd}
use Rattle.port_io.specs.Ports.{Gains, IsAtEnd}
use Rattle.history_book.specs.declared.item.Item.{Item}
use Rattle.history_json.specs.History.{AreItems}
use Rattle.history_json.specs.Json.{json_printed}
use Rattle.history_text.specs.Summary.{summarized}
use Rattle.session_script.specs.Script.{script_of}
use Rattle.session_script.specs.declared.mode.Mode.TheVariants.{Replay, Run, Split}
use Rattle.command_semantics.specs.Runs.{replayed}
use Rattle.replay_driver.specs.Storm.{storm_data}
use Rattle.omid_top.specs.Audit.{IsVerdict, Reported, ReportedFront, IsFairTo}
use Rattle.omid_top.specs.Compaction.{KeepsCompaction, compact_text, compact_told}
use Rattle.omid_top.specs.Promise.{KeepsPromise, GainsFront, WritesRun, IsCutRun, WritesSplit, WritesTorn, IsCutSplit}
use Rattle.omid_top.specs.declared.standard.Standard.{Standard}
use Rattle.omid_top.specs.Texts.{usage_text, bad_line_text, replay_text, spent_text}

-- A script was read and carried out in file order, and this text of its history was written; or the bytes are no script, and
-- the first bad line was named; or a front of either text went out; or nothing did.
pub record Replays (text : List Item → List ℕ) (code : ℕ) (left rest held now : Option (List ℕ)) : Type 0 where
  pub read : code ≡ 0 → IsAtEnd rest
  pub replayed : code ≡ 0 → IfSome left (λ bytes. IsOkAnd (script_of bytes Replay) (λ script. KeepsPromise script × Gains held now (text (replayed script))))
  pub bad_line : code ≡ 3 → IfSome left (λ bytes. IsErrAnd (script_of bytes Replay) (λ bad. Gains held now (bad_line_text bad)))
  pub cut : code ≡ 5 → IfSome left (λ bytes. GainsFront held now (replay_text text (script_of bytes Replay)))
  pub codes : (code ≡ 0) ⊎ ((3 ≤ code) × (code ≤ 6))

-- A script was read and carried out in file order, its stores were compacted to the water, and what a reader at the water finds
-- there was written with the numbers of rows; or the bytes are no script, and the first bad line was named; or a front of either
-- text went out; or nothing did.
pub record Compacts (water : ℕ) (code : ℕ) (left rest held now : Option (List ℕ)) : Type 0 where
  pub read : code ≡ 0 → IsAtEnd rest
  pub compacted : code ≡ 0 → IfSome left (λ bytes. IsOkAnd (script_of bytes Replay) (λ script. KeepsCompaction script water × Gains held now (compact_text script water)))
  pub bad_line : code ≡ 3 → IfSome left (λ bytes. IsErrAnd (script_of bytes Replay) (λ bad. Gains held now (bad_line_text bad)))
  pub cut : code ≡ 5 → IfSome left (λ bytes. GainsFront held now (compact_told water (script_of bytes Replay)))
  pub codes : (code ≡ 0) ⊎ ((3 ≤ code) × (code ≤ 6))

-- A script was read and carried out on threads, and the history of such a run was written; or the bytes are no script, and the first
-- bad line was named; or a front of either text went out; or nothing did.
pub record Runs (code : ℕ) (left rest held now : Option (List ℕ)) : Type 0 where
  pub read : code ≡ 0 → IsAtEnd rest
  pub ran : code ≡ 0 → IfSome left (λ bytes. IsOkAnd (script_of bytes Run) (λ script. WritesRun script (Gains held now)))
  pub bad_line : code ≡ 3 → IfSome left (λ bytes. IsErrAnd (script_of bytes Run) (λ bad. Gains held now (bad_line_text bad)))
  pub cut : code ≡ 5 → IfSome left (λ bytes. IsCutRun (script_of bytes Run) held now)
  pub codes : (code ≡ 0) ⊎ ((3 ≤ code) × (code ≤ 6))

-- A script was read and carried out over split stores, and the history was written that the actors' logs settle into; or, on 8, that
-- they do not settle, and where they differ; or, on 9, that an actor has drawn all its ticks; or the bytes are no script, and the first
-- bad line was named; or a front of one of these texts went out; or nothing did.
pub record RunsSplit (code : ℕ) (left rest held now : Option (List ℕ)) : Type 0 where
  pub read : (code ≡ 0) ⊎ (8 ≤ code) → IsAtEnd rest
  pub ran : code ≡ 0 → IfSome left (λ bytes. IsOkAnd (script_of bytes Split) (λ script. WritesSplit script (Gains held now)))
  pub torn : code ≡ 8 → IfSome left (λ bytes. IsOkAnd (script_of bytes Split) (λ script. WritesTorn script (Gains held now)))
  pub spent : code ≡ 9 → IfSome left (λ bytes. IsOkAnd (script_of bytes Split) (λ script. Gains held now spent_text))
  pub bad_line : code ≡ 3 → IfSome left (λ bytes. IsErrAnd (script_of bytes Split) (λ bad. Gains held now (bad_line_text bad)))
  pub cut : code ≡ 5 → IfSome left (λ bytes. IsCutSplit (script_of bytes Split) held now)
  pub codes : (code ≡ 0) ⊎ ((3 ≤ code) × (code ≤ 6)) ⊎ ((8 ≤ code) × (code ≤ 9))

-- A history was read and judged by what is asked of it, and a report that is right about its bytes was written; or a front of
-- one went out; or nothing did. Where the bytes are items, the status is fair to them.
pub record Audits (asked : Standard) (code : ℕ) (left rest held now : Option (List ℕ)) : Type 0 where
  pub read : (code ≡ 0) ⊎ (code ≡ 7) → IsAtEnd rest
  pub audited : IsVerdict code → IfSome left (λ bytes. Reported asked bytes code held now)
  pub fair : IfSome left (λ bytes. (items : List Item) → AreItems bytes items → IsFairTo asked items code)
  pub cut : code ≡ 5 → IfSome left (λ bytes. ReportedFront asked bytes held now)
  pub codes : (code ≤ 7) × (code ≢ 1) × (code ≢ 2)

-- The storm of so many transactions was carried out, and the summary of its history was written; or a front of that went out;
-- or nothing did.
pub record Storms (transactions : ℕ) (code : ℕ) (held now : Option (List ℕ)) : Type 0 where
  pub stormed : code ≡ 0 → KeepsPromise (storm_data transactions) × Gains held now (summarized (replayed (storm_data transactions)))
  pub cut : code ≡ 5 → GainsFront held now (summarized (replayed (storm_data transactions)))
  pub codes : (code ≡ 0) ⊎ (code ≡ 5) ⊎ (code ≡ 6)

-- The usage line was written, or a front of it.
pub record SaysUsage (code : ℕ) (held now : Option (List ℕ)) : Type 0 where
  pub usage : code ≡ 2 → Gains held now usage_text
  pub cut : code ≡ 5 → GainsFront held now usage_text
  pub codes : (code ≡ 2) ⊎ (code ≡ 5)
