-- What the conflict memory has against a commit before its decision.
use Rattle.std.specs.Prelude.{ℕ, List, ◌∷◌}
use Rattle.system_parts.specs.declared.instance.Request.{Request}
use Rattle.system_parts.specs.declared.instance.Request.TheVariants.{Commit}
use Rattle.system_parts.specs.declared.instance.Progress.{Progress}
use Rattle.system_parts.specs.declared.instance.Progress.TheVariants.{Accepted}
use Rattle.system_parts.specs.declared.buckets.Verdict.{Verdict}
use Rattle.system_parts.specs.declared.buckets.Verdict.TheVariants.{Free}
use Rattle.system_parts.specs.Buckets.{Bucket, verdict_both}

-- where a key was read, all keys are looked at; else the decision looks at those that were written
abbrev pub verdict_against : Progress → Request → List Bucket → List ℕ → Verdict
verdict_against Accepted (Commit session start written) buckets (key ∷ keys) = verdict_both buckets start written (key ∷ keys)
verdict_against progress request buckets reads = Free
