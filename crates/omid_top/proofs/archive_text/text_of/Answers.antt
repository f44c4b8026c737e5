use Rattle.std.proofs.Common.{◌∙◌, sym}
use Rattle.omid_top.proofs.ArchiveTexts.{no_keys, lines_more}
use Rattle.omid_top.proofs.archive_text.text_of.Goals as goal

pub loop-number-init : goal.loop-number-init
loop-number-init c = c.new-text.ensures.items ∙ sym (no_keys _)

pub loop-number-preserved : goal.loop-number-preserved
loop-number-preserved c = c.in_ok-push_found.ensures ∙ rw (c.in-Some.ensures.value, c.loop-number.invariant) (sym (lines_more _ c.loop-number.number))
