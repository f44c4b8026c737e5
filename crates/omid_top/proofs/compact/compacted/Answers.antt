use Rattle.std.proofs.Common.{arith, subst}
use Rattle.stamp_base.specs.SetupNumbers.{SetupNumbers}
use Rattle.cause_rules.specs.Explained.{Explained}
use Rattle.cause_rules.specs.Strict.{SerialIfStrict}
use Rattle.session_script.specs.Script.{data_of}
use Rattle.planned_cluster.proofs.Playable.{playable_at_first}
use Rattle.omid_top.proofs.ArchiveTexts.{archive_told, compaction_kept, if_ok_more}
use Rattle.omid_top.proofs.PromiseLemmas.{promise_kept}
use Rattle.omid_top.proofs.compact.compacted.Goals as goal

pub returns-clause-text : goal.returns-clause-text
returns-clause-text g c =
    let played = c.in_ok-cluster.ensures in
    let stores = c.into_stores-cells.ensures in
    let made = c.in_ok-archive.ensures in
    if_ok_more _ _ c.text_of.result
    (λ text is. archive_told c.compaction_keeps_snapshots.ensures (data_of c.args.script.now) c.args.water c.in_ok-cluster.cluster.state _ _ _ _ _ played.state stores.rows stores.pairs stores.at_rest.ordered made.rows made.before is) c.text_of.ensures

pub returns-clause-keeps : goal.returns-clause-keeps
returns-clause-keeps g c =
    let script = data_of c.args.script.now in
    let cluster = c.in_ok-cluster.cluster in
    let played = c.in_ok-cluster.ensures in
    let serial = subst (λ (setup : SetupNumbers). SerialIfStrict setup cluster.history) played.setup c.history-history.ensures.serial in
    let explained = subst (λ (setup : SetupNumbers). Explained setup cluster.history) played.setup c.history-history.ensures.explained in
    let service = c.scripts_keep_service.ensures script c.args.script.now.sound.setup (playable_at_first script c.args.script.now.sound (omega (arith, c.requires, c.args.script.now.lines.ok.0))) in
    let promise = promise_kept script cluster.history played.history c.history-history.ensures.isolated serial explained played.answered played.planned service in
    if_ok_more _ _ c.text_of.result (λ text is. compaction_kept c.snapshots_are_visible.ensures script c.args.water cluster.state cluster.history played.state played.history c.into_stores-cells.ensures.at_rest promise) c.text_of.ensures
