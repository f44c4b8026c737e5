use Rattle.service_rules.proofs.WorkedOwn as lemmas
use Rattle.service_rules.proofs.worked_own.nothing_else_hides_a_write.Goals as goal

pub returns : goal.returns
returns c = record {
  other_key = lemmas.other_key_wrong;
  listed = lemmas.listed_wrong;
  table = lemmas.table_wrong;
  session = lemmas.session_wrong;
  anew = lemmas.anew_wrong;
}
