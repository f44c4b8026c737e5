use Rattle.cause_rules.proofs.WorkedTerms.{accepted_in_the_last, its_own_term, node_by_a_term_never_taken, node_by_its_own_term, node_of_the_last, node_overtaken, taken_later, term_never_taken}
use Rattle.cause_rules.proofs.WorkedUnasked.{replaced_unasked}
use Rattle.cause_rules.proofs.terms.replaced_terms_have_a_later_one.Goals as goal

pub returns : goal.returns
returns c = record {
  later = taken_later;
  its_own = its_own_term;
  never_taken = term_never_taken;
  accepted_in_the_last = accepted_in_the_last;
  not_asked = replaced_unasked;
  node_overtaken = node_overtaken;
  node_of_the_last = node_of_the_last;
  node_by_its_own = node_by_its_own_term;
  node_by_one_never_taken = node_by_a_term_never_taken;
}
