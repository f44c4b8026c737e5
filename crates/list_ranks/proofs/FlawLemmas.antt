-- Why a wrong list refuses a trace.
use Rattle.std.proofs.Common.{◌≡◌, ℕ, ◌<◌, List, Some, slice_get, sym, subst, ◌∙◌}
use Rattle.trace_rules.specs.declared.wanted.Level.{Level}
use Rattle.trace_rules.specs.Trace.{Trace, Done}
use Rattle.trace_rules.specs.Stamping.{IsolatedBy, Stamping}
use Rattle.list_orders.specs.declared.listing.Listing.{Listing}
use Rattle.list_orders.specs.Lists.{SeesValues}
use Rattle.list_orders.specs.Listings.{SeesAll, values_of}
use Rattle.list_orders.proofs.WrongLemmas.{not_cut, not_different, not_dirty, not_missing, not_split, not_turned}
use Rattle.list_ranks.specs.declared.wrong.Flaw.{Flaw}
use Rattle.list_ranks.specs.declared.wrong.Flaw.TheVariants as flaw
use Rattle.list_ranks.specs.declared.wrong.WrongList.{WrongList}
use Rattle.list_ranks.specs.Wrong.{HasFlaw, IsListOf, IsWrong}

module _ (trace : Trace) (listed : List ℕ) (lists : List Listing) (level : Level) (st : Stamping) (is : IsolatedBy level st trace) (sees : SeesAll st trace listed lists) where
  list_seen : (reader key : ℕ) (values : List ℕ) (l : IsListOf trace listed lists reader key values) → SeesValues st trace l.list.place reader key values
  list_seen reader key values l =
      subst (λ (t : ℕ). SeesValues st trace l.list.place t key values) l.reader_is
      (subst (λ (k : ℕ). SeesValues st trace l.list.place l.list.txn k values) l.key_is
      (subst (λ (vs : List ℕ). SeesValues st trace l.list.place l.list.txn l.list.key vs) l.values_are
      (sees.each l.place l.list l.stands (subst (λ (t : ℕ). Done trace t) (sym l.reader_is) l.done))))

  of_flaw : (reader key other : ℕ) (values : List ℕ) (l : IsListOf trace listed lists reader key values) (f : Flaw) → HasFlaw trace listed lists key other values f → ⊥
  of_flaw reader key other values l flaw.Dirty d =
      not_dirty st trace l.list.place reader key values (list_seen reader key values l) d.i d.v d.q other l.done d.at d.once d.wrote d.undone
  of_flaw reader key other values l flaw.Turned d =
      not_turned st trace l.list.place reader key values (list_seen reader key values l) d.i d.j d.v d.x d.q d.r other d.less d.at_v d.at_x d.wrote_v d.wrote_x d.turned
  of_flaw reader key other values l flaw.Split d =
      not_split st trace l.list.place reader key values (list_seen reader key values l) d.i d.j d.l d.v d.x d.y d.q d.w d.r other d.s d.less d.more d.at_v d.at_x d.at_y d.wrote_v d.wrote_x d.wrote_y d.differ
  of_flaw reader key other values l flaw.Missing d =
      not_missing st trace l.list.place reader key values (list_seen reader key values l) d.i d.v d.q d.r other d.x d.at_v d.once d.wrote_v d.wrote_x d.before d.lacks
  of_flaw reader key other values l flaw.Cut d =
      not_cut st trace l.list.place reader key values (list_seen reader key values l) level d.i d.j d.v d.y d.q other d.r d.u d.s d.x is l.done d.less d.at_v d.at_y d.once_v d.once_y d.wrote_v d.wrote_y d.differ d.wrote_x d.lacks
  of_flaw reader key other values l flaw.Different d =
      let also = d.also in
      let gap = d.differ in
      not_different level st trace key is l.list.place reader also.list.place other d.i gap.x gap.y values d.lacking l.done also.done (list_seen reader key values l) (list_seen other key d.lacking also)
      (λ j v less at. gap.same j less ∙ at) (λ j v less at. sym (gap.same j less) ∙ at) gap.at_x gap.at_y gap.differ

  pub wrong_refuses : (wrong : WrongList) → IsWrong trace listed lists wrong → ⊥
  wrong_refuses wrong w = of_flaw wrong.reader wrong.key wrong.other w.values w.list wrong.flaw w.flawed
