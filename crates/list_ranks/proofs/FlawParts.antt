-- What is wrong with a list, from its parts.
use Rattle.std.proofs.Common.{◌≡◌, ◌≢◌, ℕ, suc, ◌<◌, List, Some, slice_get, sym, subst, arith}
use Rattle.trace_rules.specs.Trace.{Trace}
use Rattle.list_orders.specs.Lists.{WriteAt}
use Rattle.list_ranks.specs.declared.homes.Append.{Append}
use Rattle.list_ranks.specs.declared.wrong.Flaw.TheVariants.{Split, Missing, Cut}
use Rattle.list_ranks.specs.declared.wrong.Stop.TheVariants.{Wrong}
use Rattle.list_ranks.specs.Hints.{AreHomes, Hints, IsHome}
use Rattle.list_ranks.specs.Wrong.{Lacks, Stops}
use Rattle.list_ranks.proofs.HintLemmas.{once_home}

module _ (trace : Trace) (hints : Hints) (reader key : ℕ) (values : List ℕ) where
  pub split_stops : (i j v x y : ℕ) (early member next : Append) → i < j → slice_get values i ≡ Some v → slice_get values j ≡ Some x → slice_get values (suc j) ≡ Some y → IsHome trace hints key v early → IsHome trace hints key x member → IsHome trace hints key y next
      → early.txn ≡ next.txn → member.txn ≢ next.txn → Stops trace reader key values (Wrong (record { reader = reader; key = key; other = member.txn; flaw = Split }))
  split_stops i j v x y early member next less at_v at_x at_y home_v home_x home_y same differ listed lists l = record {
    values = values;
    list = l;
    flawed = record {
      i = i;
      j = j;
      l = suc j;
      v = v;
      x = x;
      y = y;
      q = early.place;
      r = member.place;
      s = next.place;
      w = next.txn;
      less = less;
      more = omega arith;
      at_v = at_v;
      at_x = at_x;
      at_y = at_y;
      wrote_v = subst (λ (w : ℕ). WriteAt trace early.place w key v) same home_v.wrote;
      wrote_x = home_x.wrote;
      wrote_y = home_y.wrote;
      differ = λ e. differ (sym e);
    };
  }

  pub missing_stops : AreHomes trace hints → (i v x place txn : ℕ) (member : Append) → slice_get values i ≡ Some v → IsHome trace hints key v member → member.txn ≡ txn → WriteAt trace place txn key x → place < member.place → Lacks values x
      → Stops trace reader key values (Wrong (record { reader = reader; key = key; other = txn; flaw = Missing }))
  missing_stops homes i v x place txn member at home same wrote before lacks listed lists l = record {
    values = values;
    list = l;
    flawed = record {
      i = i;
      v = v;
      x = x;
      q = member.place;
      r = place;
      at_v = at;
      once = once_home trace hints key homes v member home;
      wrote_v = subst (λ (w : ℕ). WriteAt trace member.place w key v) same home.wrote;
      wrote_x = wrote;
      before = before;
      lacks = lacks;
    };
  }

  pub cut_stops : AreHomes trace hints → (i j v y x place txn : ℕ) (early member : Append) → i < j → slice_get values i ≡ Some v → slice_get values j ≡ Some y → IsHome trace hints key v early → IsHome trace hints key y member → early.txn ≡ txn → member.txn ≢ txn
      → WriteAt trace place txn key x → Lacks values x → Stops trace reader key values (Wrong (record { reader = reader; key = key; other = txn; flaw = Cut }))
  cut_stops homes i j v y x place txn early member less at_v at_y home_v home_y same differ wrote lacks listed lists l = record {
    values = values;
    list = l;
    flawed = record {
      i = i;
      j = j;
      v = v;
      y = y;
      x = x;
      q = early.place;
      r = member.place;
      s = place;
      u = member.txn;
      less = less;
      at_v = at_v;
      at_y = at_y;
      once_v = once_home trace hints key homes v early home_v;
      once_y = once_home trace hints key homes y member home_y;
      wrote_v = subst (λ (w : ℕ). WriteAt trace early.place w key v) same home_v.wrote;
      wrote_y = home_y.wrote;
      differ = λ e. differ (sym e);
      wrote_x = wrote;
      lacks = lacks;
    };
  }
