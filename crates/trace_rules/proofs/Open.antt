-- What nobody read may be left out.
use Rattle.std.proofs.Common.{ℕ, List, Option, None, Some, take, slice_get, sym, ap, ◌∙◌}
use Rattle.trace_rules.specs.declared.trace.Version.{Version}
use Rattle.trace_rules.specs.declared.trace.Operation.{Operation}
use Rattle.trace_rules.specs.Trace.{Trace, Writer, ReadAt, last_of}
use Rattle.trace_rules.specs.declared.wanted.Level.{Level}
use Rattle.trace_rules.specs.declared.wanted.Level.TheVariants.{Snapshot, Serializable}
use Rattle.trace_rules.specs.Stamping.{Stamping, Conflict, RightAnswer, IsolatedBy, Asked, Stampable}
use Rattle.trace_rules.specs.Open.{Fewer}

module _ (less more : Trace) (fewer : Fewer less more) where
  writer_up : (t k value : ℕ) → Writer less t k value → Writer more t k value
  writer_up t k value w = record { done = fewer.done t w.done; wrote = ap (λ (o : List Operation). last_of o t k) (sym fewer.operations) ∙ w.wrote }

  read_up : (place t k : ℕ) (answer : Option Version) (own : Option ℕ) → ReadAt less place t k answer own → ReadAt more place t k answer own
  read_up place t k answer own r = record {
    done = fewer.done t r.done;
    stands = ap (λ (o : List Operation). slice_get o place) (sym fewer.operations) ∙ r.stands;
    before = ap (λ (o : List Operation). last_of (take place o) t k) (sym fewer.operations) ∙ r.before;
  }

  conflict_up : (level : Level) (t u : ℕ) → Conflict level less t u → Conflict level more t u
  conflict_up Snapshot t u c = record { key = c.key; value = c.value; other = c.other; first = writer_up t c.key c.value c.first; second = writer_up u c.key c.other c.second }
  conflict_up Serializable t u c = record { first = fewer.done t c.first; second = fewer.done u c.second }

  module _ (level : Level) (st : Stamping) (is : IsolatedBy level st more) where
    right_down : (place t k : ℕ) (answer : Option Version) (own : Option ℕ) → ReadAt less place t k answer own → RightAnswer st more t k answer own → RightAnswer st less t k answer own
    right_down place t k answer (Some own) r right = right
    right_down place t k None None r right = λ u value w low. right u value (writer_up u k value w) low
    right_down place t k (Some found) None r right = record {
      writer = record { done = fewer.closed t k found (record { place = place; read = r }); wrote = ap (λ (o : List Operation). last_of o found.from k) fewer.operations ∙ right.writer.wrote };
      below = right.below;
      greatest = λ u value w low. right.greatest u value (writer_up u k value w) low;
    }

    isolated_down : IsolatedBy level st less
    isolated_down = record {
      numbered = record {
        ordered = λ t d. is.numbered.ordered t (fewer.done t d);
        starts = λ t u dt du same. is.numbered.starts t u (fewer.done t dt) (fewer.done u du) same;
        commits = λ t u dt du same. is.numbered.commits t u (fewer.done t dt) (fewer.done u du) same;
        no_start_commits = λ t u dt du same. is.numbered.no_start_commits t u (fewer.done t dt) (fewer.done u du) same;
      };
      apart = λ t u other c. is.apart t u other (conflict_up level t u c);
      reads = λ place t k answer own r. right_down place t k answer own r (is.reads place t k answer own (read_up place t k answer own r));
    }

pub left_out : (level : Level) (asked : Asked) (less more : Trace) → Fewer less more → Stampable level asked more → Stampable level asked less
left_out level asked less more fewer s = record { stamps = s.stamps; isolated = isolated_down less more fewer level s.stamps s.isolated; keeps = s.keeps }
