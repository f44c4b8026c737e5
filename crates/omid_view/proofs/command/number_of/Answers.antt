use Rattle.std.proofs.Common.{◌≡◌, true, false}
use Rattle.omid_view.proofs.WordLemmas.{read_as_none, read_as_another}
use Rattle.omid_view.proofs.command.number_of.Goals as goal

pub returns-else-is_decimal : goal.returns-else-is_decimal
returns-else-is_decimal c = λ n within is.
    read_as_another _ _ c.parse.result c.in-Ok.number n c.parse.ensures.value.0 c.in-Ok.is (λ same. let e : false ≡ true = c.if-is_decimal.ensures.1 same in cc) within is

pub returns-in-Err : goal.returns-in-Err
returns-in-Err c = λ n within is. read_as_none _ _ c.parse.result c.in-Err.field-0 n c.parse.ensures.value.0 c.in-Err.is within is
