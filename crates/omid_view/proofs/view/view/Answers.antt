use Rattle.std.proofs.Common.{◌≡◌}
use Rattle.omid_view.proofs.ViewLemmas.{viewed_code, views_for}
use Rattle.omid_view.proofs.WordLemmas.{judging_for, known_for}
use Rattle.omid_view.proofs.view.view.Goals as goal

pub returns-in-Some-clause-views : goal.returns-in-Some-clause-views
returns-in-Some-clause-views g c = views_for c.in-Some.command _ _ _ _ _ _ c.in-Some.ensures.known c.view_source.ensures.views

pub returns-in-Some-clause-no_command : goal.returns-in-Some-clause-no_command
returns-in-Some-clause-no_command g c = λ unknown. absurd (unknown (known_for c.in-Some.command _ c.in-Some.ensures.known))

pub returns-in-Some-clause-unread : goal.returns-in-Some-clause-unread
returns-in-Some-clause-unread g c = λ unknown. absurd (unknown (known_for c.in-Some.command _ c.in-Some.ensures.known))

pub returns-in-Some-clause-usage : goal.returns-in-Some-clause-usage
returns-in-Some-clause-usage g c = λ two. absurd ((viewed_code c.in-Some.command _ _ _ _ _ c.view_source.ensures.views).2 two)

pub returns-in-Some-clause-judged : goal.returns-in-Some-clause-judged
returns-in-Some-clause-judged g c = λ seven. judging_for c.in-Some.command _ c.in-Some.ensures.known (c.view_source.ensures.judged seven)

pub returns-in-Some-clause-codes : goal.returns-in-Some-clause-codes
returns-in-Some-clause-codes g c = let told = viewed_code c.in-Some.command _ _ _ _ _ c.view_source.ensures.views in (told.0, told.1)
