use Rattle.session_script.proofs.tables.verb_form.Goals as goal

pub returns-in-Janitor : goal.returns-in-Janitor
returns-in-Janitor c = rw c.in-Janitor.is c.look_up-in-Janitor.ensures

pub returns-in-Node : goal.returns-in-Node
returns-in-Node c = rw c.in-Node.is c.look_up-in-Node.ensures

pub returns-in-Session : goal.returns-in-Session
returns-in-Session c = rw c.in-Session.is c.look_up-in-Session.ensures
