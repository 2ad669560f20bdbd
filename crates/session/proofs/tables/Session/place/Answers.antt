use Rattle.session.proofs.Steps.{reached}
use Rattle.session.proofs.tables.Session.place.Goals as goal

pub returns : goal.returns
returns c = reached c.args.self.now c.args.name.now c.deref.result.now c.place_of.result c.ok_or.result c.in_ok-idle.ensures c.deref.ensures.value c.place_of.ensures c.ok_or.ensures.value
