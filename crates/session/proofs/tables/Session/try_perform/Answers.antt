use Rattle.std.proofs.Common.{sym, ap, ◌∙◌, subst, ap₂}
use Rattle.commands.specs.Forms.{asked}
use Rattle.sorts.specs.Offered.{words}
use Rattle.session.specs.Callers.{caller, reply, Replies, dependency_reply}
use Rattle.session.specs.Stopped.{ended}
use Rattle.session.proofs.tables.Session.try_perform.Goals as goal

pub returns-in-Dep : goal.returns-in-Dep
returns-in-Dep c =
    let from = caller c.args.self.now in
    subst (λ r. Replies from r (ended c.dependency.result) (caller c.dependency.new.self))
    (ap₂ (λ l r. dependency_reply from (words l) (words r)) c.deref-in-Dep.ensures.value c.deref-in-Dep-2.ensures.value ∙ sym (ap (λ a. reply from (asked a)) c.in-Dep.is))
    c.dependency.ensures
