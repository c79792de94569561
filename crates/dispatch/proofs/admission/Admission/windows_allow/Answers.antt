use Rattle.std.proofs.Common.{◌≡◌, Decides, rules, sym, subst}
use borrow.Author.Tests.{tests}
use Rattle.std.proofs.lemmas.Iterator.Adapters.{YieldsList-from_rev_slice}
use Rattle.std.proofs.lemmas.Iterator.Consumers.{YieldsList-at, YieldsList-from_enumerate, YieldsList-from_filter}
use Rattle.std.proofs.lemmas.Iterator.Search.{all_from_yields_List}
use Rattle.dispatch.specs.Records.{is_kind, WindowsAllow}
use Rattle.dispatch.proofs.Allowed.{fits, windows_test, windows_decide}
use Rattle.dispatch.proofs.admission.Admission.windows_allow.Goals as goal

pub returns : goal.returns
returns g c =
    let a = c.args.self.now in
    let count = (g.M.ArrivalModel.meaning a.model.now).count a.task a.class in
    let kind = is_kind a.task a.class in
    let log = c.args.log.now in
    let test : c.all.result ≡ windows_test count a.clock kind log =
    all_from_yields_List (fits count a.clock kind) _ _ _ c.all.ensures.ran
    (YieldsList-from_enumerate (YieldsList-at c.enumerate.ensures.source (YieldsList-from_filter _ kind (YieldsList-at c.filter.ensures.source (YieldsList-from_rev_slice log (cc))) c.filter.ensures.closure (λ x b q k. search (rules, tests)))) c.enumerate.ensures.count)
    (λ x b q k. search (rules, tests)) in
    subst (λ r. Decides r (WindowsAllow count a.clock kind log)) (sym test) (windows_decide count a.clock kind log)
