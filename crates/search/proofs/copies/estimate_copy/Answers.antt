use mathlib.Core.Path.{ap, ◌∙◌}
use Rattle.stage.specs.Planes.{Planes}
use Rattle.stage.specs.Search.{choices_estimate}
use Rattle.search.proofs.Calls.{copied, copied_inside, copied_ready}
use Rattle.search.proofs.copies.estimate_copy.Goals as goal

pub front_estimate-e-requires-clause-inside : goal.front_estimate-e-requires-clause-inside
front_estimate-e-requires-clause-inside c = copied_inside c.requires.ready c.prepare.ensures.prepared

pub front_estimate-e-requires-clause-ready : goal.front_estimate-e-requires-clause-ready
front_estimate-e-requires-clause-ready c = copied_ready c.requires.ready c.prepare.ensures.prepared

pub returns-clause-estimate : goal.returns-clause-estimate
returns-clause-estimate c =
    c.front_estimate-e.ensures.estimate
    ∙ ap (λ (q : Planes). choices_estimate c.args.settings q c.args.choices.now) (copied c.requires.ready c.prepare.ensures.prepared)
