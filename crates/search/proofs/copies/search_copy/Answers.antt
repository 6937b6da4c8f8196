use mathlib.Core.Path.{ap, ◌∙◌}
use Rattle.stage.specs.Planes.{Planes}
use Rattle.stage.specs.Search.{choices_estimate, winners}
use Rattle.search.proofs.Calls.{copied, copied_inside, copied_ready}
use Rattle.search.proofs.copies.search_copy.Goals as goal

pub front_search-won-requires-clause-inside : goal.front_search-won-requires-clause-inside
front_search-won-requires-clause-inside c = copied_inside c.requires.ready c.prepare.ensures.prepared

pub front_search-won-requires-clause-ready : goal.front_search-won-requires-clause-ready
front_search-won-requires-clause-ready c = copied_ready c.requires.ready c.prepare.ensures.prepared

pub returns-clause-choices : goal.returns-clause-choices
returns-clause-choices c =
    c.front_search-won.ensures.choices ∙ ap (λ (q : Planes). winners c.args.settings q c.args.rounds) (copied c.requires.ready c.prepare.ensures.prepared)

pub returns-clause-estimate : goal.returns-clause-estimate
returns-clause-estimate c =
    c.front_search-won.ensures.estimate
    ∙ ap (λ (q : Planes). choices_estimate c.args.settings q c.front_search-won.new.choices) (copied c.requires.ready c.prepare.ensures.prepared)
