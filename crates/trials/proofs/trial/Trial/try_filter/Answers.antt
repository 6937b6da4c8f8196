use Rattle.stage.specs.declared.Bands.TheVariants.{One}
use Rattle.stage.proofs.Choices.{choices_set}
use Rattle.trials.proofs.trial.Trial.try_filter.Goals as goal

pub estimate-requires : goal.estimate-requires
estimate-requires c =
    let a = c.args in
    let p = c.requires in
    record {
      trial = p.trial;
      choices = choices_set One a.self.now.settings a.choices.now p.place.choices a.at.place a.filter p.filter;
      base = p.place.base;
    }
