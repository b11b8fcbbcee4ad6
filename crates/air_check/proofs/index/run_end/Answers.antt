use Rattle.std.proofs.Common.{ap, ◌∙◌}
use Rattle.lwb_base.specs.Profile.{Numbers}
use Rattle.scenario_text.proofs.SoundScenarios.{sound}
use Rattle.air_log.proofs.ShortRuns.{short_run}
use Rattle.air_check.proofs.index.run_end.Goals as goal

pub returns-clause-range : goal.returns-clause-range
returns-clause-range c =
    rw (c.from.ensures ∙ c.frames.ensures.value, c.frame.ensures.value ∙ ap (λ (p : Numbers). p.frame) c.profile.ensures.value)
    (short_run c.args.s.now (sound c.args.s.now c.frames.ensures.said))
