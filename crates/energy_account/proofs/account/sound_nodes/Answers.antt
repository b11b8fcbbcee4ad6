use Rattle.scenario_text.proofs.SoundOver.{over_sound}
use Rattle.energy_account.proofs.account.sound_nodes.Goals as goal

pub returns-clause-sound : goal.returns-clause-sound
returns-clause-sound g c = over_sound c.args.s.now c.frames-frames.ensures.said
