use Rattle.scenario_text.proofs.SoundScenarios.{sound, sound_lines}
use Rattle.scenario_text.proofs.laws.scenarios_are_sound.Goals as goal

pub returns-clause-sound : goal.returns-clause-sound
returns-clause-sound c = sound

pub returns-clause-lines : goal.returns-clause-lines
returns-clause-lines c = sound_lines
