use Rattle.law_trails.specs.OnePacket.{one_packet}
use Rattle.law_witnesses.proofs.WorkedTexts.{one_packet_is_said}
use Rattle.law_witnesses.proofs.worked_run.a_valid_run_is_there.Goals as goal

pub returns-clause-said : goal.returns-clause-said
returns-clause-said c = one_packet_is_said

pub returns-clause-run : goal.returns-clause-run
returns-clause-run c = record {
  sound = c.scenarios_are_sound.ensures.sound one_packet one_packet_is_said;
  drift = λ v known. c.zeros_of_one_packet.ensures.clocks v;
  lawful = c.the_log_of_one_packet_is_lawful_and_safe.ensures.lawful;
}
