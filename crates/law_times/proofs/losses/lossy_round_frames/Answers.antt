use Rattle.law_times.proofs.CountedLosses.{losses_cost_few}
use Rattle.law_times.proofs.ReturningNodes.{scanners_return}
use Rattle.law_times.proofs.losses.lossy_round_frames.Goals as goal

pub returns-clause-few : goal.returns-clause-few
returns-clause-few c = losses_cost_few

pub returns-clause-back : goal.returns-clause-back
returns-clause-back c = scanners_return
