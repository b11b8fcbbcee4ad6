use Rattle.packet_fates.proofs.TalliedLatencies.{tallied_option}
use Rattle.packet_fates.proofs.latency_tally.note_latency.Goals as goal

pub returns-in_ok-count_one : goal.returns-in_ok-count_one
returns-in_ok-count_one c = λ before is.
    tallied_option before c.args.tally.now c.count_one.new.counts c.args.latency c.in-Some.latency c.in-Some.is is c.in_ok-count_one.ensures.0
