use Rattle.std.proofs.Common.{◌≡◌, ◌∙◌, map, zip}
use Rattle.std.proofs.lemmas.Result.{IfOk-weaker}
use Rattle.bus_terms.specs.Fates.{bus_fates}
use Rattle.packet_fates.specs.Tables.{put_fate_in}
use Rattle.packet_fates.proofs.FatesOfRuns.{fates_of_run}
use Rattle.packet_fates.proofs.put_fates.fates.Goals as goal

pub returns : goal.returns
returns c = λ s run.
    let lists = c.args.lists.now in
    IfOk-weaker c.fates.result
    (λ fates. fates.items ≡ map (put_fate_in lists.hosts.now lists.sent.now lists.deliveries.now) (zip lists.puts.now c.deref.result.now))
    (λ fates. fates.items ≡ bus_fates s)
    (λ fates is. fates_of_run s lists c.deref.result.now run (c.deref.ensures.value ∙ c.in_ok-cleared.ensures) fates.items is)
    (c.fates.ensures lists.hosts.now lists.sent.now lists.deliveries.now c.in_ok-packets.ensures)
