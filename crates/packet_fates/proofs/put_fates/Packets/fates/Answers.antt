use Rattle.std.proofs.Common.{◌≡◌, ◌∷◌, ◌++◌, [], ◌<◌, min, None, length, get_or, ◌∙◌, rules}
use Rattle.bus_terms.specs.declared.packets.PutFate.{PutFate}
use Rattle.packet_fates.specs.Tables.{fate_in}
use Rattle.packet_fates.proofs.FatesOfRuns.{fates_more, fates_whole}
use Rattle.packet_fates.proofs.put_fates.Packets.fates.Goals as goal

pub loop-i-preserved : goal.loop-i-preserved
loop-i-preserved c = λ hosts sent deliveries are.
    let p = c.index-puts-i.result in
    let x : PutFate = record { put = p; fate = c.fate-fate.result } in
    let pushed : c.push.new.self.items ≡ c.loop-i.fates.items ++ x ∷ [] = search rules in
    let below : c.loop-i.i < min (length c.args.puts.now) (length c.args.cleared.now) = search rules in
    let made : c.fate-fate.result ≡ fate_in hosts sent deliveries p.packet (get_or c.args.cleared.now c.loop-i.i None) =
    c.fate-fate.ensures hosts sent deliveries are in
    pushed ∙ fates_more hosts sent deliveries c.args.puts.now c.args.cleared.now c.loop-i.i p c.fate-fate.result c.loop-i.fates.items below c.index-puts-i.is
    made (c.loop-i.invariant hosts sent deliveries are)

pub returns : goal.returns
returns c = λ hosts sent deliveries are.
    let end : min (length c.args.puts.now) (length c.args.cleared.now) ≡ c.loop-i.i = search rules in
    fates_whole hosts sent deliveries c.args.puts.now c.args.cleared.now c.loop-i.i c.loop-i.fates.items end (c.loop-i.invariant hosts sent deliveries are)
