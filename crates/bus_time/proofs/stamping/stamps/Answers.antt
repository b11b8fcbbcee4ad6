use Rattle.std.proofs.Common.{◌≡◌, ◌+◌, ◌∷◌, ◌++◌, [], List, take, sym, ◌∙◌, ap, subst, arith}
use Rattle.std.specs.List.{AllZip}
use Rattle.std.proofs.lemmas.List.{take_all}
use Rattle.radio_model.specs.declared.sending.Sending.{Sending}
use Rattle.scenario_text.specs.FloodParts.{knows}
use Rattle.scenario_clocks.specs.StatedClocks.{scenario_clock}
use Rattle.scenario_clocks.proofs.StatedDrift.{scenario_states}
use Rattle.bus_time.specs.Stamps.{AreStamps, IsStamp, stamped}
use Rattle.bus_time.specs.declared.beginning.Beginning.{Beginning}
use Rattle.bus_time.specs.declared.stamp.Stamp.{Stamp}
use Rattle.bus_time.proofs.StampTimes.{known}
use Rattle.bus_time.proofs.StampedLists.{zip_more}
use Rattle.bus_time.proofs.StampedRuns.{clock_reads, driven, may_stamp, long}
use Rattle.bus_time.proofs.StampsErr.{all_err_little}
use Rattle.bus_time.proofs.stamping.stamps.Goals as goal

pub stated_clocks-requires : goal.stated_clocks-requires
stated_clocks-requires c = rw (c.nodes.ensures.value, c.rates.ensures) (scenario_states c.args.s.now c.nodes.ensures.said)

pub place_of-requires : goal.place_of-requires
place_of-requires c =
    let s = c.args.s.now in
    let air = c.args.air.now in
    let r = c.in_ok-reading.reading in
    let b = c.index.result.now in
    let at = may_stamp s c.nodes.ensures.said air c.requires.lawful c.profile-profile.result c.profile-profile.ensures.value r.present r.ahead
    r.beginnings.items c.sort.new.beginnings.items c.in_ok-reading.ensures c.in_ok-sort.ensures c.loop-i.i b
    (let end = c.len-i-end.ensures in let test = c.loop-i-test.true in omega (arith, end, test)) c.index.ensures in
    ap (λ (n : Beginning). knows s.nodes n.node) at.may.is ∙ known s (scenario_clock s) r.present r.ahead b air at.it at.may

pub stamp_of-requires : goal.stamp_of-requires
stamp_of-requires c =
    let s = c.args.s.now in
    let air = c.args.air.now in
    let r = c.in_ok-reading.reading in
    let b = c.index.result.now in
    let at = may_stamp s c.nodes.ensures.said air c.requires.lawful c.profile-profile.result c.profile-profile.ensures.value r.present r.ahead
    r.beginnings.items c.sort.new.beginnings.items c.in_ok-reading.ensures c.in_ok-sort.ensures c.loop-i.i b
    (let end = c.len-i-end.ensures in let test = c.loop-i-test.true in omega (arith, end, test)) c.index.ensures in
    let clocks = c.in_ok-clocks.ensures in (
      scenario_clock s,
      air,
      at.it,
      at.may,
      clock_reads s c.nodes.ensures.said c.nodes.result.now c.rates.result.now c.in_ok-clocks.clocks.items c.nodes.ensures.value c.rates.ensures
          clocks.count clocks.stated c.place_of.result b.node c.index-clock.result.now c.place_of.ensures.place c.place_of.ensures.node c.index-clock.ensures
          ∙ ap (λ (n : Beginning). scenario_clock s n.node) at.may.is,
    )

pub loop-i-preserved : goal.loop-i-preserved
loop-i-preserved c =
    let s = c.args.s.now in
    let air = c.args.air.now in
    let r = c.in_ok-reading.reading in
    let b = c.index.result.now in
    let at = may_stamp s c.nodes.ensures.said air c.requires.lawful c.profile-profile.result c.profile-profile.ensures.value r.present r.ahead
    r.beginnings.items c.sort.new.beginnings.items c.in_ok-reading.ensures c.in_ok-sort.ensures c.loop-i.i b
    (let end = c.len-i-end.ensures in let test = c.loop-i-test.true in omega (arith, end, test)) c.index.ensures in
    let clocks = c.in_ok-clocks.ensures in
    let reads = clock_reads s c.nodes.ensures.said c.nodes.result.now c.rates.result.now c.in_ok-clocks.clocks.items c.nodes.ensures.value
    c.rates.ensures clocks.count clocks.stated c.place_of.result b.node c.index-clock.result.now c.place_of.ensures.place c.place_of.ensures.node
    c.index-clock.ensures ∙ ap (λ (n : Beginning). scenario_clock s n.node) at.may.is in
    let many = long s c.nodes.ensures.said air c.requires.lawful c.profile-profile.result c.profile-profile.ensures.value r.present r.ahead
    r.beginnings.items c.sort.new.beginnings.items c.in_ok-reading.ensures c.in_ok-sort.ensures in
    let pushed : c.push.new.self.items ≡ c.loop-i.stamps.items ++ c.stamp_of.result ∷ [] = c.in_ok-push.ensures.items in
    subst (λ (l : List Stamp). AllZip (IsStamp s (scenario_clock s) air) (take (c.loop-i.i + 1) (stamped s.profile air)) l) (sym pushed)
    (zip_more (IsStamp s (scenario_clock s) air) (stamped s.profile air) c.loop-i.stamps.items c.loop-i.i at.it c.stamp_of.result
    (let end = c.len-i-end.ensures in let test = c.loop-i-test.true in omega (arith, end, test, many)) at.place c.loop-i.invariant
    (c.stamp_of.ensures (scenario_clock s) air at.it at.may reads))

pub returns : goal.returns
returns c =
    let s = c.args.s.now in
    let air = c.args.air.now in
    let r = c.in_ok-reading.reading in
    let many = long s c.nodes.ensures.said air c.requires.lawful c.profile-profile.result c.profile-profile.ensures.value r.present r.ahead
    r.beginnings.items c.sort.new.beginnings.items c.in_ok-reading.ensures c.in_ok-sort.ensures in
    let made : AreStamps s (scenario_clock s) air c.loop-i.stamps.items =
    subst (λ (l : List Sending). AllZip (IsStamp s (scenario_clock s) air) l c.loop-i.stamps.items) (take_all c.loop-i.i (stamped s.profile air)
    (let end = c.len-i-end.ensures in let test = c.loop-i-test.false in omega (arith, end, test, many))) c.loop-i.invariant in
    record {
      stamps = made;
      errors = all_err_little s (scenario_clock s) air (driven s c.nodes.ensures.said) c.requires.lawful c.loop-i.stamps.items made;
    }
