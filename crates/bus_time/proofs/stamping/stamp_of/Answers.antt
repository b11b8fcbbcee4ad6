use Rattle.std.proofs.Common.{ap, arith}
use Rattle.bus_time.specs.declared.beginning.Beginning.{Beginning}
use Rattle.bus_time.proofs.StampTimes.{frames, small_frame}
use Rattle.bus_time.proofs.stamping.stamp_of.Goals as goal

pub overflow_cast-result : goal.overflow_cast-result
overflow_cast-result g c =
    let clocks = c.requires.0 in
    let air = c.requires.1 in
    let x = c.requires.2 in
    let may = c.requires.3 in
    let few = small_frame c.args.s.now clocks c.args.reading.now.present c.args.reading.now.ahead c.args.begun.now air x may in
    let is = frames c.args.s.now clocks c.args.reading.now.present c.args.reading.now.ahead c.args.begun.now air x may in
    omega (arith, few, is)

pub returns : goal.returns
returns g c = λ clocks air x may reads. record {
  frame = frames c.args.s.now clocks c.args.reading.now.present c.args.reading.now.ahead c.args.begun.now air x may;
  rank = ap (λ (b : Beginning). b.rank) may.is;
  slot = ap (λ (b : Beginning). b.slot) may.is;
  node = ap (λ (b : Beginning). b.node) may.is;
  stream = ap (λ (b : Beginning). b.stream) may.is;
  seq = ap (λ (b : Beginning). b.seq) may.is;
  tick = c.tick_of.ensures clocks air x may reads;
}
