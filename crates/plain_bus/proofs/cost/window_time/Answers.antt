use Rattle.std.proofs.Common.{◌<◌, sym, ◌∙◌, arith}
use Rattle.plain_bus.proofs.WindowTimes.{window_full, window_unfull, window_silent, window_bound}
use Rattle.plain_bus.proofs.cost.window_time.Goals as goal
use Rattle.plain_bus.proofs.cost.window_time.Goals.{in_default-via-in-Some+else-steps-limit, in_default-via-in_default}

pub returns-in-Some-clause-value : goal.returns-in-Some-clause-value
returns-in-Some-clause-value c ks size last some =
    c.until_last_sending.ensures.value
    ∙ sym (window_full c.args.profile.now c.args.limit c.args.bytes c.args.steps.count c.args.is_open c.args.steps.last ks c.if-not-is_open.false size last
    c.in-Some.last c.in-Some.is c.if-steps-limit.true)

pub returns-in-Some-clause-few : goal.returns-in-Some-clause-few
returns-in-Some-clause-few c =
    let few : c.args.bytes < 256 = c.ranges.bytes.fits in
    let bound = window_bound c.args.profile.now c.until_last_sending.ensures.made c.args.bytes c.in-Some.last (omega (arith, few))
    (c.requires.last c.in-Some.last c.in-Some.is) in
    omega (arith, bound, c.until_last_sending.ensures.value)

pub returns-in_default-clause-value : goal.returns-in_default-clause-value
returns-in_default-clause-value c ks size last some =
    let p = c.args.profile.now in
    c.close.ensures.value ∙ sym (
    elim c.in_default.branch [
      | in_default-via-in-Some+else-steps-limit w ↦ window_unfull p c.args.limit c.args.bytes c.args.steps.count c.args.is_open c.args.steps.last ks
          c.if-not-is_open.false size last w.if-steps-limit.false
      | in_default-via-in_default w ↦ window_silent p c.args.limit c.args.bytes c.args.steps.count c.args.is_open c.args.steps.last ks c.if-not-is_open.false
          size last w.in_default.is
    ])
