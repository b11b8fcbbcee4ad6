use Rattle.std.proofs.Common.{ap, option_map}
use Rattle.std.proofs.lemmas.Result.{err_from_is_err_and}
use Rattle.network_text.proofs.NetworkTexts.{ratio_fault, read}
use Rattle.network_text.proofs.network.parse_network.Goals as goal

pub returns-in_err-ratios-in-Some-clause-text : goal.returns-in_err-ratios-in-Some-clause-text
returns-in_err-ratios-in-Some-clause-text c =
    let e = err_from_is_err_and c.from_residual-in_err-ratios-in-Some.result c.from_residual-in_err-ratios-in-Some.ensures.1 in
    rw (e.1, e.2)
    (ratio_fault c.args.bytes.now c.in-Ok.division.above.now c.in-Ok.division.count _ c.in-Ok.ensures.divided c.in_ok-scenario.scenario
    c.in_ok-scenario.ensures c.in-Some.below.now (ap (option_map (λ b. b.now)) c.in-Some.is) c.in_err-ratios-in-Some.field-0.0
    c.in_err-ratios-in-Some.ensures.lines)

pub returns-in_ok-ratios-in-Some-clause-text : goal.returns-in_ok-ratios-in-Some-clause-text
returns-in_ok-ratios-in-Some-clause-text c =
    read c.args.bytes.now c.in-Ok.division.above.now c.in-Ok.division.count _ c.in-Ok.ensures.divided c.in_ok-scenario.scenario
    c.in_ok-scenario.ensures c.in-Some.below.now (ap (option_map (λ b. b.now)) c.in-Some.is) c.in_ok-ratios-in-Some.ratios.lines
    c.in_ok-ratios-in-Some.ensures.lines
