use Rattle.std.proofs.Common.{ap, option_map}
use Rattle.std.proofs.lemmas.Result.{err_from_is_err_and}
use Rattle.air_check.proofs.CheckedTexts.{missing, log_fault, read}
use Rattle.air_check.proofs.checked_text.parse_checked.Goals as goal

pub returns-in_err-air-in-Some-clause-text : goal.returns-in_err-air-in-Some-clause-text
returns-in_err-air-in-Some-clause-text c =
    let e = err_from_is_err_and c.from_residual-in_err-air-in-Some.result c.from_residual-in_err-air-in-Some.ensures.1 in
    rw (e.1, e.2)
    (log_fault c.args.bytes.now c.in-Ok.division.above.now c.in-Ok.division.count _ c.in-Ok.ensures.divided c.in_ok-scenario.scenario
    c.in_ok-scenario.ensures c.in-Some.below.now (ap (option_map (λ b. b.now)) c.in-Some.is) c.in_err-air-in-Some.field-0.0 c.in_err-air-in-Some.ensures)

pub returns-in_ok-air-in-Some-clause-text : goal.returns-in_ok-air-in-Some-clause-text
returns-in_ok-air-in-Some-clause-text c =
    read c.args.bytes.now c.in-Ok.division.above.now c.in-Ok.division.count _ c.in-Ok.ensures.divided c.in_ok-scenario.scenario
    c.in_ok-scenario.ensures c.in-Some.below.now (ap (option_map (λ b. b.now)) c.in-Some.is) c.in_ok-air-in-Some.air c.in_ok-air-in-Some.ensures

pub returns-in-None-clause-text : goal.returns-in-None-clause-text
returns-in-None-clause-text c =
    missing c.args.bytes.now c.in-Ok.division.above.now c.in-Ok.division.count _ c.in-Ok.ensures.divided c.in_ok-scenario.scenario
    c.in_ok-scenario.ensures (ap (option_map (λ b. b.now)) c.in-None.is)
