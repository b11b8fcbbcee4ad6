use Rattle.std.proofs.Common.{◌≡◌, List, sum_by, refl, sym, ◌∙◌, ap, subst}
use Rattle.radio_model.specs.declared.sending.Sending.{Sending}
use Rattle.radio_model.specs.OnAir.{Tuning}
use Rattle.air_log.specs.DeviceStates.{tuning_of}
use Rattle.air_log.specs.Energies.{sending_time, tuning_time}
use Rattle.energy_account.specs.ToldEnergies.{SendingsApart, TuningsApart}
use Rattle.energy_account.proofs.ReadOff.{apart_under, sum_under, sum_turned}
use Rattle.energy_account.proofs.energy.energy_told.Goals as goal

pub sent_time-requires : goal.sent_time-requires
sent_time-requires c = subst (λ (xs : List Sending). SendingsApart xs) (sym c.sent.ensures) c.requires.sent

pub tuned_time-requires : goal.tuned_time-requires
tuned_time-requires c =
    apart_under tuning_of (λ (t : Tuning). t.start) (λ (t : Tuning). t.end) 0 c.tuned.result.now
    (subst (λ (ts : List Tuning). TuningsApart ts) (sym c.tuned.ensures) c.requires.tuned)

pub returns : goal.returns
returns c =
    let told = c.args.trail.now in
    let sent : c.sent_time.result ≡ sum_by sending_time told.sent =
    c.sent_time.ensures ∙ ap (λ (xs : List Sending). sum_by sending_time xs) c.sent.ensures in
    let on : c.tuned_time.result ≡ sum_by tuning_time told.tuned =
    c.tuned_time.ensures ∙ sum_under tuning_of tuning_time c.tuned.result.now ∙ ap (λ (ts : List Tuning). sum_by tuning_time ts) c.tuned.ensures
    ∙ sum_turned tuning_time told.tuned in
    rw (sent, c.windows.ensures, c.scanned.ensures, on) refl
