-- The running transmission of a device, as the last that it has made.
use Rattle.std.proofs.Common.{◌≡◌, ℕ, ◌-◌, List, [], ◌∷◌, ◌++◌, length, true, Option, Some, None, option_map, option_to_list, IfSome, is_some}
use Rattle.std.proofs.Common.{refl, sym, ap, subst, arith}
use Rattle.std.specs.Option.{option_or}
use Rattle.std.specs.List.{slice_get}
use Rattle.std.proofs.lemmas.List.{append-nil, get_or_push, length_push}
use Rattle.std.proofs.lemmas.Option.{slice_get_read}
use Rattle.lwb_base.specs.declared.event.Event.TheVariants.{Sent}
use Rattle.radio_model.specs.declared.sending.Sending.{Sending}
use Rattle.bus_rules.specs.Cores.{Setup}
use Rattle.air_log.specs.Devices.{Device, event}
use Rattle.air_log.specs.DeviceStates.{sending_end, running, RunsUntil, ends_now, told_of}
use Rattle.air_log.proofs.LeastDue.{if_some_map, from_some_map}

-- one that starts is the last
pub last_made : (sent : List Sending) (x : Sending) → running (Some x.end) (sent ++ x ∷ []) ≡ Some x
last_made sent x =
    let long = length_push sent x in
    slice_get_read (sent ++ x ∷ []) (length (sent ++ x ∷ [])) (length (sent ++ x ∷ []) - 1) x refl (omega (arith, long))
    (sym (get_or_push sent x x (length (sent ++ x ∷ []) - 1) (omega (arith, long))))

-- and where none starts, that which runs goes on
pub runs_on : (end : Option ℕ) (sent : List Sending) (x : Option Sending) → RunsUntil end sent
    → RunsUntil (option_or (option_map sending_end x) end) (sent ++ option_to_list x)
runs_on end sent None runs = subst (λ (xs : List Sending). RunsUntil end xs) (sym (append-nil sent)) runs
runs_on end sent (Some x) runs = ap (option_map sending_end) (last_made sent x)

pub runs_still : (old new : Option ℕ) (sent more : List Sending) → new ≡ old → more ≡ sent → RunsUntil old sent → RunsUntil new more
runs_still old new sent more end same runs =
    subst (λ (o : Option ℕ). RunsUntil o more) (sym end) (subst (λ (xs : List Sending). RunsUntil old xs) (sym same) runs)

-- what holds of its end
pub of_end : (P : ℕ → Type 0) (end : Option ℕ) (sent : List Sending) → RunsUntil end sent → IfSome (running end sent) (λ x. P x.end) → IfSome end P
of_end P end sent runs is = subst (λ (o : Option ℕ). IfSome o P) runs (if_some_map sending_end (running end sent) P is)

pub of_running : (P : ℕ → Type 0) (end : Option ℕ) (sent : List Sending) → RunsUntil end sent → IfSome end P → IfSome (running end sent) (λ x. P x.end)
of_running P end sent runs is = from_some_map sending_end (running end sent) P (subst (λ (o : Option ℕ). IfSome o P) (sym runs) is)

-- where there is an end, there is one
pub some_runs : (end : Option ℕ) (sent : List Sending) → RunsUntil end sent → is_some end ≡ true → is_some (running end sent) ≡ true
some_runs None sent runs some = cc
some_runs (Some end) sent runs some = by (slice_get sent (length sent - 1)) runs
  where
    by : (o : Option Sending) → option_map sending_end o ≡ Some end → is_some o ≡ true
    by None is = cc
    by (Some x) is = refl

-- and where that is now, it is the last
pub last_there : (t : ℕ) (end : Option ℕ) (sent : List Sending) → RunsUntil end sent → ends_now t end ≡ true
    → is_some (slice_get sent (length sent - 1)) ≡ true
last_there t None sent runs now = cc
last_there t (Some end) sent runs now = some_runs (Some end) sent runs refl

pub ended_last : (t : ℕ) (end : Option ℕ) (sent : List Sending) → ends_now t end ≡ true → running end sent ≡ slice_get sent (length sent - 1)
ended_last t None sent now = cc
ended_last t (Some end) sent now = refl

pub told_last : (clock : ℕ → ℕ) (q : Setup) (t : ℕ) (x : Option Sending) (d : Device) → is_some x ≡ true
    → told_of clock q t x d ≡ event clock q t Sent x d
told_last clock q t None d some = cc
told_last clock q t (Some x) d some = refl
