-- The end of a transmission at its sender, and at a node that received it.
use Rattle.std.proofs.Common.{◌≡◌, ℕ, List, [], ◌∷◌, ◌++◌, Some, None, Option, option_map, Contains, inl, inr, refl, sym, ◌∙◌, ap, subst, arith}
use Rattle.std.proofs.lemmas.Bool.{eq-eqb}
use Rattle.event_calendar.specs.declared.class.Class.TheVariants.{SendingEnd}
use Rattle.radio_model.specs.declared.sending.Sending.{Sending}
use Rattle.scenario_text.specs.ScenarioParts.{ScenarioParts}
use Rattle.bus_rules.specs.Cores.{Setup}
use Rattle.air_log.specs.Devices.{Device}
use Rattle.scenario_text.specs.Setups.{setup_of}
use Rattle.air_log.specs.Trails.{Reception, device_after_script, device_after_reception, device_after_receptions, device_after_end, device_ended_by}
use Rattle.air_log.specs.Trails.{before_tick}
use Rattle.air_log.proofs.HearingMore.{earlier_stays, heard_now}
use Rattle.world_engine.specs.FieldSteps.{told_of_end}
use Rattle.world_engine.specs.Moments.{At, IsAtMoment, device_at_point}
use Rattle.air_log.proofs.OwnSendings.{IsOwn, own_heard, still_sent, none_ends}
use Rattle.air_log.specs.DeviceStates.{sending_end}
use Rattle.world_engine.proofs.TickPoints.{IsOver, ends_nothing, end_at}

told_as_ended : (clock : ℕ → ℕ) (s : Setup) (t : ℕ) (d : Device) (x : Sending) (y : Option Sending) → y ≡ Some x → x.end ≡ t
    → device_ended_by clock s t d y ≡ told_of_end clock t x s d
told_as_ended clock s t d x y is now = ap (device_ended_by clock s t d) is ∙ rw (eq-eqb x.end t now) refl

same_sending : (x y : Sending) → Some x ≡ Some y → x ≡ y
same_sending x y is = cc

module _ (s : ScenarioParts) (v : ℕ) (clock : ℕ → ℕ) (hs : List Reception) (t : ℕ) where
  abbrev heard_all : Device
  heard_all = device_at_point s v clock hs t SendingEnd

  -- the sender is notified of the end
  pub end_told : (d : Device) (x : Sending) → d.sending ≡ Some x → x.end ≡ t → IsAtMoment s clock hs v t (At SendingEnd) d
      → IsAtMoment s clock hs v t (At SendingEnd) (told_of_end clock t x (setup_of s v) d)
  end_told d x runs now (inl at) = inr (sym (told_as_ended clock (setup_of s v) t d x d.sending runs now) ∙ ap (device_after_end clock (setup_of s v) t) at)
  end_told d x runs now (inr at) =
      let runs_at : (device_after_end clock (setup_of s v) t heard_all).sending ≡ Some x = ap (λ (e : Device). e.sending) (sym at) ∙ runs in
      absurd (end_at t (device_after_end clock (setup_of s v) t heard_all).sending (none_ends clock (setup_of s v) t heard_all)
      (ap (option_map sending_end) runs_at ∙ ap (λ (n : ℕ). Some n) now))

  -- where no own transmission ends at the tick
  none_over : (d : Device) → d ≡ device_after_end clock (setup_of s v) t heard_all → ((y : Sending) → Contains d.made.sent y → y.end ≡ t → ⊥)
      → IsOver SendingEnd t heard_all
  none_over d at none = by heard_all.sending refl (own_heard s v clock hs t)
    where
      by : (x : Option Sending) → heard_all.sending ≡ x → IsOwn x heard_all.made.sent → option_map sending_end x ≡ Some t → ⊥
      by None is own now = cc
      by (Some y) is own now =
          let there : Contains d.made.sent y = subst (λ (e : Device). Contains e.made.sent y) (sym at) (still_sent y clock (setup_of s v) t heard_all own) in
          none y there (same_number now)
        where
          same_number : Some y.end ≡ Some t → y.end ≡ t
          same_number is = cc

  pub is_heard_all : (d : Device) → ((y : Sending) → Contains d.made.sent y → y.end ≡ t → ⊥) → IsAtMoment s clock hs v t (At SendingEnd) d → d ≡ heard_all
  is_heard_all d none (inl at) = at
  is_heard_all d none (inr at) = at ∙ ends_nothing clock (setup_of s v) t heard_all (none_over d at none)

  heard_with : (h : Reception) → h.end ≡ t → device_at_point s v clock (hs ++ h ∷ []) t SendingEnd ≡ device_after_reception clock (setup_of s v) t heard_all h
  heard_with h now =
      ap (λ (e : Device). device_after_receptions clock (setup_of s v) t (hs ++ h ∷ []) (device_after_script s v clock t e))
      (earlier_stays s v clock hs h t (omega (arith, now)))
      ∙ heard_now clock (setup_of s v) t hs h (device_after_script s v clock t (before_tick s v clock hs t)) now

  -- a node that received it is notified
  pub hearing_told : (d : Device) (h : Reception) → h.end ≡ t → ((y : Sending) → Contains d.made.sent y → y.end ≡ t → ⊥)
      → IsAtMoment s clock hs v t (At SendingEnd) d → IsAtMoment s clock (hs ++ h ∷ []) v t (At SendingEnd) (device_after_reception clock (setup_of s v) t d h)
  hearing_told d h now none at = inl (ap (λ (e : Device). device_after_reception clock (setup_of s v) t e h) (is_heard_all d none at) ∙ sym (heard_with h now))
