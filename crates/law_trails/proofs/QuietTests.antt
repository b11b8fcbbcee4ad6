-- While nothing is due until a tick, nothing is due until an earlier one.
use Rattle.std.proofs.Common.{◌≡◌, ℕ, ◌≤◌, List, [], ◌∷◌, Bool, true, false, not, ◌==◌, ◌&&◌, ◌||◌, nat_lt, nat_le, Option, Some, None, inl, inr, refl, sym}
use Rattle.std.proofs.Common.{◌∙◌, arith}
use Rattle.std.specs.List.{list_all}
use Rattle.std.proofs.lemmas.Bool.{and_parts, and_from, leb-true, le-leb, or_cases, or_left, or_right}
use Rattle.radio_model.specs.declared.sending.Sending.{Sending}
use Rattle.scenario_text.specs.ScenarioParts.{ScenarioParts}
use Rattle.scenario_text.specs.declared.script.ScriptLine.{ScriptLine}
use Rattle.air_log.specs.Devices.{Device, Power, Listening, OrderedPacket, Made}
use Rattle.air_log.specs.Trails.{Reception, frame_start}
use Rattle.air_log.proofs.ComputedTrails.{goes_through}

abbrev alarm_from : ℕ → Option ℕ → Bool
alarm_from b None = true
alarm_from b (Some w) = nat_le b w

abbrev start_from : ℕ → Option OrderedPacket → Bool
start_from b None = true
start_from b (Some o) = nat_le b o.tick

abbrev end_from : ℕ → Option Sending → Bool
end_from b None = true
end_from b (Some x) = nat_le b x.end

abbrev outside : ℕ → ℕ → ℕ → Bool
outside a b t = nat_lt t a || nat_le b t

module _ (clock D : ℕ → ℕ) (s : ScenarioParts) (v : ℕ) (hs : List Reception) (a : ℕ) where
  abbrev heard_from : ℕ → Reception → Bool
  heard_from b h = outside a b h.end

  abbrev told_from : ℕ → ScriptLine → Bool
  told_from b l = not (l.node == v) || outside a b (frame_start s l.frame)

  abbrev test : ℕ → Option ℕ → Option OrderedPacket → Option Sending → Bool
  test b alarm ordered sending =
      nat_le a b && alarm_from b alarm && start_from b ordered && end_from b sending && list_all (heard_from b) hs && list_all (told_from b) s.script

  module _ (b : ℕ) (power : Power) (listening : Option Listening) (made : Made) where
    is_test : (alarm : Option ℕ) (ordered : Option OrderedPacket) (sending : Option Sending)
        → goes_through D clock s v hs b a [] (record { power = power; listening = listening; alarm = alarm; ordered = ordered; sending = sending; made = made })
        ≡ test b alarm ordered sending
    is_test None None None = refl
    is_test None None (Some x) = refl
    is_test None (Some o) None = refl
    is_test None (Some o) (Some x) = refl
    is_test (Some w) None None = refl
    is_test (Some w) None (Some x) = refl
    is_test (Some w) (Some o) None = refl
    is_test (Some w) (Some o) (Some x) = refl

  of_device : (b : ℕ) (d : Device) → goes_through D clock s v hs b a [] d ≡ test b d.alarm d.ordered d.sending
  of_device b d = is_test b d.power d.listening d.made d.alarm d.ordered d.sending

  earlier : (t b n : ℕ) → t ≤ b → nat_le b n ≡ true → nat_le t n ≡ true
  earlier t b n order is = le-leb t n (omega (arith, order, leb-true b n is))

  earlier_outside : (t b n : ℕ) → t ≤ b → outside a b n ≡ true → outside a t n ≡ true
  earlier_outside t b n order is = elim (or_cases _ _ is) [ inl less ↦ or_left _ _ less | inr more ↦ or_right _ _ (earlier t b n order more) ]

  all_earlier : {X : Type 0} (p q : X → Bool) (xs : List X) → ((x : X) → p x ≡ true → q x ≡ true) → list_all p xs ≡ true → list_all q xs ≡ true
  all_earlier p q [] each all = refl
  all_earlier p q (x ∷ xs) each all = let both = and_parts _ _ all in and_from _ _ (each x both.0) (all_earlier p q xs each both.1)

  module _ (t b : ℕ) (low : a ≤ t) (order : t ≤ b) where
    alarm_earlier : (o : Option ℕ) → alarm_from b o ≡ true → alarm_from t o ≡ true
    alarm_earlier None is = refl
    alarm_earlier (Some w) is = earlier t b w order is

    start_earlier : (o : Option OrderedPacket) → start_from b o ≡ true → start_from t o ≡ true
    start_earlier None is = refl
    start_earlier (Some o) is = earlier t b o.tick order is

    end_earlier : (o : Option Sending) → end_from b o ≡ true → end_from t o ≡ true
    end_earlier None is = refl
    end_earlier (Some x) is = earlier t b x.end order is

    test_earlier : (alarm : Option ℕ) (ordered : Option OrderedPacket) (sending : Option Sending) → test b alarm ordered sending ≡ true
        → test t alarm ordered sending ≡ true
    test_earlier alarm ordered sending is =
        let lines = and_parts _ _ is in
        let hearings = and_parts _ _ lines.0 in
        let ends = and_parts _ _ hearings.0 in
        let starts = and_parts _ _ ends.0 in
        let set = and_parts _ _ starts.0 in
        and_from _ _ (and_from _ _
        (and_from _ _ (and_from _ _ (and_from _ _ (le-leb a t low) (alarm_earlier alarm set.1)) (start_earlier ordered starts.1))
        (end_earlier sending ends.1))
        (all_earlier (heard_from b) (heard_from t) hs (λ h is. earlier_outside t b h.end order is) hearings.1))
        (all_earlier (told_from b) (told_from t) s.script (λ l is. line_earlier (l.node == v) (frame_start s l.frame) is) lines.1)
      where
        line_earlier : (other : Bool) (n : ℕ) → (not other || outside a b n) ≡ true → (not other || outside a t n) ≡ true
        line_earlier true n is = earlier_outside t b n order is
        line_earlier false n is = refl

    pub sooner_by : (d : Device) → goes_through D clock s v hs b a [] d ≡ true → goes_through D clock s v hs t a [] d ≡ true
    sooner_by d is = of_device t d ∙ test_earlier d.alarm d.ordered d.sending (sym (of_device b d) ∙ is)

  pub in_order : (b : ℕ) (d : Device) → goes_through D clock s v hs b a [] d ≡ true → a ≤ b
  in_order b d is =
      let lines = and_parts _ _ (sym (of_device b d) ∙ is) in
      let hearings = and_parts _ _ lines.0 in
      let ends = and_parts _ _ hearings.0 in
      let starts = and_parts _ _ ends.0 in
      leb-true a b (and_parts _ _ starts.0).0

  pub sooner : (t b : ℕ) (d : Device) → a ≤ t → t ≤ b → goes_through D clock s v hs b a [] d ≡ true → goes_through D clock s v hs t a [] d ≡ true
  sooner t b d low order is = sooner_by t b low order d is
