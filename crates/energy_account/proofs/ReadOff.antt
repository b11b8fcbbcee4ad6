-- What a trail over a valid log tells is the energy by the log.
use Rattle.std.proofs.Common.{◌≡◌, ℕ, List, [], ◌∷◌, true, map, reverse, sum_by, refl, sym, ◌∙◌, ap, arith}
use Rattle.std.proofs.lemmas.Bool.{cond-true}
use Rattle.std.proofs.lemmas.List.Sums.{sum_by-cons}
use Rattle.std.proofs.lemmas.List.Sorted.{sum_by-IsPermutation, IsPermutation-reverse}
use Rattle.radio_model.specs.declared.sending.Sending.{Sending}
use Rattle.radio_model.specs.OnAir.{Tuning}
use Rattle.scenario_text.specs.FloodParts.{knows}
use Rattle.scenario_text.specs.ScenarioParts.{ScenarioParts}
use Rattle.air_log.specs.declared.entry.Entry.{Entry}
use Rattle.air_log.specs.Trails.{Reception, trail}
use Rattle.air_log.specs.TrailsTold.{trail_told}
use Rattle.air_log.specs.Lawful.{Lawful, heard_by, sent_by, tuned_by, trail_in, trail_sent, trail_tuned}
use Rattle.air_log.proofs.TrailSendings.{each_sent}
use Rattle.air_log.proofs.TrailTunings.{each_tuned, tuned_in_turn}
use Rattle.air_log.specs.declared.energy.Energy.{Energy}
use Rattle.energy_account.specs.Apart.{AreApart}
use Rattle.air_log.specs.Energies.{sending_time, tuning_time, energy_of}
use Rattle.energy_account.specs.ToldEnergies.{told_energy, SendingsApart, TuningsApart}
use Rattle.energy_account.proofs.Apart.{in_turn, turned}
use Rattle.air_log.proofs.SendingsApart.{sendings_apart}

-- under a function
pub apart_under : {X Y : Type 0} (g : Y → X) (start end : X → ℕ) (since : ℕ) (ys : List Y) → AreApart start end since (map g ys)
    → AreApart (λ y. start (g y)) (λ y. end (g y)) since ys
apart_under g start end since [] apart = tt
apart_under g start end since (y ∷ ys) apart = (apart.0, apart.1, apart_under g start end (end (g y)) ys apart.2)

pub sum_under : {X Y : Type 0} (g : Y → X) (f : X → ℕ) (ys : List Y) → sum_by (λ y. f (g y)) ys ≡ sum_by f (map g ys)
sum_under g f [] = refl
sum_under g f (y ∷ ys) =
    let whole = sum_by-cons (λ y. f (g y)) y ys in
    let mapped = sum_by-cons f (g y) (map g ys) in
    let rest = sum_under g f ys in
    omega (arith, whole, mapped, rest)

pub sum_turned : {X : Type 0} (f : X → ℕ) (xs : List X) → sum_by f (reverse xs) ≡ sum_by f xs
sum_turned f xs = sum_by-IsPermutation f xs (reverse xs) (IsPermutation-reverse xs)

-- the entries of a trail lie apart
module _ (s : ScenarioParts) (v : ℕ) (clock : ℕ → ℕ) (hs : List Reception) where
  pub sent_apart : SendingsApart (trail s v clock hs).made.sent
  sent_apart =
      in_turn (λ (x : Sending). x.start) (λ (x : Sending). x.end) 0 (trail s v clock hs).made.sent
      (λ k x less. omega arith)
      (λ k x less. let is = each_sent s v clock hs k x less in omega (arith, is.lasts))
      (sendings_apart s v clock hs)

  pub tuned_apart : TuningsApart (reverse (trail s v clock hs).made.tuned)
  tuned_apart =
      turned (λ (t : Tuning). t.start) (λ (t : Tuning). t.end) (trail s v clock hs).made.tuned
      (λ k t less. let is = each_tuned s v clock hs k t less in omega (arith, is.some))
      (λ i j t less within. (tuned_in_turn s v clock hs i j t less within).after)

-- its sums are those of the log
module _ (s : ScenarioParts) (clocks : ℕ → ℕ → ℕ) (air : List Entry) (v : ℕ) (lawful : Lawful s clocks air) (known : knows s.nodes v ≡ true) where
  sent_is : sum_by sending_time (trail_in s clocks air v).made.sent ≡ sum_by sending_time (sent_by air v)
  sent_is =
      ap (λ (xs : List Sending). sum_by sending_time xs) (sym (cond-true (knows s.nodes v) (trail_in s clocks air v).made.sent [] known))
      ∙ sym (sum_by-IsPermutation sending_time (trail_sent s clocks air v) (sent_by air v) (lawful.trails.sent v))

  on_is : sum_by tuning_time (trail_in s clocks air v).made.tuned ≡ sum_by tuning_time (tuned_by air v)
  on_is =
      ap (λ (ts : List Tuning). sum_by tuning_time ts) (sym (cond-true (knows s.nodes v) (trail_in s clocks air v).made.tuned [] known))
      ∙ sym (sum_by-IsPermutation tuning_time (trail_tuned s clocks air v) (tuned_by air v) (lawful.trails.tuned v))

  pub read_off : told_energy (trail_told s v (clocks v) (heard_by air v)) ≡ energy_of s clocks air v
  read_off =
      let told : ℕ → ℕ → Energy =
      λ a b. record { sent = a; windows = (energy_of s clocks air v).windows; scanned = (energy_of s clocks air v).scanned; on = b } in
      ap (λ (n : ℕ). told n (sum_by tuning_time (trail_in s clocks air v).made.tuned)) sent_is
      ∙ ap (told (sum_by sending_time (sent_by air v))) on_is
