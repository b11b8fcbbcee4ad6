-- A trail that is written down by its due ticks is computed from each of them to the next.
use Rattle.std.proofs.Common.{◌≡◌, ℕ, zero, suc, ◌≤◌, List, [], ◌∷◌, ◌++◌, true, take, drop, refl, sym, ◌∙◌, ap, subst, arith}
use Rattle.std.proofs.lemmas.Bool.{and_parts, and_from}
use Rattle.tick_clock.specs.Clocks.{due}
use Rattle.scenario_text.specs.ScenarioParts.{ScenarioParts}
use Rattle.air_log.specs.WindowLogs.{WindowLog}
use Rattle.air_log.specs.Devices.{Device, at_rest}
use Rattle.air_log.specs.Trails.{Reception, before_tick}
use Rattle.air_log.proofs.ComputedTrails.{goes_through, after_ticks, computed}
use Rattle.law_trails.specs.DueDevices.{DueDevice, IsDeviceWithWindows, StandsAs}
use Rattle.law_trails.proofs.QuietTests.{sooner, in_order}

-- D is in the place of the search for due ticks
module _ (clock D : ℕ → ℕ) (s : ScenarioParts) (v : ℕ) (hs : List Reception) where
  -- nothing is due from a on before b
  abbrev pub IsStill : ℕ → ℕ → Device → Type 0
  IsStill a b d = goes_through D clock s v hs b a [] d ≡ true

  abbrev pub after_tick : ℕ → Device → Device
  after_tick t d = after_ticks D clock s v hs (t ∷ []) d

  goes_more : (bs : List ℕ) (b t a : ℕ) (d : Device) → goes_through D clock s v hs b a bs d ≡ true
      → IsStill (suc b) t (after_tick b (after_ticks D clock s v hs bs d))
      → goes_through D clock s v hs t a (bs ++ b ∷ []) d ≡ true
  goes_more [] b t a d goes still = and_from _ _ goes still
  goes_more (c ∷ bs) b t a d goes still =
      let both = and_parts _ _ goes in
      and_from _ _ both.0 (goes_more bs b t (suc c) (after_tick c d) both.1 still)

  after_more : (bs : List ℕ) (b : ℕ) (d : Device) → after_ticks D clock s v hs (bs ++ b ∷ []) d ≡ after_tick b (after_ticks D clock s v hs bs d)
  after_more [] b d = refl
  after_more (c ∷ bs) b d = after_more bs b (after_tick c d)

  -- the computation comes to tick t with this device
  pub record Reaches (t : ℕ) (device : List WindowLog → Device) : Type 0 where
    pub ticks : List ℕ
    pub windows : List WindowLog
    pub goes : goes_through D clock s v hs t 0 ticks at_rest ≡ true
    pub is : after_ticks D clock s v hs ticks at_rest ≡ device windows

  -- with some windows, the device before a due tick leads to that before the next one, and nothing is due between
  abbrev pub Chain : List DueDevice → List WindowLog → Type 0
  Chain [] w = Unit {0}
  Chain (x ∷ []) w = Unit {0}
  Chain (x ∷ y ∷ ys) w =
      (after_tick x.tick (x.device w) ≡ y.device (after_tick x.tick (x.device w)).made.windows) × IsStill (suc x.tick) y.tick (y.device w) × Chain (y ∷ ys) w

  -- with any
  abbrev pub Leads : List DueDevice → Type 0
  Leads xs = (w : List WindowLog) → Chain xs w

  goes_on : (x y : DueDevice) (ys : List DueDevice) → Reaches x.tick x.device → Leads (x ∷ y ∷ ys) → (t : ℕ) → suc x.tick ≤ t → t ≤ y.tick → Reaches t y.device
  goes_on x y ys r leads t low high =
      let after : Device = after_tick x.tick (x.device r.windows) in
      let here : after_tick x.tick (after_ticks D clock s v hs r.ticks at_rest) ≡ y.device after.made.windows =
      ap (after_tick x.tick) r.is ∙ (leads r.windows).0 in
      let still : IsStill (suc x.tick) t (y.device after.made.windows) =
      sooner clock D s v hs (suc x.tick) t y.tick (y.device after.made.windows) low high (leads after.made.windows).1 in
      record {
        ticks = r.ticks ++ x.tick ∷ [];
        windows = after.made.windows;
        goes = goes_more r.ticks x.tick t 0 at_rest r.goes (subst (IsStill (suc x.tick) t) (sym here) still);
        is = after_more r.ticks x.tick at_rest ∙ here;
      }

  rest_of : (x : DueDevice) (ys : List DueDevice) (w : List WindowLog) → Chain (x ∷ ys) w → Chain ys w
  rest_of x [] w chain = tt
  rest_of x (y ∷ ys) w chain = chain.2

  -- two parts that have a due tick in common
  joined_with : (n : ℕ) (xs : List DueDevice) (w : List WindowLog) → Chain (take (suc n) xs) w → Chain (drop n xs) w → Chain xs w
  joined_with zero xs w front rest = rest
  joined_with (suc n) [] w front rest = tt
  joined_with (suc n) (x ∷ []) w front rest = tt
  joined_with (suc n) (x ∷ y ∷ ys) w front rest = (front.0, front.1, joined_with n (y ∷ ys) w front.2 rest)

  pub joined : (n : ℕ) (xs : List DueDevice) → Leads (take (suc n) xs) → Leads (drop n xs) → Leads xs
  joined n xs front rest = λ w. joined_with n xs w (front w) (rest w)

  module _ (same : (x : ℕ) → due clock x ≡ D x) where
    shown : (t : ℕ) (device : List WindowLog → Device) → Reaches t device → IsDeviceWithWindows (before_tick s v clock hs t) device
    shown t device r = record { windows = r.windows; is = computed clock D same s v hs t r.ticks r.goes ∙ r.is }

    stands_from : (x : DueDevice) (ys : List DueDevice) → Reaches x.tick x.device → Leads (x ∷ ys) → StandsAs s v clock hs (suc x.tick) ys
    stands_from x [] r leads = tt
    stands_from x (y ∷ ys) r leads =
        let order : suc x.tick ≤ y.tick = in_order clock D s v hs (suc x.tick) y.tick (y.device r.windows) (leads r.windows).1 in (
          λ t low high. shown t y.device (goes_on x y ys r leads t low high),
          stands_from y ys (goes_on x y ys r leads y.tick order (omega arith)) (λ w. rest_of x (y ∷ ys) w (leads w)),
        )

    -- from the beginning, where something happens at once
    pub stands : (x : DueDevice) (ys : List DueDevice) → x.tick ≡ 0 → IsStill 0 0 at_rest → at_rest ≡ x.device [] → Leads (x ∷ ys)
        → StandsAs s v clock hs 0 (x ∷ ys)
    stands x ys zeroth still rests leads =
        let goes : IsStill 0 x.tick at_rest = subst (λ (t : ℕ). IsStill 0 t at_rest) (sym zeroth) still in
        let first : Reaches x.tick x.device = record { ticks = []; windows = []; goes = goes; is = rests } in (
          λ t low high. subst (λ (u : ℕ). IsDeviceWithWindows (before_tick s v clock hs u) x.device) (omega (arith, zeroth, high))
              (shown x.tick x.device first),
          stands_from x ys first leads,
        )
