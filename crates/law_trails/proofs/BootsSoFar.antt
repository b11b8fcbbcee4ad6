-- How often a node has booted by a tick: as often as the lines of the frames that began before it say.
use Rattle.std.proofs.Common.{◌≡◌, ℕ, suc, ◌≤◌, List, [], ◌∷◌, ◌++◌, filter, fold, Bool, true, false, ◌&&◌, ◌==◌, nat_lt, if◌then◌else◌, Some, None, Option}
use Rattle.std.proofs.Common.{inl, inr, refl, sym, ◌∙◌, ap, subst, arith, eq-eqb, mul-le-mul_right}
use Rattle.std.specs.Prelude.{AllPairs}
use Rattle.std.specs.List.{AllByRecursion}
use Rattle.std.proofs.lemmas.Bool.{cond_both, and_parts, ne_eqb, lt-ltb, le-ltb, ltb-false, cases_order}
use Rattle.lwb_base.specs.declared.event.Event.TheVariants.{Heard, Sent}
use Rattle.radio_model.specs.declared.sending.Sending.{Sending}
use Rattle.scenario_text.specs.ScenarioParts.{ScenarioParts}
use Rattle.scenario_text.specs.ScenarioFacts.{IsSoundScenario, turned, turned_by}
use Rattle.scenario_text.specs.declared.script.ScriptLine.{ScriptLine}
use Rattle.scenario_text.proofs.BootsTold.{turned_over, Boots}
use Rattle.scenario_text.proofs.BootsCounted.{never_less}
use Rattle.bus_rules.specs.Cores.{Setup}
use Rattle.air_log.specs.Devices.{Device, event, seen_power}
use Rattle.air_log.specs.ScriptedDevices.{device_after_line}
use Rattle.scenario_text.specs.Setups.{setup_of}
use Rattle.air_log.specs.Trails.{Reception, frame_start, lines_at, device_after_script, ending_at, device_after_reception, device_after_receptions}
use Rattle.air_log.specs.Trails.{device_ended_by, device_after_end, alarmed, tick}
use Rattle.air_log.proofs.KeptPower.{line_power, event_power, alarmed_power, begun_power}
use Rattle.lwb_base.proofs.Elements.{pairs_tail}
use Rattle.law_trails.proofs.DevicesInRange.{kept_all}

-- lines that begin at a tick
abbrev pub starts_at : ScenarioParts → ScriptLine → ℕ
starts_at s l = frame_start s l.frame

abbrev pub earlier : ScenarioParts → ℕ → List ScriptLine → List ScriptLine
earlier s t ls = filter (λ l. nat_lt (starts_at s l) t) ls

abbrev at_tick : ScenarioParts → ℕ → List ScriptLine → List ScriptLine
at_tick s t ls = filter (λ l. starts_at s l == t) ls

module _ (s : ScenarioParts) where
  -- none begins before this tick, nor before the one above it
  abbrev pub Rises : ℕ → List ScriptLine → Type 0
  Rises low [] = Unit {0}
  Rises low (l ∷ ls) = (low ≤ starts_at s l) × Rises (starts_at s l) ls

  rises_after : (x : ScriptLine) (ls : List ScriptLine) → AllPairs (λ (a b : ScriptLine). a.frame ≤ b.frame) (x ∷ ls) → Rises (starts_at s x) ls
  rises_after x [] pairs = tt
  rises_after x (y ∷ ls) pairs =
      let before : x.frame ≤ y.frame = pairs 0 1 x (omega arith) (omega arith) in
      (mul-le-mul_right s.profile.frame before, rises_after y ls (pairs_tail (λ (a b : ScriptLine). a.frame ≤ b.frame) x (y ∷ ls) pairs))

  pub rises : (ls : List ScriptLine) → AllPairs (λ (a b : ScriptLine). a.frame ≤ b.frame) ls → Rises 0 ls
  rises [] pairs = tt
  rises (x ∷ ls) pairs = (omega arith, rises_after x ls pairs)

  pub none_earlier : (t low : ℕ) (ls : List ScriptLine) → t ≤ low → Rises low ls → earlier s t ls ≡ []
  none_earlier t low [] le up = refl
  none_earlier t low (l ∷ ls) le up = rw (le-ltb (starts_at s l) t (omega (arith, up.0))) (none_earlier t (starts_at s l) ls (omega (arith, up.0)) up.1)

  -- one tick more
  one_more : (t low : ℕ) (ls : List ScriptLine) → Rises low ls → earlier s (suc t) ls ≡ earlier s t ls ++ at_tick s t ls
  one_more t low [] up = refl
  one_more t low (l ∷ ls) up =
      let k = starts_at s l in
      let rest = one_more t k ls up.1 in
      elim (cases_order k t) [
        | inl same ↦ (
            let none = none_earlier t k ls (omega (arith, same)) up.1 in
            let before : earlier s t (l ∷ ls) ≡ [] = rw (le-ltb k t (omega (arith, same))) none in
            let now : at_tick s t (l ∷ ls) ≡ l ∷ at_tick s t ls = rw (eq-eqb k t same) refl in
            let both : earlier s (suc t) (l ∷ ls) ≡ l ∷ earlier s (suc t) ls = rw (lt-ltb k (suc t) (omega (arith, same))) refl in
            both ∙ ap (λ (xs : List ScriptLine). l ∷ xs) (rest ∙ ap (λ (xs : List ScriptLine). xs ++ at_tick s t ls) none)
            ∙ sym (ap (λ (xs : List ScriptLine). xs ++ at_tick s t (l ∷ ls)) before ∙ now)
            )
        | inr other ↦
            elim other [
              | inl less ↦ (
                  let before : earlier s t (l ∷ ls) ≡ l ∷ earlier s t ls = rw (lt-ltb k t less) refl in
                  let now : at_tick s t (l ∷ ls) ≡ at_tick s t ls = rw (ne_eqb k t (omega (arith, less))) refl in
                  let both : earlier s (suc t) (l ∷ ls) ≡ l ∷ earlier s (suc t) ls = rw (lt-ltb k (suc t) (omega (arith, less))) refl in
                  both ∙ ap (λ (xs : List ScriptLine). l ∷ xs) rest
                  ∙ sym (ap (λ (xs : List ScriptLine). xs ++ at_tick s t (l ∷ ls)) before ∙ ap (λ (xs : List ScriptLine). l ∷ (earlier s t ls ++ xs)) now)
                  )
              | inr more ↦ (
                  let before : earlier s t (l ∷ ls) ≡ earlier s t ls = rw (le-ltb k t (omega (arith, more))) refl in
                  let now : at_tick s t (l ∷ ls) ≡ at_tick s t ls = rw (ne_eqb k t (omega (arith, more))) refl in
                  let both : earlier s (suc t) (l ∷ ls) ≡ earlier s (suc t) ls = rw (le-ltb k (suc t) (omega (arith, more))) refl in
                  both ∙ rest ∙ sym (ap (λ (xs : List ScriptLine). xs ++ at_tick s t (l ∷ ls)) before ∙ ap (λ (xs : List ScriptLine). earlier s t ls ++ xs) now)
                  )
            ]
      ]

  -- no more than in the whole script
  few_earlier : (v t low : ℕ) (b : Boots) (ls : List ScriptLine) → Rises low ls → (turned v b (earlier s t ls)).1 ≤ (turned v b ls).1
  few_earlier v t low b [] up = omega arith
  few_earlier v t low b (l ∷ ls) up = by_test (few_earlier v t (starts_at s l) (if l.node == v then turned_by l.act b else b) ls up.1)
      (nat_lt (starts_at s l) t) refl
    where
      by_test : (turned v (if l.node == v then turned_by l.act b else b) (earlier s t ls)).1 ≤ (turned v b (l ∷ ls)).1 → (x : Bool)
          → nat_lt (starts_at s l) t ≡ x
          → (turned v b (if x then l ∷ earlier s t ls else earlier s t ls)).1 ≤ (turned v b (l ∷ ls)).1
      by_test rest true is = rest
      by_test rest false is =
          let none = none_earlier t (starts_at s l) ls (ltb-false (starts_at s l) t is) up.1 in
          subst (λ (xs : List ScriptLine). (turned v b xs).1 ≤ (turned v b (l ∷ ls)).1) (sym none) (never_less v b (l ∷ ls))

  -- the lines of one node do it all
  own_lines : (v t : ℕ) (b : Boots) (ls : List ScriptLine)
      → turned v b (filter (λ (l : ScriptLine). (l.node == v) && (starts_at s l == t)) ls) ≡ turned v b (at_tick s t ls)
  own_lines v t b [] = refl
  own_lines v t b (l ∷ ls) = by_tests (l.node == v) (starts_at s l == t) refl (λ c. own_lines v t c ls)
    where
      by_tests : (own now : Bool) → (l.node == v) ≡ own
          → ((c : Boots) → turned v c (filter (λ (x : ScriptLine). (x.node == v) && (starts_at s x == t)) ls) ≡ turned v c (at_tick s t ls))
          → turned v b (if own && now then l ∷ filter (λ (x : ScriptLine). (x.node == v) && (starts_at s x == t)) ls else filter
          (λ (x : ScriptLine). (x.node == v) && (starts_at s x == t)) ls)
          ≡ turned v b (if now then l ∷ at_tick s t ls else at_tick s t ls)
      by_tests true true is rest = rest (if l.node == v then turned_by l.act b else b)
      by_tests true false is rest = rest b
      by_tests false true is rest = rest b ∙ ap (λ (own : Bool). turned v (if own then turned_by l.act b else b) (at_tick s t ls)) (sym is)
      by_tests false false is rest = rest b

-- what events leave
module _ (clock : ℕ → ℕ) (s : Setup) (t : ℕ) where
  lines_power : (ls : List ScriptLine) (d : Device) → AllByRecursion (λ (l : ScriptLine). (l.node == s.id) ≡ true) ls
      → seen_power (fold (device_after_line clock s t) d ls).power ≡ turned s.id (seen_power d.power) ls
  lines_power [] d own = refl
  lines_power (l ∷ ls) d own =
      lines_power ls (device_after_line clock s t d l) own.1
      ∙ ap (λ (b : Boots). turned s.id b ls)
      (line_power clock s t d l ∙ ap (λ (x : Bool). if x then turned_by l.act (seen_power d.power) else seen_power d.power) (sym own.0))

  hearings_power : (hs : List Reception) (d : Device) → seen_power (fold (device_after_reception clock s t) d hs).power ≡ seen_power d.power
  hearings_power [] d = refl
  hearings_power (h ∷ hs) d = hearings_power hs (device_after_reception clock s t d h) ∙ event_power clock s t (Heard h.packet) None d

  end_power : (d : Device) (x : Option Sending) → seen_power (device_ended_by clock s t d x).power ≡ seen_power d.power
  end_power d None = refl
  end_power d (Some x) =
      cond_both (x.end == t) (event clock s t Sent (Some x) (record d { sending = None })) d (λ (e : Device). seen_power e.power ≡ seen_power d.power)
      (λ now. event_power clock s t Sent (Some x) (record d { sending = None }))
      (λ later. refl)

module _ (s : ScenarioParts) (sound : IsSoundScenario s) (v : ℕ) where
  abbrev off : Boots
  off = (false, 0)

  -- power by the script, to this tick
  abbrev pub IsTurned : ℕ → Device → Type 0
  IsTurned t d = seen_power d.power ≡ turned v off (earlier s t s.script)

  own_at : (t : ℕ) (ls : List ScriptLine)
      → AllByRecursion (λ (l : ScriptLine). (l.node == v) ≡ true) (filter (λ (l : ScriptLine). (l.node == v) && (starts_at s l == t)) ls)
  own_at t ls = kept_all (λ (l : ScriptLine). Unit {0}) (λ (l : ScriptLine). (l.node == v) ≡ true)
      (λ (l : ScriptLine). (l.node == v) && (starts_at s l == t)) ls (λ l any both. (and_parts (l.node == v) (starts_at s l == t) both).0) (anything ls)
    where
      anything : (xs : List ScriptLine) → AllByRecursion (λ (l : ScriptLine). Unit {0}) xs
      anything [] = tt
      anything (x ∷ xs) = (tt, anything xs)

  next : (t : ℕ) (d : Device) → IsTurned t d → turned v (seen_power d.power) (lines_at s v t) ≡ turned v off (earlier s (suc t) s.script)
  next t d is =
      own_lines s v t (seen_power d.power) s.script
      ∙ ap (λ (b : Boots). turned v b (at_tick s t s.script)) is
      ∙ sym (turned_over v off (earlier s t s.script) (at_tick s t s.script))
      ∙ sym (ap (turned v off) (one_more s t 0 s.script (rises s s.script sound.script_ascends)))

  -- never above 200
  pub few_turned : (t : ℕ) (d : Device) → IsTurned t d → (turned v (seen_power d.power) (lines_at s v t)).1 ≤ 200
  few_turned t d is =
      let few = few_earlier s v (suc t) 0 off s.script (rises s s.script sound.script_ascends) in
      subst (λ (b : Boots). b.1 ≤ 200) (sym (next t d is)) (omega (arith, few, sound.few_boots v))

  pub tick_turned : (clock : ℕ → ℕ) (hs : List Reception) (t : ℕ) (d : Device) → IsTurned t d → IsTurned (suc t) (tick s v clock hs t d)
  tick_turned clock hs t d is =
      let x = setup_of s v in
      let first = device_after_script s v clock t d in
      let second = device_after_receptions clock x t hs first in
      let third = device_after_end clock x t second in
      begun_power clock x t (alarmed clock x t third) ∙ alarmed_power clock x t third ∙ end_power clock x t second second.sending
      ∙ hearings_power clock x t (ending_at t hs) first
      ∙ lines_power clock x t (lines_at s v t) d (own_at t s.script)
      ∙ next t d is
